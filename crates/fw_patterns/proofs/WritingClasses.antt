-- A class: what is written is read, and what is read is written.
use Rattle.std.proofs.Common.{◌≡◌, ◌⊎◌, ℕ, suc, ◌+◌, ◌==◌, Bool, true, false, ◌||◌, not, if◌then◌else◌, List, [], ◌∷◌, ◌++◌, map, take, None, Result, Ok, Err, refl, sym, ap, subst, arith, ◌∙◌, ⊎_elim, append_assoc}
use Rattle.std.proofs.lemmas.Bool.{and_parts, and_from, and_right, not-true, not_from_false, or_right, true≢false}
use Rattle.std.proofs.lemmas.List.{map-append}
use Rattle.std.specs.List.{before_first, list_all, list_any, position_or_len}
use Rattle.fw_patterns.proofs.WritingMembers.{at_place, all_members, mark-is, member-closes, members-closed, members-read, members-say, no_fault}
use Rattle.fw_patterns.proofs.WritingSigns.{char_of, laid, laid-append, next, past}
use Rattle.fw_patterns.specs.Reading.{as_class, class_at, class_end, class_of, closes, is_plain, marks, members, sign}
use Rattle.fw_patterns.specs.Regexes.{Character, WritesAtom, WritesClass, WritesMembers, begins, by_itself, is_member, mark_if}
use Rattle.fw_patterns.specs.declared.classes.ClassEnd.TheVariants.{Closed, PatternEnd}
use Rattle.fw_patterns.specs.declared.classes.Front.TheVariants.{Nothing}
use Rattle.fw_patterns.specs.declared.fault.PatternFault.{PatternFault}
use Rattle.fw_patterns.specs.declared.fault.PatternFault.TheVariants.{OutOfProfile, Unclosed}
use Rattle.fw_patterns.specs.declared.signs.Sign.{Sign}
use Rattle.fw_patterns.specs.declared.syntax.Atom.{Atom}
use Rattle.fw_patterns.specs.declared.syntax.Atom.TheVariants.{Class}
use Rattle.fw_patterns.specs.declared.syntax.ByteRange.{ByteRange}

if-false : {X : Type 0} (test : Bool) (x y : X) → test ≡ false → (if test then x else y) ≡ y
if-false true x y h = absurd (true≢false h)
if-false false x y h = refl

same-head : {X : Type 0} (x y : X) (xs ys : List X) → x ∷ xs ≡ y ∷ ys → x ≡ y
same-head x y xs ys h = cc

pub same-tail : {X : Type 0} (x y : X) (xs ys : List X) → x ∷ xs ≡ y ∷ ys → xs ≡ ys
same-tail x y xs ys h = cc

not_nil : {X : Type 0} (x : X) (xs : List X) → x ∷ xs ≡ [] → ⊥
not_nil x xs h = cc

not_closed : {P : Type 0} → PatternEnd ≡ Closed → P
not_closed h = cc

-- ---- the first `]`

-- no sign closes a class
abbrev pub no_close : List Sign → Bool
no_close signs = list_all (λ s. not (closes s)) signs

take-step : (n : ℕ) (s : Sign) (more : List Sign) → take (1 + n) (s ∷ more) ≡ s ∷ take n more
take-step n s more = ap (λ (k : ℕ). take k (s ∷ more)) (let e : 1 + n ≡ suc n = omega arith in e)

-- no_close signs in front of a `]` are what stands before the first `]`
pub closed-front : (front back : List Sign) (close : Sign) → no_close front ≡ true → closes close ≡ true
    → before_first closes (front ++ close ∷ back) ≡ front
closed-front [] back close all closed = rw closed refl
closed-front (s ∷ front) back close all closed =
    let both = and_parts (not (closes s)) (no_close front) all in
    rw (not-true (closes s) both.0) (take-step (position_or_len closes (front ++ close ∷ back)) s (front ++ close ∷ back)
    ∙ ap (λ (xs : List Sign). s ∷ xs) (closed-front front back close both.1 closed))

pub closed-any : (front back : List Sign) (close : Sign) → closes close ≡ true → list_any closes (front ++ close ∷ back) ≡ true
closed-any [] back close closed = rw closed refl
closed-any (s ∷ front) back close closed = or_right (closes s) _ (closed-any front back close closed)

-- signs with a `]` are cut at the first
pub record Closing (signs : List Sign) : Type 0 where
  pub front : List Sign
  pub back : List Sign
  pub close : Sign
  pub cut : signs ≡ front ++ close ∷ back
  pub unclosed : no_close front ≡ true
  pub closed : closes close ≡ true

closing-by : (here : Bool) (s : Sign) (more : List Sign) → closes s ≡ here → (list_any closes more ≡ true → Closing more)
    → (here || list_any closes more) ≡ true → Closing (s ∷ more)
closing-by true s more is behind h = record { front = []; back = more; close = s; cut = refl; unclosed = refl; closed = is }
closing-by false s more is behind h =
    let rest = behind h in
    record {
      front = s ∷ rest.front;
      back = rest.back;
      close = rest.close;
      cut = ap (λ (xs : List Sign). s ∷ xs) rest.cut;
      unclosed = and_from _ _ (not_from_false (closes s) is) rest.unclosed;
      closed = rest.closed;
    }

closing : (signs : List Sign) → list_any closes signs ≡ true → Closing signs
closing [] h = absurd (true≢false (sym h))
closing (s ∷ more) h = closing-by (closes s) s more refl (closing more) h

-- ---- a class is passed over up to its `]`

pub marks-past : (front back : List Sign) (close : Sign) → no_close front ≡ true → closes close ≡ true
    → marks true None (front ++ close ∷ back) ≡ marks false None back
unfolding marks
marks-past [] back close all closed = rw closed refl
marks-past (s ∷ front) back close all closed =
    let both = and_parts (not (closes s)) (no_close front) all in
    rw (not-true (closes s) both.0) (marks-past front back close both.1 closed)

-- ---- what is written is read

class_of-read : (bracket : ℕ) (negated : Bool) (first : Sign) (more front : List Sign) → closes first ≡ false
    → list_any closes (first ∷ more) ≡ true → before_first closes (first ∷ more) ≡ front
    → class_of bracket negated None (first ∷ more) ≡ as_class negated (members bracket Closed Nothing front)
class_of-read bracket negated first more front free some is =
    if-false (closes first) (Err (OutOfProfile first.at))
    (as_class negated (members bracket (class_end (list_any closes (first ∷ more)) None) Nothing (before_first closes (first ∷ more)))) free
    ∙ ap (λ (any : Bool). as_class negated (members bracket (class_end any None) Nothing (before_first closes (first ∷ more)))) some
    ∙ ap (λ (xs : List Sign). as_class negated (members bracket Closed Nothing xs)) is

class_at-read : (bracket : ℕ) (first : Sign) (more : List Sign) → is_plain 94 first ≡ false
    → class_at bracket None (first ∷ more) ≡ class_of bracket false None (first ∷ more)
class_at-read bracket first more free =
    if-false (is_plain 94 first) (class_of bracket true None more) (class_of bracket false None (first ∷ more)) free

-- members begin with one
pub record Begins (own : List Character) : Type 0 where
  pub first : Character
  pub more : List Character
  pub cut : own ≡ first ∷ more

members-begin : (first : Bool) (r : ByteRange) (more : List ByteRange) (own : List Character) → WritesMembers first (r ∷ more) own → Begins own
members-begin first r more own w = ⊎_elim
    (λ one. record { first = one.byte; more = w.1; cut = w.2 ∙ ap (λ (xs : List Character). xs ++ w.1) one.text })
    (λ two.
    record { first = two.from; more = by_itself 45 ∷ two.to ∷ w.1; cut = w.2 ∙ ap (λ (xs : List Character). xs ++ w.1) two.text })
    w.3

open-laid : (at : ℕ) (own : List Character) → list_all is_member own ≡ true → no_close (laid at own) ≡ true
open-laid at [] all = refl
open-laid at (c ∷ more) all =
    let both = and_parts (is_member c) (list_all is_member more) all in
    and_from _ _ (not_from_false (closes (at_place at c)) (member-closes at c both.0)) (open-laid (next at c) more both.1)

-- what is read of members and the `]` behind them
members-class : (bracket : ℕ) (negated : Bool) (r : ByteRange) (more : List ByteRange) (own : List Character) (at : ℕ) (back : List Sign)
    (close : Sign) → closes close ≡ true → WritesMembers true (r ∷ more) own
    → class_of bracket negated None (laid at own ++ close ∷ back) ≡ Ok (Class negated (r ∷ more))
members-class bracket negated r more own at back close closed w =
    let b = members-begin true r more own w in
    let all = all_members true (r ∷ more) own w in
    let shut = open-laid at own all in
    let free : closes (at_place at b.first) ≡ false = member-closes at b.first ((and_parts (is_member b.first) (list_all is_member b.more) (rw b.cut at all)).0) in
    let any = closed-any (laid at own) back close closed in
    let before = closed-front (laid at own) back close shut closed in
    let read = members-read bracket r more own at w in
    let F : List Character → Type 0 = λ xs. class_of bracket negated None (laid at xs ++ close ∷ back) ≡ as_class negated (members bracket Closed Nothing (laid at own)) in
    let G : List Character → Type 0 = λ xs. list_any closes (laid at xs ++ close ∷ back) ≡ true in
    let H : List Character → Type 0 = λ xs. before_first closes (laid at xs ++ close ∷ back) ≡ laid at own in
    subst F (sym b.cut) (class_of-read bracket negated (at_place at b.first) (laid (next at b.first) b.more ++ close ∷ back) (laid at own) free
    (subst G b.cut any) (subst H b.cut before))
    ∙ ap (as_class negated) read

-- where a class is read, and what is read behind it
pub record ClassRead (bracket at : ℕ) (atom : Atom) (inner rest : List Character) : Type 0 where
  pub after : ℕ
  pub read : class_at bracket None (laid at (inner ++ rest)) ≡ Ok atom
  pub behind : marks true None (laid at (inner ++ rest)) ≡ marks false None (laid after rest)

abbrev inside : Bool → List Character → List Character → List Character
inside negated members rest = mark_if negated 94 ++ (members ++ by_itself 93 ∷ rest)

inner-assoc : (negated : Bool) (members rest : List Character) → (mark_if negated 94 ++ (members ++ by_itself 93 ∷ [])) ++ rest ≡ inside negated members rest
inner-assoc negated members rest =
    append_assoc (mark_if negated 94) (members ++ by_itself 93 ∷ []) rest
    ∙ ap (λ (xs : List Character). mark_if negated 94 ++ xs) (append_assoc members (by_itself 93 ∷ []) rest)

-- the `]` behind members
abbrev shut_sign : ℕ → List Character → Sign
shut_sign at members = sign (past at members) false 93

class-inside : (negated : Bool) (bracket at : ℕ) (r : ByteRange) (more : List ByteRange) (members rest : List Character)
    → WritesMembers true (r ∷ more) members → (negated ≡ false → begins 94 members ≡ false)
    → (after : ℕ) × (class_at bracket None (laid at (inside negated members rest)) ≡ Ok (Class negated (r ∷ more)))
    × (marks true None (laid at (inside negated members rest)) ≡ marks false None (laid after rest))
unfolding marks
class-inside true bracket at r more members rest w plain =
    let all = open-laid (at + 1) members (all_members true (r ∷ more) members w) in
    let split = laid-append (at + 1) members (by_itself 93 ∷ rest) in
    let close = shut_sign (at + 1) members in
    let back = laid (past (at + 1) members + 1) rest in (
      past (at + 1) members + 1,
      rw split (members-class bracket true r more members (at + 1) back close refl w),
      rw split (marks-past (laid (at + 1) members) back close all refl),
    )
class-inside false bracket at r more members rest w plain =
    let b = members-begin true r more members w in
    let all = open-laid at members (all_members true (r ∷ more) members w) in
    let split = laid-append at members (by_itself 93 ∷ rest) in
    let close = shut_sign at members in
    let back = laid (past at members + 1) rest in
    let free : is_plain 94 (at_place at b.first) ≡ false = let P : List Character → Type 0 = λ xs. begins 94 xs ≡ false in subst P b.cut (plain refl) in
    let A : List Character → Type 0 = λ xs. class_at bracket None (laid at xs ++ close ∷ back) ≡ class_of bracket false None (laid at xs ++ close ∷ back) in (
      past at members + 1,
      rw split (subst A (sym b.cut) (class_at-read bracket (at_place at b.first) (laid (next at b.first) b.more ++ close ∷ back) free)
          ∙ members-class bracket false r more members at back close refl w),
      rw split (marks-past (laid at members) back close all refl),
    )

-- a class in front of characters is read
pub class-read : (negated : Bool) (ranges : List ByteRange) (own : List Character) (w : WritesClass negated ranges own) (bracket at : ℕ) (rest : List Character)
    → ClassRead bracket at (Class negated ranges) (mark_if negated 94 ++ (w.members ++ by_itself 93 ∷ [])) rest
class-read negated [] own w bracket at rest = absurd (w.some refl)
class-read negated (r ∷ more) own w bracket at rest =
    let i = class-inside negated bracket at r more w.members rest w.each w.plain in
    let text = sym (inner-assoc negated w.members rest) in
    let P : List Character → Type 0 = λ xs. class_at bracket None (laid at xs) ≡ Ok (Class negated (r ∷ more)) in
    let Q : List Character → Type 0 = λ xs. marks true None (laid at xs) ≡ marks false None (laid i.0 rest) in
    record { after = i.0; read = subst P text i.1; behind = subst Q text i.2 }

-- ---- what is read is written

-- members up to a `]` are a class, but for a `^` in front
record Inside (negated : Bool) (signs : List Sign) (atom : Atom) : Type 0 where
  cut : Closing signs
  ranges : List ByteRange
  is : atom ≡ Class negated ranges
  each : WritesMembers true ranges (map char_of cut.front)
  some : ranges ≡ [] → ⊥

as_class-ok : (negated : Bool) (read : Result (List ByteRange) PatternFault) (atom : Atom) → as_class negated read ≡ Ok atom
    → (ranges : List ByteRange) × (read ≡ Ok ranges) × (atom ≡ Class negated ranges)
as_class-ok negated (Ok ranges) atom h = (ranges, refl, cc)
as_class-ok negated (Err fault) atom h = no_fault fault atom h

no_members : (first : Sign) (more front back : List Sign) (close : Sign) (ranges : List ByteRange) → closes first ≡ false
    → first ∷ more ≡ front ++ close ∷ back → closes close ≡ true → WritesMembers true ranges (map char_of front) → ranges ≡ [] → ⊥
no_members first more [] back close ranges free cut closed w none =
    true≢false (sym closed ∙ ap closes (sym (same-head first close more back cut)) ∙ free)
no_members first more (s ∷ front) back close ranges free cut closed w none =
    let P : List ByteRange → Type 0 = λ rs. WritesMembers true rs (map char_of (s ∷ front)) in
    not_nil (char_of s) (map char_of front) (subst P none w)

inside-by : (bracket : ℕ) (negated : Bool) (first : Sign) (more : List Sign) (atom : Atom) (shut any : Bool) → closes first ≡ shut
    → list_any closes (first ∷ more) ≡ any
    → (if shut then Err (OutOfProfile first.at) else as_class negated (members bracket (class_end any None) Nothing (before_first closes (first ∷ more)))) ≡ Ok atom
    → Inside negated (first ∷ more) atom
inside-by bracket negated first more atom true any shut_is any_is h = no_fault (OutOfProfile first.at) atom h
inside-by bracket negated first more atom false false shut_is any_is h =
    let read = as_class-ok negated (members bracket PatternEnd Nothing (before_first closes (first ∷ more))) atom h in
    not_closed (members-closed bracket PatternEnd (before_first closes (first ∷ more)) Nothing read.0 read.1)
inside-by bracket negated first more atom false true shut_is any_is h =
    let read = as_class-ok negated (members bracket Closed Nothing (before_first closes (first ∷ more))) atom h in
    let c = closing (first ∷ more) any_is in
    let front : before_first closes (first ∷ more) ≡ c.front = ap (before_first closes) c.cut ∙ closed-front c.front c.back c.close c.unclosed c.closed in
    let P : List Sign → Type 0 = λ xs. members bracket Closed Nothing xs ≡ Ok read.0 in
    let each : WritesMembers true read.0 (map char_of c.front) = members-say bracket c.front Nothing read.0 c.unclosed (subst P front read.1) in
    record {
      cut = c;
      ranges = read.0;
      is = read.2;
      each = each;
      some = no_members first more c.front c.back c.close read.0 shut_is c.cut c.closed each;
    }

inside-of : (bracket : ℕ) (negated : Bool) (signs : List Sign) (atom : Atom) → class_of bracket negated None signs ≡ Ok atom → Inside negated signs atom
unfolding members
inside-of bracket negated [] atom h = no_fault (Unclosed bracket) atom h
inside-of bracket negated (first ∷ more) atom h = inside-by bracket negated first more atom (closes first) (list_any closes (first ∷ more)) refl refl h

-- signs up to a `]` are written for a class
pub record ClassSigns (signs : List Sign) (atom : Atom) : Type 0 where
  pub cut : Closing signs
  pub written : WritesAtom atom (by_itself 91 ∷ map char_of (cut.front ++ cut.close ∷ []))

class-text : (front : List Sign) (close : Sign) → closes close ≡ true → map char_of (front ++ close ∷ []) ≡ map char_of front ++ by_itself 93 ∷ []
class-text front close closed =
    map-append char_of front (close ∷ [])
    ∙ ap (λ (c : Character). map char_of front ++ c ∷ []) (mark-is 93 (char_of close) closed).0

caret-open : (first : Sign) → is_plain 94 first ≡ true → closes first ≡ false
caret-open first caret = and_right (not first.escaped) (first.byte == 93) (rw (mark-is 94 (char_of first) caret).1 refl)

first-begins : (first : Sign) (more front back : List Sign) (close : Sign) → first ∷ more ≡ front ++ close ∷ back → is_plain 94 first ≡ false
    → begins 94 (map char_of front) ≡ false
first-begins first more [] back close cut free = refl
first-begins first more (s ∷ front) back close cut free =
    let P : Sign → Type 0 = λ x. is_plain 94 x ≡ false in
    subst P (same-head first s more (front ++ close ∷ back) cut) free

class-by : (bracket : ℕ) (first : Sign) (more : List Sign) (atom : Atom) (caret : Bool) → is_plain 94 first ≡ caret
    → (if caret then class_of bracket true None more else class_of bracket false None (first ∷ more)) ≡ Ok atom → ClassSigns (first ∷ more) atom
class-by bracket first more atom true caret_is h =
    let i = inside-of bracket true more atom h in
    let c = i.cut in
    let whole : Closing (first ∷ more) = record {
      front = first ∷ c.front;
      back = c.back;
      close = c.close;
      cut = ap (λ (xs : List Sign). first ∷ xs) c.cut;
      unclosed = and_from _ _ (not_from_false (closes first) (caret-open first caret_is)) c.unclosed;
      closed = c.closed;
    } in
    let own = by_itself 91 ∷ char_of first ∷ map char_of (c.front ++ c.close ∷ []) in
    let text : char_of first ∷ map char_of (c.front ++ c.close ∷ []) ≡ by_itself 94 ∷ (map char_of c.front ++ by_itself 93 ∷ []) =
    ap (λ (d : Character). d ∷ map char_of (c.front ++ c.close ∷ [])) (mark-is 94 (char_of first) caret_is).0
    ∙ ap (λ (xs : List Character). by_itself 94 ∷ xs) (class-text c.front c.close c.closed) in
    let class : WritesClass true i.ranges own = record {
      members = map char_of c.front;
      text = ap (λ (xs : List Character). by_itself 91 ∷ xs) text;
      each = i.each;
      some = i.some;
      plain = λ h. absurd (true≢false h);
    } in
    let P : Atom → Type 0 = λ a. WritesAtom a own in
    record { cut = whole; written = subst P (sym i.is) class }
class-by bracket first more atom false caret_is h =
    let i = inside-of bracket false (first ∷ more) atom h in
    let c = i.cut in
    let own = by_itself 91 ∷ map char_of (c.front ++ c.close ∷ []) in
    let class : WritesClass false i.ranges own = record {
      members = map char_of c.front;
      text = ap (λ (xs : List Character). by_itself 91 ∷ xs) (class-text c.front c.close c.closed);
      each = i.each;
      some = i.some;
      plain = λ h. first-begins first more c.front c.back c.close c.cut caret_is;
    } in
    let P : Atom → Type 0 = λ a. WritesAtom a own in
    record { cut = c; written = subst P (sym i.is) class }

pub class-written : (bracket : ℕ) (signs : List Sign) (atom : Atom) → class_at bracket None signs ≡ Ok atom → ClassSigns signs atom
unfolding members
class-written bracket [] atom h = no_fault (Unclosed bracket) atom h
class-written bracket (first ∷ more) atom h = class-by bracket first more atom (is_plain 94 first) refl h
