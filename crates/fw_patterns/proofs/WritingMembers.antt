-- The members of a class: what is written is read, and what is read is written.
use Rattle.std.proofs.Common.{◌≡◌, ◌⊎◌, ℕ, ◌+◌, ◌≤◌, ◌==◌, Bool, true, false, ◌&&◌, ◌||◌, not, if◌then◌else◌, List, [], ◌∷◌, ◌++◌, map, Result, Ok, Err, refl, sym, ap, subst, ◌∙◌, inl, inr, ⊎_elim}
use Rattle.std.proofs.lemmas.Bool.{and_parts, and_from, eqb-true, ltb-false, le-ltb, not-true, or_right, true≢false}
use Rattle.std.specs.List.{list_all}
use Rattle.std.specs.Prelude.{nat_lt}
use Rattle.fw_patterns.proofs.WritingSigns.{char_of, character, laid, next}
use Rattle.fw_patterns.specs.Reading.{closes, is_dash, last_ranges, member_step, member_then, members, opens, range, sign, single, with_range}
use Rattle.fw_patterns.specs.Regexes.{Character, WritesByte, WritesMembers, WritesRange, by_itself, is_last, is_mark, is_member}
use Rattle.fw_patterns.specs.declared.classes.ClassEnd.{ClassEnd}
use Rattle.fw_patterns.specs.declared.classes.ClassEnd.TheVariants.{Closed, PatternEnd, Fault}
use Rattle.fw_patterns.specs.declared.classes.Front.{Front}
use Rattle.fw_patterns.specs.declared.classes.Front.TheVariants.{Nothing, Member, Dash, Ranged, LastDash}
use Rattle.fw_patterns.specs.declared.classes.MemberStep.{MemberStep}
use Rattle.fw_patterns.specs.declared.classes.MemberStep.TheVariants.{Wait, Add, NoMember}
use Rattle.fw_patterns.specs.declared.fault.PatternFault.{PatternFault}
use Rattle.fw_patterns.specs.declared.fault.PatternFault.TheVariants.{OutOfProfile, BadRange, Unclosed}
use Rattle.fw_patterns.specs.declared.signs.Sign.{Sign}
use Rattle.fw_patterns.specs.declared.syntax.ByteRange.{ByteRange}

-- ---- brackets and dashes

-- the sign of a character at a place
abbrev pub at_place : ℕ → Character → Sign
at_place at c = sign at c.escaped c.byte

no_bracket : (escaped left right : Bool) → (escaped || not (left || right)) ≡ true
    → ((not escaped && left) ≡ false) × ((not escaped && right) ≡ false)
no_bracket true left right h = (refl, refl)
no_bracket false true right h = absurd (true≢false (sym h))
no_bracket false false true h = absurd (true≢false (sym h))
no_bracket false false false h = (refl, refl)

pub member-opens : (at : ℕ) (c : Character) → is_member c ≡ true → opens (at_place at c) ≡ false
member-opens at c h = (no_bracket c.escaped (c.byte == 91) (c.byte == 93) h).0

pub member-closes : (at : ℕ) (c : Character) → is_member c ≡ true → closes (at_place at c) ≡ false
member-closes at c h = (no_bracket c.escaped (c.byte == 91) (c.byte == 93) h).1

bracket_free : (escaped left right : Bool) → (not escaped && left) ≡ false → (not escaped && right) ≡ false
    → (escaped || not (left || right)) ≡ true
bracket_free true left right l r = refl
bracket_free false true right l r = absurd (true≢false l)
bracket_free false false true l r = absurd (true≢false r)
bracket_free false false false l r = refl

pub member-from_sign : (s : Sign) → opens s ≡ false → closes s ≡ false → is_member (char_of s) ≡ true
member-from_sign s o c = bracket_free s.escaped (s.byte == 91) (s.byte == 93) o c

mark-by : (escaped : Bool) (byte mark : ℕ) → (not escaped && byte == mark) ≡ true
    → (character escaped byte ≡ by_itself mark) × (byte ≡ mark)
mark-by true byte mark h = absurd (true≢false (sym h))
mark-by false byte mark h = (ap by_itself (eqb-true byte mark h), eqb-true byte mark h)

-- a sign that is this byte by itself
pub mark-is : (mark : ℕ) (c : Character) → is_mark mark c ≡ true → (c ≡ by_itself mark) × (c.byte ≡ mark)
mark-is mark c h = mark-by c.escaped c.byte mark h

abbrev ok : List ByteRange → Result (List ByteRange) PatternFault
ok ranges = Ok ranges

ok-same : (xs ys : List ByteRange) → ok xs ≡ ok ys → ys ≡ xs
ok-same xs ys h = cc

pub no_fault : {X : Type 0} {P : Type 0} (fault : PatternFault) (x : X) → Err fault ≡ Ok x → P
no_fault fault x h = cc

-- ---- what is written is read

-- what is read behind a member, and behind a range
record Reads (bracket : ℕ) (ranges : List ByteRange) : Type 0 where
  behind_member : (own : List Character) (at place low : ℕ) → WritesMembers false ranges own
      → members bracket Closed (Member place low) (laid at own) ≡ ok (single low ∷ ranges)
  behind_range : (own : List Character) (at : ℕ) → WritesMembers false ranges own
      → members bracket Closed Ranged (laid at own) ≡ ok ranges

-- a first member is entered: it is the last `-`, or what stands behind it is read with it
record Entered (bracket : ℕ) (first : Bool) (ranges : List ByteRange) (own : List Character) : Type 0 where
  head : Character
  tail : List Character
  cut : own ≡ head ∷ tail
  member : is_member head ≡ true
  goes : ((first ≡ false) × (is_mark 45 head ≡ true) × (tail ≡ []) × (ranges ≡ single 45 ∷ []))
      ⊎ ((is_mark 45 head ≡ true → first ≡ true)
      × ((at place : ℕ) → members bracket Closed (Member place head.byte) (laid at tail) ≡ ok ranges))

module _ (bracket : ℕ) where
  -- the range from a member, through `-`, to another
  range-read : (to : Character) (rest : List Character) (at place low : ℕ) → is_member to ≡ true → low ≤ to.byte
      → members bracket Closed (Member place low) (laid at (by_itself 45 ∷ to ∷ rest))
      ≡ with_range (range low to.byte) (members bracket Closed Ranged (laid (next (at + 1) to) rest))
  unfolding members
  range-read to rest at place low good rises =
      rw (member-opens (at + 1) to good, le-ltb to.byte low rises) refl

  -- a member alone that isn't the last `-`
  entered-byte : (first : Bool) (r : ByteRange) (more : List ByteRange) (own member rest : List Character) → own ≡ member ++ rest
      → (one : WritesByte (first || is_last more) r member) → (is_mark 45 one.byte ≡ true → first ≡ true)
      → WritesMembers false more rest → Reads bracket more → Entered bracket first (r ∷ more) own
  entered-byte first r more own member rest cut one free behind reads =
      record {
        head = one.byte;
        tail = rest;
        cut = cut ∙ ap (λ (xs : List Character). xs ++ rest) one.text;
        member = one.member;
        goes = inr (
          free,
          λ at place. reads.behind_member rest at place one.byte.byte behind ∙ ap (λ (q : ByteRange). ok (q ∷ more)) (sym one.is),
        );
      }

  -- the last `-`
  entered-dash : (more : List ByteRange) (r : ByteRange) (own member rest : List Character) → own ≡ member ++ rest
      → (one : WritesByte (is_last more) r member) → is_mark 45 one.byte ≡ true → WritesMembers false more rest
      → Entered bracket false (r ∷ more) own
  entered-dash [] r own member rest cut one dash behind =
      record {
        head = one.byte;
        tail = rest;
        cut = cut ∙ ap (λ (xs : List Character). xs ++ rest) one.text;
        member = one.member;
        goes = inl (refl, dash, behind, ap (λ (q : ByteRange). q ∷ []) (one.is ∙ ap single (mark-is 45 one.byte dash).1));
      }
  entered-dash (q ∷ more) r own member rest cut one dash behind = absurd (true≢false (sym (one.dashes dash)))

  entered-by : (first : Bool) (r : ByteRange) (more : List ByteRange) (own member rest : List Character) → own ≡ member ++ rest
      → (one : WritesByte (first || is_last more) r member) → (dash : Bool) → is_mark 45 one.byte ≡ dash
      → WritesMembers false more rest → Reads bracket more → Entered bracket first (r ∷ more) own
  entered-by true r more own member rest cut one dash is behind reads =
      entered-byte true r more own member rest cut one (λ d. refl) behind reads
  entered-by false r more own member rest cut one true is behind reads = entered-dash more r own member rest cut one is behind
  entered-by false r more own member rest cut one false is behind reads =
      entered-byte false r more own member rest cut one (λ d. absurd (true≢false (sym d ∙ is))) behind reads

  entered-range : (first : Bool) (r : ByteRange) (more : List ByteRange) (own member rest : List Character) → own ≡ member ++ rest
      → WritesRange first r member → WritesMembers false more rest → Reads bracket more → Entered bracket first (r ∷ more) own
  entered-range first r more own member rest cut two behind reads =
      let both = and_parts (is_member two.from) (is_member two.to) two.members in
      record {
        head = two.from;
        tail = by_itself 45 ∷ two.to ∷ rest;
        cut = cut ∙ ap (λ (xs : List Character). xs ++ rest) two.text;
        member = both.0;
        goes = inr (
          two.dashes,
          λ at place. range-read two.to rest at place two.from.byte both.1 two.rises
              ∙ ap (with_range (range two.from.byte two.to.byte)) (reads.behind_range rest (next (at + 1) two.to) behind)
              ∙ ap (λ (q : ByteRange). ok (q ∷ more)) (sym two.is),
        );
      }

  entered : (first : Bool) (r : ByteRange) (more : List ByteRange) (own : List Character) → WritesMembers first (r ∷ more) own
      → Reads bracket more → Entered bracket first (r ∷ more) own
  entered first r more own w reads = ⊎_elim
      (λ one. entered-by first r more own w.0 w.1 w.2 one (is_mark 45 one.byte) refl w.4 reads)
      (λ two. entered-range first r more own w.0 w.1 w.2 two w.4 reads)
      w.3

  -- one member more, by what is in front
  member-behind_member : (c : Character) (rest : List Character) (at place low : ℕ) → is_member c ≡ true → is_mark 45 c ≡ false
      → members bracket Closed (Member place low) (laid at (c ∷ rest))
      ≡ with_range (single low) (members bracket Closed (Member at c.byte) (laid (next at c) rest))
  unfolding members
  member-behind_member c rest at place low good free = rw (member-opens at c good, free) refl

  member-behind_range : (c : Character) (rest : List Character) (at : ℕ) → is_member c ≡ true → is_mark 45 c ≡ false
      → members bracket Closed Ranged (laid at (c ∷ rest)) ≡ members bracket Closed (Member at c.byte) (laid (next at c) rest)
  unfolding members
  member-behind_range c rest at good free = rw (member-opens at c good, free) refl

  member-first : (c : Character) (rest : List Character) (at : ℕ) → is_member c ≡ true
      → members bracket Closed Nothing (laid at (c ∷ rest)) ≡ members bracket Closed (Member at c.byte) (laid (next at c) rest)
  unfolding members
  member-first c rest at good = rw (member-opens at c good) refl

  dash-behind_member : (c : Character) (at place low : ℕ) → is_member c ≡ true → is_mark 45 c ≡ true
      → members bracket Closed (Member place low) (laid at (c ∷ [])) ≡ Ok (single low ∷ single 45 ∷ [])
  unfolding members
  dash-behind_member c at place low good dash = rw (member-opens at c good, dash) refl

  dash-behind_range : (c : Character) (at : ℕ) → is_member c ≡ true → is_mark 45 c ≡ true
      → members bracket Closed Ranged (laid at (c ∷ [])) ≡ Ok (single 45 ∷ [])
  unfolding members
  dash-behind_range c at good dash = rw (member-opens at c good, dash) refl

  no_dash : (dash : Bool) → (dash ≡ true → false ≡ true) → dash ≡ false
  no_dash true h = absurd (true≢false (sym (h refl)))
  no_dash false h = refl

  reads-more : (ranges : List ByteRange) → ((own : List Character) → WritesMembers false ranges own → Entered bracket false ranges own) → Reads bracket ranges
  reads-more ranges enters = record {
    behind_member = λ own at place low w.
        let e = enters own w in
        rw e.cut (⊎_elim
        (λ last. rw (last.2, last.3) (dash-behind_member e.head at place low e.member last.1))
        (λ goes. member-behind_member e.head e.tail at place low e.member (no_dash (is_mark 45 e.head) goes.0)
        ∙ ap (with_range (single low)) (goes.1 (next at e.head) at))
        e.goes);
    behind_range = λ own at w.
        let e = enters own w in
        rw e.cut (⊎_elim
        (λ last. rw (last.2, last.3) (dash-behind_range e.head at e.member last.1))
        (λ goes. member-behind_range e.head e.tail at e.member (no_dash (is_mark 45 e.head) goes.0) ∙ goes.1 (next at e.head) at)
        e.goes);
  }

  reads : (ranges : List ByteRange) → Reads bracket ranges
  unfolding members
  reads [] = record {
    behind_member = λ own at place low w. rw w refl;
    behind_range = λ own at w. rw w refl;
  }
  reads (r ∷ more) = let behind = reads more in reads-more (r ∷ more) (λ own w. entered false r more own w behind)

  -- what is read of a class's members
  pub members-read : (r : ByteRange) (more : List ByteRange) (own : List Character) (at : ℕ) → WritesMembers true (r ∷ more) own
      → members bracket Closed Nothing (laid at own) ≡ Ok (r ∷ more)
  members-read r more own at w =
      let e = entered true r more own w (reads more) in
      rw e.cut (⊎_elim
      (λ last. absurd (true≢false last.0))
      (λ goes. member-first e.head e.tail at e.member ∙ goes.1 (next at e.head) at)
      e.goes)

-- all members are members
pub all_members : (first : Bool) (ranges : List ByteRange) (own : List Character) → WritesMembers first ranges own → list_all is_member own ≡ true
all_members first [] own w = rw w refl
all_members first (r ∷ more) own w =
    let rest = all_members false more w.1 w.4 in
    rw w.2 (⊎_elim
    (λ one. rw one.text (and_from _ _ one.member rest))
    (λ two.
    let both = and_parts (is_member two.from) (is_member two.to) two.members in
    rw two.text (and_from _ _ both.0 (and_from _ _ both.1 rest)))
    w.3)

-- ---- what is read is written

-- what characters are written behind what is in front of them
abbrev Says : Front → List ByteRange → List Character → Type 0
Says Nothing ranges own = WritesMembers true ranges own
Says (Member place low) ranges own =
    (first : Bool) (c : Character) → is_member c ≡ true → (is_mark 45 c ≡ true → first ≡ true) → c.byte ≡ low → WritesMembers first ranges (c ∷ own)
Says (Dash place low) ranges own =
    (first : Bool) (c : Character) → is_member c ≡ true → (is_mark 45 c ≡ true → first ≡ true) → c.byte ≡ low
    → WritesMembers first ranges (c ∷ by_itself 45 ∷ own)
Says Ranged ranges own = WritesMembers false ranges own
Says (LastDash place) ranges own = WritesMembers false ranges (by_itself 45 ∷ own)

-- a member alone in front of others
written-byte : (first : Bool) (c : Character) (r : ByteRange) (more : List ByteRange) (rest : List Character) → is_member c ≡ true
    → (is_mark 45 c ≡ true → (first || is_last more) ≡ true) → r ≡ single c.byte → WritesMembers false more rest
    → WritesMembers first (r ∷ more) (c ∷ rest)
written-byte first c r more rest good dash is behind =
    (c ∷ [], rest, refl, inl (record { byte = c; text = refl; member = good; dashes = dash; is = is }), behind)

-- a `-` that is the last
written-dash : (first : Bool) → WritesMembers first (single 45 ∷ []) (by_itself 45 ∷ [])
written-dash first = written-byte first (by_itself 45) (single 45) [] [] refl (λ d. or_right first true refl) refl refl

-- a range in front of others
written-range : (first : Bool) (c to : Character) (low : ℕ) (more : List ByteRange) (rest : List Character) → is_member c ≡ true → is_member to ≡ true
    → (is_mark 45 c ≡ true → first ≡ true) → c.byte ≡ low → low ≤ to.byte → WritesMembers false more rest
    → WritesMembers first (range low to.byte ∷ more) (c ∷ by_itself 45 ∷ to ∷ rest)
written-range first c to low more rest good last dash is rises behind = (
  c ∷ by_itself 45 ∷ to ∷ [],
  rest,
  refl,
  inr (record {
    from = c;
    to = to;
    text = refl;
    members = and_from _ _ good last;
    dashes = dash;
    rises = rw is rises;
    is = ap (λ (n : ℕ). range n to.byte) (sym is);
  }),
  behind,
)

-- a range in front was read with what is behind it
with_range-ok : (r : ByteRange) (behind : Result (List ByteRange) PatternFault) (ranges : List ByteRange) → with_range r behind ≡ Ok ranges
    → (more : List ByteRange) × (ranges ≡ r ∷ more) × (behind ≡ Ok more)
with_range-ok r (Ok more) ranges h = (more, cc, refl)
with_range-ok r (Err fault) ranges h = no_fault fault ranges h

last-says : (bracket : ℕ) (front : Front) (ranges : List ByteRange) → last_ranges bracket Closed front ≡ Ok ranges → Says front ranges []
last-says bracket Nothing ranges h = rw (ok-same [] ranges h) refl
last-says bracket (Member place low) ranges h = λ first c good dash is.
    let P : List ByteRange → Type 0 = λ rs. WritesMembers first rs (c ∷ []) in
    subst P (sym (ok-same (single low ∷ []) ranges h))
    (written-byte first c (single low) [] [] good (λ d. or_right first true refl) (ap single (sym is)) refl)
last-says bracket (Dash place low) ranges h = λ first c good dash is.
    let P : List ByteRange → Type 0 = λ rs. WritesMembers first rs (c ∷ by_itself 45 ∷ []) in
    subst P (sym (ok-same (single low ∷ single 45 ∷ []) ranges h))
    (written-byte first c (single low) (single 45 ∷ []) (by_itself 45 ∷ []) good (λ d. rw (dash d) refl) (ap single (sym is)) (written-dash false))
last-says bracket Ranged ranges h = rw (ok-same [] ranges h) refl
last-says bracket (LastDash place) ranges h =
    let P : List ByteRange → Type 0 = λ rs. WritesMembers false rs (by_itself 45 ∷ []) in
    subst P (sym (ok-same (single 45 ∷ []) ranges h)) (written-dash false)

module _ (bracket : ℕ) (s : Sign) (more : List Sign) (closed : closes s ≡ false) (behind : (front : Front) (ranges : List ByteRange) → members bracket Closed front more ≡ Ok ranges → Says front ranges (map char_of more)) where
  abbrev reads_on : Front → Result (List ByteRange) PatternFault
  reads_on next = members bracket Closed next more

  says-first : (opened : Bool) (ranges : List ByteRange) → opens s ≡ opened
      → member_then (if opened then NoMember (OutOfProfile s.at) else Wait (Member s.at s.byte)) reads_on ≡ Ok ranges
      → WritesMembers true ranges (char_of s ∷ map char_of more)
  says-first true ranges open_is h = no_fault (OutOfProfile s.at) ranges h
  says-first false ranges open_is h =
      behind (Member s.at s.byte) ranges h true (char_of s) (member-from_sign s open_is closed) (λ d. refl) refl

  says-behind_member : (opened dash : Bool) (place low : ℕ) (ranges : List ByteRange) → opens s ≡ opened → is_dash s ≡ dash
      → member_then (if opened then NoMember (OutOfProfile s.at) else if dash then Wait (Dash place low) else Add (single low) (Member s.at s.byte)) reads_on ≡ Ok ranges
      → Says (Member place low) ranges (char_of s ∷ map char_of more)
  says-behind_member true dash place low ranges open_is dash_is h first c good free is = no_fault (OutOfProfile s.at) ranges h
  says-behind_member false true place low ranges open_is dash_is h first c good free is =
      let P : Character → Type 0 = λ d. WritesMembers first ranges (c ∷ d ∷ map char_of more) in
      subst P (sym (mark-is 45 (char_of s) dash_is).0) (behind (Dash place low) ranges h first c good free is)
  says-behind_member false false place low ranges open_is dash_is h first c good free is =
      let read = with_range-ok (single low) (reads_on (Member s.at s.byte)) ranges h in
      rw read.1 (written-byte first c (single low) read.0 (char_of s ∷ map char_of more) good (λ d. rw (free d) refl) (ap single (sym is))
      (behind (Member s.at s.byte) read.0 read.2 false (char_of s) (member-from_sign s open_is closed) (λ d. absurd (true≢false (sym d ∙ dash_is))) refl))

  says-behind_dash : (opened falls : Bool) (place low : ℕ) (ranges : List ByteRange) → opens s ≡ opened → nat_lt s.byte low ≡ falls
      → member_then (if opened then NoMember (OutOfProfile s.at) else if falls then NoMember (BadRange place) else Add (range low s.byte) Ranged) reads_on ≡ Ok ranges
      → Says (Dash place low) ranges (char_of s ∷ map char_of more)
  says-behind_dash true falls place low ranges open_is falls_is h first c good free is = no_fault (OutOfProfile s.at) ranges h
  says-behind_dash false true place low ranges open_is falls_is h first c good free is = no_fault (BadRange place) ranges h
  says-behind_dash false false place low ranges open_is falls_is h first c good free is =
      let read = with_range-ok (range low s.byte) (reads_on Ranged) ranges h in
      rw read.1 (written-range first c (char_of s) low read.0 (map char_of more) good (member-from_sign s open_is closed) free is
      (ltb-false s.byte low falls_is) (behind Ranged read.0 read.2))

  says-behind_range : (opened dash : Bool) (ranges : List ByteRange) → opens s ≡ opened → is_dash s ≡ dash
      → member_then (if opened then NoMember (OutOfProfile s.at) else if dash then Wait (LastDash s.at) else Wait (Member s.at s.byte)) reads_on ≡ Ok ranges
      → WritesMembers false ranges (char_of s ∷ map char_of more)
  says-behind_range true dash ranges open_is dash_is h = no_fault (OutOfProfile s.at) ranges h
  says-behind_range false true ranges open_is dash_is h =
      let P : Character → Type 0 = λ d. WritesMembers false ranges (d ∷ map char_of more) in
      subst P (sym (mark-is 45 (char_of s) dash_is).0) (behind (LastDash s.at) ranges h)
  says-behind_range false false ranges open_is dash_is h =
      behind (Member s.at s.byte) ranges h false (char_of s) (member-from_sign s open_is closed) (λ d. absurd (true≢false (sym d ∙ dash_is))) refl

  says-more : (front : Front) (ranges : List ByteRange) → member_then (member_step front s) reads_on ≡ Ok ranges
      → Says front ranges (char_of s ∷ map char_of more)
  says-more Nothing ranges h = says-first (opens s) ranges refl h
  says-more (Member place low) ranges h = says-behind_member (opens s) (is_dash s) place low ranges refl refl h
  says-more (Dash place low) ranges h = says-behind_dash (opens s) (nat_lt s.byte low) place low ranges refl refl h
  says-more Ranged ranges h = says-behind_range (opens s) (is_dash s) ranges refl refl h
  says-more (LastDash place) ranges h = no_fault (OutOfProfile place) ranges h

pub members-say : (bracket : ℕ) (signs : List Sign) (front : Front) (ranges : List ByteRange) → list_all (λ s. not (closes s)) signs ≡ true
    → members bracket Closed front signs ≡ Ok ranges → Says front ranges (map char_of signs)
unfolding members
members-say bracket [] front ranges opened h = last-says bracket front ranges h
members-say bracket (s ∷ more) front ranges opened h =
    let both = and_parts (not (closes s)) (list_all (λ s. not (closes s)) more) opened in
    says-more bracket s more (not-true (closes s) both.0) (λ front ranges. members-say bracket more front ranges both.1) front ranges h

-- members are read where a `]` closes them
last-closed : (bracket : ℕ) (end : ClassEnd) (front : Front) (ranges : List ByteRange) → last_ranges bracket end front ≡ Ok ranges → end ≡ Closed
last-closed bracket Closed front ranges h = refl
last-closed bracket PatternEnd Nothing ranges h = no_fault (Unclosed bracket) ranges h
last-closed bracket PatternEnd (Member place low) ranges h = no_fault (Unclosed bracket) ranges h
last-closed bracket PatternEnd (Dash place low) ranges h = no_fault (Unclosed bracket) ranges h
last-closed bracket PatternEnd Ranged ranges h = no_fault (Unclosed bracket) ranges h
last-closed bracket PatternEnd (LastDash place) ranges h = no_fault (Unclosed bracket) ranges h
last-closed bracket (Fault fault) Nothing ranges h = no_fault fault ranges h
last-closed bracket (Fault fault) (Member place low) ranges h = no_fault fault ranges h
last-closed bracket (Fault fault) (Dash place low) ranges h = no_fault fault ranges h
last-closed bracket (Fault fault) Ranged ranges h = no_fault fault ranges h
last-closed bracket (Fault fault) (LastDash place) ranges h = no_fault (OutOfProfile place) ranges h

step-closed : (end : ClassEnd) (step : MemberStep) (on : Front → Result (List ByteRange) PatternFault) (ranges : List ByteRange)
    → ((front : Front) (ranges : List ByteRange) → on front ≡ Ok ranges → end ≡ Closed) → member_then step on ≡ Ok ranges → end ≡ Closed
step-closed end (Wait next) on ranges behind h = behind next ranges h
step-closed end (Add r next) on ranges behind h = let read = with_range-ok r (on next) ranges h in behind next read.0 read.2
step-closed end (NoMember fault) on ranges behind h = no_fault fault ranges h

pub members-closed : (bracket : ℕ) (end : ClassEnd) (signs : List Sign) (front : Front) (ranges : List ByteRange)
    → members bracket end front signs ≡ Ok ranges → end ≡ Closed
unfolding members
members-closed bracket end [] front ranges h = last-closed bracket end front ranges h
members-closed bracket end (s ∷ more) front ranges h =
    step-closed end (member_step front s) (λ next. members bracket end next more) ranges
    (λ front ranges. members-closed bracket end more front ranges) h
