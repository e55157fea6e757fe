-- Marks: what is written is read, and what is read is written.
use Rattle.std.proofs.Common.{◌≡◌, ℕ, ◌==◌, Bool, true, false, ◌||◌, not, if◌then◌else◌, List, [], ◌∷◌, ◌++◌, map, Option, Some, None, Result, Ok, Err, refl, sym, ap, subst, ◌∙◌, append_assoc}
use Rattle.std.proofs.lemmas.Bool.{and_parts, eqb-true, or_parts}
use Rattle.std.proofs.lemmas.List.{map-append}
use Rattle.fw_patterns.proofs.WritingClasses.{class-written, marks-past, no_close, same-tail}
use Rattle.fw_patterns.proofs.WritingMembers.{mark-is, no_fault}
use Rattle.fw_patterns.proofs.WritingSigns.{char_of, character}
use Rattle.fw_patterns.specs.Reading.{Stream, ahead, branch, branches, class_at, class_step, closes, fault_after, first_fault, is_stray, last_fault, mark_of, mark_step, mark_then, marks, opens, placed, repeat_of, sign, step}
use Rattle.fw_patterns.specs.Regexes.{Character, WritesAtom, WritesBranch, WritesBranches, WritesOthers, WritesPieces, by_itself, is_literal, mark_if, repeat_mark}
use Rattle.fw_patterns.specs.declared.fault.PatternFault.{PatternFault}
use Rattle.fw_patterns.specs.declared.fault.PatternFault.TheVariants.{OutOfProfile}
use Rattle.fw_patterns.specs.declared.marks.Mark.{Mark}
use Rattle.fw_patterns.specs.declared.marks.Mark.TheVariants.{AtomMark, RepeatMark, StartMark, EndMark, BarMark, StrayMark}
use Rattle.fw_patterns.specs.declared.marks.MarkStep.{MarkStep}
use Rattle.fw_patterns.specs.declared.marks.MarkStep.TheVariants.{Skipped, Marked, Stopped}
use Rattle.fw_patterns.specs.declared.marks.Placed.{Placed}
use Rattle.fw_patterns.specs.declared.order.Before.{Before}
use Rattle.fw_patterns.specs.declared.order.Before.TheVariants.{BranchStart, Joint, AnAtom, AnEnd}
use Rattle.fw_patterns.specs.declared.signs.Sign.{Sign}
use Rattle.fw_patterns.specs.declared.syntax.Atom.{Atom}
use Rattle.fw_patterns.specs.declared.syntax.Atom.TheVariants.{Any, Byte}
use Rattle.fw_patterns.specs.declared.syntax.Branch.{Branch}
use Rattle.fw_patterns.specs.declared.syntax.Piece.{Piece}
use Rattle.fw_patterns.specs.declared.syntax.Repeat.{Repeat}
use Rattle.fw_patterns.specs.declared.syntax.Repeat.TheVariants.{Once, AnyTimes, SomeTimes, AtMostOnce}

is_fault : {P : Type 0} (fault : PatternFault) → Some fault ≡ None → P
is_fault fault h = cc

-- ---- one sign

-- what a mark is written as
abbrev MarkWritten : Mark → List Character → Type 0
MarkWritten (AtomMark atom) own = WritesAtom atom own
MarkWritten (RepeatMark repeat) own = own ≡ repeat_mark repeat
MarkWritten StartMark own = own ≡ by_itself 94 ∷ []
MarkWritten EndMark own = own ≡ by_itself 36 ∷ []
MarkWritten BarMark own = own ≡ by_itself 124 ∷ []
MarkWritten StrayMark own = Unit {0}

alone : (byte mark : ℕ) → (byte == mark) ≡ true → by_itself byte ∷ [] ≡ by_itself mark ∷ []
alone byte mark is = ap (λ (n : ℕ). by_itself n ∷ []) (eqb-true byte mark is)

literal : (byte : ℕ) → (byte == 46) ≡ false → (byte == 42) ≡ false → (byte == 43) ≡ false → (byte == 63) ≡ false → (byte == 94) ≡ false
    → (byte == 36) ≡ false → (byte == 124) ≡ false → is_stray byte ≡ false → (byte == 91) ≡ false → is_literal (by_itself byte) ≡ true
literal byte dot star plus mark hat dollar bar stray bracket =
    let a = or_parts (byte == 40 || byte == 41 || byte == 123 || byte == 125) (byte == 93) stray in
    let b = or_parts (byte == 40 || byte == 41 || byte == 123) (byte == 125) a.0 in
    let c = or_parts (byte == 40 || byte == 41) (byte == 123) b.0 in
    let d = or_parts (byte == 40) (byte == 41) c.0 in
    rw (dot, star, plus, mark, hat, dollar, bar, d.0, d.1, c.1, b.1, bracket, a.1) refl

plain-written : (byte : ℕ) (dot star plus mark hat dollar bar stray : Bool) → (byte == 46) ≡ dot → (byte == 42) ≡ star → (byte == 43) ≡ plus
    → (byte == 63) ≡ mark → (byte == 94) ≡ hat → (byte == 36) ≡ dollar → (byte == 124) ≡ bar → is_stray byte ≡ stray → (byte == 91) ≡ false
    → MarkWritten (if dot then AtomMark Any
    else if star then RepeatMark AnyTimes
    else if plus then RepeatMark SomeTimes
    else if mark then RepeatMark AtMostOnce
    else if hat then StartMark
    else if dollar then EndMark
    else if bar then BarMark
    else if stray then StrayMark
    else AtomMark (Byte byte)) (by_itself byte ∷ [])
plain-written byte true star plus mark hat dollar bar stray a b c d e f g h i = alone byte 46 a
plain-written byte false true plus mark hat dollar bar stray a b c d e f g h i = alone byte 42 b
plain-written byte false false true mark hat dollar bar stray a b c d e f g h i = alone byte 43 c
plain-written byte false false false true hat dollar bar stray a b c d e f g h i = alone byte 63 d
plain-written byte false false false false true dollar bar stray a b c d e f g h i = alone byte 94 e
plain-written byte false false false false false true bar stray a b c d e f g h i = alone byte 36 f
plain-written byte false false false false false false true stray a b c d e f g h i = alone byte 124 g
plain-written byte false false false false false false false true a b c d e f g h i = tt
plain-written byte false false false false false false false false a b c d e f g h i =
    (by_itself byte, refl, literal byte a b c d e f g h i, refl)

sign-by : (escaped : Bool) (at byte : ℕ) → opens (sign at escaped byte) ≡ false
    → MarkWritten (mark_of (sign at escaped byte)) (character escaped byte ∷ [])
sign-by true at byte outside = (character true byte, refl, refl, refl)
sign-by false at byte outside =
    plain-written byte (byte == 46) (byte == 42) (byte == 43) (byte == 63) (byte == 94) (byte == 36) (byte == 124) (is_stray byte)
    refl refl refl refl refl refl refl refl outside

-- a sign outside a class is written for its mark
sign-written : (s : Sign) → opens s ≡ false → MarkWritten (mark_of s) (char_of s ∷ [])
sign-written s outside = sign-by s.escaped s.at s.byte outside

-- ---- marks say what is written

-- behind `^`, a repeat or an atom with its own: the rest of a branch, and further ones
record Tail (items : List Placed) (own : List Character) : Type 0 where
  to_end : Bool
  pieces : List Piece
  more : List Branch
  text : List Character
  rest : List Character
  is : branches items ≡ branch false to_end pieces ∷ more
  cut : own ≡ text ++ (mark_if to_end 36 ++ rest)
  each : WritesPieces pieces text
  others : WritesOthers more rest

-- behind `$`: further branches
record Ends (items : List Placed) (own : List Character) : Type 0 where
  more : List Branch
  is : branches items ≡ branch false false [] ∷ more
  others : WritesOthers more own

-- behind an atom: its repeat, and the rest of the branch
record Repeats (items : List Placed) (own : List Character) : Type 0 where
  rest : List Character
  cut : own ≡ repeat_mark (repeat_of items) ++ rest
  tail : Tail items rest

-- what characters are written behind what is in front of them
abbrev Says : Before → List Placed → List Character → Type 0
Says BranchStart items own = WritesBranches (branches items) own
Says Joint items own = Tail items own
Says AnAtom items own = Repeats items own
Says (AnEnd at) items own = Ends items own

tail-from_ends : (items : List Placed) (own : List Character) → Ends items own → Tail items own
tail-from_ends items own e =
    record {
      to_end = false;
      pieces = [];
      more = e.more;
      text = [];
      rest = own;
      is = e.is;
      cut = refl;
      each = refl;
      others = e.others;
    }

repeats-from_tail : (items : List Placed) (own : List Character) → repeat_of items ≡ Once → Tail items own → Repeats items own
repeats-from_tail items own once t =
    record { rest = own; cut = let F : Repeat → Type 0 = λ r. own ≡ repeat_mark r ++ own in subst F (sym once) refl; tail = t }

-- a branch from its own text
branch-from : (from_start to_end : Bool) (pieces : List Piece) (text : List Character) → WritesPieces pieces text
    → WritesBranch (branch from_start to_end pieces) (mark_if from_start 94 ++ (text ++ mark_if to_end 36))
branch-from from_start to_end pieces text each = record { pieces = text; text = refl; each = each }

start-from_tail : (items : List Placed) (own : List Character) → Tail items own → WritesBranches (branches items) own
start-from_tail items own t =
    rw t.is (
      t.text ++ mark_if t.to_end 36,
      t.rest,
      t.cut ∙ sym (append_assoc t.text (mark_if t.to_end 36) t.rest),
      branch-from false t.to_end t.pieces t.text t.each,
      t.others,
    )

says-ends : (before : Before) (items : List Placed) (own : List Character) → repeat_of items ≡ Once → Ends items own → Says before items own
says-ends BranchStart items own once e = start-from_tail items own (tail-from_ends items own e)
says-ends Joint items own once e = tail-from_ends items own e
says-ends AnAtom items own once e = repeats-from_tail items own once (tail-from_ends items own e)
says-ends (AnEnd at) items own once e = e

-- an atom in front
tail-atom : (at : ℕ) (atom : Atom) (items : List Placed) (first own : List Character) → WritesAtom atom first → Repeats items own
    → Tail (placed at (AtomMark atom) ∷ items) (first ++ own)
unfolding branches
tail-atom at atom items first own w r =
    let t = r.tail in
    record {
      to_end = t.to_end;
      pieces = record { atom = atom; repeat = repeat_of items } ∷ t.pieces;
      more = t.more;
      text = first ++ (repeat_mark (repeat_of items) ++ t.text);
      rest = t.rest;
      is = rw t.is refl;
      cut = ap (λ (xs : List Character). first ++ xs)
          (r.cut ∙ ap (λ (xs : List Character). repeat_mark (repeat_of items) ++ xs) t.cut
          ∙ sym (append_assoc (repeat_mark (repeat_of items)) t.text (mark_if t.to_end 36 ++ t.rest)))
          ∙ sym (append_assoc first (repeat_mark (repeat_of items) ++ t.text) (mark_if t.to_end 36 ++ t.rest));
      each = (first, t.text, refl, w, t.each);
      others = t.others;
    }

-- a repeat in front
repeats-repeat : (at : ℕ) (repeat : Repeat) (items : List Placed) (own : List Character) → Tail items own
    → Repeats (placed at (RepeatMark repeat) ∷ items) (repeat_mark repeat ++ own)
unfolding branches
repeats-repeat at repeat items own t =
    record {
      rest = own;
      cut = refl;
      tail = record {
        to_end = t.to_end;
        pieces = t.pieces;
        more = t.more;
        text = t.text;
        rest = t.rest;
        is = t.is;
        cut = t.cut;
        each = t.each;
        others = t.others;
      };
    }

-- a `^` in front
start-caret : (at : ℕ) (items : List Placed) (own : List Character) → Tail items own
    → WritesBranches (branches (placed at StartMark ∷ items)) (by_itself 94 ∷ own)
unfolding branches
start-caret at items own t =
    rw t.is (
      by_itself 94 ∷ (t.text ++ mark_if t.to_end 36),
      t.rest,
      ap (λ (xs : List Character). by_itself 94 ∷ xs) (t.cut ∙ sym (append_assoc t.text (mark_if t.to_end 36) t.rest)),
      branch-from true t.to_end t.pieces t.text t.each,
      t.others,
    )

-- a `$` in front
tail-dollar : (at : ℕ) (items : List Placed) (own : List Character) → Ends items own → Tail (placed at EndMark ∷ items) (by_itself 36 ∷ own)
unfolding branches
tail-dollar at items own e =
    record {
      to_end = true;
      pieces = [];
      more = e.more;
      text = [];
      rest = own;
      is = rw e.is refl;
      cut = refl;
      each = refl;
      others = e.others;
    }

others-from_branches : (all : List Branch) (own : List Character) → WritesBranches all own → WritesOthers all (by_itself 124 ∷ own)
others-from_branches [] own w = absurd w
others-from_branches (b ∷ more) own w = (w.0, w.1, ap (λ (xs : List Character). by_itself 124 ∷ xs) w.2, w.3, w.4)

-- a `|` in front
ends-bar : (at : ℕ) (items : List Placed) (own : List Character) → WritesBranches (branches items) own
    → Ends (placed at BarMark ∷ items) (by_itself 124 ∷ own)
unfolding branches
ends-bar at items own w = record { more = branches items; is = refl; others = others-from_branches (branches items) own w }

abbrev to : Before → Result Before PatternFault
to next = Ok next

-- what follows a mark
follows : (a b : Before) (items : List Placed) (own : List Character) → to a ≡ to b → Says b items own → Says a items own
follows a b items own h says = let same : a ≡ b = cc in let P : Before → Type 0 = λ x. Says x items own in subst P (sym same) says

module _ (at : ℕ) (first own : List Character) (items : List Placed) (next : Before) where
  says-atom : (before : Before) (atom : Atom) → step before at (AtomMark atom) ≡ Ok next → WritesAtom atom first → Says next items own
      → Says before (placed at (AtomMark atom) ∷ items) (first ++ own)
  says-atom BranchStart atom h w says =
      start-from_tail (placed at (AtomMark atom) ∷ items) (first ++ own) (tail-atom at atom items first own w (follows AnAtom next items own h says))
  says-atom Joint atom h w says = tail-atom at atom items first own w (follows AnAtom next items own h says)
  says-atom AnAtom atom h w says =
      repeats-from_tail (placed at (AtomMark atom) ∷ items) (first ++ own) refl (tail-atom at atom items first own w (follows AnAtom next items own h says))
  says-atom (AnEnd end) atom h w says = no_fault (OutOfProfile end) next h

  says-repeat : (before : Before) (repeat : Repeat) → step before at (RepeatMark repeat) ≡ Ok next → first ≡ repeat_mark repeat → Says next items own
      → Says before (placed at (RepeatMark repeat) ∷ items) (first ++ own)
  says-repeat BranchStart repeat h w says = no_fault (OutOfProfile at) next h
  says-repeat Joint repeat h w says = no_fault (OutOfProfile at) next h
  says-repeat AnAtom repeat h w says = rw w (repeats-repeat at repeat items own (follows Joint next items own h says))
  says-repeat (AnEnd end) repeat h w says = no_fault (OutOfProfile end) next h

  says-start : (before : Before) → step before at StartMark ≡ Ok next → first ≡ by_itself 94 ∷ [] → Says next items own
      → Says before (placed at StartMark ∷ items) (first ++ own)
  says-start BranchStart h w says = rw w (start-caret at items own (follows Joint next items own h says))
  says-start Joint h w says = no_fault (OutOfProfile at) next h
  says-start AnAtom h w says = no_fault (OutOfProfile at) next h
  says-start (AnEnd end) h w says = no_fault (OutOfProfile end) next h

  says-end : (before : Before) → step before at EndMark ≡ Ok next → first ≡ by_itself 36 ∷ [] → Says next items own
      → Says before (placed at EndMark ∷ items) (first ++ own)
  says-end BranchStart h w says =
      rw w (start-from_tail (placed at EndMark ∷ items) (by_itself 36 ∷ own) (tail-dollar at items own (follows (AnEnd at) next items own h says)))
  says-end Joint h w says = rw w (tail-dollar at items own (follows (AnEnd at) next items own h says))
  says-end AnAtom h w says =
      rw w (repeats-from_tail (placed at EndMark ∷ items) (by_itself 36 ∷ own) refl (tail-dollar at items own (follows (AnEnd at) next items own h says)))
  says-end (AnEnd end) h w says = no_fault (OutOfProfile end) next h

  bar-next : (before : Before) → step before at BarMark ≡ Ok next → to BranchStart ≡ to next
  bar-next BranchStart h = h
  bar-next _ h = h

  says-bar : (before : Before) → step before at BarMark ≡ Ok next → first ≡ by_itself 124 ∷ [] → Says next items own
      → Says before (placed at BarMark ∷ items) (first ++ own)
  says-bar before h w says =
      rw w (says-ends before (placed at BarMark ∷ items) (by_itself 124 ∷ own) refl
      (ends-bar at items own (follows BranchStart next items own (bar-next before h) says)))

  no_stray : {P : Type 0} (before : Before) → step before at StrayMark ≡ Ok next → P
  no_stray (AnEnd end) h = no_fault (OutOfProfile end) next h
  no_stray _ h = no_fault (OutOfProfile at) next h

  says-mark : (before : Before) (mark : Mark) → step before at mark ≡ Ok next → MarkWritten mark first → Says next items own
      → Says before (placed at mark ∷ items) (first ++ own)
  says-mark before (AtomMark atom) h w says = says-atom before atom h w says
  says-mark before (RepeatMark repeat) h w says = says-repeat before repeat h w says
  says-mark before StartMark h w says = says-start before h w says
  says-mark before EndMark h w says = says-end before h w says
  says-mark before BarMark h w says = says-bar before h w says
  says-mark before StrayMark h w says = no_stray before h

-- ---- signs say what is written

abbrev fault_of : Before → Stream Placed → Option PatternFault
fault_of before stream = first_fault before stream.end stream.items

-- signs outside a class without a fault
abbrev Sound : List Sign → Type 0
Sound signs = (before : Before) → fault_of before (marks false None signs) ≡ None → Says before (marks false None signs).items (map char_of signs)

-- no fault behind a mark
fine-after : (result : Result Before PatternFault) (behind : Before → Option PatternFault) → fault_after result behind ≡ None
    → (next : Before) × (result ≡ Ok next) × (behind next ≡ None)
fine-after (Ok next) behind h = (next, refl, h)
fine-after (Err fault) behind h = is_fault fault h

sound-mark : (at : ℕ) (mark : Mark) (first own : List Character) (stream : Stream Placed) → MarkWritten mark first
    → ((next : Before) → fault_of next stream ≡ None → Says next stream.items own)
    → (before : Before) → fault_of before (ahead (placed at mark) stream) ≡ None → Says before (placed at mark ∷ stream.items) (first ++ own)
unfolding first_fault
sound-mark at mark first own stream w behind before h =
    let fine = fine-after (step before at mark) (λ next. first_fault next stream.end stream.items) h in
    says-mark at first own stream.items fine.0 before mark fine.1 w (behind fine.0 fine.2)

sound-class : (s : Sign) (more : List Sign) (read : Result Atom PatternFault) → class_at s.at None more ≡ read → opens s ≡ true
    → ((front back : List Sign) (close : Sign) → more ≡ front ++ close ∷ back → no_close front ≡ true → closes close ≡ true → Sound back)
    → (before : Before) → fault_of before (mark_then (class_step s.at read) (λ next. marks next None more)) ≡ None
    → Says before (mark_then (class_step s.at read) (λ next. marks next None more)).items (char_of s ∷ map char_of more)
unfolding first_fault
sound-class s more (Err fault) is opened behind before h = is_fault fault (stopped before h)
  where
    stopped : (before : Before) → last_fault before (Some fault) ≡ None → Some fault ≡ None
    stopped BranchStart h = h
    stopped Joint h = h
    stopped AnAtom h = h
    stopped (AnEnd at) h = is_fault (OutOfProfile at) h
sound-class s more (Ok atom) is opened behind before h =
    let c = class-written s.at more atom is in
    let cut = c.cut in
    let past : marks true None more ≡ marks false None cut.back =
    ap (marks true None) cut.cut ∙ marks-past cut.front cut.back cut.close cut.unclosed cut.closed in
    let text : char_of s ∷ map char_of more ≡ (by_itself 91 ∷ map char_of (cut.front ++ cut.close ∷ [])) ++ map char_of cut.back =
    ap (λ (c : Character). c ∷ map char_of more) (mark-is 91 (char_of s) opened).0
    ∙ ap (λ (xs : List Sign). by_itself 91 ∷ map char_of xs) (cut.cut ∙ sym (append_assoc cut.front (cut.close ∷ []) cut.back))
    ∙ ap (λ (xs : List Character). by_itself 91 ∷ xs) (map-append char_of (cut.front ++ cut.close ∷ []) cut.back) in
    let P : Stream Placed → Type 0 = λ stream. fault_of before (ahead (placed s.at (AtomMark atom)) stream) ≡ None in
    let Q : Stream Placed → Type 0 = λ stream. Says before (placed s.at (AtomMark atom) ∷ stream.items) (char_of s ∷ map char_of more) in
    let R : List Character → Type 0 = λ own. Says before (placed s.at (AtomMark atom) ∷ (marks false None cut.back).items) own in
    subst Q (sym past) (subst R (sym text)
    (sound-mark s.at (AtomMark atom) (by_itself 91 ∷ map char_of (cut.front ++ cut.close ∷ [])) (map char_of cut.back) (marks false None cut.back)
    c.written (behind cut.front cut.back cut.close cut.cut cut.unclosed cut.closed) before (subst P past h)))

sound-sign : (opened : Bool) (s : Sign) (more : List Sign) → opens s ≡ opened → Sound more
    → ((front back : List Sign) (close : Sign) → more ≡ front ++ close ∷ back → no_close front ≡ true → closes close ≡ true → Sound back)
    → (before : Before)
    → fault_of before (mark_then (if opened then class_step s.at (class_at s.at None more) else Marked (placed s.at (mark_of s)) false) (λ next. marks next None more)) ≡ None
    → Says before (mark_then (if opened then class_step s.at (class_at s.at None more) else Marked (placed s.at (mark_of s)) false) (λ next. marks next None more)).items
    (char_of s ∷ map char_of more)
sound-sign true s more opened here behind before h = sound-class s more (class_at s.at None more) refl opened behind before h
sound-sign false s more opened here behind before h =
    sound-mark s.at (mark_of s) (char_of s ∷ []) (map char_of more) (marks false None more) (sign-written s opened) here before h

-- signs, and what is behind a class that they begin within
record Signs (signs : List Sign) : Type 0 where
  here : Sound signs
  behind : (front back : List Sign) (close : Sign) → signs ≡ front ++ close ∷ back → no_close front ≡ true → closes close ≡ true → Sound back

signs-behind : (s : Sign) (more front back : List Sign) (close : Sign) → s ∷ more ≡ front ++ close ∷ back → no_close front ≡ true → closes close ≡ true
    → Signs more → Sound back
signs-behind s more [] back close cut all closed rest = subst Sound (same-tail s close more back cut) rest.here
signs-behind s more (x ∷ front) back close cut all closed rest =
    rest.behind front back close (same-tail s x more (front ++ close ∷ back) cut) (no_close-tail x front all) closed
  where
    no_close-tail : (x : Sign) (front : List Sign) → no_close (x ∷ front) ≡ true → no_close front ≡ true
    no_close-tail x front all = (and_parts (not (closes x)) (no_close front) all).1

no_nil : {X : Type 0} {P : Type 0} (x : X) (xs : List X) → [] ≡ x ∷ xs → P
no_nil x xs h = cc

no_signs : {P : Type 0} (front back : List Sign) (close : Sign) → [] ≡ front ++ close ∷ back → P
no_signs [] back close h = no_nil close back h
no_signs (x ∷ front) back close h = no_nil x (front ++ close ∷ back) h

signs-sound : (signs : List Sign) → Signs signs
unfolding marks branches
signs-sound [] = record {
  here = λ before h. says-ends before [] [] refl (record { more = []; is = refl; others = refl });
  behind = λ front back close cut all closed. no_signs front back close cut;
}
signs-sound (s ∷ more) =
    let rest = signs-sound more in
    record {
      here = λ before h. sound-sign (opens s) s more refl rest.here rest.behind before h;
      behind = λ front back close cut all closed. signs-behind s more front back close cut all closed rest;
    }

pub marks-say : (signs : List Sign) → fault_of BranchStart (marks false None signs) ≡ None
    → WritesBranches (branches (marks false None signs).items) (map char_of signs)
marks-say signs h = (signs-sound signs).here BranchStart h

-- ---- a fault behind all marks is one

last-none : (before : Before) (end : Option PatternFault) → last_fault before end ≡ None → end ≡ None
last-none (AnEnd at) (Some fault) h = is_fault (OutOfProfile at) h
last-none (AnEnd at) None h = refl
last-none _ end h = h

pub first-none : (before : Before) (end : Option PatternFault) (items : List Placed) → first_fault before end items ≡ None → end ≡ None
unfolding first_fault
first-none before end [] h = last-none before end h
first-none before end (p ∷ more) h =
    let fine = fine-after (step before p.at p.mark) (λ next. first_fault next end more) h in
    first-none fine.0 end more fine.2

step-none : (end : Option PatternFault) (step : MarkStep) (behind : Bool → Stream Placed) → ((inside : Bool) → (behind inside).end ≡ None → end ≡ None)
    → (mark_then step behind).end ≡ None → end ≡ None
step-none end (Skipped inside) behind more h = more inside h
step-none end (Marked p inside) behind more h = more inside h
step-none end (Stopped fault) behind more h = is_fault fault h

pub marks-none : (inside : Bool) (end : Option PatternFault) (signs : List Sign) → (marks inside end signs).end ≡ None → end ≡ None
unfolding marks
marks-none inside end [] h = h
marks-none inside end (s ∷ more) h =
    step-none end (mark_step inside end s more) (λ next. marks next end more) (λ next. marks-none next end more) h
