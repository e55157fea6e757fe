-- Patterns that are read: their branches are short.
use Rattle.std.proofs.Common.{◌≡◌, ℕ, ◌+◌, ◌<◌, ◌≤◌, Bool, false, List, [], ◌∷◌, length, Option, Some, None, Ok, Err, refl, subst, arith}
use Rattle.std.proofs.lemmas.Bool.{lt-ltb, le-ltb}
use Rattle.std.proofs.lemmas.List.Elements.{All-from_recursion}
use Rattle.std.specs.Prelude.{position}
use Rattle.std.specs.List.{AllByRecursion}
use Rattle.fw_patterns.specs.Reading.{Stream, branches, first_fault, glob_pattern, glob_read, is_no_glob_byte, mark_step, mark_then, marks, most_bytes, onto_first, regex_marks, regex_read, repeat_of, sign_step, sign_then, signs, tied_to_end, tied_to_start, with_mark, with_piece}
use Rattle.fw_patterns.specs.Relation.{AllShort}
use Rattle.fw_patterns.specs.declared.fault.PatternFault.{PatternFault}
use Rattle.fw_patterns.specs.declared.fault.PatternFault.TheVariants.{OutOfProfile, TooLong}
use Rattle.fw_patterns.specs.declared.marks.Mark.{Mark}
use Rattle.fw_patterns.specs.declared.marks.Mark.TheVariants.{AtomMark, RepeatMark, StartMark, EndMark, BarMark, StrayMark}
use Rattle.fw_patterns.specs.declared.marks.MarkStep.{MarkStep}
use Rattle.fw_patterns.specs.declared.marks.MarkStep.TheVariants.{Skipped, Marked, Stopped}
use Rattle.fw_patterns.specs.declared.marks.Placed.{Placed}
use Rattle.fw_patterns.specs.declared.order.Before.TheVariants.{BranchStart}
use Rattle.fw_patterns.specs.declared.signs.Sign.{Sign}
use Rattle.fw_patterns.specs.declared.signs.SignStep.{SignStep}
use Rattle.fw_patterns.specs.declared.signs.SignStep.TheVariants.{Backslash, Whole, Bad}
use Rattle.fw_patterns.specs.declared.syntax.Branch.{Branch}
use Rattle.fw_patterns.specs.declared.syntax.Repeat.{Repeat}

-- ---- what is read

pub glob-long : (text : List ℕ) → most_bytes < length text → glob_read text ≡ Err (TooLong (length text))
unfolding glob_read
glob-long text h = rw (lt-ltb most_bytes (length text) h) refl

pub glob-bad : (text : List ℕ) (at : ℕ) → length text ≤ most_bytes → position is_no_glob_byte text ≡ Some at → glob_read text ≡ Err (OutOfProfile at)
unfolding glob_read
glob-bad text at h is = rw (le-ltb most_bytes (length text) h, is) refl

pub glob-good : (text : List ℕ) → length text ≤ most_bytes → position is_no_glob_byte text ≡ None → glob_read text ≡ Ok (glob_pattern text)
unfolding glob_read
glob-good text h is = rw (le-ltb most_bytes (length text) h, is) refl

pub regex-long : (text : List ℕ) → most_bytes < length text → regex_read text ≡ Err (TooLong (length text))
unfolding regex_read
regex-long text h = rw (lt-ltb most_bytes (length text) h) refl

pub regex-bad : (text : List ℕ) (fault : PatternFault) → length text ≤ most_bytes
    → first_fault BranchStart (regex_marks text).end (regex_marks text).items ≡ Some fault → regex_read text ≡ Err fault
unfolding regex_read
regex-bad text fault h is = rw (le-ltb most_bytes (length text) h, is) refl

pub regex-good : (text : List ℕ) → length text ≤ most_bytes
    → first_fault BranchStart (regex_marks text).end (regex_marks text).items ≡ None → regex_read text ≡ Ok (branches (regex_marks text).items)
unfolding regex_read
regex-good text h is = rw (le-ltb most_bytes (length text) h, is) refl

-- ---- no branch has more pieces than the text has bytes

sign_then-length : (step : SignStep) (a b : Stream Sign) (n : ℕ) → length a.items ≤ n → length b.items ≤ n
    → length (sign_then step a b).items ≤ n + 1
sign_then-length Backslash a b n ha hb = omega arith
sign_then-length (Whole s) a b n ha hb = omega arith
sign_then-length (Bad fault) a b n ha hb = omega arith

pub signs-length : (pending : Option ℕ) (at : ℕ) (text : List ℕ) → length (signs pending at text).items ≤ length text
unfolding signs
signs-length pending at [] = omega arith
signs-length pending at (b ∷ rest) =
    let step = sign_then-length (sign_step pending at b) (signs (Some at) (at + 1) rest) (signs None (at + 1) rest) (length rest)
    (signs-length (Some at) (at + 1) rest) (signs-length None (at + 1) rest) in
    omega (arith, step)

mark_then-length : (step : MarkStep) (behind : Bool → Stream Placed) (n : ℕ) → ((inside : Bool) → length (behind inside).items ≤ n)
    → length (mark_then step behind).items ≤ n + 1
mark_then-length (Skipped inside) behind n h = omega (arith, h inside)
mark_then-length (Marked p inside) behind n h = omega (arith, h inside)
mark_then-length (Stopped fault) behind n h = omega arith

pub marks-length : (inside : Bool) (end : Option PatternFault) (all : List Sign) → length (marks inside end all).items ≤ length all
unfolding marks
marks-length inside end [] = omega arith
marks-length inside end (s ∷ more) =
    let step = mark_then-length (mark_step inside end s more) (λ next. marks next end more) (length more) (λ next. marks-length next end more) in
    omega (arith, step)

-- no branch has more than n pieces
abbrev short : ℕ → List Branch → Type 0
short n [] = Unit {0}
short n (b ∷ more) = (length b.pieces ≤ n) × short n more

short-more : (n : ℕ) (all : List Branch) → short n all → short (n + 1) all
short-more n [] h = tt
short-more n (b ∷ more) h = (omega (arith, h.0), short-more n more h.1)

onto_first-short : (change : Branch → Branch) (n : ℕ) (all : List Branch)
    → ((b : Branch) → length (change b).pieces ≤ length b.pieces + 1) → short n all → short (n + 1) (onto_first change all)
onto_first-short change n [] once h = tt
onto_first-short change n (b ∷ more) once h = (omega (arith, once b, h.0), short-more n more h.1)

with_mark-short : (mark : Mark) (repeat : Repeat) (n : ℕ) (all : List Branch) → short n all → short (n + 1) (with_mark mark repeat all)
with_mark-short (AtomMark atom) repeat n all h = onto_first-short (with_piece atom repeat) n all (λ b. omega arith) h
with_mark-short (RepeatMark own) repeat n all h = short-more n all h
with_mark-short StartMark repeat n all h = onto_first-short tied_to_start n all (λ b. omega arith) h
with_mark-short EndMark repeat n all h = onto_first-short tied_to_end n all (λ b. omega arith) h
with_mark-short BarMark repeat n all h = (omega arith, short-more n all h)
with_mark-short StrayMark repeat n all h = short-more n all h

branches-short : (all : List Placed) → short (length all) (branches all)
unfolding branches
branches-short [] = (omega arith, tt)
branches-short (p ∷ more) =
    subst (λ n. short n (branches (p ∷ more))) (omega arith)
    (with_mark-short p.mark (repeat_of more) (length more) (branches more) (branches-short more))

short-all : (n : ℕ) (all : List Branch) → n ≤ 255 → short n all → AllByRecursion (λ branch. length branch.pieces ≤ 255) all
short-all n [] h s = tt
short-all n (b ∷ more) h s = (omega (arith, s.0), short-all n more h s.1)

pub regex-short : (text : List ℕ) → length text ≤ most_bytes → AllShort (branches (regex_marks text).items)
regex-short text h =
    let all = signs None 0 text in
    let read = marks false all.end all.items in
    All-from_recursion (λ branch. length branch.pieces ≤ 255) (branches read.items)
    (short-all (length read.items) (branches read.items)
    (omega (arith, marks-length false all.end all.items, signs-length None 0 text))
    (branches-short read.items))
