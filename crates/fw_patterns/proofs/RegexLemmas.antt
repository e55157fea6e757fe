-- An expression is read for the pattern that it is written for.
use Rattle.std.proofs.Common.{◌≡◌, ℕ, ◌≤◌, Bool, true, false, List, length, map, Option, Some, None, Result, Ok, Err, refl, sym, ap, subst, ◌∙◌}
use Rattle.std.proofs.lemmas.Bool.{le-ltb}
use Rattle.std.specs.Prelude.{◌↔◌, if◌then◌else◌, nat_lt}
use Rattle.fw_patterns.proofs.WritingBranches.{branches-read}
use Rattle.fw_patterns.proofs.WritingMarks.{first-none, marks-none, marks-say}
use Rattle.fw_patterns.proofs.WritingMembers.{no_fault}
use Rattle.fw_patterns.proofs.WritingSigns.{char_of, laid, signs-laid, signs-spell, whole}
use Rattle.fw_patterns.specs.Reading.{Stream, branches, fault_or, first_fault, marks, most_bytes, pattern_of, regex_marks, regex_read, signs}
use Rattle.fw_patterns.specs.Regexes.{InRegex, IsRegex, WritesBranches, WritesRegex}
use Rattle.fw_patterns.specs.Relation.{InPattern}
use Rattle.fw_patterns.specs.declared.fault.PatternFault.{PatternFault}
use Rattle.fw_patterns.specs.declared.fault.PatternFault.TheVariants.{TooLong}
use Rattle.fw_patterns.specs.declared.marks.Placed.{Placed}
use Rattle.fw_patterns.specs.declared.order.Before.TheVariants.{BranchStart}
use Rattle.fw_patterns.specs.declared.signs.Sign.{Sign}
use Rattle.fw_patterns.specs.declared.syntax.Branch.{Branch}

-- ---- what is written is read

-- marks without a fault are a pattern
pattern-of : (stream : Stream Placed) (all : List Branch) → stream.end ≡ None → branches stream.items ≡ all
    → first_fault BranchStart None stream.items ≡ None → pattern_of stream ≡ Ok all
pattern-of stream all end is fine =
    ap (λ (e : Option PatternFault). fault_or (first_fault BranchStart e stream.items) (branches stream.items)) end
    ∙ ap (λ (f : Option PatternFault). fault_or f (branches stream.items)) fine ∙ ap Ok is

pub regex-reads : (regex : List ℕ) (pattern : List Branch) → length regex ≤ most_bytes → WritesRegex pattern regex → regex_read regex ≡ Ok pattern
unfolding regex_read
regex-reads regex pattern small w =
    let s = branches-read pattern w.characters w.branches 0 in
    let all : signs None 0 regex ≡ whole (laid 0 w.characters) = ap (signs None 0) w.text ∙ signs-laid 0 w.characters w.each in
    let read : pattern_of (regex_marks regex) ≡ Ok pattern =
    ap (λ (all : Stream Sign). pattern_of (marks false all.end all.items)) all
    ∙ pattern-of (marks false None (laid 0 w.characters)) pattern s.end s.is s.start in
    rw (le-ltb most_bytes (length regex) small) read

-- ---- what is read is written

ok-fault : (fault : Option PatternFault) (all pattern : List Branch) → fault_or fault all ≡ Ok pattern → (fault ≡ None) × (all ≡ pattern)
ok-fault (Some fault) all pattern h = no_fault fault pattern h
ok-fault None all pattern h = (refl, cc)

ok-short : (long : Bool) (n : ℕ) (read : Result (List Branch) PatternFault) (pattern : List Branch)
    → (if long then Err (TooLong n) else read) ≡ Ok pattern → read ≡ Ok pattern
ok-short true n read pattern h = no_fault (TooLong n) pattern h
ok-short false n read pattern h = h

pub regex-written : (regex : List ℕ) (pattern : List Branch) → regex_read regex ≡ Ok pattern → WritesRegex pattern regex
unfolding regex_read
regex-written regex pattern read =
    let all = signs None 0 regex in
    let stream = marks false all.end all.items in
    let both = ok-fault (first_fault BranchStart stream.end stream.items) (branches stream.items) pattern
    (ok-short (nat_lt most_bytes (length regex)) (length regex) (pattern_of stream) pattern read) in
    let end : all.end ≡ None = marks-none false all.end all.items (first-none BranchStart stream.end stream.items both.0) in
    let spells = signs-spell None 0 regex end in
    let Fine : Option PatternFault → Type 0 = λ e. first_fault BranchStart (marks false e all.items).end (marks false e all.items).items ≡ None in
    let Written : Option PatternFault → Type 0 = λ e. WritesBranches (branches (marks false e all.items).items) (map char_of all.items) in
    let Of : List Branch → Type 0 = λ bs. WritesBranches bs (map char_of all.items) in
    record {
      characters = map char_of all.items;
      text = spells.is;
      each = spells.each;
      branches = subst Of both.1 (subst Written (sym end) (marks-say all.items (subst Fine end both.0)));
    }

-- what is refused isn't written for any pattern
pub regex-refused : (regex : List ℕ) (fault : PatternFault) → regex_read regex ≡ Err fault → length regex ≤ most_bytes → IsRegex regex → ⊥
regex-refused regex fault read small is = no_fault fault is.0 (sym read ∙ regex-reads regex is.0 small is.1)

pub regex-stands : (regex : List ℕ) (pattern : List Branch) (text : List ℕ) → length regex ≤ most_bytes → regex_read regex ≡ Ok pattern
    → InPattern pattern text ↔ InRegex regex text
regex-stands regex pattern text small read = (
  λ within. record { pattern = pattern; written = regex-written regex pattern read; within = within },
  λ r.
      let other = regex-reads regex r.pattern small r.written in
      let same : r.pattern ≡ pattern = cc in
      let P : List Branch → Type 0 = λ p. InPattern p text in
      subst P same r.within,
)
