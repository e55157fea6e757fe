-- Branches that are written are read.
use Rattle.std.proofs.Common.{◌≡◌, ℕ, ◌+◌, ◌==◌, Bool, true, false, List, [], ◌∷◌, ◌++◌, None, Result, refl, sym, ap, subst, ◌∙◌, append_assoc}
use Rattle.std.proofs.lemmas.Bool.{not-true, or_parts}
use Rattle.std.specs.List.{list_any}
use Rattle.std.specs.Prelude.{codes}
use Rattle.fw_patterns.proofs.WritingClasses.{class-read}
use Rattle.fw_patterns.proofs.WritingSigns.{character, laid, next}
use Rattle.fw_patterns.specs.Reading.{Stream, ahead, branch, branches, class_step, first_fault, mark_of, mark_then, marks, opens, placed, repeat_of, sign}
use Rattle.fw_patterns.specs.Regexes.{Character, WritesAtom, WritesBranch, WritesBranches, WritesOthers, WritesPieces, by_itself, is_literal, mark_if, repeat_mark}
use Rattle.fw_patterns.specs.declared.fault.PatternFault.{PatternFault}
use Rattle.fw_patterns.specs.declared.marks.Mark.{Mark}
use Rattle.fw_patterns.specs.declared.marks.Mark.TheVariants.{AtomMark, RepeatMark, StartMark, EndMark, BarMark}
use Rattle.fw_patterns.specs.declared.marks.Placed.{Placed}
use Rattle.fw_patterns.specs.declared.order.Before.TheVariants.{BranchStart, Joint, AnAtom, AnEnd}
use Rattle.fw_patterns.specs.declared.signs.Sign.{Sign}
use Rattle.fw_patterns.specs.declared.syntax.Atom.{Atom}
use Rattle.fw_patterns.specs.declared.syntax.Atom.TheVariants.{Any, Byte, Class}
use Rattle.fw_patterns.specs.declared.syntax.Branch.{Branch}
use Rattle.fw_patterns.specs.declared.syntax.Piece.{Piece}
use Rattle.fw_patterns.specs.declared.syntax.Repeat.{Repeat}
use Rattle.fw_patterns.specs.declared.syntax.Repeat.TheVariants.{Once, AnyTimes, SomeTimes, AtMostOnce}

-- ---- atoms

literal-mark : (escaped : Bool) (at byte : ℕ) → is_literal (character escaped byte) ≡ true
    → (opens (sign at escaped byte) ≡ false) × (mark_of (sign at escaped byte) ≡ AtomMark (Byte byte))
literal-mark true at byte h = (refl, refl)
literal-mark false at byte h =
    let none = not-true (list_any (λ mark. byte == mark) (codes ".*+?^$|(){}[]")) h in
    let a = or_parts (byte == 46) (list_any (λ mark. byte == mark) (codes "*+?^$|(){}[]")) none in
    let b = or_parts (byte == 42) (list_any (λ mark. byte == mark) (codes "+?^$|(){}[]")) a.1 in
    let c = or_parts (byte == 43) (list_any (λ mark. byte == mark) (codes "?^$|(){}[]")) b.1 in
    let d = or_parts (byte == 63) (list_any (λ mark. byte == mark) (codes "^$|(){}[]")) c.1 in
    let e = or_parts (byte == 94) (list_any (λ mark. byte == mark) (codes "$|(){}[]")) d.1 in
    let f = or_parts (byte == 36) (list_any (λ mark. byte == mark) (codes "|(){}[]")) e.1 in
    let g = or_parts (byte == 124) (list_any (λ mark. byte == mark) (codes "(){}[]")) f.1 in
    let i = or_parts (byte == 40) (list_any (λ mark. byte == mark) (codes "){}[]")) g.1 in
    let j = or_parts (byte == 41) (list_any (λ mark. byte == mark) (codes "{}[]")) i.1 in
    let k = or_parts (byte == 123) (list_any (λ mark. byte == mark) (codes "}[]")) j.1 in
    let l = or_parts (byte == 125) (list_any (λ mark. byte == mark) (codes "[]")) k.1 in
    let m = or_parts (byte == 91) (list_any (λ mark. byte == mark) (codes "]")) l.1 in
    let n = or_parts (byte == 93) (list_any (λ mark. byte == mark) (codes "")) m.1 in
    (m.0, rw (a.0, b.0, c.0, d.0, e.0, f.0, g.0, i.0, j.0, k.0, l.0, n.0) refl)

-- an atom in front of characters is read as its mark
record AtomRead (at : ℕ) (atom : Atom) (own rest : List Character) : Type 0 where
  after : ℕ
  read : marks false None (laid at (own ++ rest)) ≡ ahead (placed at (AtomMark atom)) (marks false None (laid after rest))

sign-read : (s : Sign) (mark : Mark) (behind : List Sign) → opens s ≡ false → mark_of s ≡ mark
    → marks false None (s ∷ behind) ≡ ahead (placed s.at mark) (marks false None behind)
unfolding marks
sign-read s mark behind outside is = rw outside (ap (λ (m : Mark). ahead (placed s.at m) (marks false None behind)) is)

atom-read : (atom : Atom) (own : List Character) → WritesAtom atom own → (at : ℕ) (rest : List Character) → AtomRead at atom own rest
unfolding marks
atom-read Any own w at rest = rw w (record { after = at + 1; read = refl })
atom-read (Byte byte) own w at rest =
    let c = w.0 in
    let both = literal-mark c.escaped at c.byte w.2 in
    rw w.1 (record {
      after = next at c;
      read = sign-read (sign at c.escaped c.byte) (AtomMark (Byte byte)) (laid (next at c) rest) both.0
          (both.1 ∙ ap (λ (b : ℕ). AtomMark (Byte b)) w.3);
    })
atom-read (Class negated ranges) own w at rest =
    let r = class-read negated ranges own w at (at + 1) rest in
    let inner = laid (at + 1) ((mark_if negated 94 ++ (w.members ++ by_itself 93 ∷ [])) ++ rest) in
    rw w.text (record {
      after = r.after;
      read = ap (λ (x : Result Atom PatternFault). mark_then (class_step at x) (λ next. marks next None inner)) r.read
          ∙ ap (ahead (placed at (AtomMark (Class negated ranges)))) r.behind;
    })

-- ---- what is read of the rest of a branch

-- marks without a fault, as a first branch and further ones; nothing that is repeated is in front
record Reads (stream : Stream Placed) (b : Branch) (more : List Branch) : Type 0 where
  end : stream.end ≡ None
  once : repeat_of stream.items ≡ Once
  is : branches stream.items ≡ b ∷ more
  start : first_fault BranchStart None stream.items ≡ None
  joint : first_fault Joint None stream.items ≡ None
  atom : first_fault AnAtom None stream.items ≡ None

-- the end of a branch that nothing is read of
record Closes (stream : Stream Placed) (more : List Branch) : Type 0 where
  reads : Reads stream (branch false false []) more
  behind : (at : ℕ) → first_fault (AnEnd at) None stream.items ≡ None

-- whole branches
pub record Starts (stream : Stream Placed) (all : List Branch) : Type 0 where
  pub end : stream.end ≡ None
  pub is : branches stream.items ≡ all
  pub start : first_fault BranchStart None stream.items ≡ None

closes-nothing : Closes (marks false None []) []
unfolding marks branches first_fault
closes-nothing =
    record { reads = record { end = refl; once = refl; is = refl; start = refl; joint = refl; atom = refl }; behind = λ at. refl }

closes-bar : (at : ℕ) (stream : Stream Placed) (all : List Branch) → Starts stream all → Closes (ahead (placed at BarMark) stream) all
unfolding branches first_fault
closes-bar at stream all s =
    record {
      reads = record {
        end = s.end;
        once = refl;
        is = ap (λ (bs : List Branch). branch false false [] ∷ bs) s.is;
        start = s.start;
        joint = s.start;
        atom = s.start;
      };
      behind = λ at. s.start;
    }

reads-dollar : (at : ℕ) (stream : Stream Placed) (more : List Branch) → Closes stream more
    → Reads (ahead (placed at EndMark) stream) (branch false true []) more
unfolding branches first_fault
reads-dollar at stream more c =
    record { end = c.reads.end; once = refl; is = rw c.reads.is refl; start = c.behind at; joint = c.behind at; atom = c.behind at }

starts-from_reads : (stream : Stream Placed) (b : Branch) (more : List Branch) → Reads stream b more → Starts stream (b ∷ more)
starts-from_reads stream b more r = record { end = r.end; is = r.is; start = r.start }

starts-caret : (at : ℕ) (stream : Stream Placed) (to_end : Bool) (pieces : List Piece) (more : List Branch)
    → Reads stream (branch false to_end pieces) more → Starts (ahead (placed at StartMark) stream) (branch true to_end pieces ∷ more)
unfolding branches first_fault
starts-caret at stream to_end pieces more r = record { end = r.end; is = rw r.is refl; start = r.joint }

abbrev piece : Atom → Repeat → Piece
piece atom repeat = record { atom = atom; repeat = repeat }

module _ (at : ℕ) (atom : Atom) (stream : Stream Placed) (to_end : Bool) (pieces : List Piece) (more : List Branch) where
  reads-once : Reads stream (branch false to_end pieces) more
      → Reads (ahead (placed at (AtomMark atom)) stream) (branch false to_end (piece atom Once ∷ pieces)) more
  unfolding branches first_fault
  reads-once r =
      record { end = r.end; once = refl; is = rw (r.once, r.is) refl; start = r.atom; joint = r.atom; atom = r.atom }

  reads-repeat : (behind : ℕ) (repeat : Repeat) → Reads stream (branch false to_end pieces) more
      → Reads (ahead (placed at (AtomMark atom)) (ahead (placed behind (RepeatMark repeat)) stream)) (branch false to_end (piece atom repeat ∷ pieces)) more
  unfolding branches first_fault
  reads-repeat behind repeat r =
      record { end = r.end; once = refl; is = rw r.is refl; start = r.joint; joint = r.joint; atom = r.joint }

-- ---- characters

abbrev read_at : ℕ → List Character → Stream Placed
read_at at own = marks false None (laid at own)

-- the mark behind an atom, where it has one
repeat-read : (repeat : Repeat) (at place : ℕ) (atom : Atom) (rest : List Character) (to_end : Bool) (pieces : List Piece) (more : List Branch)
    → ((at : ℕ) → Reads (read_at at rest) (branch false to_end pieces) more)
    → Reads (ahead (placed place (AtomMark atom)) (read_at at (repeat_mark repeat ++ rest))) (branch false to_end (piece atom repeat ∷ pieces)) more
unfolding marks
repeat-read Once at place atom rest to_end pieces more r = reads-once place atom (read_at at rest) to_end pieces more (r at)
repeat-read AnyTimes at place atom rest to_end pieces more r = reads-repeat place atom (read_at (at + 1) rest) to_end pieces more at AnyTimes (r (at + 1))
repeat-read SomeTimes at place atom rest to_end pieces more r = reads-repeat place atom (read_at (at + 1) rest) to_end pieces more at SomeTimes (r (at + 1))
repeat-read AtMostOnce at place atom rest to_end pieces more r = reads-repeat place atom (read_at (at + 1) rest) to_end pieces more at AtMostOnce (r (at + 1))

pieces-read : (pieces : List Piece) (own rest : List Character) (to_end : Bool) (more : List Branch) → WritesPieces pieces own
    → ((at : ℕ) → Reads (read_at at rest) (branch false to_end []) more) → (at : ℕ) → Reads (read_at at (own ++ rest)) (branch false to_end pieces) more
pieces-read [] own rest to_end more w r at = rw w (r at)
pieces-read (p ∷ pieces) own rest to_end more w r at =
    let behind = pieces-read pieces w.1 rest to_end more w.4 r in
    let text : own ++ rest ≡ w.0 ++ (repeat_mark p.repeat ++ (w.1 ++ rest)) =
    ap (λ (xs : List Character). xs ++ rest) w.2 ∙ append_assoc w.0 (repeat_mark p.repeat ++ w.1) rest
    ∙ ap (λ (xs : List Character). w.0 ++ xs) (append_assoc (repeat_mark p.repeat) w.1 rest) in
    let a = atom-read p.atom w.0 w.3 at (repeat_mark p.repeat ++ (w.1 ++ rest)) in
    let P : List Character → Type 0 = λ xs. Reads (read_at at xs) (branch false to_end (p ∷ pieces)) more in
    let Q : Stream Placed → Type 0 = λ stream. Reads stream (branch false to_end (p ∷ pieces)) more in
    subst P (sym text) (subst Q (sym a.read) (repeat-read p.repeat a.after at p.atom (w.1 ++ rest) to_end pieces more behind))

-- the end of a branch
end-read : (to_end : Bool) (rest : List Character) (more : List Branch) → ((at : ℕ) → Closes (read_at at rest) more)
    → (at : ℕ) → Reads (read_at at (mark_if to_end 36 ++ rest)) (branch false to_end []) more
unfolding marks
end-read true rest more c at = reads-dollar at (read_at (at + 1) rest) more (c (at + 1))
end-read false rest more c at = (c at).reads

-- the start of a branch
start-read : (from_start to_end : Bool) (pieces : List Piece) (own : List Character) (more : List Branch)
    → ((at : ℕ) → Reads (read_at at own) (branch false to_end pieces) more) → (at : ℕ)
    → Starts (read_at at (mark_if from_start 94 ++ own)) (branch from_start to_end pieces ∷ more)
unfolding marks
start-read true to_end pieces own more r at = starts-caret at (read_at (at + 1) own) to_end pieces more (r (at + 1))
start-read false to_end pieces own more r at = starts-from_reads (read_at at own) (branch false to_end pieces) more (r at)

branch-read : (b : Branch) (own rest : List Character) (more : List Branch) → WritesBranch b own → ((at : ℕ) → Closes (read_at at rest) more)
    → (at : ℕ) → Starts (read_at at (own ++ rest)) (b ∷ more)
branch-read b own rest more w c at =
    let text : own ++ rest ≡ mark_if b.from_start 94 ++ (w.pieces ++ (mark_if b.to_end 36 ++ rest)) =
    ap (λ (xs : List Character). xs ++ rest) w.text ∙ append_assoc (mark_if b.from_start 94) (w.pieces ++ mark_if b.to_end 36) rest
    ∙ ap (λ (xs : List Character). mark_if b.from_start 94 ++ xs) (append_assoc w.pieces (mark_if b.to_end 36) rest) in
    let P : List Character → Type 0 = λ xs. Starts (read_at at xs) (b ∷ more) in
    subst P (sym text)
    (start-read b.from_start b.to_end b.pieces (w.pieces ++ (mark_if b.to_end 36 ++ rest)) more
    (pieces-read b.pieces w.pieces (mark_if b.to_end 36 ++ rest) b.to_end more w.each (end-read b.to_end rest more c)) at)

others-read : (more : List Branch) (rest : List Character) → WritesOthers more rest → (at : ℕ) → Closes (read_at at rest) more
unfolding marks
others-read [] rest w at = rw w closes-nothing
others-read (b ∷ more) rest w at =
    let behind = branch-read b w.0 w.1 more w.3 (others-read more w.1 w.4) in
    let P : List Character → Type 0 = λ xs. Closes (read_at at xs) (b ∷ more) in
    subst P (sym w.2) (closes-bar at (read_at (at + 1) (w.0 ++ w.1)) (b ∷ more) (behind (at + 1)))

pub branches-read : (all : List Branch) (own : List Character) → WritesBranches all own → (at : ℕ) → Starts (read_at at own) all
branches-read [] own w at = absurd w
branches-read (b ∷ more) own w at =
    let P : List Character → Type 0 = λ xs. Starts (read_at at xs) (b ∷ more) in
    subst P (sym w.2) (branch-read b w.0 w.1 more w.3 (others-read more w.1 w.4) at)
