-- Places in a pattern, read against a text from its end.
use Rattle.std.proofs.Common.{◌≡◌, ℕ, ◌+◌, ◌-◌, ◌<◌, ◌≤◌, Bool, false, ◌&&◌, ◌||◌, not, List, [], ◌∷◌, length, drop, get_or, set, refl, sym, ap, arith, ⊎_elim, ◌∙◌}
use Rattle.std.proofs.lemmas.Bool.{cases_lt}
use Rattle.std.proofs.lemmas.List.{drop_more, drop_all, get_or-set_same, get_or-set_other}
use Rattle.fw_patterns.specs.Places.{Tell, at_byte, branch_at, pieces_at, some_branch}
use Rattle.fw_patterns.specs.Relation.{stands_for}
use Rattle.fw_patterns.specs.declared.syntax.Branch.{Branch}
use Rattle.fw_patterns.specs.declared.syntax.Piece.{Piece}

-- places from one on tell which ends of the pieces stand at what is left of a text
abbrev pub TellFrom : ℕ → Bool → List Piece → List ℕ → List Bool → Type 0
TellFrom at to_end pieces left places = (j : ℕ) → at ≤ j → j ≤ length pieces → get_or places j false ≡ pieces_at to_end (drop j pieces) left

-- ---- one place more

pub here-at_byte : (to_end : Bool) (pieces : List Piece) (at : ℕ) (d : Piece) (byte : ℕ) (left : List ℕ) → at < length pieces
    → pieces_at to_end (drop at pieces) (byte ∷ left)
    ≡ at_byte (get_or pieces at d).repeat (stands_for (get_or pieces at d).atom byte)
    (pieces_at to_end (drop at pieces) left) (pieces_at to_end (drop (at + 1) pieces) left) (pieces_at to_end (drop (at + 1) pieces) (byte ∷ left))
here-at_byte to_end pieces at d byte left h = rw (drop_more pieces at d h) refl

-- the place in front of those that tell, where what it needs of the places behind the byte is still there
module _ (to_end : Bool) (pieces : List Piece) (byte : ℕ) (old places : List Bool) (m : ℕ) (piece : Piece) (long : m < length places) (inside : m < length pieces) (is : piece ≡ get_or pieces m piece) where
  pub TellFrom-back : (left : List ℕ) (value : Bool)
      → value ≡ at_byte piece.repeat (stands_for piece.atom byte) (get_or old m false) (get_or old (m + 1) false) (get_or places (m + 1) false)
      → Tell to_end pieces left old → TellFrom (m + 1) to_end pieces (byte ∷ left) places
      → TellFrom m to_end pieces (byte ∷ left) (set places m value)
  TellFrom-back left value told before behind j low high = ⊎_elim
      (λ lt. let same : j ≡ m = omega arith in
      rw (same, get_or-set_same places m value false long, told, before m (omega arith), before (m + 1) (omega arith), behind (m + 1) (omega arith) (omega arith))
      (sym (rw (← is) at (here-at_byte to_end pieces m piece byte left inside))))
      (λ ge. rw (get_or-set_other places m j value false (omega arith)) (behind j ge high))
      (cases_lt j (m + 1))

-- ---- one byte more, from the text's end to its start

pub text-back : (text : List ℕ) (left : ℕ) → 0 < left → left ≤ length text → drop (left - 1) text ≡ get_or text (left - 1) 0 ∷ drop left text
text-back text left some inside =
    drop_more text (left - 1) 0 (omega arith) ∙ ap (λ n. get_or text (left - 1) 0 ∷ drop n text) (omega arith)

pub Tell-back : (to_end : Bool) (text : List ℕ) (left : ℕ) (pieces : List Piece) (places next : List Bool) → 0 < left → left ≤ length text
    → ((behind : List ℕ) → Tell to_end pieces behind places → Tell to_end pieces (get_or text (left - 1) 0 ∷ behind) next)
    → Tell to_end pieces (drop left text) places → Tell to_end pieces (drop (left - 1) text) next
Tell-back to_end text left pieces places next some inside step told = rw (text-back text left some inside) (step (drop left text) told)

pub branch_at-back : (branch : Branch) (text : List ℕ) (left : ℕ) → 0 < left → left ≤ length text
    → branch_at branch (drop (left - 1) text)
    ≡ (pieces_at branch.to_end branch.pieces (drop (left - 1) text) || not branch.from_start && branch_at branch (drop left text))
branch_at-back branch text left some inside = rw (text-back text left some inside) refl

pub branch_at-end : (branch : Branch) (text : List ℕ) → branch_at branch (drop (length text) text) ≡ pieces_at branch.to_end branch.pieces []
branch_at-end branch text = rw (drop_all (length text) text (omega arith)) refl

-- ---- one branch more

module _ (pattern : List Branch) (text : List ℕ) (at : ℕ) where
  pub some_branch-more : (branch : Branch) → at < length pattern → branch ≡ get_or pattern at branch
      → some_branch (drop at pattern) text ≡ (branch_at branch text || some_branch (drop (at + 1) pattern) text)
  some_branch-more branch h is = rw (drop_more pattern at branch h, ← is) refl

  pub some_branch-end : length pattern ≤ at → some_branch (drop at pattern) text ≡ false
  some_branch-end h = rw (drop_all at pattern h) refl
