-- An array of zeros that a text was copied into keeps the text.
use Rattle.std.proofs.Common.{◌≡◌, ℕ, ◌≤◌, List, ◌++◌, length, take, drop, Result, Ok, sym, ap, subst, ◌∙◌}
use Rattle.std.proofs.Math.ListN.{replicate}
use Rattle.std.proofs.lemmas.List.{take_at, drop-replicate}
use Rattle.fw_base.specs.Padded.{IsPadded, Keeps}

module _ (width : ℕ) (kept text : List ℕ) (same : kept ≡ text) (short : length text ≤ width) where
  -- the array
  abbrev whole : List ℕ
  whole = kept ++ drop (length text) (replicate width 0)

  kept-front : take (length text) whole ≡ text
  kept-front = take_at kept (drop (length text) (replicate width 0)) (length text) (ap length same) ∙ same

  pub kept_is_padded : IsPadded width whole (length text)
  kept_is_padded = record {
    short = short;
    is = rw kept-front (ap (λ (x : List ℕ). x ++ drop (length text) (replicate width 0)) same ∙ ap (λ (x : List ℕ). text ++ x) (drop-replicate (length text) width 0));
  }

  pub keeps : {F : Type 0} (read : List ℕ → Result (List ℕ) F) → read text ≡ Ok text → Keeps read width whole (length text)
  keeps {F} read accepted =
      let P : List ℕ → Type 0 = λ xs. read xs ≡ Ok xs in
      record { padded = kept_is_padded; accepted = subst P (sym kept-front) accepted }
