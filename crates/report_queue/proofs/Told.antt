-- What a keeper tells over several calls, by what each of them did.
use Rattle.std.proofs.Common.{ℕ, List, sym, subst}
use Rattle.std.specs.Prelude.{Option, Some, None, option_map, IfSome}
use Rattle.report_queue.specs.Marking.{MarksStay, MarksWith, OverTold, with_entry}

-- Nothing was asked of it.
pub over_none : (tells : List ℕ → Type 0) (P : Option (List ℕ) → Option (List ℕ) → Type 0) → ((o : Option (List ℕ)) → P o o) → OverTold tells tells P
over_none tells P each = λ after told. (after, told, each after)

module _ (old new : List ℕ → Type 0) (P : Option (List ℕ) → Option (List ℕ) → Type 0) where
  -- It tells what it told.
  pub over_stay : MarksStay old new → ((o : Option (List ℕ)) → P o o) → OverTold old new P
  over_stay stay each = go
    where
      go : (after : Option (List ℕ)) → IfSome after new → (before : Option (List ℕ)) × IfSome before old × P before after
      go None told = (None, tt, each None)
      go (Some all) told = (Some all, stay all told, each (Some all))

  -- It tells one entry more.
  pub over_with : (entry : ℕ) → MarksWith entry old new → ((o : Option (List ℕ)) → P o (option_map (with_entry entry) o)) → OverTold old new P
  over_with entry made each = go
    where
      go : (after : Option (List ℕ)) → IfSome after new → (before : Option (List ℕ)) × IfSome before old × P before after
      go None told = (None, tt, each None)
      go (Some all) told =
          let b = made all told in
          (Some b.0, b.1, subst (λ (n : List ℕ). P (Some b.0) (Some n)) (sym b.2) (each (Some b.0)))

  -- What is tied so is tied otherwise too.
  pub over_weaker : (Q : Option (List ℕ) → Option (List ℕ) → Type 0) → OverTold old new Q → ((before after : Option (List ℕ)) → Q before after → P before after) → OverTold old new P
  over_weaker Q h each = λ after told. let b = h after told in (b.0, b.1, each b.0 after b.2)

  -- Some calls, and then others.
  pub over_then : (middle : List ℕ → Type 0) (Q R : Option (List ℕ) → Option (List ℕ) → Type 0) → OverTold old middle Q → OverTold middle new R
      → ((before between after : Option (List ℕ)) → IfSome between middle → Q before between → R between after → P before after) → OverTold old new P
  over_then middle Q R h k each = λ after told.
      let m = k after told in
      let b = h m.0 m.1 in
      (b.0, b.1, each b.0 m.0 after m.1 b.2 m.2)
