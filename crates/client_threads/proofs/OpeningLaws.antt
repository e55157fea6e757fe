-- The rows before the log stay those that the keeper came with, however a boot begins or doesn't.
use Rattle.std.proofs.Common.{◌≡◌, ◌⊎◌, Bool, true, false, List, [], refl, sym, ◌∙◌, subst, inl, inr}
use Rattle.std.specs.Prelude.{MatchBool}
use Rattle.history_keeper.specs.declared.row.Row.{Row}
use Rattle.history_keeper.specs.Histories.{IsHistory}
use Rattle.history_keeper.specs.Keepers.{StillTold}
use Rattle.daemon_core.specs.Reading.{AreTold}

-- What the keeper came with, what it tells here, whether a boot took rows, and which.
abbrev pub Told : Bool → (List Row → Type 0) → (List Row → Type 0) → List Row → Type 0
Told loaded here came opening = MatchBool loaded (AreTold came here opening) (StillTold came here × ((opening ≡ []) ⊎ AreTold came here opening))

-- The same over the start of a boot.
abbrev pub Stays : Bool → Bool → (List Row → Type 0) → (List Row → Type 0) → List Row → List Row → Type 0
Stays was now before after opening new_opening =
    MatchBool was
    ((now ≡ true) × (new_opening ≡ opening))
    (MatchBool now
    (AreTold before after new_opening)
    (StillTold before after × ((new_opening ≡ opening) ⊎ AreTold before after new_opening)))

refused-still : (before after came : List Row → Type 0) (opening new_opening : List Row) → StillTold came before → StillTold before after → (new_opening ≡ opening) ⊎ AreTold before after new_opening → (opening ≡ []) ⊎ AreTold came before opening → (new_opening ≡ []) ⊎ AreTold came after new_opening
refused-still before after came opening new_opening c s (inl o) (inl e) = inl (o ∙ e)
refused-still before after came opening new_opening c s (inl o) (inr h) = inr (λ all t. subst came (sym o) (h all (s all t)))
refused-still before after came opening new_opening c s (inr a) r = inr (λ all t. c new_opening (a all t))

-- So what held before a boot holds behind it.
pub told-stays : (was now : Bool) (before after came : List Row → Type 0) (opening new_opening : List Row) → ((all : List Row) → after all → (rows : List Row) × before rows) → Stays was now before after opening new_opening → Told was before came opening → Told now after came new_opening
told-stays true true before after came opening new_opening b s t = λ all x. let m = b all x in subst came (sym s.1) (t m.0 m.1)
told-stays true false before after came opening new_opening b s t = let e = s.0 in cc
told-stays false true before after came opening new_opening b s t = λ all x. t.0 new_opening (s all x)
told-stays false false before after came opening new_opening b s t = (λ all x. t.0 all (s.0 all x), refused-still before after came opening new_opening t.0 s.0 s.1 t.1)

-- A boot went well: it took them, or one before it did.
pub stays-well : (was now : Bool) (before after : List Row → Type 0) (opening new_opening : List Row) → now ≡ true → MatchBool was (new_opening ≡ opening) (IsHistory new_opening × AreTold before after new_opening) → Stays was now before after opening new_opening
stays-well true now before after opening new_opening e m = (e, m)
stays-well false true before after opening new_opening e m = m.1
stays-well false false before after opening new_opening e m = cc

-- None was taken.
pub stays-same : (was now : Bool) (before after : List Row → Type 0) (opening new_opening : List Row) → now ≡ was → (was ≡ false → StillTold before after) → new_opening ≡ opening → Stays was now before after opening new_opening
stays-same true now before after opening new_opening e s o = (e, o)
stays-same false true before after opening new_opening e s o = cc
stays-same false false before after opening new_opening e s o = (s refl, inl o)

-- They were refused.
pub stays-refused : (was now : Bool) (before after : List Row → Type 0) (opening new_opening : List Row) → now ≡ was → (was ≡ false → StillTold before after) → (was ≡ true → new_opening ≡ opening) → (was ≡ false → AreTold before after new_opening) → Stays was now before after opening new_opening
stays-refused true now before after opening new_opening e s o r = (e, o refl)
stays-refused false true before after opening new_opening e s o r = cc
stays-refused false false before after opening new_opening e s o r = (s refl, inr (r refl))

-- None was read yet.
pub told-new : (loaded : Bool) (came : List Row → Type 0) (opening : List Row) → loaded ≡ false → opening ≡ [] → Told loaded came came opening
told-new true came opening e o = cc
told-new false came opening e o = (λ all t. t, inl o)
