-- A page that was written, or a front of it.
use Rattle.std.proofs.Common.{◌≡◌, ℕ, List, [], ◌++◌, Option, Result, Ok, Err, refl, sym, ap, ◌∙◌, subst, inl, inr}
use Rattle.std.specs.Prelude.{IfOk, OnOk, OnErr}
use Rattle.outer_traits.specs.Sources.{Came, AtEnd, SomeCame}
use Rattle.outer_traits.specs.Sinks.{Took, TookFront}
use Rattle.report_view.specs.declared.drawn.Drawn.{Drawn}
use Rattle.report_view.specs.Pages.{drawn_of, page}
use Rattle.report_view.specs.Views.{Shown, ShownFront}
use Rattle.report_view.proofs.EachOnce.{each_once}

-- a page that was put behind nothing
pub put_alone : (old new text : List ℕ) → old ≡ [] → new ≡ old ++ text → new ≡ text
put_alone old new text none put = put ∙ ap (λ (front : List ℕ). front ++ text) none

pub took_page : (old new text : List ℕ) (a b : Option (List ℕ)) → old ≡ [] → new ≡ old ++ page text → Took new a b → Took (page text) a b
took_page old new text a b none put took =
    let P : List ℕ → Type 0 = λ bytes. Took bytes a b in
    subst P (put_alone old new (page text) none put) took

pub took_front : (old new text : List ℕ) (a b : Option (List ℕ)) → old ≡ [] → new ≡ old ++ page text → TookFront new a b → TookFront (page text) a b
took_front old new text a b none put took =
    let P : List ℕ → Type 0 = λ bytes. TookFront bytes a b in
    subst P (put_alone old new (page text) none put) took

pub shown : (drawn : Drawn) (text : List ℕ) (a b c d : Option (List ℕ)) → Came text a b → AtEnd b → Took (page text) c d → drawn ≡ drawn_of text → Shown drawn a b c d
shown drawn text a b c d came ended took said = record { text = text; came = came; ended = ended; took = took; once = each_once text; said = said }

pub shown_front : (text : List ℕ) (a b c d : Option (List ℕ)) → Came text a b → TookFront (page text) c d → ShownFront a b c d
shown_front text a b c d came took = inr (record { text = text; came = came; took = took })

pub shown_nothing : (a b c : Option (List ℕ)) → SomeCame a b → ShownFront a b c c
shown_nothing a b c came = inl (came, refl)

-- what was read is in a vector, and seen as a slice
pub shown_ok : {E : Type 0} (r : Result Drawn E) (found text : List ℕ) (a b c d : Option (List ℕ)) → found ≡ text → Came text a b → AtEnd b
    → OnOk r (Took (page found) c d) → IfOk r (λ drawn. drawn ≡ drawn_of found) → IfOk r (λ drawn. Shown drawn a b c d)
shown_ok (Ok drawn) found text a b c d is came ended took said =
    let P : List ℕ → Type 0 = λ bytes. Came bytes a b in
    shown drawn found a b c d (subst P (sym is) came) ended took said
shown_ok (Err stop) found text a b c d is came ended took said = tt

pub shown_err : {T E : Type 0} (r : Result T E) (found text : List ℕ) (a b c d : Option (List ℕ)) → found ≡ text → Came text a b
    → OnErr r (TookFront (page found) c d) → OnErr r (ShownFront a b c d)
shown_err (Ok drawn) found text a b c d is came took = tt
shown_err (Err stop) found text a b c d is came took =
    let P : List ℕ → Type 0 = λ bytes. Came bytes a b in
    shown_front found a b c d (subst P (sym is) came) took
