use Rattle.std.proofs.Common.{◌≡◌, ℕ, ◌<◌, List, [], ◌∷◌, ◌++◌, All, map, refl, ap, sym, ◌∙◌, subst, arith, eq-eqb, append-nil}
use Rattle.std.proofs.lemmas.List.Elements.{All-head}
use Rattle.turn_lock.specs.declared.tests.Count.{Count}
use Rattle.turn_lock.specs.Lists.{BeginsWith, beyond, made_by}
use Rattle.turn_lock.specs.Shown.{PassView, IsFresh, HasItsEntries}
use Rattle.turn_lock.proofs.Counting.{beyond_append}
use Rattle.turn_lock.proofs.tests.closed_at_once.Goals as goal

module _ {E : Type 0} (by : E → ℕ) where
  -- a list whose entries are all of the first pass has one where that pass has one
  none_made : (list : List E) → All (λ (e : E). by e < 1) list → made_by by 0 list ≡ [] → list ≡ []
  none_made [] all none = refl
  none_made (e ∷ es) all none =
      let low : by e < 1 = All-head (λ (x : E). by x < 1) e es all in
      let some : e ∷ made_by by 0 es ≡ [] = rw (eq-eqb (by e) 0 (omega arith)) at none in cc

  -- where the only pass made nothing, the list is the one at the start
  nothing_made : (start list : List E) (ps : List (PassView E)) → map (λ (p : PassView E). p.number) ps ≡ 0 ∷ [] → All (IsFresh start) ps
      → BeginsWith list start → All (HasItsEntries by start list) ps → All (λ (e : E). by e < 1) (beyond start list) → start ≡ list
  nothing_made start list [] numbers fresh begins mine makers = cc
  nothing_made start list (p ∷ ps) numbers fresh begins mine makers =
      let zero_is : p.number ≡ 0 = cc in
      let first : made_by by 0 (beyond start list) ≡ [] = ap (λ (n : ℕ). made_by by n (beyond start list)) (sym zero_is)
      ∙ (sym (All-head (HasItsEntries by start list) p ps mine) ∙ (All-head (IsFresh start) p ps fresh).2) in
      let rest : beyond start list ≡ begins.0 = ap (λ (l : List E). beyond start l) begins.1 ∙ beyond_append start begins.0 in
      let none : begins.0 ≡ [] = sym rest ∙ none_made (beyond start list) makers first in
      sym (begins.1 ∙ (ap (λ (l : List E). start ++ l) none ∙ append-nil start))

pub returns-in-Ok : goal.returns-in-Ok
returns-in-Ok c =
    let P : List Count → Type 0 = λ start. All (IsFresh start) c.in-Ok.passes.items in
    let closed = c.close-items.ensures in
    let by : Count → ℕ = λ e. e.pass in
    let list = c.close-items.result.items.items in
    let start = c.in-Ok.lock.start in
    let Q : ℕ → Type 0 = λ n. All (λ (e : Count). e.pass < n) (beyond start list) in
    sym c.in-Ok.ensures.start ∙ nothing_made by start list c.in-Ok.passes.items c.in-Ok.ensures.numbers
    (subst P (sym c.in-Ok.ensures.start) c.in-Ok.ensures.fresh) closed.begins closed.mine (subst Q c.in-Ok.ensures.seats closed.makers)
