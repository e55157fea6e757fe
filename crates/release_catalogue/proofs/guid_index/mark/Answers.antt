use Rattle.std.proofs.Common.{◌<◌, ◌||◌, Bool, ℕ, false, eqb, get_or, length, refl, sym, ap, ◌∙◌, eq-eqb, arith}
use Rattle.std.proofs.lemmas.List.Folds.{list_any_at, list_any_more}
use Rattle.release_catalogue.proofs.Indexes.{marked, or_assoc}
use Rattle.release_catalogue.proofs.guid_index.mark.Goals as goal

pub bounds-marks-at : goal.bounds-marks-at
bounds-marks-at c =
    let at : ℕ = get_or c.args.places.now c.loop-at.at-index 0 in
    let inside : at < length c.args.marks.now = c.requires at (list_any_at (λ n. eqb n at) c.args.places.now c.loop-at.at-index 0 c.loop-at-test.true (eq-eqb at at refl)) in
    omega (arith, inside, c.loop-at.auto.marks)

pub loop-at-preserved : goal.loop-at-preserved
loop-at-preserved c = λ place.
    let at : ℕ = get_or c.args.places.now c.loop-at.at-index 0 in
    let inside : at < length c.args.marks.now = c.requires at (list_any_at (λ n. eqb n at) c.args.places.now c.loop-at.at-index 0 c.loop-at-test.true (eq-eqb at at refl)) in
    let lt : at < length c.loop-at.marks = omega (arith, inside, c.loop-at.auto.marks) in
    marked c.loop-at.marks at place lt
    ∙ ap (λ (b : Bool). b || eqb at place) (c.loop-at.invariant place)
    ∙ or_assoc (get_or c.args.marks.now place false) _ (eqb at place)
    ∙ ap (λ (b : Bool). get_or c.args.marks.now place false || b) (sym (list_any_more (λ n. eqb n place) c.args.places.now c.loop-at.at-index 0 c.loop-at-test.true))
