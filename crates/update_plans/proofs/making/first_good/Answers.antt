use Rattle.std.proofs.Common.{◌≡◌, ◌+◌, None, drop, sym, ap, ◌∙◌, arith, rules}
use Rattle.std.proofs.Math.ListN.{drop_of_length-le}
use Rattle.update_log.specs.Pasts.{past_of}
use Rattle.update_log.specs.Known.{basis_of}
use Rattle.update_plans.specs.Choosing.{tried}
use Rattle.update_plans.specs.Plans.{scene}
use Rattle.update_plans.proofs.Taking.{first-is, first-none, first-tried, none-there, not-above, tried-got}
use Rattle.update_plans.proofs.making.first_good.Goals as goal

pub returns-in_err-version : goal.returns-in_err-version
returns-in_err-version c = λ opening stands quiet.
    let s = scene (basis_of c.args.asker.now.facts.now opening) c.args.asker.now.client c.args.asker.now.tag.now in
    let past = past_of c.args.state.now.log in
    let rest = tried s c.args.number c.args.view.now c.args.shown.now past (drop (c.loop-index.index + 1) c.args.releases.now) in
    let e : tried s c.args.number c.args.view.now c.args.shown.now past c.args.releases.now ≡ None =
    sym (c.loop-index.invariant opening stands quiet)
    ∙ tried-got s c.args.number c.args.view.now c.args.shown.now past c.args.releases.now c.loop-index.index c.release_at-release.result c.release_at-release.ensures
    ∙ none-there s c.args.number c.args.view.now c.args.shown.now past c.release_at-release.result rest (sym c.in_err-version.ensures) in
    rw e (search rules)

pub returns-then-not-is_above : goal.returns-then-not-is_above
returns-then-not-is_above c = λ opening stands quiet.
    let s = scene (basis_of c.args.asker.now.facts.now opening) c.args.asker.now.client c.args.asker.now.tag.now in
    let past = past_of c.args.state.now.log in
    let rest = tried s c.args.number c.args.view.now c.args.shown.now past (drop (c.loop-index.index + 1) c.args.releases.now) in
    sym
    (sym (c.loop-index.invariant opening stands quiet)
    ∙ tried-got s c.args.number c.args.view.now c.args.shown.now past c.args.releases.now c.loop-index.index c.release_at-release.result c.release_at-release.ensures
    ∙ not-above s c.args.number c.args.view.now c.args.shown.now past c.release_at-release.result rest c.in_ok-version.version.now (sym c.in_ok-version.ensures) (sym c.is_above.ensures ∙ c.if-not-is_above.true))

pub returns-then-is_some : goal.returns-then-is_some
returns-then-is_some c = λ opening stands quiet.
    let s = scene (basis_of c.args.asker.now.facts.now opening) c.args.asker.now.client c.args.asker.now.tag.now in
    let past = past_of c.args.state.now.log in
    let rest = tried s c.args.number c.args.view.now c.args.shown.now past (drop (c.loop-index.index + 1) c.args.releases.now) in
    sym
    (sym (c.loop-index.invariant opening stands quiet)
    ∙ tried-got s c.args.number c.args.view.now c.args.shown.now past c.args.releases.now c.loop-index.index c.release_at-release.result c.release_at-release.ensures
    ∙ first-tried s c.args.number c.args.view.now c.args.shown.now past c.release_at-release.result rest c.in_ok-version.version.now c.good_step-found.result (sym c.in_ok-version.ensures)
    (sym c.is_above.ensures ∙ c.if-not-is_above.false) (c.good_step-found.ensures opening stands quiet)
    ∙ first-is c.good_step-found.result rest (sym c.is_some.ensures ∙ c.if-is_some.true))

pub loop-index-preserved : goal.loop-index-preserved
loop-index-preserved c = λ opening stands quiet.
    let s = scene (basis_of c.args.asker.now.facts.now opening) c.args.asker.now.client c.args.asker.now.tag.now in
    let past = past_of c.args.state.now.log in
    let rest = tried s c.args.number c.args.view.now c.args.shown.now past (drop (c.loop-index.index + 1) c.args.releases.now) in
    sym
    (tried-got s c.args.number c.args.view.now c.args.shown.now past c.args.releases.now c.loop-index.index c.release_at-release.result c.release_at-release.ensures
    ∙ first-tried s c.args.number c.args.view.now c.args.shown.now past c.release_at-release.result rest c.in_ok-version.version.now c.good_step-found.result (sym c.in_ok-version.ensures)
    (sym c.is_above.ensures ∙ c.if-not-is_above.false) (c.good_step-found.ensures opening stands quiet)
    ∙ first-none c.good_step-found.result rest (sym c.is_some.ensures ∙ c.if-is_some.false))
    ∙ c.loop-index.invariant opening stands quiet

pub returns : goal.returns
returns c = λ opening stands quiet.
    let s = scene (basis_of c.args.asker.now.facts.now opening) c.args.asker.now.client c.args.asker.now.tag.now in
    let past = past_of c.args.state.now.log in
    ap (tried s c.args.number c.args.view.now c.args.shown.now past) (sym (drop_of_length-le c.args.releases.now {i = c.loop-index.index} (omega (arith, c.loop-index-test.false)))) ∙ c.loop-index.invariant opening stands quiet
