use Rattle.std.proofs.Common.{◌≡◌, ◌+◌, ℕ, List, length, ap, ◌∙◌, arith}
use Rattle.history_keeper.specs.declared.row.Row.{Row}
use Rattle.core_state.proofs.FirstSteps.{stands-reserved}
use Rattle.core_state.specs.Core.{Core}
use Rattle.update_log.specs.Known.{basis_of, rows}
use Rattle.update_log.specs.Pasts.{past_of}
use Rattle.update_plans.specs.Plans.{release_at, request_of, scene}
use Rattle.update_plans.proofs.Puts.{digest-of, few-good}
use Rattle.update_plans.proofs.planner.Asker.put.Goals as goal

pub overflow_cast-entry : goal.overflow_cast-entry
overflow_cast-entry g c =
    let few = few-good (scene (basis_of c.args.self.now.facts.now g.at.opening) c.args.self.now.client c.args.self.now.tag.now) g.at.number c.args.step.now g.at.before c.requires.1.1.1.1.1.1.0 in
    let many : length c.rows.result.now ≡ length (rows (basis_of c.args.self.now.facts.now g.at.opening) g.at.before) =
    ap (λ (rs : List Row). length rs) (c.rows.ensures ∙ ap (λ (core : Core). core.rows) c.in_ok-reserve.ensures.same ∙ c.requires.1.1.1.1.0.rows ∙ ap (rows (basis_of c.args.self.now.facts.now g.at.opening)) c.requires.1.1.1.0) in
    omega (arith, few, many)

pub overflow_add-entry : goal.overflow_add-entry
overflow_add-entry g c =
    let few = few-good (scene (basis_of c.args.self.now.facts.now g.at.opening) c.args.self.now.client c.args.self.now.tag.now) g.at.number c.args.step.now g.at.before c.requires.1.1.1.1.1.1.0 in
    let many : length c.rows.result.now ≡ length (rows (basis_of c.args.self.now.facts.now g.at.opening) g.at.before) =
    ap (λ (rs : List Row). length rs) (c.rows.ensures ∙ ap (λ (core : Core). core.rows) c.in_ok-reserve.ensures.same ∙ c.requires.1.1.1.1.0.rows ∙ ap (rows (basis_of c.args.self.now.facts.now g.at.opening)) c.requires.1.1.1.0) in
    omega (arith, few, many)

pub take-requires : goal.take-requires
take-requires g c =
    let s = scene (basis_of c.args.self.now.facts.now g.at.opening) c.args.self.now.client c.args.self.now.tag.now in
    let many : length c.rows.result.now ≡ length (rows s.basis g.at.before) =
    ap (λ (rs : List Row). length rs) (c.rows.ensures ∙ ap (λ (core : Core). core.rows) c.in_ok-reserve.ensures.same ∙ c.requires.1.1.1.1.0.rows ∙ ap (rows s.basis) c.requires.1.1.1.0) in (
      λ chosen same. c.request-request.ensures g.at.opening chosen same ∙ ap (λ (n : ℕ). request_of s n c.args.step.now chosen) c.requires.1.1.0,
      (
        record {
          before_is = ap (λ (core : Core). past_of core.log) c.in_ok-reserve.ensures.same ∙ c.requires.1.1.1.0;
          stands = stands-reserved s.basis c.args.state.now c.reserve.new.self c.in_ok-reserve.ensures.same c.requires.1.1.1.1.0;
          quiet = c.requires.1.1.1.1.1.0;
          good = c.requires.1.1.1.1.1.1.0;
          release_is = c.requires.1.1.1.1.1.1.1;
          entry_is = ap (λ (n : ℕ). n + 1) many;
        },
        (omega (arith, c.in_ok-reserve.ensures.room), (c.in_ok-reserve.ensures.row)),
      ),
    )

pub make_all-requires : goal.make_all-requires
make_all-requires g c =
    let s = scene (basis_of c.args.self.now.facts.now g.at.opening) c.args.self.now.client c.args.self.now.tag.now in
    let many : length c.rows.result.now ≡ length (rows s.basis g.at.before) =
    ap (λ (rs : List Row). length rs) (c.rows.ensures ∙ ap (λ (core : Core). core.rows) c.in_ok-reserve.ensures.same ∙ c.requires.1.1.1.1.0.rows ∙ ap (rows s.basis) c.requires.1.1.1.0) in
    (c.take.ensures.put, (digest-of (release_at s c.args.step.now.release) c.args.release.now c.requires.1.1.1.1.1.1.1, (ap (λ (n : ℕ). n + 1) many, (omega (arith, c.in_ok-reserve.ensures.room, c.take.ensures.room)))))

pub finish-requires : goal.finish-requires
finish-requires g c =
    let s = scene (basis_of c.args.self.now.facts.now g.at.opening) c.args.self.now.client c.args.self.now.tag.now in
    let many : length c.rows.result.now ≡ length (rows s.basis g.at.before) =
    ap (λ (rs : List Row). length rs) (c.rows.ensures ∙ ap (λ (core : Core). core.rows) c.in_ok-reserve.ensures.same ∙ c.requires.1.1.1.1.0.rows ∙ ap (rows s.basis) c.requires.1.1.1.0) in
    (c.make_all.ensures.put, (ap (λ (n : ℕ). n + 1) many, (omega (arith, c.in_ok-reserve.ensures.room, c.take.ensures.room, c.make_all.ensures.room))))

pub returns-clause-past : goal.returns-clause-past
returns-clause-past g c = c.finish.ensures.past

pub returns-clause-stands : goal.returns-clause-stands
returns-clause-stands g c = c.finish.ensures.stands
