use Rattle.std.proofs.Common.{◌≡◌, ℕ, ap, sym, ◌∙◌, subst}
use Rattle.std.specs.Prelude.{MatchBool, Some, nat_le}
use Rattle.update_log.specs.Legal.{BelowLimit}
use Rattle.update_log.specs.Pasts.{counted, limit_of, past_of}
use Rattle.daemon_core.specs.Housed.{HouseLogView, past_in}
use Rattle.daemon_core.proofs.LogLaws.{counted-within, cut-met}
use Rattle.daemon_core.proofs.house_log.HouseLog.is_cut.Goals as goal

pub returns-in-Some : goal.returns-in-Some
returns-in-Some c =
    let k = subst (λ (a : HouseLogView). MatchBool (nat_le c.in-Some.limit (counted (past_in a))) (limit_of (past_in a) ≡ Some (counted (past_in a))) (BelowLimit (past_in a))) c.self.view_is
    (cut-met (past_of c.self.inside.core.log) c.in-Some.limit (counted-within _ _ c.self.invariant.house_log.legal.1) (sym c.in-Some.ensures)) in
    subst (λ (n : ℕ). MatchBool (nat_le c.in-Some.limit n) (limit_of (past_in c.args.self.now) ≡ Some (counted (past_in c.args.self.now))) (BelowLimit (past_in c.args.self.now)))
    (sym (c.counted.ensures ∙ ap (λ (a : HouseLogView). counted (past_in a)) c.self.view_is)) k
