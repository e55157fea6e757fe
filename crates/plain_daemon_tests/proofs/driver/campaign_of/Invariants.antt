use Rattle.std.proofs.Common.{◌≡◌, ◌≤◌, ◌-◌, ◌^◌, All, length}
use Rattle.client_plays.specs.Endings.{IsScriptItem}
use Rattle.plain_daemon_tests.proofs.driver.campaign_of.Given as goal

abbrev pub invariant-loop-morning : goal.invariant-loop-morning
invariant-loop-morning l = record {
  timely : All (λ plan. plan.time ≤ 2 ^ 63 - 1) l.plans.items;
  proper : All (All (All IsScriptItem)) l.scripts.items;
  one : All (λ of_boot. length of_boot ≡ 1) l.scripts.items;
}
