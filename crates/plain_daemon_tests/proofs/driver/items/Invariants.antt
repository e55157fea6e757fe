use Rattle.std.proofs.Common.{All}
use Rattle.client_plays.specs.Endings.{IsScriptItem}
use Rattle.plain_daemon_tests.proofs.driver.items.Given as goal

abbrev pub invariant-loop-deed : goal.invariant-loop-deed
invariant-loop-deed l = record { proper : All IsScriptItem l.items.items }
