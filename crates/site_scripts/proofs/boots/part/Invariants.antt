use Rattle.std.proofs.Common.{◌≡◌, ◌++◌, map}
use Rattle.site_scripts.proofs.boots.part.Given as goal

abbrev pub invariant-loop-boot : goal.invariant-loop-boot
invariant-loop-boot l = record {
  planned : l.plans.items ++ map (λ boot. boot.plan) l.boot-iterator.rest.items ≡ map (λ boot. boot.plan) l.fn.boots.items;
  done : l.scripts.items ++ map (λ boot. boot.scripts) l.boot-iterator.rest.items ≡ map (λ boot. boot.scripts) l.fn.boots.items;
}
