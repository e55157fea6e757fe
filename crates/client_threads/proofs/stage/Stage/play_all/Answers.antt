use Rattle.std.proofs.Common.{◌≡◌, ℕ, ◌++◌, length, take, drop, ap, ◌∙◌, arith}
use Rattle.std.proofs.Math.Seq.{take-append_seam}
use Rattle.plugin_trait.specs.Steps.{steps_at}
use Rattle.client_threads.specs.Clients.{PlayedScript}
use Rattle.client_threads.proofs.Behind.{each-lent}
use Rattle.client_threads.proofs.stage.Stage.play_all.Goals as goal

pub returns-clause-played : goal.returns-clause-played
returns-clause-played g c =
    let old = c.args.clients.now.items in
    let lent = c.as_mut_slice.result.now in
    let given = c.play_shared.new.clients in
    let kept = c.play_shared.auto.clients in
    let all : c.args.clients.now.len ≡ length old = c.args.clients.now.ok.0 in
    let many : length lent ≡ length old = ap length c.as_mut_slice.ensures.value in
    let count : c.args.clients.now.len ≡ length given = omega (arith, kept, all, many) in
    each-lent (PlayedScript g.P.Shelf.files (steps_at (λ b. (goal.Plugin-dyn g (b.vtable, b.value)).steps b.value) c.args.self.now.plugins.now) g.P.Shelf.faults c.args.daemon.now.id g.N.Naming.name c.args.self.now.of_boot.now)
    old lent given (take c.args.clients.now.len (given ++ drop (length given) old)) c.as_mut_slice.ensures.value
    (ap (λ (n : ℕ). take n (given ++ drop (length given) old)) count ∙ take-append_seam given (drop (length given) old)) c.play_shared.ensures.played
