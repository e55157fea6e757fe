use Rattle.std.proofs.Common.{◌∙◌, sym}
use Rattle.client_threads.specs.declared.clients.Client.{Client}
use Rattle.client_threads.proofs.Dealt.{dealt-all, dealt-front}
use Rattle.client_threads.proofs.dealing.deal_out.Goals as goal

pub returns-clause-passes : goal.returns-clause-passes
returns-clause-passes g c =
    dealt-all (λ (k : Client g.row.P.Denot). k.pass) c.args.passes.now.items c.pop.new.self.items c.in-Some.own c.equip.new.clients.items
    (sym c.reverse.ensures.items ∙ c.in-Some.ensures.items) c.equip.ensures.passes

pub returns-clause-shelves : goal.returns-clause-shelves
returns-clause-shelves g c =
    dealt-front (λ (k : Client g.row.P.Denot). k.shelf) c.args.shelves.now.items c.equip.new.shelves.items c.equip.new.clients.items
    (sym c.reverse-2.ensures.items ∙ c.equip.ensures.shelves)
