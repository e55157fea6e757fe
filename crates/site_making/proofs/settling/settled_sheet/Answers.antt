use Rattle.site_making.specs.Priorities.{priority_of}
use Rattle.site_making.proofs.SheetLaws.{settled_is}
use Rattle.site_making.proofs.settling.settled_sheet.Goals as goal

pub returns : goal.returns
returns c =
    settled_is c.args.quirks.now (priority_of c.args.running.now.names.items c.args.running.now.priorities.items) c.args.sheet.now
    c.in_ok-settled.settled c.apply.new.sheet c.priority_of-more.result c.in_ok-settled.ensures c.in_ok-apply.ensures.applied c.priority_of-more.ensures.value
