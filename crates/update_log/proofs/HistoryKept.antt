-- Each legal past keeps the rows a valid history.
use Rattle.std.proofs.Common.{List}
use Rattle.history_keeper.specs.Histories.{IsHistory}
use Rattle.update_log.proofs.LegalOnce.{past-kept-on}
use Rattle.update_log.proofs.LinksKept.{link-kept-on}
use Rattle.update_log.proofs.LinksOnce.{are-linked, no-two-try}
use Rattle.update_log.proofs.Openings.{tags-differ}
use Rattle.update_log.proofs.Unlimited.{unlimited}
use Rattle.update_log.proofs.WaitsKept.{wait-kept-on}
use Rattle.update_log.proofs.WaitsOnce.{each-entry, no-two-wait}
use Rattle.update_log.specs.Known.{rows}
use Rattle.update_log.specs.Legal.{IsLegal, IsLegalUnlimited}
use Rattle.update_log.specs.Shows.{Campaign}
use Rattle.update_log.specs.declared.event.Event.{Event}

-- The rows of a past that is legal but for limits are a valid history.
pub rows-history-on : (c : Campaign) (past : List Event) → IsHistory c.basis.opening → IsLegalUnlimited c past → IsHistory (rows c.basis past)
rows-history-on c past valid legal =
    let k = past-kept-on c past valid legal in
    let w = wait-kept-on c past valid legal in
    let l = link-kept-on c past valid legal in
    let r = k.rows_kept in
    record {
      entries = each-entry 1 (rows c.basis past) r.valid.entries;
      tags = tags-differ (rows c.basis past) r.valid.tags;
      unsettled = no-two-wait (rows c.basis past) w.once;
      linked = are-linked (rows c.basis past) r.valid.entries l.linked;
      retried = no-two-try (rows c.basis past) l.once;
    }

-- The same of legal pasts.
pub rows-history : (c : Campaign) (past : List Event) → IsHistory c.basis.opening → IsLegal c past → IsHistory (rows c.basis past)
rows-history c past valid legal = rows-history-on c past valid (unlimited c past legal)
