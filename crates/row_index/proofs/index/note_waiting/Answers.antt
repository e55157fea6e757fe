use Rattle.std.proofs.Common.{◌≡◌, true, cond, Some, ap, sym, ◌∙◌, arith}
use Rattle.std.specs.Str.{bytes_eq}
use Rattle.indexmap.specs.IndexMap.{get}
use Rattle.history_keeper.specs.Histories.{is_unsettled}
use Rattle.row_index.proofs.IndexLaws.{and-given, bytes-turned, ok-then}
use Rattle.row_index.proofs.index.note_waiting.Goals as goal

pub returns-then-is_unsettled-clause-noted : goal.returns-then-is_unsettled-clause-noted
returns-then-is_unsettled-clause-noted c = λ device.
    let waits : is_unsettled c.args.row.now.state ≡ true = sym c.is_unsettled.ensures ∙ c.if-is_unsettled.true in
    let now = ok-then c.insert.result (c.insert.ensures.succeeds (omega arith)) c.insert.ensures.updates in
    now.0 device
    ∙ ap (λ b. cond b (Some c.args.at) (get bytes_eq c.args.waiting.now device))
    (bytes-turned c.args.row.now.device device ∙ sym (and-given (is_unsettled c.args.row.now.state) (bytes_eq device c.args.row.now.device) waits))
