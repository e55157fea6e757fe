use Rattle.std.proofs.Common.{take, true}
use Rattle.guid_ids.specs.Identifiers.{guid_text}
use Rattle.client_scripts.proofs.Worded.{Worded, words_of}
use Rattle.client_scripts.proofs.commas.put_guids.Given as goal

abbrev pub invariant-loop-guid : goal.invariant-loop-guid
invariant-loop-guid l = Worded (words_of (λ guid. true) guid_text (take l.guid-index l.guids)) l.fn.out.items l.out.items l.begun
