use Rattle.std.proofs.Common.{◌≡◌, drop}
use Rattle.release_catalogue.specs.Requirements.{each_guid}
use Rattle.release_catalogue.proofs.GuidTexts.{behind, texts}
use Rattle.release_catalogue.proofs.subject.each_guid.Given as goal

abbrev pub invariant-loop-part : goal.invariant-loop-part
invariant-loop-part l = each_guid (texts l.parts) ≡ behind l.guids.items (each_guid (texts (drop l.part-index l.parts)))
