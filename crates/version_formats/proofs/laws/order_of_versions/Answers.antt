use Rattle.version_formats.proofs.VersionLaws.{version_cmp-reflexive, version_cmp-back, version_cmp-transitive, sections-same, version_cmp-equal}
use Rattle.version_formats.proofs.laws.order_of_versions.Goals as goal

pub returns : goal.returns
returns c = record {
  reflexive = version_cmp-reflexive;
  total = version_cmp-back;
  transitive = version_cmp-transitive;
  equal_sections = λ a b. (sections-same a b, version_cmp-equal a b);
}
