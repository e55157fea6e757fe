use Rattle.remote_set.proofs.Sizes.{few_merged, few_releases_merged}
use Rattle.remote_set.proofs.laws.no_more_is_merged.Goals as goal

pub returns-clause-components : goal.returns-clause-components
returns-clause-components c = few_merged

pub returns-clause-releases : goal.returns-clause-releases
returns-clause-releases c = few_releases_merged
