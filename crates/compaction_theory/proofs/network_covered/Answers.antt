use Rattle.compaction_theory.proofs.Related.{network_covered}
use Rattle.compaction_theory.proofs.network_covered.Goals as goal

pub returns : goal.returns
returns c = network_covered
