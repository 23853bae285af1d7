use Rattle.compaction_theory.proofs.Compacting.{every_file_compacted}
use Rattle.compaction_theory.proofs.every_file_compacted.Goals as goal

pub returns : goal.returns
returns c = every_file_compacted
