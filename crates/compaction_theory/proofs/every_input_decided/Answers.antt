use Rattle.compaction_theory.proofs.Decides.{every_input_decided}
use Rattle.compaction_theory.proofs.every_input_decided.Goals as goal

pub returns : goal.returns
returns c = every_input_decided
