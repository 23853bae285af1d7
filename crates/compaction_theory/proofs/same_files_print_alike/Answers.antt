use Rattle.compaction_theory.proofs.Compacting.{same_files_print_alike}
use Rattle.compaction_theory.proofs.same_files_print_alike.Goals as goal

pub returns : goal.returns
returns c = same_files_print_alike
