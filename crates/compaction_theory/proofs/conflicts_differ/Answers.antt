use Rattle.compaction_theory.proofs.Differing.{differing_more, conflicts_differ}
use Rattle.compaction_theory.proofs.conflicts_differ.Goals as goal

pub returns : goal.returns
returns c = record { more = differing_more; covered = conflicts_differ }
