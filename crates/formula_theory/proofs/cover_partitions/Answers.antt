use Rattle.formula_theory.proofs.Covers.{cover_partitions}
use Rattle.formula_theory.proofs.cover_partitions.Goals as goal

pub returns : goal.returns
returns c = cover_partitions
