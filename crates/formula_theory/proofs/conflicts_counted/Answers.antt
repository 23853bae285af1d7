use Rattle.formula_theory.proofs.Counted.{conflicts_counted}
use Rattle.formula_theory.proofs.conflicts_counted.Goals as goal

pub returns : goal.returns
returns c = conflicts_counted
