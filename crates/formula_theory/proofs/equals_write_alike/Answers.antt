use Rattle.formula_theory.proofs.Equals.{equals_write_alike}
use Rattle.formula_theory.proofs.equals_write_alike.Goals as goal

pub returns : goal.returns
returns c = equals_write_alike
