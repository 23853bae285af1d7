use Rattle.formula_theory.proofs.Counted.{no_more_than_calls}
use Rattle.formula_theory.proofs.no_more_than_calls.Goals as goal

pub returns : goal.returns
returns c = no_more_than_calls
