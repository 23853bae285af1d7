use Rattle.formula_theory.proofs.Promised.{faithfulness}
use Rattle.formula_theory.proofs.faithfulness_follows.Goals as goal

pub returns : goal.returns
returns c = faithfulness
