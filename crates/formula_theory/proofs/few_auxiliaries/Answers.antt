use Rattle.formula_theory.proofs.Counted.{few_auxiliaries}
use Rattle.formula_theory.proofs.few_auxiliaries.Goals as goal

pub returns : goal.returns
returns c = few_auxiliaries
