use Rattle.formula_theory.proofs.Completions.{completion}
use Rattle.formula_theory.proofs.completion_follows.Goals as goal

pub returns : goal.returns
returns c = completion
