use Rattle.formula_theory.proofs.Measures.{measure_foretells}
use Rattle.formula_theory.proofs.measure_foretells.Goals as goal

pub returns : goal.returns
returns c = measure_foretells
