use Rattle.formula_theory.proofs.Laws.{writing_is_faithful}
use Rattle.formula_theory.proofs.writing_is_faithful.Goals as goal

pub returns : goal.returns
returns c = writing_is_faithful
