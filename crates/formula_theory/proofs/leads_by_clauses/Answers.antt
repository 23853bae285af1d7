use Rattle.formula_theory.proofs.Pieces.{leads_by_clauses}
use Rattle.formula_theory.proofs.leads_by_clauses.Goals as goal

pub returns : goal.returns
returns c = leads_by_clauses
