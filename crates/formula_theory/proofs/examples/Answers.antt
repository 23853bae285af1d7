use Rattle.std.proofs.Common.{refl}
use Rattle.formula_theory.proofs.examples.Goals as goal

pub returns : goal.returns
returns c = record {
  covers = record { two_by_two = (refl, refl); two_by_three = (refl, refl); clauses = refl };
  chosen = record { seven = (refl, refl); eight = (refl, refl); nine = (refl, refl) };
}
