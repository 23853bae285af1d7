use Rattle.std.proofs.Common.{◌∙◌, sym, rules}
use Rattle.std.proofs.lemmas.Iterator.{YieldsList-from_slice}
use Rattle.std.proofs.lemmas.Iterator.Search.{position_from_yields_List}
use Rattle.logic.specs.Clause.{holds}
use Rattle.formula_theory.specs.Outcome.{assignment_of}
use Rattle.writing_theory.proofs.Values.{true_place_is}
use Rattle.formula.proofs.completing.true_place.Goals as goal

pub returns : goal.returns
returns c =
    let s = assignment_of c.args.values.now in
    position_from_yields_List (holds s) _ _ c.position.result c.position.ensures.ran (YieldsList-from_slice c.args.literals.now cc) (λ x b q k. search rules)
    ∙ sym (true_place_is s c.args.literals.now)
