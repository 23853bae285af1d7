use Rattle.std.proofs.Common.{leb, refl, rules}
use Rattle.std.proofs.lemmas.List.Recursion.{and_is}
use borrow.Author.Tests.{tests}
use Rattle.formula_theory.specs.Outcome.{are_bits}
use Rattle.formula.proofs.values.are_bits.Goals as goal

pub returns : goal.returns
returns c = and_is are_bits (λ b. leb b 1) refl (λ _ _. refl) c.args.values.now 0 c.all.result (λ e. search (rules, tests)) (λ e. search (rules, tests))
