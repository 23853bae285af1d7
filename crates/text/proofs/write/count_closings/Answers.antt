use Rattle.std.proofs.Common.{◌≡◌, ◌∙◌, ◌^◌, ◌≤◌, cond, length, sum, map, arith, rules}
use Rattle.std.proofs.lemmas.Iterator.{YieldsList-from_slice}
use Rattle.std.proofs.lemmas.Iterator.Adapters.{fits_from_length, at_most_from_yields_List}
use Rattle.dimacs.specs.Clauses.{closes}
use Rattle.text.proofs.Numbers.{closings_sum}
use Rattle.text.proofs.write.count_closings.Goals as goal

-- each number counts 0 or 1, and a slice has at most 2 ^ 62 of them
pub sum-requires-clause-fits : goal.sum-requires-clause-fits
sum-requires-clause-fits c =
    let few : length c.args.numbers.now ≤ 2 ^ 62 = search rules in
    fits_from_length _ _ (2 ^ 62) (2 ^ 64) (at_most_from_yields_List (YieldsList-from_slice c.args.numbers.now cc) few) c.map.ensures.closure (omega arith) (λ x r q k. search rules)

pub returns : goal.returns
returns c =
    let e : c.sum.result ≡ sum (map (λ z. cond (closes z) 1 0) c.args.numbers.now) = search rules in
    record { value = e ∙ closings_sum c.args.numbers.now }
