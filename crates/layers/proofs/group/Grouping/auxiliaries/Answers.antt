use Rattle.std.proofs.Common.{◌+◌, ◌≤◌, arith, rules, tests}
use Rattle.std.proofs.lemmas.List.FromFn.{length-range_with_len}
use Rattle.std.proofs.lemmas.Iterator.{YieldsList-from_range, YieldsList-from_map}
use Rattle.std.proofs.lemmas.Iterator.Adapters.{fits_from_length, at_most_from_yields_List}
use Rattle.std.proofs.lemmas.Iterator.Consumers.{sum_from_yields_List}
use Rattle.layer_theory.proofs.Put.{sum_told, told_small, told_at}
use Rattle.layers.proofs.group.Grouping.auxiliaries.Goals as goal

pub sum-inner-requires-clause-fits : goal.sum-inner-requires-clause-fits
sum-inner-requires-clause-fits g c =
    let small = told_small (g.G.Encoder.meaning c.args.group.now).auxiliaries (g.met.G.Encoder.lawful c.args.group.now).bounded.auxiliaries in
    let n = length-range_with_len 0 c.count.result in
    fits_from_length _ _ 256 _ (at_most_from_yields_List (YieldsList-from_range 0 c.count.result c.count.result (cc) (omega arith)) (omega (arith, c.count.ensures.few)))
    c.map.ensures.closure (omega arith) (λ x r q k. search (rules, tests, small))

pub overflow_add-result : goal.overflow_add-result
overflow_add-result g c =
    let s = c.args.self in
    let e = told_at (g.G.Encoder.meaning c.args.group.now).auxiliaries in
    let h = sum_told s.k s.members (omega (arith, s.size.0)) s.few s.size.1 (g.G.Encoder.meaning c.args.group.now).auxiliaries (g.met.G.Encoder.lawful c.args.group.now).bounded.auxiliaries c.count.result c.sum-inner.result c.count.ensures.formed
    (sum_from_yields_List _ _ c.sum-inner.ensures.ran (YieldsList-from_map _ _ (YieldsList-from_range 0 c.count.result c.count.result (cc) (omega arith)) c.map.ensures.closure (λ x r q k. search (rules, tests, e)))) in
    let small : c.count-2.result + c.sum-inner.result ≤ 66_000 = omega (arith, s.few) in
    search rules

pub returns : goal.returns
returns g c =
    let s = c.args.self in
    let e = told_at (g.G.Encoder.meaning c.args.group.now).auxiliaries in
    let h = sum_told s.k s.members (omega (arith, s.size.0)) s.few s.size.1 (g.G.Encoder.meaning c.args.group.now).auxiliaries (g.met.G.Encoder.lawful c.args.group.now).bounded.auxiliaries c.count.result c.sum-inner.result c.count.ensures.formed
    (sum_from_yields_List _ _ c.sum-inner.ensures.ran (YieldsList-from_map _ _ (YieldsList-from_range 0 c.count.result c.count.result (cc) (omega arith)) c.map.ensures.closure (λ x r q k. search (rules, tests, e)))) in
    record { small = omega (arith, s.few); told = omega arith }
