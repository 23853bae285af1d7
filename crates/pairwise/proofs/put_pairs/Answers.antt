use Rattle.std.proofs.Common.{rules}
use Rattle.encoder_theory.proofs.PairwisePut.{small_later, pair_next, pairs_end}
use Rattle.pairwise.proofs.put_pairs.Goals as goal

pub loop-b-preserved : goal.loop-b-preserved
loop-b-preserved c =
    let xs = c.args.members.now in
    let a = c.requires.small c.loop-i.i c.loop-i-test.true in
    let b = small_later xs c.requires.small c.loop-i.i c.loop-b.b-index c.loop-b-test.true in
    pair_next xs c.loop-i.i c.loop-b.b-index _ _ _ _ c.loop-i-test.true c.loop-b-test.true (search rules) c.loop-b.invariant c.push_clause.ensures c.requires.room

pub loop-i-preserved : goal.loop-i-preserved
loop-i-preserved c = pairs_end c.args.members.now c.loop-i.i c.loop-b.b-index _ _ c.loop-b.auto.b-index-end c.loop-b-test.false c.loop-b.invariant
