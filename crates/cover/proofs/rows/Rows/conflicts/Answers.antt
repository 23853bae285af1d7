use Rattle.std.proofs.Common.{arith}
use Rattle.cover.specs.Views.{rel_of}
use Rattle.cover_theory.proofs.Remaining.{pairs_more, pairs_start, pairs_over}
use Rattle.cover.proofs.rows.Rows.conflicts.Goals as goal

pub loop-u-init : goal.loop-u-init
loop-u-init c = let e = pairs_start c.args.self.now.count (rel_of c.args.self.now) in (omega arith, omega arith)

pub loop-u-preserved : goal.loop-u-preserved
loop-u-preserved c =
    let e = pairs_more c.args.self.now.count (rel_of c.args.self.now) c.loop-u.u c.loop-u-test.true in
    (omega (arith, c.loop-u.invariant.0, c.count_after-n.ensures.bound), omega (arith, c.loop-u.invariant.1, c.count_after-n.ensures.value))

pub returns : goal.returns
returns c =
    let e = pairs_over c.args.self.now.count (rel_of c.args.self.now) c.loop-u.u c.loop-u-test.false in
    omega (arith, c.loop-u.invariant.1)
