use Rattle.std.proofs.Common.{arith}
use Rattle.cover.proofs.Erases.{cleared_more}
use Rattle.cover.proofs.remaining.clear_bits.Goals as goal

pub loop-i-preserved : goal.loop-i-preserved
loop-i-preserved c = cleared_more c.args.row.now c.loop-i.row c.args.mask.now.words c.loop-i.i (omega arith) c.loop-i.invariant.0 c.loop-i.invariant.1
