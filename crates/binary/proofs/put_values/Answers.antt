use Rattle.std.proofs.Common.{arith}
use Rattle.encoder_theory.specs.Binary.{code}
use Rattle.encoder_theory.proofs.Rows.{value_next}
use Rattle.binary.proofs.put_values.Goals as goal

pub loop-l-preserved : goal.loop-l-preserved
loop-l-preserved c =
    value_next (code c.args.place) _ _ _ c.loop-l.l c.value.result c.value.ensures c.loop-l.invariant c.push.ensures
    (omega (arith, c.bit_count-l-end.ensures, c.loop-l-test.true, c.requires.room))
