use Rattle.std.proofs.Common.{◌<◌, length, ◌∙◌, arith}
use Rattle.std.proofs.lemmas.List.{length-set}
use Rattle.encoder_theory.specs.Sequential.{reached}
use Rattle.encoder_theory.proofs.Rows.{byte_next, bytes_end}
use Rattle.sequential.proofs.put_values.Goals as goal

pub loop-i-preserved : goal.loop-i-preserved
loop-i-preserved c =
    let h = c.loop-i.invariant.0 in
    let l : c.loop-i.i < length c.loop-i.out = omega arith in
    (length-set c.loop-i.out c.loop-i.i _ ∙ h, byte_next (reached c.args.place) c.loop-i.out c.loop-i.i _ c.value.ensures l c.loop-i.invariant.1)

pub returns : goal.returns
returns c = bytes_end (reached c.args.place) c.loop-i.out c.loop-i.i _ (omega arith) c.loop-i.invariant.0 c.loop-i.invariant.1
