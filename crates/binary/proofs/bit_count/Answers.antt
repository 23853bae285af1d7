use Rattle.encoder_theory.proofs.BinaryLaws.{bits_power}
use Rattle.binary.proofs.bit_count.Goals as goal

pub returns : goal.returns
returns c =
    let p = c.next_power_of_two.ensures in
    bits_power c.args.members c.next_power_of_two.result c.ilog2.result p.power p.lower_bound p.upper_bound c.ilog2.ensures.power_le c.ilog2.ensures.next_power_gt
