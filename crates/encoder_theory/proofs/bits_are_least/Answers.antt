use Rattle.encoder_theory.proofs.BinaryLaws.{bits_least}
use Rattle.encoder_theory.proofs.bits_are_least.Goals as goal

pub returns : goal.returns
returns c = bits_least
