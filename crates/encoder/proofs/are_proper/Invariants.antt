use Rattle.encoder_theory.proofs.Decided.{ProperTo}
use Rattle.encoder.proofs.are_proper.Given as goal

abbrev pub invariant-loop-i : goal.invariant-loop-i
invariant-loop-i l = ProperTo l.members l.first l.i
