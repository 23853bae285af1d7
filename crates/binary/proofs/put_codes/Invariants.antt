use Rattle.std.proofs.Common.{◌≡◌}
use Rattle.logic.specs.Clause.{flat}
use Rattle.filling.specs.Filled.{after}
use Rattle.filling.specs.Views.{filled}
use Rattle.encoder_theory.proofs.BinaryPut.{codes_before}
use Rattle.binary.proofs.put_codes.Given as goal

abbrev pub invariant-loop-l : goal.invariant-loop-l
invariant-loop-l l = filled l.out ≡ after (filled l.fn.out) (flat (codes_before l.members l.first l.i l.l))

abbrev pub invariant-loop-i : goal.invariant-loop-i
invariant-loop-i l = filled l.out ≡ after (filled l.fn.out) (flat (codes_before l.members l.first l.i 0))
