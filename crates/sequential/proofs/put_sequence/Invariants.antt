use Rattle.std.proofs.Common.{◌≡◌}
use Rattle.logic.specs.Clause.{flat}
use Rattle.filling.specs.Filled.{after}
use Rattle.filling.specs.Views.{filled}
use Rattle.encoder_theory.proofs.SequentialPut.{links_before}
use Rattle.sequential.proofs.put_sequence.Given as goal

abbrev pub invariant-loop-i : goal.invariant-loop-i
invariant-loop-i l = filled l.out ≡ after (filled l.fn.out) (flat (links_before l.members l.first l.i))
