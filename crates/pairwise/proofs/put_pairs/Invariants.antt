use Rattle.std.proofs.Common.{◌≡◌}
use Rattle.logic.specs.Clause.{flat}
use Rattle.filling.specs.Filled.{after}
use Rattle.filling.specs.Views.{filled}
use Rattle.encoder_theory.specs.Each.{each}
use Rattle.encoder_theory.specs.Pairwise.{pairs_of}
use Rattle.encoder_theory.proofs.PairwisePut.{pairs_before}
use Rattle.pairwise.proofs.put_pairs.Given as goal

abbrev pub invariant-loop-b : goal.invariant-loop-b
invariant-loop-b l = filled l.out ≡ after (filled l.fn.out) (flat (pairs_before l.members l.i l.b-index))

abbrev pub invariant-loop-i : goal.invariant-loop-i
invariant-loop-i l = filled l.out ≡ after (filled l.fn.out) (flat (each 0 l.i (pairs_of l.members)))
