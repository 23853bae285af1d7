use Rattle.std.proofs.Common.{take}
use Rattle.network_theory.specs.Runs.{Came}
use Rattle.network.specs.Views.{net_of}
use Rattle.network_tests.specs.Asked.{asked}
use Rattle.network_tests.proofs.fed_by_hand.Given as goal

abbrev pub invariant-loop-pair : goal.invariant-loop-pair
invariant-loop-pair l = Came (net_of l.net.matrix) (asked (take l.pair-index l.pairs))
