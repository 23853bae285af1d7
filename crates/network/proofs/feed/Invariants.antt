use Rattle.std.proofs.Common.{◌≡◌, take}
use Rattle.network_theory.specs.Calls.{run}
use Rattle.network.specs.Views.{net_of}
use Rattle.network.proofs.feed.Given as goal

-- so many calls have been made
abbrev pub invariant-loop-call : goal.invariant-loop-call
invariant-loop-call l = net_of l.net.matrix ≡ run (net_of l.initial.net.matrix) (take l.call-index l.calls)
