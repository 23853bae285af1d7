use Rattle.std.proofs.Common.{◌≡◌, pos, ap, ◌∙◌}
use Rattle.network_theory.specs.declared.Call.TheVariants.{Add}
use Rattle.network_theory.specs.Calls.{opened, run}
use Rattle.network_theory.specs.Runs.{Came}
use Rattle.network_theory.proofs.Led.{run_step, run_all, came_exact}
use Rattle.network.specs.Views.{net_of}
use Rattle.network.proofs.feed.Goals as goal

pub loop-call-preserved : goal.loop-call-preserved
loop-call-preserved c =
    run_step (net_of c.open-net.result.matrix) (net_of c.loop-call.net.matrix) _ c.args.calls.now c.loop-call.call-index (Add (pos 0) (pos 0))
    c.loop-call-test.true c.loop-call.invariant c.apply.ensures.network

network-is : (c : goal.After-seal) → net_of c.seal.result.matrix ≡ run (opened c.args.n c.args.words.now) c.args.calls.now
network-is c =
    c.seal.ensures.network
    ∙ run_all (net_of c.open-net.result.matrix) _ c.args.calls.now c.loop-call.call-index c.loop-call-test.false c.loop-call.invariant
    ∙ ap (λ net. run net c.args.calls.now) c.open-net.ensures.network

came : (c : goal.After-seal) → Came (net_of c.seal.result.matrix) c.args.calls.now
came c = record { asked = c.args.n; lent = c.args.words.now; led = network-is c }

pub returns-clause-network : goal.returns-clause-network
returns-clause-network c = network-is c

pub returns-clause-exact : goal.returns-clause-exact
returns-clause-exact c = came_exact _ _ (came c)
