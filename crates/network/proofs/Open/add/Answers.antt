use Rattle.std.proofs.Common.{◌≡◌, Bool, is_ok, Result, sym, ap, ◌∙◌, subst, w32, SFits}
use Rattle.std.proofs.lemmas.Int.{to_z-of_z}
use Rattle.std.proofs.lemmas.Bool.Decides.{Decides-at}
use Rattle.fault.specs.declared.Fault.{Fault}
use Rattle.network_theory.specs.declared.Call.TheVariants.{Add}
use Rattle.network_theory.specs.Layout.{beyond}
use Rattle.network_theory.specs.Calls.{add_answer, after}
use Rattle.network_theory.specs.Runs.{Grows}
use Rattle.network_theory.proofs.Decided.{after_beyond, add_answer_decides}
use Rattle.network_theory.proofs.Led.{after_grows, came_more}
use Rattle.network.specs.Views.{net_of}
use Rattle.network.proofs.Open.add.Goals as goal

network : (c : goal.After-add) → net_of c.add.new.self ≡ after (net_of c.args.self.now.matrix) (Add c.args.a c.args.b)
network c =
    let fa : SFits w32 c.args.a = c.ranges.a in
    let fb : SFits w32 c.args.b = c.ranges.b in
    simp to_z-of_z at c.add.ensures.network

pub returns-clause-beyond : goal.returns-clause-beyond
returns-clause-beyond c = ap beyond (network c) ∙ after_beyond (net_of c.args.self.now.matrix) (Add c.args.a c.args.b)

pub returns-clause-accepts : goal.returns-clause-accepts
returns-clause-accepts c =
    let fa : SFits w32 c.args.a = c.ranges.a in
    let fb : SFits w32 c.args.b = c.ranges.b in
    let net = net_of c.args.self.now.matrix in
    let answer : ◌≡◌ {A = Result Bool Fault} c.add.result (add_answer net c.args.a c.args.b) = simp to_z-of_z at c.add.ensures.answer in
    Decides-at _ _ (ap is_ok answer) (add_answer_decides net c.args.a c.args.b)

pub returns-clause-conflicts : goal.returns-clause-conflicts
returns-clause-conflicts c =
    let matrix = c.args.self.now.matrix in
    let call = Add c.args.a c.args.b in
    subst (Grows (net_of matrix) call) (sym (network c)) (after_grows (net_of matrix) call matrix.room)

pub returns-clause-came : goal.returns-clause-came
returns-clause-came c = came_more _ (net_of c.add.new.self) (Add c.args.a c.args.b) (network c)
