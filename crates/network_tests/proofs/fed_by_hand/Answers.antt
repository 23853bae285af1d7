use Rattle.std.proofs.Common.{[], ◌∷◌, ◌++◌, get_or, take, ℤ, pos, sym, subst, w32, SFits, rules}
use Rattle.std.proofs.lemmas.Int.{to_z-of_z}
use Rattle.std.proofs.lemmas.List.{map_more, take_all}
use Rattle.network_theory.specs.declared.Call.TheVariants.{Add}
use Rattle.network_theory.specs.Runs.{Exact, Came}
use Rattle.network.specs.Views.{net_of}
use Rattle.network_tests.specs.Asked.{asked}
use Rattle.network_tests.proofs.fed_by_hand.Goals as goal

pub loop-pair-preserved : goal.loop-pair-preserved
loop-pair-preserved c =
    let pairs = c.args.pairs.now in
    let i = c.loop-pair.pair-index in
    let fits-0 : SFits w32 (get_or pairs i (pos 0, pos 0)).0 = search rules in
    let fits-1 : SFits w32 (get_or pairs i (pos 0, pos 0)).1 = search rules in
    let one : Came (net_of c.add.new.self.matrix) (asked (take i pairs) ++ Add (get_or pairs i (pos 0, pos 0)).0 (get_or pairs i (pos 0, pos 0)).1 ∷ []) =
    simp to_z-of_z at (c.add.ensures.came (asked (take i pairs)) c.loop-pair.invariant) in
    subst (Came (net_of c.add.new.self.matrix)) (sym (map_more (λ (p : ℤ × ℤ). Add p.0 p.1) pairs i (pos 0, pos 0) c.loop-pair-test.true)) one

pub returns : goal.returns
returns c =
    let pairs = c.args.pairs.now in
    subst (λ ps. Exact (net_of c.seal.result.matrix) (asked ps)) (take_all c.loop-pair.pair-index pairs c.loop-pair-test.false)
    (c.seal.ensures.exact (asked (take c.loop-pair.pair-index pairs)) c.loop-pair.invariant)
