use Rattle.std.proofs.Common.{[], ◌∷◌, ◌++◌, map, ℤ, Option, subst, w32, SFits, rules}
use Rattle.std.proofs.lemmas.Int.{to_z-of_z}
use Rattle.std.specs.Option.{option_to_list}
use Rattle.network_theory.specs.declared.Call.TheVariants.{Add}
use Rattle.network_theory.specs.Runs.{Came}
use Rattle.network.specs.Views.{net_of}
use Rattle.compaction.proofs.sorting.add_clause.Goals as goal

pub returns-after-matches-clause-came : goal.returns-after-matches-clause-came
returns-after-matches-clause-came c calls h =
    let fits-a : SFits w32 c.in-Some.a = search rules in
    let fits-b : SFits w32 c.in-Some.b = search rules in
    let one : Came (net_of c.add.new.self.matrix) (calls ++ Add c.in-Some.a c.in-Some.b ∷ []) = simp to_z-of_z at (c.add.ensures.came calls h) in
    subst (λ (o : Option (ℤ × ℤ)). Came (net_of c.add.new.self.matrix) (calls ++ map (λ (p : ℤ × ℤ). Add p.0 p.1) (option_to_list o ++ []))) c.in-Some.ensures one
