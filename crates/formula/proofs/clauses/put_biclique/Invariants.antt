use Rattle.std.proofs.Common.{[], ◌++◌, map, drop, pos}
use Rattle.filling.specs.Views.{filled}
use Rattle.logic.specs.Clause.{against, flat}
use Rattle.formula_theory.specs.Writing.{implication, biclique_clauses}
use Rattle.writing_theory.proofs.Still.{Still}
use Rattle.formula.proofs.clauses.put_biclique.Given as goal

abbrev pub invariant-loop-a : goal.invariant-loop-a
invariant-loop-a l =
    Still (filled l.fn.out) (flat (biclique_clauses l.left l.right (pos l.auxiliary))) (filled l.out)
    (flat (map (λ a. implication a (pos l.auxiliary)) (drop l.a-index l.left) ++ map (λ b. against (pos l.auxiliary) b) l.right))

abbrev pub invariant-loop-b : goal.invariant-loop-b
invariant-loop-b l =
    Still (filled l.fn.out) (flat (biclique_clauses l.left l.right (pos l.auxiliary))) (filled l.out)
    (flat (map (λ b. against (pos l.auxiliary) b) (drop l.b-index l.right) ++ []))
