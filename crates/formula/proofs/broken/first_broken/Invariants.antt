use Rattle.std.proofs.Common.{◌≡◌, ◌-◌}
use Rattle.formula_theory.specs.Outcome.{broken_from, assignment_of}
use Rattle.cover.specs.Views.{rel_of}
use Rattle.formula.proofs.broken.first_broken.Given as goal

abbrev pub invariant-loop-u : goal.invariant-loop-u
invariant-loop-u l =
    let N = l.rows.count in
    let s = assignment_of l.values in
    broken_from N (rel_of l.rows) s N 0 ≡ broken_from N (rel_of l.rows) s (N - l.u) l.u
