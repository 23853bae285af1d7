use Rattle.std.proofs.Common.{◌≡◌, ◌+◌, ◌-◌}
use Rattle.cover_theory.specs.Rule.{those}
use Rattle.formula_theory.specs.Outcome.{assignment_of}
use Rattle.writing_theory.specs.Remaining.{first_true, Below}
use Rattle.cover.specs.Views.{rel_of}
use Rattle.cover.specs.Unread.{conflicts_left}
use Rattle.formula.proofs.broken.broken_at.Given as goal

abbrev pub invariant-loop-w : goal.invariant-loop-w
invariant-loop-w l =
    (first_true (assignment_of l.values) l.u (those (rel_of l.rows l.u) (l.rows.count - (l.u + 1)) (l.u + 1)) ≡ first_true (assignment_of l.values) l.u (conflicts_left l.w-iterator))
    × Below l.rows.count (conflicts_left l.w-iterator)
