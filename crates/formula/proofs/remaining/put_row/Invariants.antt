use Rattle.std.proofs.Common.{◌+◌, ◌-◌}
use Rattle.filling.specs.Views.{filled}
use Rattle.logic.specs.Clause.{flat}
use Rattle.cover_theory.specs.Rule.{those}
use Rattle.writing_theory.specs.Remaining.{row_clauses, Below}
use Rattle.writing_theory.proofs.Still.{Still}
use Rattle.cover.specs.Views.{rel_of}
use Rattle.cover.specs.Unread.{conflicts_left}
use Rattle.formula.proofs.remaining.put_row.Given as goal

abbrev pub invariant-loop-w : goal.invariant-loop-w
invariant-loop-w l =
    Still (filled l.fn.out) (flat (row_clauses l.u (those (rel_of l.rows l.u) (l.rows.count - (l.u + 1)) (l.u + 1)))) (filled l.out) (flat (row_clauses l.u (conflicts_left l.w-iterator)))
    × Below l.rows.count (conflicts_left l.w-iterator)
