use Rattle.std.proofs.Common.{◌≡◌, ◌+◌, ◌-◌, ◌≤◌}
use Rattle.filling.specs.Views.{filled}
use Rattle.cover_theory.specs.Rule.{visits}
use Rattle.cover_theory.specs.Rows.{Flat, told}
use Rattle.cover.specs.Views.{Moved, rel_in}
use Rattle.cover.proofs.cliques.visit_row.Given as goal

abbrev pub invariant-loop-w : goal.invariant-loop-w
invariant-loop-w l =
    Moved l.initial.remaining l.remaining (filled l.initial.list) (filled l.list) (rel_in l.remaining, (filled l.list).put)
    × (l.u + 1 ≤ l.from) × (l.from ≤ l.initial.remaining.count)
    × ◌≡◌ {A = Flat} (visits told l.initial.remaining.count (rel_in l.remaining, (filled l.list).put) l.u (l.initial.remaining.count - l.from) l.from)
    (visits told l.initial.remaining.count (rel_in l.initial.remaining, (filled l.initial.list).put) l.u (l.initial.remaining.count - (l.u + 1)) (l.u + 1))

abbrev pub decreases-loop-w : goal.decreases-loop-w
decreases-loop-w l = l.fn.remaining.count - l.from
