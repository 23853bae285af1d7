use Rattle.std.proofs.Common.{◌≡◌, ◌-◌}
use Rattle.cover_theory.specs.Rule.{Sides, widen}
use Rattle.cover_theory.specs.Rows.{Neat, held}
use Rattle.cover.specs.Views.{rel_of}
use Rattle.cover.proofs.bicliques.widen_sides.Given as goal

abbrev pub invariant-loop-step : goal.invariant-loop-step
invariant-loop-step l =
    Neat l.rows.count l.rows.width l.sides.left.words × Neat l.rows.count l.rows.width l.sides.right.words
    × ◌≡◌ {A = Sides} (widen l.rows.count (rel_of l.rows) (l.rows.count - l._step) (held l.rows.count l.sides.left.words, held l.rows.count l.sides.right.words))
    (widen l.rows.count (rel_of l.rows) l.rows.count (held l.rows.count l.initial.sides.left.words, held l.rows.count l.initial.sides.right.words))
