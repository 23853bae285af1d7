use Rattle.std.proofs.Common.{◌≡◌, ◌-◌, ◌*◌}
use Rattle.filling.specs.Views.{filled}
use Rattle.cover_theory.specs.Rule.{bicliques}
use Rattle.cover_theory.specs.Rows.{Flat, told, Degrees}
use Rattle.cover.specs.Views.{Moved, rel_in}
use Rattle.cover.proofs.bicliques.find_bicliques.Given as goal

abbrev pub invariant-loop-step : goal.invariant-loop-step
invariant-loop-step l =
    Moved l.initial.remaining l.remaining (filled l.initial.list) (filled l.list) (rel_in l.remaining, (filled l.list).put)
    × Degrees l.initial.remaining.count (rel_in l.remaining) l.degrees
    × ◌≡◌ {A = Flat} (bicliques told l.initial.remaining.count (l.initial.remaining.count * l.initial.remaining.count - l._step) (rel_in l.remaining, (filled l.list).put))
    (bicliques told l.initial.remaining.count (l.initial.remaining.count * l.initial.remaining.count) (rel_in l.initial.remaining, (filled l.initial.list).put))
