use Rattle.std.proofs.Common.{◌≡◌, ◌-◌}
use Rattle.filling.specs.Views.{filled}
use Rattle.cover_theory.specs.Rule.{sweep}
use Rattle.cover_theory.specs.Rows.{Flat, told}
use Rattle.cover.specs.Views.{Moved, rel_in}
use Rattle.cover.proofs.cliques.find_cliques.Given as goal

abbrev pub invariant-loop-u : goal.invariant-loop-u
invariant-loop-u l =
    Moved l.initial.remaining l.remaining (filled l.initial.list) (filled l.list) (rel_in l.remaining, (filled l.list).put)
    × ◌≡◌ {A = Flat} (sweep told l.initial.remaining.count (rel_in l.remaining, (filled l.list).put) (l.initial.remaining.count - l.u) l.u)
    (sweep told l.initial.remaining.count (rel_in l.initial.remaining, (filled l.initial.list).put) l.initial.remaining.count 0)
