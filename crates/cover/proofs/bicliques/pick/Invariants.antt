use Rattle.std.proofs.Common.{◌≡◌, ◌-◌, ◌<◌}
use Rattle.cover_theory.specs.Rule.{score, first_best}
use Rattle.cover_theory.specs.Rows.{held}
use Rattle.cover.specs.Views.{rel_of}
use Rattle.cover.proofs.bicliques.pick.Given as goal

abbrev pub invariant-loop-c : goal.invariant-loop-c
invariant-loop-c l =
    let sc = score l.rows.count (rel_of l.rows) (held l.rows.count l.sides.left.words) (held l.rows.count l.sides.right.words) in
    (l.best < l.rows.count) × (l.top ≡ sc l.best) × (first_best sc (l.rows.count - l.c) l.c l.best ≡ first_best sc l.rows.count 0 0)
