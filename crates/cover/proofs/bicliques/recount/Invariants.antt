use Rattle.std.proofs.Common.{◌≡◌, ℕ, ◌<◌, ◌≤◌, cond, ◌||◌, get_or, length}
use Rattle.cover_theory.specs.Rule.{count, shared, everyone}
use Rattle.cover_theory.specs.Rows.{marked}
use Rattle.cover.specs.Views.{rel_of}
use Rattle.cover.proofs.bicliques.recount.Given as goal

abbrev pub invariant-loop-u : goal.invariant-loop-u
invariant-loop-u l =
    (length l.degrees ≡ 8192)
    × ((v : ℕ) → v < l.u → get_or l.degrees v 0 ≡ cond (marked l.sides.left.words v || marked l.sides.right.words v) (count (shared (rel_of l.rows) (everyone l.rows.count) v) l.rows.count 0) (get_or l.initial.degrees v 0))
    × ((v : ℕ) → l.u ≤ v → get_or l.degrees v 0 ≡ get_or l.initial.degrees v 0)
