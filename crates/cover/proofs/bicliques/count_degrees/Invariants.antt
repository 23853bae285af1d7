use Rattle.std.proofs.Common.{◌≡◌, ℕ, ◌<◌, get_or, length}
use Rattle.cover_theory.specs.Rule.{count, shared, everyone}
use Rattle.cover.specs.Views.{rel_of}
use Rattle.cover.proofs.bicliques.count_degrees.Given as goal

abbrev pub invariant-loop-u : goal.invariant-loop-u
invariant-loop-u l = (length l.degrees ≡ 8192) × ((v : ℕ) → v < l.u → get_or l.degrees v 0 ≡ count (shared (rel_of l.rows) (everyone l.rows.count) v) l.rows.count 0)
