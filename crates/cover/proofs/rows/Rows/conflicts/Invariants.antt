use Rattle.std.proofs.Common.{◌≡◌, ◌+◌, ◌-◌, ◌*◌, ◌≤◌, length}
use Rattle.cover_theory.specs.Rule.{pairs_from}
use Rattle.cover.specs.Views.{rel_of}
use Rattle.cover.proofs.rows.Rows.conflicts.Given as goal

abbrev pub invariant-loop-u : goal.invariant-loop-u
invariant-loop-u l =
    (l.n ≤ 8192 * l.u)
    × (l.n + length (pairs_from l.self.count (rel_of l.self) (l.self.count - l.u) l.u) ≡ length (pairs_from l.self.count (rel_of l.self) l.self.count 0))
