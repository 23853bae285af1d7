-- The conflicts of a literal that are still to be read.
use Rattle.std.specs.Prelude.{ℕ, ◌-◌, List}
use Rattle.cover_theory.specs.Rule.{those}
use Rattle.cover.specs.declared.rows.Conflicts.{Conflicts}
use Rattle.cover.specs.Views.{rel_of}

abbrev pub conflicts_left : Conflicts → List ℕ
conflicts_left s = those (rel_of s.rows s.u) (s.rows.count - s.from) s.from
