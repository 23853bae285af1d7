-- The conflicts that lie in rows of words.
use Rattle.std.specs.Prelude.{List, ℤ}
use Rattle.cover_theory.specs.Rule.{pairs_from}
use Rattle.cover.specs.Views.{rel_of}
use Rattle.cover.specs.declared.rows.Rows.{Rows}

-- by the one literal and then by the other
abbrev pub remaining_in : Rows → List (ℤ × ℤ)
remaining_in r = pairs_from r.count (rel_of r) r.count 0
