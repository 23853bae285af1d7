use Rattle.std.proofs.Common.{◌≡◌, map}
use Rattle.filling.specs.Filled.{after}
use Rattle.filling.specs.Views.{filled}
use Rattle.logic.specs.Literal.{literal}
use Rattle.cover_theory.specs.Rule.{those}
use Rattle.cover_theory.specs.Rows.{held}
use Rattle.cover.proofs.bicliques.emit_side.Given as goal

abbrev pub invariant-loop-u : goal.invariant-loop-u
invariant-loop-u l = filled l.list ≡ after (filled l.initial.list) (map literal (those (held l.count l.mask.words) l.u 0))
