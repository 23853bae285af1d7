use Rattle.std.proofs.Common.{◌≡◌, ◌∷◌, map, length, take, pos}
use Rattle.filling.specs.Filled.{after}
use Rattle.filling.specs.Views.{filled}
use Rattle.logic.specs.Literal.{literal}
use Rattle.cover.proofs.cliques.emit.Given as goal

abbrev pub invariant-loop-u : goal.invariant-loop-u
invariant-loop-u l = filled l.list ≡ after (filled l.fn.list) (pos (length l.members) ∷ map literal (take l.u-index l.members))
