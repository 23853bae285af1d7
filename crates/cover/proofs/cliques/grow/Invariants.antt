use Rattle.std.proofs.Common.{◌≡◌, length, take}
use Rattle.cover_theory.proofs.Steps.{Growing}
use Rattle.cover.proofs.cliques.grow.Given as goal

abbrev pub invariant-loop-k : goal.invariant-loop-k
invariant-loop-k l = (length l.members ≡ 256) × Growing l.rows.count l.rows.width l.rows.words.now l.u l.w l.k l.from l.mask.words (take l.k l.members)
