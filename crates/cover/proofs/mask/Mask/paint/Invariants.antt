use Rattle.std.proofs.Common.{◌≡◌, ℕ, ◌*◌, ◌<◌, take}
use Rattle.cover_theory.specs.Rows.{marked}
use Rattle.cover_theory.specs.Rule.{among}
use Rattle.cover.proofs.mask.Mask.paint.Given as goal

abbrev pub invariant-loop-c : goal.invariant-loop-c
invariant-loop-c l = (j : ℕ) → j < 64 * l.width → marked l.self.words j ≡ among (take l.c-index l.literals) j
