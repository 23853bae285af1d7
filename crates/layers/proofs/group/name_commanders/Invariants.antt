use Rattle.std.proofs.Common.{◌≡◌, ◌+◌, min, length, take, pos}
use Rattle.encoder_theory.specs.Each.{table}
use Rattle.encoder_theory.specs.Meaning.{last_end}
use Rattle.layers.proofs.group.name_commanders.Given as goal

abbrev pub invariant-loop-i : goal.invariant-loop-i
invariant-loop-i l = (length l.name-items ≡ l.count) × (take l.i l.name-items ≡ table l.i (λ i. pos (min (l.first + i) last_end)))
