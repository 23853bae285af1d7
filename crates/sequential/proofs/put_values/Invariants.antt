use Rattle.std.proofs.Common.{◌≡◌, map, length, take}
use Rattle.encoder_theory.specs.Buffer.{byte}
use Rattle.encoder_theory.specs.Each.{table}
use Rattle.encoder_theory.specs.Sequential.{reached}
use Rattle.sequential.proofs.put_values.Given as goal

abbrev pub invariant-loop-i : goal.invariant-loop-i
invariant-loop-i l = (length l.out ≡ length l.initial.out) × (take l.i l.out ≡ map byte (table l.i (reached l.place)))
