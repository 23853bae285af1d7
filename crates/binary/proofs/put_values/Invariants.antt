use Rattle.std.proofs.Common.{◌≡◌, map}
use Rattle.filling.specs.Filled.{after}
use Rattle.filling.specs.Views.{filled}
use Rattle.encoder_theory.specs.Buffer.{byte}
use Rattle.encoder_theory.specs.Each.{table}
use Rattle.encoder_theory.specs.Binary.{code}
use Rattle.binary.proofs.put_values.Given as goal

abbrev pub invariant-loop-l : goal.invariant-loop-l
invariant-loop-l l = filled l.out ≡ after (filled l.fn.out) (map byte (table l.l (code l.place)))
