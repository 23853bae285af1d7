use Rattle.std.proofs.Common.{◌≡◌, map}
use Rattle.filling.specs.Filled.{after}
use Rattle.filling.specs.Views.{filled}
use Rattle.encoder_theory.specs.Buffer.{byte}
use Rattle.encoder_theory.specs.Each.{table}
use Rattle.layer_theory.specs.Grouping.{start, lies}
use Rattle.layers.proofs.group.Grouping.put_commands.Given as goal

abbrev pub invariant-loop-i : goal.invariant-loop-i
invariant-loop-i l = filled l.out ≡ after (filled l.initial.out) (map byte (table l.i (lies (start l.self.k l.self.members) l.place)))
