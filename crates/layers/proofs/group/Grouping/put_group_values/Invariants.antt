use Rattle.std.proofs.Common.{◌≡◌, map}
use Rattle.filling.specs.Filled.{after}
use Rattle.filling.specs.Views.{filled}
use Rattle.encoder_theory.specs.Buffer.{byte}
use Rattle.encoder_theory.specs.Each.{each}
use Rattle.layer_theory.specs.Grouping.{start, size, place_in}
use Rattle.layers.proofs.group.Grouping.put_group_values.Given as goal

abbrev pub invariant-loop-i : goal.invariant-loop-i
invariant-loop-i g l =
    filled l.out ≡ after (filled l.initial.out)
    (map byte (each 0 l.i (λ i. (g.G.Encoder.meaning l.group).values (size (start l.self.k l.self.members) i) (place_in (start l.self.k l.self.members) l.place i))))
