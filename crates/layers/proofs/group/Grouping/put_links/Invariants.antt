use Rattle.std.proofs.Common.{◌≡◌, [], ◌∷◌}
use Rattle.logic.specs.Clause.{flat}
use Rattle.filling.specs.Filled.{after}
use Rattle.filling.specs.Views.{filled}
use Rattle.encoder_theory.specs.Each.{each}
use Rattle.layer_theory.specs.Grouping.{groups, start}
use Rattle.layer_theory.specs.Commander.{link}
use Rattle.layers.proofs.group.Grouping.put_links.Given as goal

abbrev pub invariant-loop-p : goal.invariant-loop-p
invariant-loop-p l =
    filled l.out ≡ after (filled l.initial.out)
    (flat (each 0 l.p (λ p. link (groups l.self.k l.self.members) (start l.self.k l.self.members) l.members l.first p ∷ [])))
