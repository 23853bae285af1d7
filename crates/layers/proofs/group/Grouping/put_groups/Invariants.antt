use Rattle.std.proofs.Common.{◌≡◌}
use Rattle.filling.specs.Views.{filled}
use Rattle.layer_theory.proofs.Put.{ListsPut}
use Rattle.layers.proofs.group.Grouping.put_groups.Given as goal

abbrev pub invariant-loop-members : goal.invariant-loop-members
invariant-loop-members g l = record {
  positive : (goal.iterator-loop-members g).can_next l.members-iterator;
  finite : (goal.iterator-loop-members g).is_finite l.members-iterator;
  size : l.members-iterator.size ≡ l.fn.self.k;
  put : ListsPut l.fn.self.k (g.G.Encoder.meaning l.group) l.fn.members l.first (filled l.initial.out) l.members-iterator.rest.now l.next (filled l.out);
}
