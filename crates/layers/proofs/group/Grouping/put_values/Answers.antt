use Rattle.filling.specs.Views.{filled}
use Rattle.layer_theory.specs.Grouping.{start, lies}
use Rattle.layer_theory.proofs.Put.{group_values_room}
use Rattle.layers.proofs.group.Grouping.put_values.Goals as goal

pub put_group_values-requires-clause-room : goal.put_group_values-requires-clause-room
put_group_values-requires-clause-room g c =
    let s = c.args.self in
    group_values_room s.k s.members (g.G.Encoder.meaning c.args.group.now) (lies (start s.k s.members) c.args.place) (filled c.args.out.now) (filled c.put_commands.new.out)
    c.requires.room c.put_commands.ensures
