use Rattle.std.proofs.Common.{rules}
use Rattle.filling.specs.Views.{filled}
use Rattle.layer_theory.proofs.Put.{tower_values_fit, top_within, top_values_room, top_values_put}
use Rattle.layers.proofs.tower.+put_tower_values.Goals as goal

pub put_tower_values-requires : goal.put_tower_values-requires
put_tower_values-requires t c =
    let h = tower_values_fit c.args.members c.args.place (filled c.args.out.now) c.in-Some.ensures.0 c.in-Some.ensures.1 c.in-Some.groups.parted c.requires.few c.requires.within c.requires.room in
    let w = top_within h (filled c.put_values.new.out) c.in-Some.groups.members c.in-Some.ensures.1 c.count.result c.group_place.result c.put_values.ensures c.count.ensures.formed c.group_place.ensures in
    let r = top_values_room h (filled c.put_values.new.out) c.in-Some.groups.members c.in-Some.ensures.1 c.count.result c.group_place.result c.put_values.ensures c.count.ensures.formed c.group_place.ensures in
    (search rules, (c.count.ensures.few, (w, r)))

pub returns : goal.returns
returns t c =
    let h = tower_values_fit c.args.members c.args.place (filled c.args.out.now) c.in-Some.ensures.0 c.in-Some.ensures.1 c.in-Some.groups.parted c.requires.few c.requires.within c.requires.room in
    top_values_put h (filled c.put_values.new.out) c.in-Some.groups.members c.in-Some.ensures.1 c.count.result c.group_place.result c.put_values.ensures c.count.ensures.formed c.group_place.ensures
    (filled c.put_tower_values.new.out) c.put_tower_values.ensures
