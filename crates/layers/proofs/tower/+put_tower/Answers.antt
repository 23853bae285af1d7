use Rattle.std.proofs.Common.{◌≡◌, true, length, arith, rules, w32}
use Rattle.std.proofs.lemmas.Int.{to_z_pos}
use Rattle.filling.specs.Views.{filled}
use Rattle.layer_theory.specs.Commander.{whole}
use Rattle.layer_theory.proofs.Put.{tower_fit, ground_put, below_admits, below_room, top_shorter, top_admits_names, top_room, top_put}
use Rattle.layers.proofs.tower.+put_tower.Goals as goal

pub unwrap-requires : goal.unwrap-requires
unwrap-requires t c =
    let w : whole 3 (length c.args.members.now) ≡ true = search rules in
    let z = to_z_pos w32 c.args.first (omega (arith, c.requires.admits.fits)) in
    let n = (ground_put c.args.members.now c.args.first (filled c.args.out.now) w c.requires.admits c.requires.room _ z _ (filled c.append_clauses.new.out)
    c.append_clauses.ensures.answers c.append_clauses.ensures.leaves).0 in
    search rules

pub returns-in_default : goal.returns-in_default
returns-in_default t c =
    let w : whole 3 (length c.args.members.now) ≡ true = search rules in
    let z = to_z_pos w32 c.args.first (omega (arith, c.requires.admits.fits)) in
    (ground_put c.args.members.now c.args.first (filled c.args.out.now) w c.requires.admits c.requires.room _ z _ (filled c.append_clauses.new.out)
    c.append_clauses.ensures.answers c.append_clauses.ensures.leaves).1

pub put-next-requires-clause-admits : goal.put-next-requires-clause-admits
put-next-requires-clause-admits t c =
    below_admits (tower_fit c.args.members.now c.args.first (filled c.args.out.now) c.in-Some.ensures.0 c.in-Some.ensures.1 c.in-Some.groups.parted c.requires.admits c.requires.room)

pub put-next-requires-clause-room : goal.put-next-requires-clause-room
put-next-requires-clause-room t c =
    below_room (tower_fit c.args.members.now c.args.first (filled c.args.out.now) c.in-Some.ensures.0 c.in-Some.ensures.1 c.in-Some.groups.parted c.requires.admits c.requires.room)
    c.in-Some.groups.members c.in-Some.ensures.1

pub put_tower-requires : goal.put_tower-requires
put_tower-requires t c =
    let h = tower_fit c.args.members.now c.args.first (filled c.args.out.now) c.in-Some.ensures.0 c.in-Some.ensures.1 c.in-Some.groups.parted c.requires.admits c.requires.room in
    let l = top_shorter h (filled c.put-next.new.out) c.in-Some.groups.members c.in-Some.ensures.1 c.count-count.result c.name_commanders-names.result c.put-next.result
    c.put-next.ensures.put c.count-count.ensures.formed c.name_commanders-names.ensures c.put-next.ensures.next in
    let a = top_admits_names h (filled c.put-next.new.out) c.in-Some.groups.members c.in-Some.ensures.1 c.count-count.result c.name_commanders-names.result c.put-next.result
    c.put-next.ensures.put c.count-count.ensures.formed c.name_commanders-names.ensures c.put-next.ensures.next in
    let b = top_room h (filled c.put-next.new.out) c.in-Some.groups.members c.in-Some.ensures.1 c.count-count.result c.name_commanders-names.result c.put-next.result
    c.put-next.ensures.put c.count-count.ensures.formed c.name_commanders-names.ensures c.put-next.ensures.next in
    (search rules, (a, b))

pub returns : goal.returns
returns t c =
    let h = tower_fit c.args.members.now c.args.first (filled c.args.out.now) c.in-Some.ensures.0 c.in-Some.ensures.1 c.in-Some.groups.parted c.requires.admits c.requires.room in
    top_put h (filled c.put-next.new.out) c.in-Some.groups.members c.in-Some.ensures.1 c.count-count.result c.name_commanders-names.result c.put-next.result
    c.put-next.ensures.put c.count-count.ensures.formed c.name_commanders-names.ensures c.put-next.ensures.next (filled c.put_tower.new.out) c.put_tower.ensures
