use Rattle.std.proofs.Common.{ap, ◌∙◌, sym, arith}
use Rattle.filling.specs.Views.{filled}
use Rattle.layer_theory.specs.Grouping.{groups}
use Rattle.layer_theory.proofs.Put.{links_room, below_put}
use Rattle.layers.proofs.group.Grouping.put.Goals as goal

pub put_links-requires-clause-room : goal.put_links-requires-clause-room
put_links-requires-clause-room g c =
    let s = c.args.self in
    links_room s.k (omega (arith, s.size.0)) (g.G.Encoder.meaning c.args.group.now) (g.met.G.Encoder.lawful c.args.group.now) c.args.members.now c.args.first c.requires.admits
    c.count.result (c.count.ensures.formed ∙ ap (groups s.k) (sym c.requires.members)) (filled c.args.out.now) (filled c.put_groups.new.out) c.put_groups.ensures
    s.members c.requires.members c.requires.room

pub returns-clause-put : goal.returns-clause-put
returns-clause-put g c =
    let s = c.args.self in
    below_put s.k (omega (arith, s.size.0)) (g.G.Encoder.meaning c.args.group.now) (g.met.G.Encoder.lawful c.args.group.now) c.args.members.now c.args.first c.requires.admits
    c.count.result (c.count.ensures.formed ∙ ap (groups s.k) (sym c.requires.members)) (filled c.args.out.now) (filled c.put_groups.new.out) c.put_groups.ensures
    s.members c.requires.members (filled c.put_links.new.out) c.put_links.ensures
