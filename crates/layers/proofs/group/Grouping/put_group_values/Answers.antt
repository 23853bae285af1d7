use Rattle.std.proofs.Common.{arith, rules}
use Rattle.filling.specs.Views.{filled}
use Rattle.layer_theory.proofs.Put.{values_next_granted}
use Rattle.layers.proofs.group.Grouping.put_group_values.Goals as goal

pub unwrap-requires : goal.unwrap-requires
unwrap-requires g c =
    let s = c.args.self in
    let h = values_next_granted s.k (omega (arith, s.size.0)) s.members s.few (g.G.Encoder.meaning c.args.group.now) (g.met.G.Encoder.lawful c.args.group.now)
    c.args.place (filled c.args.out.now) c.requires.room c.loop-i.i (omega (arith, c.count-i-end.ensures.formed)) (filled c.loop-i.out) c.loop-i.invariant in
    let e = c.append_values.ensures.answers in
    search rules

pub loop-i-preserved : goal.loop-i-preserved
loop-i-preserved g c =
    let s = c.args.self in
    let h = values_next_granted s.k (omega (arith, s.size.0)) s.members s.few (g.G.Encoder.meaning c.args.group.now) (g.met.G.Encoder.lawful c.args.group.now)
    c.args.place (filled c.args.out.now) c.requires.room c.loop-i.i (omega (arith, c.count-i-end.ensures.formed)) (filled c.loop-i.out) c.loop-i.invariant in
    let e = c.append_values.ensures.leaves in
    cc
