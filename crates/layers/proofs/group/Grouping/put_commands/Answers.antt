use Rattle.std.proofs.Common.{arith}
use Rattle.filling.specs.Views.{filled}
use Rattle.layer_theory.specs.Grouping.{start, lies}
use Rattle.layer_theory.proofs.Put.{command_next}
use Rattle.layers.proofs.group.Grouping.put_commands.Goals as goal

pub loop-i-preserved : goal.loop-i-preserved
loop-i-preserved c =
    let s = c.args.self in
    let h = command_next (lies (start s.k s.members) c.args.place) c.loop-i.i (filled c.args.out.now) (filled c.loop-i.out)
    (omega (arith, c.requires, c.count-i-end.ensures.formed)) c.loop-i.invariant in
    cc
