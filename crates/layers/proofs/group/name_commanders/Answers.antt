use Rattle.std.proofs.Common.{◌<◌, length, ◌∙◌, arith, rules}
use Rattle.std.proofs.lemmas.List.{length-set}
use Rattle.layer_theory.proofs.Put.{name_next, names_end}
use Rattle.layers.proofs.group.name_commanders.Goals as goal

pub loop-i-preserved : goal.loop-i-preserved
loop-i-preserved c =
    let i = c.loop-i.i in
    let names = c.loop-i.name-items in
    let h = c.loop-i.invariant.0 in
    let l : i < length names = omega arith in
    (length-set names i _ ∙ h, name_next c.args.first i names _ l (search rules) c.loop-i.invariant.1)

pub returns : goal.returns
returns c = names_end c.args.first c.loop-i.i c.args.count c.loop-i.name-items _ (omega arith) c.loop-i.invariant.0 c.loop-i.invariant.1
