use Rattle.std.proofs.Common.{◌<◌, sym, subst, arith}
use Rattle.layer_theory.specs.Grouping.{groups, start}
use Rattle.layer_theory.proofs.Rule.{rule_forms, lying, group_of-div}
use Rattle.layers.proofs.group.Grouping.group_of.Goals as goal

pub returns : goal.returns
returns c =
    let s = c.args.self in
    let e = group_of-div s.k s.members c.args.place (omega (arith, s.size.0)) c.requires in
    record {
      below = subst (λ i. i < groups s.k s.members) e (lying s.k s.members (groups s.k s.members) (start s.k s.members) (rule_forms s.k s.members (omega (arith, s.size.0))) c.args.place c.requires).is_group;
      group = sym e;
    }
