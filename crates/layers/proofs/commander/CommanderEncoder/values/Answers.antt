use Rattle.std.proofs.Common.{◌∙◌, rules}
use Rattle.filling.specs.Views.{filled}
use Rattle.encoder_theory.proofs.Answered.{all_valued}
use Rattle.layer_theory.specs.Commander.{commander}
use Rattle.layer_theory.proofs.CommanderLaws.{commander_lawful}
use Rattle.layer_theory.proofs.Put.{commander_values_fit, top_values_next}
use Rattle.layers.proofs.commander.CommanderEncoder.values.Goals as goal

pub returns : goal.returns
returns g c =
    let s = c.args.self.now in
    let h = commander_values_fit (g.met.G.Encoder.lawful s.group) (g.met.T.Encoder.lawful s.top) s.size.0 c.in-Some.ensures.0 c.in-Some.groups.parted
    c.args.members c.args.place c.args.out.now c.in-Some.ensures.1 c.in_ok-check_values.ensures _ _ c.new-out.ensures in
    let n = top_values_next h (filled c.put_values.new.out) c.in-Some.groups.members c.in-Some.ensures.1 c.count.result c.group_place.result
    c.put_values.ensures c.count.ensures.formed c.group_place.ensures _ (filled c.append_values.new.out) c.append_values.ensures.answers c.append_values.ensures.leaves in
    record {
      answers = n.0 ∙ c.in_ok-check_values.ensures;
      leaves = search rules ∙ all_valued (commander s.k (g.G.Encoder.meaning s.group) (g.T.Encoder.meaning s.top)) (commander_lawful s.k s.size.0 _ _ (g.met.G.Encoder.lawful s.group) (g.met.T.Encoder.lawful s.top))
          c.args.members c.args.place c.args.out.now c.in_ok-check_values.ensures _ _ c.append_values.new.out c.new-out.ensures n.1;
    }
