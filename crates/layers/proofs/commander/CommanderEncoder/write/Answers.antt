use Rattle.std.proofs.Common.{◌∙◌, w32, SFits, arith, rules}
use Rattle.std.proofs.lemmas.Int.{to_z-of_z, to_z_pos}
use Rattle.filling.specs.Views.{filled}
use Rattle.encoder_theory.specs.Calls.{clauses_fit, clauses_room}
use Rattle.encoder_theory.proofs.Answered.{declined, all_written}
use Rattle.layer_theory.specs.Commander.{commander}
use Rattle.layer_theory.proofs.CommanderLaws.{commander_lawful}
use Rattle.layer_theory.proofs.Put.{answered, commander_fit, below_admits, below_room, top_next}
use Rattle.layers.proofs.commander.CommanderEncoder.write.Goals as goal

pub returns-in_err-first-clause-leaves : goal.returns-in_err-first-clause-leaves
returns-in_err-first-clause-leaves g c =
    let s = c.args.self.now in
    let f : SFits w32 c.args.first = c.ranges.first in
    let M = commander s.k (g.G.Encoder.meaning s.group) (g.T.Encoder.meaning s.top) in
    (declined {Y = Unit {0}} (clauses_fit M c.args.members.now c.args.first) (clauses_room M c.args.members.now c.args.out.now) _ tt _ c.args.out.now _
    (simp to_z-of_z at c.in_err-first.ensures)).1

pub put-next-requires-clause-admits : goal.put-next-requires-clause-admits
put-next-requires-clause-admits g c =
    let s = c.args.self.now in
    let f : SFits w32 c.args.first = c.ranges.first in
    below_admits (commander_fit (g.met.G.Encoder.lawful s.group) (g.met.T.Encoder.lawful s.top) s.size.0 c.in-Some.ensures.0 c.in-Some.groups.parted
    c.args.members.now c.args.first c.args.out.now _ c.in-Some.ensures.1 (simp to_z-of_z at c.in_ok-first.ensures) _ _ c.new-out.ensures)

pub put-next-requires-clause-room : goal.put-next-requires-clause-room
put-next-requires-clause-room g c =
    let s = c.args.self.now in
    let f : SFits w32 c.args.first = c.ranges.first in
    below_room (commander_fit (g.met.G.Encoder.lawful s.group) (g.met.T.Encoder.lawful s.top) s.size.0 c.in-Some.ensures.0 c.in-Some.groups.parted
    c.args.members.now c.args.first c.args.out.now _ c.in-Some.ensures.1 (simp to_z-of_z at c.in_ok-first.ensures) _ _ c.new-out.ensures)
    c.in-Some.groups.members c.in-Some.ensures.1

pub returns : goal.returns
returns g c =
    let s = c.args.self.now in
    let f : SFits w32 c.args.first = c.ranges.first in
    let M = commander s.k (g.G.Encoder.meaning s.group) (g.T.Encoder.meaning s.top) in
    let checked = simp to_z-of_z at c.in_ok-first.ensures in
    let h = commander_fit (g.met.G.Encoder.lawful s.group) (g.met.T.Encoder.lawful s.top) s.size.0 c.in-Some.ensures.0 c.in-Some.groups.parted
    c.args.members.now c.args.first c.args.out.now _ c.in-Some.ensures.1 checked _ _ c.new-out.ensures in
    let z = to_z_pos w32 c.put-next.result (omega (arith, c.put-next.ensures.small)) in
    let n = top_next h (filled c.put-next.new.out) c.in-Some.groups.members c.in-Some.ensures.1 c.count-count.result c.name_commanders-names.result c.put-next.result
    c.put-next.ensures.put c.count-count.ensures.formed c.name_commanders-names.ensures c.put-next.ensures.next _ z _ (filled c.append_clauses.new.out) c.append_clauses.ensures.answers c.append_clauses.ensures.leaves in
    record {
      answers = n.0 ∙ answered (clauses_fit M c.args.members.now c.args.first) (clauses_room M c.args.members.now c.args.out.now) _ _ checked;
      leaves = search rules ∙ all_written M (commander_lawful s.k s.size.0 _ _ (g.met.G.Encoder.lawful s.group) (g.met.T.Encoder.lawful s.top))
          c.args.members.now c.args.first c.args.out.now _ checked _ _ c.append_clauses.new.out c.new-out.ensures n.1;
    }
