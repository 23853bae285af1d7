use Rattle.std.proofs.Common.{◌+◌, ◌≤◌, arith, rules}
use Rattle.encoder_theory.proofs.Answered.{told_is}
use Rattle.encoder_theory.proofs.Inner.{few_clauses}
use Rattle.layers.proofs.commander.CommanderEncoder.clauses.Goals as goal

pub overflow_add-result : goal.overflow_add-result
overflow_add-result g c =
    let t = told_is _ _ _ c.in_ok-clauses.ensures in
    let b = few_clauses (g.T.Encoder.meaning c.args.self.now.top) (g.met.T.Encoder.lawful c.args.self.now.top) c.count.result c.count.ensures.few in
    let small : c.clauses-2.result + c.in_ok-clauses.field-0 ≤ 140_000 = omega arith in
    search rules
