use Rattle.std.proofs.Common.{length, ap, rules}
use Rattle.cover.proofs.Walks.{first_left}
use Rattle.cover.proofs.PartsIterator.next.Goals as goal

pub returns-clause-steps : goal.returns-clause-steps
returns-clause-steps c = first_left c.args.self.now.list.now c.args.self.now.at c.end-self.result c.in_ok-part.part c.in_ok-part.ensures.value c.end-self.ensures

pub returns-clause-goes : goal.returns-clause-goes
returns-clause-goes c =
    let s = ap length (first_left c.args.self.now.list.now c.args.self.now.at c.end-self.result c.in_ok-part.part c.in_ok-part.ensures.value c.end-self.ensures) in
    search rules
