use Rattle.std.proofs.Common.{◌-◌, length, ap, rules}
use Rattle.cover.specs.Views.{rel_of}
use Rattle.cover.proofs.Conflicting.{those_first, those_none}
use Rattle.cover.proofs.Growth.{conflict_in}
use Rattle.cover.proofs.Moves.{on_none}
use Rattle.cover.proofs.rows.ConflictsIterator.next.Goals as goal

pub returns-in_err-w-clause-steps : goal.returns-in_err-w-clause-steps
returns-in_err-w-clause-steps c =
    let s = c.args.self.now in
    let none = those_none (rel_of s.rows s.u) (s.rows.count - s.from) s.from c.in_err-w.ensures in
    on_none _ _ _ c.from_residual.ensures (none, none)

pub returns-clause-steps : goal.returns-clause-steps
returns-clause-steps c =
    let s = c.args.self.now in
    let n = c.in_ok-w.ensures in
    those_first (rel_of s.rows s.u) s.rows.count s.from c.in_ok-w.w n.low (conflict_in s.rows.count s.rows.width s.rows.words.now s.u c.in_ok-w.w n.here).1 n.here n.before

pub returns-clause-goes : goal.returns-clause-goes
returns-clause-goes c =
    let s = c.args.self.now in
    let n = c.in_ok-w.ensures in
    let l = ap length (those_first (rel_of s.rows s.u) s.rows.count s.from c.in_ok-w.w n.low (conflict_in s.rows.count s.rows.width s.rows.words.now s.u c.in_ok-w.w n.here).1 n.here n.before) in
    search rules
