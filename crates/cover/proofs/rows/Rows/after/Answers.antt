use Rattle.cover.proofs.Conflicting.{those_after}
use Rattle.cover.proofs.rows.Rows.after.Goals as goal

pub returns : goal.returns
returns c = let rows = c.args.self.now in those_after rows.count rows.width rows.words.now c.args.u rows.fit
