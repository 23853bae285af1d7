use Rattle.std.proofs.Common.{◌+◌, ◌∙◌, ap₂, arith}
use lib.Bits.{bit_and}
use Rattle.cover_theory.proofs.Starts.{started}
use Rattle.cover.proofs.cliques.start.Goals as goal

pub returns-then-from-rows : goal.returns-then-from-rows
returns-then-from-rows c =
    let rows = c.args.rows.now in
    let few = rows.fit.few in
    started c.share.new.self.words rows.words.now rows.width c.args.u c.args.w (c.args.w + 1) c.above.result c.if-from-rows.true (omega arith)
    (λ k p q. c.share.ensures k p (omega (arith, c.row.ensures.length)) ∙ ap₂ bit_and (c.row.ensures.words k q) (c.row-2.ensures.words k q)) c.above.ensures
