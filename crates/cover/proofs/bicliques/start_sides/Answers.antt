use Rattle.std.proofs.Common.{◌∙◌, arith}
use Rattle.cover_theory.proofs.Degrees.{start_sides}
use Rattle.cover.proofs.bicliques.start_sides.Goals as goal

pub returns : goal.returns
returns c =
    let rows = c.args.rows.now in
    start_sides rows.count rows.width rows.words.now c.clear.new.self.words c.insert.new.self.words c.copy_row.new.self.words c.args.c rows.fit c.requires
    c.clear.ensures c.insert.ensures (λ k h. c.copy_row.ensures k (omega (arith, c.row.ensures.length)) ∙ c.row.ensures.words k h)
