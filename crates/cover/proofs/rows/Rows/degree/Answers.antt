use Rattle.std.proofs.Common.{◌∙◌}
use Rattle.cover.proofs.Bits.{row_degree}
use Rattle.cover.proofs.rows.Rows.degree.Goals as goal

pub returns : goal.returns
returns c =
    let rows = c.args.self.now in
    record {
      value = c.count_set.ensures.value ∙ row_degree rows.count rows.width rows.words.now c.args.u rows.fit c.requires c.row.result.now c.row.ensures.length c.row.ensures.words;
      bound = c.count_set.ensures.bound;
    }
