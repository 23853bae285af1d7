use Rattle.std.proofs.Common.{◌≤◌, ◌*◌, ◌&&◌, length, ◌∙◌, arith}
use Rattle.cover_theory.specs.Rows.{marked}
use Rattle.cover.proofs.Bits.{shared_bits, row_common, count_le}
use Rattle.cover.proofs.rows.Rows.common.Goals as goal

pub returns : goal.returns
returns c =
    let rows = c.args.self.now in
    let row = c.row.result.now in
    let mask = c.args.mask.now.words in
    let few = rows.fit.few in
    let short : length row ≤ length mask = omega arith in
    let sum = c.count_shared.ensures.sum ∙ shared_bits row mask short c.count_shared.ensures.words in
    record {
      value = sum ∙ row_common rows.count rows.width rows.words.now c.args.u rows.fit c.requires row c.row.ensures.length c.row.ensures.words mask;
      bound = omega (arith, sum, count_le (λ j. marked mask j && marked row j) (64 * length row) 0);
    }
