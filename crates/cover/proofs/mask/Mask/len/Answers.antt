use Rattle.std.proofs.Common.{◌≤◌, length, ◌∙◌, arith}
use Rattle.cover.proofs.Bits.{mask_size}
use Rattle.cover.proofs.mask.Mask.len.Goals as goal

pub returns : goal.returns
returns c =
    let room : c.args.width ≤ length c.args.self.now.words = omega arith in
    record {
      value = λ count small neat. c.count_set.ensures.value ∙ mask_size count c.args.width c.args.self.now.words room small neat;
      bound = c.count_set.ensures.bound;
    }
