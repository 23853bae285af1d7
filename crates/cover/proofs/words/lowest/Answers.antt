use Rattle.std.proofs.Common.{arith}
use Rattle.cover_theory.proofs.Digits.{lowest_in, lowest_here, lowest_before}
use Rattle.cover.proofs.words.lowest.Goals as goal

pub returns : goal.returns
returns c = record {
  within = lowest_in c.args.x c.requires (omega arith);
  here = lowest_here c.args.x c.requires (omega arith);
  before = lowest_before c.args.x;
}
