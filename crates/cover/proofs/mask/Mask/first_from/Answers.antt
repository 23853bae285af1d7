use Rattle.std.proofs.Common.{◌≤◌, length, arith}
use Rattle.cover.proofs.Growth.{first_taken}
use Rattle.cover.proofs.mask.Mask.first_from.Goals as goal

pub returns : goal.returns
returns c =
    let room : c.args.width ≤ length c.args.self.now.words = omega arith in
    first_taken c.args.width c.args.self.now.words c.args.from room c.first_set.result c.first_set.ensures
