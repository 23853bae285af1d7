use Rattle.std.proofs.Common.{◌*◌, ◌/◌, ◌%◌, ◌^◌, get_or, ap, ◌∙◌, arith}
use lib.Bits.{bit_or}
use Rattle.std.proofs.lemmas.Nat.{one_shl}
use Rattle.network_theory.specs.Layout.{bit}
use Rattle.cover_theory.proofs.Digits.{put_bit}
use Rattle.cover_theory.proofs.Removes.{marked_set}
use Rattle.cover.proofs.mask.Mask.insert.Goals as goal

pub returns : goal.returns
returns c j =
    let x = get_or c.args.self.now.words (c.args.c / 64) 0 in
    let k = c.args.c % 64 in
    marked_set c.args.self.now.words c.args.c j (bit_or x (1 * 2 ^ k % 18446744073709551616)) (omega arith)
    (λ i. ap (λ z. bit (bit_or x z) i) (one_shl k 64 (omega arith)) ∙ put_bit x k i)
