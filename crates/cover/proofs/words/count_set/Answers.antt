use Rattle.std.proofs.Common.{◌≡◌, ◌*◌, map, length, ◌∙◌, arith, rules, sum}
use lib.Count.{ones}
use Rattle.cover_theory.specs.Rows.{marked}
use Rattle.cover.proofs.Bits.{set_bits, count_le}
use Rattle.cover.proofs.words.count_set.Goals as goal

pub returns : goal.returns
returns c =
    let e : c.sum.result ≡ sum (map ones c.args.words.now) = search rules in
    let value = e ∙ set_bits c.args.words.now c.type_inv.words in
    record { value = value; bound = omega (arith, value, count_le (marked c.args.words.now) (64 * length c.args.words.now) 0) }
