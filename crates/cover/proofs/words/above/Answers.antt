use Rattle.std.proofs.Common.{◌*◌, ◌/◌, ◌^◌, ◌<◌, ap, ◌∙◌, mod-eq_of_lt, arith}
use Rattle.std.proofs.lemmas.Nat.{shr_split}
use Rattle.network_theory.specs.Layout.{bit}
use Rattle.cover_theory.proofs.Digits.{high_bit}
use Rattle.cover.proofs.words.above.Goals as goal

pub returns : goal.returns
returns c j =
    let h : c.args.x / 2 ^ c.args.k * 2 ^ c.args.k < 18446744073709551616 = omega (arith, shr_split c.args.x c.args.k, c.ranges.x) in
    ap (λ z. bit z j) (mod-eq_of_lt h) ∙ high_bit c.args.x c.args.k j
