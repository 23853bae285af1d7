use Rattle.std.proofs.Common.{◌≡◌, ◌+◌, ◌-◌, ◌*◌, ◌/◌, length, take, drop, refl, ap, ◌∙◌, arith}
use Rattle.std.proofs.lemmas.List.{length-drop, take_all}
use Rattle.cover_theory.specs.Rule.{count}
use Rattle.cover_theory.specs.Rows.{marked}
use Rattle.cover.proofs.Bits.{row_rest}
use Rattle.cover.proofs.rows.Rows.count_after.Goals as goal

pub returns : goal.returns
returns c =
    let rows = c.args.self.now in
    let row = c.row-row.result.now in
    let first = (c.args.u + 1) / 64 in
    let whole : take (length row - (first + 1)) (drop (first + 1) row) ≡ drop (first + 1) row = take_all _ (drop (first + 1) row) (omega (arith, length-drop (first + 1) row)) in
    let rest = row_rest rows.count rows.width rows.words.now c.args.u rows.fit c.requires row c.row-row.ensures.length c.row-row.ensures.words
    first c.above-low.result c.count_set.result refl (omega arith) (omega arith) c.above-low.ensures
    (c.count_set.ensures.value ∙ ap (λ l. count (marked l) (64 * length l) 0) whole) in
    record { value = rest.0; bound = rest.1 }
