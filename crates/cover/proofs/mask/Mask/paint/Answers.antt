use Rattle.std.proofs.Common.{◌||◌, eqb, get_or, take, ap, sym, ◌∙◌, arith}
use Rattle.std.proofs.lemmas.List.{take_more}
use Rattle.cover_theory.specs.Rule.{among}
use Rattle.cover_theory.proofs.Removes.{among_push}
use Rattle.cover.proofs.mask.Mask.paint.Goals as goal

pub loop-c-preserved : goal.loop-c-preserved
loop-c-preserved c j h =
    let i = c.loop-c.c-index in
    c.insert.ensures j ∙ ap (λ b. b || eqb (get_or c.args.literals.now i 0) j) (c.loop-c.invariant j h)
    ∙ sym (among_push (take i c.args.literals.now) (get_or c.args.literals.now i 0) j)
    ∙ ap (λ l. among l j) (sym (take_more c.args.literals.now i 0 (omega arith)))
