use Rattle.std.proofs.Common.{◌≡◌, true, [], ◌∷◌, ◌++◌, map, sym, ap, ◌∙◌, arith, w32, SFits, to_z, of_z, rules}
use Rattle.std.proofs.lemmas.Int.{to_z-of_z}
use Rattle.std.proofs.lemmas.List.{length-append}
use Rattle.filling.specs.Filled.{after}
use Rattle.filling.specs.Views.{filled}
use Rattle.filling.proofs.Extended.{extended_step}
use Rattle.logic.specs.Literal.{literal}
use Rattle.cover_theory.specs.Rule.{those}
use Rattle.cover_theory.specs.Rows.{held}
use Rattle.cover_theory.proofs.Counts.{held_is}
use Rattle.cover_theory.proofs.Emits.{emit_more, emit_none, emit_room}
use Rattle.cover.proofs.bicliques.emit_side.Goals as goal
use Rattle.cover.proofs.bicliques.emit_side.Goals.{then-contains, else-contains}

pub loop-u-preserved : goal.loop-u-preserved
loop-u-preserved c =
    let l = c.loop-u in
    let N = c.args.count in
    let p = held N c.args.mask.now.words in
    let f = filled c.args.list.now in
    let same = held_is N c.args.mask.now.words l.u c.loop-u-test.true in
    elim c.if-contains.branch [
      | then-contains w ↦
          let s : SFits w32 w.literal_of.result = search rules in
          let z : to_z w32 (of_z w32 w.literal_of.result) ≡ literal l.u = to_z-of_z w32 w.literal_of.result s ∙ w.literal_of.ensures in
          let e : p l.u ≡ true = sym same ∙ sym c.contains.ensures ∙ w.if-contains.true in
          ap filled w.list-is
          ∙ w.push.ensures
          ∙ extended_step f (filled l.list) (map literal (those p l.u 0)) (to_z w32 (of_z w32 w.literal_of.result) ∷ []) l.invariant
          (omega (arith, c.requires.room, emit_room p l.u N c.loop-u-test.true e, length-append (map literal (those p l.u 0)) (to_z w32 (of_z w32 w.literal_of.result) ∷ [])))
          ∙ ap (λ x. after f (map literal (those p l.u 0) ++ x ∷ [])) z ∙ ap (after f) (sym (emit_more p l.u e))
      | else-contains w ↦ ap filled w.list-is ∙ l.invariant ∙ ap (after f) (sym (emit_none p l.u (sym same ∙ sym c.contains.ensures ∙ w.if-contains.false)))
    ]
