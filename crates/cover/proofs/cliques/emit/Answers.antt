use Rattle.std.proofs.Common.{◌≡◌, ◌+◌, [], ◌∷◌, ◌++◌, map, length, get_or, take, pos, sym, ap, ◌∙◌, arith, w32, SFits, to_z, of_z, rules}
use Rattle.std.proofs.lemmas.Int.{to_z-of_z}
use Rattle.std.proofs.lemmas.List.{take_more, length-append, length-map, length-take-le, map-append}
use Rattle.filling.specs.Filled.{after}
use Rattle.filling.specs.Views.{filled}
use Rattle.filling.proofs.Extended.{extended_step}
use Rattle.logic.specs.Literal.{literal}
use Rattle.cover.proofs.cliques.emit.Goals as goal

pub loop-u-preserved : goal.loop-u-preserved
loop-u-preserved c =
    let ms = c.args.members.now in
    let i = c.loop-u.u-index in
    let f : SFits w32 c.literal_of.result = search rules in
    let z : to_z w32 (of_z w32 c.literal_of.result) ≡ literal (get_or ms i 0) = to_z-of_z w32 c.literal_of.result f ∙ c.literal_of.ensures in
    let len : length (map literal (take i ms)) ≡ i = length-map (take i ms) literal ∙ length-take-le i ms (omega arith) in
    let grown : map literal (take (i + 1) ms) ≡ map literal (take i ms) ++ to_z w32 (of_z w32 c.literal_of.result) ∷ [] =
    ap (map literal) (take_more ms i 0 (omega arith)) ∙ map-append literal (take i ms) (get_or ms i 0 ∷ []) ∙ ap (λ x. map literal (take i ms) ++ x ∷ []) (sym z) in
    c.push-in-loop-u.ensures
    ∙ extended_step (filled c.args.list.now) (filled c.loop-u.list) (pos (length ms) ∷ map literal (take i ms)) (to_z w32 (of_z w32 c.literal_of.result) ∷ []) c.loop-u.invariant
    (omega (arith, c.requires.room, length-append (map literal (take i ms)) (to_z w32 (of_z w32 c.literal_of.result) ∷ [])))
    ∙ ap (λ l. after (filled c.args.list.now) (pos (length ms) ∷ l)) (sym grown)
