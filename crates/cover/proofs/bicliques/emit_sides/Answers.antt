use Rattle.std.proofs.Common.{◌≡◌, ◌≤◌, [], ◌∷◌, ◌++◌, ℤ, pos, map, length, sym, ap, ap₂, ◌∙◌, arith, w32, SFits, to_z, of_z, rules}
use Rattle.std.proofs.lemmas.Int.{to_z-of_z, to_z_pos}
use Rattle.std.proofs.lemmas.List.{length-map}
use Rattle.filling.specs.Filled.{Filled, after, extended}
use Rattle.filling.specs.Views.{filled}
use Rattle.filling.proofs.Extended.{extended_fits, extended_step}
use Rattle.logic.specs.Literal.{literal}
use Rattle.cover_theory.specs.Lies.{minus}
use Rattle.cover_theory.specs.Rule.{those}
use Rattle.cover_theory.specs.Rows.{held}
use Rattle.cover_theory.proofs.Members.{length_those}
use Rattle.cover.proofs.Moves.{after_step, after_rest}
use Rattle.cover.proofs.bicliques.emit_sides.Goals as goal

-- the two numbers at the start, and the left
begun : (f f₁ f₂ : Filled ℤ) (a b : ℤ) → 2 ≤ length f.rest → f₁ ≡ extended f (a ∷ []) → f₂ ≡ extended f₁ (b ∷ []) → f₂ ≡ after f (a ∷ b ∷ [])
begun f f₁ f₂ a b room p q = q ∙ extended_step f f₁ (a ∷ []) (b ∷ []) (p ∙ extended_fits f (a ∷ []) (omega arith)) room

pub emit_side-requires-2-clause-room : goal.emit_side-requires-2-clause-room
emit_side-requires-2-clause-room c =
    let N = c.args.count in
    let p = held N c.args.sides.now.left.words in
    let two = begun (filled c.args.list.now) (filled c.push.new.self) (filled c.push-2.new.self) _ _ (omega (arith, c.requires.room.1)) c.push.ensures c.push-2.ensures in
    let left = after_rest (filled c.push-2.new.self) (filled c.emit_side.new.list) (map literal (those p N 0)) c.emit_side.ensures in
    let start = after_rest (filled c.args.list.now) (filled c.push-2.new.self) _ two in
    omega (arith, left, start, length-map (those p N 0) literal, length_those p N 0, c.requires.room.1, c.requires.left.0, c.requires.right.0)

pub returns : goal.returns
returns c =
    let N = c.args.count in
    let p = held N c.args.sides.now.left.words in
    let q = held N c.args.sides.now.right.words in
    let f = filled c.args.list.now in
    let s : SFits w32 c.negated.result = search rules in
    let a = to_z w32 (of_z w32 c.negated.result) in
    let b = to_z w32 c.args.y in
    let x-is : a ≡ minus (length (those p N 0)) = to_z-of_z w32 c.negated.result s ∙ c.negated.ensures ∙ ap minus (c.requires.left.0 ∙ sym (length_those p N 0)) in
    let y-is : b ≡ pos (length (those q N 0)) = to_z_pos w32 c.args.y (omega (arith, c.requires.right.1)) ∙ ap pos (c.requires.right.0 ∙ sym (length_those q N 0)) in
    let two = begun f (filled c.push.new.self) (filled c.push-2.new.self) a b (omega (arith, c.requires.room.1)) c.push.ensures c.push-2.ensures in
    after_step f (filled c.emit_side.new.list) (filled c.emit_side-2.new.list) ((a ∷ b ∷ []) ++ map literal (those p N 0)) (map literal (those q N 0))
    (after_step f (filled c.push-2.new.self) (filled c.emit_side.new.list) (a ∷ b ∷ []) (map literal (those p N 0)) two c.emit_side.ensures) c.emit_side-2.ensures
    ∙ ap₂ (λ m n. after f (m ∷ n ∷ (map literal (those p N 0) ++ map literal (those q N 0)))) x-is y-is
