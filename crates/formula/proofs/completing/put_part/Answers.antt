use Rattle.std.proofs.Common.{◌≡◌, ◌+◌, ◌-◌, Bool, true, false, ◌∷◌, [], length, take, drop, refl, ap, ◌∙◌, subst, arith}
use mir.Val.{bool_byte}
use Rattle.filling.specs.Filled.{extended}
use Rattle.filling.specs.Views.{filled}
use Rattle.encoder_theory.specs.Buffer.{byte}
use Rattle.cover_theory.specs.Parts.{Sound}
use Rattle.formula_theory.specs.Outcome.{assignment_of}
use Rattle.writing_theory.specs.Listed.{read_part}
use Rattle.writing_theory.proofs.Parts.{as_clique, as_biclique}
use Rattle.writing_theory.proofs.Puts.{side_put}
use Rattle.writing_theory.proofs.Values.{literals_in}
use Rattle.formula.proofs.completing.put_part.Goals as goal

pub put_clique-requires-clause-literals : goal.put_clique-requires-clause-literals
put_clique-requires-clause-literals g c =
    let n = length c.args.values.now in
    let at = c.in-Clique.at in
    let k = at + c.in-Clique.size - at in
    let e = as_clique c.args.list.now c.args.part at c.in-Clique.size k c.in-Clique.is (omega arith) in
    literals_in n (take k (drop at c.args.list.now)) (subst (Sound n) e c.requires.sound).0

pub true_place-place-requires : goal.true_place-place-requires
true_place-place-requires g c =
    let n = length c.args.values.now in
    let at = c.in-Biclique.at in
    let j = at + c.in-Biclique.left - at in
    let e = as_biclique c.args.list.now c.args.part at c.in-Biclique.left c.in-Biclique.right j c.in-Biclique.right c.in-Biclique.is (omega arith) (omega arith) in
    literals_in n (take j (drop at c.args.list.now)) (subst (Sound n) e c.requires.sound).0

byte-is : (b : Bool) → bool_byte b ≡ byte b
byte-is true = refl
byte-is false = refl

pub returns-in-Biclique : goal.returns-in-Biclique
returns-in-Biclique g c =
    let at = c.in-Biclique.at in
    let j = at + c.in-Biclique.left - at in
    let xs = c.args.list.now in
    let f = filled c.args.out.now in
    let e = as_biclique xs c.args.part at c.in-Biclique.left c.in-Biclique.right j c.in-Biclique.right c.in-Biclique.is (omega arith) (omega arith) in
    side_put (g.E.Encoder.meaning c.args.encoder.now) (assignment_of c.args.values.now) (read_part xs c.args.part) (take j (drop at xs)) (take c.in-Biclique.right (drop (at + c.in-Biclique.left) xs))
    c.true_place-place.result f (filled c.push.new.self) e c.true_place-place.ensures c.requires.room
    (c.push.ensures ∙ ap (λ x. extended f (x ∷ [])) (byte-is c.is_some.result ∙ ap byte c.is_some.ensures))
