use Rattle.std.proofs.Common.{◌≡◌, ◌≤◌, ap, ◌∙◌, subst, sym, arith, w32, to_z, of_z}
use Rattle.std.proofs.lemmas.Int.{to_z-of_z}
use Rattle.filling.specs.Views.{filled}
use Rattle.logic.specs.Literal.{variable, complement}
use Rattle.encoder_theory.specs.Members.{member, auxiliary}
use Rattle.encoder_theory.specs.Meaning.{last_end}
use Rattle.encoder_theory.proofs.Signs.{small_fits}
use Rattle.encoder_theory.proofs.Answered.{small_members}
use Rattle.layer_theory.specs.Grouping.{groups, start}
use Rattle.layer_theory.proofs.Put.{link_next}
use Rattle.layers.proofs.group.Grouping.put_links.Goals as goal

pub link-requires-clause-member : goal.link-requires-clause-member
link-requires-clause-member c =
    let xs = c.args.members.now in
    let w = small_members xs c.args.first _ c.requires.admitted c.loop-p.p c.loop-p-test.true in
    subst (λ q. variable q ≤ last_end) (sym (to_z-of_z w32 (member xs c.loop-p.p) (small_fits (member xs c.loop-p.p) w))) w

pub loop-p-preserved : goal.loop-p-preserved
loop-p-preserved c =
    let s = c.args.self in
    let xs = c.args.members.now in
    let p = c.loop-p.p in
    let w = small_members xs c.args.first _ c.requires.admitted p c.loop-p-test.true in
    let t : to_z w32 (of_z w32 (member xs p)) ≡ member xs p = to_z-of_z w32 (member xs p) (small_fits (member xs p) w) in
    link_next (groups s.k s.members) (start s.k s.members) xs c.args.first (filled c.args.out.now) (omega (arith, c.requires.room, c.requires.members))
    p c.loop-p-test.true (filled c.loop-p.out) c.loop-p.invariant c.link.result
    (c.link.ensures ∙ ap (λ x. (auxiliary c.args.first c.group_of.result, complement x)) t ∙ ap (λ i. (auxiliary c.args.first i, complement (member xs p))) c.group_of.ensures.group)
    (filled c.push_clause.new.out) c.push_clause.ensures
