use Rattle.std.proofs.Common.{◌≡◌, ◌*◌, List, [], ◌∷◌, ◌++◌, take, ℤ, pos, vec_items, sym, ap, ◌∙◌, subst, arith}
use Rattle.std.specs.Slice.Iter.{chunks_exact_rest, chunks_exact_size}
use Rattle.compaction_theory.specs.Walks.{Closed}
use Rattle.compaction_theory.proofs.Output.{closed_first, closed_more, closed_all}
use Rattle.compaction.proofs.output.copy_written.Goals as goal

pub loop-clause-init : goal.loop-clause-init
loop-clause-init c =
    let out : List ℤ = vec_items c.args.out.now in
    let made = c.into_iter-clause-iterator.ensures.into_iter_gives in
    let rest : chunks_exact_rest c.into_iter-clause-iterator.result ≡ take (2 * c.args.clauses) c.args.written.now =
    ap chunks_exact_rest made ∙ c.chunks_exact-clause-items.ensures.rest in (
      ap chunks_exact_size made ∙ c.chunks_exact-clause-items.ensures.size,
      λ W others count w. subst (λ (l : List ℤ). Closed W l out out) (sym rest) (closed_first W others c.args.written.now out c.args.clauses count w),
    )

pub loop-clause-preserved : goal.loop-clause-preserved
loop-clause-preserved c =
    let steps = c.in-Some.ensures.steps in
    let size = c.loop-clause.invariant.0 in (
      steps.0 ∙ size,
      λ W rest count w.
          closed_more W _ _ _ _ _ _ (c.loop-clause.invariant.1 W rest count w) steps.1.0 (steps.1.1 ∙ size)
          (c.in_ok-push.ensures.items ∙ ap (λ (l : List ℤ). l ++ pos 0 ∷ []) c.in_ok-extend_from_slice.ensures.items),
    )

pub returns : goal.returns
returns c W rest count w =
    let few = c.in-None.ensures.steps.1.0 in
    closed_all W _ _ _ (c.loop-clause.invariant.1 W rest count w) (omega (arith, c.loop-clause.invariant.0))
