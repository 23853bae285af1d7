use Rattle.std.proofs.Common.{◌≡◌, ◌+◌, ◌*◌, length, None, sym, ap, ◌∙◌, subst, rules}
use Rattle.dimacs.specs.Written.{write_refusal}
use Rattle.compaction_theory.specs.Walks.{TakenNumbers}
use Rattle.compaction_theory.proofs.Held.{held_few, held_fits}
use Rattle.compaction.proofs.file.File.compacted.Goals as goal

pub overflow_cast-variables : goal.overflow_cast-variables
overflow_cast-variables c =
    let t : TakenNumbers c.args.self.now.variables c.args.self.now.numbers.now = c.args.self.now.taken in
    let few = held_few c.args.self.now.choice _ _ t.clauses _ _ c.in_ok-formula.ensures.holds in
    search rules

pub overflow_add-variables : goal.overflow_add-variables
overflow_add-variables c =
    let t : TakenNumbers c.args.self.now.variables c.args.self.now.numbers.now = c.args.self.now.taken in
    let few = held_few c.args.self.now.choice _ _ t.clauses _ _ c.in_ok-formula.ensures.holds in
    search rules

pub text_of-requires : goal.text_of-requires
text_of-requires c =
    let t : TakenNumbers c.args.self.now.variables c.args.self.now.numbers.now = c.args.self.now.taken in
    subst (λ k. write_refusal (c.args.self.now.variables + c.in_ok-formula.formula.size.auxiliaries) c.as_slice-numbers.result.now (24 + 12 * k) ≡ None)
    (ap length (sym t.whole))
    (held_fits c.args.self.now.choice _ _ t.clauses _ _ c.in_ok-formula.ensures.holds c.as_slice-numbers.result.now (c.as_slice-numbers.ensures.value ∙ c.in_ok-assembled.ensures))
