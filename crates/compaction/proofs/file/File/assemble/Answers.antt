use Rattle.std.proofs.Common.{List, ◌++◌, map, length, ℤ, sym, ap, ◌∙◌, arith}
use Rattle.dimacs.specs.Clauses.{numbers}
use Rattle.compaction_theory.specs.Sorted.{clauses_in, others_of}
use Rattle.compaction_theory.specs.Printed.{literals_of}
use Rattle.compaction_theory.specs.Walks.{TakenNumbers}
use Rattle.compaction_theory.proofs.Walks.{numbers_append}
use Rattle.compaction_theory.proofs.Held.{held_within, held_numbers}
use Rattle.compaction.proofs.file.File.assemble.Goals as goal

pub copy_written-requires : goal.copy_written-requires
copy_written-requires c =
    let t : TakenNumbers c.args.self.now.variables c.args.self.now.numbers.now = c.args.self.now.taken in
    let within = held_within c.args.self.now.choice _ _ t.clauses _ _ c.requires in
    omega (arith, ap length c.as_slice.ensures.value)

pub returns : goal.returns
returns c =
    let t : TakenNumbers c.args.self.now.variables c.args.self.now.numbers.now = c.args.self.now.taken in
    let others : List (List ℤ) = others_of (clauses_in c.args.self.now.numbers.now) in
    held_numbers c.args.self.now.choice _ _ t.clauses _ _ c.requires _ c.as_slice.result.now c.as_slice.ensures.value
    (λ W rest count w. c.in_ok-copy_others.ensures
    ∙ ap (λ (l : List ℤ). l ++ numbers others) (c.in_ok-copy_written.ensures W rest count w ∙ ap (λ (l : List ℤ). l ++ numbers (map literals_of W)) c.new-out.ensures.items)
    ∙ sym (numbers_append (map literals_of W) others))
