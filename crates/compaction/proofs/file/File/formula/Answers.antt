use Rattle.std.proofs.Common.{◌≡◌, List, length, drop, ℤ, ◌∙◌, rules}
use Rattle.std.proofs.lemmas.List.{take_at}
use Rattle.compaction_theory.specs.Sorted.{clauses_in}
use Rattle.compaction_theory.specs.Printed.{cover_of_clauses}
use Rattle.compaction_theory.specs.Walks.{TakenNumbers}
use Rattle.compaction_theory.proofs.Counting.{parts_sized}
use Rattle.compaction.proofs.file.File.formula.Goals as goal

pub returns-clause-counts : goal.returns-clause-counts
returns-clause-counts c =
    let n = c.args.self.now.variables in
    let clauses : List (List ℤ) = clauses_in c.args.self.now.numbers.now in
    let t : TakenNumbers n c.args.self.now.numbers.now = c.args.self.now.taken in
    let list : List ℤ = c.write_conflicts-conflicts.new.list in
    let listed : length list ≡ c.in_ok-list.list.len = search rules in
    let parts = c.count_parts-cliques.ensures.reads (cover_of_clauses n clauses).parts _ (parts_sized n clauses t.clauses)
    (c.as_slice.ensures.value ∙ take_at list (drop (length list) c.in_ok-list.list.items) c.in_ok-list.list.len listed ∙ c.write_conflicts-conflicts.ensures.written.parts) in
    record { differ = c.write_conflicts-conflicts.ensures.count; in_cliques = parts.0; in_bicliques = parts.1 }
