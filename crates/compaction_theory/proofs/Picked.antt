-- Clauses read back from their numbers, and the laws of every encoder that a file can pick.
use Rattle.std.proofs.Common.{◌≡◌, ℕ, ◌≤◌, List, [], ◌∷◌, ◌++◌, ℤ, pos, refl, ap, ◌∙◌, arith}
use Rattle.std.proofs.lemmas.Bool.{cond-false, ne_eqb}
use Rattle.logic.specs.Literal.{variable}
use Rattle.dimacs.specs.Clauses.{numbers, LiteralsOf, ClausesOf, closes}
use Rattle.encoder_theory.specs.Laws.{Lawful}
use Rattle.encoder_theory.specs.Pairwise.{pairwise}
use Rattle.encoder_theory.specs.Binary.{binary}
use Rattle.encoder_theory.proofs.PairwiseLaws.{pairwise_lawful}
use Rattle.encoder_theory.proofs.BinaryLaws.{binary_lawful}
use Rattle.encoder_theory.proofs.SequentialLaws.{sequential_lawful}
use Rattle.layer_theory.proofs.CommanderLaws.{commander_lawful}
use Rattle.layer_theory.proofs.TowerLaws.{tower_lawful}
use Rattle.compaction_theory.specs.declared.Choice.{Choice}
use Rattle.compaction_theory.specs.declared.Choice.TheVariants.{Pairwise, Binary, Sequential, Commander, Tower}
use Rattle.compaction_theory.specs.Sorted.{onto, clauses_in}
use Rattle.compaction_theory.specs.Choices.{meaning_of}

-- a clause before other clauses' numbers is the first that is read
clause_back : (n : ℕ) (c : List ℤ) (zs : List ℤ) → LiteralsOf n c → clauses_in (c ++ pos 0 ∷ zs) ≡ c ∷ clauses_in zs
clause_back n [] zs l = refl
clause_back n (a ∷ c) zs l =
    let some : 1 ≤ variable a = l.0.0 in
    cond-false (closes a) _ _ (ne_eqb (variable a) 0 (λ e. omega arith)) ∙ ap (onto a) (clause_back n c zs l.1)

-- the clauses of clauses' numbers are the clauses
pub clauses_back : (n : ℕ) (clauses : List (List ℤ)) → ClausesOf n clauses → clauses_in (numbers clauses) ≡ clauses
clauses_back n [] l = refl
clauses_back n (c ∷ cs) l = clause_back n c (numbers cs) l.0 ∙ ap (λ ds. c ∷ ds) (clauses_back n cs l.1)

pub lawful_choice : (choice : Choice) → Lawful (meaning_of choice)
lawful_choice Pairwise = pairwise_lawful
lawful_choice Binary = binary_lawful
lawful_choice Sequential = sequential_lawful
lawful_choice Commander = commander_lawful 3 (omega arith) pairwise binary pairwise_lawful binary_lawful
lawful_choice Tower = tower_lawful
