-- Worked examples of the rules: memory, encoders, covers, and the program as a whole.
use Rattle.std.specs.Prelude.{◌≡◌, ℕ, true, false, ◌&&◌, ◌||◌, List, [], ◌∷◌, ℤ, pos, negsuc, Some, codes}
use Rattle.network_theory.specs.Layout.{words_needed}
use Rattle.encoder_theory.specs.Meaning.{Meaning}
use Rattle.encoder_theory.specs.Pairwise.{pairwise}
use Rattle.encoder_theory.specs.Binary.{binary}
use Rattle.encoder_theory.specs.Sequential.{sequential}
use Rattle.layer_theory.specs.Commander.{commander}
use Rattle.layer_theory.specs.Tower.{tower}
use Rattle.cover_theory.specs.Parts.{Cover, biclique}
use Rattle.cover_theory.specs.Rule.{Rel, among, cover_of}
use Rattle.formula_theory.specs.Writing.{chosen, written_clauses, auxiliary_count, clause_count}
use Rattle.compaction_theory.specs.declared.Scale.TheVariants.{Small}
use Rattle.compaction_theory.specs.Printed.{outcome, printed}

-- an encoder takes so many clauses and auxiliaries for m members
abbrev pub Takes : Meaning → ℕ → ℕ → ℕ → Type 0
Takes M m clauses auxiliaries = (M.clauses m ≡ clauses) × (M.auxiliaries m ≡ auxiliaries)

-- a clique of m members takes so many: by the encoder if that takes fewer clauses than there are pairs, else by pairwise
abbrev pub CliqueTakes : Meaning → ℕ → ℕ → ℕ → Type 0
CliqueTakes M m clauses auxiliaries = Takes (chosen M m) m clauses auxiliaries

-- a cover takes so many
abbrev pub CoverTakes : Meaning → Cover → ℕ → ℕ → Type 0
CoverTakes M C clauses auxiliaries = (clause_count M C ≡ clauses) × (auxiliary_count M C ≡ auxiliaries)

-- each index of the one list is in conflict with each of the other
abbrev pub between : List ℕ → List ℕ → Rel
between us ws u w = (among us u && among ws w) || (among ws u && among us w)

-- the literals 1 and 2 against 3 and 4, and against 3, 4 and 5, by their indices
abbrev pub two_against_two : Rel
two_against_two = between (0 ∷ 2 ∷ []) (4 ∷ 6 ∷ [])

abbrev pub two_against_three : Rel
two_against_three = between (0 ∷ 2 ∷ []) (4 ∷ 6 ∷ 8 ∷ [])

-- the members 1, 2 and -3
abbrev pub three : List ℤ
three = pos 1 ∷ pos 2 ∷ negsuc 2 ∷ []

pub record Examples : Type 0 where
  -- 32 variables need 64 words, 33 need 132
  pub words : (words_needed 32 ≡ 64) × (words_needed 33 ≡ 132)
  -- binary over 7 members takes as many clauses as there are pairs, so pairwise is written; over 8 it is shorter; over 9 it is not
  pub binary_counts : (binary.clauses 7 ≡ 21) × (binary.clauses 8 ≡ 24) × (binary.clauses 9 ≡ 36)
  pub binary_chosen : CliqueTakes binary 7 21 0 × CliqueTakes binary 8 24 3 × CliqueTakes binary 9 36 0
  pub binary_auxiliaries : (binary.auxiliaries 0 ≡ 0) × (binary.auxiliaries 256 ≡ 8)
  pub sequential_counts : Takes sequential 1 0 0 × Takes sequential 5 11 4 × Takes sequential 32 92 31
  pub tower_counts : Takes tower 5 10 0 × Takes tower 6 13 2 × Takes tower 256 764 129
  pub commander_counts : Takes (commander 3 pairwise binary) 10 27 6
  -- over the three members, with auxiliaries from 4 on
  pub pairwise_list : pairwise.list three 4 ≡ (negsuc 0, negsuc 1) ∷ (negsuc 0, pos 3) ∷ (negsuc 1, pos 3) ∷ []
  pub binary_list : binary.list three 4
      ≡ (negsuc 0, negsuc 3) ∷ (negsuc 0, negsuc 4) ∷ (negsuc 1, pos 4) ∷ (negsuc 1, negsuc 4) ∷ (pos 3, negsuc 3) ∷ (pos 3, pos 5) ∷ []
  pub binary_values : binary.values 3 (Some 1) ≡ true ∷ false ∷ []
  pub sequential_list : sequential.list three 4
      ≡ (negsuc 0, pos 4) ∷ (negsuc 1, pos 5) ∷ (negsuc 3, pos 5) ∷ (negsuc 1, negsuc 3) ∷ (pos 3, negsuc 4) ∷ []
  pub sequential_values : sequential.values 3 (Some 1) ≡ false ∷ true ∷ []
  -- two literals against two: no gain, so no part, and four clauses
  pub two_by_two : cover_of 4 two_against_two ≡ record { parts = []; remaining = (pos 1, pos 3) ∷ (pos 1, pos 4) ∷ (pos 2, pos 3) ∷ (pos 2, pos 4) ∷ [] }
  pub two_by_two_takes : CoverTakes pairwise (cover_of 4 two_against_two) 4 0
  -- two against three: one biclique, five clauses and one auxiliary for six conflicts
  pub two_by_three : cover_of 5 two_against_three ≡ record { parts = biclique (pos 1 ∷ pos 2 ∷ []) (pos 3 ∷ pos 4 ∷ pos 5 ∷ []) ∷ []; remaining = [] }
  pub two_by_three_takes : CoverTakes pairwise (cover_of 5 two_against_three) 5 1
  pub two_by_three_written : written_clauses pairwise (cover_of 5 two_against_three) 6
      ≡ (negsuc 0, pos 6) ∷ (negsuc 1, pos 6) ∷ (negsuc 5, negsuc 2) ∷ (negsuc 5, negsuc 3) ∷ (negsuc 5, negsuc 4) ∷ []
  -- what the program prints
  pub program : printed (outcome Small (codes "c amo t\np cnf 4 5\n-1 -2 0\n1 2 3 4 0\n-3 -1 0\n-2 -1 0\n3 0\n"))
      ≡ codes "p cnf 4 4\n-1 -2 0\n-1 -3 0\n1 2 3 4 0\n3 0\n"
