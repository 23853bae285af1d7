-- The definitions at small covers, computed.
use Rattle.std.specs.Prelude.{◌≡◌, ℕ, ◌&&◌, ◌||◌, List, [], ◌∷◌, pos, negsuc}
use Rattle.encoder_theory.specs.Pairwise.{pairwise}
use Rattle.encoder_theory.specs.Binary.{binary}
use Rattle.cover_theory.specs.Rule.{Rel, among, cover_of}
use Rattle.formula_theory.specs.Writing.{chosen, written_clauses, auxiliary_count, clause_count}

-- each index of the one list is in conflict with each of the other
abbrev pub between : List ℕ → List ℕ → Rel
between us ws u w = (among us u && among ws w) || (among ws u && among us w)

-- the literals 1 and 2 against 3 and 4
abbrev pub two_against_two : Rel
two_against_two = between (0 ∷ 2 ∷ []) (4 ∷ 6 ∷ [])

-- the literals 1 and 2 against 3, 4 and 5
abbrev pub two_against_three : Rel
two_against_three = between (0 ∷ 2 ∷ []) (4 ∷ 6 ∷ 8 ∷ [])

pub record SmallCovers : Type 0 where
  -- no gain: the four conflicts are written as they are
  pub two_by_two : (clause_count pairwise (cover_of 4 two_against_two) ≡ 4) × (auxiliary_count pairwise (cover_of 4 two_against_two) ≡ 0)
  -- five clauses and one auxiliary for six conflicts
  pub two_by_three : (clause_count pairwise (cover_of 5 two_against_three) ≡ 5) × (auxiliary_count pairwise (cover_of 5 two_against_three) ≡ 1)
  pub clauses : written_clauses pairwise (cover_of 5 two_against_three) 6
      ≡ (negsuc 0, pos 6) ∷ (negsuc 1, pos 6) ∷ (negsuc 5, negsuc 2) ∷ (negsuc 5, negsuc 3) ∷ (negsuc 5, negsuc 4) ∷ []

-- binary over 7 and 9 members saves nothing, so pairwise is written; over 8 members it does
pub record ChosenAtTheEdge : Type 0 where
  pub seven : ((chosen binary 7).clauses 7 ≡ 21) × ((chosen binary 7).auxiliaries 7 ≡ 0)
  pub eight : ((chosen binary 8).clauses 8 ≡ 24) × ((chosen binary 8).auxiliaries 8 ≡ 3)
  pub nine : ((chosen binary 9).clauses 9 ≡ 36) × ((chosen binary 9).auxiliaries 9 ≡ 0)
