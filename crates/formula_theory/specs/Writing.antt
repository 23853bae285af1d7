-- What is written for a cover: the clauses of its parts, each with auxiliary variables of its own, and of the conflicts that remain.
use Rattle.std.specs.Prelude.{ℕ, ◌+◌, ◌-◌, ◌*◌, ◌/◌, ◌<◌, ◌≤◌, Bool, false, cond, ◌||◌, List, [], ◌∷◌, ◌++◌, map, length, ℤ, pos, Some, None, Option, nat_lt, slice_index_or}
use Rattle.std.specs.Option.{option_map}
use Rattle.logic.specs.Literal.{complement}
use Rattle.logic.specs.Clause.{Clause, against, Assignment, holds}
use Rattle.encoder_theory.specs.Meaning.{Meaning, last_end}
use Rattle.encoder_theory.specs.Pairwise.{pairwise}
use Rattle.cover_theory.specs.Parts.{Part, clique, biclique, Cover}

-- the number of pairs among m members
abbrev pub pairs_among : ℕ → ℕ
pairs_among m = m * (m - 1) / 2

-- the encoder that a clique of m members uses: the given one if it takes fewer clauses than there are pairs, else pairwise
abbrev pub chosen : Meaning → ℕ → Meaning
chosen M m = cond (nat_lt (M.clauses m) (pairs_among m)) M pairwise

-- if p is true, then so is q
abbrev pub implication : ℤ → ℤ → Clause
implication p q = (complement p, q)

-- a biclique's auxiliary z is true if a literal of the one side is, and then no literal of the other side is
abbrev pub biclique_clauses : List ℤ → List ℤ → ℤ → List Clause
biclique_clauses xs ys z = map (λ a. implication a z) xs ++ map (λ b. against z b) ys

-- the clauses of a part, its auxiliaries numbered from first on
abbrev pub part_clauses : Meaning → Part ℤ → ℕ → List Clause
part_clauses M (clique xs) first = (chosen M (length xs)).list xs first
part_clauses M (biclique xs ys) first = biclique_clauses xs ys (pos first)

-- how many auxiliaries a part takes
abbrev pub part_auxiliaries : Meaning → Part ℤ → ℕ
part_auxiliaries M (clique xs) = (chosen M (length xs)).auxiliaries (length xs)
part_auxiliaries M (biclique xs ys) = 1

-- the clauses of conflicts
abbrev pub conflict_clauses : List (ℤ × ℤ) → List Clause
conflict_clauses pairs = map (λ c. against c.0 c.1) pairs

-- part after part, each part's auxiliaries numbered on from those before it; then the conflicts that remain
abbrev pub clauses_from : Meaning → List (Part ℤ) → List (ℤ × ℤ) → ℕ → List Clause
clauses_from M [] pairs first = conflict_clauses pairs
clauses_from M (P ∷ Ps) pairs first = part_clauses M P first ++ clauses_from M Ps pairs (first + part_auxiliaries M P)

-- THE WRITTEN CLAUSES of a cover, in order
abbrev pub written_clauses : Meaning → Cover → ℕ → List Clause
written_clauses M C first = clauses_from M C.parts C.remaining first

-- the sum of a number over the parts
abbrev pub over_parts : (Part ℤ → ℕ) → List (Part ℤ) → ℕ
over_parts f [] = 0
over_parts f (P ∷ Ps) = f P + over_parts f Ps

-- the number of auxiliaries of a cover: they are the variables from first on, up to first + auxiliary_count - 1
abbrev pub auxiliary_count : Meaning → Cover → ℕ
auxiliary_count M C = over_parts (part_auxiliaries M) C.parts

-- the number of clauses that a part takes
abbrev pub part_size : Meaning → Part ℤ → ℕ
part_size M (clique xs) = (chosen M (length xs)).clauses (length xs)
part_size M (biclique xs ys) = length xs + length ys

-- the number of written clauses
abbrev pub clause_count : Meaning → Cover → ℕ
clause_count M C = over_parts (part_size M) C.parts + length C.remaining

-- the place, counted from 0, of the first true literal, if one is true
abbrev pub true_place : Assignment → List ℤ → Option ℕ
true_place s [] = None
true_place s (x ∷ xs) = cond (holds s x) (Some 0) (option_map (λ i. i + 1) (true_place s xs))

-- one of the literals is true
abbrev pub some_true : Assignment → List ℤ → Bool
some_true s [] = false
some_true s (x ∷ xs) = holds s x || some_true s xs

-- the values of a part's auxiliaries for an assignment: those that the encoder has for the place of a clique's true member;
-- for a biclique whether its first side has a true literal
abbrev pub part_values : Meaning → Assignment → Part ℤ → List Bool
part_values M s (clique xs) = (chosen M (length xs)).values (length xs) (true_place s xs)
part_values M s (biclique xs ys) = some_true s xs ∷ []

abbrev pub values_from : Meaning → Assignment → List (Part ℤ) → List Bool
values_from M s [] = []
values_from M s (P ∷ Ps) = part_values M s P ++ values_from M s Ps

-- THE AUXILIARY VALUES of a cover, in the order of the auxiliaries
abbrev pub auxiliary_values : Meaning → Cover → Assignment → List Bool
auxiliary_values M C s = values_from M s C.parts

-- the assignment s, but with the values vs for the variables from first on, as many as there are values
abbrev pub with_values : Assignment → ℕ → List Bool → Assignment
with_values s first vs v = cond (nat_lt v first) (s v) (cond (nat_lt v (first + length vs)) (slice_index_or vs (v - first) false) (s v))

-- the numbers from first on will do for the auxiliaries: first is above the n variables, and the last one is at most 1,000,000,000
pub record Numbered (n : ℕ) (M : Meaning) (C : Cover) (first : ℕ) : Type 0 where
  pub above : n < first
  pub fits : first + auxiliary_count M C ≤ last_end
