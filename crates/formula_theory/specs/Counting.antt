-- The number of conflicts: a cover has each of them once, and so its parts and what remains count them.
use Rattle.std.specs.Prelude.{◌≡◌, ℕ, ◌*◌, ◌≤◌, Bool, ◌↔◌, List, [], ◌∷◌, ◌++◌, map, length, ℤ}
use Rattle.encoder_theory.specs.Meaning.{Meaning}
use Rattle.encoder_theory.specs.Laws.{Lawful}
use Rattle.network_theory.specs.declared.Call.{Call}
use Rattle.network_theory.specs.Layout.{Net}
use Rattle.network_theory.specs.Runs.{Came}
use Rattle.cover_theory.specs.Parts.{Part, clique, biclique, Cover, Remains, Once, Partition}
use Rattle.formula_theory.specs.Writing.{auxiliary_count, clause_count}
use Rattle.formula_theory.specs.Faithful.{Conflicts, Told, conflict_count}
use Rattle.formula_theory.specs.Promise.{Rule, Partitions, standing}

-- every pair of elements, the earlier one first
abbrev pub pairs_of : {X : Type 0} → List X → List (X × X)
pairs_of [] = []
pairs_of (x ∷ xs) = map (λ y. (x, y)) xs ++ pairs_of xs

-- every pair of an element of the one list and an element of the other
abbrev pub across : {X : Type 0} → List X → List X → List (X × X)
across [] ys = []
across (x ∷ xs) ys = map (λ y. (x, y)) ys ++ across xs ys

-- the conflicts of a part, one by one
abbrev pub part_pairs : Part ℤ → List (ℤ × ℤ)
part_pairs (clique xs) = pairs_of xs
part_pairs (biclique xs ys) = across xs ys

abbrev pub pairs_from : List (Part ℤ) → List (ℤ × ℤ) → List (ℤ × ℤ)
pairs_from [] pairs = pairs
pairs_from (P ∷ Ps) pairs = part_pairs P ++ pairs_from Ps pairs

-- the conflicts that a cover holds, one by one
abbrev pub conflict_list : Cover → List (ℤ × ℤ)
conflict_list C = pairs_from C.parts C.remaining

-- they are the network's conflicts, each once, and conflict_count is their number; there are fewer than pairs of literals
pub record Counted (n : ℕ) (Clash : ℤ → ℤ → Type 0) (C : Cover) : Type 0 where
  pub exactly : (p q : ℤ) → Clash p q ↔ Remains (conflict_list C) p q
  pub once : Once (conflict_list C)
  pub number : length (conflict_list C) ≡ conflict_count C
  pub bounded : conflict_count C ≤ 2 * n * (2 * n)

abbrev pub ConflictsCounted : Type 0
ConflictsCounted = (n : ℕ) (test : ℤ → ℤ → Bool) (C : Cover) → Conflicts n (Told test) → Partition n (Told test) C → Counted n (Told test) C

-- a writing takes no more clauses than calls were made, whatever the encoder
abbrev pub NoMoreThanCalls : Type 0
NoMoreThanCalls = (rule : Rule) → Partitions rule → (net : Net) (calls : List Call) → Came net calls
    → (M : Meaning) → clause_count M (rule net.variables (standing net)) ≤ length calls

-- a lawful encoder takes at most four auxiliaries for a conflict
abbrev pub FewAuxiliaries : Type 0
FewAuxiliaries = (n : ℕ) (test : ℤ → ℤ → Bool) (C : Cover) → Partition n (Told test) C
    → (M : Meaning) → Lawful M → auxiliary_count M C ≤ 4 * conflict_count C
