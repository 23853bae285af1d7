-- Pairwise: every two members exclude each other.
use Rattle.std.specs.Prelude.{ℕ, ◌+◌, ◌-◌, ◌*◌, ◌/◌, List, [], ◌∷◌, length, ℤ}
use Rattle.logic.specs.Clause.{Clause, against}
use Rattle.encoder_theory.specs.Each.{each}
use Rattle.encoder_theory.specs.Members.{member}
use Rattle.encoder_theory.specs.Meaning.{Meaning}

-- the member at i excludes each after it
abbrev pub pairs_of : List ℤ → ℕ → List Clause
pairs_of xs i = each (i + 1) (length xs - (i + 1)) (λ j. against (member xs i) (member xs j) ∷ [])

abbrev pub pairs : List ℤ → List Clause
pairs xs = each 0 (length xs) (pairs_of xs)

abbrev pub pairwise : Meaning
pairwise = record {
  clauses = λ m. m * (m - 1) / 2;
  auxiliaries = λ m. 0;
  list = λ xs first. pairs xs;
  values = λ m t. [];
}
