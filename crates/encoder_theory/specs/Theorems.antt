-- What is shown of the definitions, beside the laws.
use Rattle.std.specs.Prelude.{◌≡◌, ℕ, ◌≤◌, true, false, List, [], ◌∷◌, ℤ, pos, negsuc, Some, Decides, Option}
use Rattle.encoder_theory.specs.Members.{Within}
use Rattle.encoder_theory.specs.Meaning.{Meaning, Admitted, Equal, most_members}
use Rattle.encoder_theory.specs.Calls.{is_admitted, is_placed, told, write_answer, write_leaves}
use Rattle.encoder_theory.specs.Pairwise.{pairwise}
use Rattle.encoder_theory.specs.Binary.{bits, Least, binary}
use Rattle.encoder_theory.specs.Sequential.{sequential}

-- the tests of a call admit exactly what the laws speak of
pub record ExactAdmission : Type 0 where
  pub members : (xs : List ℤ) (first n : ℕ) → Decides (is_admitted xs (pos first) n) (Admitted xs first n)
  pub place : (m : ℕ) (t : Option ℕ) → Decides (is_placed m t) ((m ≤ most_members) × Within t m)

-- equal encoders tell, answer and write the same
pub record Alike (M N : Meaning) : Type 0 where
  pub clauses : (m : ℕ) → told m (M.clauses m) ≡ told m (N.clauses m)
  pub auxiliaries : (m : ℕ) → told m (M.auxiliaries m) ≡ told m (N.auxiliaries m)
  pub answers : (xs : List ℤ) (first : ℤ) (out : List ℤ) → write_answer M xs first out ≡ write_answer N xs first out
  pub leaves : (xs : List ℤ) (first : ℤ) (out : List ℤ) → write_leaves M xs first out ≡ write_leaves N xs first out

abbrev pub EqualsAlike : Type 0
EqualsAlike = (M N : Meaning) → Equal M N → Alike M N

-- the number of bits is the least with which every member has a code of its own
abbrev pub LeastBits : Type 0
LeastBits = (m : ℕ) → Least m (bits m)

-- numbers of clauses and auxiliaries at the edges
pub record Sizes : Type 0 where
  pub binary_7 : binary.clauses 7 ≡ 21
  pub binary_8 : binary.clauses 8 ≡ 24
  pub binary_9 : binary.clauses 9 ≡ 36
  pub binary_none : binary.auxiliaries 0 ≡ 0
  pub binary_most : binary.auxiliaries 256 ≡ 8
  pub sequential_5 : (sequential.clauses 5 ≡ 11) × (sequential.auxiliaries 5 ≡ 4)
  pub sequential_32 : (sequential.clauses 32 ≡ 92) × (sequential.auxiliaries 32 ≡ 31)
  pub sequential_1 : (sequential.clauses 1 ≡ 0) × (sequential.auxiliaries 1 ≡ 0)
  pub pairwise_256 : pairwise.clauses 256 ≡ 32640

-- the members 1, 2 and -3, with auxiliaries from 4 on: all clauses, and the values for the place 1
abbrev three : List ℤ
three = pos 1 ∷ pos 2 ∷ negsuc 2 ∷ []

pub record Lists : Type 0 where
  pub pairwise_list : pairwise.list three 4 ≡ (negsuc 0, negsuc 1) ∷ (negsuc 0, pos 3) ∷ (negsuc 1, pos 3) ∷ []
  pub binary_list : binary.list three 4
      ≡ (negsuc 0, negsuc 3) ∷ (negsuc 0, negsuc 4) ∷ (negsuc 1, pos 4) ∷ (negsuc 1, negsuc 4) ∷ (pos 3, negsuc 3) ∷ (pos 3, pos 5) ∷ []
  pub binary_values : binary.values 3 (Some 1) ≡ true ∷ false ∷ []
  pub sequential_list : sequential.list three 4
      ≡ (negsuc 0, pos 4) ∷ (negsuc 1, pos 5) ∷ (negsuc 3, pos 5) ∷ (negsuc 1, negsuc 3) ∷ (pos 3, negsuc 4) ∷ []
  pub sequential_values : sequential.values 3 (Some 1) ≡ false ∷ true ∷ []
