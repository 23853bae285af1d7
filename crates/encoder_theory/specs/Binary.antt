-- Binary: each member fixes all bits of its place, counted from 0, lowest bit first.
use Rattle.std.specs.Prelude.{ℕ, zero, suc, ◌+◌, ◌*◌, ◌/◌, ◌%◌, ◌^◌, ◌≤◌, Bool, false, cond, List, [], ◌∷◌, length, ℤ, Some, None, Option, ◌==◌, nat_le}
use Rattle.logic.specs.Literal.{complement}
use Rattle.logic.specs.Clause.{Clause}
use Rattle.encoder_theory.specs.Each.{each, table}
use Rattle.encoder_theory.specs.Members.{member, auxiliary}
use Rattle.encoder_theory.specs.Meaning.{Meaning}

-- the first b from `from` on, within n steps, with m at most 2 ^ b
abbrev pub bits_from : ℕ → ℕ → ℕ → ℕ
bits_from zero from m = from
bits_from (suc n) from m = cond (nat_le m (2 ^ from)) from (bits_from n (from + 1) m)

-- the least b with m at most 2 ^ b, and 0 for no members; as many steps as members are enough
abbrev pub bits : ℕ → ℕ
bits m = bits_from m 0 m

-- b is the least number with m at most 2 ^ b
pub record Least (m b : ℕ) : Type 0 where
  pub enough : m ≤ 2 ^ b
  pub least : (k : ℕ) → m ≤ 2 ^ k → b ≤ k

-- bit l of a number, the lowest is bit 0
abbrev pub bit : ℕ → ℕ → Bool
bit i l = i / 2 ^ l % 2 == 1

-- the literal that says that the auxiliary z is as the bit is
abbrev pub as_bit : Bool → ℤ → ℤ
as_bit b z = cond b z (complement z)

-- if the member at i is true, the auxiliary at l is as bit l of i
abbrev pub code_clause : List ℤ → ℕ → ℕ → ℕ → Clause
code_clause xs first i l = (complement (member xs i), as_bit (bit i l) (auxiliary first l))

abbrev pub codes : List ℤ → ℕ → List Clause
codes xs first = each 0 (length xs) (λ i. each 0 (bits (length xs)) (λ l. code_clause xs first i l ∷ []))

-- bit l of the place, or 0 for none
abbrev pub code : Option ℕ → ℕ → Bool
code None l = false
code (Some t) l = bit t l

abbrev pub binary : Meaning
binary = record {
  clauses = λ m. m * bits m;
  auxiliaries = bits;
  list = codes;
  values = λ m t. table (bits m) (code t);
}
