-- A literal is a signed number: v says that the variable v is true, -v that it is false. 0 is no literal.
use Rattle.std.specs.Prelude.{ℕ, ◌+◌, ◌-◌, ◌*◌, ◌/◌, ◌%◌, ◌≤◌, Bool, cond, ◌&&◌, ℤ, pos, negsuc, neg_ℤ, ◌==◌, nat_le, unsigned_abs}

abbrev pub variable : ℤ → ℕ
variable a = unsigned_abs a

abbrev pub complement : ℤ → ℤ
complement a = neg_ℤ a

-- a is a literal on one of the variables 1 to n
abbrev pub Literal : ℕ → ℤ → Type 0
Literal n a = (1 ≤ variable a) × (variable a ≤ n)

-- the same as a test
abbrev pub is_literal : ℕ → ℤ → Bool
is_literal n a = nat_le 1 (variable a) && nat_le (variable a) n

-- the place of a literal in the order 1, -1, 2, -2, .., counted from 0
abbrev pub index : ℤ → ℕ
index (pos v) = 2 * v - 2
index (negsuc k) = 2 * k + 1

-- the literal at a place of that order
abbrev pub literal : ℕ → ℤ
literal u = cond (u % 2 == 0) (pos (u / 2 + 1)) (negsuc (u / 2))
