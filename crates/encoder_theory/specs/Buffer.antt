-- Clauses and truth values in a buffer.
use Rattle.std.specs.Prelude.{ℕ, ◌+◌, Bool, cond, List, length, ℤ, nat_le, slice_set}
use Rattle.logic.specs.Clause.{Clause}

-- the buffer with a clause at the numbers at and at + 1, if it has both
abbrev pub with_clause : List ℤ → ℕ → Clause → List ℤ
with_clause out at c = cond (nat_le (at + 2) (length out)) (slice_set (slice_set out at c.0) (at + 1) c.1) out

-- a truth value as a byte
abbrev pub byte : Bool → ℕ
byte b = cond b 1 0
