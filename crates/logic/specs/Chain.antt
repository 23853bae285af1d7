-- Chains of clauses: if p is true, then so is each literal that a chain leads to from p.
use Rattle.std.specs.Prelude.{◌⊎◌, List, ℤ}
use Rattle.logic.specs.Literal.{complement}
use Rattle.logic.specs.Clause.{Clause, In}

-- a step from p to q, by a clause of -p and q in either order
abbrev pub Step : List Clause → ℤ → ℤ → Type 0
Step L p q = In (complement p, q) L ⊎ In (q, complement p) L

-- every literal reaches itself, and goes on by a step
pub data Chain (L : List Clause) : ℤ → ℤ → Type 0 where
  stay : {p : ℤ} → Chain L p p
  via : {p q r : ℤ} → Step L p q → Chain L q r → Chain L p r
