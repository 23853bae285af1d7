-- Laws of literals and chains.
use Rattle.std.specs.Prelude.{◌≡◌, ℕ, ◌≤◌, true, List, ℤ}
use Rattle.logic.specs.Literal.{variable, index, literal}
use Rattle.logic.specs.Clause.{Clause, Assignment, holds, Satisfies}
use Rattle.logic.specs.Chain.{Chain}

-- every place of the order has a literal of its own, and every literal its place
pub record Indexed : Type 0 where
  pub placed : (u : ℕ) → index (literal u) ≡ u
  pub literal_placed : (a : ℤ) → 1 ≤ variable a → literal (index a) ≡ a

-- a chain keeps truth: where an assignment satisfies the clauses and p is true, then so is each literal that a chain leads to
abbrev pub ChainsKeepTruth : Type 0
ChainsKeepTruth = (s : Assignment) (L : List Clause) (p q : ℤ) → Satisfies s L → Chain L p q → holds s p ≡ true → holds s q ≡ true
