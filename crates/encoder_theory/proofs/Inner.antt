-- The numbers of a lawful encoder are small.
use Rattle.std.proofs.Common.{ℕ, ◌*◌, ◌≤◌, mul-le-mul, arith}
use Rattle.encoder_theory.specs.Meaning.{Meaning, most_members}
use Rattle.encoder_theory.specs.Laws.{Lawful}

module _ (M : Meaning) (law : Lawful M) where
  squared : (m : ℕ) → m ≤ most_members → m * m ≤ 65_536
  squared m l = mul-le-mul l l

  pub few_clauses : (m : ℕ) → m ≤ most_members → M.clauses m ≤ 65_536
  few_clauses m l = let a = squared m l in let b = law.bounded.clauses m l in omega arith

  pub few_auxiliaries : (m : ℕ) → m ≤ most_members → M.auxiliaries m ≤ 65_536
  few_auxiliaries m l = let a = squared m l in let b = law.bounded.auxiliaries m l in omega arith
