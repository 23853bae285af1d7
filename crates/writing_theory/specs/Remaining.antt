-- The conflicts that remain, row by row: their clauses, and the first that values break.
use Rattle.std.specs.Prelude.{ℕ, ◌<◌, cond, List, [], ◌∷◌, map, ℤ, Some, None, Option}
use Rattle.logic.specs.Literal.{literal}
use Rattle.logic.specs.Clause.{Clause, Assignment, against, holds}

-- the clauses of the conflicts of u with the literals ws
abbrev pub row_clauses : ℕ → List ℕ → List Clause
row_clauses u ws = map (λ w. against (literal u) (literal w)) ws

-- they are below N
abbrev pub Below : ℕ → List ℕ → Type 0
Below N [] = Unit {0}
Below N (w ∷ ws) = (w < N) × Below N ws

-- the first of them whose literal is true, with the literal u
abbrev pub first_true : Assignment → ℕ → List ℕ → Option (ℤ × ℤ)
first_true s u [] = None
first_true s u (w ∷ ws) = cond (holds s (literal w)) (Some (literal u, literal w)) (first_true s u ws)
