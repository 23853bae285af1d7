-- What the program keeps, in the words of files.
use Rattle.std.specs.Prelude.{ℕ, ◌≤◌, List, length, ℤ}
use Rattle.dimacs.specs.Clauses.{numbers}
use Rattle.dimacs.specs.File.{File}

-- for a file within the program's limits, a file of the same variables and the same clauses is printed
abbrev pub KeepsClauses : List ℕ → List ℕ → Type 0
KeepsClauses text output =
    (n : ℕ) (clauses : List (List ℤ)) → File text n clauses
    → length text ≤ 65_536 → 1 ≤ n → n ≤ 256 → length (numbers clauses) ≤ 16_384
    → File output n clauses
