-- A walk along a list of numbers from clause to clause.
use Rattle.std.specs.Prelude.{◌≡◌, ℕ, ◌<◌, ◌≤◌, List, ◌++◌, map, length, ℤ, pos, slice_index_or}
use Rattle.logic.specs.Literal.{variable}
use Rattle.logic.specs.Clause.{Clause, flat}
use Rattle.network_theory.specs.Calls.{most_variables}
use Rattle.network_theory.specs.Layout.{Net}
use Rattle.network_theory.specs.Runs.{Came}
use Rattle.dimacs.specs.Clauses.{numbers, ClausesOf}
use Rattle.compaction_theory.specs.Sorted.{clauses_in, conflicts_of, others_of}
use Rattle.compaction_theory.specs.Account.{differing}
use Rattle.compaction_theory.specs.Buffers.{asked, Taken}
use Rattle.compaction_theory.specs.Printed.{literals_of}

-- every number is on one of the variables that a network can have, or 0
abbrev pub Small : List ℤ → Type 0
Small xs = (i : ℕ) → i < length xs → variable (slice_index_or xs i (pos 0)) ≤ most_variables

-- the numbers are those of clauses that a program goes on with
pub record TakenNumbers (n : ℕ) (xs : List ℤ) : Type 0 where
  pub whole : xs ≡ numbers (clauses_in xs)
  pub clauses : Taken n (clauses_in xs)

-- the clauses in front have been passed: a network came by their calls, and their different conflicts have been counted
pub record Added (n : ℕ) (clauses left : List (List ℤ)) (net : Net) (count : ℕ) : Type 0 where
  pub front : List (List ℤ)
  pub parts : clauses ≡ front ++ left
  pub variables : net.variables ≡ n
  pub came : Came net (asked front)
  pub counted : count ≡ differing (conflicts_of front)

-- the numbers put so far are completed by those of the other clauses that are left
pub record Copied (n : ℕ) (clauses left : List (List ℤ)) (before put : List ℤ) : Type 0 where
  pub literals : ClausesOf n left
  pub completed : put ++ numbers (others_of left) ≡ before ++ numbers (others_of clauses)

-- the numbers put so far are completed by those of the written clauses that are left, each closed by a 0
pub record Closed (written : List Clause) (left before put : List ℤ) : Type 0 where
  pub clauses : List Clause
  pub pairs : left ≡ flat clauses
  pub completed : put ++ numbers (map literals_of clauses) ≡ before ++ numbers (map literals_of written)
