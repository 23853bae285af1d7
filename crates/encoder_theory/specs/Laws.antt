-- The five laws that every encoder keeps. They ask for no more than what a call admits.
use Rattle.std.specs.Prelude.{◌≡◌, ℕ, ◌*◌, ◌≤◌, ◌≢◌, ◌⊎◌, List, length, ℤ, Option}
use Rattle.logic.specs.Clause.{Clause, Assignment, In, Satisfies}
use Rattle.logic.specs.Chain.{Chain}
use Rattle.encoder_theory.specs.Members.{Within, OneTrue, AtMostOneTrue, Takes, OnMember, OnAuxiliary, Excludes}
use Rattle.encoder_theory.specs.Meaning.{Meaning, Admits, most_members}

-- p is on the variable of a member or on an auxiliary
abbrev pub Own : Meaning → List ℤ → ℕ → ℤ → Type 0
Own M xs first p = OnMember xs p ⊎ OnAuxiliary first (M.auxiliaries (length xs)) p

-- the list has the number of clauses that is told, of two literals on the members' variables and the auxiliaries;
-- there are as many values as auxiliaries
pub record WellFormed (M : Meaning) : Type 0 where
  pub counted : (xs : List ℤ) (first : ℕ) → Admits M xs first → length (M.list xs first) ≡ M.clauses (length xs)
  pub own : (xs : List ℤ) (first : ℕ) → Admits M xs first → (c : Clause) → In c (M.list xs first)
      → Own M xs first c.0 × Own M xs first c.1
  pub valued : (m : ℕ) (t : Option ℕ) → m ≤ most_members → Within t m → length (M.values m t) ≡ M.auxiliaries m

-- an assignment that satisfies the list has at most one true member
abbrev pub AtMostOne : Meaning → Type 0
AtMostOne M = (xs : List ℤ) (first : ℕ) → Admits M xs first
    → (s : Assignment) → Satisfies s (M.list xs first) → AtMostOneTrue s xs

-- an assignment with its one true member at t, or none, satisfies the list once the auxiliaries take the values for t
abbrev pub Completable : Meaning → Type 0
Completable M = (xs : List ℤ) (first : ℕ) → Admits M xs first
    → (s : Assignment) (t : Option ℕ) → Within t (length xs) → OneTrue s xs t
    → Takes s first (M.values (length xs) t) → Satisfies s (M.list xs first)

-- for different literals p and q of the members' variables, a chain leads from p to q
-- exactly if p is a member and q the complement of another
abbrev pub ExactChains : Meaning → Type 0
ExactChains M = (xs : List ℤ) (first : ℕ) → Admits M xs first
    → (p q : ℤ) → OnMember xs p → OnMember xs q → p ≢ q
    → (Chain (M.list xs first) p q → Excludes xs p q) × (Excludes xs p q → Chain (M.list xs first) p q)

-- there are at most m × m clauses, and as many auxiliaries
pub record Bounded (M : Meaning) : Type 0 where
  pub clauses : (m : ℕ) → m ≤ most_members → M.clauses m ≤ m * m
  pub auxiliaries : (m : ℕ) → m ≤ most_members → M.auxiliaries m ≤ m * m

pub record Lawful (M : Meaning) : Type 0 where
  pub well_formed : WellFormed M
  pub at_most_one : AtMostOne M
  pub completable : Completable M
  pub exact_chains : ExactChains M
  pub bounded : Bounded M
