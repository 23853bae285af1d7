-- What an encoder of "at most one of the members is true" means.
use Rattle.std.specs.Prelude.{◌≡◌, ℕ, ◌+◌, ◌≤◌, Bool, List, length, ℤ, Option}
use Rattle.logic.specs.Clause.{Clause}
use Rattle.encoder_theory.specs.Members.{Proper}

pub record Meaning : Type 0 where
  -- the number of clauses over m members
  pub clauses : ℕ → ℕ
  -- the number of auxiliaries over m members
  pub auxiliaries : ℕ → ℕ
  -- the clauses over the members, with auxiliaries from a first number on
  pub list : List ℤ → ℕ → List Clause
  -- the values of the auxiliaries over m members, for the place of the one true member or for none
  pub values : ℕ → Option ℕ → List Bool

-- an encoder takes at most so many members
abbrev pub most_members : ℕ
most_members = 256

-- the first number past an encoder's auxiliaries is at most this
abbrev pub last_end : ℕ
last_end = 1_000_000_001

-- what a call admits: the members xs with n auxiliaries from first on
pub record Admitted (xs : List ℤ) (first n : ℕ) : Type 0 where
  pub few : length xs ≤ most_members
  pub starts : 1 ≤ first
  pub fits : first + n ≤ last_end
  pub proper : Proper xs first

-- what a call of the encoder admits
abbrev pub Admits : Meaning → List ℤ → ℕ → Type 0
Admits M xs first = Admitted xs first (M.auxiliaries (length xs))

-- equal encoders have equal numbers of clauses and auxiliaries and equal lists, wherever a call admits
pub record Equal (M N : Meaning) : Type 0 where
  pub clauses : (m : ℕ) → m ≤ most_members → M.clauses m ≡ N.clauses m
  pub auxiliaries : (m : ℕ) → m ≤ most_members → M.auxiliaries m ≡ N.auxiliaries m
  pub list : (xs : List ℤ) (first : ℕ) → Admits M xs first → M.list xs first ≡ N.list xs first
