-- Clauses of two literals, assignments, and what satisfies them.
use Rattle.std.specs.Prelude.{◌≡◌, ℕ, zero, suc, Bool, true, false, not, ◌⊎◌, List, [], ◌∷◌, ℤ, pos, negsuc}
use Rattle.logic.specs.Literal.{complement}

-- the two literals of a clause, in the order in which they are written
abbrev pub Clause : Type 0
Clause = ℤ × ℤ

-- the clause of a conflict: a and b are not both true
abbrev pub against : ℤ → ℤ → Clause
against a b = (complement a, complement b)

-- a truth value for each variable
abbrev pub Assignment : Type 0
Assignment = ℕ → Bool

-- the truth of a literal; 0 is no literal, and never true
abbrev pub holds : Assignment → ℤ → Bool
holds s (pos zero) = false
holds s (pos (suc n)) = s (suc n)
holds s (negsuc n) = not (s (suc n))

-- one of the clause's literals is true
abbrev pub Met : Assignment → Clause → Type 0
Met s c = (holds s c.0 ≡ true) ⊎ (holds s c.1 ≡ true)

-- x is an element of the list
abbrev pub In : {X : Type 0} → X → List X → Type 0
In x [] = ⊥
In x (y ∷ ys) = (y ≡ x) ⊎ In x ys

abbrev pub Satisfies : Assignment → List Clause → Type 0
Satisfies s L = (c : Clause) → In c L → Met s c

-- clauses as they lie in a buffer of numbers, two numbers a clause
abbrev pub flat : List Clause → List ℤ
flat [] = []
flat (c ∷ cs) = c.0 ∷ c.1 ∷ flat cs
