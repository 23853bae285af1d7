-- Clauses of any length as a list of numbers: the literals of each, and a closing 0.
use Rattle.std.specs.Prelude.{ℕ, ◌+◌, ◌-◌, Bool, cond, not, List, [], ◌∷◌, ◌++◌, length, ℤ, pos, ◌==◌, nat_lt, slice_index_or}
use Rattle.std.specs.List.{list_any}
use Rattle.logic.specs.Literal.{variable, Literal}

abbrev pub numbers : List (List ℤ) → List ℤ
numbers [] = []
numbers (c ∷ cs) = c ++ pos 0 ∷ numbers cs

-- every literal of a clause is on one of the variables 1 to n
abbrev pub LiteralsOf : ℕ → List ℤ → Type 0
LiteralsOf n [] = Unit {0}
LiteralsOf n (a ∷ c) = Literal n a × LiteralsOf n c

abbrev pub ClausesOf : ℕ → List (List ℤ) → Type 0
ClausesOf n [] = Unit {0}
ClausesOf n (c ∷ cs) = LiteralsOf n c × ClausesOf n cs

-- the number 0, which closes a clause
abbrev pub closes : ℤ → Bool
closes z = variable z == 0

-- how many clauses a list of numbers closes
abbrev pub closings : List ℤ → ℕ
closings [] = 0
closings (z ∷ zs) = cond (closes z) 1 0 + closings zs

-- the list ends inside a clause: there is a last number, and it is not 0
abbrev pub unclosed : List ℤ → Bool
unclosed zs = not (closes (slice_index_or zs (length zs - 1) (pos 0)))

-- some number is on a variable above n
abbrev pub exceeds : ℕ → List ℤ → Bool
exceeds n zs = list_any (λ z. nat_lt n (variable z)) zs
