-- The clauses of a file, sorted: those that are conflicts, and the others.
use Rattle.std.specs.Prelude.{false, cond, ◌&&◌, ◌||◌, List, [], ◌∷◌, ◌++◌, ℤ, is_some, Some, None, Option, ◌==◌}
use Rattle.std.specs.Option.{option_to_list}
use Rattle.logic.specs.Literal.{variable, complement, index}
use Rattle.dimacs.specs.Clauses.{closes}
use Rattle.cover_theory.specs.Rule.{Rel}

-- the literal stands first in the first of the clauses, if there is one
abbrev pub onto : ℤ → List (List ℤ) → List (List ℤ)
onto a [] = []
onto a (c ∷ cs) = (a ∷ c) ∷ cs

-- the clauses of a list of numbers: each is what stands before the 0 that closes it
abbrev pub clauses_in : List ℤ → List (List ℤ)
clauses_in [] = []
clauses_in (z ∷ zs) = cond (closes z) ([] ∷ clauses_in zs) (onto z (clauses_in zs))

-- the conflict of a clause: a pair (x y) on different variables says that -x and -y are not both true.
-- An empty clause, a single literal, a pair on one variable and a longer clause are none
abbrev pub conflict_of : List ℤ → Option (ℤ × ℤ)
conflict_of [] = None
conflict_of (x ∷ []) = None
conflict_of (x ∷ (y ∷ [])) = cond (variable x == variable y) None (Some (complement x, complement y))
conflict_of (x ∷ (y ∷ (z ∷ zs))) = None

-- the conflicts of clauses, in their order
abbrev pub conflicts_of : List (List ℤ) → List (ℤ × ℤ)
conflicts_of [] = []
conflicts_of (c ∷ cs) = option_to_list (conflict_of c) ++ conflicts_of cs

-- all other clauses, in their order
abbrev pub others_of : List (List ℤ) → List (List ℤ)
others_of [] = []
others_of (c ∷ cs) = cond (is_some (conflict_of c)) (others_of cs) (c ∷ others_of cs)

-- the literals of the indices u and w are in conflict by one of the pairs, in either order
abbrev pub related : List (ℤ × ℤ) → Rel
related [] u w = false
related (p ∷ ps) u w =
    ((index p.0 == u && index p.1 == w) || (index p.0 == w && index p.1 == u)) || related ps u w
