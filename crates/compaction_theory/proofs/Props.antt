-- What a file keeps can hold in one way only.
use Rattle.std.proofs.Common.{ℕ, List, [], ◌∷◌, ℤ}
use Rattle.std.proofs.Props.{props}
use Rattle.dimacs.specs.Clauses.{LiteralsOf, ClausesOf}
use Rattle.compaction_theory.specs.Walks.{TakenNumbers}

literals_prop : (n : ℕ) (c : List ℤ) → IsProp (LiteralsOf n c)
literals_prop n [] = hlevel props
literals_prop n (a ∷ c) = let rest = literals_prop n c in hlevel props

clauses_prop : (n : ℕ) (cs : List (List ℤ)) → IsProp (ClausesOf n cs)
clauses_prop n [] = hlevel props
clauses_prop n (c ∷ cs) = let first = literals_prop n c in let rest = clauses_prop n cs in hlevel props

pub taken_prop : (n : ℕ) (xs : List ℤ) → IsProp (TakenNumbers n xs)
taken_prop n xs = hlevel (props, clauses_prop)
