-- Gluing: lists of clauses that have only interface variables in common. What each list says of the interface by its chains
-- is all that the lists say of it together.
use Rattle.std.specs.Prelude.{◌≡◌, ℕ, Bool, true, ◌⊎◌, ◌↔◌, List, [], ◌∷◌, ◌++◌, ℤ}
use Rattle.logic.specs.Literal.{variable}
use Rattle.logic.specs.Clause.{Clause, In}
use Rattle.logic.specs.Chain.{Chain}

-- the variable v stands in a clause of the list
abbrev pub Uses : List Clause → ℕ → Type 0
Uses L v = (c : Clause) × In c L × ((variable c.0 ≡ v) ⊎ (variable c.1 ≡ v))

-- the two lists have only interface variables in common: all others are private to one of them
abbrev pub Meet : (ℕ → Type 0) → List Clause → List Clause → Type 0
Meet Interface K L = (v : ℕ) → Uses K v → Uses L v → Interface v

-- all clauses of several lists, in order
abbrev pub union : List (List Clause) → List Clause
union [] = []
union (L ∷ Ls) = L ++ union Ls

-- each list has only interface variables in common with those after it
abbrev pub Glued : (ℕ → Type 0) → List (List Clause) → Type 0
Glued Interface [] = Unit {0}
Glued Interface (L ∷ Ls) = Meet Interface L (union Ls) × Glued Interface Ls

-- chains one after another, each inside one of the lists, that meet at interface literals
pub data Relay (Interface : ℕ → Type 0) (Ls : List (List Clause)) : ℤ → ℤ → Type 0 where
  arrived : {p : ℤ} → Relay Interface Ls p p
  leg : {p q r : ℤ} (L : List Clause) → In L Ls → Chain L p q → Interface (variable q) → Relay Interface Ls q r → Relay Interface Ls p r

-- the variables that a test tells
abbrev pub On : (ℕ → Bool) → ℕ → Type 0
On interface v = interface v ≡ true

-- THE GLUING LAW: between interface literals, a chain leads in the union exactly if a relay of chains leads there,
-- each inside one list and from interface literal to interface literal
abbrev pub Gluing : Type 0
Gluing = (interface : ℕ → Bool) (Ls : List (List Clause)) → Glued (On interface) Ls
    → (p q : ℤ) → On interface (variable p) → On interface (variable q) → Chain (union Ls) p q ↔ Relay (On interface) Ls p q
