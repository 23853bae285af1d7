-- Parts and covers of conflicts, over literals or over their indices.
use Rattle.std.specs.Prelude.{◌≡◌, ℕ, ◌+◌, ◌*◌, ◌<◌, ◌≤◌, ◌≢◌, ◌⊎◌, List, [], ◌∷◌, length, ℤ, pos, slice_index_or}
use Rattle.logic.specs.Literal.{variable, Literal}
use Rattle.logic.specs.Clause.{In}

-- a part is a clique, or a biclique with two sides
pub data Part (X : Type 0) : Type 0 where
  clique : List X → Part X
  biclique : List X → List X → Part X

-- a cover: its parts, and the conflicts that are in none of them
pub record Cover : Type 0 where
  pub parts : List (Part ℤ)
  pub remaining : List (ℤ × ℤ)

-- the part keeps p and q from being both true
abbrev pub Joins : {X : Type 0} → Part X → X → X → Type 0
Joins (clique xs) p q = In p xs × In q xs × (p ≢ q)
Joins (biclique xs ys) p q = (In p xs × In q ys) ⊎ (In p ys × In q xs)

-- the pair of p and q, in either order, remains
abbrev pub Remains : List (ℤ × ℤ) → ℤ → ℤ → Type 0
Remains pairs p q = In (p, q) pairs ⊎ In (q, p) pairs

-- members of a clique are on distinct variables
abbrev pub DistinctVariables : List ℤ → Type 0
DistinctVariables xs = (i j : ℕ) → i < length xs → j < length xs → variable (slice_index_or xs i (pos 0)) ≡ variable (slice_index_or xs j (pos 0)) → i ≡ j

-- no element stands twice in the list
abbrev pub NoRepeats : {X : Type 0} → List X → Type 0
NoRepeats [] = Unit {0}
NoRepeats (x ∷ xs) = (In x xs → ⊥) × NoRepeats xs

-- what a part is by itself, in a network of n variables: a clique has 6 to 256 members;
-- the sides of a biclique are disjoint, and its gain |A| × |B| - |A| - |B| is above 0
abbrev pub Sound : ℕ → Part ℤ → Type 0
Sound n (clique xs) = ((p : ℤ) → In p xs → Literal n p) × DistinctVariables xs × (6 ≤ length xs) × (length xs ≤ 256)
Sound n (biclique xs ys) =
    ((p : ℤ) → In p xs → Literal n p) × ((p : ℤ) → In p ys → Literal n p) × NoRepeats xs × NoRepeats ys
    × ((p : ℤ) → In p xs → In p ys → ⊥) × (length xs + length ys < length xs * length ys)

-- no two parts of the list join the same literals
abbrev pub Apart : List (Part ℤ) → Type 0
Apart [] = Unit {0}
Apart (P ∷ Ps) = ((Q : Part ℤ) → In Q Ps → (p q : ℤ) → Joins P p q → Joins Q p q → ⊥) × Apart Ps

-- no conflict remains twice, in whatever order
abbrev pub Once : List (ℤ × ℤ) → Type 0
Once [] = Unit {0}
Once (c ∷ cs) = (Remains cs c.0 c.1 → ⊥) × Once cs

-- THE PARTITION: every conflict of the network is in exactly one part or remains, and nothing else is
pub record Partition (n : ℕ) (Clash : ℤ → ℤ → Type 0) (C : Cover) : Type 0 where
  pub sound : (P : Part ℤ) → In P C.parts → Sound n P
  -- nothing else
  pub joined : (P : Part ℤ) → In P C.parts → (p q : ℤ) → Joins P p q → Clash p q
  pub left : (p q : ℤ) → In (p, q) C.remaining → Clash p q
  -- every conflict
  pub everywhere : (p q : ℤ) → Clash p q → ((P : Part ℤ) × In P C.parts × Joins P p q) ⊎ Remains C.remaining p q
  -- once
  pub apart : Apart C.parts
  pub once : Once C.remaining
  pub beside : (P : Part ℤ) → In P C.parts → (p q : ℤ) → Joins P p q → Remains C.remaining p q → ⊥
