-- The members of an encoder: literals of which at most one is to be true. Places are counted from 0.
use Rattle.std.specs.Prelude.{◌≡◌, ℕ, ◌+◌, ◌<◌, ◌≤◌, Bool, true, false, ◌≢◌, List, length, ℤ, pos, Some, None, Option, ◌==◌, slice_index_or}
use Rattle.logic.specs.Literal.{variable, complement}
use Rattle.logic.specs.Clause.{Assignment, holds}

-- the member at a place
abbrev pub member : List ℤ → ℕ → ℤ
member xs i = slice_index_or xs i (pos 0)

-- the auxiliary variable at a place, as a literal; they are numbered from first
abbrev pub auxiliary : ℕ → ℕ → ℤ
auxiliary first i = pos (first + i)

-- literals on distinct variables, each below first
pub record Proper (xs : List ℤ) (first : ℕ) : Type 0 where
  pub literals : (i : ℕ) → i < length xs → 1 ≤ variable (member xs i)
  pub below : (i : ℕ) → i < length xs → variable (member xs i) < first
  pub distinct : (i j : ℕ) → i < length xs → j < length xs → variable (member xs i) ≡ variable (member xs j) → i ≡ j

-- the place of a true member, if there is one, is the place of one of m members
abbrev pub Within : Option ℕ → ℕ → Type 0
Within None m = Unit {0}
Within (Some t) m = t < m

-- whether i is that place
abbrev pub at_place : Option ℕ → ℕ → Bool
at_place None i = false
at_place (Some t) i = i == t

-- the one true member is the one at t, or none is true
abbrev pub OneTrue : Assignment → List ℤ → Option ℕ → Type 0
OneTrue s xs t = (i : ℕ) → i < length xs → holds s (member xs i) ≡ at_place t i

-- no two members are true
abbrev pub AtMostOneTrue : Assignment → List ℤ → Type 0
AtMostOneTrue s xs = (i j : ℕ) → i < length xs → j < length xs → holds s (member xs i) ≡ true → holds s (member xs j) ≡ true → i ≡ j

-- the variables from first on have the values vs
abbrev pub Takes : Assignment → ℕ → List Bool → Type 0
Takes s first vs = (k : ℕ) → k < length vs → s (first + k) ≡ slice_index_or vs k false

-- p is a literal on a member's variable
abbrev pub OnMember : List ℤ → ℤ → Type 0
OnMember xs p = (i : ℕ) × (i < length xs) × (variable p ≡ variable (member xs i))

-- p is a literal on one of the n auxiliaries from first on
abbrev pub OnAuxiliary : ℕ → ℕ → ℤ → Type 0
OnAuxiliary first n p = (first ≤ variable p) × (variable p < first + n)

-- p is a member, and q the complement of another
abbrev pub Excludes : List ℤ → ℤ → ℤ → Type 0
Excludes xs p q = (i : ℕ) × (j : ℕ) × (i < length xs) × (j < length xs) × (i ≢ j) × (p ≡ member xs i) × (q ≡ complement (member xs j))
