-- Where the groups of a layer begin and end. Members, groups and places are counted from 0.
use Rattle.std.specs.Prelude.{◌≡◌, ℕ, zero, suc, ◌+◌, ◌-◌, ◌*◌, ◌/◌, ◌<◌, ◌≤◌, min, Bool, false, cond, ◌&&◌, Some, None, Option, nat_le, nat_lt}

-- the rule: m members form m ÷ k groups, rounded up
abbrev pub groups : ℕ → ℕ → ℕ
groups k m = (m + (k - 1)) / k

-- and group i begins at this place, where the group before it ends
abbrev pub start : ℕ → ℕ → ℕ → ℕ
start k m i = min (i * k) m

-- what the rule promises, and all that is used of it: m members lie in n groups of at most k,
-- and group i has the places from start i on and before start (i + 1)
pub record Formed (k m n : ℕ) (start : ℕ → ℕ) : Type 0 where
  -- they are consecutive and cover all places
  pub begins : start 0 ≡ 0
  pub ends : start n ≡ m
  -- none is empty
  pub some : (i : ℕ) → i < n → start i < start (i + 1)
  -- none is above k
  pub most : (i : ℕ) → i < n → start (i + 1) ≤ start i + k
  -- one group fewer would be too few for the members
  pub needed : n * k < m + k

-- the number of members in group i
abbrev pub size : (ℕ → ℕ) → ℕ → ℕ
size start i = start (i + 1) - start i

-- what f says of the numbers below n, added up
abbrev pub sum : ℕ → (ℕ → ℕ) → ℕ
sum zero f = 0
sum (suc n) f = sum n f + f n

-- the group, of n, in which the place p lies: as many groups end at p or before
abbrev pub group_of : ℕ → (ℕ → ℕ) → ℕ → ℕ
group_of n start p = sum n (λ i. cond (nat_le (start (i + 1)) p) 1 0)

-- the group of a place that may be absent
abbrev pub group_place : ℕ → (ℕ → ℕ) → Option ℕ → Option ℕ
group_place n start None = None
group_place n start (Some t) = Some (group_of n start t)

-- whether the place lies in group i
abbrev pub lies : (ℕ → ℕ) → Option ℕ → ℕ → Bool
lies start None i = false
lies start (Some t) i = nat_le (start i) t && nat_lt t (start (i + 1))

-- the place counted from the start of group i, if it lies there
abbrev pub place_in : (ℕ → ℕ) → Option ℕ → ℕ → Option ℕ
place_in start None i = None
place_in start (Some t) i = cond (lies start (Some t) i) (Some (t - start i)) None
