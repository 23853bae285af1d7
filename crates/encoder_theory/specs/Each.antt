-- A list that is made number by number.
use Rattle.std.specs.Prelude.{ℕ, List, map}
use Rattle.std.specs.List.{range_with_len, flat_map}

-- what f gives for the n numbers from a on, one after another
abbrev pub each : {X : Type 0} → ℕ → ℕ → (ℕ → List X) → List X
each a n f = flat_map f (range_with_len a n)

-- the values of f at the n numbers from 0 on
abbrev pub table : {X : Type 0} → ℕ → (ℕ → X) → List X
table n f = map f (range_with_len 0 n)
