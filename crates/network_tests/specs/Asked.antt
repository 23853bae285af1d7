-- A caller's own data, read as calls.
use Rattle.std.specs.Prelude.{List, map, ℤ}
use Rattle.network_theory.specs.declared.Call.{Call}
use Rattle.network_theory.specs.declared.Call.TheVariants.{Add}

-- an add for each pair
abbrev pub asked : List (ℤ × ℤ) → List Call
asked pairs = map (λ p. Add p.0 p.1) pairs
