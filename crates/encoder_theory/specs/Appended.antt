-- What the calls of an encoder leave in a buffer that is filled from its start, and where they write next.
use Rattle.std.specs.Prelude.{ℕ, List, map, ℤ, Option, unsigned_abs}
use Rattle.filling.specs.Filled.{Filled, after}
use Rattle.logic.specs.Clause.{flat}
use Rattle.encoder_theory.specs.Buffer.{byte}
use Rattle.encoder_theory.specs.Meaning.{Meaning}
use Rattle.encoder_theory.specs.Calls.{is_placed, left, clauses_fit, clauses_room, values_room}

module _ (M : Meaning) where
  -- the clauses are put next, two numbers each, unless the call is declined
  abbrev pub clauses_appended : List ℤ → ℤ → Filled ℤ → Filled ℤ
  clauses_appended xs first f = left (clauses_fit M xs first) (clauses_room M xs f.rest) (after f (flat (M.list xs (unsigned_abs first)))) f

  -- the values are put next, as bytes 0 and 1, unless the call is declined
  abbrev pub values_appended : ℕ → Option ℕ → Filled ℕ → Filled ℕ
  values_appended m t f = left (is_placed m t) (values_room M m f.rest) (after f (map byte (M.values m t))) f
