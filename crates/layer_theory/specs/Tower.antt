-- The tower: pairwise up to five members; above, a commander of three with pairwise groups, whose top is the tower itself on fewer members.
use Rattle.std.specs.Prelude.{ℕ, zero, suc, length}
use Rattle.encoder_theory.specs.Meaning.{Meaning}
use Rattle.encoder_theory.specs.Pairwise.{pairwise}
use Rattle.layer_theory.specs.Commander.{commander}

-- a tower of at most so many storeys above the ground
abbrev pub storeys : ℕ → Meaning
storeys zero = pairwise
storeys (suc d) = commander 3 pairwise (storeys d)

-- m members need fewer than m storeys
abbrev pub tower : Meaning
tower = record {
  clauses = λ m. (storeys m).clauses m;
  auxiliaries = λ m. (storeys m).auxiliaries m;
  list = λ xs first. (storeys (length xs)).list xs first;
  values = λ m t. (storeys m).values m t;
}

-- the tower as a commander over itself
abbrev pub over_itself : Meaning
over_itself = commander 3 pairwise tower
