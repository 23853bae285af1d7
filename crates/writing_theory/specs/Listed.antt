-- The part list: the parts that are read from it, and what each takes, told from its place and sizes.
use Rattle.std.specs.Prelude.{ℕ, ◌+◌, ◌^◌, ◌<◌, ◌≤◌, List, [], ◌∷◌, map, length, take, drop, ℤ}
use Rattle.logic.specs.Clause.{In, Clause}
use Rattle.encoder_theory.specs.Meaning.{Meaning, most_members, last_end}
use Rattle.cover_theory.specs.Parts.{Part, clique, biclique, Sound}
use Rattle.formula_theory.specs.declared.Size.{Size}
use Rattle.formula_theory.specs.Writing.{chosen, part_size, part_auxiliaries, over_parts, clauses_from}
use Rattle.cover.specs.Walk.{end_of, parts_in}
use Rattle.cover.specs.declared.Part.{Part as Placed}
use Rattle.cover.specs.declared.Part.TheVariants.{Clique, Biclique}

-- the part that is read from the list by its place and sizes
abbrev pub read_part : List ℤ → Placed → Part ℤ
read_part xs (Clique at m) = clique (take m (drop at xs))
read_part xs (Biclique at a b) = biclique (take a (drop at xs)) (take b (drop (at + a) xs))

-- and those at several places
abbrev pub read_parts : List ℤ → List Placed → List (Part ℤ)
read_parts xs ps = map (read_part xs) ps

-- all parts of the list
abbrev pub parts_of : List ℤ → List (Part ℤ)
parts_of xs = read_parts xs (parts_in xs)

-- the parts end within the list
abbrev pub Inside : List ℤ → List Placed → Type 0
Inside xs [] = Unit {0}
Inside xs (p ∷ ps) = (end_of p ≤ length xs) × Inside xs ps

-- no total over parts passes this
abbrev pub most_total : ℕ
most_total = 2 ^ 60

-- the parts are sound in a network of n variables, and their totals are not too large
pub record Listed (n : ℕ) (M : Meaning) (Ps : List (Part ℤ)) : Type 0 where
  pub sound : (P : Part ℤ) → In P Ps → Sound n P
  pub few_clauses : over_parts (part_size M) Ps ≤ most_total
  pub few_auxiliaries : over_parts (part_auxiliaries M) Ps ≤ most_total

-- a clique has no more members than an encoder takes, and the sides are not too large
abbrev pub Moderate : Placed → Type 0
Moderate (Clique at m) = m ≤ most_members
Moderate (Biclique at a b) = a + b < 2 ^ 64

-- the numbers of clauses and of auxiliaries of a clique of m members
abbrev pub clique_takes : Meaning → ℕ → Size
clique_takes M m = record { clauses = (chosen M m).clauses m; auxiliaries = (chosen M m).auxiliaries m }

-- and of a part
abbrev pub takes : Meaning → Placed → Size
takes M (Clique at m) = clique_takes M m
takes M (Biclique at a b) = record { clauses = a + b; auxiliaries = 1 }

-- what the parts take together
abbrev pub totals : Meaning → List (Part ℤ) → Size
totals M Ps = record { clauses = over_parts (part_size M) Ps; auxiliaries = over_parts (part_auxiliaries M) Ps }

-- the clauses of the parts alone
abbrev pub parts_clauses : Meaning → List (Part ℤ) → ℕ → List Clause
parts_clauses M Ps first = clauses_from M Ps [] first

-- a part can be written with auxiliaries from `first` on: its literals are on variables below
abbrev pub SoundBelow : ℕ → Part ℤ → Type 0
SoundBelow first P = (n : ℕ) × (n < first) × Sound n P

-- the parts can be written with auxiliaries from `first` on
pub record Writable (n : ℕ) (M : Meaning) (Ps : List (Part ℤ)) (first : ℕ) : Type 0 where
  pub sound : (P : Part ℤ) → In P Ps → Sound n P
  pub above : n < first
  pub fits : first + over_parts (part_auxiliaries M) Ps ≤ last_end
