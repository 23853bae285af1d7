-- What is shown of the layers.
use Rattle.std.specs.Prelude.{◌≡◌, ℕ, ◌+◌, ◌<◌, ◌≤◌, List, length, ℤ, Option}
use Rattle.encoder_theory.specs.Meaning.{Meaning}
use Rattle.encoder_theory.specs.Laws.{Lawful}
use Rattle.encoder_theory.specs.Pairwise.{pairwise}
use Rattle.encoder_theory.specs.Binary.{binary}
use Rattle.layer_theory.specs.Grouping.{groups, start, Formed, group_of}
use Rattle.layer_theory.specs.Commander.{commander}
use Rattle.layer_theory.specs.Tower.{tower, over_itself}

-- the rule forms groups
abbrev pub RuleForms : Type 0
RuleForms = (k m : ℕ) → 1 ≤ k → Formed k m (groups k m) (start k m)

-- a place lies in its group, and in no other
pub record Lying (n : ℕ) (start : ℕ → ℕ) (p : ℕ) : Type 0 where
  pub is_group : group_of n start p < n
  pub from : start (group_of n start p) ≤ p
  pub before : p < start (group_of n start p + 1)
  pub only : (i : ℕ) → i < n → start i ≤ p → p < start (i + 1) → i ≡ group_of n start p

abbrev pub PlacesLie : Type 0
PlacesLie = (k m n : ℕ) (start : ℕ → ℕ) → Formed k m n start → (p : ℕ) → p < m → Lying n start p

-- a commander keeps the laws over any two encoders that do
abbrev pub CommanderLawful : Type 0
CommanderLawful = (k : ℕ) → 2 ≤ k → (G T : Meaning) → Lawful G → Lawful T → Lawful (commander k G T)

-- two encoders say the same of m members: the numbers, the list and the values
pub record Agree (M N : Meaning) (m : ℕ) : Type 0 where
  pub clauses : M.clauses m ≡ N.clauses m
  pub auxiliaries : M.auxiliaries m ≡ N.auxiliaries m
  pub list : (xs : List ℤ) (first : ℕ) → length xs ≡ m → M.list xs first ≡ N.list xs first
  pub values : (t : Option ℕ) → M.values m t ≡ N.values m t

-- the tower is pairwise up to five members, and everywhere the commander of three over pairwise groups with the tower itself on top
pub record TowerBuilt : Type 0 where
  pub ground : (m : ℕ) → m ≤ 5 → Agree tower pairwise m
  pub above : (m : ℕ) → Agree tower over_itself m

-- numbers of clauses and auxiliaries
pub record Sizes : Type 0 where
  pub tower_5 : (tower.clauses 5 ≡ 10) × (tower.auxiliaries 5 ≡ 0)
  pub tower_6 : (tower.clauses 6 ≡ 13) × (tower.auxiliaries 6 ≡ 2)
  pub tower_256 : (tower.clauses 256 ≡ 764) × (tower.auxiliaries 256 ≡ 129)
  pub commander_10 : ((commander 3 pairwise binary).clauses 10 ≡ 27) × ((commander 3 pairwise binary).auxiliaries 10 ≡ 6)
