-- What the written clauses say: just what the conflicts say.
use Rattle.std.specs.Prelude.{◌≡◌, ℕ, ◌+◌, ◌-◌, ◌*◌, ◌<◌, ◌≤◌, Bool, true, ◌⊎◌, ◌↔◌, List, length, ℤ, ◌≢◌}
use Rattle.logic.specs.Literal.{variable, complement, Literal}
use Rattle.logic.specs.Clause.{Clause, Assignment, holds, In, Satisfies}
use Rattle.logic.specs.Chain.{Chain}
use Rattle.encoder_theory.specs.Members.{OnAuxiliary}
use Rattle.encoder_theory.specs.Meaning.{Meaning, Equal}
use Rattle.encoder_theory.specs.Laws.{Lawful}
use Rattle.cover_theory.specs.Parts.{Part, clique, biclique, Cover, Remains, Sound, Partition}
use Rattle.formula_theory.specs.Writing.{pairs_among, conflict_clauses, written_clauses, over_parts, auxiliary_count, clause_count, auxiliary_values, with_values, Numbered}

-- the conflicts of a network of n variables: between its literals, mutual, and never between two literals of one variable
pub record Conflicts (n : ℕ) (Clash : ℤ → ℤ → Type 0) : Type 0 where
  pub original : (p q : ℤ) → Clash p q → Literal n p × Literal n q
  pub both_ways : (p q : ℤ) → Clash p q → Clash q p
  pub distinct : (p q : ℤ) → Clash p q → variable p ≢ variable q

-- no two literals in conflict are both true
abbrev pub BreaksNone : (ℤ → ℤ → Type 0) → Assignment → Type 0
BreaksNone Clash s = (p q : ℤ) → Clash p q → holds s p ≡ true → holds s q ≢ true

-- a chain in the clauses of conflicts, told from the conflicts:
-- the clause of {p, -q} is (-p q), by which a step leads from p to q
pub data Leads (Clash : ℤ → ℤ → Type 0) : ℤ → ℤ → Type 0 where
  stay : {p : ℤ} → Leads Clash p p
  via : {p q r : ℤ} → Clash p (complement q) → Leads Clash q r → Leads Clash p r

-- p is a literal on an original variable, or on one of the auxiliaries, count of them from first on
abbrev pub OnOwn : ℕ → ℕ → ℕ → ℤ → Type 0
OnOwn n first count p = Literal n p ⊎ OnAuxiliary first count p

-- MODELS: an assignment breaks no conflict exactly when some values of the auxiliaries,
-- count of them from first on, make every clause true. What it says of other than original variables does not matter
abbrev pub SameModels : (ℤ → ℤ → Type 0) → List Clause → ℕ → ℕ → Type 0
SameModels Clash W first count = (s : Assignment)
    → BreaksNone Clash s ↔ ((vs : List Bool) × (length vs ≡ count) × Satisfies (with_values s first vs) W)

-- CHAINS: from one original literal to another a chain leads in the clauses exactly when one leads in the conflicts' clauses
abbrev pub SameChains : ℕ → (ℤ → ℤ → Type 0) → List Clause → Type 0
SameChains n Clash W = (p q : ℤ) → Literal n p → Literal n q → Chain W p q ↔ Leads Clash p q

-- conflicts told by a test
abbrev pub Told : (ℤ → ℤ → Bool) → ℤ → ℤ → Type 0
Told test p q = test p q ≡ true

-- THE LAWS of what is written, for an encoder, a cover that partitions the conflicts, and numbers that will do
pub record FaithfulTo (n : ℕ) (Clash : ℤ → ℤ → Type 0) (M : Meaning) (C : Cover) (first : ℕ) : Type 0 where
  pub models : SameModels Clash (written_clauses M C first) first (auxiliary_count M C)
  pub chains : SameChains n Clash (written_clauses M C first)
  -- the auxiliary values go with every assignment that breaks no conflict
  pub valued : (s : Assignment) → length (auxiliary_values M C s) ≡ auxiliary_count M C
  pub completion : (s : Assignment) → BreaksNone Clash s
      → Satisfies (with_values s first (auxiliary_values M C s)) (written_clauses M C first)
  -- there are as many clauses as are told, on original variables and auxiliaries only
  pub counted : length (written_clauses M C first) ≡ clause_count M C
  pub own : (c : Clause) → In c (written_clauses M C first)
      → OnOwn n first (auxiliary_count M C) c.0 × OnOwn n first (auxiliary_count M C) c.1

abbrev pub WritingIsFaithful : Type 0
WritingIsFaithful = (M : Meaning) → Lawful M → (n : ℕ) (test : ℤ → ℤ → Bool) (C : Cover)
    → Conflicts n (Told test) → Partition n (Told test) C
    → (first : ℕ) → Numbered n M C first → FaithfulTo n (Told test) M C first

-- a chain told from conflicts is one in the clauses of any list that has just these conflicts, each in either order
abbrev pub LeadsByClauses : Type 0
LeadsByClauses = (test : ℤ → ℤ → Bool) (pairs : List (ℤ × ℤ)) → ((p q : ℤ) → Told test p q ↔ Remains pairs p q)
    → (p q : ℤ) → Leads (Told test) p q ↔ Chain (conflict_clauses pairs) p q

-- equal encoders take as many auxiliaries and write the same clauses
abbrev pub EqualsWriteAlike : Type 0
EqualsWriteAlike = (M N : Meaning) → Equal M N
    → (n : ℕ) (C : Cover) → ((P : Part ℤ) → In P C.parts → Sound n P)
    → (auxiliary_count M C ≡ auxiliary_count N C) × (clause_count M C ≡ clause_count N C)
    × ((first : ℕ) → Numbered n M C first → written_clauses M C first ≡ written_clauses N C first)

-- the number of conflicts in a part
abbrev pub part_conflicts : Part ℤ → ℕ
part_conflicts (clique xs) = pairs_among (length xs)
part_conflicts (biclique xs ys) = length xs * length ys

-- the number of conflicts that a cover holds
abbrev pub conflict_count : Cover → ℕ
conflict_count C = over_parts part_conflicts C.parts + length C.remaining

-- the number of clauses that a part saves over the clauses of its conflicts: the difference stops at 0
abbrev pub part_saving : Meaning → Part ℤ → ℕ
part_saving M (clique xs) = pairs_among (length xs) - M.clauses (length xs)
part_saving M (biclique xs ys) = length xs * length ys - (length xs + length ys)

abbrev pub saving : Meaning → Cover → ℕ
saving M C = over_parts (part_saving M) C.parts

-- the given encoder is used, or an auxiliary for two sides
abbrev pub Shortened : Meaning → Part ℤ → Type 0
Shortened M (clique xs) = M.clauses (length xs) < pairs_among (length xs)
Shortened M (biclique xs ys) = Unit {0}

-- THE ACCOUNT: what is written and what is saved are the conflicts; so never more clauses than conflicts are written
pub record Account (M : Meaning) (C : Cover) : Type 0 where
  pub balance : conflict_count C ≡ clause_count M C + saving M C
  pub never_more : clause_count M C ≤ conflict_count C
  pub each_saves : (P : Part ℤ) → In P C.parts → Shortened M P → 1 ≤ part_saving M P

abbrev pub AccountBalances : Type 0
AccountBalances = (M : Meaning) (n : ℕ) (C : Cover) → ((P : Part ℤ) → In P C.parts → Sound n P) → Account M C
