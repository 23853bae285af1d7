-- THE PROMISE of faithfulness: laws over all lists of calls by which a network came, and over any two writings.
use Rattle.std.specs.Prelude.{◌≡◌, ℕ, zero, suc, ◌*◌, ◌<◌, ◌≤◌, Bool, true, ◌⊎◌, ◌↔◌, List, [], ◌∷◌, map, length, take, ℤ, pos, ◌+ℤ◌, ◌≤ℤ◌, ◌<ℤ◌, is_ok, Ok, Err, Result, ◌≢◌, nat_eq, slice_index}
use Rattle.fault.specs.Fault.{number_of}
use Rattle.fault.specs.declared.Fault.{Fault}
use Rattle.fault.specs.declared.Refusal.{Refusal}
use Rattle.fault.specs.declared.Refusal.TheVariants.{WordsShort, AuxiliaryRange, UnfitValues, PartListShort, AuxiliariesExhausted, BufferShort, BrokenConflict}
use Rattle.logic.specs.Literal.{Literal, index, literal}
use Rattle.logic.specs.Clause.{Clause, Assignment, holds, In, Satisfies}
use Rattle.logic.specs.Chain.{Chain}
use Rattle.encoder_theory.specs.Meaning.{Meaning, Equal}
use Rattle.encoder_theory.specs.Laws.{Lawful}
use Rattle.network_theory.specs.declared.Call.{Call}
use Rattle.network_theory.specs.Layout.{words_needed, Net}
use Rattle.network_theory.specs.Runs.{Accepted, Came}
use Rattle.cover_theory.specs.Parts.{Cover, Remains, Partition}
use Rattle.cover_theory.specs.Rule.{Rel, cover_of}
use Rattle.cover_theory.specs.Lies.{numbers, conflicts_in}
use Rattle.formula_theory.specs.declared.Size.{Size}
use Rattle.formula_theory.specs.Writing.{conflict_clauses, written_clauses, auxiliary_count, clause_count, with_values}
use Rattle.formula_theory.specs.Faithful.{Conflicts, OnOwn, BreaksNone, SameModels, SameChains}
use Rattle.formula_theory.specs.Outcome.{Terms, most_auxiliary, start, assignment_of, size_of, write_answer, write_leaves, complete_answer, complete_leaves}

-- ---- the cover that a writing starts from

-- literals of n variables that a relation on indices joins
abbrev pub Between : ℕ → Rel → ℤ → ℤ → Type 0
Between n rel p q = Literal n p × Literal n q × (rel (index p) (index q) ≡ true)

-- the relation joins no index of 2n or more
abbrev pub Below : ℕ → Rel → Type 0
Below n rel = (u w : ℕ) → rel u w ≡ true → (u < 2 * n) × (w < 2 * n)

-- a rule that covers the conflicts of n variables, told by a relation on indices and by nothing else
abbrev pub Rule : Type 0
Rule = ℕ → Rel → Cover

-- what is asked of the rule: its cover partitions the conflicts
abbrev pub Partitions : Rule → Type 0
Partitions rule = (n : ℕ) (rel : Rel) → Below n rel → Conflicts n (Between n rel) → Partition n (Between n rel) (rule n rel)

-- the rule that networks are covered by is one
abbrev pub CoverPartitions : Type 0
CoverPartitions = Partitions cover_of

-- the conflicts that stand in a network, by index
abbrev pub standing : Net → Rel
standing net = conflicts_in net.variables net.words

-- the relation tells just the accepted conflicts
abbrev pub Tells : ℕ → List Call → Rel → Type 0
Tells n calls rel = (u w : ℕ) → (rel u w ≡ true) ↔ ((u < 2 * n) × (w < 2 * n) × Accepted n calls (literal u) (literal w))

-- ---- refusals that a call meets, on n variables with the cover C and the encoder M, where `needed` elements go into a buffer of `room`
pub data Meets (n : ℕ) (C : Cover) (M : Meaning) (t : Terms) (needed room : ℕ) : Refusal → Type 0 where
  few_words : t.work < words_needed n → Meets n C M t needed room WordsShort
  low_first : t.first ≤ℤ pos n → Meets n C M t needed room AuxiliaryRange
  high_last : pos most_auxiliary <ℤ t.last → Meets n C M t needed room AuxiliaryRange
  last_below : (t.last +ℤ pos 1) <ℤ t.first → Meets n C M t needed room AuxiliaryRange
  short_list : t.list < length (numbers C.parts) → Meets n C M t needed room PartListShort
  past_last : (t.last +ℤ pos 1) <ℤ (t.first +ℤ pos (auxiliary_count M C)) → Meets n C M t needed room AuxiliariesExhausted
  short_buffer : room < needed → Meets n C M t needed room BufferShort

-- a writing puts two numbers for each clause
abbrev pub WriteMeets : ℕ → Cover → Meaning → Terms → ℕ → Refusal → Type 0
WriteMeets n C M t room k = Meets n C M t (2 * clause_count M C) room k

-- the refusal k is met, and no other of a smaller number
abbrev pub Smallest : (Refusal → Type 0) → Refusal → Type 0
Smallest Met k = Met k × ((j : Refusal) → Met j → number_of k ≤ number_of j)

-- the first k clauses of a buffer, two numbers each
abbrev pub read_back : ℕ → List ℤ → List Clause
read_back zero xs = []
read_back (suc k) [] = []
read_back (suc k) (x ∷ []) = []
read_back (suc k) (x ∷ (y ∷ ys)) = (x, y) ∷ read_back k ys

-- ONE WRITING from a network of n variables that came by the calls, which answered r and left `out`
pub record Faithful (rule : Rule) (n : ℕ) (calls : List Call) (M : Meaning) (t : Terms) (room : ℕ) (out : List ℤ) (r : Result Size Fault) : Type 0 where
  -- the accepted conflicts by index: the rule covers these
  pub accepted : Rel
  pub told : Tells n calls accepted
  -- it is accepted exactly if it meets no refusal; otherwise the smallest that it meets is answered
  pub exactly : (is_ok r ≡ true) ↔ ((k : Refusal) → WriteMeets n (rule n accepted) M t room k → ⊥)
  pub declined : (f : Fault) → r ≡ Err f → Smallest (WriteMeets n (rule n accepted) M t room) f.refusal
  -- accepted, it answers the numbers of clauses and auxiliaries, and holds the clauses of the cover from the buffer's start
  pub answers : (s : Size) → r ≡ Ok s → s ≡ size_of M (rule n accepted)
  pub clauses : (s : Size) → r ≡ Ok s → read_back s.clauses out ≡ written_clauses M (rule n accepted) (start t)
  -- these are on original variables and on the auxiliaries only
  pub own : (s : Size) → r ≡ Ok s → (c : Clause) → In c (read_back s.clauses out)
      → OnOwn n (start t) s.auxiliaries c.0 × OnOwn n (start t) s.auxiliaries c.1
  -- an assignment breaks no accepted conflict exactly when some values of the auxiliaries make every written clause true
  pub models : (s : Size) → r ≡ Ok s → SameModels (Accepted n calls) (read_back s.clauses out) (start t) s.auxiliaries
  -- from one original literal to another a chain leads in the written clauses exactly when one leads in the accepted conflicts' clauses
  pub chains : (s : Size) → r ≡ Ok s → SameChains n (Accepted n calls) (read_back s.clauses out)
  -- that is, in the clauses of any list that has just these conflicts, each in either order
  pub conflict_chains : (s : Size) → r ≡ Ok s → (pairs : List (ℤ × ℤ)) → ((a b : ℤ) → Accepted n calls a b ↔ Remains pairs a b)
      → (p q : ℤ) → Literal n p → Literal n q → Chain (read_back s.clauses out) p q ↔ Chain (conflict_clauses pairs) p q

-- the same conflicts are accepted, in whatever order and however often they were added
abbrev pub SameAccepted : ℕ → List Call → List Call → Type 0
SameAccepted n calls calls' = (a b : ℤ) → Accepted n calls a b ↔ Accepted n calls' a b

-- TWO WRITINGS are alike: the same answer, and the same clauses in the same order
pub record Alike (out out' : List ℤ) (r r' : Result Size Fault) : Type 0 where
  pub answers : r ≡ r'
  pub clauses : (s : Size) → r ≡ Ok s → read_back s.clauses out ≡ read_back s.clauses out'

-- what a writing from this network answers and leaves
abbrev pub Wrote : Rule → Net → Meaning → Terms → List ℤ → List ℤ → Result Size Fault → Type 0
Wrote rule net M t old new r =
    (r ≡ write_answer net.variables (rule net.variables (standing net)) M t (length old))
    × (new ≡ write_leaves net.variables (rule net.variables (standing net)) M t old)

-- whatever calls the network came by
abbrev pub EveryRun : Rule → Net → Meaning → Terms → ℕ → List ℤ → Result Size Fault → Type 0
EveryRun rule net M t room out r = (calls : List Call) → Came net calls → Faithful rule net.variables calls M t room out r

-- any other writing, from a network with as many variables and the same accepted conflicts,
-- with an equal encoder, the same numbers and a buffer as long, is alike
abbrev pub AnyOther : Rule → Net → Meaning → Terms → ℕ → List ℤ → Result Size Fault → Type 0
AnyOther rule net M t room out r =
    (net' : Net) (calls calls' : List Call) → Came net calls → Came net' calls'
    → net.variables ≡ net'.variables → SameAccepted net.variables calls calls'
    → (M' : Meaning) → Equal M M'
    → (old' out' : List ℤ) (r' : Result Size Fault) → length old' ≡ room → Wrote rule net' M' t old' out' r'
    → Alike out out' r r'

-- THE THEOREM: both follow from what one call says of its own answer and buffer
abbrev pub Faithfulness : Type 0
Faithfulness = (rule : Rule) → Partitions rule
    → (net : Net) (M : Meaning) → Lawful M → (t : Terms) (old out : List ℤ) (r : Result Size Fault) → Wrote rule net M t old out r
    → EveryRun rule net M t (length old) out r × AnyOther rule net M t (length old) out r

-- ---- completing

-- bytes as truth values: 1 is true
abbrev pub bits_of : List ℕ → List Bool
bits_of bytes = map (λ b. nat_eq b 1) bytes

-- a and b are accepted and both true
abbrev pub Breaks : ℕ → List Call → Assignment → ℤ → ℤ → Type 0
Breaks n calls s a b = Accepted n calls a b × (holds s a ≡ true) × (holds s b ≡ true)

-- no broken conflict, its first literal before its second, comes before {a, b} by the index of the one and then of the other
abbrev pub FirstBroken : ℕ → List Call → Assignment → ℤ → ℤ → Type 0
FirstBroken n calls s a b = Breaks n calls s a b × (index a < index b)
    × ((p q : ℤ) → Breaks n calls s p q → index p < index q → (index a < index p) ⊎ ((index a ≡ index p) × (index b ≤ index q)))

-- refusals that a completion meets: it puts a byte for each auxiliary
pub data CompleteMeets (n : ℕ) (calls : List Call) (C : Cover) (M : Meaning) (t : Terms) (values : List ℕ) (room : ℕ) : Refusal → Type 0 where
  shared : {k : Refusal} → Meets n C M t (auxiliary_count M C) room k → CompleteMeets n calls C M t values room k
  wrong_count : (length values ≢ n) → CompleteMeets n calls C M t values room UnfitValues
  no_bit : (i : ℕ) → i < length values → 1 < slice_index values i → CompleteMeets n calls C M t values room UnfitValues
  breaks : (a b : ℤ) → FirstBroken n calls (assignment_of values) a b → CompleteMeets n calls C M t values room (BrokenConflict a b)

-- ONE COMPLETION of values, which answered r and left `out`
pub record Completed (rule : Rule) (n : ℕ) (calls : List Call) (M : Meaning) (t : Terms) (values : List ℕ) (room : ℕ) (out : List ℕ) (r : Result ℕ Fault) : Type 0 where
  pub accepted : Rel
  pub told : Tells n calls accepted
  -- it is accepted exactly if it meets no refusal; otherwise the smallest that it meets is answered, 11 with the first conflict broken
  pub exactly : (is_ok r ≡ true) ↔ ((k : Refusal) → CompleteMeets n calls (rule n accepted) M t values room k → ⊥)
  pub declined : (f : Fault) → r ≡ Err f → Smallest (CompleteMeets n calls (rule n accepted) M t values room) f.refusal
  pub answers : (count : ℕ) → r ≡ Ok count → count ≡ auxiliary_count M (rule n accepted)
  -- accepted, the values break no conflict, and with the bytes as auxiliaries they satisfy every clause that write writes
  pub unbroken : (count : ℕ) → r ≡ Ok count → BreaksNone (Accepted n calls) (assignment_of values)
  pub satisfies : (count : ℕ) → r ≡ Ok count
      → Satisfies (with_values (assignment_of values) (start t) (bits_of (take count out))) (written_clauses M (rule n accepted) (start t))

-- whatever calls the network came by
abbrev pub EveryCompletion : Rule → Net → Meaning → Terms → List ℕ → ℕ → List ℕ → Result ℕ Fault → Type 0
EveryCompletion rule net M t values room out r = (calls : List Call) → Came net calls → Completed rule net.variables calls M t values room out r

-- THE THEOREM: it follows from what the call says of its own answer and buffer
abbrev pub Completion : Type 0
Completion = (rule : Rule) → Partitions rule
    → (net : Net) (M : Meaning) → Lawful M → (t : Terms) (values old out : List ℕ) (r : Result ℕ Fault)
    → r ≡ complete_answer net.variables (standing net) (rule net.variables (standing net)) M t values (length old)
    → out ≡ complete_leaves net.variables (standing net) (rule net.variables (standing net)) M t values old
    → EveryCompletion rule net M t values (length old) out r
