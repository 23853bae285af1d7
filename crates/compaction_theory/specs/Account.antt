-- The account of a compaction: what a program tells about its work.
use Rattle.std.specs.Prelude.{◌≡◌, ℕ, ◌+◌, ◌≤◌, Bool, cond, List, [], ◌∷◌, ◌++◌, length, take, ℤ, is_some, is_ok, Some, None, Ok, Err, Option, Result, nat_lt, codes, decimal}
use Rattle.fault.specs.declared.Fault.{Fault}
use Rattle.logic.specs.Literal.{index}
use Rattle.dimacs.specs.declared.Summary.{Summary}
use Rattle.dimacs.specs.Reading.{reading}
use Rattle.encoder_theory.specs.Meaning.{Meaning}
use Rattle.encoder_theory.specs.Laws.{Lawful}
use Rattle.network_theory.specs.Layout.{Net}
use Rattle.network_theory.specs.Calls.{add_answer}
use Rattle.cover_theory.specs.Lies.{clique_count, biclique_count}
use Rattle.formula_theory.specs.Writing.{auxiliary_count}
use Rattle.formula_theory.specs.Faithful.{conflict_count, saving}
use Rattle.compaction_theory.specs.declared.Account.{Account}
use Rattle.compaction_theory.specs.declared.Scale.{Scale}
use Rattle.compaction_theory.specs.Sorted.{clauses_in, conflicts_of, others_of, related}
use Rattle.compaction_theory.specs.Choices.{encoder_of, most_bytes}
use Rattle.compaction_theory.specs.Printed.{cover_of_clauses, compacted, variables_fit, blank, outcome}
use Rattle.compaction_theory.specs.Promises.{Fits}
use Rattle.compaction_theory.specs.Buffers.{Taken}

-- ---- the numbers

-- how many of the conflicts are new after those seen: each counts where it comes first, in either order of its literals
abbrev pub new_after : List (ℤ × ℤ) → List (ℤ × ℤ) → ℕ
new_after seen [] = 0
new_after seen (p ∷ ps) = cond (related seen (index p.0) (index p.1)) 0 1 + new_after (seen ++ p ∷ []) ps

-- the number of different conflicts
abbrev pub differing : List (ℤ × ℤ) → ℕ
differing ps = new_after [] ps

-- THE ACCOUNT of the compaction of clauses on n variables by an encoder
abbrev pub account_of : Meaning → ℕ → List (List ℤ) → Account
account_of M n clauses = record {
  variables = n;
  conflicts = differing (conflicts_of clauses);
  cliques = clique_count (cover_of_clauses n clauses).parts;
  bicliques = biclique_count (cover_of_clauses n clauses).parts;
  clauses_before = length clauses;
  clauses_after = length (compacted M n clauses);
  auxiliaries = auxiliary_count M (cover_of_clauses n clauses);
}

-- how an account shows: one figure a line
abbrev pub account_text : Account → List ℕ
account_text a =
    (codes "variables " ++ (decimal a.variables ++ (codes "\nconflicts " ++ (decimal a.conflicts ++ codes "\n"))))
    ++ ((codes "cliques " ++ (decimal a.cliques ++ (codes "\nbicliques " ++ (decimal a.bicliques ++ codes "\n"))))
    ++ ((codes "clauses before " ++ (decimal a.clauses_before ++ (codes "\nclauses after " ++ (decimal a.clauses_after ++ codes "\n"))))
    ++ (codes "auxiliaries " ++ decimal a.auxiliaries)))

-- ---- how the conflicts are counted while they are added

-- an add answered that its conflict is new: it counts once
abbrev pub new_by : Result Bool Fault → ℕ
new_by (Ok new) = cond new 1 0
new_by (Err f) = 0

-- what the conflict of a clause, if it is one, counts on a network
abbrev pub new_to : Net → Option (ℤ × ℤ) → ℕ
new_to net None = 0
new_to net (Some p) = new_by (add_answer net p.0 p.1)

-- the numbers of the conflicts, and of the cliques and bicliques that cover them
pub record Counts (n : ℕ) (clauses : List (List ℤ)) (conflicts cliques bicliques : ℕ) : Type 0 where
  pub differ : conflicts ≡ differing (conflicts_of clauses)
  pub in_cliques : cliques ≡ clique_count (cover_of_clauses n clauses).parts
  pub in_bicliques : bicliques ≡ biclique_count (cover_of_clauses n clauses).parts

-- ---- the account of a text, if its compacted file is printed: the tests of `compacted_read` and `outcome`, in their order

-- the account of what was read
abbrev pub account_read : Scale → Meaning → Result Summary Fault → List ℤ → Option Account
account_read scale M (Err f) list = None
account_read scale M (Ok s) list =
    cond (variables_fit scale s.variables) (Some (account_of M s.variables (clauses_in (take s.numbers list)))) None

-- an input that is too long has none
abbrev pub account_in : Scale → List ℕ → Option Account
account_in scale text =
    cond (nat_lt (most_bytes scale) (length text)) None
    (account_read scale (encoder_of text) (reading text (blank scale text)).answer (reading text (blank scale text)).list)

-- ---- the laws

-- there is an account exactly where a compacted file is printed
abbrev pub AccountWhenPrinted : Type 0
AccountWhenPrinted = (scale : Scale) (text : List ℕ) → is_some (account_in scale text) ≡ is_ok (outcome scale text)

-- for a file within the limits it is the account of the file's clauses
abbrev pub EveryFileAccounted : Type 0
EveryFileAccounted = (scale : Scale) (text : List ℕ) (n : ℕ) (clauses : List (List ℤ)) → Fits scale text n clauses
    → account_in scale text ≡ Some (account_of (encoder_of text) n clauses)

-- one conflict more counts unless it stood before
abbrev pub CountsOnce : Type 0
CountsOnce = (ps : List (ℤ × ℤ)) (p : ℤ × ℤ) → differing (ps ++ p ∷ []) ≡ differing ps + cond (related ps (index p.0) (index p.1)) 0 1

-- the different conflicts are those that the cover holds, each once
abbrev pub ConflictsDiffer : Type 0
ConflictsDiffer = (n : ℕ) (clauses : List (List ℤ)) → Taken n clauses → differing (conflicts_of clauses) ≡ conflict_count (cover_of_clauses n clauses)

-- THE ACCOUNT BALANCES: the clauses after the compaction, with those that it saved, are the different conflicts and the other clauses
pub record Balanced (M : Meaning) (n : ℕ) (clauses : List (List ℤ)) : Type 0 where
  pub balance : (account_of M n clauses).clauses_after + saving M (cover_of_clauses n clauses) ≡ (account_of M n clauses).conflicts + length (others_of clauses)
  -- and they are no more than there were before
  pub never_more : (account_of M n clauses).clauses_after ≤ (account_of M n clauses).clauses_before

abbrev pub CompactionBalances : Type 0
CompactionBalances = (M : Meaning) → Lawful M → (n : ℕ) (clauses : List (List ℤ)) → Taken n clauses → Balanced M n clauses
