-- How many clauses are written, and how many that saves.
use Rattle.std.proofs.Common.{◌≡◌, ℕ, ◌+◌, ◌-◌, ◌*◌, ◌<◌, ◌≤◌, ltb, List, [], ◌∷◌, map, length, ℤ, pos, refl, inl, inr, arith, length-append}
use Rattle.std.proofs.lemmas.Bool.{cond_both, ltb-true, ltb-false}
use Rattle.logic.specs.Clause.{against, In}
use Rattle.encoder_theory.specs.Meaning.{Meaning, last_end}
use Rattle.encoder_theory.specs.Laws.{Lawful}
use Rattle.encoder_theory.specs.Pairwise.{pairwise}
use Rattle.cover_theory.specs.Parts.{Part, clique, biclique, Cover, Sound}
use Rattle.formula_theory.specs.Writing.{pairs_among, implication, part_clauses, part_auxiliaries, clauses_from, written_clauses, over_parts, part_size, clause_count, Numbered}
use Rattle.formula_theory.specs.Faithful.{part_conflicts, part_saving, Shortened, AccountBalances}
use Rattle.formula_theory.proofs.Listed.{length_map}
use Rattle.formula_theory.proofs.Pieces.{clique_admitted, chosen_lawful}

module _ (M : Meaning) (law : Lawful M) (n : ℕ) where
  pub length_part : (z : ℕ) → n < z → (P : Part ℤ) → Sound n P → z + part_auxiliaries M P ≤ last_end → length (part_clauses M P z) ≡ part_size M P
  length_part z w (clique xs) s f = (chosen_lawful M law (length xs)).well_formed.counted xs z (clique_admitted M n z xs s w f)
  length_part z w (biclique xs ys) s f =
      let a = length_map (λ a. implication a (pos z)) xs in
      let b = length_map (λ b. against (pos z) b) ys in
      let e = length-append (map (λ a. implication a (pos z)) xs) (map (λ b. against (pos z) b) ys) in omega arith

  length_all : (R : List (ℤ × ℤ)) (Ps : List (Part ℤ)) (z : ℕ) → n < z → z + over_parts (part_auxiliaries M) Ps ≤ last_end
      → ((P : Part ℤ) → In P Ps → Sound n P) → length (clauses_from M Ps R z) ≡ over_parts (part_size M) Ps + length R
  length_all R [] z w f s = let e = length_map (λ (c : ℤ × ℤ). against c.0 c.1) R in omega arith
  length_all R (P ∷ Ps) z w f s =
      let a = length_part z w P (s P (inl refl)) (omega arith) in
      let b = length_all R Ps (z + part_auxiliaries M P) (omega arith) (omega arith) (λ Q h. s Q (inr h)) in
      let e = length-append (part_clauses M P z) (clauses_from M Ps R (z + part_auxiliaries M P)) in omega arith

  pub length_written : (C : Cover) → ((P : Part ℤ) → In P C.parts → Sound n P) → (first : ℕ) → Numbered n M C first
      → length (written_clauses M C first) ≡ clause_count M C
  length_written C s first w = length_all C.remaining C.parts first w.above w.fits s

-- ---- the account
more : (pairs taken : ℕ) → taken < pairs → pairs ≡ taken + (pairs - taken)
more pairs taken h = omega arith

none : (pairs taken : ℕ) → pairs ≤ taken → pairs ≡ pairs + (pairs - taken)
none pairs taken h = omega arith

some : (pairs taken : ℕ) → taken < pairs → 1 ≤ pairs - taken
some pairs taken h = omega arith

module _ (M : Meaning) (n : ℕ) where
  part_balance : (P : Part ℤ) → Sound n P → part_conflicts P ≡ part_size M P + part_saving M P
  part_balance (clique xs) s =
      let m : ℕ = length xs in
      cond_both (ltb (M.clauses m) (pairs_among m)) M pairwise (λ (E : Meaning). pairs_among m ≡ E.clauses m + (pairs_among m - M.clauses m))
      (λ e. more (pairs_among m) (M.clauses m) (ltb-true (M.clauses m) (pairs_among m) e))
      (λ e. none (pairs_among m) (M.clauses m) (ltb-false (M.clauses m) (pairs_among m) e))
  part_balance (biclique xs ys) s = more (length xs * length ys) (length xs + length ys) s.5

  parts_balance : (Ps : List (Part ℤ)) → ((P : Part ℤ) → In P Ps → Sound n P)
      → over_parts part_conflicts Ps ≡ over_parts (part_size M) Ps + over_parts (part_saving M) Ps
  parts_balance [] s = refl
  parts_balance (P ∷ Ps) s =
      let e = part_balance P (s P (inl refl)) in
      let f = parts_balance Ps (λ Q h. s Q (inr h)) in omega arith

  part_saves : (P : Part ℤ) → Sound n P → Shortened M P → 1 ≤ part_saving M P
  part_saves (clique xs) s h = some (pairs_among (length xs)) (M.clauses (length xs)) h
  part_saves (biclique xs ys) s h = some (length xs * length ys) (length xs + length ys) s.5

pub account_balances : AccountBalances
account_balances M n C s =
    let e = parts_balance M n C.parts s in
    record {
      balance = omega arith;
      never_more = omega arith;
      each_saves = λ P h short. part_saves M n P (s P h) short;
    }
