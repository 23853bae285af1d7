-- How large the cover of clauses and the compacted clauses are, against the clauses that were read.
use Rattle.std.proofs.Common.{◌≡◌, ℕ, zero, suc, ◌+◌, ◌-◌, ◌*◌, ◌≤◌, Bool, ◌&&◌, ◌⊎◌, List, [], ◌∷◌, ◌++◌, map, length, ℤ, sym, refl, ap, ◌∙◌, inl, inr, mul-le-mul_left, arith, length-append}
use Rattle.std.proofs.lemmas.Bool.{and_parts, and_from}
use Rattle.logic.specs.Literal.{Literal, is_literal, index}
use Rattle.logic.specs.Clause.{Clause, In}
use Rattle.logic.proofs.Literals.{is_literal_decides}
use Rattle.dimacs.specs.Clauses.{numbers, LiteralsOf, ClausesOf}
use Rattle.encoder_theory.specs.Meaning.{Meaning}
use Rattle.encoder_theory.specs.Laws.{Lawful}
use Rattle.network_theory.specs.declared.Call.TheVariants.{Add}
use Rattle.network_theory.specs.Runs.{Adds, Accepted}
use Rattle.cover_theory.specs.Parts.{Part, clique, biclique, Cover, Sound, Partition}
use Rattle.cover_theory.specs.Rule.{cover_of}
use Rattle.cover_theory.specs.Lies as lies
use Rattle.formula_theory.specs.Writing.{pairs_among, written_clauses, over_parts, auxiliary_count, clause_count, Numbered}
use Rattle.formula_theory.specs.Faithful.{Conflicts, OnOwn, Told, part_conflicts, conflict_count, FaithfulTo}
use Rattle.formula_theory.specs.Counting.{conflict_list}
use Rattle.formula_theory.proofs.Runs.{accepted_conflicts, between_accepted, accepted_covered}
use Rattle.formula_theory.proofs.Covers.{cover_partitions}
use Rattle.formula_theory.proofs.Counts.{account_balances}
use Rattle.formula_theory.proofs.Counted.{no_longer, counted, few_auxiliaries}
use Rattle.formula_theory.proofs.Laws.{faithful_to}
use Rattle.formula_theory.proofs.Listed.{length_map}
use Rattle.compaction_theory.specs.Sorted.{conflicts_of, others_of, related}
use Rattle.compaction_theory.specs.Printed.{cover_of_clauses, literals_of, compacted, compacted_variables}
use Rattle.compaction_theory.specs.Buffers.{asked}
use Rattle.compaction_theory.proofs.Pairs.{conflict_proper, others_of_all, clauses_counted, numbers_counted}
use Rattle.compaction_theory.proofs.Related.{clauses_tell, accepted_in}

-- ---- the numbers of a part list

-- a clique of m takes m + 1 numbers
clique_short : (m : ℕ) → 6 ≤ m → suc m ≤ 2 * pairs_among m
clique_short zero h = absurd (omega arith)
clique_short (suc k) h =
    let a : suc k - 1 ≡ k = omega arith in
    let l : 5 ≤ k = omega arith in
    let c = mul-le-mul_left (suc k) l in
    rw a (omega arith)

part_short : (n : ℕ) (P : Part ℤ) → Sound n P → length (lies.numbers_of P) ≤ 2 * part_conflicts P
part_short n (clique xs) s = clique_short (length xs) s.2
part_short n (biclique xs ys) s = let h = s.5 in let e = length-append xs ys in omega arith

-- a part list has at most two numbers for each conflict of its parts
pub list_short : (n : ℕ) (Ps : List (Part ℤ)) → ((P : Part ℤ) → In P Ps → Sound n P) → length (lies.numbers Ps) ≤ 2 * over_parts part_conflicts Ps
list_short n [] s = omega arith
list_short n (P ∷ Ps) s =
    let a = part_short n P (s P (inl refl)) in
    let b = list_short n Ps (λ Q i. s Q (inr i)) in
    let e = length-append (lies.numbers_of P) (lies.numbers Ps) in omega arith

-- ---- pairs, in either order

abbrev pub swapped : ℤ × ℤ → ℤ × ℤ
swapped c = (c.1, c.0)

abbrev pub Same : ℤ × ℤ → ℤ × ℤ → Type 0
Same c d = (d ≡ c) ⊎ (d ≡ swapped c)

pub same_as : (c d y : ℤ × ℤ) → Same c y → Same d y → Same c d
same_as c d y (inl a) (inl b) = inl (sym b ∙ a)
same_as c d y (inl a) (inr b) = inr (ap swapped (sym b ∙ a))
same_as c d y (inr a) (inl b) = inr (sym b ∙ a)
same_as c d y (inr a) (inr b) = inl (ap swapped (sym b ∙ a))

pub same_added : (c p : ℤ × ℤ) → Adds (Add p.0 p.1) c.0 c.1 → Same c p
same_added c p (inl e) = inl (λ i. (e.0 i, e.1 i))
same_added c p (inr e) = inr (λ i. (e.0 i, e.1 i))

-- ---- lists of clauses

-- two literals and a closing 0
pub numbers_written : (W : List Clause) (ds : List (List ℤ)) → length (numbers (map literals_of W ++ ds)) ≡ 3 * length W + length (numbers ds)
numbers_written [] ds = omega arith
numbers_written (c ∷ W) ds = let e = numbers_written W ds in omega arith

pub clauses_written : (m : ℕ) (W : List Clause) (ds : List (List ℤ)) → ((c : Clause) → In c W → Literal m c.0 × Literal m c.1) → ClausesOf m ds
    → ClausesOf m (map literals_of W ++ ds)
clauses_written m [] ds h l = l
clauses_written m (c ∷ W) ds h l = let k = h c (inl refl) in ((k.0, (k.1, tt)), clauses_written m W ds (λ d i. h d (inr i)) l)

wider_literals : (n m : ℕ) → n ≤ m → (c : List ℤ) → LiteralsOf n c → LiteralsOf m c
wider_literals n m h [] l = tt
wider_literals n m h (a ∷ c) l = ((l.0.0, (omega (arith, l.0.1))), wider_literals n m h c l.1)

pub wider_clauses : (n m : ℕ) → n ≤ m → (cs : List (List ℤ)) → ClausesOf n cs → ClausesOf m cs
wider_clauses n m h [] l = tt
wider_clauses n m h (c ∷ cs) l = (wider_literals n m h c l.0, wider_clauses n m h cs l.1)

-- a literal of n variables or of auxiliaries after them
own_literal : (n count : ℕ) (p : ℤ) → OnOwn n (n + 1) count p → Literal (n + count) p
own_literal n count p (inl h) = (h.0, omega (arith, h.1))
own_literal n count p (inr h) = (omega (arith, h.0), omega (arith, h.1))

-- ---- the cover of clauses

module _ (n : ℕ) (clauses : List (List ℤ)) (l : ClausesOf n clauses) where
  abbrev pub C : Cover
  C = cover_of_clauses n clauses

  pub conflicts : Conflicts n (Accepted n (asked clauses))
  conflicts = accepted_conflicts n (asked clauses)

  -- it partitions the conflicts
  pub covered : Partition n (Accepted n (asked clauses)) C
  covered = accepted_covered cover_of cover_partitions n (asked clauses) (related (conflicts_of clauses)) (clauses_tell n clauses l)

  -- which a test tells
  abbrev test : ℤ → ℤ → Bool
  test p q = is_literal n p && (is_literal n q && related (conflicts_of clauses) (index p) (index q))

  test_accepts : (p q : ℤ) → Told test p q → Accepted n (asked clauses) p q
  test_accepts p q h =
      let a = and_parts (is_literal n p) _ h in
      let b = and_parts (is_literal n q) _ a.1 in
      (between_accepted n (asked clauses) (related (conflicts_of clauses)) (clauses_tell n clauses l) p q).0
      ((is_literal_decides n p).0 a.0, (is_literal_decides n q).0 b.0, b.1)

  accepts_test : (p q : ℤ) → Accepted n (asked clauses) p q → Told test p q
  accepts_test p q h =
      let b = (between_accepted n (asked clauses) (related (conflicts_of clauses)) (clauses_tell n clauses l) p q).1 h in
      and_from (is_literal n p) _ ((is_literal_decides n p).1 b.0) (and_from (is_literal n q) _ ((is_literal_decides n q).1 b.1) b.2)

  covered_test : Partition n (Told test) C
  covered_test = record {
    sound = covered.sound;
    joined = λ P h p q j. accepts_test p q (covered.joined P h p q j);
    left = λ p q h. accepts_test p q (covered.left p q h);
    everywhere = λ p q h. covered.everywhere p q (test_accepts p q h);
    apart = covered.apart;
    once = covered.once;
    beside = covered.beside;
  }

  -- and has each once, so no more than there are clauses of them
  pub few_conflicts : conflict_count C ≤ length (conflicts_of clauses)
  few_conflicts =
      let k = counted n (Accepted n (asked clauses)) C conflicts covered in
      let h = no_longer Same same_as (conflict_list C) (conflicts_of clauses) k.once
      (λ c i. let r = accepted_in n (conflicts_of clauses) (conflict_proper n clauses l) c.0 c.1 ((k.exactly c.0 c.1).1 (inl i)) in
      (r.0, r.1, same_added c r.0 r.2)) in
      let e = k.number in omega arith

  -- so the part list is no longer than what was read
  pub list_fits : length (lies.numbers C.parts) ≤ length (numbers clauses)
  list_fits =
      let a = list_short n C.parts covered.sound in
      let b = few_conflicts in
      let e = numbers_counted clauses in omega arith

  module _ (M : Meaning) (law : Lawful M) where
    pub few_written : clause_count M C ≤ length (conflicts_of clauses)
    few_written = let a = (account_balances M n C covered.sound).never_more in let b = few_conflicts in omega arith

    module _ (few : n ≤ 4_096) (some : length clauses ≤ 1_000_000) where
      -- at most four for each conflict
      pub auxiliaries_few : auxiliary_count M C ≤ 4_000_000
      auxiliaries_few =
          let a = few_auxiliaries n test C covered_test M law in
          let b = few_conflicts in
          let e = clauses_counted clauses in omega arith

      pub numbered : Numbered n M C (n + 1)
      numbered = let a = auxiliaries_few in record { above = omega arith; fits = omega arith }

      pub laws : FaithfulTo n (Accepted n (asked clauses)) M C (n + 1)
      laws = faithful_to (Accepted n (asked clauses)) M law n C conflicts covered (n + 1) numbered

      -- the compacted clauses are on the n variables and the auxiliaries,
      pub compacted_of : ClausesOf (compacted_variables M n clauses) (compacted M n clauses)
      compacted_of =
          clauses_written (compacted_variables M n clauses) (written_clauses M C (n + 1)) (others_of clauses)
          (λ c i. let o = laws.own c i in (own_literal n (auxiliary_count M C) c.0 o.0, own_literal n (auxiliary_count M C) c.1 o.1))
          (wider_clauses n (compacted_variables M n clauses) (omega arith) (others_of clauses) (others_of_all n clauses l))

      -- are no more than were read,
      pub fewer_clauses : length (compacted M n clauses) ≤ length clauses
      fewer_clauses =
          let a = length-append (map literals_of (written_clauses M C (n + 1))) (others_of clauses) in
          let b = length_map literals_of (written_clauses M C (n + 1)) in
          let c = laws.counted in
          let d = few_written in
          let e = clauses_counted clauses in omega arith

      -- and have no more numbers
      pub fewer_numbers : length (numbers (compacted M n clauses)) ≤ length (numbers clauses)
      fewer_numbers =
          let a = numbers_written (written_clauses M C (n + 1)) (others_of clauses) in
          let c = laws.counted in
          let d = few_written in
          let e = numbers_counted clauses in omega arith
