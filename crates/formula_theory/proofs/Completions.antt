-- What complete promises follows from what it answers and leaves.
use Rattle.std.proofs.Common.{◌≡◌, ℕ, zero, suc, ◌+◌, ◌*◌, ◌<◌, ◌≤◌, Bool, true, false, cond, eqb, leb, ◌⊎◌, ◌↔◌, List, [], ◌∷◌, ◌++◌, map, length, get_or, take, drop, ℤ, is_some, is_ok, Some, None, Ok, Err, Option, Result, sym, refl, ap, ◌∙◌, subst, inl, inr, ⊎_elim, arith, MatchOption}
use Rattle.std.proofs.lemmas.Bool.{false≢true, true≢false, both_ways, ltb-true, leb-false, lt-leb, eqb-false, ne_eqb, and_parts, and_from, and_cases, and_left, and_right, not-true, not_from_false, cases_lt, cases_order}
use Rattle.std.specs.Option.{option_map}
use Rattle.fault.specs.Fault.{number_of}
use Rattle.fault.specs.declared.Fault.{Fault}
use Rattle.fault.specs.declared.Refusal.{Refusal}
use Rattle.logic.specs.Literal.{variable, index, literal}
use Rattle.logic.specs.Clause.{Assignment, holds, Satisfies}
use Rattle.logic.proofs.Literals.{index_below, index_literal, literal_index}
use Rattle.encoder_theory.specs.Buffer.{byte}
use Rattle.encoder_theory.specs.Meaning.{Meaning}
use Rattle.encoder_theory.specs.Laws.{Lawful}
use Rattle.network_theory.specs.declared.Call.{Call}
use Rattle.network_theory.specs.Runs.{Accepted}
use Rattle.cover_theory.specs.Parts.{Cover}
use Rattle.cover_theory.specs.Rule.{Rel}
use Rattle.formula_theory.specs.Writing.{written_clauses, auxiliary_count, auxiliary_values, with_values, Numbered}
use Rattle.formula_theory.specs.Faithful.{BreaksNone, FaithfulTo}
use Rattle.formula_theory.specs.Outcome.{Terms, start, words_fault, range_fault, values_fault, list_fault, exhausted_fault, buffer_fault, broken_fault, words_short, range_unfit, are_bits, values_unfit, list_short, exhausted, buffer_short, broken_at, first_broken, assignment_of, complete_refusal, unless_refused, complete_answer, kept_if_refused, complete_leaves}
use Rattle.formula_theory.specs.Promise.{Rule, Partitions, standing, Tells, few_words, short_list, short_buffer, Smallest, bits_of, Breaks, FirstBroken, CompleteMeets, shared, wrong_count, no_bit, breaks, Completed, Completion}
use Rattle.formula_theory.proofs.Laws.{faithful_to}
use Rattle.formula_theory.proofs.Refusals.{bound, ToldBy, told_by, few_numbers, range_met, past_met, numbered}
use Rattle.formula_theory.proofs.Runs.{accepted_conflicts, accepted_covered, between_accepted, standing_tells}
use Rattle.formula_theory.proofs.Broken.{FirstFrom, some_none, from_none, from_some}

-- ---- bytes and truth values
bits_bytes : (vs : List Bool) → bits_of (map byte vs) ≡ vs
bits_bytes [] = refl
bits_bytes (true ∷ vs) = ap (λ bs. true ∷ bs) (bits_bytes vs)
bits_bytes (false ∷ vs) = ap (λ bs. false ∷ bs) (bits_bytes vs)

take_bytes : (vs : List Bool) (xs : List ℕ) → take (length vs) (map byte vs ++ xs) ≡ map byte vs
take_bytes [] xs = refl
take_bytes (v ∷ vs) xs = ap (λ bs. byte v ∷ bs) (take_bytes vs xs)

bits_false : (vs : List ℕ) → are_bits vs ≡ false → (i : ℕ) × (i < length vs) × (1 < get_or vs i 0)
bits_false [] e = absurd (true≢false e)
bits_false (v ∷ vs) e =
    ⊎_elim
    (λ h. (0, omega arith, leb-false v 1 h))
    (λ h. let r = bits_false vs h in let l : suc r.0 < suc (length vs) = omega (arith, r.1) in (suc r.0, l, r.2))
    (and_cases (leb v 1) (are_bits vs) e)

false_bits : (vs : List ℕ) (i : ℕ) → i < length vs → 1 < get_or vs i 0 → are_bits vs ≡ false
false_bits [] i l h = absurd (omega arith)
false_bits (v ∷ vs) zero l h = and_left (leb v 1) (are_bits vs) (lt-leb v 1 h)
false_bits (v ∷ vs) (suc i) l h = and_right (leb v 1) (are_bits vs) (false_bits vs i (omega arith) h)

-- ---- what no refusal says of the tests
abbrev refusal_by : Bool → Bool → Bool → Bool → Bool → Bool → Option (ℤ × ℤ) → Option Fault
refusal_by b2 b6 b7 b8 b9 b10 o =
    cond b2 (Some words_fault) (cond b6 (Some range_fault) (cond b7 (Some values_fault) (cond b8 (Some list_fault)
    (cond b9 (Some exhausted_fault) (cond b10 (Some buffer_fault) (option_map broken_fault o))))))

none_told : (b2 b6 b7 b8 b9 b10 : Bool) (o : Option (ℤ × ℤ)) → refusal_by b2 b6 b7 b8 b9 b10 o ≡ None → (b6 ≡ false) × (b9 ≡ false) × (o ≡ None)
none_told true b6 b7 b8 b9 b10 o e = absurd (some_none words_fault e)
none_told false true b7 b8 b9 b10 o e = absurd (some_none range_fault e)
none_told false false true b8 b9 b10 o e = absurd (some_none values_fault e)
none_told false false false true b9 b10 o e = absurd (some_none list_fault e)
none_told false false false false true b10 o e = absurd (some_none exhausted_fault e)
none_told false false false false false true o e = absurd (some_none buffer_fault e)
none_told false false false false false false None e = (refl, refl, refl)
none_told false false false false false false (Some c) e = absurd (some_none (broken_fault c) e)

-- ---- broken conflicts by index
module _ (n : ℕ) (calls : List Call) (rel : Rel) (tells : Tells n calls rel) (s : Assignment) where
  breaks_at : (p q : ℤ) → Breaks n calls s p q → broken_at rel s (index p) (index q) ≡ true
  breaks_at p q (a, tp, tq) =
      let b = (between_accepted n calls rel tells p q).1 a in
      and_from (rel (index p) (index q)) _ b.2
      (and_from _ _ (ap (holds s) (literal_index p b.0.0) ∙ tp) (ap (holds s) (literal_index q b.1.0) ∙ tq))

  at_breaks : (u w : ℕ) → broken_at rel s u w ≡ true → Breaks n calls s (literal u) (literal w)
  at_breaks u w e =
      let a = and_parts (rel u w) _ e in
      let b = and_parts (holds s (literal u)) _ a.1 in
      (((tells u w).0 a.0).2, b.0, b.1)

  indices : (p q : ℤ) → Breaks n calls s p q → (index p < 2 * n) × (index q < 2 * n)
  indices p q h = let l = (accepted_conflicts n calls).original p q h.0 in (index_below n p l.0, index_below n q l.1)

  ordered : first_broken n rel s ≡ None → (p q : ℤ) → Breaks n calls s p q → index p < index q → ⊥
  ordered e p q h l =
      let i = indices p q h in
      both_ways _ (from_none rel s (2 * n) (2 * n) 0 e (index p) (index q) (omega arith) (omega (arith, i.0)) l i.1) (breaks_at p q h)

  none_broken : first_broken n rel s ≡ None → BreaksNone (Accepted n calls) s
  none_broken e p q a tp tq =
      let is = accepted_conflicts n calls in
      let l = is.original p q a in
      ⊎_elim
      (λ same. is.distinct p q a (ap (λ x. variable x) (sym (literal_index p l.0.0) ∙ ap literal same ∙ literal_index q l.1.0)))
      (⊎_elim (λ lt. ordered e p q (a, tp, tq) lt) (λ lt. ordered e q p (is.both_ways p q a, tq, tp) lt))
      (cases_order (index p) (index q))

  first_broken_is : (c : ℤ × ℤ) → first_broken n rel s ≡ Some c → FirstBroken n calls s c.0 c.1
  first_broken_is c e = go (from_some rel s (2 * n) (2 * n) 0 c (omega arith) e)
    where
      go : FirstFrom rel s (2 * n) 0 (0 + 2 * n) c → FirstBroken n calls s c.0 c.1
      go (u, w, low, high, uw, wn, t, q, before) =
          subst (λ (d : ℤ × ℤ). FirstBroken n calls s d.0 d.1) (sym q)
          (at_breaks u w t, subst (λ x. x < index (literal w)) (sym (index_literal u)) (subst (λ y. u < y) (sym (index_literal w)) uw), earliest)
        where
          earliest : (p q : ℤ) → Breaks n calls s p q → index p < index q
              → (index (literal u) < index p) ⊎ ((index (literal u) ≡ index p) × (index (literal w) ≤ index q))
          earliest p q h l =
              let i = indices p q h in
              let iu = index_literal u in
              let iw = index_literal w in
              ⊎_elim
              (λ same. ⊎_elim
              (λ lt. absurd (both_ways _ (before (index p) (index q) (omega arith) l i.1 (inr (same, lt))) (breaks_at p q h)))
              (λ le. inr (omega arith, omega arith))
              (cases_lt (index q) w))
              (⊎_elim
              (λ lt. absurd (both_ways _ (before (index p) (index q) (omega arith) l i.1 (inl lt)) (breaks_at p q h)))
              (λ lt. inl (omega arith)))
              (cases_order (index p) u)

ok_same : (x y : ℕ) → ◌≡◌ {A = Result ℕ Fault} (Ok x) (Ok y) → x ≡ y
ok_same x y e = cc

refused_ok : (o : Option Fault) (x y : ℕ) → unless_refused o x ≡ Ok y → (o ≡ None) × (x ≡ y)
refused_ok None x y e = (refl, ok_same x y e)
refused_ok (Some f) x y e = absurd (false≢true (ap is_ok e))

err_same : (f g : Fault) → ◌≡◌ {A = Result ℕ Fault} (Err f) (Err g) → f ≡ g
err_same f g e = cc

refused_err : (o : Option Fault) (x : ℕ) (f : Fault) → unless_refused o x ≡ Err f → o ≡ Some f
refused_err None x f e = absurd (true≢false (ap is_ok e))
refused_err (Some g) x f e = ap Some (err_same g f e)

-- ---- the smallest refusal that is met
module _ (n : ℕ) (calls : List Call) (rel : Rel) (tells : Tells n calls rel) (C : Cover) (M : Meaning) (t : Terms) (values : List ℕ) (room : ℕ) where
  abbrev Met : Refusal → Type 0
  Met k = CompleteMeets n calls C M t values room k

  abbrev needed : ℕ
  needed = auxiliary_count M C

  abbrev worst : Option (ℤ × ℤ)
  worst = first_broken n rel (assignment_of values)

  -- which test tells a refusal that is met
  abbrev Told : ℕ → Type 0
  Told x = ToldBy n C M t needed room x ⊎ (((x ≡ 7) × (values_unfit n values ≡ true)) ⊎ ((x ≡ 11) × (is_some worst ≡ true)))

  unfit_count : (length values ≡ n → ⊥) → values_unfit n values ≡ true
  unfit_count h = not_from_false _ (and_left (eqb (length values) n) _ (ne_eqb _ _ h))

  unfit_bit : (i : ℕ) → i < length values → 1 < get_or values i 0 → values_unfit n values ≡ true
  unfit_bit i l h = not_from_false _ (and_right (eqb (length values) n) _ (false_bits values i l h))

  values_met : values_unfit n values ≡ true → Met values_fault.refusal
  values_met e =
      ⊎_elim (λ h. wrong_count (eqb-false (length values) n h)) (λ h. let r = bits_false values h in no_bit r.0 r.1 r.2)
      (and_cases (eqb (length values) n) (are_bits values) (not-true _ e))

  broken_some : (a b : ℤ) → FirstBroken n calls (assignment_of values) a b → (o : Option (ℤ × ℤ)) → worst ≡ o → is_some o ≡ true
  broken_some a b h None e = absurd (none_broken n calls rel tells (assignment_of values) e a b h.0.0 h.0.1 h.0.2)
  broken_some a b h (Some c) e = refl

  told_by_met : {k : Refusal} → Met k → Told (number_of k)
  told_by_met (shared h) = inl (told_by n C M t needed room h)
  told_by_met (wrong_count h) = inr (inl (refl, unfit_count h))
  told_by_met (no_bit i l h) = inr (inl (refl, unfit_bit i l h))
  told_by_met (breaks a b h) = inr (inr (refl, broken_some a b h worst refl))

  -- where the tests below m fail, only m or more is met
  pub at_least : (m : ℕ) → (2 < m → words_short n t ≡ false) → (6 < m → range_unfit n t ≡ false) → (7 < m → values_unfit n values ≡ false)
      → (8 < m → list_short C t ≡ false) → (9 < m → exhausted M C t ≡ false) → (10 < m → buffer_short needed room ≡ false) → (11 < m → is_some worst ≡ false)
      → (k : Refusal) → Met k → m ≤ number_of k
  at_least m f2 f6 f7 f8 f9 f10 f11 k h =
      ⊎_elim
      (⊎_elim (λ p. bound m 2 _ p.0 (λ l. both_ways _ (f2 l) p.1))
      (⊎_elim (λ p. bound m 6 _ p.0 (λ l. both_ways _ (f6 l) p.1))
      (⊎_elim (λ p. bound m 8 _ p.0 (λ l. both_ways _ (f8 l) p.1))
      (⊎_elim (λ p. bound m 9 _ p.0 (λ l. both_ways _ (f9 l) p.1))
      (λ p. bound m 10 _ p.0 (λ l. both_ways _ (f10 l) p.1))))))
      (⊎_elim (λ p. bound m 7 _ p.0 (λ l. both_ways _ (f7 l) p.1)) (λ p. bound m 11 _ p.0 (λ l. both_ways _ (f11 l) p.1)))
      (told_by_met h)

  at_most : (k : Refusal) → Met k → number_of k ≤ 11
  at_most k (shared h) = let l = few_numbers n C M t needed room k h in omega arith
  at_most k (wrong_count h) = omega arith
  at_most k (no_bit i l h) = omega arith
  at_most k (breaks a b h) = omega arith

  abbrev Judged : Option Fault → Type 0
  Judged o = MatchOption o ((k : Refusal) → Met k → ⊥) (λ f. Smallest Met f.refusal)

  no : {m c : ℕ} {P : Type 0} → m ≤ c → c < m → P
  no h l = absurd (omega arith)

  judge : (b2 b6 b7 b8 b9 b10 : Bool) (o : Option (ℤ × ℤ)) → words_short n t ≡ b2 → range_unfit n t ≡ b6 → values_unfit n values ≡ b7 → list_short C t ≡ b8
      → exhausted M C t ≡ b9 → buffer_short needed room ≡ b10 → worst ≡ o → Judged (refusal_by b2 b6 b7 b8 b9 b10 o)
  judge true b6 b7 b8 b9 b10 o w2 e6 e7 e8 e9 e10 e11 =
      (shared (few_words (ltb-true _ _ w2)), at_least 2 (no (omega arith)) (no (omega arith)) (no (omega arith)) (no (omega arith)) (no (omega arith)) (no (omega arith)) (no (omega arith)))
  judge false true b7 b8 b9 b10 o w2 e6 e7 e8 e9 e10 e11 =
      (shared (range_met n C M t needed room e6), at_least 6 (λ l. w2) (no (omega arith)) (no (omega arith)) (no (omega arith)) (no (omega arith)) (no (omega arith)) (no (omega arith)))
  judge false false true b8 b9 b10 o w2 e6 e7 e8 e9 e10 e11 =
      (values_met e7, at_least 7 (λ l. w2) (λ l. e6) (no (omega arith)) (no (omega arith)) (no (omega arith)) (no (omega arith)) (no (omega arith)))
  judge false false false true b9 b10 o w2 e6 e7 e8 e9 e10 e11 =
      (shared (short_list (ltb-true _ _ e8)), at_least 8 (λ l. w2) (λ l. e6) (λ l. e7) (no (omega arith)) (no (omega arith)) (no (omega arith)) (no (omega arith)))
  judge false false false false true b10 o w2 e6 e7 e8 e9 e10 e11 =
      (shared (past_met n C M t needed room e9), at_least 9 (λ l. w2) (λ l. e6) (λ l. e7) (λ l. e8) (no (omega arith)) (no (omega arith)) (no (omega arith)))
  judge false false false false false true o w2 e6 e7 e8 e9 e10 e11 =
      (shared (short_buffer (ltb-true _ _ e10)), at_least 10 (λ l. w2) (λ l. e6) (λ l. e7) (λ l. e8) (λ l. e9) (no (omega arith)) (no (omega arith)))
  judge false false false false false false (Some c) w2 e6 e7 e8 e9 e10 e11 =
      (breaks c.0 c.1 (first_broken_is n calls rel tells (assignment_of values) c e11), at_least 11 (λ l. w2) (λ l. e6) (λ l. e7) (λ l. e8) (λ l. e9) (λ l. e10) (no (omega arith)))
  judge false false false false false false None w2 e6 e7 e8 e9 e10 e11 = λ k h.
      let a = at_least 12 (λ l. w2) (λ l. e6) (λ l. e7) (λ l. e8) (λ l. e9) (λ l. e10) (λ l. ap is_some e11) k h in
      let b = at_most k h in omega arith

  pub judged : Judged (complete_refusal n rel C M t values room)
  judged = judge (words_short n t) (range_unfit n t) (values_unfit n values) (list_short C t) (exhausted M C t) (buffer_short needed room) worst refl refl refl refl refl refl refl

module _ (rule : Rule) (good : Partitions rule) (n : ℕ) (calls : List Call) (rel : Rel) (tells : Tells n calls rel)
    (M : Meaning) (law : Lawful M) (t : Terms) (values old : List ℕ) where
  abbrev C : Cover
  C = rule n rel

  abbrev s : Assignment
  s = assignment_of values

  abbrev vs : List Bool
  vs = auxiliary_values M C s

  abbrev filled : List ℕ
  filled = map byte vs ++ drop (auxiliary_count M C) old

  abbrev refusal : Option Fault
  refusal = complete_refusal n rel C M t values (length old)

  told_none : refusal ≡ None → (range_unfit n t ≡ false) × (exhausted M C t ≡ false) × (first_broken n rel s ≡ None)
  told_none e = none_told (words_short n t) (range_unfit n t) (values_unfit n values) (list_short C t) (exhausted M C t) (buffer_short (auxiliary_count M C) (length old)) (first_broken n rel s) e

  laws : Numbered n M C (start t) → FaithfulTo n (Accepted n calls) M C (start t)
  laws w = faithful_to (Accepted n calls) M law n C (accepted_conflicts n calls) (accepted_covered rule good n calls rel tells) (start t) w

  satisfied : refusal ≡ None → Satisfies (with_values s (start t) (bits_of (take (auxiliary_count M C) (complete_leaves n rel C M t values old)))) (written_clauses M C (start t))
  satisfied e =
      let h = told_none e in
      let w = numbered n C M t h.0 h.1 in
      let read : bits_of (take (auxiliary_count M C) (complete_leaves n rel C M t values old)) ≡ vs =
      ap (λ o. bits_of (take (auxiliary_count M C) (kept_if_refused o filled old))) e
      ∙ ap (λ k. bits_of (take k filled)) (sym ((laws w).valued s)) ∙ ap bits_of (take_bytes vs (drop (auxiliary_count M C) old)) ∙ bits_bytes vs in
      subst (λ bs. Satisfies (with_values s (start t) bs) (written_clauses M C (start t))) (sym read)
      ((laws w).completion s (none_broken n calls rel tells s h.2))

  accepted_by : (o : Option Fault) → Judged n calls rel tells C M t values (length old) o
      → (is_ok (unless_refused o (auxiliary_count M C)) ≡ true) ↔ ((k : Refusal) → CompleteMeets n calls C M t values (length old) k → ⊥)
  accepted_by None none = ((λ e. none), (λ h. refl))
  accepted_by (Some f) small = ((λ e. absurd (false≢true e)), (λ none. absurd (none f.refusal small.0)))

  pub completed : Completed rule n calls M t values (length old) (complete_leaves n rel C M t values old) (complete_answer n rel C M t values (length old))
  completed = record {
    accepted = rel;
    told = tells;
    exactly = accepted_by refusal (judged n calls rel tells C M t values (length old));
    declined = λ f e.
        subst (Judged n calls rel tells C M t values (length old)) (refused_err refusal (auxiliary_count M C) f e) (judged n calls rel tells C M t values (length old));
    answers = λ count e. sym (refused_ok refusal (auxiliary_count M C) count e).1;
    unbroken = λ count e. none_broken n calls rel tells s (told_none (refused_ok refusal (auxiliary_count M C) count e).0).2;
    satisfies = λ count e.
        let r = refused_ok refusal (auxiliary_count M C) count e in
        subst (λ k. Satisfies (with_values s (start t) (bits_of (take k (complete_leaves n rel C M t values old)))) (written_clauses M C (start t))) r.1 (satisfied r.0);
  }

pub completion : Completion
completion rule good net M law t values old out r er eo calls came =
    subst (Completed rule net.variables calls M t values (length old) out) (sym er)
    (subst (λ z. Completed rule net.variables calls M t values (length old) z (complete_answer net.variables (standing net) (rule net.variables (standing net)) M t values (length old))) (sym eo)
    (completed rule good net.variables calls (standing net) (standing_tells net calls came) M law t values old))
