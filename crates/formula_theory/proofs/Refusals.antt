-- A writing is refused by the smallest number that it meets, and by none exactly if it meets none.
use Rattle.std.proofs.Common.{◌≡◌, ℕ, ◌+◌, ◌*◌, ◌<◌, ◌≤◌, Bool, true, false, cond, T, ◌⊎◌, ℤ, pos, negsuc, ◌+ℤ◌, nat_abs, ◌≤ℤ◌, ◌<ℤ◌, Some, None, Option, sym, refl, subst, inl, inr, ⊎_elim, arith, MatchOption}
use lib.Signed.{lt_z, le_z, le_z_yes, lt_z_yes}
use Rattle.std.proofs.lemmas.Bool.{both_ways, cases_lt, ltb-true, lt-ltb, or_cases, or_left, or_right, or_parts}
use Rattle.std.proofs.lemmas.Int.{ints}
use Rattle.fault.specs.Fault.{number_of}
use Rattle.fault.specs.declared.Fault.{Fault}
use Rattle.fault.specs.declared.Refusal.{Refusal}
use Rattle.encoder_theory.specs.Meaning.{Meaning, last_end}
use Rattle.cover_theory.specs.Parts.{Cover}
use Rattle.formula_theory.specs.Writing.{auxiliary_count, clause_count, Numbered}
use Rattle.formula_theory.specs.Outcome.{Terms, most_auxiliary, start, words_fault, range_fault, list_fault, exhausted_fault, buffer_fault, words_short, range_unfit, list_short, exhausted, buffer_short, write_refusal}
use Rattle.formula_theory.specs.Promise.{Meets, few_words, low_first, high_last, last_below, short_list, past_last, short_buffer, Smallest}

told : (b : Bool) → T b → b ≡ true
told true h = refl
told false h = absurd h

tells : (b : Bool) → b ≡ true → T b
tells b e = subst T (sym e) tt

le_true : (a b : ℤ) → le_z a b ≡ true → a ≤ℤ b
le_true a b e = le_z_yes {a = a} {b = b} (tells _ e)

pub lt_true : (a b : ℤ) → lt_z a b ≡ true → a <ℤ b
lt_true a b e = lt_z_yes {a = a} {b = b} (tells _ e)

pub bound : (m c x : ℕ) → x ≡ c → (c < m → ⊥) → m ≤ x
bound m c x e f = ⊎_elim (λ l. absurd (f l)) (λ l. omega arith) (cases_lt c m)

module _ (n : ℕ) (C : Cover) (M : Meaning) (t : Terms) (needed room : ℕ) where
  -- which test tells a refusal that is met
  abbrev pub ToldBy : ℕ → Type 0
  ToldBy x = ((x ≡ 2) × (words_short n t ≡ true))
      ⊎ (((x ≡ 6) × (range_unfit n t ≡ true))
      ⊎ (((x ≡ 8) × (list_short C t ≡ true))
      ⊎ (((x ≡ 9) × (exhausted M C t ≡ true))
      ⊎ ((x ≡ 10) × (buffer_short needed room ≡ true)))))

  pub told_by : {k : Refusal} → Meets n C M t needed room k → ToldBy (number_of k)
  told_by (few_words h) = inl (refl, lt-ltb _ _ h)
  told_by (low_first h) = inr (inl (refl, or_left _ _ (told _ h.le)))
  told_by (high_last h) = inr (inl (refl, or_right (le_z t.first (pos n)) _ (or_left _ _ (told _ h.lt))))
  told_by (last_below h) = inr (inl (refl, or_right (le_z t.first (pos n)) _ (or_right (lt_z (pos most_auxiliary) t.last) _ (told _ h.lt))))
  told_by (short_list h) = inr (inr (inl (refl, lt-ltb _ _ h)))
  told_by (past_last h) = inr (inr (inr (inl (refl, told _ h.lt))))
  told_by (short_buffer h) = inr (inr (inr (inr (refl, lt-ltb _ _ h))))

  -- where the tests below m fail, only m or more is met
  at_least : (m : ℕ) → (2 < m → words_short n t ≡ false) → (6 < m → range_unfit n t ≡ false) → (8 < m → list_short C t ≡ false)
      → (9 < m → exhausted M C t ≡ false) → (10 < m → buffer_short needed room ≡ false)
      → (k : Refusal) → Meets n C M t needed room k → m ≤ number_of k
  at_least m f2 f6 f8 f9 f10 k h =
      ⊎_elim (λ p. bound m 2 _ p.0 (λ l. both_ways _ (f2 l) p.1))
      (⊎_elim (λ p. bound m 6 _ p.0 (λ l. both_ways _ (f6 l) p.1))
      (⊎_elim (λ p. bound m 8 _ p.0 (λ l. both_ways _ (f8 l) p.1))
      (⊎_elim (λ p. bound m 9 _ p.0 (λ l. both_ways _ (f9 l) p.1))
      (λ p. bound m 10 _ p.0 (λ l. both_ways _ (f10 l) p.1)))))
      (told_by h)

  pub few_numbers : (k : Refusal) → Meets n C M t needed room k → number_of k ≤ 10
  few_numbers k h =
      ⊎_elim (λ p. up p.0 (omega arith)) (⊎_elim (λ p. up p.0 (omega arith)) (⊎_elim (λ p. up p.0 (omega arith)) (⊎_elim (λ p. up p.0 (omega arith)) (λ p. up p.0 (omega arith))))) (told_by h)
    where
      up : {c : ℕ} → number_of k ≡ c → c ≤ 10 → number_of k ≤ 10
      up e l = omega arith

  pub range_met : range_unfit n t ≡ true → (Meets n C M t needed room range_fault.refusal)
  range_met e =
      ⊎_elim (λ h. low_first (le_true _ _ h)) (λ h. ⊎_elim (λ k. high_last (lt_true _ _ k)) (λ k. last_below (lt_true _ _ k)) (or_cases (lt_z (pos most_auxiliary) t.last) _ h))
      (or_cases (le_z t.first (pos n)) _ e)

  pub past_met : exhausted M C t ≡ true → Meets n C M t needed room exhausted_fault.refusal
  past_met e = past_last (lt_true _ _ e)

  abbrev pub Judged : Option Fault → Type 0
  Judged o = MatchOption o ((k : Refusal) → Meets n C M t needed room k → ⊥) (λ f. Smallest (Meets n C M t needed room) f.refusal)

  judge : (b2 b6 b8 b9 b10 : Bool) → words_short n t ≡ b2 → range_unfit n t ≡ b6 → list_short C t ≡ b8 → exhausted M C t ≡ b9
      → buffer_short needed room ≡ b10
      → Judged (cond b2 (Some words_fault) (cond b6 (Some range_fault) (cond b8 (Some list_fault) (cond b9 (Some exhausted_fault) (cond b10 (Some buffer_fault) None)))))
  judge true b6 b8 b9 b10 w2 e6 e8 e9 e10 =
      (few_words (ltb-true _ _ w2), at_least 2 (λ l. absurd (omega arith)) (λ l. absurd (omega arith)) (λ l. absurd (omega arith)) (λ l. absurd (omega arith)) (λ l. absurd (omega arith)))
  judge false true b8 b9 b10 w2 e6 e8 e9 e10 =
      (range_met e6, at_least 6 (λ l. w2) (λ l. absurd (omega arith)) (λ l. absurd (omega arith)) (λ l. absurd (omega arith)) (λ l. absurd (omega arith)))
  judge false false true b9 b10 w2 e6 e8 e9 e10 =
      (short_list (ltb-true _ _ e8), at_least 8 (λ l. w2) (λ l. e6) (λ l. absurd (omega arith)) (λ l. absurd (omega arith)) (λ l. absurd (omega arith)))
  judge false false false true b10 w2 e6 e8 e9 e10 =
      (past_last (lt_true _ _ e9), at_least 9 (λ l. w2) (λ l. e6) (λ l. e8) (λ l. absurd (omega arith)) (λ l. absurd (omega arith)))
  judge false false false false true w2 e6 e8 e9 e10 =
      (short_buffer (ltb-true _ _ e10), at_least 10 (λ l. w2) (λ l. e6) (λ l. e8) (λ l. e9) (λ l. absurd (omega arith)))
  judge false false false false false w2 e6 e8 e9 e10 = λ k h.
      let a = at_least 11 (λ l. w2) (λ l. e6) (λ l. e8) (λ l. e9) (λ l. e10) k h in
      let b = few_numbers k h in omega arith

pub judged : (n : ℕ) (C : Cover) (M : Meaning) (t : Terms) (room : ℕ) → Judged n C M t (2 * clause_count M C) room (write_refusal n C M t room)
judged n C M t room =
    judge n C M t (2 * clause_count M C) room (words_short n t) (range_unfit n t) (list_short C t) (exhausted M C t) (buffer_short (2 * clause_count M C) room) refl refl refl refl refl

-- where 6 and 9 are not met, the numbers will do
pub numbered : (n : ℕ) (C : Cover) (M : Meaning) (t : Terms) → range_unfit n t ≡ false → exhausted M C t ≡ false → Numbered n M C (start t)
numbered n C M t e6 e9 =
    let a = or_parts (le_z t.first (pos n)) _ e6 in
    let b = or_parts (lt_z (pos most_auxiliary) t.last) _ a.1 in
    let r = within n (auxiliary_count M C) t.first t.last a.0 b.0 e9 in
    record { above = r.0; fits = r.1 }
  where
    within : (n c : ℕ) (first last : ℤ) → le_z first (pos n) ≡ false → lt_z (pos most_auxiliary) last ≡ false → lt_z (last +ℤ pos 1) (first +ℤ pos c) ≡ false
        → (n < nat_abs first) × (nat_abs first + c ≤ last_end)
    within n c (pos f) (pos l) h j k = (grind (arith, ints), grind (arith, ints))
    within n c (pos f) (negsuc l) h j k = (grind (arith, ints), grind (arith, ints))
    within n c (negsuc f) last h j k = absurd (both_ways true h refl)
