-- From the answers of the checks and of the cover to the answer of a call, and to what it leaves.
use Rattle.std.proofs.Common.{◌≡◌, ℕ, zero, suc, ◌+◌, ◌-◌, ◌*◌, ◌<◌, ◌≤◌, Bool, true, false, cond, ◌&&◌, ◌||◌, leb, List, ◌++◌, length, take, drop, replicate, ℤ, pos, negsuc, ◌+ℤ◌, nat_abs, Some, Ok, Err, Option, Result, sym, refl, ap, ◌∙◌, subst, ap₂, ⊎_elim, mul-le-mul, arith}
use lib.Signed.{lt_z, le_z}
use Rattle.std.proofs.lemmas.Int.{ints}
use Rattle.std.proofs.lemmas.List.{take_at}
use Rattle.std.proofs.lemmas.Bool.{and_parts, and_from, ltb-false, le-leb, cases_lt}
use Rattle.fault.specs.declared.Fault.{Fault}
use Rattle.logic.specs.Literal.{is_literal, index}
use Rattle.logic.specs.Clause.{In}
use Rattle.logic.proofs.Literals.{is_literal_decides}
use Rattle.encoder_theory.specs.Meaning.{Meaning, last_end}
use Rattle.encoder_theory.specs.Laws.{Lawful}
use Rattle.network_theory.specs.Layout.{Net, Conflict, Mutual, Apart, row_words, words_needed, stands}
use Rattle.cover_theory.specs.Parts.{Cover, Partition}
use Rattle.cover_theory.specs.Rule.{covering, cover_of, pairs_from}
use Rattle.cover_theory.specs.Rows.{conflicts, Fit}
use Rattle.cover_theory.specs.Lies.{conflicts_in, words_holding, numbers, list_holding}
use Rattle.formula_theory.specs.Writing.{part_size, part_auxiliaries, over_parts, auxiliary_count, clause_count}
use Rattle.formula_theory.specs.Faithful.{Conflicts, Told}
use Rattle.formula_theory.specs.Outcome.{terms, most_auxiliary, range_unfit, exhausted, unless_refused, size_of}
use Rattle.formula_theory.proofs.Counts.{account_balances}
use Rattle.formula_theory.proofs.Counted.{conflicts_counted, few_auxiliaries}
use Rattle.writing_theory.specs.Listed.{parts_of, most_total}
use Rattle.writing_theory.specs.Covering.{numbers_of, Covering, cover_in, size_in, past_end}
use Rattle.writing_theory.proofs.Parts.{parts_read}
use Rattle.writing_theory.proofs.Covers.{held_fit, held_conflicts, remains_below, remains_loose}

-- the list xs and the work words hold the cover C, of which `remaining` conflicts remain
pub record Held (n : ℕ) (M : Meaning) (C : Cover) (xs : List ℤ) (work : List ℕ) (remaining : ℕ) : Type 0 where
  pub covering : Covering n M xs remaining
  pub parts : parts_of xs ≡ C.parts
  pub fit : Fit (2 * n) (row_words n) work
  pub left : pairs_from (2 * n) (conflicts (2 * n) (row_words n) work) (2 * n) 0 ≡ C.remaining
  pub counted : remaining ≡ length C.remaining

module _ (n : ℕ) (M : Meaning) (C : Cover) (xs : List ℤ) (work : List ℕ) (remaining : ℕ) (h : Held n M C xs work remaining) where
  pub held_size : size_in M xs remaining ≡ size_of M C
  held_size =
      let a = ap (over_parts (part_size M)) h.parts in
      let b = ap (over_parts (part_auxiliaries M)) h.parts in
      let c = h.counted in
      let d : over_parts (part_size M) (parts_of xs) + remaining ≡ clause_count M C = omega arith in
      ap₂ (λ k j. record { clauses = k; auxiliaries = j }) d b

  pub held_cover : (pairs : List (ℤ × ℤ)) → pairs ≡ pairs_from (2 * n) (conflicts (2 * n) (row_words n) work) (2 * n) 0 → cover_in xs pairs ≡ C
  held_cover pairs e = ap₂ (λ Ps Rs. record { parts = Ps; remaining = Rs }) h.parts (e ∙ h.left)

-- ---- how much a cover takes
module _ (n : ℕ) (ws : List ℕ) where
  abbrev network : Net
  network = record { variables = n; words = ws }

  abbrev test : ℤ → ℤ → Bool
  test p q = is_literal n p && (is_literal n q && stands n ws (index p) (index q))

  told : (p q : ℤ) → Told test p q → Conflict network p q
  told p q h =
      let a = and_parts (is_literal n p) _ h in
      let b = and_parts (is_literal n q) _ a.1 in
      ((is_literal_decides n p).0 a.0, (is_literal_decides n q).0 b.0, b.1)

  tells : (p q : ℤ) → Conflict network p q → Told test p q
  tells p q h = and_from (is_literal n p) _ ((is_literal_decides n p).1 h.0) (and_from (is_literal n q) _ ((is_literal_decides n q).1 h.1) h.2)

  module _ (both : Mutual network) (apart : Apart network) (few-variables : n ≤ 4096) (M : Meaning) (law : Lawful M) (C : Cover) (v : Partition n (Conflict network) C) where
    as_told : Partition n (Told test) C
    as_told = record {
      sound = v.sound;
      joined = λ P i p q j. tells p q (v.joined P i p q j);
      left = λ p q i. tells p q (v.left p q i);
      everywhere = λ p q h. v.everywhere p q (told p q h);
      apart = v.apart;
      once = v.once;
      beside = v.beside;
    }

    are : Conflicts n (Told test)
    are = record {
      original = λ p q h. let c = told p q h in (c.0, c.1);
      both_ways = λ p q h. let c = told p q h in tells q p (c.1, c.0, both p q c);
      distinct = λ p q h. apart p q (told p q h);
    }

    square : 2 * n * (2 * n) ≤ 8192 * 8192
    square = let l : 2 * n ≤ 8192 = omega arith in mul-le-mul l l

    pub takes_little : (clause_count M C ≤ most_total) × (auxiliary_count M C ≤ most_total)
    takes_little =
        let a = (conflicts_counted n test C are as_told).bounded in
        let b = (account_balances M n C v.sound).never_more in
        let c = few_auxiliaries n test C as_told M law in
        let s = square in (omega arith, omega arith)

    -- the list and the words that the cover leaves hold it
    pub covering_left : ((u w : ℕ) → (covering (2 * n) (conflicts_in n ws)).0 u w ≡ true → conflicts_in n ws u w ≡ true)
        → (old : List ℕ) → words_needed n ≤ length old → (xs : List ℤ) (remaining used k : ℕ) → C ≡ cover_of n (conflicts_in n ws) → remaining ≡ length C.remaining → used ≡ length (numbers C.parts)
        → k ≡ used → xs ≡ list_holding C.parts (length xs)
        → Held n M C (take k xs) (words_holding n (covering (2 * n) (conflicts_in n ws)).0 ++ drop (words_needed n) old) remaining
    covering_left within old room xs remaining used k is er eu ek ex =
        let rel = (covering (2 * n) (conflicts_in n ws)).0 in
        let t = takes_little in
        let below = remains_below n ws apart rel within in
        let loose = remains_loose n ws apart rel within in
        let lk : length (numbers C.parts) ≡ k = sym eu ∙ sym ek in
        let e = parts_read n (take k xs) C.parts v.sound
        (ap (take k) ex ∙ take_at (numbers C.parts) (replicate (length xs - length (numbers C.parts)) (pos 0)) k lk) in
        let few : over_parts (part_size M) (parts_of (take k xs)) + remaining ≤ most_total = omega (arith, t.0, er, ap (over_parts (part_size M)) e) in
        record {
          covering = record {
            listed = record {
              sound = λ P i. v.sound P (subst (In P) e i);
              few_clauses = omega arith;
              few_auxiliaries = omega (arith, t.1, ap (over_parts (part_auxiliaries M)) e);
            };
            few = few;
          };
          parts = e;
          fit = held_fit n rel old room few-variables below loose;
          left = ap (λ r. pairs_from (2 * n) r (2 * n) 0) (held_conflicts n rel old room few-variables below loose) ∙ sym (ap (λ (D : Cover). D.remaining) is);
          counted = er;
        }

-- ---- the order of refusals
no : {X : Type 0} (f : Fault) (x : X) → ◌≡◌ {A = Result X Fault} (Err f) (Ok x) → ⊥
no f x h = let z : ◌≡◌ {A = ℕ} 0 1 = cc in omega arith

clash : true ≡ false → ⊥
clash e = let z : ◌≡◌ {A = ℕ} 0 1 = cc in omega arith

module _ {X Y : Type 0} (g h : Fault) (x : X) (y : Y) (rest : Option Fault) where
  -- the call is refused before it covers
  pub early_no : (a b : Bool) (f : Fault) → Err f ≡ cond a (Err g) (cond b (Err h) (Ok y)) → (Err f ≡ unless_refused (cond a (Some g) (cond b (Some h) rest)) x) × ((a || b) ≡ true)
  early_no true b f e = (let q : f ≡ g = cc in ap Err q, refl)
  early_no false true f e = (let q : f ≡ h = cc in ap Err q, refl)
  early_no false false f e = absurd (no f y e)

pub early_yes : {Y : Type 0} (g h : Fault) (y z : Y) (a b : Bool) → Ok z ≡ cond a (Err g) (cond b (Err h) (Ok y)) → (a ≡ false) × (b ≡ false) × (z ≡ y)
early_yes g h y z true b e = absurd (no g z (sym e))
early_yes g h y z false true e = absurd (no h z (sym e))
early_yes g h y z false false e = (refl, refl, cc)

-- the cover is refused
pub cover_no : {Y : Type 0} (g k f : Fault) (y : Y) (a c : Bool) → a ≡ false → Err f ≡ cond a (Err g) (cond c (Err k) (Ok y)) → (c ≡ true) × (f ≡ k)
cover_no g k f y true c e h = absurd (clash e)
cover_no g k f y false true e h = (refl, cc)
cover_no g k f y false false e h = absurd (no f y h)

-- all three passed
pub three_passed : {X : Type 0} (g h k : Fault) (x : X) (rest : Option Fault) (r : Result X Fault) (a b c : Bool) → a ≡ false → b ≡ false → c ≡ false → r ≡ unless_refused rest x
    → r ≡ unless_refused (cond a (Some g) (cond b (Some h) (cond c (Some k) rest))) x
three_passed g h k x rest r true b c ea eb ec e = absurd (clash ea)
three_passed g h k x rest r false true c ea eb ec e = absurd (clash eb)
three_passed g h k x rest r false false true ea eb ec e = absurd (clash ec)
three_passed g h k x rest r false false false ea eb ec e = e

pub third_refused : {X : Type 0} (g h k f : Fault) (x : X) (rest : Option Fault) (a b c : Bool) → a ≡ false → b ≡ false → c ≡ true → f ≡ k
    → Err f ≡ unless_refused (cond a (Some g) (cond b (Some h) (cond c (Some k) rest))) x
third_refused g h k f x rest true b c ea eb ec e = absurd (clash ea)
third_refused g h k f x rest false true c ea eb ec e = absurd (clash eb)
third_refused g h k f x rest false false true ea eb ec e = ap Err e
third_refused g h k f x rest false false false ea eb ec e = absurd (clash (sym ec))

-- ---- buffers lent to the cover
pub early_kept : {X : Type 0} (a : Bool) (old after : X) → a ≡ true → old ≡ cond a old after
early_kept true old after e = refl
early_kept false old after e = absurd (clash (sym e))

pub cover_kept : {X : Type 0} (a b : Bool) (old after now : X) → a ≡ false → b ≡ false → now ≡ cond a old after → now ≡ cond (a || b) old after
cover_kept true b old after now ea eb e = absurd (clash ea)
cover_kept false true old after now ea eb e = absurd (clash eb)
cover_kept false false old after now ea eb e = e

pub at_covered : {X : Type 0} (a c : Bool) (old wiped after now : X) → a ≡ false → c ≡ false → now ≡ cond a old (cond c wiped after) → now ≡ after
at_covered true c old wiped after now ea ec e = absurd (clash ea)
at_covered false true old wiped after now ea ec e = absurd (clash ec)
at_covered false false old wiped after now ea ec e = e

pub cover_yes : {Y : Type 0} (g k : Fault) (y z : Y) (a c : Bool) → Ok z ≡ cond a (Err g) (cond c (Err k) (Ok y)) → (a ≡ false) × (c ≡ false) × (z ≡ y)
cover_yes g k y z a c e = early_yes g k y z a c e

-- ---- the numbers
or_false : (a b : Bool) → (a || b) ≡ false → (a ≡ false) × (b ≡ false)
or_false true b e = absurd (clash e)
or_false false b e = (refl, e)

end_is : (e : ℤ) (f : ℕ) → lt_z e (pos f) ≡ false → (e ≡ pos (nat_abs e)) × (f ≤ nat_abs e)
end_is (pos k) f h = (refl, ltb-false k f h)
end_is (negsuc k) f h = absurd (clash h)

first_is : (a : ℤ) (n : ℕ) → le_z a (pos n) ≡ false → (a ≡ pos (nat_abs a)) × (n < nat_abs a)
first_is (pos k) n h = (refl, lt_of k n h)
  where
    lt_of : (k n : ℕ) → leb k n ≡ false → n < k
    lt_of k n e = ⊎_elim (λ l. l) (λ l. absurd (clash (sym (le-leb k n l) ∙ e))) (cases_lt n k)
first_is (negsuc k) n h = absurd (clash h)

module _ (n : ℕ) (first last : ℤ) (w l : ℕ) (fit : range_unfit n (terms first last w l) ≡ false) where
  one : le_z first (pos n) ≡ false
  one = (or_false (le_z first (pos n)) (lt_z (pos most_auxiliary) last || lt_z (last +ℤ pos 1) first) fit).0

  two : lt_z (pos most_auxiliary) last ≡ false
  two = (or_false (lt_z (pos most_auxiliary) last) (lt_z (last +ℤ pos 1) first) (or_false (le_z first (pos n)) (lt_z (pos most_auxiliary) last || lt_z (last +ℤ pos 1) first) fit).1).0

  three : lt_z (last +ℤ pos 1) first ≡ false
  three = (or_false (lt_z (pos most_auxiliary) last) (lt_z (last +ℤ pos 1) first) (or_false (le_z first (pos n)) (lt_z (pos most_auxiliary) last || lt_z (last +ℤ pos 1) first) fit).1).1

  first_pos : first ≡ pos (nat_abs first)
  first_pos = (first_is first n one).0

  pub first_above : n < nat_abs first
  first_above = (first_is first n one).1

  end_pos : last +ℤ pos 1 ≡ pos (nat_abs (last +ℤ pos 1))
  end_pos = (end_is (last +ℤ pos 1) (nat_abs first) (ap (lt_z (last +ℤ pos 1)) (sym first_pos) ∙ three)).0

  pub past_same : (M : Meaning) (C : Cover) → past_end (auxiliary_count M C) (numbers_of first last) ≡ exhausted M C (terms first last w l)
  past_same M C = sym (ap₂ (λ x y. lt_z x (y +ℤ pos (auxiliary_count M C))) end_pos first_pos)

  pub end_small : nat_abs (last +ℤ pos 1) ≤ last_end
  end_small = small last (nat_abs first) two (ap (lt_z (last +ℤ pos 1)) (sym first_pos) ∙ three)
    where
      small : (z : ℤ) (f : ℕ) → lt_z (pos most_auxiliary) z ≡ false → lt_z (z +ℤ pos 1) (pos f) ≡ false → nat_abs (z +ℤ pos 1) ≤ last_end
      small (pos k) f h g = let a = ltb-false most_auxiliary k h in omega arith
      small (negsuc zero) f h g = omega arith
      small (negsuc (suc j)) f h g = let z : negsuc (suc j) +ℤ pos 1 ≡ negsuc j = omega (arith, ints) in absurd (clash (sym (ap (λ e. lt_z e (pos f)) z) ∙ g))
