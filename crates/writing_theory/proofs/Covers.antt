-- What the cover leaves in words and list, as the writing of it needs it.
use Rattle.std.proofs.Common.{◌≡◌, ℕ, zero, suc, ◌+◌, ◌*◌, ◌/◌, ◌%◌, ◌^◌, ◌<◌, ◌≤◌, Bool, true, false, cond, ◌&&◌, eqb, ltb, List, ◌++◌, length, get_or, drop, sym, refl, ap, ◌∙◌, subst, ap₂, ⊎_elim, mul_comm, arith, length-append}
use Rattle.std.proofs.lemmas.List.{get_or_append_left}
use Rattle.std.proofs.lemmas.List.FromFn.{length-map-range_with_len, get_or-map-range_with_len}
use Rattle.std.proofs.lemmas.Bool.{cases_lt, cases_Bool, eq-eqb, and_parts, ltb-true, lt-ltb, le-ltb}
use Rattle.std.proofs.lemmas.Bool.Decides.{nat_tests}
use Rattle.std.proofs.lemmas.Nat.{div-mul-add, div-add-mod', mul-add-lt}
use Rattle.logic.specs.Literal.{literal}
use Rattle.logic.proofs.Literals.{index_literal, literal_within}
use Rattle.network_theory.specs.Layout.{Net, Conflict, Apart, bit, row_words, words_needed, stands}
use Rattle.cover_theory.specs.Rule.{Rel}
use Rattle.cover_theory.specs.Lies.{conflicts_in, word, words_holding}
use Rattle.cover_theory.specs.Rows.{stands_at, conflicts, Fit}
use Rattle.cover_theory.proofs.Digits.{half}

-- ---- a word has the bits that it is made of
low_bit : (b : Bool) (y : ℕ) → bit (cond b 1 0 + 2 * y) 0 ≡ b
low_bit true y = eq-eqb ((1 + 2 * y) / 1 % 2) 1 (omega arith)
low_bit false y = grind (arith, nat_tests)

upper : (b : Bool) (y : ℕ) → (cond b 1 0 + 2 * y) / 2 ≡ y
upper true y = omega arith
upper false y = omega arith

bit_word : (k : ℕ) (p : ℕ → Bool) (j : ℕ) → j < k → bit (word k p) j ≡ p j
bit_word zero p j l = absurd (omega arith)
bit_word (suc k) p zero l = low_bit (p 0) (word k (λ i. p (suc i)))
bit_word (suc k) p (suc j) l =
    let y = word k (λ i. p (suc i)) in
    ap (λ z. eqb (z % 2) 1) (half (cond (p 0) 1 0 + 2 * y) j ∙ ap (λ z. z / 2 ^ j) (upper (p 0) y)) ∙ bit_word k (λ i. p (suc i)) j (omega arith)

-- ---- words that hold a relation tell it
module _ (n : ℕ) (rel : Rel) (old : List ℕ) (room : words_needed n ≤ length old) where
  abbrev held : List ℕ
  held = words_holding n rel ++ drop (words_needed n) old

  length_held : length (words_holding n rel) ≡ words_needed n
  length_held = length-map-range_with_len (λ i. word 64 (λ j. rel (i / row_words n) (64 * (i % row_words n) + j))) 0 (words_needed n)

  pub held_tells : (u w : ℕ) → u < 2 * n → w < 64 * row_words n → stands_at held (row_words n) u w ≡ rel u w
  held_tells u w hu hw =
      let R = row_words n in
      let i = u * R + w / 64 in
      let k : w / 64 < R = omega arith in
      let l : i < 2 * n * R = subst (λ z. i < z) (mul_comm R (2 * n)) (mul-add-lt u R (w / 64) (2 * n) hu k) in
      let len = length_held in
      let d : i / R ≡ u = div-mul-add u R (w / 64) k in
      let m : i % R ≡ w / 64 = let e : u * R + i % R ≡ i = ap (λ z. z * R + i % R) (sym d) ∙ div-add-mod' i R in omega arith in
      let f : ℕ → ℕ = λ x. word 64 (λ j. rel (x / R) (64 * (x % R) + j)) in
      let g : get_or held i 0 ≡ f i = get_or_append_left (words_holding n rel) (drop (words_needed n) old) 0 i (omega arith) ∙ get_or-map-range_with_len f 0 (words_needed n) i i 0 l (omega arith) in
      let c : 64 * (w / 64) + w % 64 ≡ w = omega arith in
      ap (λ x. bit x (w % 64)) g ∙ bit_word 64 (λ j. rel (i / R) (64 * (i % R) + j)) (w % 64) (omega arith)
      ∙ ap₂ (λ x y. rel x (64 * y + w % 64)) d m ∙ ap (rel u) c

  module _ (few : n ≤ 4096) (below : (u w : ℕ) → rel u w ≡ true → (u < 2 * n) × (w < 2 * n)) (loose : (u : ℕ) → rel u u ≡ true → ⊥) where
    off : (u w : ℕ) → (rel u w ≡ true → ⊥) → rel u w ≡ false
    off u w h = ⊎_elim (λ e. absurd (h e)) (λ e. e) (cases_Bool (rel u w))

    pub held_fit : Fit (2 * n) (row_words n) held
    held_fit = record {
      tidy = λ u w a b c. held_tells u w a c ∙ off u w (λ e. omega (arith, (below u w e).1));
      loose = λ u a. held_tells u u a (omega arith) ∙ off u u (loose u);
      small = omega arith;
      few = omega arith;
      room = let a = length-append (words_holding n rel) (drop (words_needed n) old) in let b = length_held in omega arith;
    }

    at : (u w : ℕ) → conflicts (2 * n) (row_words n) held u w ≡ rel u w
    at u w = ⊎_elim
        (λ a. ⊎_elim
        (λ b. ap (λ z. z && (ltb w (2 * n) && stands_at held (row_words n) u w)) (lt-ltb u (2 * n) a) ∙ ap (λ z. z && stands_at held (row_words n) u w) (lt-ltb w (2 * n) b)
        ∙ held_tells u w a (omega arith))
        (λ b. far (ltb u (2 * n)) (ltb w (2 * n)) (stands_at held (row_words n) u w) (le-ltb w (2 * n) b) ∙ sym (off u w (λ e. omega (arith, (below u w e).1)))) (cases_lt w (2 * n)))
        (λ a. ap (λ z. z && (ltb w (2 * n) && stands_at held (row_words n) u w)) (le-ltb u (2 * n) a) ∙ sym (off u w (λ e. omega (arith, (below u w e).0)))) (cases_lt u (2 * n))
      where
        far : (a b x : Bool) → b ≡ false → (a && (b && x)) ≡ false
        far true b x e = ap (λ z. z && x) e
        far false b x e = refl

    pub held_conflicts : conflicts (2 * n) (row_words n) held ≡ rel
    held_conflicts = λ i u w. at u w i

-- ---- the conflicts of a network, as the rule is given them
module _ (n : ℕ) (ws : List ℕ) where
  abbrev net : Net
  net = record { variables = n; words = ws }

  conflict_at : (u w : ℕ) → u < 2 * n → w < 2 * n → stands n ws u w ≡ true → Conflict net (literal u) (literal w)
  conflict_at u w a b h = (literal_within n u a, literal_within n w b, ap₂ (stands n ws) (index_literal u) (index_literal w) ∙ h)

  parts_of : (u w : ℕ) → conflicts_in n ws u w ≡ true → (u < 2 * n) × (w < 2 * n) × (stands n ws u w ≡ true)
  parts_of u w h =
      let p = and_parts (ltb u (2 * n)) _ h in let q = and_parts (ltb w (2 * n)) _ p.1 in
      (ltb-true u (2 * n) p.0, ltb-true w (2 * n) q.0, q.1)

  -- where what remains are conflicts, as the cover promises, it joins literals of the network only, and none to itself
  module _ (apart : Apart net) (rel : Rel) (within : (u w : ℕ) → rel u w ≡ true → conflicts_in n ws u w ≡ true) where
    pub remains_below : (u w : ℕ) → rel u w ≡ true → (u < 2 * n) × (w < 2 * n)
    remains_below u w h = let p = parts_of u w (within u w h) in (p.0, p.1)

    pub remains_loose : (u : ℕ) → rel u u ≡ true → ⊥
    remains_loose u h =
        let p = parts_of u u (within u u h) in
        apart (literal u) (literal u) (conflict_at u u p.0 p.1 p.2) refl
