-- Sums and lists made number by number: bounds, one number more, and cut in two.
use Rattle.std.proofs.Common.{◌≡◌, ℕ, zero, suc, ◌+◌, ◌-◌, ◌<◌, ◌≤◌, List, ◌++◌, length, sym, refl, ap, ◌∙◌, subst, ⊎_elim, append_assoc, arith, length-append}
use Rattle.std.proofs.lemmas.Bool.{cases_eq}
use Rattle.encoder_theory.specs.Each.{each}
use Rattle.encoder_theory.proofs.Each.{each_more, each_last}
use Rattle.layer_theory.specs.Grouping.{sum}

pub sum_le : (f g : ℕ → ℕ) (n : ℕ) → ((i : ℕ) → i < n → f i ≤ g i) → sum n f ≤ sum n g
sum_le f g zero h = omega arith
sum_le f g (suc n) h = let a = h n (omega arith) in let b = sum_le f g n (λ i l. h i (omega arith)) in omega arith

-- the sum up to a number is part of the whole
pub sum_part : (f : ℕ → ℕ) (i n : ℕ) → i < n → sum i f + f i ≤ sum n f
sum_part f i zero l = absurd (omega arith)
sum_part f i (suc n) l = ⊎_elim
    (λ (e : i ≡ n). subst (λ k. sum k f + f k ≤ sum n f + f n) (sym e) (omega arith))
    (λ ne. let r = sum_part f i n (omega arith) in omega arith)
    (cases_eq i n)

pub sum_more : (f : ℕ → ℕ) (i : ℕ) → sum (i + 1) f ≡ sum i f + f i
sum_more f i = let e : i + 1 ≡ suc i = omega arith in ap (λ k. sum k f) e

module _ {X : Type 0} (f : ℕ → List X) where
  -- a list cut before the number i
  pub each_cut : (a i j : ℕ) → each a (i + j) f ≡ each a i f ++ each (a + i) j f
  each_cut a zero j =
      let e : 0 + j ≡ j = omega arith in
      let z : a ≡ a + 0 = omega arith in
      ap (λ n. each a n f) e ∙ ap (λ b. each b j f) z
  each_cut a (suc i) j =
      let e : suc i + j ≡ suc (i + j) = omega arith in
      let b : a + 1 + i ≡ a + suc i = omega arith in
      ap (λ n. each a n f) e ∙ ap (λ ys. f a ++ ys) (each_cut (a + 1) i j ∙ ap (λ c. each (a + 1) i f ++ each c j f) b)
      ∙ sym (append_assoc (f a) (each (a + 1) i f) (each (a + suc i) j f))

  pub each_at : (i n : ℕ) → i < n → each 0 n f ≡ each 0 i f ++ (f i ++ each (i + 1) (n - (i + 1)) f)
  each_at i n l =
      let e : n ≡ i + (n - i) = omega arith in
      let z : 0 + i ≡ i = omega arith in
      ap (λ k. each 0 k f) e ∙ each_cut 0 i (n - i) ∙ ap (λ b. each 0 i f ++ each b (n - i) f) z ∙ ap (λ ys. each 0 i f ++ ys) (each_more f i n l)

  each_end : (n : ℕ) → each 0 (suc n) f ≡ each 0 n f ++ f n
  each_end n = let e : suc n ≡ n + 1 = omega arith in ap (λ k. each 0 k f) e ∙ each_last f n

  pub length_each_sum : (w : ℕ → ℕ) (n : ℕ) → ((i : ℕ) → i < n → length (f i) ≡ w i) → length (each 0 n f) ≡ sum n w
  length_each_sum w zero h = refl
  length_each_sum w (suc n) h =
      let e = ap length (each_end n) in
      let a = length-append (each 0 n f) (f n) in
      let r = length_each_sum w n (λ i l. h i (omega arith)) in
      let q = h n (omega arith) in
      omega arith
