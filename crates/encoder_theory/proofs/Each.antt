-- Lists made number by number: what is in them, how long they are, and one number more.
use Rattle.std.proofs.Common.{◌≡◌, ℕ, zero, suc, ◌+◌, ◌-◌, ◌*◌, ◌<◌, ◌≤◌, List, [], ◌∷◌, ◌++◌, length, sym, ap, ◌∙◌, subst, append_assoc, inl, inr, ⊎_elim, suc-mul, arith, length-append}
use Rattle.std.proofs.lemmas.Bool.{cases_eq}
use Rattle.std.proofs.lemmas.List.{append-nil}
use Rattle.logic.specs.Clause.{In}
use Rattle.logic.proofs.Clauses.{in_left, in_right, in_cases}
use Rattle.encoder_theory.specs.Each.{each}

pub in_single : {X : Type 0} (x y : X) → In x (y ∷ []) → x ≡ y
in_single x y (inl e) = sym e
in_single x y (inr h) = absurd h

module _ {X : Type 0} (f : ℕ → List X) where
  pub in_each : (x : X) (a n : ℕ) → In x (each a n f) → (k : ℕ) × (a ≤ k) × (k < a + n) × In x (f k)
  in_each x a zero h = absurd h
  in_each x a (suc n) h =
      ⊎_elim
      (λ i. (a, omega arith, omega arith, i))
      (λ i. let r = in_each x (a + 1) n i in (r.0, omega (arith, r.1), omega (arith, r.2), r.3))
      (in_cases x (f a) (each (a + 1) n f) h)

  pub each_has : (x : X) (a n k : ℕ) → a ≤ k → k < a + n → In x (f k) → In x (each a n f)
  each_has x a zero k l u h = absurd (omega arith)
  each_has x a (suc n) k l u h =
      ⊎_elim
      (λ e. in_left x (f a) (each (a + 1) n f) (subst (λ i. In x (f i)) (sym e) h))
      (λ ne. in_right x (f a) (each (a + 1) n f) (each_has x (a + 1) n k (omega arith) (omega arith) h))
      (cases_eq a k)

  -- lists of one length
  pub length_each : (w a n : ℕ) → ((k : ℕ) → length (f k) ≡ w) → length (each a n f) ≡ n * w
  length_each w a zero h = let e : 0 ≡ 0 * w = omega arith in e
  length_each w a (suc n) h =
      let e = length-append (f a) (each (a + 1) n f) in
      let r = length_each w (a + 1) n h in
      let p = h a in
      let s = suc-mul n w in
      omega arith

  -- the numbers from i on and below n
  pub each_more : (i n : ℕ) → i < n → each i (n - i) f ≡ f i ++ each (i + 1) (n - (i + 1)) f
  each_more i n l = let e : n - i ≡ suc (n - (i + 1)) = omega arith in ap (λ k. each i k f) e

  -- one number more at the end, and no more numbers than there are
  pub each_next : (a n : ℕ) → each a (n + 1) f ≡ each a n f ++ f (a + n)
  each_next a zero = append-nil (f a) ∙ ap f (omega arith)
  each_next a (suc n) =
      let e : a + 1 + n ≡ a + suc n = omega arith in
      let h : suc n + 1 ≡ suc (n + 1) = omega arith in
      ap (λ k. each a k f) h ∙ ap (λ ys. f a ++ ys) (each_next (a + 1) n) ∙ sym (append_assoc (f a) (each (a + 1) n f) (f (a + 1 + n))) ∙ ap (λ k. (f a ++ each (a + 1) n f) ++ f k) e

  pub each_last : (n : ℕ) → each 0 (n + 1) f ≡ each 0 n f ++ f n
  each_last n = each_next 0 n ∙ ap (λ k. each 0 n f ++ f k) (omega arith)

  pub length_each_part : (a k n : ℕ) → k ≤ n → length (each a k f) ≤ length (each a n f)
  length_each_part a zero n l = omega arith
  length_each_part a (suc k) zero l = absurd (omega arith)
  length_each_part a (suc k) (suc n) l =
      let r = length_each_part (a + 1) k n (omega arith) in
      omega (arith, length-append (f a) (each (a + 1) k f), length-append (f a) (each (a + 1) n f))
