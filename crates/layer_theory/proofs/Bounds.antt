-- The squares of the groups' sizes, the members and the square of the groups' number are at most the square of the members.
use Rattle.std.proofs.Common.{◌≡◌, ℕ, zero, suc, ◌+◌, ◌-◌, ◌*◌, ◌<◌, ◌≤◌, sym, ap, ◌∙◌, subst, ⊎_elim, suc-mul, add-mul, mul-le-mul_left, mul-add, arith}
use Rattle.std.proofs.lemmas.Bool.{cases_lt}
use Rattle.layer_theory.specs.Grouping.{Formed, size, sum}
use Rattle.layer_theory.proofs.Rule.{size_some}

abbrev pub square : ℕ → ℕ
square n = n * n

-- a part of m members is apart from the others
apart : (a b : ℕ) → 1 ≤ a → 1 ≤ b → a * a + (a + b - 1) ≤ a * (a + b)
apart a b la lb =
    let e = mul-add a a b in
    let l = less a b la lb in
    omega arith
  where
    less : (a b : ℕ) → 1 ≤ a → 1 ≤ b → a + b - 1 ≤ a * b
    less zero b la lb = absurd (omega arith)
    less (suc a) b la lb = let e = suc-mul a b in let l = mul-le-mul_left a lb in omega arith

module _ (k m n : ℕ) (s : ℕ → ℕ) (r : Formed k m n s) (k2 : 2 ≤ k) (more : k < m) where
  pub two_groups : 2 ≤ n
  two_groups = ⊎_elim
      (λ (l : n < 2). absurd (few n r.ends r.begins l r.most))
      (λ (h : 2 ≤ n). h)
      (cases_lt n 2)
    where
      few : (j : ℕ) → s j ≡ m → s 0 ≡ 0 → j < 2 → ((i : ℕ) → i < j → s (i + 1) ≤ s i + k) → ⊥
      few zero e z l h = omega arith
      few (suc zero) e z l h = let a = h 0 (omega arith) in omega arith
      few (suc (suc j)) e z l h = omega arith

  -- no group has all members
  size_less : (i : ℕ) → i < n → size s i + 1 ≤ m
  size_less i l = let a = r.most i l in omega arith

  squares_up_to : (i : ℕ) → i ≤ n → sum i (λ j. square (size s j)) + i * (m - 1) ≤ s i * m
  squares_up_to zero l = let a : 0 * (m - 1) ≡ 0 = omega arith in omega arith
  squares_up_to (suc i) l =
      let b : i < n = omega arith in
      let h = squares_up_to i (omega arith) in
      let lo = size_some k m n s r i b in
      let hi = size_less i b in
      let rise = r.some i b in
      let d : size s i + (m - size s i) ≡ m = omega arith in
      let q : size s i * size s i + (m - 1) ≤ size s i * m = subst (λ y. size s i * size s i + (y - 1) ≤ size s i * y) d (apart (size s i) (m - size s i) lo (omega arith)) in
      let a = suc-mul i (m - 1) in
      let c = add-mul (s i) (size s i) m in
      let e : i + 1 ≡ suc i = omega arith in
      let f = ap s e in
      let g : s i + size s i ≡ s (suc i) = omega arith in
      let u : s (suc i) * m ≡ s i * m + size s i * m = ap (λ y. y * m) (sym g) ∙ c in
      omega arith

  -- n groups, each of two or more but perhaps one
  few_groups : 6 ≤ m → m + n * n ≤ n * (m - 1)
  few_groups six = by n two_groups (half n k m k2 r.needed)
    where
      half : (n k m : ℕ) → 2 ≤ k → n * k < m + k → n * 2 < m + 2
      half zero k m k2 h = omega arith
      half (suc j) k m k2 h = let a = suc-mul j k in let b = mul-le-mul_left j k2 in omega arith

      by : (n : ℕ) → 2 ≤ n → n * 2 < m + 2 → m + n * n ≤ n * (m - 1)
      by zero l h = absurd (omega arith)
      by (suc zero) l h = absurd (omega arith)
      by (suc (suc zero)) l h = omega arith
      by (suc (suc (suc zero))) l h = omega arith
      by (suc (suc (suc (suc j)))) l h =
          let q = suc (suc (suc (suc j))) in
          let w : q + (m - 1 - q) ≡ m - 1 = omega arith in
          let e = mul-add q q (m - 1 - q) in
          let f = ap (λ y. q * y) w in
          let u : suc (suc j) ≤ m - 1 - q = omega arith in
          let x = big j (m - 1 - q) u in
          omega arith
        where
          big : (j y : ℕ) → suc (suc j) ≤ y → suc (suc (suc (suc j))) + y + 1 ≤ suc (suc (suc (suc j))) * y
          big j y u =
              let a = suc-mul (suc (suc (suc j))) y in
              let b = suc-mul (suc (suc j)) y in
              let c = suc-mul (suc j) y in
              let d = suc-mul j y in
              omega arith

  pub squares_fit : 6 ≤ m → sum n (λ j. square (size s j)) + m + n * n ≤ m * m
  squares_fit six =
      let a = squares_up_to n (omega arith) in
      let b = few_groups six in
      let e = ap (λ y. y * m) r.ends in
      omega arith

  pub groups_fewer : n < m
  groups_fewer = by n r.needed
    where
      by : (n : ℕ) → n * k < m + k → n < m
      by zero h = omega arith
      by (suc j) h = let a = suc-mul j k in let b = mul-le-mul_left j k2 in omega arith
