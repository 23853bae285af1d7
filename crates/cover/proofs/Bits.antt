-- The bits of a list of words, counted word by word.
use Rattle.std.proofs.Common.{◌≡◌, ℕ, zero, suc, ◌+◌, ◌-◌, ◌*◌, ◌/◌, ◌%◌, ◌^◌, ◌<◌, ◌≤◌, ◌&&◌, leb, cond, true, false, Bool, List, [], ◌∷◌, map, length, get_or, take, drop, sym, refl, ap, ◌∙◌, ap₂, subst, arith, w64, Fits, sum}
use lib.Bits.{bit_and, and_le_l}
use lib.Count.{ones}
use Rattle.std.specs.List.{sum_by, zip}
use Rattle.std.proofs.lemmas.List.Sums.{sum_by-cons, sum-map}
use Rattle.std.proofs.lemmas.Slice.Zip.{length-zip, get_or-zip}
use Rattle.cover_theory.specs.Rule.{Side, count, shared, everyone}
use Rattle.cover_theory.specs.Rows.{marked, stands_at, conflicts, Fit, held, Neat}
use Rattle.network_theory.specs.Layout.{bit}
use Rattle.cover_theory.proofs.Digits.{and_bit}
use Rattle.cover_theory.proofs.Counts.{count_split, count_as, count_same, ones_count, mask_word, common_is, size_is}
use Rattle.cover_theory.proofs.Degrees.{degree_is}
use Rattle.std.proofs.lemmas.List.{length-drop, length-take-le, get_or-drop, get_or-take}
use Rattle.std.proofs.lemmas.Bool.{le-leb}
use Rattle.std.proofs.lemmas.Bool.Decides.{nat_tests}
use Rattle.cover_theory.proofs.Remaining.{from_on, none_below, word_on, rest_is}

digit_le : (b : Bool) → cond b 1 0 ≤ 1
digit_le true = omega arith
digit_le false = omega arith

pub count_le : (p : Side) (k c : ℕ) → count p k c ≤ k
count_le p zero c = omega arith
count_le p (suc k) c = omega (arith, digit_le (p c), count_le p k (suc c))

sum_bits : {X : Type 0} (p : Side) (f : X → ℕ) (xs : List X) (d : X) (c : ℕ) → ((k : ℕ) → k < length xs → f (get_or xs k d) < 2 ^ 64)
    → ((k t : ℕ) → k < length xs → t < 64 → p (c + (64 * k + t)) ≡ bit (f (get_or xs k d)) t)
    → sum_by (λ x. ones (f x)) xs ≡ count p (64 * length xs) c
sum_bits p f [] d c fits h = refl
sum_bits p f (x ∷ xs) d c fits h =
    let here : count p 64 c ≡ ones (f x) =
    count_as p (bit (f x)) 64 c 0 (λ t l. ap p (let e : c + t ≡ c + (64 * 0 + t) = omega arith in e) ∙ h 0 t (omega arith) l ∙ ap (bit (f x)) (let e : t ≡ 0 + t = omega arith in e))
    ∙ sym (ones_count 64 (f x) (fits 0 (omega arith))) in
    let more = sum_bits p f xs d (c + 64) (λ k l. fits (suc k) (omega arith))
    (λ k t l m. ap p (let e : c + 64 + (64 * k + t) ≡ c + (64 * suc k + t) = omega arith in e) ∙ h (suc k) t (omega arith) m) in
    sum_by-cons (λ y. ones (f y)) x xs ∙ ap₂ ◌+◌ (sym here) more ∙ sym (count_split p 64 (64 * length xs) c)
    ∙ ap (λ n. count p n c) (let e : 64 + 64 * length xs ≡ 64 * suc (length xs) = omega arith in e)

-- the bits that are set in words
pub set_bits : (ws : List ℕ) → ((k : ℕ) → Fits w64 (get_or ws k 0)) → sum (map ones ws) ≡ count (marked ws) (64 * length ws) 0
set_bits ws fits =
    sum-map ones ws
    ∙ sum_bits (marked ws) (λ x. x) ws 0 0 (λ k h. let f = fits k in omega arith) (λ k t h l. ap (marked ws) (let e : 0 + (64 * k + t) ≡ 64 * k + t = omega arith in e) ∙ mask_word ws k t l)

-- and in two lists of words both
module _ (ws os : List ℕ) (short : length ws ≤ length os) (fits : (k : ℕ) → get_or ws k 0 < 2 ^ 64) where
  pair_at : (k : ℕ) → k < length ws → bit_and (get_or (zip ws os) k (0, 0)).0 (get_or (zip ws os) k (0, 0)).1 ≡ bit_and (get_or ws k 0) (get_or os k 0)
  pair_at k h = ap (λ (p : ℕ × ℕ). bit_and p.0 p.1) (get_or-zip ws os k (0, 0) h (omega arith))

  pair_fits : (k : ℕ) → k < length ws → bit_and (get_or (zip ws os) k (0, 0)).0 (get_or (zip ws os) k (0, 0)).1 < 2 ^ 64
  pair_fits k h = let f = fits k in subst (λ z. z < 2 ^ 64) (sym (pair_at k h)) (omega (arith, and_le_l (get_or ws k 0) (get_or os k 0)))

  swap : (a b : Bool) → (a && b) ≡ (b && a)
  swap true true = refl
  swap true false = refl
  swap false true = refl
  swap false false = refl

  pair_bit : (k t : ℕ) → k < length ws → t < 64 → (marked os (0 + (64 * k + t)) && marked ws (0 + (64 * k + t))) ≡ bit (bit_and (get_or (zip ws os) k (0, 0)).0 (get_or (zip ws os) k (0, 0)).1) t
  pair_bit k t h l =
      let e : 0 + (64 * k + t) ≡ 64 * k + t = omega arith in
      ap₂ ◌&&◌ (ap (marked os) e ∙ mask_word os k t l) (ap (marked ws) e ∙ mask_word ws k t l)
      ∙ swap (bit (get_or os k 0) t) (bit (get_or ws k 0) t) ∙ sym (and_bit (get_or ws k 0) (get_or os k 0) t) ∙ ap (λ z. bit z t) (sym (pair_at k h))

  pub shared_bits : sum_by (λ (p : ℕ × ℕ). ones (bit_and p.0 p.1)) (zip ws os) ≡ count (λ j. marked os j && marked ws j) (64 * length ws) 0
  shared_bits =
      let len : length (zip ws os) ≡ length ws = omega (arith, length-zip ws os) in
      sum_bits (λ j. marked os j && marked ws j) (λ (p : ℕ × ℕ). bit_and p.0 p.1) (zip ws os) (0, 0) 0 (λ k h. pair_fits k (omega arith)) (λ k t h l. pair_bit k t (omega arith) l)
      ∙ ap (λ n. count (λ j. marked os j && marked ws j) (64 * n) 0) len

-- ---- a row that lies in the words of all rows

module _ (N R : ℕ) (ws : List ℕ) (u : ℕ) (fit : Fit N R ws) (hu : u < N) (row : List ℕ) (long : length row ≡ R) (at : (k : ℕ) → k < R → get_or row k 0 ≡ get_or ws (u * R + k) 0) where
  pub row_bit : (j : ℕ) → j < 64 * R → marked row j ≡ stands_at ws R u j
  row_bit j h = ap (λ z. bit z (j % 64)) (at (j / 64) (omega arith))

  pub row_degree : count (marked row) (64 * length row) 0 ≡ count (shared (conflicts N R ws) (everyone N) u) N 0
  row_degree =
      ap (λ n. count (marked row) (64 * n) 0) long ∙ count_same (marked row) (stands_at ws R u) (64 * R) row_bit ∙ degree_is N R ws u fit hu

  pub row_common : (mask : List ℕ) → count (λ j. marked mask j && marked row j) (64 * length row) 0 ≡ count (shared (conflicts N R ws) (held N mask) u) N 0
  row_common mask =
      ap (λ n. count (λ j. marked mask j && marked row j) (64 * n) 0) long
      ∙ count_same (λ j. marked mask j && marked row j) (λ j. marked mask j && stands_at ws R u j) (64 * R) (λ j h. ap (λ b. marked mask j && b) (row_bit j h))
      ∙ common_is N R ws mask u fit hu

  -- those after u
  pub row_rest : (first y n : ℕ) → first ≡ (u + 1) / 64 → first < R → y < 2 ^ 64 → ((t : ℕ) → bit y t ≡ (leb ((u + 1) % 64) t && bit (get_or row first 0) t))
      → n ≡ count (marked (drop (first + 1) row)) (64 * length (drop (first + 1) row)) 0
      → (ones y + n ≡ count (conflicts N R ws u) (N - (u + 1)) (u + 1)) × (ones y + n ≤ 8192)
  row_rest first y n e h fits y-is n-is =
      let len : length (drop (first + 1) row) ≡ R - (first + 1) = omega (arith, length-drop (first + 1) row) in
      let low : count (from_on ws R u (u + 1)) (64 * (first + 1)) 0 ≡ count (from_on ws R u (u + 1)) (64 * first) 0 + ones y =
      word_on ws R u (u + 1) first y fits
      (λ t l. y-is t ∙ ap₂ ◌&&◌ (lower first t e l) (ap (λ z. bit z t) (at first h))) in
      let none = none_below ws R u (u + 1) first (omega arith) in
      let high : n ≡ count (from_on ws R u (u + 1)) (64 * (R - (first + 1))) (0 + 64 * (first + 1)) =
      n-is ∙ ap (λ z. count (marked (drop (first + 1) row)) (64 * z) 0) len
      ∙ count_as (marked (drop (first + 1) row)) (from_on ws R u (u + 1)) (64 * (R - (first + 1))) 0 (0 + 64 * (first + 1)) (λ t l. upper first t e h l) in
      let all : count (from_on ws R u (u + 1)) (64 * R) 0 ≡ count (from_on ws R u (u + 1)) (64 * (first + 1)) 0 + count (from_on ws R u (u + 1)) (64 * (R - (first + 1))) (0 + 64 * (first + 1)) =
      ap (λ z. count (from_on ws R u (u + 1)) z 0) (let q : 64 * R ≡ 64 * (first + 1) + 64 * (R - (first + 1)) = omega arith in q)
      ∙ count_split (from_on ws R u (u + 1)) (64 * (first + 1)) (64 * (R - (first + 1))) 0 in
      let total : ones y + n ≡ count (from_on ws R u (u + 1)) (64 * R) 0 = omega (arith, low, none, high, all) in
      (total ∙ rest_is N R ws u fit hu, omega (arith, total, count_le (from_on ws R u (u + 1)) (64 * R) 0, fit.few))
    where
      lower : (first t : ℕ) → first ≡ (u + 1) / 64 → t < 64 → leb ((u + 1) % 64) t ≡ leb (u + 1) (64 * first + t)
      lower first t e l = grind (arith, nat_tests)

      upper : (first t : ℕ) → first ≡ (u + 1) / 64 → first < R → t < 64 * (R - (first + 1)) → marked (drop (first + 1) row) (0 + t) ≡ from_on ws R u (u + 1) (0 + 64 * (first + 1) + t)
      upper first t e h l =
          ap (λ z. bit z ((0 + t) % 64)) (get_or-drop (first + 1) row ((0 + t) / 64) 0)
          ∙ ap₂ (λ a b. bit (get_or row a 0) b) (let q : first + 1 + (0 + t) / 64 ≡ (0 + 64 * (first + 1) + t) / 64 = omega arith in q) (let q : (0 + t) % 64 ≡ (0 + 64 * (first + 1) + t) % 64 = omega arith in q)
          ∙ row_bit (0 + 64 * (first + 1) + t) (omega arith)
          ∙ sym (ap (λ b. b && stands_at ws R u (0 + 64 * (first + 1) + t)) (le-leb (u + 1) (0 + 64 * (first + 1) + t) (omega arith)))

-- a mask's own words
pub mask_size : (N R : ℕ) (mask : List ℕ) → R ≤ length mask → N ≤ 64 * R → Neat N R mask → count (marked (take R mask)) (64 * length (take R mask)) 0 ≡ count (held N mask) N 0
mask_size N R mask room small neat =
    ap (λ n. count (marked (take R mask)) (64 * n) 0) (length-take-le R mask room)
    ∙ count_same (marked (take R mask)) (marked mask) (64 * R) (λ j h. ap (λ z. bit z (j % 64)) (get_or-take R mask (j / 64) 0 (omega arith)))
    ∙ size_is N R mask small neat
