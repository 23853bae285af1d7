-- The loop that takes biclique after biclique.
use Rattle.std.proofs.Common.{◌≡◌, ℕ, zero, suc, ◌+◌, ◌-◌, ◌*◌, ◌<◌, ◌≤◌, true, false, ltb, List, map, length, ℤ, sym, ap, ◌∙◌, ap₂, arith}
use Rattle.std.proofs.lemmas.List.{length-append, length-map}
use Rattle.std.proofs.lemmas.Bool.{cond-true, cond-false, cond_both, le-ltb, lt-ltb}
use Rattle.logic.specs.Literal.{literal}
use Rattle.cover_theory.specs.Parts.{biclique}
use Rattle.cover_theory.specs.Rule.{Rel, Sides, count, those, without_sides, grown_sides, gains, bicliques}
use Rattle.cover_theory.specs.Rows.{held, listed, Flat, told, sides_part}
use Rattle.cover_theory.proofs.Members.{length_those}

-- ---- one biclique of the rule

module _ (N : ℕ) (rel : Rel) (xs : List ℤ) (s : Sides) (k : ℕ) (grew : ◌≡◌ {A = Sides} s (grown_sides N rel)) where
  pub pair_none : gains N s ≡ false → ◌≡◌ {A = Flat} (bicliques told N (suc k) (rel, xs)) (rel, xs)
  pair_none h = cond-false (gains N (grown_sides N rel)) _ _ (ap (gains N) (sym grew) ∙ h)

  pub pair_more : gains N s ≡ true
      → ◌≡◌ {A = Flat} (bicliques told N (suc k) (rel, xs)) (bicliques told N k (without_sides rel s, told xs (biclique (those s.0 N 0) (those s.1 N 0))))
  pair_more h =
      cond-true (gains N (grown_sides N rel)) _ _ (ap (gains N) (sym grew) ∙ h)
      ∙ ap (λ (p : Sides). bicliques told N k (without_sides rel p, told xs (biclique (those p.0 N 0) (those p.1 N 0)))) (sym grew)

pub bicliques_longer : (N k : ℕ) (s : Flat) → length s.1 ≤ length (bicliques told N k s).1
bicliques_longer N zero s = omega arith
bicliques_longer N (suc k) s =
    let p = grown_sides N s.0 in
    let t : Flat = (without_sides s.0 p, told s.1 (biclique (those p.0 N 0) (those p.1 N 0))) in
    cond_both (gains N p) (bicliques told N k t) s (λ (z : Flat). length s.1 ≤ length z.1)
    (λ e. omega (arith, length-append s.1 (listed (biclique (those p.0 N 0) (those p.1 N 0))), bicliques_longer N k t)) (λ e. omega arith)

pub test_gains : (N : ℕ) (s : Sides) (x y : ℕ) → x ≡ count s.0 N 0 → y ≡ count s.1 N 0 → x + y < x * y → gains N s ≡ true
test_gains N s x y p q h = ap₂ (λ a b. ltb (a + b) (a * b)) (sym p) (sym q) ∙ lt-ltb _ _ h

pub test_ends : (N : ℕ) (s : Sides) (x y : ℕ) → x ≡ count s.0 N 0 → y ≡ count s.1 N 0 → x * y ≤ x + y → gains N s ≡ false
test_ends N s x y p q h = ap₂ (λ a b. ltb (a + b) (a * b)) (sym p) (sym q) ∙ le-ltb _ _ h

-- ---- what it writes

pub length_sides : (N : ℕ) (a b : List ℕ) → length (listed (sides_part N a b)) ≡ count (held N a) N 0 + count (held N b) N 0 + 2
length_sides N a b =
    let A = those (held N a) N 0 in let B = those (held N b) N 0 in
    omega (arith, length-append (map literal A) (map literal B), length-map A literal, length-map B literal, length_those (held N a) N 0, length_those (held N b) N 0)

-- a list that is too short for the sides
pub sides_short : (N : ℕ) (a b : List ℕ) (xs : List ℤ) (x y room : ℕ) → x ≡ count (held N a) N 0 → y ≡ count (held N b) N 0 → room < x + y + 2
    → length xs + room < length (told xs (sides_part N a b))
sides_short N a b xs x y room p q h = omega (arith, length-append xs (listed (sides_part N a b)), length_sides N a b)

-- ---- the loop

fuel : (m i : ℕ) → i < m → m - i ≡ suc (m - (i + 1))
fuel m i h = omega arith

module _ (N m i : ℕ) (rel : Rel) (xs : List ℤ) (s : Sides) (h : i < m) (grew : ◌≡◌ {A = Sides} s (grown_sides N rel)) where
  pub loop_ends : gains N s ≡ false → ◌≡◌ {A = Flat} (bicliques told N (m - i) (rel, xs)) (rel, xs)
  loop_ends g = ap (λ k. bicliques told N k (rel, xs)) (fuel m i h) ∙ pair_none N rel xs s (m - (i + 1)) grew g

  pub loop_more : gains N s ≡ true
      → ◌≡◌ {A = Flat} (bicliques told N (m - i) (rel, xs)) (bicliques told N (m - (i + 1)) (without_sides rel s, told xs (biclique (those s.0 N 0) (those s.1 N 0))))
  loop_more g = ap (λ k. bicliques told N k (rel, xs)) (fuel m i h) ∙ pair_more N rel xs s (m - (i + 1)) grew g

  pub loop_short : gains N s ≡ true → (n : ℕ) → n < length (told xs (biclique (those s.0 N 0) (those s.1 N 0))) → n < length (bicliques told N (m - i) (rel, xs)).1
  loop_short g n l =
      let t : Flat = (without_sides rel s, told xs (biclique (those s.0 N 0) (those s.1 N 0))) in
      omega (arith, ap (λ (z : Flat). length z.1) (loop_more g), bicliques_longer N (m - (i + 1)) t)
