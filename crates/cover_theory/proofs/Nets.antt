-- The conflicts of a network as the rule is given them, and the laws of its cover.
use Rattle.std.proofs.Common.{◌≡◌, ℕ, ◌+◌, ◌*◌, ◌/◌, ◌%◌, ◌<◌, ◌≤◌, Bool, true, false, ltb, ◌↔◌, List, length, get_or, ℤ, sym, refl, ap, ◌∙◌, ap₂, ⊎_elim, mul_comm, arith}
use Rattle.std.proofs.lemmas.Nat.{mul-add-lt}
use Rattle.std.proofs.lemmas.Bool.{cases_Bool, and_parts, and_from, ltb-true, lt-ltb}
use Rattle.logic.specs.Literal.{Literal, index, literal}
use Rattle.logic.proofs.Literals.{index_below, index_literal, variable_literal, literal_within}
use Rattle.network_theory.specs.Layout.{Net, Conflict, Mutual, Apart, Trimmed, row_words, words_needed, stands, bit}
use Rattle.cover_theory.specs.Parts.{Partition}
use Rattle.cover_theory.specs.Rule.{cover_of, sweep, ruled, covering}
use Rattle.cover_theory.specs.Lies.{conflicts_in}
use Rattle.cover_theory.specs.Rows.{stands_at, Fit, Flat, told}
use Rattle.cover_theory.proofs.Splits.{Given, covering_splits}
use Rattle.cover_theory.proofs.Partitions.{partition}
use Rattle.cover_theory.proofs.Pairs.{bicliques_longer}

abbrev net_in : ℕ → List ℕ → Net
net_in n ws = record { variables = n; words = ws }

module _ (n : ℕ) (ws : List ℕ) where
  -- a conflict of indices is one of their literals
  conflict_at : (u w : ℕ) → u < 2 * n → w < 2 * n → stands n ws u w ≡ true → Conflict (net_in n ws) (literal u) (literal w)
  conflict_at u w a b h =
      (literal_within n u a, literal_within n w b, ap₂ (stands n ws) (index_literal u) (index_literal w) ∙ h)

  parts_of : (u w : ℕ) → conflicts_in n ws u w ≡ true → (u < 2 * n) × (w < 2 * n) × (stands n ws u w ≡ true)
  parts_of u w h =
      let p = and_parts (ltb u (2 * n)) _ h in let q = and_parts (ltb w (2 * n)) _ p.1 in
      (ltb-true u (2 * n) p.0, ltb-true w (2 * n) q.0, q.1)

  related : (u w : ℕ) → u < 2 * n → w < 2 * n → stands n ws u w ≡ true → conflicts_in n ws u w ≡ true
  related u w a b h = and_from (ltb u (2 * n)) _ (lt-ltb u (2 * n) a) (and_from (ltb w (2 * n)) _ (lt-ltb w (2 * n) b) h)

  clash : (p q : ℤ) → Literal n p × Literal n q × (conflicts_in n ws (index p) (index q) ≡ true) → Conflict (net_in n ws) p q
  clash p q h = (h.0, h.1, (parts_of (index p) (index q) h.2).2)

  tells : (p q : ℤ) → Conflict (net_in n ws) p q → Literal n p × Literal n q × (conflicts_in n ws (index p) (index q) ≡ true)
  tells p q h = (h.0, h.1, related (index p) (index q) (index_below n p h.0) (index_below n q h.1) h.2)

  module _ (both : Mutual (net_in n ws)) (apart : Apart (net_in n ws)) where
    apart_at : (u w : ℕ) → conflicts_in n ws u w ≡ true → u / 2 ≡ w / 2 → ⊥
    apart_at u w h e =
        let p = parts_of u w h in
        apart (literal u) (literal w) (conflict_at u w p.0 p.1 p.2) (variable_literal u ∙ ap (λ z. z + 1) e ∙ sym (variable_literal w))

    given : Given (2 * n) (conflicts_in n ws)
    given = record {
      bound = λ u w h. let p = parts_of u w h in (p.0, p.1);
      back = λ u w h. let p = parts_of u w h in
          related w u p.1 p.0 (sym (ap₂ (stands n ws) (index_literal w) (index_literal u)) ∙ both (literal u) (literal w) (conflict_at u w p.0 p.1 p.2));
      loose = λ u h. apart_at u u h refl;
    }

    -- THE LAW of the cover of a network
    pub net_partition : Partition n (Conflict (net_in n ws)) (cover_of n (conflicts_in n ws))
    net_partition = partition n (conflicts_in n ws) given apart_at (Conflict (net_in n ws)) tells clash

    -- what remains are conflicts of the network
    pub net_within : (u w : ℕ) → (covering (2 * n) (conflicts_in n ws)).0 u w ≡ true → conflicts_in n ws u w ≡ true
    net_within = (covering_splits (2 * n) (conflicts_in n ws) given).within

    -- the words that the rule works on
    pub net_fit : (vs : List ℕ) → Trimmed (net_in n ws) → n ≤ 4096 → words_needed n ≤ length vs → ((i : ℕ) → i < words_needed n → get_or vs i 0 ≡ get_or ws i 0) → Fit (2 * n) (row_words n) vs
    net_fit vs trimmed few room same = record {
      tidy = λ u w a b c. at u w a c ∙ trimmed u w (a, b, c);
      loose = λ u a. at u u a (omega arith) ∙ ⊎_elim (λ e. absurd (apart_at u u (related u u a a e) refl)) (λ e. e) (cases_Bool (stands n ws u u));
      small = omega arith;
      few = omega arith;
      room = room;
    }
      where
        at : (u w : ℕ) → u < 2 * n → w < 64 * row_words n → stands_at vs (row_words n) u w ≡ stands n ws u w
        at u w a b = ap (λ z. bit z (w % 64)) (same (u * row_words n + w / 64) (omega (arith, mul-add-lt u (row_words n) (w / 64) (2 * n) a (omega arith), mul_comm (2 * n) (row_words n))))

iff_bools : (a b : Bool) → (a ≡ true → b ≡ true) → (b ≡ true → a ≡ true) → a ≡ b
iff_bools true b f g = sym (f refl)
iff_bools false true f g = g refl
iff_bools false false f g = refl

-- the cover depends on the number of variables and on the conflicts alone
pub net_alone : (n : ℕ) (ws vs : List ℕ) → ((a b : ℤ) → Conflict (net_in n ws) a b ↔ Conflict (net_in n vs) a b) → cover_of n (conflicts_in n ws) ≡ cover_of n (conflicts_in n vs)
net_alone n ws vs h = ap (cover_of n) (λ i u w. same u w i)
  where
    one : (xs ys : List ℕ) → ((a b : ℤ) → Conflict (net_in n xs) a b → Conflict (net_in n ys) a b) → (u w : ℕ) → conflicts_in n xs u w ≡ true → conflicts_in n ys u w ≡ true
    one xs ys f u w e =
        let p = parts_of n xs u w e in
        related n ys u w p.0 p.1 (sym (ap₂ (stands n ys) (index_literal u) (index_literal w)) ∙ (f (literal u) (literal w) (conflict_at n xs u w p.0 p.1 p.2)).2)

    same : (u w : ℕ) → conflicts_in n ws u w ≡ conflicts_in n vs u w
    same u w = iff_bools _ _ (one ws vs (λ a b. (h a b).0) u w) (one vs ws (λ a b. (h a b).1) u w)

-- ---- both phases

pub phases_short : (N : ℕ) (s : Flat) (k : ℕ) → k < length (sweep told N s N 0).1 → k < length (ruled told N s).1
phases_short N s k h = omega (arith, bicliques_longer N (N * N) (sweep told N s N 0))
