-- A row out of which bits are taken, in the words of all rows.
use Rattle.std.proofs.Common.{◌≡◌, ℕ, ◌+◌, ◌-◌, ◌*◌, ◌<◌, ◌≤◌, Bool, true, false, not, ◌&&◌, ◌||◌, eqb, ltb, List, ◌++◌, length, get_or, take, drop, set, ◌≢◌, sym, refl, ap, ◌∙◌, subst, ⊎_elim, arith, get_or-set_other, get_or-set_same}
use lib.Bits.{bit_and, bit_xor}
use borrow.Rule.Slice.PartMut.{put_mid}
use Rattle.std.proofs.lemmas.List.{length-append, length-drop, length-take-le, get_or-drop, get_or-take, get_or_append_left, get_or-append_right}
use Rattle.std.proofs.lemmas.Bool.{cases_lt, cases_eq, le-ltb, and_left, false≢true}
use Rattle.std.proofs.lemmas.Bool.Decides.{nat_tests}
use Rattle.network_theory.specs.Layout.{bit}
use Rattle.cover_theory.specs.Rule.{Rel, among, without, without_sides}
use Rattle.cover_theory.specs.Rows.{marked, stands_at, conflicts, Fit, held}
use Rattle.cover_theory.proofs.Digits.{less_bit}
use Rattle.cover_theory.proofs.Starts.{row_in}
use Rattle.cover_theory.proofs.Removes.{erased}

-- ---- the words of a row, one after another

module _ (initial row mask : List ℕ) (i : ℕ) (h : i < length row)
    (done : (k j : ℕ) → k < i → bit (get_or row k 0) j ≡ (bit (get_or initial k 0) j && not (bit (get_or mask k 0) j)))
    (left : (k : ℕ) → i ≤ k → get_or row k 0 ≡ get_or initial k 0) where
  abbrev next : List ℕ
  next = set row i (bit_xor (get_or row i 0) (bit_and (get_or row i 0) (get_or mask i 0)))

  pub cleared_more : ((k j : ℕ) → k < i + 1 → bit (get_or next k 0) j ≡ (bit (get_or initial k 0) j && not (bit (get_or mask k 0) j)))
      × ((k : ℕ) → i + 1 ≤ k → get_or next k 0 ≡ get_or initial k 0)
  cleared_more = (
    (λ k j l. ⊎_elim
        (λ e. subst (λ z. bit (get_or next z 0) j ≡ (bit (get_or initial z 0) j && not (bit (get_or mask z 0) j))) (sym e)
        (ap (λ z. bit z j) (get_or-set_same row i _ 0 h) ∙ less_bit (get_or row i 0) (get_or mask i 0) j
        ∙ ap (λ z. bit z j && not (bit (get_or mask i 0) j)) (left i (omega arith))))
        (λ n. let ne : k ≢ i = n in ap (λ z. bit z j) (get_or-set_other row i k _ 0 ne) ∙ done k j (omega arith))
        (cases_eq k i)),
    (λ k l. let ne : k ≢ i = omega arith in get_or-set_other row i k _ 0 ne ∙ left k (omega arith)),
  )

-- ---- from the bits of the words to conflicts

module _ (N R : ℕ) (ws vs : List ℕ) (small : N ≤ 64 * R) (taken : ℕ → ℕ → Bool)
    (stands : (a b : ℕ) → b < 64 * R → stands_at vs R a b ≡ (stands_at ws R a b && not (taken a b))) where
  out : (a b s t : Bool) → (a && (b && (s && t))) ≡ ((a && (b && s)) && t)
  out true true s t = refl
  out true false s t = refl
  out false b s t = refl

  none : (a b x y t : Bool) → b ≡ false → (a && (b && x)) ≡ ((a && (b && y)) && t)
  none true true x y t e = absurd (false≢true (sym e))
  none true false x y t e = refl
  none false b x y t e = refl

  pub conflicts_less : (a b : ℕ) → conflicts N R vs a b ≡ (conflicts N R ws a b && not (taken a b))
  conflicts_less a b =
      ⊎_elim (λ h. ap (λ z. ltb a N && (ltb b N && z)) (stands a b (omega arith)) ∙ out (ltb a N) (ltb b N) (stands_at ws R a b) (not (taken a b)))
      (λ h. none (ltb a N) (ltb b N) (stands_at vs R a b) (stands_at ws R a b) (not (taken a b)) (le-ltb b N h)) (cases_lt b N)

-- ---- one row in the words of all

module _ (N R c k : ℕ) (ws row mask : List ℕ) (fit : Fit N R ws) (whole : length ws ≡ N * R) (hc : c < N) (k-is : k ≡ R) (long : length row ≡ k)
    (cleared : (i j : ℕ) → i < length (take k (drop (c * R) ws)) → bit (get_or row i 0) j ≡ (bit (get_or (take k (drop (c * R) ws)) i 0) j && not (bit (get_or mask i 0) j))) where
  abbrev vs : List ℕ
  vs = put_mid (c * R) k ws row

  within : c * R + R ≤ length ws
  within = row_in N R c (length ws) hc (omega (arith, whole))

  front : length (take (c * R) ws) ≡ c * R
  front = length-take-le (c * R) ws (omega (arith, within))

  part : length (take k (drop (c * R) ws)) ≡ k
  part = length-take-le k (drop (c * R) ws) (omega (arith, within, length-drop (c * R) ws))

  before : (i : ℕ) → i < c * R → get_or vs i 0 ≡ get_or ws i 0
  before i h = get_or_append_left (take (c * R) ws) _ 0 i (omega (arith, front)) ∙ get_or-take (c * R) ws i 0 h

  inside : (i j : ℕ) → i < R → bit (get_or vs (c * R + i) 0) j ≡ (bit (get_or ws (c * R + i) 0) j && not (bit (get_or mask i 0) j))
  inside i j h =
      ap (λ z. bit z j) (get_or-append_right (take (c * R) ws) _ (c * R) (c * R + i) 0 front (omega arith)
      ∙ ap (λ z. get_or (row ++ drop k (drop (c * R) ws)) z 0) (let q : c * R + i - c * R ≡ i = omega arith in q)
      ∙ get_or_append_left row _ 0 i (omega arith))
      ∙ cleared i j (omega (arith, part))
      ∙ ap (λ z. bit z j && not (bit (get_or mask i 0) j)) (get_or-take k (drop (c * R) ws) i 0 (omega arith) ∙ get_or-drop (c * R) ws i 0)

  after : (i : ℕ) → c * R + R ≤ i → get_or vs i 0 ≡ get_or ws i 0
  after i h =
      get_or-append_right (take (c * R) ws) _ (c * R) i 0 front (omega arith)
      ∙ get_or-append_right row _ k (i - c * R) 0 long (omega arith)
      ∙ get_or-drop k (drop (c * R) ws) (i - c * R - k) 0 ∙ get_or-drop (c * R) ws (k + (i - c * R - k)) 0
      ∙ ap (λ z. get_or ws z 0) (let q : c * R + (k + (i - c * R - k)) ≡ i = omega arith in q)

  pub same_length : length vs ≡ length ws
  same_length =
      omega (
        arith,
        within,
        front,
        length-append (take (c * R) ws) (row ++ drop k (drop (c * R) ws)),
        length-append row (drop k (drop (c * R) ws)),
        length-drop k (drop (c * R) ws),
        length-drop (c * R) ws,
      )

  stands : (u j : ℕ) → j < 64 * R → stands_at vs R u j ≡ (stands_at ws R u j && not (eqb c u && marked mask j))
  stands = erased ws vs mask N R c inside before after

  pub still_fit : Fit N R vs
  still_fit = record {
    tidy = λ a j p q r. stands a j r ∙ and_left (stands_at ws R a j) _ (fit.tidy a j p q r);
    loose = λ a p. let small = fit.small in stands a a (omega arith) ∙ and_left (stands_at ws R a a) _ (fit.loose a p);
    small = fit.small;
    few = fit.few;
    room = omega (arith, same_length, fit.room);
  }

  pub gone : (a b : ℕ) → conflicts N R vs a b ≡ (conflicts N R ws a b && not (eqb c a && marked mask b))
  gone = conflicts_less N R ws vs fit.small (λ a b. eqb c a && marked mask b) stands

-- ---- the conflicts within a clique, and between two sides

pub clique_left : (N R : ℕ) (ws mask ms : List ℕ) (rel : Rel) → N ≤ 64 * R → ((j : ℕ) → j < 64 * R → marked mask j ≡ among ms j)
    → ((a b : ℕ) → rel a b ≡ (conflicts N R ws a b && not (among ms a && marked mask b))) → rel ≡ without (conflicts N R ws) ms
clique_left N R ws mask ms rel small painted gone = λ i a b. at a b i
  where
    far : (a b s t v : Bool) → b ≡ false → ((a && (b && s)) && t) ≡ ((a && (b && s)) && v)
    far true true s t v e = absurd (false≢true (sym e))
    far true false s t v e = refl
    far false b s t v e = refl

    at : (a b : ℕ) → rel a b ≡ without (conflicts N R ws) ms a b
    at a b =
        gone a b ∙ ⊎_elim (λ h. ap (λ z. conflicts N R ws a b && not (among ms a && z)) (painted b (omega arith)))
        (λ h. far (ltb a N) (ltb b N) (stands_at ws R a b) (not (among ms a && marked mask b)) (not (among ms a && among ms b)) (le-ltb b N h)) (cases_lt b N)

-- u's row after those before it
pub erased_more : (u a : ℕ) (s₀ s₁ s₂ s₃ p q r t : Bool) → s₁ ≡ (s₀ && not (ltb a u && ((p && q) || (r && t)))) → s₂ ≡ (s₁ && not (eqb u a && (p && q))) → s₃ ≡ (s₂ && not (eqb u a && (r && t)))
    → s₃ ≡ (s₀ && not (ltb a (u + 1) && ((p && q) || (r && t))))
erased_more u a s₀ s₁ s₂ s₃ p q r t e f g =
    let one : ltb a (u + 1) ≡ (ltb a u || eqb u a) = grind (arith, nat_tests) in
    g ∙ ap (λ z. z && not (eqb u a && (r && t))) (f ∙ ap (λ z. z && not (eqb u a && (p && q))) e)
    ∙ both s₀ (ltb a u) (eqb u a) (p && q) (r && t) ∙ ap (λ z. s₀ && not (z && ((p && q) || (r && t)))) (sym one)
  where
    both : (s l n x y : Bool) → (((s && not (l && (x || y))) && not (n && x)) && not (n && y)) ≡ (s && not ((l || n) && (x || y)))
    both false l n x y = refl
    both true true true true y = refl
    both true true true false true = refl
    both true true true false false = refl
    both true true false true y = refl
    both true true false false true = refl
    both true true false false false = refl
    both true false true true y = refl
    both true false true false true = refl
    both true false true false false = refl
    both true false false x y = refl

pub sides_left : (N R : ℕ) (ws A B : List ℕ) (rel : Rel) → ((a b : ℕ) → rel a b ≡ (conflicts N R ws a b && not (ltb a N && ((marked A a && marked B b) || (marked B a && marked A b)))))
    → rel ≡ without_sides (conflicts N R ws) (held N A, held N B)
sides_left N R ws A B rel gone = λ i a b. (gone a b ∙ inner (ltb a N) (ltb b N) (stands_at ws R a b) (marked A a) (marked B b) (marked B a) (marked A b)) i
  where
    inner : (l m s p q r t : Bool) → ((l && (m && s)) && not (l && ((p && q) || (r && t)))) ≡ ((l && (m && s)) && not (((l && p) && (m && q)) || ((l && r) && (m && t))))
    inner true true s p q r t = refl
    inner true false s p q r t = refl
    inner false m s p q r t = refl
