use Rattle.std.proofs.Common.{◌≡◌, ℕ, zero, suc, ◌+◌, ◌-◌, ◌*◌, ◌/◌, ◌<◌, ◌≤◌, Bool, true, false, ◌&&◌, ltb, leb, List, [], ◌∷◌, ◌++◌, length, sym, refl, ap, ◌∙◌, subst, ap₂, ⊎_elim, add-one, arith}
use Rattle.std.proofs.lemmas.Bool.{cases_lt, le-leb, lt-leb, leb-true, lt-ltb, le-ltb, cases_order, and_parts, and_left, and_right, and_from, false≢true, cond-true, cond-false}
use Rattle.cover_theory.specs.Rule.{Rel, clashes, joins, grow}
use Rattle.cover_theory.specs.Rows.{marked, stands_at, conflicts, Tidy, Loose, Bare, Lowest, Masks}

-- ---- the recursion, over any relation

pub grow_skip : (rel : Rel) (ms : List ℕ) (d k c : ℕ) → ((j : ℕ) → c ≤ j → j < c + d → joins rel ms j ≡ false) → grow rel ms (d + k) c ≡ grow rel ms k (c + d)
grow_skip rel ms zero k c h = ap₂ (λ x y. grow rel ms x y) (let e : 0 + k ≡ k = omega arith in e) (let e : c ≡ c + 0 = omega arith in e)
grow_skip rel ms (suc d) k c h =
    ap (λ x. grow rel ms x c) (let e : suc d + k ≡ suc (d + k) = omega arith in e)
    ∙ ap (λ x. grow rel x (d + k) (suc c)) (cond-false (joins rel ms c) (ms ++ c ∷ []) ms (h c (omega arith) (omega arith)))
    ∙ grow_skip rel ms d k (suc c) (λ j p q. h j (omega arith) (omega arith))
    ∙ ap (λ x. grow rel ms k x) (let e : suc c + d ≡ c + suc d = omega arith in e)

-- no literal of from..to joins
pub grow_past : (rel : Rel) (ms : List ℕ) (N from to : ℕ) → from ≤ to → to ≤ N → ((j : ℕ) → from ≤ j → j < to → joins rel ms j ≡ false)
    → grow rel ms (N - from) from ≡ grow rel ms (N - to) to
grow_past rel ms N from to h h' none =
    ap (λ x. grow rel ms x from) (let e : N - from ≡ (to - from) + (N - to) = omega arith in e)
    ∙ grow_skip rel ms (to - from) (N - to) from (λ j p q. none j p (omega arith))
    ∙ ap (λ x. grow rel ms (N - to) x) (let e : from + (to - from) ≡ to = omega arith in e)

pub grow_none : (rel : Rel) (ms : List ℕ) (N from : ℕ) → from ≤ N → ((j : ℕ) → from ≤ j → j < N → joins rel ms j ≡ false) → grow rel ms (N - from) from ≡ ms
grow_none rel ms N from h none =
    grow_past rel ms N from N h (omega arith) none ∙ ap (λ x. grow rel ms x N) (let e : N - N ≡ 0 = omega arith in e)

pub grow_take : (rel : Rel) (ms : List ℕ) (N c : ℕ) → c < N → joins rel ms c ≡ true → grow rel ms (N - c) c ≡ grow rel (ms ++ c ∷ []) (N - (c + 1)) (c + 1)
grow_take rel ms N c h j =
    ap (λ x. grow rel ms x c) (let e : N - c ≡ suc (N - (c + 1)) = omega arith in e)
    ∙ ap (λ x. grow rel x (N - (c + 1)) (suc c)) (cond-true (joins rel ms c) (ms ++ c ∷ []) ms j)
    ∙ ap (λ x. grow rel (ms ++ c ∷ []) (N - (c + 1)) x) (sym (add-one c))

and_assoc : (a b c : Bool) → ((a && b) && c) ≡ (a && (b && c))
and_assoc true b c = refl
and_assoc false b c = refl

and_true : (a : Bool) → (a && true) ≡ a
and_true true = refl
and_true false = refl

pub clashes_push : (rel : Rel) (ms : List ℕ) (c j : ℕ) → clashes rel (ms ++ c ∷ []) j ≡ (clashes rel ms j && rel c j)
clashes_push rel [] c j = and_true (rel c j)
clashes_push rel (m ∷ ms) c j = ap (λ b. rel m j && b) (clashes_push rel ms c j) ∙ sym (and_assoc (rel m j) (clashes rel ms j) (rel c j))

-- ---- with a mask

and_swap3 : (a b c : Bool) → a ≡ true → b ≡ true → c ≡ (a && (b && c))
and_swap3 true true c p q = refl
and_swap3 true false c p q = absurd (false≢true q)
and_swap3 false b c p q = absurd (false≢true p)

and_mid : (a b c : Bool) → b ≡ false → false ≡ (a && (b && c))
and_mid true false c q = refl
and_mid true true c q = absurd (false≢true (sym q))
and_mid false b c q = refl

-- the words' relation is false past N
module _ (N R : ℕ) (ws : List ℕ) (tidy : Tidy N R ws) (small : N ≤ 64 * R) where
  pub agree : (u j : ℕ) → u < N → j < 64 * R → stands_at ws R u j ≡ conflicts N R ws u j
  agree u j hu hj =
      ⊎_elim (λ h. and_swap3 (ltb u N) (ltb j N) (stands_at ws R u j) (lt-ltb u N hu) (lt-ltb j N h))
      (λ h. tidy u j hu h hj ∙ and_mid (ltb u N) (ltb j N) (stands_at ws R u j) (le-ltb j N h)) (cases_lt j N)

  pub past : (u j : ℕ) → N ≤ j → conflicts N R ws u j ≡ false
  past u j h = sym (and_mid (ltb u N) (ltb j N) (stands_at ws R u j) (le-ltb j N h))

-- a clique, and the mask of those that may join it
module _ (N R : ℕ) (ws : List ℕ) (tidy : Tidy N R ws) (loose : Loose N R ws) (small : N ≤ 64 * R) (ms : List ℕ) (mask : List ℕ) (from : ℕ)
    (ends : (j : ℕ) → N ≤ j → clashes (conflicts N R ws) ms j ≡ false) (masks : Masks (conflicts N R ws) R mask from ms) where
  abbrev rel : Rel
  rel = conflicts N R ws

  bare_none : (to : ℕ) → to ≤ 64 * R → Bare mask (from / 64) to → (j : ℕ) → from ≤ j → j < to → joins rel ms j ≡ false
  bare_none to ht bare j p q =
      and_left (clashes rel ms j) _
      (let e = masks j (omega arith) (omega arith) in let f = bare j (omega arith) q in
      ap (λ b. b && clashes rel ms j) (sym (le-leb from j p)) ∙ sym e ∙ f)

  -- the mask is empty
  pub stop_bare : from ≤ N → Bare mask (from / 64) (64 * R) → grow rel ms (N - from) from ≡ ms
  stop_bare h bare = grow_none rel ms N from h (λ j p q. bare_none (64 * R) (omega arith) bare j p (omega arith))

  module _ (c : ℕ) (low : Lowest mask (from / 64) R c) where
    parts : (leb from c ≡ true) × (clashes rel ms c ≡ true)
    parts = and_parts (leb from c) (clashes rel ms c) (sym (masks c low.low low.high) ∙ low.here)

    pub from_le : from ≤ c
    from_le = leb-true from c parts.0

    pub c_lt : c < N
    c_lt =
        ⊎_elim (λ h. h) (λ h. absurd (false≢true (sym (ends c h) ∙ parts.1))) (cases_lt c N)

    pub go_on : length ms < 256 → grow rel ms (N - from) from ≡ grow rel (ms ++ c ∷ []) (N - (c + 1)) (c + 1)
    go_on full =
        let l = from_le in let h = c_lt in
        grow_past rel ms N from c l (omega arith) (bare_none c (omega (arith, low.high)) low.before)
        ∙ grow_take rel ms N c h (and_from (clashes rel ms c) _ parts.1 (lt-ltb (length ms) 256 full))

    pub ends_on : (j : ℕ) → N ≤ j → clashes rel (ms ++ c ∷ []) j ≡ false
    ends_on j h = clashes_push rel ms c j ∙ and_left (clashes rel ms j) (rel c j) (ends j h)

    pub masks_on : (mask' : List ℕ) → ((j : ℕ) → 64 * (c / 64) ≤ j → j < 64 * R → marked mask' j ≡ (marked mask j && stands_at ws R c j))
        → Masks rel R mask' (c + 1) (ms ++ c ∷ [])
    masks_on mask' met j p q =
        let l = from_le in let h = c_lt in
        met j (omega arith) q ∙
        ⊎_elim (λ e.
        let z : stands_at ws R c j ≡ false = subst (λ y. stands_at ws R c y ≡ false) e (loose c h) in
        and_right (marked mask j) _ z ∙ sym (and_left (leb (c + 1) j) _ (lt-leb (c + 1) j (omega arith))))
        (⊎_elim (λ e.
        ap (λ b. b && stands_at ws R c j) (masks j (omega arith) q ∙ ap (λ b. b && clashes rel ms j) (le-leb from j (omega arith)))
        ∙ ap (λ b. clashes rel ms j && b) (agree N R ws tidy small c j h q) ∙ sym (clashes_push rel ms c j)
        ∙ ap (λ b. b && clashes rel (ms ++ c ∷ []) j) (sym (le-leb (c + 1) j (omega arith))))
        (λ e.
        and_left (marked mask j) _ (low.before j (omega arith) e) ∙ sym (and_left (leb (c + 1) j) _ (lt-leb (c + 1) j (omega arith)))))
        (cases_order c j)

pub grow_full : (rel : Rel) (ms : List ℕ) (N from : ℕ) → from ≤ N → 256 ≤ length ms → grow rel ms (N - from) from ≡ ms
grow_full rel ms N from h full = grow_none rel ms N from h (λ j p q. and_right (clashes rel ms j) _ (le-ltb (length ms) 256 full))
