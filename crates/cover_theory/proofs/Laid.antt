-- The cover as it lies in the list and in the words.
use Rattle.std.proofs.Common.{◌≡◌, ℕ, zero, suc, ◌+◌, ◌-◌, ◌*◌, ◌/◌, ◌%◌, ◌^◌, ◌<◌, ◌≤◌, Bool, true, false, cond, ◌&&◌, eqb, ltb, leb, List, [], ◌∷◌, ◌++◌, map, length, get_or, take, drop, replicate, ℤ, pos, sym, refl, ap, ◌∙◌, ap₂, ⊎_elim, append_assoc, mul_comm, mul-zero, one-add, arith}
use Rattle.std.proofs.lemmas.List.{append-nil, length-append, length-map, length-take-le, length-drop, get_or_default, get_or_append_left, get_or-append_right, get_or-drop, same_lists}
use Rattle.std.proofs.lemmas.List.FromFn.{length-map-range_with_len, get_or-map-range_with_len}
use Rattle.std.proofs.lemmas.Bool.{cases_lt, le-ltb}
use Rattle.std.proofs.lemmas.Bool.Decides.{nat_tests}
use Rattle.std.proofs.lemmas.Nat.{pow-add, div_below, mod_below, div-add-mod', mul-add-lt}
use Rattle.logic.specs.Literal.{literal}
use Rattle.network_theory.specs.Layout.{bit, row_words, words_needed}
use Rattle.cover_theory.specs.Parts.{Part, clique, biclique}
use Rattle.cover_theory.specs.Rule.{Rel, without, grown, taken, visit, visits, sweep, those, without_sides, grown_sides, gains, bicliques, ruled, also, covering, of_literals}
use Rattle.cover_theory.specs.Lies.{minus, numbers_of, numbers, word, words_holding}
use Rattle.cover_theory.specs.Rows.{stands_at, conflicts, listed, Flat, told}
use Rattle.cover_theory.proofs.Digits.{half}

-- ---- the rule makes the same of whatever the parts make

cond_lift : {A B : Type 0} (g : A → B) (b : Bool) (x y : A) → g (cond b x y) ≡ cond b (g x) (g y)
cond_lift g true x y = refl
cond_lift g false x y = refl

module _ {X Y : Type 0} (f : X → Y) (add : X → Part ℕ → X) (add' : Y → Part ℕ → Y) (law : (x : X) (P : Part ℕ) → f (add x P) ≡ add' (f x) P) (N : ℕ) where
  abbrev lift : Rel × X → Rel × Y
  lift s = (s.0, f s.1)

  taken_lift : (r : Rel) (ms : List ℕ) (x : X) → lift (taken add r ms x) ≡ taken add' r ms (f x)
  taken_lift r ms x =
      cond_lift lift (leb 6 (length ms)) (without r ms, add x (clique ms)) (r, x)
      ∙ ap (λ z. cond (leb 6 (length ms)) (without r ms, z) (r, f x)) (law x (clique ms))

  visit_lift : (s : Rel × X) (u w : ℕ) → lift (visit add N s u w) ≡ visit add' N (lift s) u w
  visit_lift s u w =
      cond_lift lift (s.0 u w) (taken add s.0 (grown N s.0 u w) s.1) s
      ∙ ap (λ z. cond (s.0 u w) z (lift s)) (taken_lift s.0 (grown N s.0 u w) s.1)

  visits_lift : (s : Rel × X) (u k w : ℕ) → lift (visits add N s u k w) ≡ visits add' N (lift s) u k w
  visits_lift s u zero w = refl
  visits_lift s u (suc k) w = visits_lift (visit add N s u w) u k (suc w) ∙ ap (λ z. visits add' N z u k (suc w)) (visit_lift s u w)

  sweep_lift : (s : Rel × X) (k u : ℕ) → lift (sweep add N s k u) ≡ sweep add' N (lift s) k u
  sweep_lift s zero u = refl
  sweep_lift s (suc k) u =
      sweep_lift (visits add N s u (N - suc u) (suc u)) k (suc u) ∙ ap (λ z. sweep add' N z k (suc u)) (visits_lift s u (N - suc u) (suc u))

  bicliques_lift : (k : ℕ) (s : Rel × X) → lift (bicliques add N k s) ≡ bicliques add' N k (lift s)
  bicliques_lift zero s = refl
  bicliques_lift (suc k) s =
      let p = grown_sides N s.0 in
      let P = biclique (those p.0 N 0) (those p.1 N 0) in
      cond_lift lift (gains N p) (bicliques add N k (without_sides s.0 p, add s.1 P)) s
      ∙ ap (λ z. cond (gains N p) z (lift s))
      (bicliques_lift k (without_sides s.0 p, add s.1 P) ∙ ap (λ z. bicliques add' N k (without_sides s.0 p, z)) (law s.1 P))

  ruled_lift : (s : Rel × X) → lift (ruled add N s) ≡ ruled add' N (lift s)
  ruled_lift s = bicliques_lift (N * N) (sweep add N s N 0) ∙ ap (bicliques add' N (N * N)) (sweep_lift s N 0)

listed_is : (P : Part ℕ) → numbers_of (of_literals P) ≡ listed P
listed_is (clique ms) = ap (λ n. pos n ∷ map literal ms) (length-map ms literal)
listed_is (biclique xs ys) = ap₂ (λ a b. minus a ∷ pos b ∷ (map literal xs ++ map literal ys)) (length-map xs literal) (length-map ys literal)

numbers_push : (Ps : List (Part ℕ)) (P : Part ℕ) → numbers (map of_literals (also Ps P)) ≡ told (numbers (map of_literals Ps)) P
numbers_push [] P = append-nil (numbers_of (of_literals P)) ∙ listed_is P
numbers_push (Q ∷ Qs) P =
    ap (λ l. numbers_of (of_literals Q) ++ l) (numbers_push Qs P) ∙ sym (append_assoc (numbers_of (of_literals Q)) (numbers (map of_literals Qs)) (listed P))

-- the rule over numbers gives the numbers of the cover
pub flat_covering : (N : ℕ) (rel : Rel) → ◌≡◌ {A = Flat} (ruled told N (rel, [])) ((covering N rel).0, numbers (map of_literals (covering N rel).1))
flat_covering N rel = sym (ruled_lift (λ Ps. numbers (map of_literals Ps)) also told numbers_push N (rel, []))

-- ---- words

word_same : (k : ℕ) (p q : ℕ → Bool) → ((j : ℕ) → j < k → p j ≡ q j) → word k p ≡ word k q
word_same zero p q h = refl
word_same (suc k) p q h = ap₂ (λ b n. cond b 1 0 + 2 * n) (h 0 (omega arith)) (word_same k (λ j. p (suc j)) (λ j. q (suc j)) (λ j l. h (suc j) (omega arith)))

low_digit : (n : ℕ) → n % 2 ≡ cond (eqb (n / 2 ^ 0 % 2) 1) 1 0
low_digit n = grind (arith, nat_tests)

-- a word is the number of its bits
pub word_bits : (k x : ℕ) → x < 2 ^ k → word k (bit x) ≡ x
word_bits zero x h = omega arith
word_bits (suc k) x h =
    let e : 2 ^ suc k ≡ 2 * 2 ^ k = ap (λ z. 2 ^ z) (sym (one-add k)) ∙ pow-add 2 1 k in
    let w : word k (λ j. bit x (suc j)) ≡ x / 2 = word_same k (λ j. bit x (suc j)) (bit (x / 2)) (λ j l. ap (λ z. eqb (z % 2) 1) (half x j)) ∙ word_bits k (x / 2) (omega arith) in
    let l = low_digit x in
    omega (arith, w, l)

module _ (n : ℕ) (rel : Rel) (ws vs : List ℕ) (room : words_needed n ≤ length ws) (same : length vs ≡ length ws)
    (fits : (i : ℕ) → get_or vs i 0 < 2 ^ 64)
    (told : (u j : ℕ) → u < 2 * n → j < 64 * row_words n → stands_at vs (row_words n) u j ≡ rel u j)
    (rest : (i : ℕ) → words_needed n ≤ i → get_or vs i 0 ≡ get_or ws i 0) where
  needed_word : (i : ℕ) → i < words_needed n → get_or vs i 0 ≡ word 64 (λ j. rel (i / row_words n) (64 * (i % row_words n) + j))
  needed_word i h =
      let pos-n : 0 < row_words n = positive n (row_words n) i h in
      let u-in : i / row_words n < 2 * n = div_below i (row_words n) (2 * n) pos-n h in
      let k-in : i % row_words n < row_words n = mod_below i (row_words n) pos-n in
      let at : i / row_words n * row_words n + i % row_words n ≡ i = div-add-mod' i (row_words n) in
      sym (word_bits 64 (get_or vs i 0) (fits i))
      ∙ word_same 64 (bit (get_or vs i 0)) (λ j. rel (i / row_words n) (64 * (i % row_words n) + j))
      (λ j l.
      ap₂ (λ x y. bit (get_or vs x 0) y)
      (sym at ∙ ap (λ z. i / row_words n * row_words n + z) (let q : i % row_words n ≡ (64 * (i % row_words n) + j) / 64 = omega arith in q))
      (let q : j ≡ (64 * (i % row_words n) + j) % 64 = omega arith in q)
      ∙ told (i / row_words n) (64 * (i % row_words n) + j) u-in (omega arith))
    where
      positive : (n r i : ℕ) → i < 2 * n * r → 0 < r
      positive n zero i h = absurd (let z = mul-zero (2 * n) in omega arith)
      positive n (suc r) i h = omega arith

  pub laid_words : vs ≡ words_holding n rel ++ drop (words_needed n) ws
  laid_words =
      let len : length (words_holding n rel) ≡ words_needed n = length-map-range_with_len (λ i. word 64 (λ j. rel (i / row_words n) (64 * (i % row_words n) + j))) 0 (words_needed n) in
      same_lists vs (words_holding n rel ++ drop (words_needed n) ws) (omega (arith, length-append (words_holding n rel) (drop (words_needed n) ws), length-drop (words_needed n) ws))
      (λ k d h. get_or_default vs k d 0 h ∙ ⊎_elim
      (λ l. needed_word k l ∙ sym (get_or_append_left (words_holding n rel) (drop (words_needed n) ws) d k (omega arith)
      ∙ get_or-map-range_with_len (λ i. word 64 (λ j. rel (i / row_words n) (64 * (i % row_words n) + j))) 0 (words_needed n) k k d l (omega arith)))
      (λ l. rest k l ∙ get_or_default ws k 0 d (omega arith)
      ∙ sym (get_or-append_right (words_holding n rel) (drop (words_needed n) ws) (words_needed n) k d len l ∙ get_or-drop (words_needed n) ws (k - words_needed n) d
      ∙ ap (λ z. get_or ws z d) (let q : words_needed n + (k - words_needed n) ≡ k = omega arith in q)))
      (cases_lt k (words_needed n)))

-- ---- the list, zero from `to` on

-- a list whose first numbers are those of the parts, with zeros after them
pub list_holds : (xs ns : List ℤ) (to : ℕ) → to ≤ length xs → take to xs ≡ ns → take to xs ++ replicate (length xs - to) (pos 0) ≡ ns ++ replicate (length xs - length ns) (pos 0)
list_holds xs ns to room e =
    ap₂ (λ l n. l ++ replicate (length xs - n) (pos 0)) e (sym (length-take-le to xs room) ∙ ap length e)

-- words that agree hold the same conflicts
pub same_conflicts : (N R : ℕ) (ws vs : List ℕ) → N ≤ 64 * R → ((i : ℕ) → i < N * R → get_or vs i 0 ≡ get_or ws i 0) → conflicts N R vs ≡ conflicts N R ws
same_conflicts N R ws vs small h = λ i u w. at u w i
  where
    at : (u w : ℕ) → conflicts N R vs u w ≡ conflicts N R ws u w
    at u w = ⊎_elim
        (λ a. ⊎_elim
        (λ b. ap (λ z. ltb u N && (ltb w N && bit z (w % 64))) (h (u * R + w / 64) (omega (arith, mul-add-lt u R (w / 64) N a (omega arith), mul_comm N R))))
        (λ b. both_far (ltb u N) (ltb w N) (stands_at vs R u w) (stands_at ws R u w) (le-ltb w N b)) (cases_lt w N))
        (λ a. both_near (ltb u N) (ltb w N && stands_at vs R u w) (ltb w N && stands_at ws R u w) (le-ltb u N a)) (cases_lt u N)
      where
        both_near : (a x y : Bool) → a ≡ false → (a && x) ≡ (a && y)
        both_near a x y e = ap (λ z. z && x) e ∙ sym (ap (λ z. z && y) e)

        both_far : (a b x y : Bool) → b ≡ false → (a && (b && x)) ≡ (a && (b && y))
        both_far a b x y e = ap (λ z. a && (z && x)) e ∙ sym (ap (λ z. a && (z && y)) e)
