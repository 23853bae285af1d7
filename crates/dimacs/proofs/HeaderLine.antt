-- The reader in the header line: it accepts just `p cnf n k` and a line feed.
use Rattle.std.proofs.Common.{◌≡◌, ℕ, zero, suc, ◌+◌, ◌-◌, ◌*◌, ◌/◌, ◌%◌, ◌^◌, ◌<◌, ◌≤◌, true, false, ◌&&◌, ltb, leb, ◌⊎◌, List, [], ◌∷◌, ◌++◌, length, get_or, ℤ, None, Err, decimal, sym, refl, ap, ◌∙◌, subst, inl, inr, append_assoc, append-nil, arith, length-append}
use Rattle.std.proofs.lemmas.List.{append_cancel_left}
use Rattle.std.proofs.lemmas.Fmt.{digits_decimal, digits_value-decimal, decimal_digit, decimal_step, decimal_nonempty}
use Rattle.std.proofs.lemmas.Bool.{true≢false, cond-true, cond-false, cases_Bool, cases_eq, cases_lt, le-leb, lt-leb, lt-ltb, le-ltb, and_parts, and_from, and_left, and_right}
use Rattle.std.proofs.lemmas.Bool.Decides.{nat_tests}
use Rattle.std.specs.Char.{is_ascii_digit}
use Rattle.std.specs.Str.{all_ascii_digits}
use Rattle.fault.specs.declared.Fault.{Fault}
use Rattle.fault.specs.declared.Layer.TheVariants.{Text}
use Rattle.fault.specs.declared.Refusal.{Refusal}
use Rattle.fault.specs.declared.Refusal.TheVariants.{MalformedHeader}
use Rattle.dimacs.specs.declared.Class.{Class}
use Rattle.dimacs.specs.declared.Machine.{Machine}
use Rattle.dimacs.specs.declared.State.{State}
use Rattle.dimacs.specs.declared.State.TheVariants.{LineStart, Keyword, Variables, BeforeClauses, Clauses}
use Rattle.dimacs.specs.Bytes.{class_of}
use Rattle.dimacs.specs.File.{header_line}
use Rattle.dimacs.specs.Steps.{Step, go, head, stop, step_of, end_of, on_keyword, on_variables, on_before_clauses, on_clauses}
use Rattle.dimacs.specs.Reading.{Reading, read_on, applied, listed_by, following, ended}
use Rattle.dimacs.proofs.Spelling.{value_on, own, value_grows, value_append, class_digit, digit_bounds, digits_rest, digits_append, led_decimal}
use Rattle.dimacs.proofs.Numbered.{machine}

-- the machine before the header is over
abbrev pub early : State → Machine
early s = record { state = s; header = None; listed = 0; closed = 0; inside = false }

abbrev pub Refused : Reading → Type 0
Refused r = (f : Fault) × (r.answer ≡ Err f)

-- the step declines
abbrev pub Stops : Step → Type 0
Stops t = (refusal : Refusal) × (place : ℕ) × (t ≡ stop refusal place)

module _ (s : State) (list : List ℤ) (at : ℕ) where
  by_step : Step → ℕ → List ℕ → Reading
  by_step t b bs = following (applied (early s) t (length list)) (listed_by (early s) t list) (λ m. read_on m (listed_by (early s) t list) (at + 1) bs)

  pub go_step : (t : State) (b : ℕ) (bs : List ℕ) → step_of false s (class_of b) at ≡ go t → read_on (early s) list at (b ∷ bs) ≡ read_on (early t) list (at + 1) bs
  unfolding by_step
  go_step t b bs e = ap (λ (x : Step). by_step x b bs) e

  pub head_step : (n k b : ℕ) (bs : List ℕ) → step_of false s (class_of b) at ≡ head n k → read_on (early s) list at (b ∷ bs) ≡ read_on (machine n k LineStart 0 0 false) list (at + 1) bs
  unfolding by_step
  head_step n k b bs e = ap (λ (x : Step). by_step x b bs) e

  pub stop_step : (b : ℕ) (bs : List ℕ) → Stops (step_of false s (class_of b) at) → Refused (read_on (early s) list at (b ∷ bs))
  unfolding by_step
  stop_step b bs e = (record { refusal = e.0; layer = Text; place = e.1 }, ap (λ (x : Step). (by_step x b bs).answer) e.2)

  pub stop_end : Stops (end_of false s at) → Refused (read_on (early s) list at [])
  stop_end e = (record { refusal = e.0; layer = Text; place = e.1 }, ap (λ (x : Step). ended (applied (early s) x (length list)) at) e.2)

-- digits up to a byte that is none
pub digits_front : (ds xs ys zs : List ℕ) (e : ℕ) → all_ascii_digits ds ≡ true → (is_ascii_digit e ≡ true → ⊥) → zs ++ e ∷ ys ≡ ds ++ xs → (more : List ℕ) × (zs ≡ ds ++ more)
digits_front [] xs ys zs e d n q = (zs, refl)
digits_front (c ∷ ds) xs ys [] e d n q = let h : c ≡ e = cc in absurd (n (subst (λ (x : ℕ). is_ascii_digit x ≡ true) h (and_parts (is_ascii_digit c) (all_ascii_digits ds) d).0))
digits_front (c ∷ ds) xs ys (a ∷ zs) e d n q =
    let h : a ≡ c = cc in
    let t : zs ++ e ∷ ys ≡ ds ++ xs = cc in
    let r = digits_front ds xs ys zs e (and_parts (is_ascii_digit c) (all_ascii_digits ds) d).1 n t in
    (r.0, ap (λ (x : ℕ). x ∷ zs) h ∙ ap (λ (x : List ℕ). c ∷ x) r.1)

pub digits_same : (ds es xs ys : List ℕ) (a b : ℕ) → all_ascii_digits ds ≡ true → all_ascii_digits es ≡ true → (is_ascii_digit a ≡ true → ⊥) → (is_ascii_digit b ≡ true → ⊥)
    → ds ++ a ∷ xs ≡ es ++ b ∷ ys → (ds ≡ es) × (a ≡ b) × (xs ≡ ys)
digits_same [] [] xs ys a b d e m n q = (refl, (cc), (cc))
digits_same [] (c ∷ es) xs ys a b d e m n q = let h : c ≡ a = cc in absurd (m (subst (λ (x : ℕ). is_ascii_digit x ≡ true) h (and_parts (is_ascii_digit c) (all_ascii_digits es) e).0))
digits_same (c ∷ ds) [] xs ys a b d e m n q = let h : c ≡ b = cc in absurd (n (subst (λ (x : ℕ). is_ascii_digit x ≡ true) h (and_parts (is_ascii_digit c) (all_ascii_digits ds) d).0))
digits_same (c ∷ ds) (g ∷ es) xs ys a b d e m n q =
    let h : c ≡ g = cc in
    let t : ds ++ a ∷ xs ≡ es ++ b ∷ ys = cc in
    let r = digits_same ds es xs ys a b (and_parts (is_ascii_digit c) (all_ascii_digits ds) d).1 (and_parts (is_ascii_digit g) (all_ascii_digits es) e).1 m n t in
    (ap (λ (x : ℕ). x ∷ ds) h ∙ ap (λ (x : List ℕ). g ∷ x) r.0, r.1, r.2)

pub decimal_digits : (n : ℕ) → n < 1_000_000_000 → all_ascii_digits (decimal n) ≡ true
decimal_digits n h = digits_decimal own n (omega arith)

-- one digit more
pub decimal_push : (v c : ℕ) → is_ascii_digit c ≡ true → 0 < v → 10 * v + (c - 48) < 1_000_000_000 → decimal (10 * v + (c - 48)) ≡ decimal v ++ c ∷ []
decimal_push v c d p h =
    let r = digit_bounds c d in
    let n : ℕ = 10 * v + (c - 48) in
    let front : n / 10 ≡ v = omega (arith, r.1) in
    let last : 48 + n % 10 ≡ c = omega (arith, r.0, r.1) in
    decimal_step n (omega arith) (omega arith) ∙ ap (λ (x : ℕ). decimal x ++ (48 + n % 10) ∷ []) front ∙ ap (λ (x : ℕ). decimal v ++ x ∷ []) last

pub decimal_first : (c : ℕ) → is_ascii_digit c ≡ true → decimal (c - 48) ≡ c ∷ []
decimal_first c d =
    let r = digit_bounds c d in
    let same : 48 + (c - 48) ≡ c = omega (arith, r.0) in
    decimal_digit (c - 48) (omega (arith, r.1)) ∙ ap (λ (x : ℕ). x ∷ []) same

-- a number of the header: the state is T before its first digit, and then S of the number so far; it is at most `limit`, and the byte e ends it
pub record Counter (T : State) (S : ℕ → State) (limit e : ℕ) : Type 0 where
  pub plain : is_ascii_digit e ≡ true → ⊥
  pub few : limit < 1_000_000_000
  pub nine : 9 ≤ limit
  pub begins : (c at : ℕ) → is_ascii_digit c ≡ true → step_of false T (class_of c) at ≡ go (S (c - 48))
  pub odd : (c at : ℕ) → (is_ascii_digit c ≡ true → ⊥) → Stops (step_of false T (class_of c) at)
  pub none : (at : ℕ) → Stops (end_of false T at)
  pub more : (v c at : ℕ) → is_ascii_digit c ≡ true → 0 < v → 10 * v + (c - 48) ≤ limit → step_of false (S v) (class_of c) at ≡ go (S (10 * v + (c - 48)))
  pub most : (v c at : ℕ) → is_ascii_digit c ≡ true → (v ≡ 0) ⊎ (limit < 10 * v + (c - 48)) → Stops (step_of false (S v) (class_of c) at)
  pub bad : (v c at : ℕ) → (is_ascii_digit c ≡ true → ⊥) → (c ≡ e → ⊥) → Stops (step_of false (S v) (class_of c) at)
  pub cut : (v at : ℕ) → Stops (end_of false (S v) at)

-- after the bytes ds of a number the bytes bs complete it, and the reader stands before e; or they do not, and it declines
pub data Counted (S : ℕ → State) (limit e : ℕ) (list : List ℤ) (ds bs : List ℕ) (r : Reading) : Type 0 where
  found : (x at : ℕ) (rest : List ℕ) → ds ++ bs ≡ decimal x ++ e ∷ rest → x ≤ limit → r ≡ read_on (early (S x)) list at (e ∷ rest) → Counted S limit e list ds bs r
  lost : Refused r → ((x : ℕ) (rest : List ℕ) → x ≤ limit → ds ++ bs ≡ decimal x ++ e ∷ rest → ⊥) → Counted S limit e list ds bs r

counted_move : {S : ℕ → State} {limit e : ℕ} {list : List ℤ} {ds bs es cs : List ℕ} {r t : Reading} → ds ++ bs ≡ es ++ cs → r ≡ t → Counted S limit e list es cs t → Counted S limit e list ds bs r
counted_move p q (found x at rest w h u) = found x at rest (p ∙ w) h (q ∙ u)
counted_move p q (lost f n) = lost (f.0, ap (λ (x : Reading). x.answer) q ∙ f.1) (λ x rest h w. n x rest h (sym p ∙ w))

module _ (T : State) (S : ℕ → State) (limit e : ℕ) (counter : Counter T S limit e) (list : List ℤ) where
  -- no number that the header may have begins with these digits
  zero_more : (b : ℕ) (bs : List ℕ) → is_ascii_digit b ≡ true → (x : ℕ) (rest : List ℕ) → x ≤ limit → decimal 0 ++ b ∷ bs ≡ decimal x ++ e ∷ rest → ⊥
  zero_more b bs d zero rest h q =
      let one : decimal 0 ≡ 48 ∷ [] = decimal_digit 0 (omega arith) in
      let t : b ∷ bs ≡ e ∷ rest = append_cancel_left (decimal 0) (b ∷ bs) (e ∷ rest) q in
      let same : b ≡ e = cc in
      counter.plain (subst (λ (x : ℕ). is_ascii_digit x ≡ true) same d)
  zero_more b bs d (suc x) rest h q =
      let one : decimal 0 ≡ 48 ∷ [] = decimal_digit 0 (omega arith) in
      let k : suc x < 1_000_000_000 = omega (arith, counter.few) in
      let r = digits_front (decimal 0) (b ∷ bs) rest (decimal (suc x)) e (decimal_digits 0 (omega arith)) counter.plain (sym q) in
      let w : decimal (suc x) ≡ 48 ∷ r.0 = r.1 ∙ ap (λ (l : List ℕ). l ++ r.0) one in
      omega (arith, (led_decimal (suc x) (omega arith) (omega arith)).leads, ap (λ (l : List ℕ). get_or l 0 0) w)

  large_more : (v b : ℕ) (bs : List ℕ) → v ≤ limit → is_ascii_digit b ≡ true → limit < 10 * v + (b - 48) → (x : ℕ) (rest : List ℕ) → x ≤ limit → decimal v ++ b ∷ bs ≡ decimal x ++ e ∷ rest → ⊥
  large_more v b bs low d over x rest h q =
      let digits : all_ascii_digits (decimal v ++ b ∷ []) ≡ true = digits_append (decimal v) (b ∷ []) (decimal_digits v (omega (arith, counter.few))) (and_from _ _ d refl) in
      let r = digits_front (decimal v ++ b ∷ []) bs rest (decimal x) e digits counter.plain (sym q ∙ sym (append_assoc (decimal v) (b ∷ []) bs)) in
      let small : x < 2 ^ 64 = omega (arith, counter.few) in
      let small-v : v < 2 ^ 64 = omega (arith, counter.few) in
      let value : x ≡ value_on (value_on 0 (decimal v ++ b ∷ [])) r.0 = sym (digits_value-decimal own x small) ∙ ap (value_on 0) r.1 ∙ value_append 0 (decimal v ++ b ∷ []) r.0 in
      let front : value_on 0 (decimal v ++ b ∷ []) ≡ 10 * v + (b - 48) = value_append 0 (decimal v) (b ∷ []) ∙ ap (λ (y : ℕ). 10 * y + (b - 48)) (digits_value-decimal own v small-v) in
      omega (arith, value, front, value_grows (value_on 0 (decimal v ++ b ∷ [])) r.0)

  run : (bs : List ℕ) (v at : ℕ) → v ≤ limit → Counted S limit e list (decimal v) bs (read_on (early (S v)) list at bs)
  run [] v at low =
      lost (stop_end (S v) list at (counter.cut v at))
      (λ x rest h q. let d : all_ascii_digits (decimal x ++ e ∷ rest) ≡ true = subst (λ (l : List ℕ). all_ascii_digits l ≡ true) (sym (append-nil (decimal v)) ∙ q) (decimal_digits v (omega (arith, counter.few))) in
      counter.plain (and_parts (is_ascii_digit e) (all_ascii_digits rest) (digits_rest (decimal x) (e ∷ rest) d)).0)
  run (b ∷ bs) v at low = by (cases_Bool (is_ascii_digit b)) (cases_lt 0 v) (cases_lt limit (10 * v + (b - 48))) (run bs (10 * v + (b - 48)) (at + 1))
    where
      plainly : is_ascii_digit b ≡ false → is_ascii_digit b ≡ true → ⊥
      plainly n d = true≢false (sym d ∙ n)

      other : (is_ascii_digit b ≡ true → ⊥) → (b ≡ e) ⊎ (b ≡ e → ⊥) → Counted S limit e list (decimal v) (b ∷ bs) (read_on (early (S v)) list at (b ∷ bs))
      other n (inl same) =
          found v at bs (ap (λ (x : ℕ). decimal v ++ x ∷ bs) same) low (ap (λ (x : ℕ). read_on (early (S v)) list at (x ∷ bs)) same)
      other n (inr differ) =
          lost (stop_step (S v) list at b bs (counter.bad v b at n differ))
          (λ x rest h q. differ (digits_same (decimal v) (decimal x) bs rest b e (decimal_digits v (omega (arith, counter.few))) (decimal_digits x (omega (arith, counter.few))) n counter.plain q).1)

      by : (is_ascii_digit b ≡ true) ⊎ (is_ascii_digit b ≡ false) → (0 < v) ⊎ (v ≤ 0) → (limit < 10 * v + (b - 48)) ⊎ (10 * v + (b - 48) ≤ limit)
          → (10 * v + (b - 48) ≤ limit → Counted S limit e list (decimal (10 * v + (b - 48))) bs (read_on (early (S (10 * v + (b - 48)))) list (at + 1) bs))
          → Counted S limit e list (decimal v) (b ∷ bs) (read_on (early (S v)) list at (b ∷ bs))
      by (inr n) z o ih = other (plainly n) (cases_eq b e)
      by (inl d) (inr z) o ih =
          let none : v ≡ 0 = omega arith in
          lost (stop_step (S v) list at b bs (counter.most v b at d (inl none)))
          (λ x rest h q. zero_more b bs d x rest h (subst (λ (y : ℕ). decimal y ++ b ∷ bs ≡ decimal x ++ e ∷ rest) none q))
      by (inl d) (inl z) (inl o) ih = lost (stop_step (S v) list at b bs (counter.most v b at d (inr o))) (large_more v b bs low d o)
      by (inl d) (inl z) (inr o) ih =
          let k : 10 * v + (b - 48) < 1_000_000_000 = omega (arith, counter.few) in
          counted_move (sym (append_assoc (decimal v) (b ∷ []) bs) ∙ ap (λ (l : List ℕ). l ++ bs) (sym (decimal_push v b d z k))) (go_step (S v) list at (S (10 * v + (b - 48))) b bs (counter.more v b at d z o)) (ih o)

  -- a decimal is not empty, and begins with a digit
  no_decimal : (b : ℕ) (bs : List ℕ) → (is_ascii_digit b ≡ true → ⊥) → (x : ℕ) (rest : List ℕ) → x ≤ limit → b ∷ bs ≡ decimal x ++ e ∷ rest → ⊥
  no_decimal b bs n x rest h q = at (decimal x) refl
    where
      at : (l : List ℕ) → decimal x ≡ l → ⊥
      at [] w = omega (arith, decimal_nonempty x (omega (arith, counter.few)), ap length w)
      at (c ∷ l) w =
          let u : b ∷ bs ≡ (c ∷ l) ++ e ∷ rest = q ∙ ap (λ (y : List ℕ). y ++ e ∷ rest) w in
          let same : c ≡ b = cc in
          let d : all_ascii_digits (c ∷ l) ≡ true = subst (λ (y : List ℕ). all_ascii_digits y ≡ true) w (decimal_digits x (omega (arith, counter.few))) in
          n (subst (λ (y : ℕ). is_ascii_digit y ≡ true) same (and_parts (is_ascii_digit c) (all_ascii_digits l) d).0)

  pub counted : (bs : List ℕ) (at : ℕ) → Counted S limit e list [] bs (read_on (early T) list at bs)
  counted [] at = lost (stop_end T list at (counter.none at)) (λ x rest h q. omega (arith, ap length q, length-append (decimal x) (e ∷ rest)))
  counted (b ∷ bs) at = by (cases_Bool (is_ascii_digit b))
    where
      by : (is_ascii_digit b ≡ true) ⊎ (is_ascii_digit b ≡ false) → Counted S limit e list [] (b ∷ bs) (read_on (early T) list at (b ∷ bs))
      by (inl d) =
          let low : b - 48 ≤ limit = omega (arith, (digit_bounds b d).1, counter.nine) in
          counted_move (ap (λ (l : List ℕ). l ++ bs) (sym (decimal_first b d))) (go_step T list at (S (b - 48)) b bs (counter.begins b at d)) (run bs (b - 48) (at + 1) low)
      by (inr n) =
          let no : is_ascii_digit b ≡ true → ⊥ = λ d. true≢false (sym d ∙ n) in
          lost (stop_step T list at b bs (counter.odd b at no)) (no_decimal b bs no)

-- each state of the header declines every byte but those that may stand there
odd_variables : (from c : ℕ) → (is_ascii_digit c ≡ true → ⊥) → on_keyword from 5 (class_of c) ≡ stop MalformedHeader from
odd_variables from c n = grind (arith, nat_tests)

odd_clauses : (from variables c : ℕ) → (is_ascii_digit c ≡ true → ⊥) → on_before_clauses from variables (class_of c) ≡ stop MalformedHeader from
odd_clauses from variables c n = grind (arith, nat_tests)

bad_variables : (from v c : ℕ) → (is_ascii_digit c ≡ true → ⊥) → (c ≡ 32 → ⊥) → on_variables from v (class_of c) ≡ stop MalformedHeader from
bad_variables from v c n d = grind (arith, nat_tests)

bad_clauses : (from variables v c : ℕ) → (is_ascii_digit c ≡ true → ⊥) → (c ≡ 10 → ⊥) → on_clauses from variables v (class_of c) ≡ stop MalformedHeader from
bad_clauses from variables v c n d = grind (arith, nat_tests)

bad_first : (from c : ℕ) → (c ≡ 32 → ⊥) → on_keyword from 0 (class_of c) ≡ stop MalformedHeader from
bad_first from c n = grind (arith, nat_tests)

bad_second : (from c : ℕ) → (c ≡ 99 → ⊥) → on_keyword from 1 (class_of c) ≡ stop MalformedHeader from
bad_second from c n = grind (arith, nat_tests)

bad_third : (from c : ℕ) → (c ≡ 110 → ⊥) → on_keyword from 2 (class_of c) ≡ stop MalformedHeader from
bad_third from c n = grind (arith, nat_tests)

bad_fourth : (from c : ℕ) → (c ≡ 102 → ⊥) → on_keyword from 3 (class_of c) ≡ stop MalformedHeader from
bad_fourth from c n = grind (arith, nat_tests)

bad_fifth : (from c : ℕ) → (c ≡ 32 → ⊥) → on_keyword from 4 (class_of c) ≡ stop MalformedHeader from
bad_fifth from c n = grind (arith, nat_tests)

variables_counter : (from : ℕ) → Counter (Keyword from 5) (λ v. Variables from v) 999_999_999 32
variables_counter from =
    record {
      plain = λ d. true≢false (sym d);
      few = omega arith;
      nine = omega arith;
      begins = λ c at d. ap (λ (k : Class). step_of false (Keyword from 5) k at) (class_digit c d);
      odd = λ c at n. (MalformedHeader, from, odd_variables from c n);
      none = λ at. (MalformedHeader, from, refl);
      more = λ v c at d p h. ap (λ (k : Class). step_of false (Variables from v) k at) (class_digit c d) ∙ cond-true _ _ _ (and_from _ _ (lt-ltb 0 v p) (lt-ltb v 100_000_000 (omega arith)));
      most = λ v c at d o. (MalformedHeader, from, ap (λ (k : Class). step_of false (Variables from v) k at) (class_digit c d) ∙ cond-false _ _ _ (full v c d o));
      bad = λ v c at n d. (MalformedHeader, from, bad_variables from v c n d);
      cut = λ v at. (MalformedHeader, from, refl);
    }
  where
    full : (v c : ℕ) → is_ascii_digit c ≡ true → (v ≡ 0) ⊎ (999_999_999 < 10 * v + (c - 48)) → (ltb 0 v && ltb v 100_000_000) ≡ false
    full v c d (inl z) = and_left _ _ (le-ltb 0 v (omega arith))
    full v c d (inr o) = and_right _ _ (le-ltb v 100_000_000 (omega (arith, (digit_bounds c d).1)))

clauses_counter : (from variables : ℕ) → Counter (BeforeClauses from variables) (λ v. Clauses from variables v) 1_000_000 10
clauses_counter from variables =
    record {
      plain = λ d. true≢false (sym d);
      few = omega arith;
      nine = omega arith;
      begins = λ c at d. ap (λ (k : Class). step_of false (BeforeClauses from variables) k at) (class_digit c d);
      odd = λ c at n. (MalformedHeader, from, odd_clauses from variables c n);
      none = λ at. (MalformedHeader, from, refl);
      more = λ v c at d p h. ap (λ (k : Class). step_of false (Clauses from variables v) k at) (class_digit c d) ∙ cond-true _ _ _ (and_from _ _ (lt-ltb 0 v p) (le-leb (10 * v + (c - 48)) 1_000_000 h));
      most = λ v c at d o. (MalformedHeader, from, ap (λ (k : Class). step_of false (Clauses from variables v) k at) (class_digit c d) ∙ cond-false _ _ _ (full v c d o));
      bad = λ v c at n d. (MalformedHeader, from, bad_clauses from variables v c n d);
      cut = λ v at. (MalformedHeader, from, refl);
    }
  where
    full : (v c : ℕ) → is_ascii_digit c ≡ true → (v ≡ 0) ⊎ (1_000_000 < 10 * v + (c - 48)) → (ltb 0 v && leb (10 * v + (c - 48)) 1_000_000) ≡ false
    full v c d (inl z) = and_left _ _ (le-ltb 0 v (omega arith))
    full v c d (inr o) = and_right _ _ (lt-leb (10 * v + (c - 48)) 1_000_000 o)

-- after the bytes q of a header line the bytes bs complete it, and the reader stands past its line feed; or they do not, and it declines
pub data Headed (list : List ℤ) (q bs : List ℕ) (r : Reading) : Type 0 where
  heads : (n k at : ℕ) (rest : List ℕ) → q ++ bs ≡ header_line n k ++ 10 ∷ rest → n < 1_000_000_000 → k ≤ 1_000_000 → r ≡ read_on (machine n k LineStart 0 0 false) list at rest → Headed list q bs r
  misses : Refused r → ((n k : ℕ) (rest : List ℕ) → n < 1_000_000_000 → k ≤ 1_000_000 → q ++ bs ≡ header_line n k ++ 10 ∷ rest → ⊥) → Headed list q bs r

refused_at : {r t : Reading} → r ≡ t → Refused t → Refused r
refused_at e f = (f.0, ap (λ (x : Reading). x.answer) e ∙ f.1)

pub headed_move : {list : List ℤ} {q bs p cs : List ℕ} {r t : Reading} → q ++ bs ≡ p ++ cs → r ≡ t → Headed list p cs t → Headed list q bs r
headed_move e u (heads n k at rest w few some v) = heads n k at rest (e ∙ w) few some (u ∙ v)
headed_move e u (misses f n) = misses (refused_at u f) (λ x k rest few some w. n x k rest few some (sym e ∙ w))

-- a header's bytes past `p cnf `
past_keyword : (n k : ℕ) (rest : List ℕ) → header_line n k ++ 10 ∷ rest ≡ 112 ∷ 32 ∷ 99 ∷ 110 ∷ 102 ∷ 32 ∷ (decimal n ++ 32 ∷ (decimal k ++ 10 ∷ rest))
past_keyword n k rest = ap (λ (l : List ℕ). 112 ∷ 32 ∷ 99 ∷ 110 ∷ 102 ∷ 32 ∷ l) (append_assoc (decimal n) (32 ∷ decimal k) (10 ∷ rest))

abbrev keyword : List ℕ
keyword = 112 ∷ 32 ∷ 99 ∷ 110 ∷ 102 ∷ 32 ∷ []

module _ (list : List ℤ) (from : ℕ) where
  numbers_headed : (bs : List ℕ) (at : ℕ) → Headed list keyword bs (read_on (early (Keyword from 5)) list at bs)
  numbers_headed bs at = first (counted _ _ _ _ (variables_counter from) list bs at)
    where
      tail : (n k : ℕ) (rest : List ℕ) → keyword ++ bs ≡ header_line n k ++ 10 ∷ rest → bs ≡ decimal n ++ 32 ∷ (decimal k ++ 10 ∷ rest)
      tail n k rest e = append_cancel_left keyword bs (decimal n ++ 32 ∷ (decimal k ++ 10 ∷ rest)) (e ∙ past_keyword n k rest)

      second : (x there : ℕ) (rest : List ℕ) → bs ≡ decimal x ++ 32 ∷ rest → x ≤ 999_999_999 → read_on (early (Keyword from 5)) list at bs ≡ read_on (early (BeforeClauses from x)) list there rest
          → Counted (λ v. Clauses from x v) 1_000_000 10 list [] rest (read_on (early (BeforeClauses from x)) list there rest) → Headed list keyword bs (read_on (early (Keyword from 5)) list at bs)
      second x there rest w h u (found y far more v g t) =
          heads x y (far + 1) more (ap (λ (l : List ℕ). keyword ++ l) (w ∙ ap (λ (l : List ℕ). decimal x ++ 32 ∷ l) v) ∙ sym (past_keyword x y more)) (omega arith) g
          (u ∙ t ∙ head_step (Clauses from x y) list far x y 10 more refl)
      second x there rest w h u (lost f never) =
          misses (refused_at u f)
          (λ n k more few some e. never k more some (digits_same (decimal x) (decimal n) rest (decimal k ++ 10 ∷ more) 32 32 (decimal_digits x (omega arith)) (decimal_digits n few) (λ d. true≢false (sym d)) (λ d. true≢false (sym d)) (sym w ∙ tail n k more e)).2)

      first : Counted (λ v. Variables from v) 999_999_999 32 list [] bs (read_on (early (Keyword from 5)) list at bs) → Headed list keyword bs (read_on (early (Keyword from 5)) list at bs)
      first (found x there rest w h u) =
          second x (there + 1) rest w h (u ∙ go_step (Variables from x) list there (BeforeClauses from x) 32 rest refl) (counted _ _ _ _ (clauses_counter from x) list rest (there + 1))
      first (lost f never) = misses f (λ n k rest few some e. never n (decimal k ++ 10 ∷ rest) (omega arith) (tail n k rest e))

  -- one byte of `p cnf `
  expect : (s t : State) (q : List ℕ) (x : ℕ) → ((at : ℕ) → step_of false s (class_of x) at ≡ go t) → ((b at : ℕ) → (b ≡ x → ⊥) → Stops (step_of false s (class_of b) at)) → ((at : ℕ) → Stops (end_of false s at))
      → (tail : ℕ → ℕ → List ℕ → List ℕ) → ((n k : ℕ) (rest : List ℕ) → header_line n k ++ 10 ∷ rest ≡ q ++ x ∷ tail n k rest)
      → ((bs : List ℕ) (at : ℕ) → Headed list (q ++ x ∷ []) bs (read_on (early t) list at bs))
      → (bs : List ℕ) (at : ℕ) → Headed list q bs (read_on (early s) list at bs)
  expect s t q x right wrong cut tail shape later [] at =
      misses (stop_end s list at (cut at)) (λ n k rest few some e. let h : [] ≡ x ∷ tail n k rest = append_cancel_left q [] (x ∷ tail n k rest) (e ∙ shape n k rest) in omega (arith, ap length h))
  expect s t q x right wrong cut tail shape later (b ∷ bs) at = by (cases_eq b x)
    where
      by : (b ≡ x) ⊎ (b ≡ x → ⊥) → Headed list q (b ∷ bs) (read_on (early s) list at (b ∷ bs))
      by (inl same) =
          headed_move (ap (λ (y : ℕ). q ++ y ∷ bs) same ∙ sym (append_assoc q (x ∷ []) bs))
          (ap (λ (y : ℕ). read_on (early s) list at (y ∷ bs)) same ∙ go_step s list at t x bs (right at)) (later bs (at + 1))
      by (inr differ) =
          misses (stop_step s list at b bs (wrong b at differ))
          (λ n k rest few some e. let h : b ∷ bs ≡ x ∷ tail n k rest = append_cancel_left q (b ∷ bs) (x ∷ tail n k rest) (e ∙ shape n k rest) in differ (cc))

  -- past the `p` of a line's start
  pub header_decided : (bs : List ℕ) (at : ℕ) → Headed list (112 ∷ []) bs (read_on (early (Keyword from 0)) list at bs)
  header_decided =
      expect (Keyword from 0) (Keyword from 1) (112 ∷ []) 32 (λ at. refl) (λ b at n. (MalformedHeader, from, bad_first from b n)) (λ at. (MalformedHeader, from, refl)) _ (λ n k rest. refl)
      (expect (Keyword from 1) (Keyword from 2) (112 ∷ 32 ∷ []) 99 (λ at. refl) (λ b at n. (MalformedHeader, from, bad_second from b n)) (λ at. (MalformedHeader, from, refl)) _ (λ n k rest. refl)
      (expect (Keyword from 2) (Keyword from 3) (112 ∷ 32 ∷ 99 ∷ []) 110 (λ at. refl) (λ b at n. (MalformedHeader, from, bad_third from b n)) (λ at. (MalformedHeader, from, refl)) _ (λ n k rest. refl)
      (expect (Keyword from 3) (Keyword from 4) (112 ∷ 32 ∷ 99 ∷ 110 ∷ []) 102 (λ at. refl) (λ b at n. (MalformedHeader, from, bad_fourth from b n)) (λ at. (MalformedHeader, from, refl)) _ (λ n k rest. refl)
      (expect (Keyword from 4) (Keyword from 5) (112 ∷ 32 ∷ 99 ∷ 110 ∷ 102 ∷ []) 32 (λ at. refl) (λ b at n. (MalformedHeader, from, bad_fifth from b n)) (λ at. (MalformedHeader, from, refl)) _ (λ n k rest. refl)
      numbers_headed))))
