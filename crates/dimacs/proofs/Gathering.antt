-- Numbers and the clauses that they are of.
use Rattle.std.proofs.Common.{◌≡◌, ℕ, suc, ◌+◌, ◌-◌, ◌<◌, ◌≤◌, Bool, true, false, not, ltb, List, [], ◌∷◌, ◌++◌, map, length, get_or, take, drop, set, ℤ, pos, negsuc, nat_abs, sym, refl, ap, ◌∙◌, subst, append_assoc, zero-add, arith, length-set, take-append-drop}
use Rattle.std.proofs.lemmas.List.{take_more_set, drop-set-lt}
use Rattle.std.proofs.lemmas.Bool.{true≢false, cond-true, cond-false, le-ltb, or_from, ne_eqb, eqb-true, eqb-false}
use Rattle.std.specs.Fmt.{signed_decimal}
use Rattle.dimacs.specs.Clauses.{numbers, LiteralsOf, ClausesOf, closes, closings, unclosed, exceeds}
use Rattle.dimacs.proofs.Spelling.{same_signed}
use Rattle.dimacs.proofs.Numbered.{ends_inside, put_all, within_first}

-- ---- from clauses to numbers

clause_within : (n : ℕ) (c rest : List ℤ) → LiteralsOf n c → exceeds n rest ≡ false → exceeds n (c ++ pos 0 ∷ rest) ≡ false
clause_within n [] rest l h = or_from (ltb n 0) (exceeds n rest) (le-ltb n 0 (omega arith)) h
clause_within n (a ∷ c) rest l h = or_from (ltb n (nat_abs a)) (exceeds n (c ++ pos 0 ∷ rest)) (le-ltb n (nat_abs a) l.0.1) (clause_within n c rest l.1 h)

pub numbers_within : (n : ℕ) (cs : List (List ℤ)) → ClausesOf n cs → exceeds n (numbers cs) ≡ false
numbers_within n [] h = refl
numbers_within n (c ∷ cs) h = clause_within n c (numbers cs) h.0 (numbers_within n cs h.1)

clause_over : (inside : Bool) (c rest : List ℤ) → ends_inside inside (c ++ pos 0 ∷ rest) ≡ ends_inside false rest
clause_over inside [] rest = refl
clause_over inside (a ∷ c) rest = clause_over (not (closes a)) c rest

pub numbers_over : (cs : List (List ℤ)) → ends_inside false (numbers cs) ≡ false
numbers_over [] = refl
numbers_over (c ∷ cs) = clause_over false c (numbers cs) ∙ numbers_over cs

clause_count : (n : ℕ) (c rest : List ℤ) → LiteralsOf n c → closings (c ++ pos 0 ∷ rest) ≡ suc (closings rest)
clause_count n [] rest l = omega arith
clause_count n (a ∷ c) rest l =
    let some : 1 ≤ nat_abs a = l.0.0 in
    ap (λ (k : ℕ). k + closings (c ++ pos 0 ∷ rest)) (cond-false (closes a) 1 0 (ne_eqb (nat_abs a) 0 (λ e. omega arith))) ∙ zero-add (closings (c ++ pos 0 ∷ rest)) ∙ clause_count n c rest l.1

pub numbers_count : (n : ℕ) (cs : List (List ℤ)) → ClausesOf n cs → closings (numbers cs) ≡ length cs
numbers_count n [] h = refl
numbers_count n (c ∷ cs) h = clause_count n c (numbers cs) h.0 ∙ ap suc (numbers_count n cs h.1)

clause_same : (n m : ℕ) (c d rest more : List ℤ) → LiteralsOf n c → LiteralsOf m d → c ++ pos 0 ∷ rest ≡ d ++ pos 0 ∷ more → (c ≡ d) × (rest ≡ more)
clause_same n m [] [] rest more l k e = (refl, (cc))
clause_same n m [] (b ∷ d) rest more l k e = let h : b ≡ pos 0 = cc in absurd (omega (arith, k.0.0, ap nat_abs h))
clause_same n m (a ∷ c) [] rest more l k e = let h : a ≡ pos 0 = cc in absurd (omega (arith, l.0.0, ap nat_abs h))
clause_same n m (a ∷ c) (b ∷ d) rest more l k e =
    let here : a ≡ b = cc in
    let there : c ++ pos 0 ∷ rest ≡ d ++ pos 0 ∷ more = cc in
    let r = clause_same n m c d rest more l.1 k.1 there in
    (ap (λ (x : ℤ). x ∷ c) here ∙ ap (λ (x : List ℤ). b ∷ x) r.0, r.1)

numbers_some : (c : List ℤ) (cs : List (List ℤ)) → [] ≡ numbers (c ∷ cs) → ⊥
numbers_some [] cs e = omega (arith, ap length e)
numbers_some (a ∷ c) cs e = omega (arith, ap length e)

-- the numbers tell the clauses
pub clauses_same : (n m : ℕ) (cs ds : List (List ℤ)) → ClausesOf n cs → ClausesOf m ds → numbers cs ≡ numbers ds → cs ≡ ds
clauses_same n m [] [] l k e = refl
clauses_same n m [] (d ∷ ds) l k e = absurd (numbers_some d ds e)
clauses_same n m (c ∷ cs) [] l k e = absurd (numbers_some c cs (sym e))
clauses_same n m (c ∷ cs) (d ∷ ds) l k e =
    let r = clause_same n m c d (numbers cs) (numbers ds) l.0 k.0 e in
    ap (λ (x : List ℤ). x ∷ cs) r.0 ∙ ap (λ (x : List (List ℤ)). d ∷ x) (clauses_same n m cs ds l.1 k.1 r.1)

-- ---- from numbers to clauses

-- clauses that these numbers are of, the first of them already begun if the numbers are read inside one
pub record Gathered (n : ℕ) (zs : List ℤ) (inside : Bool) : Type 0 where
  pub clauses : List (List ℤ)
  pub same : numbers clauses ≡ zs
  pub literals : ClausesOf n clauses
  pub count : length clauses ≡ closings zs
  pub begun : inside ≡ true → 0 < length clauses

zero_closes : (z : ℤ) → closes z ≡ true → z ≡ pos 0
zero_closes (pos k) h = ap pos (eqb-true k 0 h)
zero_closes (negsuc k) h = absurd (omega (arith, eqb-true (suc k) 0 h))

close : (n : ℕ) (z : ℤ) (zs : List ℤ) (inside : Bool) → closes z ≡ true → Gathered n zs false → Gathered n (z ∷ zs) inside
close n z zs inside h g =
    record {
      clauses = [] ∷ g.clauses;
      same = ap (λ (x : List ℤ). pos 0 ∷ x) g.same ∙ ap (λ (x : ℤ). x ∷ zs) (sym (zero_closes z h));
      literals = (tt, g.literals);
      count = ap suc g.count ∙ (omega (arith, cond-true {A = ℕ} (closes z) 1 0 h));
      begun = λ e. omega arith;
    }

extend : (n : ℕ) (z : ℤ) (zs : List ℤ) (inside : Bool) → closes z ≡ false → nat_abs z ≤ n → Gathered n zs true → Gathered n (z ∷ zs) inside
extend n z zs inside h low g = by g.clauses g.same g.literals g.count (g.begun refl)
  where
    by : (cs : List (List ℤ)) → numbers cs ≡ zs → ClausesOf n cs → length cs ≡ closings zs → 0 < length cs → Gathered n (z ∷ zs) inside
    by [] e l k b = absurd (omega arith)
    by (c ∷ cs) e l k b =
        let some : nat_abs z ≡ 0 → ⊥ = eqb-false (nat_abs z) 0 h in
        record {
          clauses = (z ∷ c) ∷ cs;
          same = ap (λ (x : List ℤ). z ∷ x) e;
          literals = (((omega arith, low), l.0), l.1);
          count = k ∙ omega (arith, cond-false {A = ℕ} (closes z) 1 0 h);
          begun = λ q. omega arith;
        }

pub gather : (n : ℕ) (zs : List ℤ) (inside : Bool) → exceeds n zs ≡ false → ends_inside inside zs ≡ false → Gathered n zs inside
gather n [] true w o = absurd (true≢false o)
gather n [] false w o = record { clauses = []; same = refl; literals = tt; count = refl; begun = λ e. absurd (true≢false (sym e)) }
gather n (z ∷ zs) inside w o = by (closes z) refl (gather n zs (not (closes z)) (within_first n z zs w).1 o)
  where
    by : (t : Bool) → closes z ≡ t → Gathered n zs (not (closes z)) → Gathered n (z ∷ zs) inside
    by true h g = close n z zs inside h (subst (λ (x : Bool). Gathered n zs (not x)) h g)
    by false h g = extend n z zs inside h (within_first n z zs w).0 (subst (λ (x : Bool). Gathered n zs (not x)) h g)

-- ---- the last number

last_closes : (inside : Bool) (z : ℤ) (zs : List ℤ) → ends_inside inside (z ∷ zs) ≡ not (closes (get_or (z ∷ zs) (length zs) (pos 0)))
last_closes inside z [] = refl
last_closes inside z (y ∷ zs) = last_closes (not (closes z)) y zs

pub unclosed_is : (zs : List ℤ) → ends_inside false zs ≡ unclosed zs
unclosed_is [] = refl
unclosed_is (z ∷ zs) =
    let last : length zs ≡ suc (length zs) - 1 = omega arith in
    last_closes false z zs ∙ ap (λ (i : ℕ). not (closes (get_or (z ∷ zs) i (pos 0)))) last

-- ---- numbers in a list

put_all_is : (zs list : List ℤ) (i : ℕ) → i + length zs ≤ length list → put_all list i zs ≡ take i list ++ (zs ++ drop (i + length zs) list)
put_all_is [] list i h =
    let none : i ≡ i + 0 = omega arith in
    sym (take-append-drop i list) ∙ ap (λ (k : ℕ). take i list ++ drop k list) none
put_all_is (z ∷ zs) list i h =
    let far : i + 1 + length zs ≡ i + suc (length zs) = omega arith in
    let room : i + 1 + length zs ≤ length (set list i z) = omega (arith, length-set list i z) in
    put_all_is zs (set list i z) (i + 1) room
    ∙ ap (λ (x : List ℤ). x ++ (zs ++ drop (i + 1 + length zs) (set list i z))) (take_more_set list i z (omega arith))
    ∙ ap (λ (x : List ℤ). (take i list ++ z ∷ []) ++ (zs ++ x)) (drop-set-lt (i + 1 + length zs) list i z (omega arith))
    ∙ append_assoc (take i list) (z ∷ []) (zs ++ drop (i + 1 + length zs) list)
    ∙ ap (λ (k : ℕ). take i list ++ (z ∷ (zs ++ drop k list))) far

pub put_all_start : (zs list : List ℤ) → length zs ≤ length list → put_all list 0 zs ≡ zs ++ drop (length zs) list
put_all_start zs list h = put_all_is zs list 0 (omega arith) ∙ ap (λ (k : ℕ). zs ++ drop k list) (zero-add (length zs))

-- numbers with the same words are the same
pub same_words : (n m : ℕ) (zs ys : List ℤ) → n < 1_000_000_000 → m < 1_000_000_000 → exceeds n zs ≡ false → exceeds m ys ≡ false → map signed_decimal zs ≡ map signed_decimal ys → zs ≡ ys
same_words n m [] [] few some p q e = refl
same_words n m [] (y ∷ ys) few some p q e = absurd (omega (arith, ap length e))
same_words n m (z ∷ zs) [] few some p q e = absurd (omega (arith, ap length e))
same_words n m (z ∷ zs) (y ∷ ys) few some p q e =
    let u = within_first n z zs p in
    let v = within_first m y ys q in
    let here : signed_decimal z ≡ signed_decimal y = cc in
    let there : map signed_decimal zs ≡ map signed_decimal ys = cc in
    let one : z ≡ y = same_signed z y (omega (arith, u.0)) (omega (arith, v.0)) here in
    ap (λ (x : ℤ). x ∷ zs) one ∙ ap (λ (x : List ℤ). y ∷ x) (same_words n m zs ys few some u.1 v.1 there)
