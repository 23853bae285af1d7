-- One step of the reader past the header, and what it makes of the words still to come.
use Rattle.std.proofs.Common.{◌≡◌, ℕ, suc, ◌+◌, ◌<◌, ◌≤◌, Bool, true, false, cond, not, eqb, ltb, leb, ◌⊎◌, List, [], ◌∷◌, ◌++◌, map, length, set, ℤ, nat_abs, Some, Ok, Err, Result, sym, refl, ap, ◌∙◌, subst, inl, inr, arith, length-set, MatchResult}
use Rattle.std.proofs.lemmas.Bool.{true≢false, cases_lt, leb-true, leb-false, ltb-true, ltb-false, le-ltb, or_parts, or_from, eqb-true, eqb-false}
use Rattle.std.specs.Fmt.{signed_decimal}
use Rattle.fault.specs.declared.Fault.{Fault}
use Rattle.fault.specs.declared.Refusal.TheVariants.{VariableAboveHeader, ClauseListFull, ClauseCount}
use Rattle.dimacs.specs.declared.Machine.{Machine}
use Rattle.dimacs.specs.declared.State.{State}
use Rattle.dimacs.specs.declared.Summary.{Summary}
use Rattle.dimacs.specs.Clauses.{closes, closings, exceeds}
use Rattle.dimacs.specs.Steps.{Step, go, head, put, stop}
use Rattle.dimacs.specs.Reading.{Reading, fault_at, literal_of, applied, listed_by, following, closed_by, ended}
use Rattle.dimacs.proofs.Spelling.{Spelled, same_signed, variable_literal}

-- the machine past a header of n and k
abbrev pub machine : ℕ → ℕ → State → ℕ → ℕ → Bool → Machine
machine n k s listed closed inside = record { state = s; header = Some (record { variables = n; clauses = k }); listed = listed; closed = closed; inside = inside }

-- whether numbers, read inside a clause or not, end inside one
abbrev pub ends_inside : Bool → List ℤ → Bool
ends_inside inside [] = inside
ends_inside inside (z ∷ zs) = ends_inside (not (closes z)) zs

-- numbers put into a list from a place on
abbrev pub put_all : List ℤ → ℕ → List ℤ → List ℤ
put_all list i [] = list
put_all list i (z ∷ zs) = put_all (set list i z) (i + 1) zs

-- the words are numbers that the reader accepts where it stands, and the answer and the list are as they should be
pub record Reads (n k listed closed : ℕ) (inside : Bool) (list : List ℤ) (ws : List (List ℕ)) (s : Summary) (after : List ℤ) : Type 0 where
  pub zs : List ℤ
  pub worded : ws ≡ map signed_decimal zs
  pub within : exceeds n zs ≡ false
  pub room : listed + length zs ≤ length list
  pub over : ends_inside inside zs ≡ false
  pub count : closed + closings zs ≡ k
  pub says : s ≡ record { variables = n; clauses = k; numbers = listed + length zs }
  pub leaves : after ≡ put_all list listed zs

-- the words are no such numbers
abbrev pub Fails : ℕ → ℕ → ℕ → ℕ → Bool → List ℤ → List (List ℕ) → Type 0
Fails n k listed closed inside list ws =
    (zs : List ℤ) → ws ≡ map signed_decimal zs → exceeds n zs ≡ false → listed + length zs ≤ length list → ends_inside inside zs ≡ false → closed + closings zs ≡ k → ⊥

abbrev pub Decided : ℕ → ℕ → ℕ → ℕ → Bool → List ℤ → List (List ℕ) → Reading → Type 0
Decided n k listed closed inside list ws r =
    MatchResult r.answer (λ s. Reads n k listed closed inside list ws s r.list) (λ f. Fails n k listed closed inside list ws)

-- the step is right where the words o end and the words ws follow, if the states that it leads to are Ready
abbrev pub Fits : (State → Type 0) → List (List ℕ) → List (List ℕ) → Step → Type 0
Fits Ready o ws (go s) = Ready s × (o ≡ [])
Fits Ready o ws (head n k) = ⊥
Fits Ready o ws (put from negative size s) = Ready s × ((w : List ℕ) × (o ≡ w ∷ []) × Spelled w negative size)
Fits Ready o ws (stop refusal place) = (n : ℕ) (zs : List ℤ) → n < 1_000_000_000 → exceeds n zs ≡ false → o ++ ws ≡ map signed_decimal zs → ⊥

pub within_first : (n : ℕ) (z : ℤ) (zs : List ℤ) → exceeds n (z ∷ zs) ≡ false → (nat_abs z ≤ n) × (exceeds n zs ≡ false)
within_first n z zs h = let p = or_parts (ltb n (nat_abs z)) (exceeds n zs) h in (ltb-false n (nat_abs z) p.0, p.1)

module _ (n k : ℕ) (few : n < 1_000_000_000) (listed closed : ℕ) (inside : Bool) (list : List ℤ) (ws : List (List ℕ)) where
  -- a number is listed, and the rest is decided
  listed_reads : (z : ℤ) (w : List ℕ) (s : Summary) (after : List ℤ) → w ≡ signed_decimal z → nat_abs z ≤ n → listed < length list
      → Reads n k (listed + 1) (closed + cond (closes z) 1 0) (not (closes z)) (set list listed z) ws s after
      → Reads n k listed closed inside list (w ∷ ws) s after
  listed_reads z w s after e low lt x =
      let far : listed + 1 + length x.zs ≡ listed + suc (length x.zs) = omega arith in
      record {
        zs = z ∷ x.zs;
        worded = ap (λ (v : List ℕ). v ∷ ws) e ∙ ap (λ (v : List (List ℕ)). signed_decimal z ∷ v) x.worded;
        within = or_from _ _ (le-ltb n (nat_abs z) low) x.within;
        room = omega (arith, x.room, length-set list listed z);
        over = x.over;
        count = omega (arith, x.count);
        says = x.says ∙ ap (λ (v : ℕ). record { variables = n; clauses = k; numbers = v }) far;
        leaves = x.leaves;
      }

  listed_fails : (z : ℤ) (w : List ℕ) → w ≡ signed_decimal z → nat_abs z ≤ n → listed < length list
      → Fails n k (listed + 1) (closed + cond (closes z) 1 0) (not (closes z)) (set list listed z) ws
      → Fails n k listed closed inside list (w ∷ ws)
  listed_fails z w e low lt x [] q within room over count = let z0 : ◌≡◌ {A = ℕ} (suc (length ws)) 0 = ap length q in omega arith
  listed_fails z w e low lt x (y ∷ ys) q within room over count =
      let p = within_first n y ys within in
      let head-same : signed_decimal y ≡ signed_decimal z = cc in
      let tail-same : ws ≡ map signed_decimal ys = cc in
      let same : y ≡ z = same_signed y z (omega (arith, p.0)) (omega arith) head-same in
      x ys tail-same p.1 (omega (arith, length-set list listed z))
      (subst (λ (v : ℤ). ends_inside (not (closes v)) ys ≡ false) same over)
      (omega (arith, subst (λ (v : ℤ). closed + (cond (closes v) 1 0 + closings ys) ≡ k) same count))

  listed_decided : (z : ℤ) (w : List ℕ) → w ≡ signed_decimal z → nat_abs z ≤ n → listed < length list → (a : Result Summary Fault) (after : List ℤ)
      → Decided n k (listed + 1) (closed + cond (closes z) 1 0) (not (closes z)) (set list listed z) ws (record { answer = a; list = after })
      → Decided n k listed closed inside list (w ∷ ws) (record { answer = a; list = after })
  listed_decided z w e low lt (Ok s) after d = listed_reads z w s after e low lt d
  listed_decided z w e low lt (Err f) after d = listed_fails z w e low lt d

  above_fails : (w : List ℕ) (negative : Bool) (size : ℕ) → Spelled w negative size → n < size → Fails n k listed closed inside list (w ∷ ws)
  above_fails w negative size sp h [] q within room over count = let z0 : ◌≡◌ {A = ℕ} (suc (length ws)) 0 = ap length q in omega arith
  above_fails w negative size sp h (y ∷ ys) q within room over count = by (cases_lt size 1_000_000_000)
    where
      first : w ≡ signed_decimal y
      first = cc

      p : nat_abs y ≤ n
      p = (within_first n y ys within).0

      by : (size < 1_000_000_000) ⊎ (1_000_000_000 ≤ size) → ⊥
      by (inl lt) =
          let same : y ≡ literal_of negative size = same_signed y (literal_of negative size) (omega (arith, p)) (omega (arith, variable_literal negative size)) (sym first ∙ sp.same lt) in
          omega (arith, p, ap nat_abs same, variable_literal negative size)
      by (inr le) = sp.never le y (omega (arith, p)) first

  full_fails : (w : List ℕ) → length list ≤ listed → Fails n k listed closed inside list (w ∷ ws)
  full_fails w h [] q within room over count = let z0 : ◌≡◌ {A = ℕ} (suc (length ws)) 0 = ap length q in omega arith
  full_fails w h (y ∷ ys) q within room over count = omega arith

  module _ (Ready : State → Type 0) (K : List ℤ → Machine → Reading) (rest : (s : State) (l c : ℕ) (i : Bool) (lst : List ℤ) → l ≤ length lst → Ready s → Decided n k l c i lst ws (K lst (machine n k s l c i))) where
    put_decided : (from : ℕ) (negative : Bool) (size : ℕ) (s : State) (w : List ℕ) → Ready s → Spelled w negative size
        → (t : Bool) → ltb n size ≡ t → (u : Bool) → leb (length list) listed ≡ u
        → Decided n k listed closed inside list (w ∷ ws)
        (following
        (cond t (Err (fault_at VariableAboveHeader from)) (cond u (Err (fault_at ClauseListFull from)) (Ok (machine n k s (listed + 1) (closed + cond (eqb size 0) 1 0) (not (eqb size 0))))))
        (cond t list (set list listed (literal_of negative size)))
        (K (cond t list (set list listed (literal_of negative size)))))
    put_decided from negative size s w ready sp true p u q = above_fails w negative size sp (ltb-true n size p)
    put_decided from negative size s w ready sp false p true q = full_fails w (leb-true (length list) listed q)
    put_decided from negative size s w ready sp false p false q =
        let z : ℤ = literal_of negative size in
        let v : nat_abs z ≡ size = variable_literal negative size in
        let low : size ≤ n = ltb-false n size p in
        let r : Reading = K (set list listed z) (machine n k s (listed + 1) (closed + cond (eqb size 0) 1 0) (not (eqb size 0))) in
        listed_decided z w (sp.same (omega arith)) (omega arith) (leb-false (length list) listed q) r.answer r.list
        (subst (λ (x : ℕ). Decided n k (listed + 1) (closed + cond (eqb x 0) 1 0) (not (eqb x 0)) (set list listed z) ws r) (sym v)
        (rest s (listed + 1) (closed + cond (eqb size 0) 1 0) (not (eqb size 0)) (set list listed z) (omega (arith, length-set list listed z, leb-false (length list) listed q)) ready))

    -- a step that fits leaves the rest to decide
    pub stepped : (was : State) (o : List (List ℕ)) (step : Step) → listed ≤ length list → Fits Ready o ws step
        → Decided n k listed closed inside list (o ++ ws)
        (following (applied (machine n k was listed closed inside) step (length list)) (listed_by (machine n k was listed closed inside) step list) (K (listed_by (machine n k was listed closed inside) step list)))
    stepped was o (go s) h fits =
        subst (λ (x : List (List ℕ)). Decided n k listed closed inside list (x ++ ws) (K list (machine n k s listed closed inside))) (sym fits.1) (rest s listed closed inside list h fits.0)
    stepped was o (head a b) h fits = absurd fits
    stepped was o (put from negative size s) h fits =
        subst
        (λ (x : List (List ℕ)). Decided n k listed closed inside list (x ++ ws)
        (following (applied (machine n k was listed closed inside) (put from negative size s) (length list)) (listed_by (machine n k was listed closed inside) (put from negative size s) list)
        (K (listed_by (machine n k was listed closed inside) (put from negative size s) list))))
        (sym fits.1.1)
        (put_decided from negative size s fits.1.0 fits.0 fits.1.2 (ltb n size) refl (leb (length list) listed) refl)
    stepped was o (stop refusal place) h fits = λ zs q within room over count. fits n zs few within q

-- the text's end: nothing is to come, so the answer depends on the clauses alone
none_come : (zs : List ℤ) → [] ≡ map signed_decimal zs → zs ≡ []
none_come [] e = refl
none_come (z ∷ zs) e = let h : ◌≡◌ {A = ℕ} 0 (suc (length (map signed_decimal zs))) = ap length e in absurd (omega arith)

pub closed_decided : (n k listed closed : ℕ) (inside : Bool) (list : List ℤ) (s : State) (at : ℕ) → listed ≤ length list
    → Decided n k listed closed inside list [] (record { answer = closed_by (Some (record { variables = n; clauses = k })) (machine n k s listed closed inside) at; list = list })
closed_decided n k listed closed true list s at h =
    λ zs e within room over count. true≢false (subst (λ (x : List ℤ). ends_inside true x ≡ false) (none_come zs e) over)
closed_decided n k listed closed false list s at h = by (eqb closed k) refl
  where
    by : (t : Bool) → eqb closed k ≡ t
        → Decided n k listed closed false list [] (record { answer = cond t (Ok (record { variables = n; clauses = closed; numbers = listed })) (Err (fault_at ClauseCount at)); list = list })
    by true e =
        let same : closed ≡ k = eqb-true closed k e in
        let far : listed ≡ listed + 0 = omega arith in
        record {
          zs = [];
          worded = refl;
          within = refl;
          room = omega arith;
          over = refl;
          count = omega arith;
          says = ap (λ (c : ℕ). record { variables = n; clauses = c; numbers = listed }) same ∙ ap (λ (l : ℕ). record { variables = n; clauses = k; numbers = l }) far;
          leaves = refl;
        }
    by false e = λ zs q within room over count. eqb-false closed k e (omega (arith, subst (λ (x : List ℤ). closed + closings x ≡ k) (none_come zs q) count))

-- the end's answer is a step's
pub ended_is : (r : Result Machine Fault) (list : List ℤ) (at : ℕ) → ◌≡◌ {A = Reading} (record { answer = ended r at; list = list }) (following r list (λ (m : Machine). record { answer = closed_by m.header m at; list = list }))
ended_is (Ok m) list at = refl
ended_is (Err f) list at = refl
