-- A commander of 2 or more keeps the laws over any two encoders that do.
use Rattle.std.proofs.Common.{◌≡◌, ℕ, ◌+◌, ◌*◌, ◌<◌, ◌≤◌, Bool, true, false, cond, ltb, leb, ◌⊎◌, List, length, ℤ, Option, refl, arith}
use Rattle.std.proofs.lemmas.Bool.{ltb-false, leb-false, cond_both, or_parts}
use Rattle.logic.specs.Literal.{complement}
use Rattle.logic.specs.Clause.{Clause, Assignment, In, Satisfies}
use Rattle.logic.specs.Chain.{Chain}
use Rattle.encoder_theory.specs.Members.{member, Within, OneTrue, Takes, OnMember, OnAuxiliary}
use Rattle.encoder_theory.specs.Meaning.{Meaning, Admitted, most_members}
use Rattle.encoder_theory.specs.Laws.{Lawful}
use Rattle.encoder_theory.proofs.Derive.{lawful}
use Rattle.layer_theory.specs.Grouping.{groups, start, Formed, size, sum}
use Rattle.layer_theory.specs.Commander.{grouped, whole, commander}
use Rattle.layer_theory.proofs.Sums.{sum_le}
use Rattle.layer_theory.proofs.Rule.{rule_forms, size_within}
use Rattle.layer_theory.proofs.Parts.{lawful_leads}
use Rattle.layer_theory.proofs.Bounds.{square, squares_fit, groups_fewer}
use Rattle.layer_theory.proofs.GroupedLaws.{all_valued, all_counted, all_own, all_met, all_leads}

pub not_whole : (k m : ℕ) → whole k m ≡ false → (6 ≤ m) × (k < m)
not_whole k m e = let q = or_parts (ltb m 6) (leb m k) e in (ltb-false m 6 q.0, leb-false m k q.1)

-- what an encoder shows of the members xs
record Sound (xs : List ℤ) (C A : ℕ) (L : ℕ → List Clause) (V : Option ℕ → List Bool) : Type 0 where
  counted : (first : ℕ) → Admitted xs first A → length (L first) ≡ C
  own : (first : ℕ) → Admitted xs first A → (c : Clause) → In c (L first) → (OnMember xs c.0 ⊎ OnAuxiliary first A c.0) × (OnMember xs c.1 ⊎ OnAuxiliary first A c.1)
  met : (first : ℕ) → Admitted xs first A → (a : Assignment) (t : Option ℕ) → Within t (length xs) → OneTrue a xs t → Takes a first (V t) → Satisfies a (L first)
  leads : (first : ℕ) → Admitted xs first A → (i j : ℕ) → i < j → j < length xs → Chain (L first) (member xs i) (complement (member xs j))

either : (b : Bool) (xs : List ℤ) (C₁ C₂ A₁ A₂ : ℕ) (L₁ L₂ : ℕ → List Clause) (V₁ V₂ : Option ℕ → List Bool)
    → (b ≡ true → Sound xs C₁ A₁ L₁ V₁) → (b ≡ false → Sound xs C₂ A₂ L₂ V₂)
    → Sound xs (cond b C₁ C₂) (cond b A₁ A₂) (λ f. cond b (L₁ f) (L₂ f)) (λ t. cond b (V₁ t) (V₂ t))
either true xs C₁ C₂ A₁ A₂ L₁ L₂ V₁ V₂ h k = h refl
either false xs C₁ C₂ A₁ A₂ L₁ L₂ V₁ V₂ h k = k refl

of_lawful : (M : Meaning) → Lawful M → (xs : List ℤ) → Sound xs (M.clauses (length xs)) (M.auxiliaries (length xs)) (M.list xs) (M.values (length xs))
of_lawful M l xs = record {
  counted = λ f p. l.well_formed.counted xs f p;
  own = λ f p. l.well_formed.own xs f p;
  met = λ f p. l.completable xs f p;
  leads = λ f p i j b lj. lawful_leads M l xs f p i j (omega arith) lj (λ e. omega arith);
}

module _ (k : ℕ) (k2 : 2 ≤ k) (G T : Meaning) (g : Lawful G) (tl : Lawful T) where
  forms : (m : ℕ) → Formed k m (groups k m) (start k m)
  forms m = rule_forms k m (omega arith)

  fewer : (m : ℕ) → whole k m ≡ false → groups k m < m
  fewer m e = let q = not_whole k m e in groups_fewer k m (groups k m) (start k m) (forms m) k2 q.1

  sound : (xs : List ℤ) → Sound xs ((commander k G T).clauses (length xs)) ((commander k G T).auxiliaries (length xs)) ((commander k G T).list xs) ((commander k G T).values (length xs))
  sound xs = either (whole k (length xs)) xs _ _ _ _ _ _ _ _ (λ e. of_lawful G g xs)
      (λ e.
      let n = groups k (length xs) in
      let s = start k (length xs) in
      let r = forms (length xs) in
      let f = fewer (length xs) e in
      record {
        counted = λ first p. all_counted k n s xs r G T first p (omega (arith, p.few)) g tl;
        own = λ first p. all_own k n s xs r G T first p (omega (arith, p.few)) g tl;
        met = λ first p. all_met k n s xs r G T first p (omega (arith, p.few)) g tl;
        leads = λ first p. all_leads k n s xs r G T first p (omega (arith, p.few)) g tl;
      })

  valued : (m : ℕ) (t : Option ℕ) → m ≤ most_members → Within t m → length ((commander k G T).values m t) ≡ (commander k G T).auxiliaries m
  valued m t l w = by (whole k m) refl
    where
      by : (b : Bool) → whole k m ≡ b → length (cond b (G.values m t) ((grouped (groups k m) (start k m) G T).values m t))
          ≡ cond b (G.auxiliaries m) ((grouped (groups k m) (start k m) G T).auxiliaries m)
      by true e = g.well_formed.valued m t l w
      by false e = let f = fewer m e in all_valued k m (groups k m) (start k m) (forms m) l G g t T tl (omega arith) w

  bounded : (f h : ℕ → ℕ) → ((m : ℕ) → m ≤ most_members → f m ≤ m * m) → ((m : ℕ) → m ≤ most_members → h m ≤ m * m)
      → (m : ℕ) → m ≤ most_members → whole k m ≡ false → sum (groups k m) (λ i. f (size (start k m) i)) + m + h (groups k m) ≤ m * m
  bounded f h bf bh m l e =
      let q = not_whole k m e in
      let n = groups k m in
      let s = start k m in
      let r = forms m in
      let a = squares_fit k m n s r k2 q.1 q.0 in
      let b : sum n (λ i. f (size s i)) ≤ sum n (λ i. square (size s i)) =
      sum_le (λ i. f (size s i)) (λ i. square (size s i)) n (λ i b. let w = size_within k m n s r i b in bf (size s i) (omega arith)) in
      let d = fewer m e in
      let c = bh n (omega arith) in
      omega arith

  pub commander_lawful : Lawful (commander k G T)
  commander_lawful = lawful (commander k G T) (record {
    well_formed = record {
      counted = λ xs f p. (sound xs).counted f p;
      own = λ xs f p. (sound xs).own f p;
      valued = valued;
    };
    completable = λ xs f p. (sound xs).met f p;
    leads = λ xs f p. (sound xs).leads f p;
    bounded = record {
      clauses = λ m l. cond_both (whole k m) _ _ (λ c. c ≤ m * m) (λ e. g.bounded.clauses m l)
          (λ e. bounded G.clauses T.clauses g.bounded.clauses tl.bounded.clauses m l e);
      auxiliaries = λ m l. cond_both (whole k m) _ _ (λ c. c ≤ m * m) (λ e. g.bounded.auxiliaries m l)
          (λ e. let b = bounded G.auxiliaries T.auxiliaries g.bounded.auxiliaries tl.bounded.auxiliaries m l e in
          let d = fewer m e in omega arith);
    };
  })
