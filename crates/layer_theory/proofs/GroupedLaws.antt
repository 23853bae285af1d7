-- Groups with commanders keep the laws, over any group and top encoder that do.
use Rattle.std.proofs.Common.{◌≡◌, ℕ, ◌+◌, ◌-◌, ◌<◌, ◌≤◌, Bool, true, false, ◌≢◌, ◌⊎◌, List, [], ◌∷◌, ◌++◌, length, ℤ, Some, None, Option, sym, refl, ap, ◌∙◌, subst, inl, inr, ⊎_elim, arith, length-append}
use Rattle.std.proofs.lemmas.Bool.{cases_Bool, cases_eq, eqb-true, eq-eqb}
use Rattle.std.proofs.lemmas.List.FromFn.{length-map-range_with_len, get_or-map-range_with_len}
use Rattle.logic.specs.Literal.{variable, complement}
use Rattle.logic.specs.Clause.{Clause, Assignment, holds, Met, In, Satisfies}
use Rattle.logic.specs.Chain.{Chain}
use Rattle.logic.proofs.Literals.{variable_complement, complement_complement, complement_holds, holds_variable}
use Rattle.logic.proofs.Clauses.{in_left, in_right, in_cases}
use Rattle.logic.proofs.Chains.{one_step, chain_join, chain_more}
use Rattle.encoder_theory.specs.Each.{each, table}
use Rattle.encoder_theory.specs.Members.{member, auxiliary, Within, at_place, OneTrue, Takes, OnMember, OnAuxiliary}
use Rattle.encoder_theory.specs.Meaning.{Meaning, Admitted, Admits, most_members}
use Rattle.encoder_theory.specs.Laws.{Own, Lawful}
use Rattle.encoder_theory.proofs.Each.{in_single, in_each, each_has, length_each}
use Rattle.layer_theory.specs.Grouping.{Formed, size, sum, group_of, group_place, lies, place_in}
use Rattle.layer_theory.specs.Commander.{group, group_list, link, links, commanders, grouped}
use Rattle.layer_theory.proofs.Sums.{sum_part, length_each_sum}
use Rattle.layer_theory.proofs.Rule.{size_within, lying, within_groups, lies_is, within_place}
use Rattle.layer_theory.proofs.Parts.{proper_wider, length_group, group_member, groups_admit, group_on, group_one, takes_left, takes_right, takes_each, length_commanders, commander_at, commander_below, commander_variable, commanders_proper, lawful_leads}

-- the values of n groups
module _ (k m n : ℕ) (s : ℕ → ℕ) (r : Formed k m n s) (few : m ≤ most_members) (G : Meaning) (g : Lawful G) (t : Option ℕ) where
  abbrev group_values : ℕ → List Bool
  group_values i = G.values (size s i) (place_in s t i)

  pub length_group_values : (i : ℕ) → i < n → length (group_values i) ≡ G.auxiliaries (size s i)
  length_group_values i l =
      let w = size_within k m n s r i l in
      g.well_formed.valued (size s i) (place_in s t i) (omega arith) (within_place k m n s r t i)

  pub length_inner : length (each 0 n group_values) ≡ sum n (λ i. G.auxiliaries (size s i))
  length_inner = length_each_sum group_values (λ i. G.auxiliaries (size s i)) n length_group_values

  module _ (T : Meaning) (tl : Lawful T) (fewer : n ≤ most_members) (w : Within t m) where
    pub all_valued : length ((grouped n s G T).values m t) ≡ (grouped n s G T).auxiliaries m
    all_valued =
        let us = table n (lies s t) in
        let vs = each 0 n group_values in
        let ws = T.values n (group_place n s t) in
        let a = length-append us (vs ++ ws) in
        let b = length-append vs ws in
        let c : length us ≡ n = length-map-range_with_len (lies s t) 0 n in
        let d = length_inner in
        let e = tl.well_formed.valued n (group_place n s t) fewer (within_groups k m n s r t w) in
        omega arith

-- p is on what xs and the auxiliaries of a part are on
own_part : (ys xs : List ℤ) (f' w' f w : ℕ) (q : ℤ) → (OnMember ys q → OnMember xs q ⊎ OnAuxiliary f w q) → f ≤ f' → f' + w' ≤ f + w
    → OnMember ys q ⊎ OnAuxiliary f' w' q → OnMember xs q ⊎ OnAuxiliary f w q
own_part ys xs f' w' f w q m lo hi (inl h) = m h
own_part ys xs f' w' f w q m lo hi (inr h) = inr (omega (arith, h.0), omega (arith, h.1))

-- a true member's group is that of the place
place_true : (n : ℕ) (s : ℕ → ℕ) (t : Option ℕ) (p : ℕ) → at_place t p ≡ true → at_place (group_place n s t) (group_of n s p) ≡ true
place_true n s None p h = h
place_true n s (Some t) p h = let e = eqb-true p t h in eq-eqb _ _ (ap (group_of n s) e)

module _ (k n : ℕ) (s : ℕ → ℕ) (xs : List ℤ) (r : Formed k (length xs) n s) (G T : Meaning) (first : ℕ)
    (ok : Admitted xs first ((grouped n s G T).auxiliaries (length xs))) (fewer : n ≤ most_members) where
  abbrev held : ℕ → ℕ
  held i = G.auxiliaries (size s i)

  pub groups_admitted : Admitted xs (first + n) (sum n held)
  groups_admitted = record {
    few = ok.few;
    starts = omega (arith, ok.starts);
    fits = omega (arith, ok.fits);
    proper = proper_wider xs first (first + n) (omega arith) ok.proper;
  }

  group_admits : (i : ℕ) → i < n → Admits G (group s xs i) (first + n + sum i held)
  group_admits i l = groups_admit k xs n s r G (first + n) groups_admitted i l

  pub top_admits : Admits T (commanders n first) (first + n + sum n held)
  top_admits =
      let e = length_commanders n first in
      let a = ap T.auxiliaries e in
      record {
        few = omega arith;
        starts = omega (arith, ok.starts);
        fits = omega (arith, ok.fits);
        proper = commanders_proper n first (first + n + sum n held) ok.starts (omega arith);
      }

  abbrev inner : List Clause
  inner = each 0 n (group_list G s xs (first + n))

  abbrev linked : List Clause
  linked = links n s xs first

  abbrev top : List Clause
  top = T.list (commanders n first) (first + n + sum n held)

  pub length_links : length linked ≡ length xs
  length_links = let e = length_each (λ p. link n s xs first p ∷ []) 1 0 (length xs) (λ p. refl) in omega arith

  group_below : (p : ℕ) → p < length xs → group_of n s p < n
  group_below p l = (lying k (length xs) n s r p l).is_group

  pub link_in : (c : Clause) → In c linked → (p : ℕ) × (p < length xs) × (c ≡ link n s xs first p)
  link_in c h =
      let q = in_each (λ p. link n s xs first p ∷ []) c 0 (length xs) h in
      (q.0, omega (arith, q.2), in_single c (link n s xs first q.0) q.3)

  link_has : (p : ℕ) → p < length xs → In (link n s xs first p) linked
  link_has p l = each_has (λ p. link n s xs first p ∷ []) (link n s xs first p) 0 (length xs) p (omega arith) (omega arith) (inl refl)

  module _ (g : Lawful G) (tl : Lawful T) where
    pub length_lists : length inner ≡ sum n (λ i. G.clauses (size s i))
    length_lists = length_each_sum (group_list G s xs (first + n)) (λ i. G.clauses (size s i)) n
        (λ i l. g.well_formed.counted (group s xs i) (first + n + sum i held) (group_admits i l) ∙ ap G.clauses (length_group k xs n s r i l))

    pub length_top : length top ≡ T.clauses n
    length_top = tl.well_formed.counted (commanders n first) (first + n + sum n held) top_admits ∙ ap T.clauses (length_commanders n first)

    pub all_counted : length ((grouped n s G T).list xs first) ≡ (grouped n s G T).clauses (length xs)
    all_counted =
        let a = length-append inner (linked ++ top) in
        let b = length-append linked top in
        let c = length_lists in
        let d = length_links in
        let e = length_top in
        omega arith

    abbrev Ours : ℤ → Type 0
    Ours q = Own (grouped n s G T) xs first q

    commander_own : (q : ℤ) → OnMember (commanders n first) q → Ours q
    commander_own q (i, l, e) = let v = commander_variable n first i l in let b = commander_below n first i l in inr (omega arith, omega arith)

    inner_own : (i : ℕ) → i < n → (q : ℤ) → Own G (group s xs i) (first + n + sum i held) q → Ours q
    inner_own i l q h =
        let a = ap G.auxiliaries (length_group k xs n s r i l) in
        let p = sum_part held i n l in
        own_part (group s xs i) xs (first + n + sum i held) _ first _ q (λ m. inl (group_on k xs n s r i l q m)) (omega arith) (omega arith) h

    top_own : (q : ℤ) → Own T (commanders n first) (first + n + sum n held) q → Ours q
    top_own q h =
        let a = ap T.auxiliaries (length_commanders n first) in
        own_part (commanders n first) xs (first + n + sum n held) _ first _ q (commander_own q) (omega arith) (omega arith) h

    pub all_own : (c : Clause) → In c ((grouped n s G T).list xs first) → Ours c.0 × Ours c.1
    all_own c h = ⊎_elim
        (λ i.
        let q = in_each (group_list G s xs (first + n)) c 0 n i in
        let l : q.0 < n = omega (arith, q.2) in
        let o = g.well_formed.own (group s xs q.0) (first + n + sum q.0 held) (group_admits q.0 l) c q.3 in
        (inner_own q.0 l c.0 o.0, inner_own q.0 l c.1 o.1))
        (λ h'. ⊎_elim
        (λ i.
        let q = link_in c i in
        let p = q.0 in
        let b = group_below p q.1 in
        let e : variable c.0 ≡ first + group_of n s p = ap (λ (d : Clause). variable d.0) q.2 in
        (inr (omega arith, omega arith), inl (p, q.1, ap (λ (d : Clause). variable d.1) q.2 ∙ variable_complement (member xs p))))
        (λ i. let o = tl.well_formed.own (commanders n first) (first + n + sum n held) top_admits c i in (top_own c.0 o.0, top_own c.1 o.1))
        (in_cases c linked top h'))
        (in_cases c inner (linked ++ top) h)

    -- an assignment that takes the values for t
    module _ (a : Assignment) (t : Option ℕ) (w : Within t (length xs)) (one : OneTrue a xs t) (takes : Takes a first ((grouped n s G T).values (length xs) t)) where
      abbrev us : List Bool
      us = table n (lies s t)

      abbrev vs : List Bool
      vs = each 0 n (λ i. G.values (size s i) (place_in s t i))

      abbrev ws : List Bool
      ws = T.values n (group_place n s t)

      after_commands : Takes a (first + n) (vs ++ ws)
      after_commands = takes_right a first us (vs ++ ws) takes n (length-map-range_with_len (lies s t) 0 n)

      -- the commander of a group is true where the place lies in it
      command : (i : ℕ) → i < n → holds a (auxiliary first i) ≡ at_place (group_place n s t) i
      command i l =
          let lu : length us ≡ n = length-map-range_with_len (lies s t) 0 n in
          let p = ok.starts in
          holds_variable a (first + i) (omega arith)
          ∙ takes_left a first us (vs ++ ws) takes i (omega arith)
          ∙ get_or-map-range_with_len (lies s t) 0 n i i false l (omega arith)
          ∙ lies_is k (length xs) n s r t i w l

      inner_met : (i : ℕ) → i < n → Satisfies a (group_list G s xs (first + n) i)
      inner_met i l =
          let e = length_group k xs n s r i l in
          let h = takes_left a (first + n) vs ws after_commands in
          g.completable (group s xs i) (first + n + sum i held) (group_admits i l) a (place_in s t i)
          (subst (Within (place_in s t i)) (sym e) (within_place k (length xs) n s r t i))
          (group_one k xs n s r i l a t one)
          (subst (λ q. Takes a (first + n + sum i held) (G.values q (place_in s t i))) (sym e)
          (takes_each a (first + n) (λ j. G.values (size s j) (place_in s t j)) held n i l (length_group_values k (length xs) n s r ok.few G g t) h))

      link_met : (p : ℕ) → p < length xs → Met a (link n s xs first p)
      link_met p l = ⊎_elim
          (λ (h : at_place t p ≡ true). inl (command (group_of n s p) (group_below p l) ∙ place_true n s t p h))
          (λ (h : at_place t p ≡ false). inr (complement_holds a (member xs p) (ok.proper.literals p l) (one p l ∙ h)))
          (cases_Bool (at_place t p))

      top_met : Satisfies a top
      top_met =
          let e = length_commanders n first in
          tl.completable (commanders n first) (first + n + sum n held) top_admits a (group_place n s t)
          (subst (Within (group_place n s t)) (sym e) (within_groups k (length xs) n s r t w))
          (λ i l. let b = commander_below n first i l in ap (holds a) (commander_at n first i b) ∙ command i b)
          (subst (λ q. Takes a (first + n + sum n held) (T.values q (group_place n s t))) (sym e)
          (takes_right a (first + n) vs ws after_commands (sum n held) (length_inner k (length xs) n s r ok.few G g t)))

      pub all_met : Satisfies a ((grouped n s G T).list xs first)
      all_met c h = ⊎_elim
          (λ i. let q = in_each (group_list G s xs (first + n)) c 0 n i in inner_met q.0 (omega (arith, q.2)) c q.3)
          (λ h'. ⊎_elim
          (λ i. let q = link_in c i in subst (Met a) (sym q.2) (link_met q.0 q.1))
          (λ i. top_met c i)
          (in_cases c linked top h'))
          (in_cases c inner (linked ++ top) h)

    abbrev L : List Clause
    L = (grouped n s G T).list xs first

    -- two members of one group
    leads_inside : (i p q : ℕ) → i < n → s i ≤ p → p < s (i + 1) → s i ≤ q → q < s (i + 1) → p ≢ q → Chain L (member xs p) (complement (member xs q))
    leads_inside i p q l lp hp lq hq ne =
        let e = length_group k xs n s r i l in
        let gs = group s xs i in
        let f = first + n + sum i held in
        let ep : s i + (p - s i) ≡ p = omega arith in
        let eq : s i + (q - s i) ≡ q = omega arith in
        let mp : member gs (p - s i) ≡ member xs p = group_member k xs n s r i l (p - s i) (omega arith) ∙ ap (member xs) ep in
        let mq : member gs (q - s i) ≡ member xs q = group_member k xs n s r i l (q - s i) (omega arith) ∙ ap (member xs) eq in
        let c = lawful_leads G g gs f (group_admits i l) (p - s i) (q - s i) (omega arith) (omega arith) (λ z. ne (omega arith)) in
        subst (λ x. Chain L x (complement (member xs q))) mp
        (subst (λ y. Chain L (member gs (p - s i)) (complement y)) mq
        (chain_more (λ d h. in_left d inner (linked ++ top) (each_has (group_list G s xs (first + n)) d 0 n i (omega arith) (omega arith) h)) c))

    -- two members of different groups: up to a commander, across to the complement of another, and down
    leads_across : (p q : ℕ) → p < length xs → q < length xs → group_of n s p ≢ group_of n s q → Chain L (member xs p) (complement (member xs q))
    leads_across p q lp lq ne =
        let i = group_of n s p in
        let j = group_of n s q in
        let bi = group_below p lp in
        let bj = group_below q lq in
        let e = length_commanders n first in
        let into : (c : Clause) → In c linked → In c L = λ c h. in_right c inner (linked ++ top) (in_left c linked top h) in
        let up : Chain L (member xs p) (auxiliary first i) = one_step (inr (into _ (link_has p lp))) in
        let across : Chain top (member (commanders n first) i) (complement (member (commanders n first) j)) =
        lawful_leads T tl (commanders n first) (first + n + sum n held) top_admits i j (omega arith) (omega arith) ne in
        let named : Chain top (auxiliary first i) (complement (auxiliary first j)) =
        subst (λ x. Chain top x (complement (auxiliary first j))) (commander_at n first i bi)
        (subst (λ y. Chain top (member (commanders n first) i) (complement y)) (commander_at n first j bj) across) in
        let down : Chain L (complement (auxiliary first j)) (complement (member xs q)) =
        one_step (inl (subst (λ y. In (y, complement (member xs q)) L) (sym (complement_complement (auxiliary first j))) (into _ (link_has q lq)))) in
        chain_join up (chain_join (chain_more (λ c h. in_right c inner (linked ++ top) (in_right c linked top h)) named) down)

    pub all_leads : (p q : ℕ) → p < q → q < length xs → Chain L (member xs p) (complement (member xs q))
    all_leads p q l lq =
        let yp = lying k (length xs) n s r p (omega arith) in
        let yq = lying k (length xs) n s r q lq in
        ⊎_elim
        (λ e. leads_inside (group_of n s p) p q yp.is_group yp.from yp.before
        (subst (λ i. s i ≤ q) (sym e) yq.from) (subst (λ i. q < s (i + 1)) (sym e) yq.before) (λ z. omega arith))
        (λ ne. leads_across p q (omega arith) lq ne)
        (cases_eq (group_of n s p) (group_of n s q))
