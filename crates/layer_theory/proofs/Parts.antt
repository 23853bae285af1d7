-- The members of a group, values one after another, and the commanders.
use Rattle.std.proofs.Common.{◌≡◌, ℕ, ◌+◌, ◌-◌, ◌<◌, ◌≤◌, Bool, false, ◌≢◌, List, ◌++◌, length, drop, ℤ, pos, Option, sym, refl, ap, ◌∙◌, subst, arith, length-append}
use Rattle.std.proofs.lemmas.List.{length-take-le, length-drop, get_or-take, get_or-drop, get_or_append_left, get_or-append-add}
use Rattle.std.proofs.lemmas.List.FromFn.{length-map-range_with_len, get_or-map-range_with_len}
use Rattle.logic.specs.Literal.{variable, complement}
use Rattle.logic.specs.Clause.{Assignment, holds}
use Rattle.logic.specs.Chain.{Chain}
use Rattle.logic.proofs.Literals.{variable_complement}
use Rattle.encoder_theory.specs.Each.{each}
use Rattle.encoder_theory.specs.Members.{member, auxiliary, Proper, OneTrue, Takes, OnMember}
use Rattle.encoder_theory.specs.Meaning.{Meaning, Admitted, Admits}
use Rattle.encoder_theory.specs.Laws.{Lawful}
use Rattle.layer_theory.specs.Grouping.{Formed, size, sum, place_in}
use Rattle.layer_theory.specs.Commander.{group, commanders}
use Rattle.layer_theory.proofs.Sums.{sum_part, each_at, length_each_sum}
use Rattle.layer_theory.proofs.Rule.{ends_within, size_within, place_at}

-- members of a proper list stay proper below a greater number
pub proper_wider : (xs : List ℤ) (f f' : ℕ) → f ≤ f' → Proper xs f → Proper xs f'
proper_wider xs f f' w p = record { literals = p.literals; below = λ i l. let b = p.below i l in omega arith; distinct = p.distinct }

module _ (k : ℕ) (xs : List ℤ) (n : ℕ) (s : ℕ → ℕ) (r : Formed k (length xs) n s) (i : ℕ) (b : i < n) where
  pub length_group : length (group s xs i) ≡ size s i
  length_group =
      let e = ends_within k (length xs) n s r i b in
      let d = length-drop (s i) xs in
      length-take-le (size s i) (drop (s i) xs) (omega arith)

  in_group : (p : ℕ) → p < length (group s xs i) → (p < size s i) × (s i + p < length xs)
  in_group p l = let e = length_group in let w = ends_within k (length xs) n s r i b in (omega arith, omega arith)

  pub group_member : (p : ℕ) → p < size s i → member (group s xs i) p ≡ member xs (s i + p)
  group_member p l = get_or-take (size s i) (drop (s i) xs) p (pos 0) l ∙ get_or-drop (s i) xs p (pos 0)

  at : (p : ℕ) → p < length (group s xs i) → member (group s xs i) p ≡ member xs (s i + p)
  at p l = group_member p (in_group p l).0

  pub group_proper : (f f' : ℕ) → f ≤ f' → Proper xs f → Proper (group s xs i) f'
  group_proper f f' w q = record {
    literals = λ p l. subst (λ z. 1 ≤ variable z) (sym (at p l)) (q.literals (s i + p) (in_group p l).1);
    below = λ p l. subst (λ z. variable z < f') (sym (at p l)) (let c = q.below (s i + p) (in_group p l).1 in omega arith);
    distinct = λ p o lp lo e.
        let d = q.distinct (s i + p) (s i + o) (in_group p lp).1 (in_group o lo).1 (sym (ap variable (at p lp)) ∙ e ∙ ap variable (at o lo)) in omega arith;
  }

  pub group_on : (q : ℤ) → OnMember (group s xs i) q → OnMember xs q
  group_on q (p, l, e) = (s i + p, (in_group p l).1, e ∙ ap variable (at p l))

  pub group_one : (a : Assignment) (t : Option ℕ) → OneTrue a xs t → OneTrue a (group s xs i) (place_in s t i)
  group_one a t o p l = ap (holds a) (at p l) ∙ o (s i + p) (in_group p l).1 ∙ place_at k (length xs) n s r t i p (in_group p l).0

-- the members of each group are admitted, with their auxiliaries after those of the groups before
pub groups_admit : (k : ℕ) (xs : List ℤ) (n : ℕ) (s : ℕ → ℕ) → Formed k (length xs) n s → (G : Meaning) (first : ℕ)
    → Admitted xs first (sum n (λ j. G.auxiliaries (size s j))) → (i : ℕ) → i < n → Admits G (group s xs i) (first + sum i (λ j. G.auxiliaries (size s j)))
groups_admit k xs n s r G first ok i l =
    let e = length_group k xs n s r i l in
    let a = ap G.auxiliaries e in
    let p = sum_part (λ j. G.auxiliaries (size s j)) i n l in
    let w = size_within k (length xs) n s r i l in
    record {
      few = omega (arith, ok.few);
      starts = omega (arith, ok.starts);
      fits = omega (arith, ok.fits);
      proper = group_proper k xs n s r i l first (first + sum i (λ j. G.auxiliaries (size s j))) (omega arith) ok.proper;
    }

-- values one after another
module _ (a : Assignment) (f : ℕ) (us vs : List Bool) (h : Takes a f (us ++ vs)) where
  pub takes_left : Takes a f us
  takes_left j l = let e = length-append us vs in h j (omega arith) ∙ get_or_append_left us vs false j l

  pub takes_right : (n : ℕ) → length us ≡ n → Takes a (f + n) vs
  takes_right n e j l =
      let q = length-append us vs in
      let d : f + n + j ≡ f + (length us + j) = omega arith in
      ap a d ∙ h (length us + j) (omega arith) ∙ get_or-append-add us vs j false

pub takes_each : (a : Assignment) (f : ℕ) (vs : ℕ → List Bool) (w : ℕ → ℕ) (n i : ℕ) → i < n → ((j : ℕ) → j < n → length (vs j) ≡ w j)
    → Takes a f (each 0 n vs) → Takes a (f + sum i w) (vs i)
takes_each a f vs w n i l e h =
    let c = each_at vs i n l in
    let rest = each (i + 1) (n - (i + 1)) vs in
    let t = takes_right a f (each 0 i vs) (vs i ++ rest) (subst (Takes a f) c h) (sum i w) (length_each_sum vs w i (λ j b. e j (omega arith))) in
    takes_left a (f + sum i w) (vs i) rest t

-- the commanders
module _ (n z : ℕ) where
  pub length_commanders : length (commanders n z) ≡ n
  length_commanders = length-map-range_with_len (auxiliary z) 0 n

  pub commander_at : (i : ℕ) → i < n → member (commanders n z) i ≡ auxiliary z i
  commander_at i l = get_or-map-range_with_len (auxiliary z) 0 n i i (pos 0) l (omega arith)

  pub commander_below : (i : ℕ) → i < length (commanders n z) → i < n
  commander_below i l = let e = length_commanders in omega arith

  pub commander_variable : (i : ℕ) → i < length (commanders n z) → variable (member (commanders n z) i) ≡ z + i
  commander_variable i l = ap variable (commander_at i (commander_below i l))

  pub commanders_proper : (f : ℕ) → 1 ≤ z → z + n ≤ f → Proper (commanders n z) f
  commanders_proper f p w = record {
    literals = λ i l. let e = commander_variable i l in omega arith;
    below = λ i l. let e = commander_variable i l in let b = commander_below i l in omega arith;
    distinct = λ i j li lj h. let e = commander_variable i li in let g = commander_variable j lj in omega arith;
  }

-- the chains of a lawful encoder
pub lawful_leads : (M : Meaning) → Lawful M → (xs : List ℤ) (first : ℕ) → Admits M xs first → (i j : ℕ) → i < length xs → j < length xs → i ≢ j
    → Chain (M.list xs first) (member xs i) (complement (member xs j))
lawful_leads M g xs first ok i j li lj ne =
    (g.exact_chains xs first ok (member xs i) (complement (member xs j)) (i, li, refl) (j, lj, variable_complement (member xs j))
    (λ e. ne (ok.proper.distinct i j li lj (ap variable e ∙ variable_complement (member xs j))))).1
    (i, j, li, lj, ne, refl, refl)
