-- What the calls of a layer put into a buffer, group by group, and the numbers that they tell.
use Rattle.std.proofs.Common.{◌≡◌, ℕ, zero, suc, ◌+◌, ◌-◌, ◌*◌, ◌<◌, ◌≤◌, min, Bool, true, false, List, [], ◌∷◌, ◌++◌, map, length, take, take_all, drop, slice_set, ℤ, pos, nat_abs, Ok, Option, Result, sym, refl, ap, ◌∙◌, subst, ⊎_elim, append_assoc, mul-le-mul, arith, length-append, length-drop}
use Rattle.std.proofs.lemmas.List.{length-map, take_more_set, map-append, take_at, drop_at, drop-drop}
use Rattle.std.proofs.lemmas.List.FromFn.{length-map-range_with_len, map-range_with_len_more, sum_by-map-range_with_len_more}
use Rattle.std.specs.List.{range_with_len, sum as sum_of}
use Rattle.std.proofs.lemmas.Bool.{cases_eq, cond-true, cond-false}
use Rattle.fault.specs.declared.Fault.{Fault}
use Rattle.logic.specs.Clause.{Clause, flat}
use Rattle.logic.proofs.Clauses.{length_flat, flat_append}
use base.Fml.{GName}
use Rattle.filling.specs.Filled.{Filled, after, extended}
use Rattle.filling.proofs.Extended.{after_none, after_more, extended_step}
use Rattle.encoder_theory.specs.Each.{each, table}
use Rattle.encoder_theory.specs.Members.{auxiliary, Within}
use Rattle.encoder_theory.specs.Meaning.{Meaning, Admitted, Admits, most_members, last_end}
use Rattle.encoder_theory.specs.Laws.{Lawful}
use Rattle.encoder_theory.specs.Buffer.{byte}
use Rattle.encoder_theory.specs.Calls.{answer, told, clauses_fit, clauses_room, write_answer, values_answer}
use Rattle.encoder_theory.specs.Appended.{clauses_appended, values_appended}
use Rattle.encoder_theory.proofs.Each.{each_last}
use Rattle.encoder_theory.proofs.Answered.{granted, told_is, write_admitted, values_admitted}
use Rattle.encoder_theory.proofs.Appended.{clauses_granted, values_granted}
use Rattle.encoder_theory.specs.Pairwise.{pairwise}
use Rattle.encoder_theory.proofs.PairwiseLaws.{pairwise_lawful}
use Rattle.layer_theory.specs.Grouping.{groups, start, Formed, size, sum, group_place, lies, place_in}
use Rattle.layer_theory.specs.Commander.{group, group_list, link, links, commanders, inner, below, grouped, whole, commander}
use Rattle.layer_theory.specs.Tower.{tower}
use Rattle.layer_theory.specs.Theorems.{Agree}
use Rattle.layer_theory.proofs.Sums.{sum_part, sum_more, length_each_sum}
use Rattle.layer_theory.proofs.Rule.{rule_forms, ends_within, groups_within, size_most, size_within, within_place, within_groups}
use Rattle.layer_theory.proofs.Parts.{proper_wider, length_group, groups_admit, length_commanders}
use Rattle.layer_theory.proofs.Bounds.{groups_fewer}
use Rattle.layer_theory.proofs.CommanderLaws.{not_whole, commander_lawful}
use Rattle.layer_theory.proofs.TowerLaws.{tower_above, tower_lawful}
use Rattle.layer_theory.proofs.GroupedLaws.{length_inner, length_lists, length_links, top_admits}

-- a sum as the library has it
sum_is : (f : ℕ → ℕ) (n : ℕ) → sum_of (map f (range_with_len 0 n)) ≡ sum n f
sum_is f zero = refl
sum_is f (suc n) =
    let e : suc n ≡ n + 1 = omega arith in
    ap (λ q. sum_of (map f (range_with_len 0 q))) e ∙ sum_by-map-range_with_len_more (λ x. x) f 0 n n (omega arith) ∙ ap (λ q. q + f n) (sum_is f n)

-- there are no more groups than members
groups_most : (k m : ℕ) → 1 ≤ k → groups k m ≤ m
groups_most k m one = groups_within k m (groups k m) (start k m) (rule_forms k m one)

-- what the groups take together is a small number
module _ (k m : ℕ) (one : 1 ≤ k) (few : m ≤ most_members) (small : k ≤ 16) (f : ℕ → ℕ) (fit : (q : ℕ) → q ≤ most_members → f q ≤ q * q) where
  up_to : (i : ℕ) → i ≤ groups k m → sum i (λ j. f (size (start k m) j)) ≤ i * 256
  up_to zero l = omega arith
  up_to (suc i) l =
      let b : i < groups k m = omega arith in
      let r = rule_forms k m one in
      let a = up_to i (omega arith) in
      let w = size_within k m (groups k m) (start k m) r i b in
      let c = fit (size (start k m) i) (omega arith) in
      let q : size (start k m) i ≤ 16 = let z = size_most k m (groups k m) (start k m) r i b in omega arith in
      let d : size (start k m) i * size (start k m) i ≤ 16 * 16 = mul-le-mul q q in
      omega arith

  sum_small : (i : ℕ) → i ≤ groups k m → sum i (λ j. f (size (start k m) j)) ≤ 65_536
  sum_small i l = let a = up_to i l in let b = groups_most k m one in omega arith

  -- the numbers of the groups, added up
  pub sum_told : (n r : ℕ) → n ≡ groups k m → r ≡ sum_of (map (λ j. f (size (start k m) j)) (range_with_len 0 n)) → (r ≡ sum (groups k m) (λ j. f (size (start k m) j))) × (r ≤ 65_536)
  sum_told n r e h =
      let a : r ≡ sum (groups k m) (λ j. f (size (start k m) j)) = h ∙ sum_is (λ j. f (size (start k m) j)) n ∙ ap (λ q. sum q (λ j. f (size (start k m) j))) e in
      let b = sum_small (groups k m) (omega arith) in
      (a, omega arith)

-- one of them is small
pub told_small : (f : ℕ → ℕ) → ((q : ℕ) → q ≤ most_members → f q ≤ q * q) → (q r : ℕ) → Ok r ≡ told q (f q) → r ≤ 65_536
told_small f fit q r h =
    let t = told_is q (f q) r h in
    let b = fit q t.0 in
    let c : q * q ≤ 256 * 256 = mul-le-mul t.0 t.0 in
    omega arith

pub told_at : (f : ℕ → ℕ) (q r i : ℕ) → Ok r ≡ told q (f q) → q ≡ i → r ≡ f i
told_at f q r i h e = (told_is q (f q) r h).1 ∙ ap f e

-- the groups' clauses may be put next: the members are admitted, and there is room
pub record ListsFit (k : ℕ) (G : Meaning) (xs : List ℤ) (first : ℕ) (f : Filled ℤ) : Type 0 where
  pub one : 1 ≤ k
  pub law : Lawful G
  pub admits : Admits (inner k G) xs first
  pub room : 2 * (inner k G).clauses (length xs) ≤ length f.rest

-- the first groups' clauses have been put: their members are passed, and their auxiliaries taken
pub record ListsPut (k : ℕ) (G : Meaning) (xs : List ℤ) (first : ℕ) (f : Filled ℤ) (rest : List ℤ) (next : ℕ) (now : Filled ℤ) : Type 0 where
  pub fit : ListsFit k G xs first f
  pub i : ℕ
  pub within : i ≤ groups k (length xs)
  pub left : rest ≡ drop (start k (length xs) i) xs
  pub taken : next ≡ first + sum i (λ j. G.auxiliaries (size (start k (length xs)) j))
  pub put : now ≡ after f (flat (each 0 i (group_list G (start k (length xs)) xs first)))

pub lists_none : {k : ℕ} {G : Meaning} {xs : List ℤ} {first : ℕ} {f : Filled ℤ} → ListsFit k G xs first f → (rest : List ℤ) → rest ≡ xs → ListsPut k G xs first f rest first f
lists_none {k} {G} {xs} {first} {f} fit rest e = record {
  fit = fit;
  i = 0;
  within = omega arith;
  left = let z : min (0 * k) (length xs) ≡ 0 = omega arith in e ∙ sym (ap (λ a. drop a xs) z);
  taken = omega arith;
  put = sym (after_none f);
}

module _ {k : ℕ} {G : Meaning} {xs : List ℤ} {first : ℕ} {f : Filled ℤ} {rest : List ℤ} {next : ℕ} {now : Filled ℤ} (h : ListsPut k G xs first f rest next now) where
  abbrev n : ℕ
  n = groups k (length xs)

  abbrev s : ℕ → ℕ
  s = start k (length xs)

  formed : Formed k (length xs) n s
  formed = rule_forms k (length xs) h.fit.one

  abbrev lists : ℕ → List Clause
  lists i = group_list G s xs first i

  abbrev used : ℕ → ℕ
  used i = G.clauses (size s i)

  abbrev held : ℕ → ℕ
  held i = G.auxiliaries (size s i)

  length_lists_to : (i : ℕ) → i ≤ n → length (flat (each 0 i lists)) ≡ 2 * sum i used
  length_lists_to i l =
      length_flat (each 0 i lists)
      ∙ ap (λ q. 2 * q) (length_each_sum lists used i (λ j b.
      let l : j < n = omega arith in
      h.fit.law.well_formed.counted (group s xs j) _ (groups_admit k xs n s formed G first h.fit.admits j l) ∙ ap G.clauses (length_group k xs n s formed j l)))

  -- where no member is left, all groups are done
  pub lists_end : length rest ≡ 0 → now ≡ after f (flat ((inner k G).list xs first))
  lists_end z =
      let d = ap length h.left in
      let c = length-drop (s h.i) xs in
      let e : h.i ≡ n = ⊎_elim (λ e. e)
      (λ ne. let l : h.i < n = (let w = h.within in omega arith) in let a = formed.some h.i l in let b = ends_within k (length xs) n s formed h.i l in absurd (omega arith))
      (cases_eq h.i n) in
      subst (λ q. now ≡ after f (flat (each 0 q lists))) e h.put

  -- else the next members that are left are the next group
  module _ (piece left : List ℤ) (q : ℕ) (eq : q ≡ k) (e : rest ≡ piece ++ left) (l : length piece ≡ min q (length rest)) (more : 0 < length rest) where
    length_rest : length rest ≡ length xs - s h.i
    length_rest = ap length h.left ∙ length-drop (s h.i) xs

    here : h.i < n
    here = let w = h.within in let a = formed.ends in ⊎_elim
        (λ (q : h.i ≡ n). let b = ap s q in let c = length_rest in absurd (omega arith))
        (λ ne. omega arith)
        (cases_eq h.i n)

    length_piece : length piece ≡ size s h.i
    length_piece =
        let c = length_rest in
        let z : (h.i + 1) * k ≡ h.i * k + k = omega arith in
        omega arith

    piece_is : piece ≡ group s xs h.i
    piece_is =
        sym (take_at piece left (size s h.i) length_piece) ∙ ap (take (size s h.i)) (sym e ∙ h.left)

    left_is : left ≡ drop (s (h.i + 1)) xs
    left_is =
        let a = formed.some h.i here in
        let z : size s h.i + s h.i ≡ s (h.i + 1) = omega arith in
        sym (drop_at piece left (size s h.i) length_piece) ∙ ap (drop (size s h.i)) (sym e ∙ h.left)
        ∙ drop-drop (size s h.i) (s h.i) xs ∙ ap (λ a. drop a xs) (omega arith)

    pub next_fits : next + G.auxiliaries (length piece) ≤ last_end
    next_fits =
        let p = sum_part held h.i n here in
        let t = h.taken in
        let a = ap G.auxiliaries length_piece in
        omega (arith, h.fit.admits.fits)

    admits : Admits G piece next
    admits =
        subst (λ y. Admits G y next) (sym piece_is)
        (subst (λ q. Admits G (group s xs h.i) q) (sym h.taken) (groups_admit k xs n s formed G first h.fit.admits h.i here))

    fits : 2 * G.clauses (length piece) ≤ length now.rest
    fits =
        let p = sum_part used h.i n here in
        let q = length_lists_to h.i (omega (arith, h.within)) in
        let a = ap G.clauses length_piece in
        let r = h.fit.room in
        let b = ap (λ (z : Filled ℤ). length z.rest) h.put ∙ length-drop (length (flat (each 0 h.i lists))) f.rest in
        omega arith

    -- its clauses come next
    pub lists_next : (z : ℤ) → z ≡ pos next → (r : Result (Unit {0}) Fault) (new : Filled ℤ) → r ≡ write_answer G piece z now.rest → new ≡ clauses_appended G piece z now
        → (r ≡ Ok tt) × ListsPut k G xs first f left (next + G.auxiliaries (length piece)) new
    lists_next z ez r new er en =
        let c = clauses_granted G piece next now admits fits in (
          er ∙ ap (λ x. write_answer G piece x now.rest) ez ∙ c.0,
          record {
            fit = h.fit;
            i = h.i + 1;
            within = let w = here in omega arith;
            left = left_is;
            taken = let t = h.taken in let a = ap G.auxiliaries length_piece in let m = sum_more held h.i in omega arith;
            put =
                en ∙ ap (λ x. clauses_appended G piece x now) ez ∙ c.1
                ∙ ap (λ z. after z (flat (G.list piece next))) h.put
                ∙ ap (λ L. after (after f (flat (each 0 h.i lists))) (flat L)) (ap (λ y. G.list y next) piece_is ∙ ap (G.list (group s xs h.i)) h.taken)
                ∙ after_more f (flat (each 0 h.i lists)) (flat (lists h.i))
                ∙ ap (after f) (sym (flat_append (each 0 h.i lists) (lists h.i)) ∙ ap flat (sym (each_last lists h.i)));
          },
        )

-- the links, one after another
module _ (n : ℕ) (s : ℕ → ℕ) (xs : List ℤ) (first : ℕ) (f : Filled ℤ) (room : 2 * length xs ≤ length f.rest) where
  abbrev one : ℕ → List Clause
  one p = link n s xs first p ∷ []

  length_links_to : (p : ℕ) → length (flat (each 0 p one)) ≡ 2 * p
  length_links_to p = length_flat (each 0 p one) ∙ ap (λ q. 2 * q) (length_each_sum one (λ i. 1) p (λ i l. refl) ∙ ones p)
    where
      ones : (p : ℕ) → sum p (λ i. 1) ≡ p
      ones zero = refl
      ones (suc p) = let e = ones p in omega arith

  pub link_next : (p : ℕ) → p < length xs → (now : Filled ℤ) → now ≡ after f (flat (each 0 p one))
      → (c : Clause) → c ≡ link n s xs first p → (new : Filled ℤ) → new ≡ extended now (c.0 ∷ c.1 ∷ []) → new ≡ after f (flat (each 0 (p + 1) one))
  link_next p l now e c ec new en =
      let q = length_links_to p in
      let w = length-append (flat (each 0 p one)) (flat (one p)) in
      en ∙ ap (λ (d : Clause). extended now (d.0 ∷ d.1 ∷ [])) ec
      ∙ extended_step f now (flat (each 0 p one)) (flat (one p)) e (omega arith)
      ∙ ap (after f) (sym (flat_append (each 0 p one) (one p)) ∙ ap flat (sym (each_last one p)))

-- a table of values, one after another
pub command_next : (t : ℕ → Bool) (i : ℕ) (f now : Filled ℕ) → i < length f.rest → now ≡ after f (map byte (table i t))
    → extended now (byte (t i) ∷ []) ≡ after f (map byte (table (i + 1) t))
command_next t i f now l e =
    let a : length (map byte (table i t)) ≡ i = length-map (table i t) byte ∙ length-map-range_with_len t 0 i in
    let w = length-append (map byte (table i t)) (byte (t i) ∷ []) in
    extended_step f now (map byte (table i t)) (byte (t i) ∷ []) e (omega arith)
    ∙ ap (after f) (sym (map-append byte (table i t) (t i ∷ [])) ∙ ap (map byte) (sym (map-range_with_len_more t 0 i i (omega arith))))

-- the groups' values, one after another
module _ (k : ℕ) (one : 1 ≤ k) (m : ℕ) (few : m ≤ most_members) (G : Meaning) (g : Lawful G) (t : Option ℕ)
    (f : Filled ℕ) (room : (inner k G).auxiliaries m ≤ length f.rest) where
  abbrev places : ℕ → ℕ
  places = start k m

  grouped_so : Formed k m (groups k m) places
  grouped_so = rule_forms k m one

  abbrev shown : ℕ → List Bool
  shown i = G.values (size places i) (place_in places t i)

  length_shown : (i : ℕ) → i ≤ groups k m → length (map byte (each 0 i shown)) ≡ sum i (λ j. G.auxiliaries (size places j))
  length_shown i l =
      length-map (each 0 i shown) byte
      ∙ length_each_sum shown (λ j. G.auxiliaries (size places j)) i (λ j b.
      let h : j < groups k m = omega arith in
      let w = size_within k m (groups k m) places grouped_so j h in
      g.well_formed.valued (size places j) (place_in places t j) (omega arith) (within_place k m (groups k m) places grouped_so t j))

  module _ (i : ℕ) (l : i < groups k m) (now : Filled ℕ) (e : now ≡ after f (map byte (each 0 i shown))) where
    pub values_next_granted : (values_answer G (size places i) (place_in places t i) now.rest ≡ Ok tt)
        × (values_appended G (size places i) (place_in places t i) now ≡ after f (map byte (each 0 (i + 1) shown)))
    values_next_granted =
        let p = sum_part (λ j. G.auxiliaries (size places j)) i (groups k m) l in
        let q = length_shown i (omega arith) in
        let w = size_within k m (groups k m) places grouped_so i l in
        let b = ap (λ (z : Filled ℕ). length z.rest) e ∙ length-drop (length (map byte (each 0 i shown))) f.rest in
        let c = values_granted G (size places i) (place_in places t i) now (omega arith) (within_place k m (groups k m) places grouped_so t i) (omega arith) in (
          c.0,
          c.1 ∙ ap (λ z. after z (map byte (shown i))) e ∙ after_more f (map byte (each 0 i shown)) (map byte (shown i))
              ∙ ap (after f) (sym (map-append byte (each 0 i shown) (shown i)) ∙ ap (map byte) (sym (each_last shown i))),
        )

-- the commanders' names, one after another
pub name_next : (first i : ℕ) (names : List ℤ) (x : ℤ) → i < length names → x ≡ pos (min (first + i) last_end) → take i names ≡ table i (λ i. pos (min (first + i) last_end))
    → take (i + 1) (slice_set names i x) ≡ table (i + 1) (λ i. pos (min (first + i) last_end))
name_next first i names x l e h =
    take_more_set names i x l ∙ ap (λ ys. ys ++ (x ∷ [])) h ∙ ap (λ y. table i (λ i. pos (min (first + i) last_end)) ++ (y ∷ [])) e
    ∙ sym (map-range_with_len_more (λ i. pos (min (first + i) last_end)) 0 i i (omega arith))

pub names_end : (first i count : ℕ) (names rest : List ℤ) → i ≡ count → length names ≡ count → take i names ≡ table i (λ i. pos (min (first + i) last_end))
    → take count (names ++ rest) ≡ table count (λ i. pos (min (first + i) last_end))
names_end first i count names rest e n h =
    take_at names rest count n ∙ sym (take_all i names (omega arith)) ∙ h ∙ ap (λ k. table k (λ i. pos (min (first + i) last_end))) e

-- the groups' values have room after the commanders'
pub group_values_room : (k m : ℕ) (G : Meaning) (t : ℕ → Bool) (f mid : Filled ℕ) → (below k G).auxiliaries m ≤ length f.rest
    → mid ≡ after f (map byte (table (groups k m) t)) → (inner k G).auxiliaries m ≤ length mid.rest
group_values_room k m G t f mid room e =
    let a : length (map byte (table (groups k m) t)) ≡ groups k m = length-map (table (groups k m) t) byte ∙ length-map-range_with_len t 0 (groups k m) in
    let b = ap (λ (z : Filled ℕ). length z.rest) e ∙ length-drop (length (map byte (table (groups k m) t))) f.rest in
    omega arith

-- what a call answers once its check has let it through
pub answered : (fit room : Bool) (x z : ℕ) → Ok z ≡ answer fit room x → ◌≡◌ {A = Result (Unit {0}) Fault} (Ok tt) (answer fit room tt)
answered fit room x z h = let g = granted fit room x z h in sym (cond-true fit _ _ g.0 ∙ cond-true room _ _ g.1)

-- clauses put after others, and values after others
lists_join : (K L : List Clause) (f : Filled ℤ) → after (after f (flat K)) (flat L) ≡ after f (flat (K ++ L))
lists_join K L f = after_more f (flat K) (flat L) ∙ ap (after f) (sym (flat_append K L))

values_join : (us vs : List Bool) (f : Filled ℕ) → after (after f (map byte us)) (map byte vs) ≡ after f (map byte (us ++ vs))
values_join us vs f = after_more f (map byte us) (map byte vs) ∙ ap (after f) (sym (map-append byte us vs))

-- below the top: the groups after the commanders, and then the links
module _ (k : ℕ) (one : 1 ≤ k) (G : Meaning) (g : Lawful G) (xs : List ℤ) (first : ℕ) (ok : Admits (below k G) xs first) where
  inner_admits : Admits (inner k G) xs (first + groups k (length xs))
  inner_admits = record {
    few = ok.few;
    starts = omega (arith, ok.starts);
    fits = omega (arith, ok.fits);
    proper = proper_wider xs first (first + groups k (length xs)) (omega arith) ok.proper;
  }

  length_inner_list : length (flat ((inner k G).list xs (first + groups k (length xs)))) ≡ 2 * (inner k G).clauses (length xs)
  length_inner_list = length_flat ((inner k G).list xs (first + groups k (length xs))) ∙ ap (λ q. 2 * q)
      (length_each_sum (group_list G (start k (length xs)) xs (first + groups k (length xs))) (λ i. G.clauses (size (start k (length xs)) i)) (groups k (length xs)) (λ j l.
      let r = rule_forms k (length xs) one in
      g.well_formed.counted (group (start k (length xs)) xs j) _ (groups_admit k xs (groups k (length xs)) (start k (length xs)) r G _ inner_admits j l)
      ∙ ap G.clauses (length_group k xs (groups k (length xs)) (start k (length xs)) r j l)))

  module _ (n : ℕ) (en : n ≡ groups k (length xs)) (f mid : Filled ℤ) (e : mid ≡ after f (flat ((inner k G).list xs (first + n)))) where
    inner_put : mid ≡ after f (flat ((inner k G).list xs (first + groups k (length xs))))
    inner_put = e ∙ ap (λ z. after f (flat ((inner k G).list xs (first + z)))) en

    module _ (m : ℕ) (em : length xs ≡ m) where
      pub links_room : 2 * (below k G).clauses m ≤ length f.rest → 2 * m ≤ length mid.rest
      links_room room =
          let a = length_inner_list in
          let b = ap (λ (z : Filled ℤ). length z.rest) inner_put ∙ length-drop (length (flat ((inner k G).list xs (first + groups k (length xs))))) f.rest in
          let c = ap (inner k G).clauses em in
          omega arith

      pub below_put : (new : Filled ℤ) → new ≡ after mid (flat (links (groups k m) (start k m) xs first)) → new ≡ after f (flat ((below k G).list xs first))
      below_put new en' =
          en' ∙ ap (λ q. after mid (flat (links (groups k q) (start k q) xs first))) (sym em)
          ∙ ap (λ z. after z (flat (links (groups k (length xs)) (start k (length xs)) xs first))) inner_put
          ∙ lists_join ((inner k G).list xs (first + groups k (length xs))) (links (groups k (length xs)) (start k (length xs)) xs first) f

-- an encoder that is a commander on these members, where they form groups
module _ (k m : ℕ) (G T M : Meaning) (agree : Agree M (commander k G T) m) (w : whole k m ≡ false) where
  pub clauses_are : M.clauses m ≡ (below k G).clauses m + T.clauses (groups k m)
  clauses_are = agree.clauses ∙ cond-false (whole k m) _ _ w

  pub auxiliaries_are : M.auxiliaries m ≡ (below k G).auxiliaries m + T.auxiliaries (groups k m)
  auxiliaries_are = agree.auxiliaries ∙ cond-false (whole k m) _ _ w

  values_are : (t : Option ℕ) → M.values m t ≡ (below k G).values m t ++ T.values (groups k m) (group_place (groups k m) (start k m) t)
  values_are t =
      agree.values t ∙ cond-false (whole k m) _ _ w
      ∙ sym (append_assoc (table (groups k m) (lies (start k m) t)) ((inner k G).values m t) (T.values (groups k m) (group_place (groups k m) (start k m) t)))

agree_self : (M : Meaning) (m : ℕ) → Agree M M m
agree_self M m = record { clauses = refl; auxiliaries = refl; list = λ xs f l. refl; values = λ t. refl }

-- the layer's clauses may be put next: its members form groups and are admitted, and there is room
pub record LayerFit (k : ℕ) (G T M : Meaning) (xs : List ℤ) (first : ℕ) (f : Filled ℤ) : Type 0 where
  pub two : 2 ≤ k
  pub group_law : Lawful G
  pub top_law : Lawful T
  pub agree : Agree M (commander k G T) (length xs)
  pub parted : whole k (length xs) ≡ false
  pub admits : Admits M xs first
  pub room : 2 * M.clauses (length xs) ≤ length f.rest

module _ {k : ℕ} {G T M : Meaning} {xs : List ℤ} {first : ℕ} {f : Filled ℤ} (h : LayerFit k G T M xs first f) where
  abbrev count : ℕ
  count = groups k (length xs)

  abbrev places_of : ℕ → ℕ
  places_of = start k (length xs)

  abbrev above : ℕ
  above = first + (below k G).auxiliaries (length xs)

  parted_so : Formed k (length xs) count places_of
  parted_so = rule_forms k (length xs) (omega (arith, h.two))

  all_ok : Admitted xs first ((grouped count places_of G T).auxiliaries (length xs))
  all_ok = subst (λ a. Admitted xs first a) (auxiliaries_are k (length xs) G T M h.agree h.parted) h.admits

  few_groups : count ≤ most_members
  few_groups = let a = groups_most k (length xs) (omega (arith, h.two)) in omega (arith, h.admits.few)

  list_is : M.list xs first ≡ (below k G).list xs first ++ T.list (commanders count first) above
  list_is =
      let a : first + count + (inner k G).auxiliaries (length xs) ≡ above = omega arith in
      h.agree.list xs first refl ∙ cond-false (whole k (length xs)) _ _ h.parted
      ∙ ap (λ z. (inner k G).list xs (first + count) ++ (links count places_of xs first ++ T.list (commanders count first) z)) a
      ∙ sym (append_assoc ((inner k G).list xs (first + count)) (links count places_of xs first) (T.list (commanders count first) above))

  top_admitted : Admits T (commanders count first) above
  top_admitted =
      let a : first + count + (inner k G).auxiliaries (length xs) ≡ above = omega arith in
      subst (λ z. Admits T (commanders count first) z) a (top_admits k count places_of xs parted_so G T first all_ok few_groups)

  length_below : length (flat ((below k G).list xs first)) ≡ 2 * (below k G).clauses (length xs)
  length_below =
      let a = length_lists k count places_of xs parted_so G T first all_ok few_groups h.group_law h.top_law in
      let b = length_links k count places_of xs parted_so G T first all_ok few_groups in
      let c = length-append ((inner k G).list xs (first + count)) (links count places_of xs first) in
      let d = length_flat ((below k G).list xs first) in
      omega arith

  pub below_admits : Admits (below k G) xs first
  below_admits = record { few = all_ok.few; starts = all_ok.starts; fits = omega (arith, all_ok.fits); proper = all_ok.proper }

  pub below_room : (m : ℕ) → m ≡ length xs → 2 * (below k G).clauses m ≤ length f.rest
  below_room m em =
      let e = clauses_are k (length xs) G T M h.agree h.parted in
      let r = h.room in
      subst (λ q. 2 * (below k G).clauses q ≤ length f.rest) (sym em) (omega arith)

  -- what is below the top, and then the top's clauses over the commanders
  module _ (now : Filled ℤ) (m : ℕ) (em : m ≡ length xs) (n : ℕ) (names : List ℤ) (next : ℕ) (e : now ≡ after f (flat ((below k G).list xs first)))
      (en : n ≡ groups k m) (ey : take n names ≡ table n (λ i. pos (min (first + i) last_end))) (ea : next ≡ first + (below k G).auxiliaries m) where
    names_are : take n names ≡ commanders count first
    names_are =
        let b = all_ok.fits in
        let c : n ≡ count = en ∙ ap (groups k) em in
        ey ∙ ap (λ q. table q (λ i. pos (min (first + i) last_end))) c ∙ same_names count (omega arith)
      where
        same_names : (c : ℕ) → first + c ≤ last_end → table c (λ i. pos (min (first + i) last_end)) ≡ commanders c first
        same_names zero l = refl
        same_names (suc c) l =
            let z : suc c ≡ c + 1 = omega arith in
            let y : min (first + c) last_end ≡ first + c = omega arith in
            ap (λ q. table q (λ i. pos (min (first + i) last_end))) z
            ∙ map-range_with_len_more (λ i. pos (min (first + i) last_end)) 0 c c (omega arith)
            ∙ ap (λ ys. ys ++ (pos (min (first + c) last_end) ∷ [])) (same_names c (omega arith))
            ∙ ap (λ q. commanders c first ++ (pos q ∷ [])) y
            ∙ sym (map-range_with_len_more (auxiliary first) 0 c c (omega arith))
            ∙ ap (λ q. commanders q first) (sym z)

    next_is : next ≡ above
    next_is = ea ∙ ap (λ q. first + (below k G).auxiliaries q) em

    length_names : length (take n names) ≡ count
    length_names = ap length names_are ∙ length_commanders count first

    pub top_shorter : length (take n names) < length xs
    top_shorter =
        let l = length_names in
        let f = groups_fewer k (length xs) count places_of parted_so h.two (not_whole k (length xs) h.parted).1 in
        omega arith

    pub top_admits_names : Admits T (take n names) next
    top_admits_names = subst (λ y. Admits T y next) (sym names_are) (subst (λ a. Admits T (commanders count first) a) (sym next_is) top_admitted)

    pub top_room : 2 * T.clauses (length (take n names)) ≤ length now.rest
    top_room =
        let c = clauses_are k (length xs) G T M h.agree h.parted in
        let l : T.clauses (length (take n names)) ≡ T.clauses count = ap T.clauses length_names in
        let b = length_below in
        let r = h.room in
        let z = ap (λ (z : Filled ℤ). length z.rest) e ∙ length-drop (length (flat ((below k G).list xs first))) f.rest in
        omega arith

    all_put : after now (flat (T.list (take n names) next)) ≡ after f (flat (M.list xs first))
    all_put =
        ap (λ z. after z (flat (T.list (take n names) next))) e
        ∙ ap (λ L. after (after f (flat ((below k G).list xs first))) (flat L)) (ap (λ y. T.list y next) names_are ∙ ap (T.list (commanders count first)) next_is)
        ∙ lists_join ((below k G).list xs first) (T.list (commanders count first) above) f
        ∙ ap (λ (L : List Clause). after f (flat L)) (sym list_is)

    pub top_put : (new : Filled ℤ) → new ≡ after now (flat (T.list (take n names) next)) → new ≡ after f (flat (M.list xs first))
    top_put new e' = e' ∙ all_put

    -- where the top is asked by its own call
    pub top_next : (z : ℤ) → z ≡ pos next → (r : Result (Unit {0}) Fault) (new : Filled ℤ) → r ≡ write_answer T (take n names) z now.rest → new ≡ clauses_appended T (take n names) z now
        → (r ≡ Ok tt) × (new ≡ after f (flat (M.list xs first)))
    top_next z ez r new er en' =
        let c = clauses_granted T (take n names) next now top_admits_names top_room in
        (er ∙ ap (λ x. write_answer T (take n names) x now.rest) ez ∙ c.0, en' ∙ ap (λ x. clauses_appended T (take n names) x now) ez ∙ c.1 ∙ all_put)

-- the same of the values
pub record ValuesFit (k : ℕ) (G T M : Meaning) (m : ℕ) (t : Option ℕ) (f : Filled ℕ) : Type 0 where
  pub one : 1 ≤ k
  pub few : m ≤ most_members
  pub group_law : Lawful G
  pub agree : Agree M (commander k G T) m
  pub parted : whole k m ≡ false
  pub within : Within t m
  pub room : M.auxiliaries m ≤ length f.rest

module _ {k : ℕ} {G T M : Meaning} {m : ℕ} {t : Option ℕ} {f : Filled ℕ} (h : ValuesFit k G T M m t f) where
  forms : Formed k m (groups k m) (start k m)
  forms = rule_forms k m h.one

  length_below_values : length ((below k G).values m t) ≡ (below k G).auxiliaries m
  length_below_values =
      let a = length-append (table (groups k m) (lies (start k m) t)) ((inner k G).values m t) in
      let b : length (table (groups k m) (lies (start k m) t)) ≡ groups k m = length-map-range_with_len (lies (start k m) t) 0 (groups k m) in
      let c = length_inner k m (groups k m) (start k m) forms h.few G h.group_law t in
      omega arith

  module _ (now : Filled ℕ) (q : ℕ) (eq : q ≡ m) (n : ℕ) (tp : Option ℕ) (e : now ≡ after f (map byte ((below k G).values q t)))
      (en : n ≡ groups k q) (et : tp ≡ group_place (groups k q) (start k q) t) where
    put_so : now ≡ after f (map byte ((below k G).values m t))
    put_so = e ∙ ap (λ i. after f (map byte ((below k G).values i t))) eq

    count_so : n ≡ groups k m
    count_so = en ∙ ap (groups k) eq

    place_so : tp ≡ group_place (groups k m) (start k m) t
    place_so = et ∙ ap (λ i. group_place (groups k i) (start k i) t) eq

    top_few : n ≤ most_members
    top_few = let a = groups_most k m h.one in let b = h.few in let c = count_so in omega arith

    pub top_within : Within tp n
    top_within =
        subst (λ o. Within o n) (sym place_so)
        (subst (λ j. Within (group_place (groups k m) (start k m) t) j) (sym count_so) (within_groups k m (groups k m) (start k m) forms t h.within))

    pub top_values_room : T.auxiliaries n ≤ length now.rest
    top_values_room =
        let a = auxiliaries_are k m G T M h.agree h.parted in
        let l = ap T.auxiliaries count_so in
        let b = length_below_values in
        let c = length-map ((below k G).values m t) byte in
        let r = h.room in
        let z = ap (λ (z : Filled ℕ). length z.rest) put_so ∙ length-drop (length (map byte ((below k G).values m t))) f.rest in
        omega arith

    pub top_values_put : (new : Filled ℕ) → new ≡ after now (map byte (T.values n tp)) → new ≡ after f (map byte (M.values m t))
    top_values_put new e' =
        e' ∙ ap (λ z. after z (map byte (T.values n tp))) put_so
        ∙ ap (λ vs. after (after f (map byte ((below k G).values m t))) (map byte vs)) (ap (λ j. T.values j tp) count_so ∙ ap (T.values (groups k m)) place_so)
        ∙ values_join ((below k G).values m t) (T.values (groups k m) (group_place (groups k m) (start k m) t)) f
        ∙ ap (λ vs. after f (map byte vs)) (sym (values_are k m G T M h.agree h.parted t))

    -- where the top is asked by its own call
    pub top_values_next : (r : Result (Unit {0}) Fault) (new : Filled ℕ) → r ≡ values_answer T n tp now.rest → new ≡ values_appended T n tp now
        → (r ≡ Ok tt) × (new ≡ after f (map byte (M.values m t)))
    top_values_next r new er en' =
        let c = values_granted T n tp now top_few top_within top_values_room in
        (er ∙ c.0, top_values_put new (en' ∙ c.1))

agrees : (k j : ℕ) (G T : Meaning) (q : ℕ) → j ≡ k → Agree (commander k G T) (commander j G T) q
agrees k j G T q ej = subst (λ i. Agree (commander k G T) (commander i G T) q) (sym ej) (agree_self (commander k G T) q)

-- a commander that has checked its members or its place
module _ {k j q : ℕ} {G T : Meaning} (gl : Lawful G) (tl : Lawful T) (two : 2 ≤ k) (ej : j ≡ k) (w : whole j q ≡ false) where
  pub commander_fit : (xs : List ℤ) (first : ℤ) (out : List ℤ) (z : ℕ) → q ≡ length xs
      → Ok z ≡ answer (clauses_fit (commander k G T) xs first) (clauses_room (commander k G T) xs out) (nat_abs first)
      → (name : GName) (f : Filled ℤ) → f ≡ record { put = []; rest = out; lender = name } → LayerFit j G T (commander k G T) xs z f
  commander_fit xs first out z eq checked name f ef =
      let a = write_admitted (commander k G T) (commander_lawful k two G T gl tl) xs first out z checked in
      record {
        two = omega arith;
        group_law = gl;
        top_law = tl;
        agree = agrees k j G T (length xs) ej;
        parted = ap (whole j) (sym eq) ∙ w;
        admits = a.0;
        room = subst (λ (b : Filled ℤ). 2 * (commander k G T).clauses (length xs) ≤ length b.rest) (sym ef) a.1;
      }

  pub commander_values_fit : (m : ℕ) (t : Option ℕ) (out : List ℕ) → q ≡ m → Ok tt ≡ values_answer (commander k G T) m t out
      → (name : GName) (f : Filled ℕ) → f ≡ record { put = []; rest = out; lender = name } → ValuesFit j G T (commander k G T) m t f
  commander_values_fit m t out eq checked name f ef =
      let a = values_admitted (commander k G T) (commander_lawful k two G T gl tl) m t out checked in
      record {
        one = omega arith;
        few = a.0;
        group_law = gl;
        agree = agrees k j G T m ej;
        parted = ap (whole j) (sym eq) ∙ w;
        within = a.1;
        room = subst (λ (b : Filled ℕ). (commander k G T).auxiliaries m ≤ length b.rest) (sym ef) a.2;
      }

pub tower_at : (j q : ℕ) → j ≡ 3 → Agree tower (commander j pairwise tower) q
tower_at j q ej = subst (λ i. Agree tower (commander i pairwise tower) q) (sym ej) (tower_above q)

-- a tower whose members form groups
pub tower_fit : {j q : ℕ} (xs : List ℤ) (first : ℕ) (f : Filled ℤ) → j ≡ 3 → q ≡ length xs → whole j q ≡ false → Admits tower xs first
    → 2 * tower.clauses (length xs) ≤ length f.rest → LayerFit j pairwise tower tower xs first f
tower_fit {j} xs first f ej eq w ok room = record {
  two = omega arith;
  group_law = pairwise_lawful;
  top_law = tower_lawful;
  agree = tower_at j (length xs) ej;
  parted = ap (whole j) (sym eq) ∙ w;
  admits = ok;
  room = room;
}

pub tower_values_fit : {j q : ℕ} (m : ℕ) (t : Option ℕ) (f : Filled ℕ) → j ≡ 3 → q ≡ m → whole j q ≡ false → m ≤ most_members → Within t m
    → tower.auxiliaries m ≤ length f.rest → ValuesFit j pairwise tower tower m t f
tower_values_fit {j} m t f ej eq w few wi room = record {
  one = omega arith;
  few = few;
  group_law = pairwise_lawful;
  agree = tower_at j m ej;
  parted = ap (whole j) (sym eq) ∙ w;
  within = wi;
  room = room;
}

-- where they form no groups
module _ (k m : ℕ) (G T M : Meaning) (agree : Agree M (commander k G T) m) (w : whole k m ≡ true) where
  whole_clauses : M.clauses m ≡ G.clauses m
  whole_clauses = agree.clauses ∙ cond-true (whole k m) _ _ w

  whole_auxiliaries : M.auxiliaries m ≡ G.auxiliaries m
  whole_auxiliaries = agree.auxiliaries ∙ cond-true (whole k m) _ _ w

  whole_list : (xs : List ℤ) (first : ℕ) → length xs ≡ m → M.list xs first ≡ G.list xs first
  whole_list xs first l = agree.list xs first l ∙ cond-true (whole k (length xs)) _ _ (ap (whole k) l ∙ w)

-- a tower on the ground
pub ground_put : (xs : List ℤ) (first : ℕ) (f : Filled ℤ) → whole 3 (length xs) ≡ true → Admits tower xs first → 2 * tower.clauses (length xs) ≤ length f.rest
    → (z : ℤ) → z ≡ pos first → (r : Result (Unit {0}) Fault) (new : Filled ℤ) → r ≡ write_answer pairwise xs z f.rest → new ≡ clauses_appended pairwise xs z f
    → (r ≡ Ok tt) × (new ≡ after f (flat (tower.list xs first)))
ground_put xs first f w ok room z ez r new er en =
    let a = whole_clauses 3 (length xs) pairwise tower tower (tower_above (length xs)) w in
    let b = whole_auxiliaries 3 (length xs) pairwise tower tower (tower_above (length xs)) w in
    let c = clauses_granted pairwise xs first f (subst (λ q. Admitted xs first q) b ok) (omega arith) in (
      er ∙ ap (λ x. write_answer pairwise xs x f.rest) ez ∙ c.0,
      en ∙ ap (λ x. clauses_appended pairwise xs x f) ez ∙ c.1
          ∙ ap (λ (L : List Clause). after f (flat L)) (sym (whole_list 3 (length xs) pairwise tower tower (tower_above (length xs)) w xs first refl)),
    )
