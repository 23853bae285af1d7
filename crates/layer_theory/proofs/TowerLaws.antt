-- The tower keeps the laws, and is a commander of three whose top is the tower itself.
use Rattle.std.proofs.Common.{◌≡◌, ℕ, zero, suc, ◌+◌, ◌<◌, ◌≤◌, Bool, true, false, cond, ltb, leb, ◌++◌, length, sym, refl, ap, ◌∙◌, arith}
use Rattle.std.proofs.lemmas.Bool.{lt-ltb, cond-true, or_left}
use Rattle.encoder_theory.specs.Each.{each, table}
use Rattle.encoder_theory.specs.Meaning.{Meaning}
use Rattle.encoder_theory.specs.Laws.{Lawful}
use Rattle.encoder_theory.specs.Pairwise.{pairwise}
use Rattle.encoder_theory.proofs.PairwiseLaws.{pairwise_lawful}
use Rattle.layer_theory.specs.Grouping.{groups, start, size, sum, group_place, lies, place_in}
use Rattle.layer_theory.specs.Commander.{group_list, links, commanders, whole, commander}
use Rattle.layer_theory.specs.Tower.{storeys, tower, over_itself}
use Rattle.layer_theory.specs.Theorems.{Agree, TowerBuilt}
use Rattle.layer_theory.proofs.Parts.{length_commanders}
use Rattle.layer_theory.proofs.Rule.{rule_forms}
use Rattle.layer_theory.proofs.Bounds.{groups_fewer}
use Rattle.layer_theory.proofs.CommanderLaws.{not_whole, commander_lawful}

cond_same : {X : Type 0} (b : Bool) (x y z : X) → (b ≡ false → y ≡ z) → cond b x y ≡ cond b x z
cond_same true x y z h = refl
cond_same false x y z h = h refl

-- a top that agrees on the commanders makes a commander that agrees
commander_agree : (k : ℕ) (G T U : Meaning) (m : ℕ) → (whole k m ≡ false → Agree T U (groups k m)) → Agree (commander k G T) (commander k G U) m
commander_agree k G T U m h = record {
  clauses = cond_same (whole k m) _ _ _ (λ e. ap (λ q. sum (groups k m) (λ i. G.clauses (size (start k m) i)) + m + q) (h e).clauses);
  auxiliaries = cond_same (whole k m) _ _ _ (λ e. ap (λ q. groups k m + sum (groups k m) (λ i. G.auxiliaries (size (start k m) i)) + q) (h e).auxiliaries);
  list = λ xs first l. cond_same (whole k (length xs)) _ _ _ (λ e.
      let n = groups k (length xs) in
      let s = start k (length xs) in
      ap (λ q. each 0 n (group_list G s xs (first + n)) ++ (links n s xs first ++ q))
      ((h (ap (whole k) (sym l) ∙ e)).list (commanders n first) (first + n + sum n (λ i. G.auxiliaries (size s i))) (length_commanders n first ∙ ap (groups k) l)));
  values = λ t. cond_same (whole k m) _ _ _ (λ e.
      ap (λ q. table (groups k m) (lies (start k m) t) ++ (each 0 (groups k m) (λ i. G.values (size (start k m) i) (place_in (start k m) t i)) ++ q))
      ((h e).values (group_place (groups k m) (start k m) t)));
}

-- a third of the members is fewer
pub third_fewer : (m : ℕ) → whole 3 m ≡ false → groups 3 m < m
third_fewer m e = groups_fewer 3 m (groups 3 m) (start 3 m) (rule_forms 3 m (omega arith)) (omega arith) (not_whole 3 m e).1

small_whole : (m : ℕ) → m ≤ 5 → whole 3 m ≡ true
small_whole m h = or_left (ltb m 6) (leb m 3) (lt-ltb m 6 (omega arith))

ground : (T : Meaning) (m : ℕ) → m ≤ 5 → Agree (commander 3 pairwise T) pairwise m
ground T m h = record {
  clauses = cond-true (whole 3 m) _ _ (small_whole m h);
  auxiliaries = cond-true (whole 3 m) _ _ (small_whole m h);
  list = λ xs first l. cond-true (whole 3 (length xs)) _ _ (small_whole (length xs) (omega arith));
  values = λ t. cond-true (whole 3 m) _ _ (small_whole m h);
}

turned : (M N : Meaning) (m : ℕ) → Agree M N m → Agree N M m
turned M N m s = record { clauses = sym s.clauses; auxiliaries = sym s.auxiliaries; list = λ xs f l. sym (s.list xs f l); values = λ t. sym (s.values t) }

joined : (K M N : Meaning) (m : ℕ) → Agree K M m → Agree M N m → Agree K N m
joined K M N m s r = record {
  clauses = s.clauses ∙ r.clauses;
  auxiliaries = s.auxiliaries ∙ r.auxiliaries;
  list = λ xs f l. s.list xs f l ∙ r.list xs f l;
  values = λ t. s.values t ∙ r.values t;
}

-- enough storeys agree, however many
levels : (d e m : ℕ) → m ≤ d → m ≤ e → Agree (storeys d) (storeys e) m
levels zero zero m h k = record { clauses = refl; auxiliaries = refl; list = λ xs f l. refl; values = λ t. refl }
levels zero (suc e) m h k = turned (storeys (suc e)) pairwise m (ground (storeys e) m (omega arith))
levels (suc d) zero m h k = ground (storeys d) m (omega arith)
levels (suc d) (suc e) m h k =
    commander_agree 3 pairwise (storeys d) (storeys e) m (λ w. let f = third_fewer m w in levels d e (groups 3 m) (omega arith) (omega arith))

-- the tower of m members is that of any storeys enough for m
enough : (d m : ℕ) → m ≤ d → Agree (storeys d) tower m
enough d m h =
    let s = levels d m m h (omega arith) in
    record {
      clauses = s.clauses;
      auxiliaries = s.auxiliaries;
      list = λ xs f l. s.list xs f l ∙ ap (λ q. (storeys q).list xs f) (sym l);
      values = s.values;
    }

pub tower_above : (m : ℕ) → Agree tower over_itself m
tower_above m =
    joined tower (storeys (suc m)) over_itself m (turned (storeys (suc m)) tower m (enough (suc m) m (omega arith)))
    (commander_agree 3 pairwise (storeys m) tower m (λ w. let f = third_fewer m w in enough m (groups 3 m) (omega arith)))

pub tower_built : TowerBuilt
tower_built = record {
  ground = λ m h. joined tower over_itself pairwise m (tower_above m) (ground tower m h);
  above = tower_above;
}

storeys_lawful : (d : ℕ) → Lawful (storeys d)
storeys_lawful zero = pairwise_lawful
storeys_lawful (suc d) = commander_lawful 3 (omega arith) pairwise (storeys d) pairwise_lawful (storeys_lawful d)

pub tower_lawful : Lawful tower
tower_lawful = record {
  well_formed = record {
    counted = λ xs. (storeys_lawful (length xs)).well_formed.counted xs;
    own = λ xs. (storeys_lawful (length xs)).well_formed.own xs;
    valued = λ m. (storeys_lawful m).well_formed.valued m;
  };
  at_most_one = λ xs. (storeys_lawful (length xs)).at_most_one xs;
  completable = λ xs. (storeys_lawful (length xs)).completable xs;
  exact_chains = λ xs. (storeys_lawful (length xs)).exact_chains xs;
  bounded = record {
    clauses = λ m. (storeys_lawful m).bounded.clauses m;
    auxiliaries = λ m. (storeys_lawful m).bounded.auxiliaries m;
  };
}
