-- The commander of k over a group encoder and a top encoder: each group of members has a commander, an auxiliary that is true
-- where a member of the group is, and the top encoder keeps the commanders apart.
use Rattle.std.specs.Prelude.{ℕ, ◌+◌, min, max, Bool, cond, ◌||◌, List, [], ◌∷◌, ◌++◌, length, take, drop, ℤ, nat_le, nat_lt}
use Rattle.logic.specs.Literal.{complement}
use Rattle.logic.specs.Clause.{Clause}
use Rattle.encoder_theory.specs.Each.{each, table}
use Rattle.encoder_theory.specs.Members.{member, auxiliary}
use Rattle.encoder_theory.specs.Meaning.{Meaning}
use Rattle.layer_theory.specs.Grouping.{groups, start, size, sum, group_of, group_place, lies, place_in}

-- the members of group i
abbrev pub group : (ℕ → ℕ) → List ℤ → ℕ → List ℤ
group start xs i = take (size start i) (drop (start i) xs)

-- the list of group i, whose auxiliaries follow those of the groups before it; the first group's are numbered from first
abbrev pub group_list : Meaning → (ℕ → ℕ) → List ℤ → ℕ → ℕ → List Clause
group_list G start xs first i = G.list (group start xs i) (first + sum i (λ j. G.auxiliaries (size start j)))

-- a true member makes the commander of its group true
abbrev pub link : ℕ → (ℕ → ℕ) → List ℤ → ℕ → ℕ → Clause
link n start xs first p = (auxiliary first (group_of n start p), complement (member xs p))

abbrev pub links : ℕ → (ℕ → ℕ) → List ℤ → ℕ → List Clause
links n start xs first = each 0 (length xs) (λ p. link n start xs first p ∷ [])

-- the n commanders, numbered from first
abbrev pub commanders : ℕ → ℕ → List ℤ
commanders n first = table n (auxiliary first)

-- n groups that begin at the places start 0, start 1, ..: the commanders come first among the auxiliaries, then the groups', then the top's;
-- the groups' lists come first among the clauses, then a link for each member, then the top's list over the commanders
abbrev pub grouped : ℕ → (ℕ → ℕ) → Meaning → Meaning → Meaning
grouped n start G T = record {
  clauses = λ m. sum n (λ i. G.clauses (size start i)) + m + T.clauses n;
  auxiliaries = λ m. n + sum n (λ i. G.auxiliaries (size start i)) + T.auxiliaries n;
  list = λ xs first.
      each 0 n (group_list G start xs (first + n))
      ++ (links n start xs first
      ++ T.list (commanders n first) (first + n + sum n (λ i. G.auxiliaries (size start i))));
  values = λ m t.
      table n (lies start t)
      ++ (each 0 n (λ i. G.values (size start i) (place_in start t i))
      ++ T.values n (group_place n start t));
}

-- what the group encoder says of all groups of m members, one after another
abbrev pub inner : ℕ → Meaning → Meaning
inner k G = record {
  clauses = λ m. sum (groups k m) (λ i. G.clauses (size (start k m) i));
  auxiliaries = λ m. sum (groups k m) (λ i. G.auxiliaries (size (start k m) i));
  list = λ xs first. each 0 (groups k (length xs)) (group_list G (start k (length xs)) xs first);
  values = λ m t. each 0 (groups k m) (λ i. G.values (size (start k m) i) (place_in (start k m) t i));
}

-- all that stands below the top: the groups with their commanders and links
abbrev pub below : ℕ → Meaning → Meaning
below k G = record {
  clauses = λ m. (inner k G).clauses m + m;
  auxiliaries = λ m. groups k m + (inner k G).auxiliaries m;
  list = λ xs first. (inner k G).list xs (first + groups k (length xs)) ++ links (groups k (length xs)) (start k (length xs)) xs first;
  values = λ m t. table (groups k m) (lies (start k m) t) ++ (inner k G).values m t;
}

-- fewer than six members, or at most k, form no groups
abbrev pub whole : ℕ → ℕ → Bool
whole k m = nat_lt m 6 || nat_le m k

-- they go whole to the group encoder
abbrev pub commander : ℕ → Meaning → Meaning → Meaning
commander k G T = record {
  clauses = λ m. cond (whole k m) (G.clauses m) ((grouped (groups k m) (start k m) G T).clauses m);
  auxiliaries = λ m. cond (whole k m) (G.auxiliaries m) ((grouped (groups k m) (start k m) G T).auxiliaries m);
  list = λ xs first. cond (whole k (length xs)) (G.list xs first) ((grouped (groups k (length xs)) (start k (length xs)) G T).list xs first);
  values = λ m t. cond (whole k m) (G.values m t) ((grouped (groups k m) (start k m) G T).values m t);
}

-- the k of a commander is from 2 to 16: made with less it is 2, with more 16
abbrev pub clamped : ℕ → ℕ
clamped k = min (max k 2) 16
