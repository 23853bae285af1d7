-- A walk along a list of numbers from clause to clause passes its clauses in order.
use Rattle.std.proofs.Common.{◌≡◌, ℕ, zero, suc, ◌+◌, ◌-◌, ◌<◌, ◌≤◌, Bool, true, false, cond, not, List, [], ◌∷◌, ◌++◌, map, length, take, drop, ℤ, pos, is_some, Some, None, position, sym, refl, ap, ◌∙◌, subst, append_assoc, arith}
use Rattle.std.proofs.lemmas.List.{map-append, length-drop, take_all}
use Rattle.std.specs.List.{position_or_len}
use Rattle.std.specs.Option.{option_to_list}
use Rattle.dimacs.specs.Clauses.{numbers, closes, LiteralsOf, ClausesOf}
use Rattle.network_theory.specs.Calls.{most_variables}
use Rattle.network_theory.specs.declared.Call.TheVariants.{Add}
use Rattle.compaction_theory.specs.Sorted.{onto, clauses_in, conflict_of, conflicts_of, others_of}
use Rattle.compaction_theory.specs.Buffers.{asked}
use Rattle.compaction_theory.specs.Walks.{Small, Copied}
use Rattle.compaction_theory.proofs.Lines.{first_there, never_there}

-- ---- the first clause

abbrev end_of : List ℤ → ℕ
end_of xs = position_or_len closes xs

-- where the first number is no 0, the first 0 stands one place later than in the rest
end_later : (z : ℤ) (zs : List ℤ) → closes z ≡ false → end_of (z ∷ zs) ≡ suc (end_of zs)
end_later z zs e = let one : 1 + end_of zs ≡ suc (end_of zs) = omega arith in ap (λ t. cond (not t) (1 + end_of zs) 0) e ∙ one

-- what stands before the first 0 is the first clause
cut : (xs : List ℤ) → end_of xs < length xs → clauses_in xs ≡ take (end_of xs) xs ∷ clauses_in (drop (end_of xs + 1) xs)
cut [] h = absurd (omega arith)
cut (z ∷ zs) h = by (closes z) refl (cut zs)
  where
    by : (b : Bool) → closes z ≡ b → (end_of zs < length zs → clauses_in zs ≡ take (end_of zs) zs ∷ clauses_in (drop (end_of zs + 1) zs))
        → clauses_in (z ∷ zs) ≡ take (end_of (z ∷ zs)) (z ∷ zs) ∷ clauses_in (drop (end_of (z ∷ zs) + 1) (z ∷ zs))
    by true e later_cut =
        let none : end_of (z ∷ zs) ≡ 0 = ap (λ t. cond (not t) (1 + end_of zs) 0) e in
        ap (λ t. cond t ([] ∷ clauses_in zs) (onto z (clauses_in zs))) e ∙ sym (ap (λ k. take k (z ∷ zs) ∷ clauses_in (drop (k + 1) (z ∷ zs))) none)
    by false e later_cut =
        let later = end_later z zs e in
        let two : suc (end_of zs) + 1 ≡ suc (end_of zs + 1) = omega arith in
        ap (λ t. cond t ([] ∷ clauses_in zs) (onto z (clauses_in zs))) e
        ∙ ap (onto z) (later_cut (omega (arith, later)))
        ∙ sym (ap (λ k. take k (z ∷ zs) ∷ clauses_in (drop (k + 1) (z ∷ zs))) later ∙ ap (λ k. (z ∷ take (end_of zs) zs) ∷ clauses_in (drop k (z ∷ zs))) two)

-- what no 0 closes is no clause
uncut : (xs : List ℤ) → length xs ≤ end_of xs → clauses_in xs ≡ []
uncut [] h = refl
uncut (z ∷ zs) h = by (closes z) refl (uncut zs)
  where
    by : (b : Bool) → closes z ≡ b → (length zs ≤ end_of zs → clauses_in zs ≡ []) → clauses_in (z ∷ zs) ≡ []
    by true e later = let none : end_of (z ∷ zs) ≡ 0 = ap (λ t. cond (not t) (1 + end_of zs) 0) e in absurd (omega arith)
    by false e later = ap (λ t. cond t ([] ∷ clauses_in zs) (onto z (clauses_in zs))) e ∙ ap (onto z) (later (omega (arith, end_later z zs e)))

pub first_clause : (xs : List ℤ) (end : ℕ) → Some end ≡ position closes xs
    → clauses_in xs ≡ take end xs ∷ clauses_in (take (length xs - (end + 1)) (drop (end + 1) xs))
first_clause xs end e =
    let first = first_there closes xs end e in
    let all : take (length xs - (end + 1)) (drop (end + 1) xs) ≡ drop (end + 1) xs =
    take_all (length xs - (end + 1)) (drop (end + 1) xs) (omega (arith, length-drop (end + 1) xs)) in
    cut xs (omega arith)
    ∙ ap (λ k. take k xs ∷ clauses_in (drop (k + 1) xs)) first.0
    ∙ ap (λ l. take end xs ∷ clauses_in l) (sym all)

pub no_clause : (xs : List ℤ) → None ≡ position closes xs → clauses_in xs ≡ []
no_clause xs e = uncut xs (never_there closes xs e)

-- ---- the literals of a clause are small

pub literals_small : (n : ℕ) (c : List ℤ) → n ≤ most_variables → LiteralsOf n c → Small c
literals_small n [] few l i h = absurd (omega arith)
literals_small n (a ∷ c) few l zero h = let w = l.0.1 in omega arith
literals_small n (a ∷ c) few l (suc i) h = literals_small n c few l.1 i (omega arith)

-- ---- what is made of the clauses so far, and of one more

pub conflicts_more : (cs : List (List ℤ)) (c : List ℤ) → conflicts_of (cs ++ c ∷ []) ≡ conflicts_of cs ++ conflicts_of (c ∷ [])
conflicts_more [] c = refl
conflicts_more (d ∷ cs) c =
    ap (λ l. option_to_list (conflict_of d) ++ l) (conflicts_more cs c) ∙ sym (append_assoc (option_to_list (conflict_of d)) (conflicts_of cs) (conflicts_of (c ∷ [])))

pub asked_more : (cs : List (List ℤ)) (c : List ℤ) → asked (cs ++ c ∷ []) ≡ asked cs ++ asked (c ∷ [])
asked_more cs c = ap (map (λ (p : ℤ × ℤ). Add p.0 p.1)) (conflicts_more cs c) ∙ map-append (λ (p : ℤ × ℤ). Add p.0 p.1) (conflicts_of cs) (conflicts_of (c ∷ []))

others_append : (cs ds : List (List ℤ)) → others_of (cs ++ ds) ≡ others_of cs ++ others_of ds
others_append [] ds = refl
others_append (c ∷ cs) ds =
    elim (is_some (conflict_of c)) as (λ b. cond b (others_of (cs ++ ds)) (c ∷ others_of (cs ++ ds)) ≡ cond b (others_of cs) (c ∷ others_of cs) ++ others_of ds)
    [ true ↦ others_append cs ds | false ↦ ap (λ l. c ∷ l) (others_append cs ds) ]

pub numbers_append : (cs ds : List (List ℤ)) → numbers (cs ++ ds) ≡ numbers cs ++ numbers ds
numbers_append [] ds = refl
numbers_append (c ∷ cs) ds =
    ap (λ l. c ++ pos 0 ∷ l) (numbers_append cs ds) ∙ sym (append_assoc c (pos 0 ∷ numbers cs) (numbers ds))

pub copied_next : (n : ℕ) (clauses rest : List (List ℤ)) (c : List ℤ) (left : List (List ℤ)) (before put : List ℤ)
    → Copied n clauses rest before put → rest ≡ c ∷ left → LiteralsOf n c
copied_next n clauses rest c left before put h r = (subst (ClausesOf n) r h.literals).0
