-- The account as the program counts it: new conflicts while they are added, closing zeros for clauses.
use Rattle.std.proofs.Common.{◌≡◌, ℕ, ◌+◌, ◌*◌, ◌≤◌, Bool, true, false, cond, not, ◌&&◌, ltb, List, [], ◌∷◌, ◌++◌, length, take, ℤ, is_ok, Some, None, Ok, Err, Option, Result, sym, refl, ap, ◌∙◌, subst, inl, append-nil, append_assoc, arith, length-append}
use Rattle.std.proofs.lemmas.Bool.{cond-true, cond-false, false≢true, lt-ltb}
use Rattle.std.specs.Option.{option_to_list}
use Rattle.fault.specs.declared.Fault.{Fault}
use Rattle.fault.specs.declared.Refusal.{Refusal}
use Rattle.logic.specs.Literal.{index}
use Rattle.logic.specs.Clause.{In}
use Rattle.logic.proofs.Literals.{index_below}
use Rattle.dimacs.specs.declared.Summary.{Summary}
use Rattle.dimacs.specs.Clauses.{numbers, LiteralsOf, ClausesOf, closes, closings}
use Rattle.dimacs.specs.Reading.{reading}
use Rattle.dimacs.proofs.Gathering.{numbers_count}
use Rattle.encoder_theory.specs.Meaning.{Meaning}
use Rattle.network_theory.specs.declared.Call.{Call}
use Rattle.network_theory.specs.declared.Call.TheVariants.{Add}
use Rattle.network_theory.specs.Layout.{Net, stands}
use Rattle.network_theory.specs.Calls.{answered, objection, add_answer}
use Rattle.network_theory.specs.Runs.{Came}
use Rattle.network_theory.proofs.Decided.{add_answer_decides}
use Rattle.cover_theory.specs.Rows.{Sized}
use Rattle.cover_theory.proofs.Remaining.{sized}
use Rattle.formula_theory.specs.declared.Size.{Size}
use Rattle.formula_theory.specs.Promise.{standing}
use Rattle.compaction_theory.specs.declared.Account.{Account}
use Rattle.compaction_theory.specs.declared.Choice.{Choice}
use Rattle.compaction_theory.specs.declared.Scale.{Scale}
use Rattle.compaction_theory.specs.Sorted.{onto, clauses_in, conflict_of, conflicts_of, related}
use Rattle.compaction_theory.specs.Choices.{encoder_of, meaning_of, most_bytes}
use Rattle.compaction_theory.specs.Printed.{cover_of_clauses, compacted, compacted_variables, variables_fit, count_fault, blank}
use Rattle.compaction_theory.specs.Buffers.{asked, Taken}
use Rattle.compaction_theory.specs.Account.{new_after, differing, account_of, account_read, account_in, new_by, new_to, Counts}
use Rattle.compaction_theory.specs.Walks.{Added}
use Rattle.compaction_theory.specs.Written.{read_within, Holding}
use Rattle.compaction_theory.proofs.Differing.{differing_more}
use Rattle.compaction_theory.proofs.Pairs.{Proper, conflict_proper, clauses_counted}
use Rattle.compaction_theory.proofs.Picked.{lawful_choice}
use Rattle.compaction_theory.proofs.Related.{undeclined, standing_related}
use Rattle.compaction_theory.proofs.Sizes.{covered, compacted_of}
use Rattle.compaction_theory.proofs.Walks.{conflicts_more, asked_more}

-- ---- one clause more on a network

accepted_answer : {X : Type 0} (o : Option Refusal) (x : X) → is_ok (answered o x) ≡ true → answered o x ≡ Ok x
accepted_answer None x h = refl
accepted_answer (Some k) x h = absurd (false≢true h)

turned : (b : Bool) → cond {A = ℕ} (not b) 1 0 ≡ cond b 0 1
turned true = refl
turned false = refl

-- an add of a proper pair is new exactly if the pair does not stand
add_new : (net : Net) (p : ℤ × ℤ) → Proper net.variables p → new_by (add_answer net p.0 p.1) ≡ cond (standing net (index p.0) (index p.1)) 0 1
add_new net p h =
    let n : ℕ = net.variables in
    let u : ℕ = index p.0 in
    let w : ℕ = index p.1 in
    let s : Bool = stands n net.words u w in
    let ok = (add_answer_decides net p.0 p.1).1 (undeclined n p h) in
    let a : add_answer net p.0 p.1 ≡ Ok (not s) = accepted_answer (objection n (Add p.0 p.1)) (not s) ok in
    let x : ltb u (2 * n) ≡ true = lt-ltb u (2 * n) (index_below n p.0 h.0) in
    let y : ltb w (2 * n) ≡ true = lt-ltb w (2 * n) (index_below n p.1 h.1) in
    let e : (ltb u (2 * n) && (ltb w (2 * n) && s)) ≡ s = ap (λ b. b && (ltb w (2 * n) && s)) x ∙ ap (λ b. b && s) y in
    ap new_by a ∙ turned s ∙ ap (λ (b : Bool). cond {A = ℕ} b 0 1) (sym e)

of_left : (n : ℕ) (cs ds : List (List ℤ)) → ClausesOf n (cs ++ ds) → ClausesOf n cs
of_left n [] ds l = tt
of_left n (c ∷ cs) ds l = (l.0, of_left n cs ds l.1)

of_right : (n : ℕ) (cs ds : List (List ℤ)) → ClausesOf n (cs ++ ds) → ClausesOf n ds
of_right n [] ds l = l
of_right n (c ∷ cs) ds l = of_right n cs ds l.1

-- on a network that came by the clauses' calls, a clause more counts as it does among the different conflicts
count_one : (n : ℕ) (cs : List (List ℤ)) (c : List ℤ) → ClausesOf n (cs ++ c ∷ []) → (net : Net) → net.variables ≡ n → Came net (asked cs)
    → differing (conflicts_of (cs ++ c ∷ [])) ≡ differing (conflicts_of cs) + new_to net (conflict_of c)
count_one n cs c l net e came = ap differing (conflicts_more cs c) ∙ by (conflict_of c) refl
  where
    by : (o : Option (ℤ × ℤ)) → conflict_of c ≡ o → differing (conflicts_of cs ++ (option_to_list o ++ [])) ≡ differing (conflicts_of cs) + new_to net o
    by None q = ap differing (append-nil (conflicts_of cs)) ∙ (let z : differing (conflicts_of cs) ≡ differing (conflicts_of cs) + 0 = omega arith in z)
    by (Some p) q =
        let there : In p (option_to_list (conflict_of c) ++ []) = subst (λ (o : Option (ℤ × ℤ)). In p (option_to_list o ++ [])) (sym q) (inl refl) in
        let proper : Proper n p = conflict_proper n (c ∷ []) (of_right n cs (c ∷ []) l) p there in
        let same = standing_related n cs (of_left n cs (c ∷ []) l) net e came in
        let new = add_new net p (subst (λ k. Proper k p) (sym e) proper) in
        let f : cond {A = ℕ} (standing net (index p.0) (index p.1)) 0 1 ≡ cond {A = ℕ} (related (conflicts_of cs) (index p.0) (index p.1)) 0 1 =
        ap (λ (r : ℕ → ℕ → Bool). cond {A = ℕ} (r (index p.0) (index p.1)) 0 1) same in
        differing_more (conflicts_of cs) p ∙ ap (λ k. differing (conflicts_of cs) + k) (sym (new ∙ f))

-- no more conflicts differ than there are clauses
new_below : (seen ps : List (ℤ × ℤ)) → new_after seen ps ≤ length ps
new_below seen [] = omega arith
new_below seen (p ∷ ps) =
    let rest = new_below (seen ++ p ∷ []) ps in
    let one : (b : Bool) → cond {A = ℕ} b 0 1 ≤ 1 = λ b. elim b as (λ t. cond {A = ℕ} t 0 1 ≤ 1) [ true ↦ omega arith | false ↦ omega arith ] in
    omega (arith, one (related seen (index p.0) (index p.1)))

-- ---- the walk along the clauses, while their conflicts are added

-- no more conflicts have been counted than there are clauses
pub added_few : (n : ℕ) (cs left : List (List ℤ)) (net : Net) (k : ℕ) → Taken n cs → Added n cs left net k → k ≤ 1_000_000
added_few n cs left net k t h =
    let below = new_below [] (conflicts_of h.front) in
    let few = t.few_clauses in
    omega (arith, h.counted, clauses_counted h.front, ap length h.parts, length-append h.front left)

-- the clause that comes next,
pub added_next : (n : ℕ) (cs rest : List (List ℤ)) (c : List ℤ) (left : List (List ℤ)) (net : Net) (k : ℕ) → Taken n cs → Added n cs rest net k → rest ≡ c ∷ left → LiteralsOf n c
added_next n cs rest c left net k t h e =
    (subst (ClausesOf n) e (of_right n h.front rest (subst (ClausesOf n) h.parts t.literals))).0

-- and what its conflict adds
pub added_more : (n : ℕ) (cs rest : List (List ℤ)) (c : List ℤ) (left : List (List ℤ)) (net net' : Net) (k more : ℕ) → Taken n cs → Added n cs rest net k → rest ≡ c ∷ left
    → net'.variables ≡ net.variables → ((calls : List Call) → Came net calls → Came net' (calls ++ asked (c ∷ [])))
    → more ≡ new_to net (conflict_of c) → Added n cs left net' (k + more)
added_more n cs rest c left net net' k more t h e same came counted =
    let parts : cs ≡ (h.front ++ c ∷ []) ++ left = h.parts ∙ ap (λ ds. h.front ++ ds) e ∙ sym (append_assoc h.front (c ∷ []) left) in
    let literals : ClausesOf n (h.front ++ c ∷ []) = of_left n (h.front ++ c ∷ []) left (subst (ClausesOf n) parts t.literals) in
    record {
      front = h.front ++ c ∷ [];
      parts = parts;
      variables = same ∙ h.variables;
      came = subst (Came net') (sym (asked_more h.front c)) (came (asked h.front) h.came);
      counted = ap (λ m. k + m) counted ∙ ap (λ m. m + new_to net (conflict_of c)) h.counted ∙ sym (count_one n h.front c literals net h.variables h.came);
    }

-- ---- clauses by the zeros that close them

length_onto : (a : ℤ) (cs : List (List ℤ)) → length (onto a cs) ≡ length cs
length_onto a [] = refl
length_onto a (c ∷ cs) = refl

pub closings_clauses : (xs : List ℤ) → closings xs ≡ length (clauses_in xs)
closings_clauses [] = refl
closings_clauses (z ∷ zs) = by (closes z) (closings_clauses zs)
  where
    by : (b : Bool) → closings zs ≡ length (clauses_in zs) → cond b 1 0 + closings zs ≡ length (cond b ([] ∷ clauses_in zs) (onto z (clauses_in zs)))
    by true e = omega arith
    by false e = let f = length_onto z (clauses_in zs) in omega arith

-- ---- the parts

pub parts_sized : (n : ℕ) (clauses : List (List ℤ)) → Taken n clauses → Sized (cover_of_clauses n clauses).parts
parts_sized n clauses t = sized n (cover_of_clauses n clauses).parts (covered n clauses t.literals).sound

-- ---- the account

-- what was counted is the account
pub account_held : (choice : Choice) (n : ℕ) (clauses : List (List ℤ)) → Taken n clauses → (out : List ℤ) (size : Size) → Holding n clauses (meaning_of choice) out size
    → (conflicts cliques bicliques : ℕ) → Counts n clauses conflicts cliques bicliques
    → (before : ℕ) → before ≡ length clauses
    → (after : ℕ) (zs : List ℤ) → zs ≡ numbers (compacted (meaning_of choice) n clauses) → after ≡ closings zs
    → ◌≡◌ {A = Account} (record { variables = n; conflicts = conflicts; cliques = cliques; bicliques = bicliques; clauses_before = before; clauses_after = after; auxiliaries = size.auxiliaries })
    (account_of (meaning_of choice) n clauses)
account_held choice n clauses t out size h conflicts cliques bicliques k before b after zs z a =
    let M : Meaning = meaning_of choice in
    let count : closings (numbers (compacted M n clauses)) ≡ length (compacted M n clauses) =
    numbers_count (compacted_variables M n clauses) (compacted M n clauses) (compacted_of n clauses t.literals M (lawful_choice choice) t.few t.few_clauses) in
    let c = a ∙ ap closings z ∙ count in
    let x = ap (λ (s : Size). s.auxiliaries) h.counts in
    λ i. record {
      variables = n;
      conflicts = k.differ i;
      cliques = k.in_cliques i;
      bicliques = k.in_bicliques i;
      clauses_before = b i;
      clauses_after = c i;
      auxiliaries = x i;
    }

-- ---- which account is told

read_account : (scale : Scale) (M : Meaning) (r : Result Summary Fault) (list : List ℤ) (s : Summary) → ◌≡◌ {A = Result Summary Fault} (Ok s) (read_within scale r)
    → account_read scale M r list ≡ Some (account_of M s.variables (clauses_in (take s.numbers list)))
read_account scale M (Err g) list s e = let z : ◌≡◌ {A = ℕ} 0 1 = cc in absurd (omega arith)
read_account scale M (Ok t) list s e = by (variables_fit scale t.variables) refl
  where
    by : (b : Bool) → variables_fit scale t.variables ≡ b → account_read scale M (Ok t) list ≡ Some (account_of M s.variables (clauses_in (take s.numbers list)))
    by true h =
        let x : ◌≡◌ {A = Result Summary Fault} (Ok s) (Ok t) = e ∙ cond-true _ _ _ h in
        let same : t ≡ s = cc in
        cond-true (variables_fit scale t.variables) _ _ h ∙ ap (λ (u : Summary). Some (account_of M u.variables (clauses_in (take u.numbers list)))) same
    by false h = let x : ◌≡◌ {A = Result Summary Fault} (Ok s) (Err count_fault) = e ∙ cond-false _ _ _ h in let z : ◌≡◌ {A = ℕ} 0 1 = cc in absurd (omega arith)

-- what was read has the account of its clauses
pub ok_account : (scale : Scale) (text : List ℕ) (s : Summary) → ltb (most_bytes scale) (length text) ≡ false
    → ◌≡◌ {A = Result Summary Fault} (Ok s) (read_within scale (reading text (blank scale text)).answer)
    → account_in scale text ≡ Some (account_of (encoder_of text) s.variables (clauses_in (take s.numbers (reading text (blank scale text)).list)))
ok_account scale text s short e =
    cond-false _ _ _ short ∙ read_account scale (encoder_of text) (reading text (blank scale text)).answer (reading text (blank scale text)).list s e
