-- Equal encoders are alike.
use Rattle.std.proofs.Common.{◌≡◌, ℕ, ◌*◌, ◌≤◌, Bool, true, false, leb, List, ◌++◌, length, drop, ℤ, nat_abs, sym, ap, ◌∙◌, ⊎_elim}
use Rattle.std.proofs.lemmas.Bool.{leb-true, cases_Bool, cond-false}
use Rattle.logic.specs.Clause.{Clause, flat}
use Rattle.encoder_theory.specs.Meaning.{Meaning, Equal, most_members}
use Rattle.encoder_theory.specs.Calls.{is_admitted, answer, left, told, written, write_answer, write_leaves}
use Rattle.encoder_theory.specs.Theorems.{Alike}
use Rattle.encoder_theory.proofs.Decided.{admitted_first, many_refused}

module _ (M N : Meaning) (eq : Equal M N) where
  told_alike : (m a b : ℕ) → (m ≤ most_members → a ≡ b) → told m a ≡ told m b
  told_alike m a b h = ⊎_elim
      (λ t. ap (told m) (h (leb-true m most_members t)))
      (λ f. cond-false (leb m most_members) _ _ f ∙ sym (cond-false (leb m most_members) _ _ f))
      (cases_Bool (leb m most_members))

  module _ (xs : List ℤ) (first : ℤ) (out : List ℤ) where
    abbrev m : ℕ
    m = length xs

    abbrev fit : Meaning → Bool
    fit E = is_admitted xs first (E.auxiliaries m)

    abbrev room : Meaning → Bool
    room E = leb (2 * E.clauses m) (length out)

    module _ (few : m ≤ most_members) where
      same_fit : fit M ≡ fit N
      same_fit = ap (is_admitted xs first) (eq.auxiliaries m few)

      same_room : room M ≡ room N
      same_room = ap (λ n. leb (2 * n) (length out)) (eq.clauses m few)

      same_written : fit M ≡ true → written M xs (nat_abs first) out ≡ written N xs (nat_abs first) out
      same_written t =
          let f = admitted_first xs first (M.auxiliaries m) t in
          let l : M.list xs (nat_abs first) ≡ N.list xs (nat_abs first) =
          ap (λ z. M.list xs (nat_abs z)) f.1 ∙ eq.list xs f.0 f.2 ∙ ap (λ z. N.list xs (nat_abs z)) (sym f.1) in
          ap (λ (L : List Clause). flat L ++ drop (2 * M.clauses m) out) l ∙ ap (λ n. flat (N.list xs (nat_abs first)) ++ drop (2 * n) out) (eq.clauses m few)

      answers_few : write_answer M xs first out ≡ write_answer N xs first out
      answers_few = ap (λ f. answer f (room M) tt) same_fit ∙ ap (λ r. answer (fit N) r tt) same_room

      leaves_few : write_leaves M xs first out ≡ write_leaves N xs first out
      leaves_few = ⊎_elim
          (λ t. ap (λ new. left (fit M) (room M) new out) (same_written t) ∙ after)
          (λ f. cond-false (fit M) _ out f ∙ sym (cond-false (fit N) _ out (sym same_fit ∙ f)))
          (cases_Bool (fit M))
        where
          after : left (fit M) (room M) (written N xs (nat_abs first) out) out ≡ write_leaves N xs first out
          after = ap (λ f. left f (room M) (written N xs (nat_abs first) out) out) same_fit ∙ ap (λ r. left (fit N) r (written N xs (nat_abs first) out) out) same_room

    none_fits : (E : Meaning) → leb m most_members ≡ false → fit E ≡ false
    none_fits E f = many_refused xs first (E.auxiliaries m) f

    answers_alike : write_answer M xs first out ≡ write_answer N xs first out
    answers_alike = ⊎_elim
        (λ t. answers_few (leb-true m most_members t))
        (λ f. cond-false (fit M) _ _ (none_fits M f) ∙ sym (cond-false (fit N) _ _ (none_fits N f)))
        (cases_Bool (leb m most_members))

    leaves_alike : write_leaves M xs first out ≡ write_leaves N xs first out
    leaves_alike = ⊎_elim
        (λ t. leaves_few (leb-true m most_members t))
        (λ f. cond-false (fit M) _ out (none_fits M f) ∙ sym (cond-false (fit N) _ out (none_fits N f)))
        (cases_Bool (leb m most_members))

  pub equals_alike : Alike M N
  equals_alike = record {
    clauses = λ m. told_alike m (M.clauses m) (N.clauses m) (eq.clauses m);
    auxiliaries = λ m. told_alike m (M.auxiliaries m) (N.auxiliaries m) (eq.auxiliaries m);
    answers = answers_alike;
    leaves = leaves_alike;
  }
