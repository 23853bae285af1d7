-- The promise of faithfulness follows from what a writing answers and leaves.
use Rattle.std.proofs.Common.{◌≡◌, ℕ, ◌*◌, cond, ltb, List, [], ◌∷◌, ◌++◌, length, drop, ℤ, pos, ◌+ℤ◌, is_ok, Some, None, Ok, Err, Option, Result, sym, refl, ap, ◌∙◌, subst, ⊎_elim}
use lib.Signed.{lt_z}
use Rattle.std.proofs.lemmas.Bool.{false≢true, true≢false, cases_Bool}
use Rattle.fault.specs.declared.Fault.{Fault}
use Rattle.fault.specs.declared.Refusal.{Refusal}
use Rattle.logic.specs.Clause.{Clause, In, flat}
use Rattle.encoder_theory.specs.Meaning.{Meaning, Equal}
use Rattle.encoder_theory.specs.Laws.{Lawful}
use Rattle.network_theory.specs.declared.Call.{Call}
use Rattle.network_theory.specs.Runs.{Accepted}
use Rattle.cover_theory.specs.Parts.{Cover, Partition}
use Rattle.cover_theory.specs.Rule.{Rel}
use Rattle.formula_theory.specs.declared.Size.{Size}
use Rattle.formula_theory.specs.Writing.{written_clauses, auxiliary_count, clause_count, Numbered}
use Rattle.formula_theory.specs.Faithful.{OnOwn, SameModels, SameChains, FaithfulTo}
use Rattle.formula_theory.proofs.Pieces.{leads_clauses}
use Rattle.formula_theory.specs.Outcome.{Terms, start, words_fault, range_fault, list_fault, exhausted_fault, buffer_fault, words_short, range_unfit, list_short, exhausted, write_refusal, unless_refused, size_of, write_answer, kept_if_refused, write_leaves}
use Rattle.formula_theory.specs.Promise.{Rule, Partitions, standing, Tells, WriteMeets, read_back, Faithful, Alike, Faithfulness}
use Rattle.formula_theory.proofs.Laws.{faithful_to}
use Rattle.formula_theory.proofs.Equals.{equals_write_alike}
use Rattle.formula_theory.proofs.Refusals.{Judged, judged, range_met, past_met, numbered}
use Rattle.formula_theory.proofs.Runs.{accepted_conflicts, accepted_covered, standing_tells, tells_same}

pub read_flat : (W : List Clause) (xs : List ℤ) → read_back (length W) (flat W ++ xs) ≡ W
read_flat [] xs = refl
read_flat (c ∷ W) xs = ap (λ V. c ∷ V) (read_flat W xs)

ok_same : (s t : Size) → ◌≡◌ {A = Result Size Fault} (Ok s) (Ok t) → s ≡ t
ok_same s t e = cc

err_same : (e f : Fault) → ◌≡◌ {A = Result Size Fault} (Err e) (Err f) → e ≡ f
err_same e f h = cc

err_ok : (s : Size) (e : Fault) → ◌≡◌ {A = Result Size Fault} (Err e) (Ok s) → ⊥
err_ok s e h = false≢true (ap is_ok h)

ok_err : (s : Size) (e : Fault) → ◌≡◌ {A = Result Size Fault} (Ok s) (Err e) → ⊥
ok_err s e h = true≢false (ap is_ok h)

-- where no refusal is met, the numbers will do
pub none_numbered : (n : ℕ) (C : Cover) (M : Meaning) (t : Terms) (room : ℕ) → ((k : Refusal) → WriteMeets n C M t room k → ⊥) → Numbered n M C (start t)
none_numbered n C M t room none =
    numbered n C M t
    (⊎_elim (λ e. absurd (none _ (range_met n C M t (2 * clause_count M C) room e))) (λ e. e) (cases_Bool (range_unfit n t)))
    (⊎_elim (λ e. absurd (none _ (past_met n C M t (2 * clause_count M C) room e))) (λ e. e) (cases_Bool (exhausted M C t)))

module _ (rule : Rule) (good : Partitions rule) (n : ℕ) (calls : List Call) (rel : Rel) (tells : Tells n calls rel) (M : Meaning) (law : Lawful M) (t : Terms) where
  abbrev C : Cover
  C = rule n rel

  abbrev W : List Clause
  W = written_clauses M C (start t)

  abbrev filled : List ℤ → List ℤ
  filled old = flat W ++ drop (2 * clause_count M C) old

  covered : Partition n (Accepted n calls) C
  covered = accepted_covered rule good n calls rel tells

  laws : Numbered n M C (start t) → FaithfulTo n (Accepted n calls) M C (start t)
  laws w = faithful_to (Accepted n calls) M law n C (accepted_conflicts n calls) covered (start t) w

  held : (old : List ℤ) → Numbered n M C (start t) → read_back (clause_count M C) (filled old) ≡ W
  held old w = ap (λ k. read_back k (filled old)) (sym (laws w).counted) ∙ read_flat W (drop (2 * clause_count M C) old)

  abbrev Owns : List Clause → ℕ → Type 0
  Owns V count = (c : Clause) → In c V → OnOwn n (start t) count c.0 × OnOwn n (start t) count c.1

  faithful_by : (old : List ℤ) (o : Option Fault) → Judged n C M t (2 * clause_count M C) (length old) o
      → Faithful rule n calls M t (length old) (kept_if_refused o (filled old) old) (unless_refused o (size_of M C))
  faithful_by old None none =
      let w = none_numbered n C M t (length old) none in
      record {
        accepted = rel;
        told = tells;
        exactly = ((λ _. none), (λ _. refl));
        declined = λ f e. absurd (ok_err (size_of M C) f e);
        answers = λ s e. sym (ok_same (size_of M C) s e);
        clauses = λ s e. subst (λ (z : Size). read_back z.clauses (filled old) ≡ W) (ok_same (size_of M C) s e) (held old w);
        own = λ s e. subst (λ (z : Size). Owns (read_back z.clauses (filled old)) z.auxiliaries) (ok_same (size_of M C) s e)
            (subst (λ V. Owns V (auxiliary_count M C)) (sym (held old w)) (laws w).own);
        models = λ s e. subst (λ (z : Size). SameModels (Accepted n calls) (read_back z.clauses (filled old)) (start t) z.auxiliaries) (ok_same (size_of M C) s e)
            (subst (λ V. SameModels (Accepted n calls) V (start t) (auxiliary_count M C)) (sym (held old w)) (laws w).models);
        chains = λ s e. subst (λ (z : Size). SameChains n (Accepted n calls) (read_back z.clauses (filled old))) (ok_same (size_of M C) s e)
            (subst (SameChains n (Accepted n calls)) (sym (held old w)) (laws w).chains);
        conflict_chains = λ s e pairs same p q lp lq.
            let one : SameChains n (Accepted n calls) (read_back s.clauses (filled old)) =
            subst (λ (z : Size). SameChains n (Accepted n calls) (read_back z.clauses (filled old))) (ok_same (size_of M C) s e)
            (subst (SameChains n (Accepted n calls)) (sym (held old w)) (laws w).chains) in
            let two = leads_clauses (Accepted n calls) pairs same p q in
            ((λ k. two.0 ((one p q lp lq).0 k)), (λ k. (one p q lp lq).1 (two.1 k)));
      }
  faithful_by old (Some f) small =
      record {
        accepted = rel;
        told = tells;
        exactly = ((λ e. absurd (false≢true e)), (λ none. absurd (none f.refusal small.0)));
        declined = λ g e. subst (λ (z : Fault). Judged n C M t (2 * clause_count M C) (length old) (Some z)) (err_same f g e) small;
        answers = λ s e. absurd (err_ok s f e);
        clauses = λ s e. absurd (err_ok s f e);
        own = λ s e. absurd (err_ok s f e);
        models = λ s e. absurd (err_ok s f e);
        chains = λ s e. absurd (err_ok s f e);
        conflict_chains = λ s e. absurd (err_ok s f e);
      }

  pub faithful : (old : List ℤ) → Faithful rule n calls M t (length old) (write_leaves n C M t old) (write_answer n C M t (length old))
  faithful old = faithful_by old (write_refusal n C M t (length old)) (judged n C M t (length old))

  -- ---- another writing of the same cover by an equal encoder
  module _ (N : Meaning) (eq : Equal M N) where
    same_auxiliaries : auxiliary_count M C ≡ auxiliary_count N C
    same_auxiliaries = (equals_write_alike M N eq n C covered.sound).0

    same_clauses : clause_count M C ≡ clause_count N C
    same_clauses = (equals_write_alike M N eq n C covered.sound).1

    -- a refusal, by the numbers of auxiliaries and clauses
    abbrev refusal_by : ℕ → ℕ → ℕ → Option Fault
    refusal_by room a c =
        cond (words_short n t) (Some words_fault)
        (cond (range_unfit n t) (Some range_fault)
        (cond (list_short C t) (Some list_fault)
        (cond (lt_z (t.last +ℤ pos 1) (t.first +ℤ pos a)) (Some exhausted_fault)
        (cond (ltb room (2 * c)) (Some buffer_fault)
        None))))

    same_refusal : (room : ℕ) → write_refusal n C M t room ≡ write_refusal n C N t room
    same_refusal room = ap (λ a. refusal_by room a (clause_count M C)) same_auxiliaries ∙ ap (λ c. refusal_by room (auxiliary_count N C) c) same_clauses

    same_size : size_of M C ≡ size_of N C
    same_size =
        ap (λ a. record { clauses = clause_count M C; auxiliaries = a }) same_auxiliaries
        ∙ ap (λ c. record { clauses = c; auxiliaries = auxiliary_count N C }) same_clauses

    same_answer : (room : ℕ) → write_answer n C M t room ≡ write_answer n C N t room
    same_answer room = ap (λ o. unless_refused o (size_of M C)) (same_refusal room) ∙ ap (unless_refused (write_refusal n C N t room)) same_size

    alike_by : (old old' : List ℤ) (o : Option Fault) → Judged n C M t (2 * clause_count M C) (length old) o
        → (s : Size) → unless_refused o (size_of M C) ≡ Ok s
        → read_back s.clauses (kept_if_refused o (filled old) old)
        ≡ read_back s.clauses (kept_if_refused o (flat (written_clauses N C (start t)) ++ drop (2 * clause_count N C) old') old')
    alike_by old old' None none s e =
        let w = none_numbered n C M t (length old) none in
        let same = (equals_write_alike M N eq n C covered.sound).2 (start t) w in
        subst (λ (z : Size). read_back z.clauses (filled old) ≡ read_back z.clauses (flat (written_clauses N C (start t)) ++ drop (2 * clause_count N C) old')) (ok_same (size_of M C) s e)
        (held old w ∙ sym (read_flat W (drop (2 * clause_count N C) old'))
        ∙ ap (λ k. read_back k (flat W ++ drop (2 * clause_count N C) old')) (laws w).counted
        ∙ ap (λ V. read_back (clause_count M C) (flat V ++ drop (2 * clause_count N C) old')) same)
    alike_by old old' (Some f) small s e = absurd (err_ok s f e)

    pub alike : (old old' : List ℤ) → length old' ≡ length old
        → Alike (write_leaves n C M t old) (write_leaves n C N t old') (write_answer n C M t (length old)) (write_answer n C N t (length old'))
    alike old old' len =
        let o : write_refusal n C M t (length old) ≡ write_refusal n C N t (length old') =
        same_refusal (length old) ∙ ap (λ room. write_refusal n C N t room) (sym len) in
        record {
          answers = same_answer (length old) ∙ ap (λ room. write_answer n C N t room) (sym len);
          clauses = λ s e.
              alike_by old old' (write_refusal n C M t (length old)) (judged n C M t (length old)) s e
              ∙ ap (λ z. read_back s.clauses (kept_if_refused z (flat (written_clauses N C (start t)) ++ drop (2 * clause_count N C) old') old')) o;
        }

alike_as : (out out₁ out' out₁' : List ℤ) (r r₁ r' r₁' : Result Size Fault) → out ≡ out₁ → r ≡ r₁ → out' ≡ out₁' → r' ≡ r₁'
    → Alike out₁ out₁' r₁ r₁' → Alike out out' r r'
alike_as out out₁ out' out₁' r r₁ r' r₁' a b c d k = record {
  answers = b ∙ k.answers ∙ sym d;
  clauses = λ s e. ap (read_back s.clauses) a ∙ k.clauses s (sym b ∙ e) ∙ sym (ap (read_back s.clauses) c);
}

pub faithfulness : Faithfulness
faithfulness rule good net M law t old out r wrote = (
  λ calls came.
      subst (Faithful rule n calls M t (length old) out) (sym wrote.0)
      (subst (λ z. Faithful rule n calls M t (length old) z (write_answer n (rule n rel) M t (length old))) (sym wrote.1)
      (faithful rule good n calls rel (standing_tells net calls came) M law t old)),
  λ net' calls calls' came came' en same N eq old' out' r' len wrote'.
      let tells = standing_tells net calls came in
      let tells' = subst (λ m. Tells m calls' (standing net')) (sym en) (standing_tells net' calls' came') in
      let er = tells_same n calls calls' rel (standing net') tells tells' same in
      alike_as out (write_leaves n (rule n rel) M t old) out' (write_leaves n (rule n rel) N t old') r (write_answer n (rule n rel) M t (length old)) r' (write_answer n (rule n rel) N t (length old'))
      wrote.1 wrote.0
      (wrote'.1 ∙ ap (λ m. write_leaves m (rule m (standing net')) N t old') (sym en) ∙ ap (λ x. write_leaves n (rule n x) N t old') (sym er))
      (wrote'.0 ∙ ap (λ m. write_answer m (rule m (standing net')) N t (length old')) (sym en) ∙ ap (λ x. write_answer n (rule n x) N t (length old')) (sym er))
      (alike rule good n calls rel tells M law t N eq old old' len),
)
  where
    n : ℕ
    n = net.variables

    rel : Rel
    rel = standing net
