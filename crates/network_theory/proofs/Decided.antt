-- A call is declined exactly if it meets one of its refusals.
use Rattle.std.proofs.Common.{◌≡◌, ℕ, ◌≤◌, Bool, true, false, cond, not, ◌&&◌, eqb, List, length, drop, ℤ, is_some, is_ok, Some, None, Decides, refl, ap, ⊎_elim, arith}
use Rattle.std.proofs.lemmas.Bool.{and_parts, and_from, not-true, not_from_false, eqb-false, ne_eqb, cond_both}
use Rattle.std.proofs.lemmas.Bool.Decides.{Decides-at}
use Rattle.logic.specs.Literal.{variable, complement, is_literal, index}
use Rattle.logic.proofs.Literals.{is_literal_decides, index_below, index_injective, variable_complement, same_variable}
use Rattle.network_theory.specs.declared.Call.{Call}
use Rattle.network_theory.specs.declared.Call.TheVariants.{Add}
use Rattle.network_theory.specs.Layout.{words_needed, with_conflict, Net, beyond}
use Rattle.network_theory.specs.Calls.{objection, add_answer, words_after, after}
use Rattle.network_theory.specs.Runs.{Undeclined}
use Rattle.network_theory.proofs.Marks.{length_with_conflict, rest_with_conflict}
use Rattle.network_theory.proofs.Answered.{is_ok_answered}

-- three tests in a row, of which none is met
none_met : {X : Type 0} (l s k : Bool) (x y z : X)
    → not (is_some (cond (not l) (Some x) (cond s (Some y) (cond k (Some z) None)))) ≡ (l && (not s && not k))
none_met true true k x y z = refl
none_met true false true x y z = refl
none_met true false false x y z = refl
none_met false s k x y z = refl

abbrev allowed : ℕ → ℤ → ℤ → Bool
allowed n a b = (is_literal n a && is_literal n b) && (not (eqb (index a) (index b)) && not (eqb (index a) (index (complement b))))

module _ (n : ℕ) (a b : ℤ) where
  undeclined_from : allowed n a b ≡ true → Undeclined n (Add a b)
  undeclined_from h =
      let p = and_parts (is_literal n a && is_literal n b) _ h in
      let q = and_parts (is_literal n a) (is_literal n b) p.0 in
      let r = and_parts (not (eqb (index a) (index b))) _ p.1 in (
        (is_literal_decides n a).0 q.0,
        (is_literal_decides n b).0 q.1,
        (λ e. eqb-false (index a) (index b) (not-true _ r.0) (ap index e)),
        (λ e. eqb-false (index a) (index (complement b)) (not-true _ r.1) (ap index e)),
      )

  from_undeclined : Undeclined n (Add a b) → allowed n a b ≡ true
  from_undeclined h =
      let v = variable_complement b in
      let in_range : 1 ≤ variable (complement b) = omega (arith, h.1.0) in
      and_from (is_literal n a && is_literal n b) _
      (and_from (is_literal n a) (is_literal n b) ((is_literal_decides n a).1 h.0) ((is_literal_decides n b).1 h.1))
      (and_from (not (eqb (index a) (index b))) _
      (not_from_false _ (ne_eqb (index a) (index b) (λ e. h.2 (index_injective a b h.0.0 h.1.0 e))))
      (not_from_false _ (ne_eqb (index a) (index (complement b)) (λ e. h.3 (index_injective a (complement b) h.0.0 in_range e)))))

pub objection_decides : (n : ℕ) (call : Call) → Decides (not (is_some (objection n call))) (Undeclined n call)
objection_decides n (Add a b) =
    Decides-at _ _ (none_met (is_literal n a && is_literal n b) (eqb (index a) (index b)) (eqb (index a) (index (complement b))) _ _ _)
    (undeclined_from n a b, from_undeclined n a b)

-- the literals of an undeclined add are on different variables
pub undeclined_apart : (n : ℕ) (a b : ℤ) → Undeclined n (Add a b) → variable a ≡ variable b → ⊥
undeclined_apart n a b h e = ⊎_elim h.2 h.3 (same_variable a b e)

-- what holds of the words before a call, and of them with its conflict put in, holds of the words after it
pub by_call : (net : Net) (a b : ℤ) (P : List ℕ → Type 0) → P net.words
    → (Undeclined net.variables (Add a b) → P (with_conflict net.variables net.words (index a) (index b))) → P (words_after net (Add a b))
by_call net a b P old new =
    cond_both (is_some (objection net.variables (Add a b))) net.words (with_conflict net.variables net.words (index a) (index b)) P
    (λ _. old) (λ none. new ((objection_decides net.variables (Add a b)).0 (not_from_false _ none)))

pub length_after : (net : Net) (call : Call) → length (words_after net call) ≡ length net.words
length_after net (Add a b) =
    by_call net a b (λ ws. length ws ≡ length net.words) refl (λ _. length_with_conflict net.variables net.words (index a) (index b))

-- past the needed words no call changes anything
pub after_beyond : (net : Net) (call : Call) → beyond (after net call) ≡ beyond net
after_beyond net (Add a b) =
    by_call net a b (λ ws. drop (words_needed net.variables) ws ≡ beyond net) refl
    (λ free. rest_with_conflict net.variables net.words (index a) (index b) (index_below net.variables a free.0) (index_below net.variables b free.1))

-- an add answers Ok exactly if it is undeclined
pub add_answer_decides : (net : Net) (a b : ℤ) → Decides (is_ok (add_answer net a b)) (Undeclined net.variables (Add a b))
add_answer_decides net a b = Decides-at _ _ (is_ok_answered (objection net.variables (Add a b)) _) (objection_decides net.variables (Add a b))
