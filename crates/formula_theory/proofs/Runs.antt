-- The accepted conflicts of a list of calls, as a relation and as a test by index.
use Rattle.std.proofs.Common.{◌≡◌, ℕ, ◌*◌, Bool, true, false, ltb, ◌↔◌, List, ℤ, sym, refl, ap, ◌∙◌, subst, inl, inr}
use mathlib.Core.Path.{fun_ext}
use Rattle.std.proofs.lemmas.Bool.{ltb-true, lt-ltb, and_parts, and_from}
use Rattle.logic.specs.Literal.{variable, Literal, index, literal}
use Rattle.logic.proofs.Literals.{index_below, index_literal, literal_index, literal_within}
use Rattle.network_theory.specs.declared.Call.{Call}
use Rattle.network_theory.specs.declared.Call.TheVariants.{Add}
use Rattle.network_theory.specs.Layout.{stands, Net}
use Rattle.network_theory.specs.Runs.{Undeclined, Adds, Accepted, Came}
use Rattle.network_theory.proofs.Decided.{undeclined_apart}
use Rattle.network_theory.proofs.Led.{came_exact}
use Rattle.cover_theory.specs.Parts.{Cover, Partition}
use Rattle.cover_theory.specs.Rule.{Rel}
use Rattle.formula_theory.specs.Faithful.{Conflicts}
use Rattle.formula_theory.specs.Promise.{Between, Below, Rule, Partitions, standing, Tells, SameAccepted}

-- ---- what is accepted are conflicts of a network
module _ (n : ℕ) where
  literals : (call : Call) (p q : ℤ) → Undeclined n call → Adds call p q → Literal n p × Literal n q
  literals (Add x y) p q u (inl e) = (subst (Literal n) e.0 u.0, subst (Literal n) e.1 u.1)
  literals (Add x y) p q u (inr e) = (subst (Literal n) e.1 u.1, subst (Literal n) e.0 u.0)

  turned : (call : Call) (p q : ℤ) → Adds call p q → Adds call q p
  turned (Add x y) p q (inl e) = inr e
  turned (Add x y) p q (inr e) = inl e

  two_variables : (call : Call) (p q : ℤ) → Undeclined n call → Adds call p q → variable p ≡ variable q → ⊥
  two_variables (Add x y) p q u (inl e) h = undeclined_apart n x y u (ap variable e.0 ∙ h ∙ sym (ap variable e.1))
  two_variables (Add x y) p q u (inr e) h = undeclined_apart n x y u (ap variable e.0 ∙ sym h ∙ sym (ap variable e.1))

  pub accepted_conflicts : (calls : List Call) → Conflicts n (Accepted n calls)
  accepted_conflicts calls = record {
    original = λ p q h. literals h.0 p q h.2.0 h.2.1;
    both_ways = λ p q h. (h.0, h.1, (h.2.0, turned h.0 p q h.2.1));
    distinct = λ p q h. two_variables h.0 p q h.2.0 h.2.1;
  }

-- ---- a relation that tells them
module _ (n : ℕ) (calls : List Call) (rel : Rel) (tells : Tells n calls rel) where
  at_literals : (p q : ℤ) → Literal n p → Literal n q → Accepted n calls (literal (index p)) (literal (index q)) → Accepted n calls p q
  at_literals p q lp lq h =
      subst (λ x. Accepted n calls x q) (literal_index p lp.0) (subst (λ y. Accepted n calls (literal (index p)) y) (literal_index q lq.0) h)

  at_indices : (p q : ℤ) → Literal n p → Literal n q → Accepted n calls p q → Accepted n calls (literal (index p)) (literal (index q))
  at_indices p q lp lq h =
      subst (λ x. Accepted n calls x (literal (index q))) (sym (literal_index p lp.0)) (subst (λ y. Accepted n calls p y) (sym (literal_index q lq.0)) h)

  pub between_accepted : (p q : ℤ) → Between n rel p q ↔ Accepted n calls p q
  between_accepted p q = (
    λ h. at_literals p q h.0 h.1 ((tells (index p) (index q)).0 h.2).2,
    λ h.
        let l = (accepted_conflicts n calls).original p q h in
        (l.0, l.1, (tells (index p) (index q)).1 (index_below n p l.0, index_below n q l.1, at_indices p q l.0 l.1 h)),
  )

  below : Below n rel
  below u w e = let h = (tells u w).0 e in (h.0, h.1)

conflicts_same : (n : ℕ) (X Y : ℤ → ℤ → Type 0) → ((p q : ℤ) → X p q ↔ Y p q) → Conflicts n Y → Conflicts n X
conflicts_same n X Y e is = record {
  original = λ p q h. is.original p q ((e p q).0 h);
  both_ways = λ p q h. (e q p).1 (is.both_ways p q ((e p q).0 h));
  distinct = λ p q h. is.distinct p q ((e p q).0 h);
}

partition_same : (n : ℕ) (X Y : ℤ → ℤ → Type 0) (C : Cover) → ((p q : ℤ) → X p q ↔ Y p q) → Partition n X C → Partition n Y C
partition_same n X Y C e v = record {
  sound = v.sound;
  joined = λ P h p q j. (e p q).0 (v.joined P h p q j);
  left = λ p q h. (e p q).0 (v.left p q h);
  everywhere = λ p q h. v.everywhere p q ((e p q).1 h);
  apart = v.apart;
  once = v.once;
  beside = v.beside;
}

-- the rule's cover partitions the accepted conflicts
pub accepted_covered : (rule : Rule) → Partitions rule → (n : ℕ) (calls : List Call) (rel : Rel) → Tells n calls rel → Partition n (Accepted n calls) (rule n rel)
accepted_covered rule good n calls rel tells =
    let same = between_accepted n calls rel tells in
    partition_same n (Between n rel) (Accepted n calls) (rule n rel) same
    (good n rel (below n calls rel tells) (conflicts_same n (Between n rel) (Accepted n calls) same (accepted_conflicts n calls)))

-- ---- what stands in a network tells what its calls made accepted
module _ (net : Net) (calls : List Call) (came : Came net calls) where
  abbrev n : ℕ
  n = net.variables

  abbrev at : ℕ → ℕ → Bool
  at u w = stands n net.words u w

  back : (u w : ℕ) → at (index (literal u)) (index (literal w)) ≡ at u w
  back u w = ap (λ x. at x (index (literal w))) (index_literal u) ∙ ap (at u) (index_literal w)

  pub standing_tells : Tells n calls (standing net)
  standing_tells u w = (
    λ e.
        let a = and_parts (ltb u (2 * n)) _ e in
        let b = and_parts (ltb w (2 * n)) _ a.1 in
        let hu = ltb-true u (2 * n) a.0 in
        let hw = ltb-true w (2 * n) b.0 in
        (hu, hw, (came_exact net calls came (literal u) (literal w)).0 (literal_within n u hu, literal_within n w hw, back u w ∙ b.1)),
    λ h.
        and_from (ltb u (2 * n)) _ (lt-ltb u (2 * n) h.0) (and_from (ltb w (2 * n)) _ (lt-ltb w (2 * n) h.1)
        (sym (back u w) ∙ ((came_exact net calls came (literal u) (literal w)).1 h.2).2)),
  )

-- ---- one relation at most tells them
bool_same : (b c : Bool) → (b ≡ true → c ≡ true) → (c ≡ true → b ≡ true) → b ≡ c
bool_same true c f g = sym (f refl)
bool_same false true f g = g refl
bool_same false false f g = refl

pub tells_same : (n : ℕ) (calls calls' : List Call) (rel rel' : Rel) → Tells n calls rel → Tells n calls' rel' → SameAccepted n calls calls' → rel ≡ rel'
tells_same n calls calls' rel rel' t t' same = fun_ext (λ u. fun_ext (λ w. bool_same (rel u w) (rel' u w)
    (λ e. let h = (t u w).0 e in (t' u w).1 (h.0, h.1, (same (literal u) (literal w)).0 h.2))
    (λ e. let h = (t' u w).0 e in (t u w).1 (h.0, h.1, (same (literal u) (literal w)).1 h.2))))
