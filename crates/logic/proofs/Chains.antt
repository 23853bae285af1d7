-- Chains joined and turned round, and what a chain does to the truth of literals.
use Rattle.std.proofs.Common.{◌≡◌, true, List, ℤ, sym, subst, inl, inr, ⊎_elim}
use Rattle.logic.specs.Literal.{complement}
use Rattle.logic.specs.Clause.{Clause, Assignment, holds, In, Satisfies}
use Rattle.logic.specs.Chain.{Step, Chain, stay, via}
use Rattle.logic.proofs.Literals.{complement_complement, not_both}

pub one_step : {L : List Clause} {p q : ℤ} → Step L p q → Chain L p q
one_step s = via s stay

pub chain_join : {L : List Clause} {p q r : ℤ} → Chain L p q → Chain L q r → Chain L p r
chain_join stay k = k
chain_join (via s h) k = via s (chain_join h k)

-- a list with all the clauses of another has all its chains
pub chain_more : {L M : List Clause} → ((c : Clause) → In c L → In c M) → {p q : ℤ} → Chain L p q → Chain M p q
chain_more f stay = stay
chain_more f (via h c) = via (⊎_elim (λ k. inl (f _ k)) (λ k. inr (f _ k)) h) (chain_more f c)

-- a step from p to q is one from -q to -p by the same clause
pub step_back : (L : List Clause) (p q : ℤ) → Step L p q → Step L (complement q) (complement p)
step_back L p q (inl h) = inr (subst (λ x. In (complement p, x) L) (sym (complement_complement q)) h)
step_back L p q (inr h) = inl (subst (λ x. In (x, complement p) L) (sym (complement_complement q)) h)

pub chain_back : {L : List Clause} {p q : ℤ} → Chain L p q → Chain L (complement q) (complement p)
chain_back stay = stay
chain_back {L} (via {p} {q} s h) = chain_join (chain_back h) (one_step (step_back L p q s))

-- where the clauses are met, the truth of p passes on along a chain
pub step_holds : (s : Assignment) (L : List Clause) (p q : ℤ) → Satisfies s L → holds s p ≡ true → Step L p q → holds s q ≡ true
step_holds s L p q met h (inl i) = ⊎_elim (λ k. absurd (not_both s p h k)) (λ k. k) (met _ i)
step_holds s L p q met h (inr i) = ⊎_elim (λ k. k) (λ k. absurd (not_both s p h k)) (met _ i)

pub chain_holds : (s : Assignment) {L : List Clause} {p q : ℤ} → Satisfies s L → Chain L p q → holds s p ≡ true → holds s q ≡ true
chain_holds s met stay h = h
chain_holds s {L} met (via {p} {q} t k) h = chain_holds s met k (step_holds s L p q met h t)
