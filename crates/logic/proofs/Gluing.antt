-- A chain in glued lists falls apart into chains inside single lists.
use Rattle.std.proofs.Common.{◌≡◌, ℕ, ◌⊎◌, List, [], ◌∷◌, ◌++◌, ℤ, sym, refl, subst, inl, inr, ⊎_elim}
use Rattle.logic.specs.Literal.{variable, complement}
use Rattle.logic.specs.Clause.{Clause, In}
use Rattle.logic.specs.Chain.{Step, Chain, stay, via}
use Rattle.logic.specs.Gluing.{Uses, Meet, union, Glued, Relay, arrived, leg, On, Gluing}
use Rattle.logic.proofs.Literals.{variable_complement}
use Rattle.logic.proofs.Clauses.{in_left, in_right, in_cases}
use Rattle.logic.proofs.Chains.{chain_join, chain_more, one_step}

-- the variables of a step stand in the list
pub step_uses : (L : List Clause) (p q : ℤ) → Step L p q → Uses L (variable p) × Uses L (variable q)
step_uses L p q (inl i) = (((complement p, q), i, inl (variable_complement p)), ((complement p, q), i, inr refl))
step_uses L p q (inr i) = (((q, complement p), i, inr (variable_complement p)), ((q, complement p), i, inl refl))

-- and so do both ends of a chain that goes anywhere
pub chain_ends : {L : List Clause} {p q : ℤ} → Chain L p q → (p ≡ q) ⊎ (Uses L (variable p) × Uses L (variable q))
chain_ends stay = inl refl
chain_ends {L} (via {p} {q} {r} s k) =
    let u = step_uses L p q s in
    inr (u.0, ⊎_elim (λ e. subst (λ z. Uses L (variable z)) e u.1) (λ w. w.1) (chain_ends k))

pub uses_cases : (K L : List Clause) (v : ℕ) → Uses (K ++ L) v → Uses K v ⊎ Uses L v
uses_cases K L v (c, h, u) = ⊎_elim (λ k. inl (c, k, u)) (λ k. inr (c, k, u)) (in_cases c K L h)

step_cases : (K L : List Clause) (p q : ℤ) → Step (K ++ L) p q → Step K p q ⊎ Step L p q
step_cases K L p q (inl i) = ⊎_elim (λ h. inl (inl h)) (λ h. inr (inl h)) (in_cases _ K L i)
step_cases K L p q (inr i) = ⊎_elim (λ h. inl (inr h)) (λ h. inr (inr h)) (in_cases _ K L i)

-- a chain that is under way in one of the lists
abbrev Under : (ℕ → Type 0) → List Clause → ℤ → ℤ → Type 0
Under I K p r = Chain K p r × (I (variable r) ⊎ Uses K (variable r))

-- Two lists: what holds of the chains in each between interface literals, and passes on from one to the next,
-- holds of the chains in both together.
module _ (I : ℕ → Type 0) (Goes : ℤ → ℤ → Type 0) (none : (p : ℤ) → Goes p p) (on : (p q r : ℤ) → Goes p q → Goes q r → Goes p r) where
  abbrev Within : List Clause → Type 0
  Within L = (p q : ℤ) → I (variable p) → I (variable q) → Chain L p q → Goes p q

  module _ (K L : List Clause) (meet : Meet I K L) (f : Within K) (g : Within L) where
    turn : (p r s q : ℤ) → I (variable p) → ((x : ℤ) → I (variable x) → Under I K x s ⊎ Under I L x s → Goes x q)
        → Under I K p r ⊎ Under I L p r → Step K r s ⊎ Step L r s → Goes p q
    turn p r s q ip h (inl u) (inl t) = h p ip (inl (chain_join u.0 (one_step t), inr (step_uses K r s t).1))
    turn p r s q ip h (inl u) (inr t) =
        let ir = ⊎_elim (λ i. i) (λ w. meet (variable r) w (step_uses L r s t).0) u.1 in
        on p r q (f p r ip ir u.0) (h r ir (inr (one_step t, inr (step_uses L r s t).1)))
    turn p r s q ip h (inr u) (inl t) =
        let ir = ⊎_elim (λ i. i) (λ w. meet (variable r) (step_uses K r s t).0 w) u.1 in
        on p r q (g p r ip ir u.0) (h r ir (inl (one_step t, inr (step_uses K r s t).1)))
    turn p r s q ip h (inr u) (inr t) = h p ip (inr (chain_join u.0 (one_step t), inr (step_uses L r s t).1))

    walk : {r q : ℤ} → Chain (K ++ L) r q → (p : ℤ) → I (variable p) → Under I K p r ⊎ Under I L p r → I (variable q) → Goes p q
    walk {r} stay p ip u iq = ⊎_elim (λ k. f p r ip iq k.0) (λ k. g p r ip iq k.0) u
    walk {r} {q} (via {q = s} t k) p ip u iq = turn p r s q ip (λ x ix w. walk k x ix w iq) u (step_cases K L r s t)

    pub glue_two : Within (K ++ L)
    glue_two p q ip iq k = walk k p ip (inl (stay, inl ip)) iq

  nowhere : {p q : ℤ} → Chain [] p q → Goes p q
  nowhere {p} stay = none p
  nowhere (via s k) = absurd (⊎_elim (λ h. h) (λ h. h) s)

  -- any number of lists
  pub glue_all : (Ls : List (List Clause)) → Glued I Ls → ((L : List Clause) → In L Ls → Within L) → Within (union Ls)
  glue_all [] a f = λ p q ip iq k. nowhere k
  glue_all (L ∷ Ls) a f = glue_two L (union Ls) a.0 (f L (inl refl)) (glue_all Ls a.1 (λ K h. f K (inr h)))

relay_join : {I : ℕ → Type 0} {Ls : List (List Clause)} {p q r : ℤ} → Relay I Ls p q → Relay I Ls q r → Relay I Ls p r
relay_join arrived l = l
relay_join (leg L o k i h) l = leg L o k i (relay_join h l)

pub in_union : (L : List Clause) (Ls : List (List Clause)) → In L Ls → (c : Clause) → In c L → In c (union Ls)
in_union L [] h c k = absurd h
in_union L (K ∷ Ls) (inl e) c k = in_left c K (union Ls) (subst (In c) (sym e) k)
in_union L (K ∷ Ls) (inr h) c k = in_right c K (union Ls) (in_union L Ls h c k)

relay_chain : {I : ℕ → Type 0} {Ls : List (List Clause)} {p q : ℤ} → Relay I Ls p q → Chain (union Ls) p q
relay_chain arrived = stay
relay_chain {Ls = Ls} (leg L o k i h) = chain_join (chain_more (in_union L Ls o) k) (relay_chain h)

-- over any interface
pub chain_relay : (I : ℕ → Type 0) (Ls : List (List Clause)) → Glued I Ls → (p q : ℤ) → I (variable p) → I (variable q) → Chain (union Ls) p q → Relay I Ls p q
chain_relay I Ls a = glue_all I (Relay I Ls) (λ p. arrived) (λ p q r. relay_join) Ls a (λ L o p q ip iq k. leg L o k iq arrived)

pub gluing : Gluing
gluing interface Ls a p q ip iq = (chain_relay (On interface) Ls a p q ip iq, relay_chain)
