-- Exactly the accepted conflicts stand, whatever the calls.
use Rattle.std.proofs.Common.{◌≡◌, ℕ, ◌+◌, ◌<◌, ◌≤◌, true, false, ◌&&◌, ◌||◌, eqb, ◌⊎◌, ◌↔◌, List, [], ◌∷◌, ◌++◌, length, get_or, take, ℤ, is_some, Ok, Err, Result, sym, refl, ap, ◌∙◌, subst, inl, inr, ⊎_elim, arith}
use Rattle.std.proofs.lemmas.Bool.{both_ways, not_from_true, not_from_false, eqb-true, eq-eqb, and_parts, and_from, or_cases, or_left, or_right, cases_Bool, cond-true, cond-false}
use Rattle.std.proofs.lemmas.List.{take_more, take_all}
use Rattle.fault.specs.declared.Fault.{Fault}
use Rattle.logic.specs.Literal.{Literal, index}
use Rattle.logic.proofs.Literals.{index_below, index_injective}
use Rattle.network_theory.specs.declared.Call.{Call}
use Rattle.network_theory.specs.declared.Call.TheVariants.{Add}
use Rattle.network_theory.specs.Layout.{words_needed, stands, with_conflict, Net, Conflict}
use Rattle.network_theory.specs.Calls.{opened_variables, opened, answered, objection, words_after, after, run}
use Rattle.network_theory.specs.Runs.{Undeclined, Adds, Accepts, Accepted, Exact, Grows, Came}
use Rattle.network_theory.proofs.Answered.{ok_answered, err_answered}
use Rattle.network_theory.proofs.Places.{column_within}
use Rattle.network_theory.proofs.Marks.{stands_with_conflict, stands_cleared}
use Rattle.network_theory.proofs.Opens.{room_opened}
use Rattle.network_theory.proofs.Decided.{objection_decides, length_after}

-- an undeclined add of x and y, and whether a and b then stand
module _ (n : ℕ) (ws : List ℕ) (room : words_needed n ≤ length ws) (x y a b : ℤ) (la : Literal n a) (lb : Literal n b) (free : Undeclined n (Add x y)) where
  put : stands n (with_conflict n ws (index x) (index y)) (index a) (index b)
      ≡ ((stands n ws (index a) (index b) || (eqb (index x) (index a) && eqb (index y) (index b))) || (eqb (index y) (index a) && eqb (index x) (index b)))
  put =
      stands_with_conflict n ws (index x) (index y) room (index_below n x free.0) (index_below n y free.1) (index a) (index b)
      (column_within n (index b) (index_below n b lb))

  same : (p q : ℤ) → Literal n p → Literal n q → eqb (index p) (index q) ≡ true → p ≡ q
  same p q lp lq h = index_injective p q lp.0 lq.0 (eqb-true (index p) (index q) h)

  pub with_conflict_old_or_new : stands n (with_conflict n ws (index x) (index y)) (index a) (index b) ≡ true → (stands n ws (index a) (index b) ≡ true) ⊎ Adds (Add x y) a b
  with_conflict_old_or_new h =
      ⊎_elim
      (λ t. ⊎_elim inl
      (λ k. let p = and_parts (eqb (index x) (index a)) _ k in inr (inl (same x a free.0 la p.0, same y b free.1 lb p.1)))
      (or_cases (stands n ws (index a) (index b)) _ t))
      (λ k. let p = and_parts (eqb (index y) (index a)) _ k in inr (inr (same x b free.0 lb p.1, same y a free.1 la p.0)))
      (or_cases _ _ (sym put ∙ h))

  pub with_conflict_new : Adds (Add x y) a b → stands n (with_conflict n ws (index x) (index y)) (index a) (index b) ≡ true
  with_conflict_new h =
      put
      ∙ ⊎_elim
      (λ e. or_left _ _ (or_right (stands n ws (index a) (index b)) _ (and_from _ _ (eq-eqb _ _ (ap index e.0)) (eq-eqb _ _ (ap index e.1)))))
      (λ e. or_right _ _ (and_from _ _ (eq-eqb _ _ (ap index e.1)) (eq-eqb _ _ (ap index e.0))))
      h

  pub with_conflict_old : stands n ws (index a) (index b) ≡ true → stands n (with_conflict n ws (index x) (index y)) (index a) (index b) ≡ true
  with_conflict_old h = put ∙ or_left _ _ (or_left _ _ h)

-- what is made accepted is between literals
accepts_literals : (n : ℕ) (call : Call) (a b : ℤ) → Accepts n call a b → Literal n a × Literal n b
accepts_literals n (Add x y) a b h =
    ⊎_elim (λ e. (subst (Literal n) e.0 h.0.0, subst (Literal n) e.1 h.0.1))
    (λ e. (subst (Literal n) e.1 h.0.1, subst (Literal n) e.0 h.0.0)) h.1

-- a and b stand in these words of the network
abbrev Standing : Net → ℤ → ℤ → List ℕ → Type 0
Standing net a b ws = stands net.variables ws (index a) (index b) ≡ true

-- over one call
pub after_grows : (net : Net) (call : Call) → words_needed net.variables ≤ length net.words → Grows net call (after net call)
after_grows net (Add x y) room a b = ⊎_elim declined taken (cases_Bool (is_some (objection net.variables (Add x y))))
  where
    declined : is_some (objection net.variables (Add x y)) ≡ true → Conflict (after net (Add x y)) a b ↔ (Conflict net a b ⊎ Accepts net.variables (Add x y) a b)
    declined h =
        let e : words_after net (Add x y) ≡ net.words = cond-true (is_some (objection net.variables (Add x y))) _ _ h in
        let no : Undeclined net.variables (Add x y) → ⊥ = λ u. both_ways _ (not_from_true _ h) ((objection_decides net.variables (Add x y)).1 u) in
        ((λ c. inl (c.0, c.1, subst (Standing net a b) e c.2)), ⊎_elim (λ c. (c.0, c.1, subst (Standing net a b) (sym e) c.2)) (λ k. absurd (no k.0)))

    taken : is_some (objection net.variables (Add x y)) ≡ false → Conflict (after net (Add x y)) a b ↔ (Conflict net a b ⊎ Accepts net.variables (Add x y) a b)
    taken h =
        let e : words_after net (Add x y) ≡ with_conflict net.variables net.words (index x) (index y) = cond-false (is_some (objection net.variables (Add x y))) _ _ h in
        let free = (objection_decides net.variables (Add x y)).0 (not_from_false _ h) in (
          (λ c. ⊎_elim (λ k. inl (c.0, c.1, k)) (λ k. inr (free, k)) (with_conflict_old_or_new net.variables net.words room x y a b c.0 c.1 free (subst (Standing net a b) e c.2))),
          ⊎_elim
              (λ c. (c.0, c.1, subst (Standing net a b) (sym e) (with_conflict_old net.variables net.words room x y a b c.0 c.1 free c.2)))
              (λ k. let l = accepts_literals net.variables (Add x y) a b k in
              (l.0, l.1, subst (Standing net a b) (sym e) (with_conflict_new net.variables net.words room x y a b l.0 l.1 free k.1))),
        )

-- over a list of calls
run_variables : (calls : List Call) (net : Net) → (run net calls).variables ≡ net.variables
run_variables [] net = refl
run_variables (call ∷ calls) net = run_variables calls (after net call)

run_grows : (calls : List Call) (net : Net) → words_needed net.variables ≤ length net.words
    → (a b : ℤ) → Conflict (run net calls) a b ↔ (Conflict net a b ⊎ Accepted net.variables calls a b)
run_grows [] net room a b = (inl, ⊎_elim (λ c. c) (λ k. absurd k.1))
run_grows (call ∷ calls) net room a b =
    let len = length_after net call in
    let rest = run_grows calls (after net call) (omega arith) a b in
    let first = after_grows net call room a b in (
      (λ c. ⊎_elim (λ k. ⊎_elim inl (λ m. inr (call, inl refl, m)) (first.0 k)) (λ k. inr (k.0, inr k.1, k.2)) (rest.0 c)),
      ⊎_elim (λ c. rest.1 (inl (first.1 (inl c))))
          (λ k. ⊎_elim (λ e. rest.1 (inl (first.1 (inr (subst (λ z. Accepts net.variables z a b) (sym e) k.2))))) (λ i. rest.1 (inr (k.0, i, k.2))) k.1),
    )

pub none_opened : (n : ℕ) (lent : List ℕ) (a b : ℤ) → Conflict (opened n lent) a b → ⊥
none_opened n lent a b c =
    let m : ℕ = opened_variables n (length lent) in
    both_ways _ (stands_cleared m lent (index a) (index b) (index_below m a c.0) (column_within m (index b) (index_below m b c.1))) c.2

-- THE LAW
run_exact : (n : ℕ) (lent : List ℕ) (calls : List Call) → Exact (run (opened n lent) calls) calls
run_exact n lent calls a b =
    let same = run_variables calls (opened n lent) in
    let law = run_grows calls (opened n lent) (room_opened n lent) a b in (
      (λ k. subst (λ m. Accepted m calls a b) (sym same) (⊎_elim (λ c. absurd (none_opened n lent a b c)) (λ m. m) (law.0 k))),
      (λ k. law.1 (inr (subst (λ m. Accepted m calls a b) same k))),
    )

pub came_exact : (net : Net) (calls : List Call) → Came net calls → Exact net calls
came_exact net calls c = subst (λ z. Exact z calls) (sym c.led) (run_exact c.asked c.lent calls)

-- a network that equals another in both parts
pub same_net : (m n : ℕ) (vs ws : List ℕ) → m ≡ n → vs ≡ ws → ◌≡◌ {A = Net} (record { variables = m; words = vs }) (record { variables = n; words = ws })
same_net m n vs ws e f = ap (λ k. record { variables = k; words = vs }) e ∙ ap (λ zs. record { variables = n; words = zs }) f

-- one more call
run_more : (calls : List Call) (net : Net) (call : Call) → run net (calls ++ call ∷ []) ≡ after (run net calls) call
run_more [] net call = refl
run_more (c ∷ calls) net call = run_more calls (after net c) call

pub came_more : (net net' : Net) (call : Call) → net' ≡ after net call → (calls : List Call) → Came net calls → Came net' (calls ++ call ∷ [])
came_more net net' call e calls c =
    record {
      asked = c.asked;
      lent = c.lent;
      led = e ∙ ap (λ z. after z call) c.led ∙ sym (run_more calls (opened c.asked c.lent) call);
    }

pub came_same : (net net' : Net) → net' ≡ net → (calls : List Call) → Came net calls → Came net' calls
came_same net net' e calls c = subst (λ z. Came z calls) (sym e) c

-- a loop that makes the calls of a list in turn: one more call, and all of them
pub run_step : (first net net' : Net) (calls : List Call) (i : ℕ) (d : Call) → i < length calls
    → net ≡ run first (take i calls) → net' ≡ after net (get_or calls i d) → net' ≡ run first (take (i + 1) calls)
run_step first net net' calls i d h e f =
    f ∙ ap (λ z. after z (get_or calls i d)) e ∙ sym (run_more (take i calls) first (get_or calls i d)) ∙ ap (run first) (sym (take_more calls i d h))

pub run_all : (first net : Net) (calls : List Call) (i : ℕ) → length calls ≤ i → net ≡ run first (take i calls) → net ≡ run first calls
run_all first net calls i h e = e ∙ ap (run first) (take_all i calls h)

-- what an add leaves, told by the indices that it found
pub add_taken : (net : Net) (a b : ℤ) (u w : ℕ) (ws : List ℕ)
    → ◌≡◌ {A = Result (ℕ × ℕ) Fault} (Ok (u, w)) (answered (objection net.variables (Add a b)) (index a, index b))
    → ws ≡ with_conflict net.variables net.words u w
    → ◌≡◌ {A = Net} (record { variables = net.variables; words = ws }) (after net (Add a b))
add_taken net a b u w ws h e =
    let k = ok_answered (objection net.variables (Add a b)) (index a, index b) (u, w) h in
    same_net _ _ _ _ refl
    (e ∙ ap (λ (p : ℕ × ℕ). with_conflict net.variables net.words p.0 p.1) k.1 ∙ sym (cond-false (is_some (objection net.variables (Add a b))) net.words _ k.0))

-- and a declined one
pub add_declined : (net : Net) (a b : ℤ) (p : ℕ × ℕ) (e : Fault) → Err e ≡ answered (objection net.variables (Add a b)) p → net ≡ after net (Add a b)
add_declined net a b p e h = same_net _ _ _ _ refl (sym (cond-true (is_some (objection net.variables (Add a b))) net.words _ (err_answered _ p p e h).0))
