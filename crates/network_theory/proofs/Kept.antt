-- What is true of every network: it holds at the opening, and every call keeps it.
use Rattle.std.proofs.Common.{◌≡◌, ℕ, ◌+◌, ◌*◌, ◌/◌, ◌<◌, ◌≤◌, true, false, ◌&&◌, ◌||◌, eqb, List, length, ℤ, sym, ap, ◌∙◌, subst, inl, inr, ⊎_elim, arith}
use Rattle.std.proofs.lemmas.Bool.{both_ways, cases_Bool}
use Rattle.std.proofs.lemmas.Bool.Decides.{nat_tests}
use Rattle.logic.specs.Literal.{variable, index, literal}
use Rattle.logic.proofs.Literals.{index_below, index_literal, variable_literal, literal_within}
use Rattle.network_theory.specs.declared.Call.{Call}
use Rattle.network_theory.specs.declared.Call.TheVariants.{Add}
use Rattle.network_theory.specs.Layout.{words_needed, stands, with_conflict, Net, Conflict, Mutual, Apart, Trimmed}
use Rattle.network_theory.specs.Calls.{most_variables, opened_variables, opened, after}
use Rattle.network_theory.specs.Runs.{Accepts}
use Rattle.network_theory.proofs.Marks.{stands_with_conflict, stands_cleared}
use Rattle.network_theory.proofs.Opens.{few_opened, room_opened}
use Rattle.network_theory.proofs.Decided.{undeclined_apart, by_call, length_after}
use Rattle.network_theory.proofs.Led.{after_grows, none_opened}

-- all of it, as the ghost fields of a network have it
abbrev pub Sound : Net → Type 0
Sound net = (net.variables ≤ most_variables) × ((words_needed net.variables ≤ length net.words) × (Mutual net × (Apart net × (Trimmed net × Unit {0}))))

pub opened_sound : (n : ℕ) (lent : List ℕ) → Sound (opened n lent)
opened_sound n lent = (
  few_opened n (length lent),
  (
    room_opened n lent,
    (
      (λ a b c. absurd (none_opened n lent a b c)),
      (
        (λ a b c _. none_opened n lent a b c),
        ((λ u w h. stands_cleared (opened_variables n (length lent)) lent u w h.0 (omega (arith, h.2))), tt),
      ),
    ),
  ),
)

-- a call that makes {a, b} accepted makes {b, a} accepted
accepts_mutual : (n : ℕ) (call : Call) (a b : ℤ) → Accepts n call a b → Accepts n call b a
accepts_mutual n (Add x y) a b h = (h.0, ⊎_elim inr inl h.1)

accepts_apart : (n : ℕ) (call : Call) (a b : ℤ) → Accepts n call a b → variable a ≡ variable b → ⊥
accepts_apart n (Add x y) a b h e =
    undeclined_apart n x y h.0
    (⊎_elim (λ p. ap variable p.0 ∙ e ∙ sym (ap variable p.1)) (λ p. ap variable p.0 ∙ sym e ∙ sym (ap variable p.1)) h.1)

module _ (net : Net) (call : Call) (room : words_needed net.variables ≤ length net.words) where
  after_mutual : Mutual net → Mutual (after net call)
  after_mutual old a b c =
      ⊎_elim
      (λ k. ((after_grows net call room b a).1 (inl (k.1, k.0, old a b k))).2)
      (λ k. ((after_grows net call room b a).1 (inr (accepts_mutual net.variables call a b k))).2)
      ((after_grows net call room a b).0 c)

  after_apart : Apart net → Apart (after net call)
  after_apart old a b c = ⊎_elim (old a b) (accepts_apart net.variables call a b) ((after_grows net call room a b).0 c)

-- past its columns a row keeps its bits
trimmed_by_conflict : (n : ℕ) (ws : List ℕ) (u w : ℕ) → words_needed n ≤ length ws → u < 2 * n → w < 2 * n
    → Trimmed (record { variables = n; words = ws }) → Trimmed (record { variables = n; words = with_conflict n ws u w })
trimmed_by_conflict n ws u w room hu hw old x y h =
    let far = h.1 in
    let p : (eqb u x && eqb w y) ≡ false = grind (arith, nat_tests) in
    let q : (eqb w x && eqb u y) ≡ false = grind (arith, nat_tests) in
    stands_with_conflict n ws u w room hu hw x y (omega (arith, h.2)) ∙ ap (λ z. (z || (eqb u x && eqb w y)) || (eqb w x && eqb u y)) (old x y h)
    ∙ ap (λ z. z || (eqb w x && eqb u y)) p ∙ q

after_trimmed : (net : Net) (call : Call) → words_needed net.variables ≤ length net.words → Trimmed net → Trimmed (after net call)
after_trimmed net (Add a b) room old =
    by_call net a b (λ ws. Trimmed (record { variables = net.variables; words = ws })) old
    (λ free. trimmed_by_conflict net.variables net.words (index a) (index b) room
    (index_below net.variables a free.0) (index_below net.variables b free.1) old)

pub after_sound : (net : Net) (call : Call) → Sound net → Sound (after net call)
after_sound net call h =
    let room = h.1.0 in
    let len = length_after net call in (
      h.0,
      (
        omega arith,
        (
          after_mutual net call room h.1.1.0,
          (
            after_apart net call room h.1.1.1.0,
            (after_trimmed net call room h.1.1.1.1.0, tt),
          ),
        ),
      ),
    )

pub sound_same : (net net' : Net) → net' ≡ net → Sound net → Sound net'
sound_same net net' e h = subst Sound (sym e) h

-- the same by index, as the layers above read the matrix
module _ (net : Net) where
  conflict_at : (u w : ℕ) → u < 2 * net.variables → w < 2 * net.variables
      → stands net.variables net.words u w ≡ true → Conflict net (literal u) (literal w)
  conflict_at u w hu hw s = (
    literal_within net.variables u hu,
    literal_within net.variables w hw,
    ap (λ x. stands net.variables net.words x (index (literal w))) (index_literal u)
        ∙ ap (λ y. stands net.variables net.words u y) (index_literal w) ∙ s,
  )

  back : Mutual net → (u w : ℕ) → u < 2 * net.variables → w < 2 * net.variables
      → stands net.variables net.words u w ≡ true → stands net.variables net.words w u ≡ true
  back m u w hu hw s =
      sym (ap (λ x. stands net.variables net.words x (index (literal u))) (index_literal w)
      ∙ ap (λ y. stands net.variables net.words w y) (index_literal u))
      ∙ m (literal u) (literal w) (conflict_at u w hu hw s)

  pub mutual_by_index : Mutual net → (u w : ℕ) → u < 2 * net.variables → w < 2 * net.variables
      → stands net.variables net.words u w ≡ stands net.variables net.words w u
  mutual_by_index m u w hu hw =
      ⊎_elim (λ s. s ∙ sym (back m u w hu hw s))
      (λ s. ⊎_elim (λ t. absurd (both_ways _ s (back m w u hw hu t))) (λ t. s ∙ sym t) (cases_Bool (stands net.variables net.words w u)))
      (cases_Bool (stands net.variables net.words u w))

  pub apart_by_index : Apart net → (u w : ℕ) → u < 2 * net.variables → w < 2 * net.variables → u / 2 ≡ w / 2
      → stands net.variables net.words u w ≡ false
  apart_by_index m u w hu hw e =
      ⊎_elim
      (λ s. absurd (m (literal u) (literal w) (conflict_at u w hu hw s) (variable_literal u ∙ ap (λ h. h + 1) e ∙ sym (variable_literal w))))
      (λ s. s) (cases_Bool (stands net.variables net.words u w))
