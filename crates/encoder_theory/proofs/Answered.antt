-- From the answers of the checks to the answer of a call.
use base.Fml.{GName}
use Rattle.std.proofs.Common.{◌≡◌, ℕ, ◌*◌, ◌<◌, ◌≤◌, Bool, true, false, leb, List, [], ◌++◌, map, length, drop, ℤ, pos, nat_abs, Ok, Err, Option, Result, sym, refl, ap, ◌∙◌, subst, arith}
use Rattle.std.proofs.lemmas.Bool.{leb-true, cond-true}
use Rattle.std.proofs.lemmas.List.{length-map}
use Rattle.fault.specs.declared.Fault.{Fault}
use Rattle.filling.specs.Filled.{Filled, after, whole}
use Rattle.filling.specs.Views.{filled}
use Rattle.filling.specs.declared.Filling.{Filling}
use Rattle.filling.proofs.Extended.{whole_is}
use Rattle.logic.specs.Literal.{variable}
use Rattle.logic.specs.Clause.{flat}
use Rattle.logic.proofs.Clauses.{length_flat}
use Rattle.encoder_theory.specs.Laws.{Lawful}
use Rattle.encoder_theory.specs.Buffer.{byte}
use Rattle.encoder_theory.specs.Members.{member, Within}
use Rattle.encoder_theory.specs.Meaning.{Meaning, Admitted, Admits, most_members, last_end}
use Rattle.encoder_theory.specs.Calls.{is_placed, answer, left, told, clauses_fit, clauses_room, values_room, written, write_leaves, values_answer, values_leaves}
use Rattle.encoder_theory.proofs.Decided.{admitted_first, placed_decides}

pub granted : {X : Type 0} (fit room : Bool) (x z : X) → Ok z ≡ answer fit room x → (fit ≡ true) × (room ≡ true) × (z ≡ x)
granted true true x z h = (refl, refl, cc)
granted true false x z h = absurd (cc)
granted false room x z h = absurd (cc)

same_fault : (X Y : Type 0) (e f : Fault) → ◌≡◌ {A = Result X Fault} (Err e) (Err f) → ◌≡◌ {A = Result Y Fault} (Err e) (Err f)
same_fault X Y e f h = cc

-- a declined call answers the same whatever it was to answer, and leaves what was there
pub declined : {X Y Z : Type 0} (fit room : Bool) (x : X) (y : Y) (new old : Z) (e : Fault) → Err e ≡ answer fit room x
    → (Err e ≡ answer fit room y) × (old ≡ left fit room new old)
declined true true x y new old e h = absurd (cc)
declined {X} {Y} true false x y new old e h = (same_fault X Y e _ h, refl)
declined {X} {Y} false room x y new old e h = (same_fault X Y e _ h, refl)

-- the number that was told
pub told_is : (m n k : ℕ) → Ok k ≡ told m n → (m ≤ most_members) × (k ≡ n)
told_is m n k h = let g = granted (leb m most_members) true n k h in (leb-true m most_members g.0, g.2)

-- what `check_write` lets through, and what is written once the clauses are put
module _ (M : Meaning) (law : Lawful M) (xs : List ℤ) (first : ℤ) (out : List ℤ) (z : ℕ)
    (checked : Ok z ≡ answer (clauses_fit M xs first) (clauses_room M xs out) (nat_abs first)) where
  pub write_admitted : Admits M xs z × (2 * M.clauses (length xs) ≤ length out) × (first ≡ pos z)
  write_admitted =
      let g = granted (clauses_fit M xs first) (clauses_room M xs out) (nat_abs first) z checked in
      let f = admitted_first xs first (M.auxiliaries (length xs)) g.0 in
      let e : f.0 ≡ z = sym (ap nat_abs f.1) ∙ sym g.2 in
      (subst (λ y. Admits M xs y) e f.2, leb-true _ _ g.1, f.1 ∙ ap pos e)

  pub all_written : (name : GName) (f : Filled ℤ) (put : Filling ℤ) → f ≡ record { put = []; rest = out; lender = name } → filled put ≡ after f (flat (M.list xs z))
      → put.buffer.now ≡ write_leaves M xs first out
  all_written name f put e h =
      let g = granted (clauses_fit M xs first) (clauses_room M xs out) (nat_abs first) z checked in
      let n : length (flat (M.list xs z)) ≡ 2 * M.clauses (length xs) = length_flat (M.list xs z) ∙ ap (λ k. 2 * k) (law.well_formed.counted xs z write_admitted.0) in
      whole_is put ∙ ap whole (h ∙ ap (λ (k : Filled ℤ). after k (flat (M.list xs z))) e)
      ∙ ap (λ k. flat (M.list xs z) ++ drop k out) n
      ∙ ap (λ k. written M xs k out) g.2
      ∙ sym (cond-true (clauses_fit M xs first) _ _ g.0 ∙ cond-true (clauses_room M xs out) _ _ g.1)

-- what `check_values` lets through, and what is left once the values are put
module _ (M : Meaning) (law : Lawful M) (m : ℕ) (t : Option ℕ) (out : List ℕ) (checked : Ok tt ≡ values_answer M m t out) where
  pub values_admitted : (m ≤ most_members) × Within t m × (M.auxiliaries m ≤ length out)
  values_admitted =
      let g = granted (is_placed m t) (values_room M m out) tt tt checked in
      let p = (placed_decides m t).0 g.0 in
      (p.0, p.1, leb-true _ _ g.1)

  pub values_put : (new : List ℕ) → new ≡ map byte (M.values m t) ++ drop (M.auxiliaries m) out → new ≡ values_leaves M m t out
  values_put new h =
      let g = granted (is_placed m t) (values_room M m out) tt tt checked in
      h ∙ sym (cond-true (is_placed m t) _ _ g.0 ∙ cond-true (values_room M m out) _ _ g.1)

  pub all_valued : (name : GName) (f : Filled ℕ) (put : Filling ℕ) → f ≡ record { put = []; rest = out; lender = name } → filled put ≡ after f (map byte (M.values m t))
      → put.buffer.now ≡ values_leaves M m t out
  all_valued name f put e h =
      let n : length (map byte (M.values m t)) ≡ M.auxiliaries m = length-map (M.values m t) byte ∙ law.well_formed.valued m t values_admitted.0 values_admitted.1 in
      values_put put.buffer.now
      (whole_is put ∙ ap whole (h ∙ ap (λ (k : Filled ℕ). after k (map byte (M.values m t))) e) ∙ ap (λ k. map byte (M.values m t) ++ drop k out) n)

-- admitted members are literals of 32 bits
pub small_members : (xs : List ℤ) (first n : ℕ) → Admitted xs first n → (i : ℕ) → i < length xs → variable (member xs i) ≤ last_end
small_members xs first n ok i l = let b = ok.proper.below i l in let f = ok.fits in omega arith
