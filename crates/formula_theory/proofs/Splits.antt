-- What is written for some parts and then for others: for a loop that goes part by part.
use Rattle.std.proofs.Common.{◌≡◌, ℕ, ◌+◌, List, [], ◌∷◌, ◌++◌, ℤ, sym, refl, ap, ◌∙◌, append_assoc, arith}
use Rattle.logic.specs.Clause.{Assignment}
use Rattle.encoder_theory.specs.Meaning.{Meaning}
use Rattle.cover_theory.specs.Parts.{Part}
use Rattle.formula_theory.specs.Writing.{part_clauses, part_auxiliaries, clauses_from, over_parts, part_values, values_from}

pub over_parts_append : (f : Part ℤ → ℕ) (Ps Qs : List (Part ℤ)) → over_parts f (Ps ++ Qs) ≡ over_parts f Ps + over_parts f Qs
over_parts_append f [] Qs = omega arith
over_parts_append f (P ∷ Ps) Qs = let e = over_parts_append f Ps Qs in omega arith

-- the clauses of the parts alone come first
pub clauses_from_append : (M : Meaning) (R : List (ℤ × ℤ)) (Ps Qs : List (Part ℤ)) (z : ℕ)
    → clauses_from M (Ps ++ Qs) R z ≡ clauses_from M Ps [] z ++ clauses_from M Qs R (z + over_parts (part_auxiliaries M) Ps)
clauses_from_append M R [] Qs z = let e : z ≡ z + 0 = omega arith in ap (clauses_from M Qs R) e
clauses_from_append M R (P ∷ Ps) Qs z =
    let a : ℕ = part_auxiliaries M P in
    let e : z + a + over_parts (part_auxiliaries M) Ps ≡ z + (a + over_parts (part_auxiliaries M) Ps) = omega arith in
    ap (λ L. part_clauses M P z ++ L) (clauses_from_append M R Ps Qs (z + a) ∙ ap (λ k. clauses_from M Ps [] (z + a) ++ clauses_from M Qs R k) e)
    ∙ sym (append_assoc (part_clauses M P z) (clauses_from M Ps [] (z + a)) (clauses_from M Qs R (z + (a + over_parts (part_auxiliaries M) Ps))))

pub values_from_append : (M : Meaning) (s : Assignment) (Ps Qs : List (Part ℤ)) → values_from M s (Ps ++ Qs) ≡ values_from M s Ps ++ values_from M s Qs
values_from_append M s [] Qs = refl
values_from_append M s (P ∷ Ps) Qs =
    ap (λ vs. part_values M s P ++ vs) (values_from_append M s Ps Qs) ∙ sym (append_assoc (part_values M s P) (values_from M s Ps) (values_from M s Qs))
