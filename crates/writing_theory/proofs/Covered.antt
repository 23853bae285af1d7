-- From a cover that stands to what is written and left.
use Rattle.std.proofs.Common.{◌≡◌, ℕ, ◌+◌, ◌*◌, ◌≤◌, List, [], ◌∷◌, ◌++◌, length, drop, ℤ, sym, refl, ap, ◌∙◌, append_assoc, arith, length-drop}
use base.Fml.{GName}
use Rattle.filling.specs.Filled.{Filled, after, whole}
use Rattle.filling.specs.Views.{filled}
use Rattle.filling.specs.declared.Filling.{Filling}
use Rattle.filling.proofs.Extended.{after_more, whole_is}
use Rattle.logic.specs.Clause.{flat}
use Rattle.logic.proofs.Clauses.{length_flat, flat_append}
use Rattle.encoder_theory.specs.Meaning.{Meaning}
use Rattle.encoder_theory.specs.Laws.{Lawful}
use Rattle.cover_theory.specs.Parts.{Part, Cover}
use Rattle.formula_theory.specs.Writing.{part_auxiliaries, part_clauses, clauses_from, conflict_clauses, written_clauses, clause_count}
use Rattle.formula_theory.proofs.Counts.{length_written}
use Rattle.writing_theory.specs.Listed.{parts_clauses, parts_of, Writable}
use Rattle.writing_theory.specs.Covering.{cover_in, put}

-- the parts' clauses, then those of what remains
clauses_split : (M : Meaning) (Ps : List (Part ℤ)) (R : List (ℤ × ℤ)) (first : ℕ) → clauses_from M Ps R first ≡ parts_clauses M Ps first ++ conflict_clauses R
clauses_split M [] R first = refl
clauses_split M (P ∷ Ps) R first =
    ap (λ L. part_clauses M P first ++ L) (clauses_split M Ps R (first + part_auxiliaries M P))
    ∙ sym (append_assoc (part_clauses M P first) (parts_clauses M Ps (first + part_auxiliaries M P)) (conflict_clauses R))

module _ (M : Meaning) (law : Lawful M) (xs : List ℤ) (pairs : List (ℤ × ℤ)) (first : ℕ) (w : (n : ℕ) × Writable n M (parts_of xs) first) where
  abbrev C : Cover
  C = cover_in xs pairs

  abbrev A : List ℤ
  A = flat (parts_clauses M (parts_of xs) first)

  abbrev B : List ℤ
  B = flat (conflict_clauses pairs)

  both : A ++ B ≡ flat (written_clauses M C first)
  both = sym (flat_append (parts_clauses M (parts_of xs) first) (conflict_clauses pairs)) ∙ ap flat (sym (clauses_split M (parts_of xs) pairs first))

  counted : length (flat (written_clauses M C first)) ≡ 2 * clause_count M C
  counted =
      length_flat (written_clauses M C first)
      ∙ ap (λ k. 2 * k) (length_written M law w.0 C w.1.sound first record { above = w.1.above; fits = w.1.fits })

  -- once the parts are written, what remains has room
  pub remaining_room : (f g : Filled ℤ) → 2 * clause_count M C ≤ length f.rest → g ≡ after f A → 2 * length pairs ≤ length g.rest
  remaining_room f g h e =
      let only : Cover = cover_in xs [] in
      let a = length_flat (parts_clauses M (parts_of xs) first) in
      let b = length_written M law w.0 only w.1.sound first record { above = w.1.above; fits = w.1.fits } in
      let d = ap (λ (k : Filled ℤ). length k.rest) e in
      omega (arith, length-drop (length A) f.rest)

  -- the two lists, one after the other from the buffer's start
  pub put_all : (name : GName) (old : List ℤ) (f g : Filled ℤ) (h : Filling ℤ) → f ≡ record { put = []; rest = old; lender = name } → g ≡ after f A → filled h ≡ after g B
      → h.buffer.now ≡ put M C first old
  put_all name old f g h ef eg eh =
      whole_is h ∙ ap whole (eh ∙ ap (λ k. after k B) eg ∙ after_more f A B ∙ ap (after f) both ∙ ap (λ k. after k (flat (written_clauses M C first))) ef)
      ∙ ap (λ k. flat (written_clauses M C first) ++ drop k old) counted
