-- Putting the clauses of parts, and the values of their auxiliaries, one part after another.
use Rattle.std.proofs.Common.{◌≡◌, ℕ, ◌+◌, ◌*◌, ◌^◌, ◌<◌, ◌≤◌, List, [], ◌∷◌, ◌++◌, map, length, get_or, drop, ℤ, pos, is_some, Ok, Option, sym, refl, ap, ◌∙◌, subst, inl, inr, add-one, drop-cons, arith, length-append}
use Rattle.std.specs.List.{All}
use Rattle.std.proofs.lemmas.List.{length-map, map-append}
use Rattle.filling.specs.Filled.{Filled, after, extended}
use Rattle.filling.proofs.Extended.{extended_fits}
use Rattle.logic.specs.Literal.{variable, Literal}
use Rattle.logic.specs.Clause.{Clause, against, Assignment, In, flat}
use Rattle.logic.proofs.Clauses.{length_flat, flat_append}
use Rattle.encoder_theory.specs.Buffer.{byte}
use Rattle.encoder_theory.specs.Meaning.{Meaning, Admits, last_end, most_members}
use Rattle.encoder_theory.specs.Members.{Within}
use Rattle.encoder_theory.specs.Laws.{Lawful}
use Rattle.encoder_theory.specs.Calls.{write_answer, values_answer}
use Rattle.encoder_theory.specs.Appended.{clauses_appended, values_appended}
use Rattle.encoder_theory.proofs.Appended.{clauses_granted, values_granted}
use Rattle.cover_theory.specs.Parts.{Part, clique, biclique, Sound, Cover}
use Rattle.formula_theory.specs.Writing.{chosen, implication, biclique_clauses, part_size, part_auxiliaries, over_parts, part_clauses, true_place, part_values, values_from}
use Rattle.formula_theory.proofs.Pieces.{clique_admitted}
use Rattle.formula_theory.proofs.Counts.{length_written, length_part}
use Rattle.formula_theory.proofs.Models.{length_values, length_part as length_part_values}
use Rattle.cover.specs.Walk.{parts_in}
use Rattle.cover.specs.declared.Part.{Part as Placed}
use Rattle.writing_theory.specs.Listed.{parts_clauses, read_part, read_parts, parts_of, Inside, Moderate, SoundBelow, Writable}
use Rattle.writing_theory.proofs.Parts.{inside_from, moderate_read}
use Rattle.writing_theory.proofs.Values.{literals_in, some_place}
use Rattle.writing_theory.proofs.Still.{Still, still_start, still_end, still_is, still_room, still_on, still_extended}

-- ---- a clause for each number of a list
module _ (F : Filled ℤ) (all : List ℤ) (f : ℤ → Clause) (xs : List ℤ) (i : ℕ) (l : i < length xs) (R : List Clause) where
  abbrev c : Clause
  c = f (get_or xs i (pos 0))

  pub each_on : (g h : Filled ℤ) → Still F all g (flat (map f (drop i xs) ++ R)) → h ≡ extended g (c.0 ∷ c.1 ∷ []) → Still F all h (flat (map f (drop (i + 1) xs) ++ R))
  each_on g h s e =
      still_extended F all g (c.0 ∷ c.1 ∷ []) (flat (map f (drop (i + 1) xs) ++ R))
      (still_is F all g _ _ (ap (λ ys. flat (map f ys ++ R)) (drop-cons xs i (pos 0) l ∙ ap (λ k. get_or xs i (pos 0) ∷ drop k xs) (sym (add-one i)))) s) h e

pub biclique_room : (ls rs : List ℤ) (z room : ℕ) → 2 * (length ls + length rs) ≤ room → length (flat (biclique_clauses ls rs (pos z))) ≤ room
biclique_room ls rs z room h =
    omega (
      arith,
      length_flat (biclique_clauses ls rs (pos z)),
      length-append (map (λ a. implication a (pos z)) ls) (map (λ b. against (pos z) b) rs),
      length-map ls (λ a. implication a (pos z)),
      length-map rs (λ b. against (pos z) b),
    )

-- what a part's literals are fit for
pub sides_small : (first : ℕ) (ls rs : List ℤ) → SoundBelow first (biclique ls rs) → first ≤ last_end → All (λ a. variable a ≤ last_end) ls × All (λ b. variable b ≤ last_end) rs
sides_small first ls rs s f = (small ls s.2.0, small rs s.2.1)
  where
    small : (xs : List ℤ) → ((p : ℤ) → In p xs → Literal s.0 p) → All (λ a. variable a ≤ last_end) xs
    small xs h i d l = omega (arith, (literals_in s.0 xs h i d l).1, s.1)

pub clique_admits : (M : Meaning) (first : ℕ) (xs : List ℤ) → SoundBelow first (clique xs) → first + part_auxiliaries M (clique xs) ≤ last_end → Admits (chosen M (length xs)) xs first
clique_admits M first xs s f = clique_admitted M s.0 first xs s.2 s.1 f

-- ---- the parts ps are still to be written into g, with auxiliaries from `next` on
module _ (M : Meaning) (xs : List ℤ) (first : ℕ) (f : Filled ℤ) where
  pub record Putting (ps : List Placed) (next : ℕ) (g : Filled ℤ) : Type 0 where
    pub still : Still f (flat (parts_clauses M (parts_of xs) first)) g (flat (parts_clauses M (read_parts xs ps) next))
    pub inside : Inside xs ps
    pub ready : (n : ℕ) × Writable n M (read_parts xs ps) next

  module _ (law : Lawful M) where
    pub putting_start : (n : ℕ) × Writable n M (parts_of xs) first → 2 * over_parts (part_size M) (parts_of xs) ≤ length f.rest → Putting (parts_in xs) first f
    putting_start w h = record {
      still = still_start f (flat (parts_clauses M (parts_of xs) first))
          (let C : Cover = record { parts = parts_of xs; remaining = [] } in
          let a = length_written M law w.0 C w.1.sound first record { above = w.1.above; fits = w.1.fits } in
          let b = length_flat (parts_clauses M (parts_of xs) first) in omega arith);
      inside = inside_from xs (length xs) 0;
      ready = w;
    }

    module _ (p : Placed) (ps : List Placed) (next : ℕ) (g : Filled ℤ) (w : Putting (p ∷ ps) next g) where
      abbrev P : Part ℤ
      P = read_part xs p

      abbrev n : ℕ
      n = w.ready.0

      pub next_sound : SoundBelow next P
      next_sound = (n, w.ready.1.above, w.ready.1.sound P (inl refl))

      pub next_moderate : length xs < 2 ^ 64 → Moderate p
      next_moderate h = moderate_read n xs p w.inside.0 h (w.ready.1.sound P (inl refl))

      pub next_fits : next + part_auxiliaries M P ≤ last_end
      next_fits = let h = w.ready.1.fits in omega arith

      split : flat (parts_clauses M (P ∷ read_parts xs ps) next) ≡ flat (part_clauses M P next) ++ flat (parts_clauses M (read_parts xs ps) (next + part_auxiliaries M P))
      split = flat_append (part_clauses M P next) (parts_clauses M (read_parts xs ps) (next + part_auxiliaries M P))

      pub next_room : 2 * part_size M P ≤ length g.rest
      next_room =
          let a = still_room f _ g (flat (part_clauses M P next)) _ (still_is f _ g _ _ split w.still) in
          let b = length_part M law n next w.ready.1.above P (w.ready.1.sound P (inl refl)) next_fits in
          let c = length_flat (part_clauses M P next) in omega arith

      pub putting_on : (later : ℕ) (h : Filled ℤ) → later ≡ next + part_auxiliaries M P → h ≡ after g (flat (part_clauses M P next)) → Putting ps later h
      putting_on later h el eh = record {
        still = still_on f _ g (flat (part_clauses M P next)) _
            (still_is f _ g _ _ (split ∙ ap (λ k. flat (part_clauses M P next) ++ flat (parts_clauses M (read_parts xs ps) k)) (sym el)) w.still) h eh;
        inside = w.inside.1;
        ready = (
          n,
          record {
            sound = λ Q i. w.ready.1.sound Q (inr i);
            above = let a = w.ready.1.above in omega arith;
            fits = let a = w.ready.1.fits in omega arith;
          },
        );
      }

  pub putting_end : (next : ℕ) (g : Filled ℤ) → Putting [] next g → g ≡ after f (flat (parts_clauses M (parts_of xs) first))
  putting_end next g w = still_end f _ g w.still

-- ---- the values of the auxiliaries of the parts ps are still to be put into g
module _ (M : Meaning) (xs : List ℤ) (n : ℕ) (s : Assignment) (f : Filled ℕ) where
  pub record Valuing (ps : List Placed) (g : Filled ℕ) : Type 0 where
    pub still : Still f (map byte (values_from M s (parts_of xs))) g (map byte (values_from M s (read_parts xs ps)))
    pub inside : Inside xs ps
    pub sound : (P : Part ℤ) → In P (read_parts xs ps) → Sound n P

  module _ (law : Lawful M) where
    pub valuing_start : ((P : Part ℤ) → In P (parts_of xs) → Sound n P) → over_parts (part_auxiliaries M) (parts_of xs) ≤ length f.rest → Valuing (parts_in xs) f
    valuing_start o h = record {
      still = still_start f (map byte (values_from M s (parts_of xs)))
          (omega (arith, length-map (values_from M s (parts_of xs)) byte, length_values M law n s (parts_of xs) o));
      inside = inside_from xs (length xs) 0;
      sound = o;
    }

    module _ (p : Placed) (ps : List Placed) (g : Filled ℕ) (w : Valuing (p ∷ ps) g) where
      abbrev Q : Part ℤ
      Q = read_part xs p

      parted : map byte (values_from M s (Q ∷ read_parts xs ps)) ≡ map byte (part_values M s Q) ++ map byte (values_from M s (read_parts xs ps))
      parted = map-append byte (part_values M s Q) (values_from M s (read_parts xs ps))

      pub valued_sound : Sound n Q
      valued_sound = w.sound Q (inl refl)

      pub valued_room : part_auxiliaries M Q ≤ length g.rest
      valued_room =
          let a = still_room f _ g (map byte (part_values M s Q)) _ (still_is f _ g _ _ parted w.still) in
          omega (arith, length-map (part_values M s Q) byte, length_part_values M law n s Q valued_sound)

      pub valuing_on : (h : Filled ℕ) → h ≡ after g (map byte (part_values M s Q)) → Valuing ps h
      valuing_on h eh = record {
        still = still_on f _ g (map byte (part_values M s Q)) _ (still_is f _ g _ _ parted w.still) h eh;
        inside = w.inside.1;
        sound = λ R i. w.sound R (inr i);
      }

  pub valuing_end : (g : Filled ℕ) → Valuing [] g → g ≡ after f (map byte (values_from M s (parts_of xs)))
  valuing_end g w = still_end f _ g w.still

-- ---- an encoder's call that is admitted and has room is not declined
module _ (N M : Meaning) (e : N ≡ M) where
  pub clauses_ok : (xs : List ℤ) (first : ℕ) (f : Filled ℤ) → Admits M xs first → 2 * M.clauses (length xs) ≤ length f.rest
      → (write_answer N xs (pos first) f.rest ≡ Ok tt) × (clauses_appended N xs (pos first) f ≡ after f (flat (M.list xs first)))
  clauses_ok xs first f a r =
      let k = clauses_granted M xs first f a r in
      (ap (λ E. write_answer E xs (pos first) f.rest) e ∙ k.0, ap (λ E. clauses_appended E xs (pos first) f) e ∙ k.1)

  pub values_ok : (m : ℕ) (t : Option ℕ) (f : Filled ℕ) → m ≤ most_members → Within t m → M.auxiliaries m ≤ length f.rest
      → (values_answer N m t f.rest ≡ Ok tt) × (values_appended N m t f ≡ after f (map byte (M.values m t)))
  values_ok m t f a w r =
      let k = values_granted M m t f a w r in
      (ap (λ E. values_answer E m t f.rest) e ∙ k.0, ap (λ E. values_appended E m t f) e ∙ k.1)

-- a biclique's one value
pub side_put : (M : Meaning) (s : Assignment) (P : Part ℤ) (ls rs : List ℤ) (o : Option ℕ) (f g : Filled ℕ) → P ≡ biclique ls rs → o ≡ true_place s ls → part_auxiliaries M P ≤ length f.rest
    → g ≡ extended f (byte (is_some o) ∷ []) → g ≡ after f (map byte (part_values M s P))
side_put M s P ls rs o f g e h room k =
    let r : 1 ≤ length f.rest = subst (λ Q. part_auxiliaries M Q ≤ length f.rest) e room in
    k ∙ extended_fits f (byte (is_some o) ∷ []) r
    ∙ ap (λ b. after f (byte b ∷ [])) (ap is_some h ∙ sym (some_place s ls))
    ∙ ap (λ Q. after f (map byte (part_values M s Q))) (sym e)
