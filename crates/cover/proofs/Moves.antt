-- Steps of the rule on the conflicts that remain and on the list, one after another.
use Rattle.std.proofs.Common.{◌≡◌, ◌+◌, ◌-◌, List, [], ◌++◌, length, ℤ, Option, None, MatchOption, sym, refl, ap, ◌∙◌, subst, arith}
use Rattle.std.proofs.lemmas.List.{length-append, length-drop}
use Rattle.filling.specs.Filled.{Filled, after}
use Rattle.filling.proofs.Extended.{after_none, after_more}
use Rattle.cover_theory.specs.Rows.{Flat}
use Rattle.cover.specs.declared.remaining.Remaining.{Remaining}
use Rattle.cover.specs.Views.{Moved, Shape, rel_in}

pub moved_none : (r : Remaining) (f : Filled ℤ) → Moved r r f f (rel_in r, f.put)
moved_none r f = record { shape = refl; state = refl; added = []; fits = omega arith; list = sym (after_none f) }

pub moved_as : (r t : Remaining) (f g : Filled ℤ) (s s' : Flat) → Moved r t f g s → s ≡ s' → Moved r t f g s'
moved_as r t f g s s' m e = record { shape = m.shape; state = m.state ∙ e; added = m.added; fits = m.fits; list = m.list }

pub moved_room : (r t : Remaining) (f g : Filled ℤ) (s : Flat) → Moved r t f g s → length g.put + length g.rest ≡ length f.put + length f.rest
moved_room r t f g s m =
    omega (
      arith,
      m.fits,
      ap (λ (h : Filled ℤ). length h.put + length h.rest) m.list,
      length-append f.put m.added,
      length-drop (length m.added) f.rest,
    )

pub moved_on : (r t u : Remaining) (f g h : Filled ℤ) (s s' : Flat) → Moved r t f g s → Moved t u g h s' → Moved r u f h s'
moved_on r t u f g h s s' m n = record {
  shape = n.shape ∙ m.shape;
  state = n.state;
  added = m.added ++ n.added;
  fits = omega (arith, m.fits, n.fits, ap (λ (k : Filled ℤ). length k.rest) m.list, length-append m.added n.added, length-drop (length m.added) f.rest);
  list = n.list ∙ ap (λ k. after k n.added) m.list ∙ after_more f m.added n.added;
}

pub moved_count : (r t : Remaining) (f g : Filled ℤ) (s : Flat) → Moved r t f g s → t.count ≡ r.count
moved_count r t f g s m = ap (λ (z : Shape). z.count) m.shape

pub moved_width : (r t : Remaining) (f g : Filled ℤ) (s : Flat) → Moved r t f g s → t.width ≡ r.width
moved_width r t f g s m = ap (λ (z : Shape). z.width) m.shape

-- a call that returns early
pub on_none : {X : Type 0} (r : Option X) (P : Type 0) (Q : X → Type 0) → r ≡ None → P → MatchOption r P Q
on_none r P Q e p = subst (λ z. MatchOption z P Q) (sym e) p

-- items that are put after others
pub after_step : (f g h : Filled ℤ) (xs ys : List ℤ) → g ≡ after f xs → h ≡ after g ys → h ≡ after f (xs ++ ys)
after_step f g h xs ys p q = q ∙ ap (λ k. after k ys) p ∙ after_more f xs ys

pub after_rest : (f g : Filled ℤ) (xs : List ℤ) → g ≡ after f xs → length g.rest ≡ length f.rest - length xs
after_rest f g xs e = ap (λ (k : Filled ℤ). length k.rest) e ∙ length-drop (length xs) f.rest
