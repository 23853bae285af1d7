-- Items that are put next, one list after another, while some of them are still to be put.
use Rattle.std.proofs.Common.{◌≡◌, ◌≤◌, List, [], ◌++◌, length, sym, refl, ap, ◌∙◌, subst, arith, length-append}
use Rattle.filling.specs.Filled.{Filled, after, extended}
use Rattle.filling.proofs.Extended.{extended_fits, after_none, after_more, after_room}

-- the filling f became g: what `left` adds to g is what `all` adds to f, and there is room for it
pub record Still {T : Type 0} (f : Filled T) (all : List T) (g : Filled T) (left : List T) : Type 0 where
  pub same : after g left ≡ after f all
  pub room : length left ≤ length g.rest

module _ {T : Type 0} (f : Filled T) (all : List T) where
  pub still_start : length all ≤ length f.rest → Still f all f all
  still_start h = record { same = refl; room = h }

  pub still_end : (g : Filled T) → Still f all g [] → g ≡ after f all
  still_end g s = sym (after_none g) ∙ s.same

  -- what is left, told otherwise
  pub still_is : (g : Filled T) (xs ys : List T) → xs ≡ ys → Still f all g xs → Still f all g ys
  still_is g xs ys e s = subst (Still f all g) e s

  module _ (g : Filled T) (xs ys : List T) (s : Still f all g (xs ++ ys)) where
    pub still_room : length xs ≤ length g.rest
    still_room = omega (arith, s.room, length-append xs ys)

    -- the first of it is put
    pub still_on : (h : Filled T) → h ≡ after g xs → Still f all h ys
    still_on h e = record {
      same = ap (λ k. after k ys) e ∙ after_more g xs ys ∙ s.same;
      room = subst (λ k. length ys ≤ length k.rest) (sym e) (after_room g xs ys s.room);
    }

    pub still_extended : (h : Filled T) → h ≡ extended g xs → Still f all h ys
    still_extended h e = still_on h (e ∙ extended_fits g xs still_room)
