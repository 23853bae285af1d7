-- Items that are put one after another.
use Rattle.std.proofs.Common.{◌≡◌, ◌≤◌, List, [], ◌++◌, length, drop, sym, ap, ◌∙◌, append_assoc, arith, length-append, length-drop}
use Rattle.std.proofs.lemmas.List.{append-nil, drop-drop, take-append-drop}
use Rattle.std.proofs.lemmas.Bool.{le-leb, cond-true}
use Rattle.filling.specs.Filled.{Filled, after, extended, whole}
use Rattle.filling.specs.Views.{filled}
use Rattle.filling.specs.declared.Filling.{Filling}

module _ {T : Type 0} where
  -- items for which there is room are put
  pub extended_fits : (f : Filled T) (items : List T) → length items ≤ length f.rest → extended f items ≡ after f items
  extended_fits f items h = cond-true _ _ _ (le-leb (length items) (length f.rest) h)

  -- nothing put changes nothing
  pub after_none : (f : Filled T) → after f [] ≡ f
  after_none f = ap (λ p. record { put = p; rest = f.rest; lender = f.lender }) (append-nil f.put)

  -- items put one list after another are put as one list
  pub after_more : (f : Filled T) (xs ys : List T) → after (after f xs) ys ≡ after f (xs ++ ys)
  after_more f xs ys =
      ap (λ p. record { put = p; rest = drop (length ys) (drop (length xs) f.rest); lender = f.lender }) (append_assoc f.put xs ys)
      ∙ ap (λ r. record { put = f.put ++ (xs ++ ys); rest = r; lender = f.lender })
      (drop-drop (length ys) (length xs) f.rest ∙ ap (λ n. drop n f.rest) (sym (length-append xs ys)))

  -- what room they leave
  pub after_room : (f : Filled T) (xs ys : List T) → length (xs ++ ys) ≤ length f.rest → length ys ≤ length (after f xs).rest
  after_room f xs ys h = omega (arith, length-append xs ys, length-drop (length xs) f.rest)

  -- with items for which there is room in all
  pub extended_more : (f : Filled T) (xs ys : List T) → length (xs ++ ys) ≤ length f.rest → extended (after f xs) ys ≡ after f (xs ++ ys)
  extended_more f xs ys h = extended_fits (after f xs) ys (after_room f xs ys h) ∙ after_more f xs ys

  -- where what has been put so far is known
  pub extended_step : (f g : Filled T) (xs ys : List T) → g ≡ after f xs → length (xs ++ ys) ≤ length f.rest → extended g ys ≡ after f (xs ++ ys)
  extended_step f g xs ys e h = ap (λ k. extended k ys) e ∙ extended_more f xs ys h

-- a buffer holds what has been put and the rest
pub whole_is : {T : Type 0} (f : Filling T) → f.buffer.now ≡ whole (filled f)
whole_is f = sym (take-append-drop f.len f.buffer.now)
