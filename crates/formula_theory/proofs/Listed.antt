-- Elements of lists, and clauses made along a list.
use Rattle.std.proofs.Common.{◌≡◌, ℕ, zero, suc, ◌<◌, List, [], ◌∷◌, map, length, ℤ, sym, refl, ap, inl, inr, arith}
use Rattle.logic.specs.Clause.{In}
use Rattle.encoder_theory.specs.Members.{member}

pub in_member : (xs : List ℤ) (i : ℕ) → i < length xs → In (member xs i) xs
in_member [] i l = absurd (omega arith)
in_member (x ∷ xs) zero l = inl refl
in_member (x ∷ xs) (suc i) l = inr (in_member xs i (omega arith))

pub member_in : (p : ℤ) (xs : List ℤ) → In p xs → (i : ℕ) × (i < length xs) × (p ≡ member xs i)
member_in p [] h = absurd h
member_in p (x ∷ xs) (inl e) = (0, omega arith, sym e)
member_in p (x ∷ xs) (inr h) = let r = member_in p xs h in let l : suc r.0 < suc (length xs) = omega (arith, r.1) in (suc r.0, l, r.2)

pub map_has : {X Y : Type 0} (f : X → Y) (xs : List X) (x : X) → In x xs → In (f x) (map f xs)
map_has f [] x h = absurd h
map_has f (y ∷ xs) x (inl e) = inl (ap f e)
map_has f (y ∷ xs) x (inr h) = inr (map_has f xs x h)

pub map_in : {X Y : Type 0} (f : X → Y) (xs : List X) (y : Y) → In y (map f xs) → (x : X) × In x xs × (f x ≡ y)
map_in f [] y h = absurd h
map_in f (x ∷ xs) y (inl e) = (x, inl refl, e)
map_in f (x ∷ xs) y (inr h) = let r = map_in f xs y h in (r.0, inr r.1, r.2)

pub length_map : {X Y : Type 0} (f : X → Y) (xs : List X) → length (map f xs) ≡ length xs
length_map f [] = refl
length_map f (x ∷ xs) = let e = length_map f xs in omega arith
