-- What numbers put one after another leave, in a filling and of the room.
use Rattle.std.proofs.Common.{◌≡◌, ℕ, ◌+◌, ◌≤◌, cond, List, [], ◌∷◌, ◌++◌, map, sum, length, ℤ, decimal, sym, refl, ap, ◌∙◌, append_assoc, length-append, arith}
use Rattle.std.proofs.lemmas.List.Recursion.{is_sum_by}
use Rattle.std.proofs.lemmas.List.Sums.{sum-map}
use Rattle.std.specs.Fmt.{signed_decimal}
use Rattle.dimacs.specs.Clauses.{closes, closings}
use Rattle.dimacs.specs.File.{header_line}
use Rattle.dimacs.specs.Written.{spaced}
use Rattle.filling.specs.Filled.{Filled, after, extended}
use Rattle.filling.proofs.Extended.{extended_fits, extended_step}

-- a number and the byte after it
pub spaced_put : (f g h : Filled ℕ) (z : ℤ) (byte : ℕ) → length (spaced z) ≤ length f.rest
    → g ≡ extended f (signed_decimal z) → h ≡ extended g (byte ∷ []) → byte ≡ cond (closes z) 10 32 → h ≡ after f (spaced z)
spaced_put f g h z byte room a b e =
    let digits : List ℕ = signed_decimal z in
    let last : h ≡ extended g (cond (closes z) 10 32 ∷ []) = b ∙ ap (λ k. extended g (k ∷ [])) e in
    let fits : length digits ≤ length f.rest = omega (arith, length-append digits (cond (closes z) 10 32 ∷ [])) in
    last ∙ extended_step f g digits (cond (closes z) 10 32 ∷ []) (a ∙ extended_fits f digits fits) room

-- the header's five pieces
pub header_put : (f a b c d e : Filled ℕ) (n k : ℕ) → length (header_line n k) + 1 ≤ length f.rest
    → a ≡ extended f (112 ∷ 32 ∷ 99 ∷ 110 ∷ 102 ∷ 32 ∷ []) → b ≡ extended a (decimal n) → c ≡ extended b (32 ∷ []) → d ≡ extended c (decimal k) → e ≡ extended d (10 ∷ [])
    → e ≡ after f (header_line n k ++ 10 ∷ [])
header_put f a b c d e n k room ea eb ec ed ee =
    let p : List ℕ = 112 ∷ 32 ∷ 99 ∷ 110 ∷ 102 ∷ 32 ∷ [] in
    let all : length (header_line n k) ≡ 7 + length (decimal n) + length (decimal k) = simp length-append (omega arith) in
    let fa : a ≡ after f p = ea ∙ extended_fits f p (omega (arith, all)) in
    let fb : b ≡ after f (p ++ decimal n) = eb ∙ extended_step f a p (decimal n) fa (simp length-append (omega (arith, all))) in
    let fc : c ≡ after f ((p ++ decimal n) ++ 32 ∷ []) = ec ∙ extended_step f b (p ++ decimal n) (32 ∷ []) fb (simp length-append (omega (arith, all))) in
    let fd : d ≡ after f (((p ++ decimal n) ++ 32 ∷ []) ++ decimal k) = ed ∙ extended_step f c ((p ++ decimal n) ++ 32 ∷ []) (decimal k) fc (simp length-append (omega (arith, all))) in
    let fe : e ≡ after f ((((p ++ decimal n) ++ 32 ∷ []) ++ decimal k) ++ 10 ∷ []) = ee ∙ extended_step f d (((p ++ decimal n) ++ 32 ∷ []) ++ decimal k) (10 ∷ []) fd (simp length-append (omega (arith, all))) in
    fe ∙ ap (after f) (simp append_assoc)

-- the numbers that close a clause
pub closings_sum : (zs : List ℤ) → sum (map (λ z. cond (closes z) 1 0) zs) ≡ closings zs
closings_sum zs = sum-map (λ z. cond (closes z) 1 0) zs ∙ sym (is_sum_by closings (λ z. cond (closes z) 1 0) refl (λ z xs. refl) zs)
