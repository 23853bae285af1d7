-- What the writer's answer says of its refusals, and what it leaves.
use Rattle.std.proofs.Common.{◌≡◌, ℕ, List, [], ◌∷◌, ◌++◌, length, take, drop, ℤ, Some, None, Ok, Err, Option, Result, sym, refl, ap, ◌∙◌, append_assoc, arith}
use Rattle.std.specs.List.{flat_map}
use Rattle.fault.specs.declared.Fault.{Fault}
use Rattle.fault.specs.declared.Refusal.{Refusal}
use Rattle.dimacs.specs.Clauses.{closings}
use Rattle.dimacs.specs.File.{header_line}
use Rattle.dimacs.specs.Written.{spaced, text_of, write_refusal, write_answer, write_answer_of, write_leaves, write_leaves_of}
use Rattle.filling.specs.Filled.{Filled, after, whole}
use Rattle.filling.specs.Views.{filled}
use Rattle.filling.specs.declared.Filling.{Filling}
use Rattle.filling.proofs.Extended.{after_more, whole_is}
use Rattle.std.proofs.lemmas.List.{length-take}

-- a refusal leaves the bytes
pub refused : (x : Option Refusal) (k : ℕ) (f : Fault) (text bytes : List ℕ) → write_answer_of x k ≡ Err f → bytes ≡ write_leaves_of x text bytes
refused None k f text bytes e = cc
refused (Some r) k f text bytes e = refl

admitted : (x : Option Refusal) (k m : ℕ) → write_answer_of x k ≡ Ok m → (x ≡ None) × (m ≡ k)
admitted None k m e = (refl, cc)
admitted (Some r) k m e = cc

-- the header line and the numbers make the text
text_put : (f g h : Filled ℕ) (n k : ℕ) (zs : List ℤ) → k ≡ closings zs → g ≡ after f (header_line n k ++ 10 ∷ []) → h ≡ after g (flat_map spaced zs) → h ≡ after f (text_of n zs)
text_put f g h n k zs e a b =
    b ∙ ap (λ (x : Filled ℕ). after x (flat_map spaced zs)) a ∙ after_more f (header_line n k ++ 10 ∷ []) (flat_map spaced zs)
    ∙ ap (after f) (append_assoc (header_line n k) (10 ∷ []) (flat_map spaced zs) ∙ ap (λ x. header_line n x ++ 10 ∷ flat_map spaced zs) e)

-- what is answered and left once they are put from the buffer's start
pub finished : (n k : ℕ) (zs : List ℤ) (bytes : List ℕ) (f g : Filled ℕ) (out : Filling ℕ) → ◌≡◌ {A = Result ℕ Fault} (Ok k) (write_answer_of (write_refusal n zs (length bytes)) (closings zs))
    → f.put ≡ [] → f.rest ≡ bytes → g ≡ after f (header_line n k ++ 10 ∷ []) → filled out ≡ after g (flat_map spaced zs)
    → (◌≡◌ {A = Result ℕ Fault} (Ok out.len) (write_answer n zs (length bytes))) × (out.buffer.now ≡ write_leaves n zs bytes)
finished n k zs bytes f g out e p r a b =
    let granted = admitted (write_refusal n zs (length bytes)) (closings zs) k (sym e) in
    let all = text_put f g (filled out) n k zs granted.1 a b in
    let size : length (take out.len out.buffer.now) ≡ length (text_of n zs) = ap (λ (x : Filled ℕ). length x.put) all ∙ ap (λ l. length (l ++ text_of n zs)) p in
    let len : out.len ≡ length (text_of n zs) = omega (arith, length-take out.len out.buffer.now, out.within) in (
      ap (λ (x : ℕ). Ok x) len ∙ ap (λ (x : Option Refusal). write_answer_of x (length (text_of n zs))) (sym granted.0),
      whole_is out ∙ ap whole all ∙ ap (λ l. (l ++ text_of n zs) ++ drop (length (text_of n zs)) f.rest) p ∙ ap (λ l. text_of n zs ++ drop (length (text_of n zs)) l) r
          ∙ ap (λ (x : Option Refusal). write_leaves_of x (text_of n zs) bytes) (sym granted.0),
    )
