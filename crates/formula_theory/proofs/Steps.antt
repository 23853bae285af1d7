-- For code that writes part by part: what an encoder answers and leaves for a clique of a cover, and buffers filled one after another.
use Rattle.std.proofs.Common.{◌≡◌, ℕ, ◌+◌, ◌*◌, ◌≤◌, Bool, leb, List, ◌++◌, map, length, drop, ℤ, pos, Ok, Option, sym, ap, ◌∙◌, append_assoc, arith, length-append, drop-drop}
use mathlib.Core.List.{map-append}
use Rattle.std.proofs.lemmas.Bool.{le-leb, cond-true}
use Rattle.logic.specs.Clause.{Clause, flat}
use Rattle.logic.proofs.Clauses.{flat_append}
use Rattle.encoder_theory.specs.Members.{Within}
use Rattle.encoder_theory.specs.Meaning.{Meaning, Admits, most_members}
use Rattle.encoder_theory.specs.Buffer.{byte}
use Rattle.encoder_theory.specs.Calls.{is_admitted, is_placed, told, write_answer, write_leaves, values_answer, values_leaves}
use Rattle.encoder_theory.proofs.Decided.{admitted_decides, placed_decides}

-- ---- calls that an encoder admits
pub told_few : (m n : ℕ) → m ≤ most_members → told m n ≡ Ok n
told_few m n l = cond-true (leb m most_members) _ _ (le-leb m most_members l)

module _ (E : Meaning) where
  pub write_admitted : (xs : List ℤ) (z : ℕ) (out : List ℤ) → Admits E xs z → 2 * E.clauses (length xs) ≤ length out
      → (write_answer E xs (pos z) out ≡ Ok tt) × (write_leaves E xs (pos z) out ≡ flat (E.list xs z) ++ drop (2 * E.clauses (length xs)) out)
  write_admitted xs z out ok room =
      let a = (admitted_decides xs z (E.auxiliaries (length xs))).1 ok in
      let b = le-leb (2 * E.clauses (length xs)) (length out) room in (
        cond-true (is_admitted xs (pos z) (E.auxiliaries (length xs))) _ _ a ∙ cond-true (leb (2 * E.clauses (length xs)) (length out)) _ _ b,
        cond-true (is_admitted xs (pos z) (E.auxiliaries (length xs))) _ _ a ∙ cond-true (leb (2 * E.clauses (length xs)) (length out)) _ _ b,
      )

  pub values_placed : (m : ℕ) (t : Option ℕ) (out : List ℕ) → m ≤ most_members → Within t m → E.auxiliaries m ≤ length out
      → (values_answer E m t out ≡ Ok tt) × (values_leaves E m t out ≡ map byte (E.values m t) ++ drop (E.auxiliaries m) out)
  values_placed m t out l w room =
      let a = (placed_decides m t).1 (l, w) in
      let b = le-leb (E.auxiliaries m) (length out) room in (
        cond-true (is_placed m t) _ _ a ∙ cond-true (leb (E.auxiliaries m) (length out)) _ _ b,
        cond-true (is_placed m t) _ _ a ∙ cond-true (leb (E.auxiliaries m) (length out)) _ _ b,
      )

-- ---- a buffer that has K at its start, and L put after it
pub clauses_after : (K L : List Clause) (old : List ℤ)
    → flat K ++ (flat L ++ drop (2 * length L) (drop (2 * length K) old)) ≡ flat (K ++ L) ++ drop (2 * length (K ++ L)) old
clauses_after K L old =
    let e : 2 * length K + 2 * length L ≡ 2 * length (K ++ L) = omega (arith, length-append K L) in
    ap (λ r. flat K ++ (flat L ++ r)) (drop-drop (2 * length L) (2 * length K) old ∙ ap (λ k. drop k old) e)
    ∙ sym (append_assoc (flat K) (flat L) (drop (2 * length (K ++ L)) old))
    ∙ ap (λ r. r ++ drop (2 * length (K ++ L)) old) (sym (flat_append K L))

pub bytes_after : (us vs : List Bool) (old : List ℕ)
    → map byte us ++ (map byte vs ++ drop (length vs) (drop (length us) old)) ≡ map byte (us ++ vs) ++ drop (length (us ++ vs)) old
bytes_after us vs old =
    ap (λ r. map byte us ++ (map byte vs ++ r)) (drop-drop (length vs) (length us) old ∙ ap (λ k. drop k old) (sym (length-append us vs)))
    ∙ sym (append_assoc (map byte us) (map byte vs) (drop (length (us ++ vs)) old))
    ∙ ap (λ r. r ++ drop (length (us ++ vs)) old) (sym (map-append byte us vs))
