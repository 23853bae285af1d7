-- Where a list is cut: at the first item that passes a test, as a text at its first line feed.
use Rattle.std.proofs.Common.{◌≡◌, ℕ, suc, ◌+◌, ◌<◌, ◌≤◌, Bool, true, false, cond, not, ltb, List, [], ◌∷◌, length, take, Some, None, position, sym, refl, ap, ◌∙◌, arith}
use Rattle.std.proofs.lemmas.Bool.{ltb-true, ltb-false}
use Rattle.std.proofs.lemmas.List.{take_all}
use Rattle.std.specs.List.{position_or_len}
use Rattle.dimacs.specs.Bytes.{is_feed}
use Rattle.compaction_theory.specs.Choices.{first_line}

module _ {X : Type 0} (p : X → Bool) (xs : List X) where
  -- an item that passes stands there first
  pub first_there : (i : ℕ) → Some i ≡ position p xs → (position_or_len p xs ≡ i) × (i < length xs)
  first_there i e = by (ltb (position_or_len p xs) (length xs)) refl
    where
      by : (b : Bool) → ltb (position_or_len p xs) (length xs) ≡ b → (position_or_len p xs ≡ i) × (i < length xs)
      by true h =
          let some : Some i ≡ Some (position_or_len p xs) = e ∙ ap (λ t. cond t (Some (position_or_len p xs)) None) h in
          let same : position_or_len p xs ≡ i = cc in
          let within = ltb-true (position_or_len p xs) (length xs) h in (same, omega arith)
      by false h =
          let none : Some i ≡ None = e ∙ ap (λ t. cond t (Some (position_or_len p xs)) None) h in
          let z : ◌≡◌ {A = ℕ} 0 1 = cc in absurd (omega arith)

  -- none passes
  pub never_there : None ≡ position p xs → length xs ≤ position_or_len p xs
  never_there e = by (ltb (position_or_len p xs) (length xs)) refl
    where
      by : (b : Bool) → ltb (position_or_len p xs) (length xs) ≡ b → length xs ≤ position_or_len p xs
      by true h =
          let some : None ≡ Some (position_or_len p xs) = e ∙ ap (λ t. cond t (Some (position_or_len p xs)) None) h in
          let z : ◌≡◌ {A = ℕ} 0 1 = cc in absurd (omega arith)
      by false h = ltb-false (position_or_len p xs) (length xs) h

line_is : (text : List ℕ) → first_line text ≡ take (position_or_len is_feed text) text
line_is [] = refl
line_is (b ∷ bs) =
    let one : 1 + position_or_len is_feed bs ≡ suc (position_or_len is_feed bs) = omega arith in
    elim (is_feed b) as (λ t. cond t [] (b ∷ first_line bs) ≡ take (cond (not t) (1 + position_or_len is_feed bs) 0) (b ∷ bs))
    [ true ↦ refl | false ↦ ap (λ l. b ∷ l) (line_is bs) ∙ sym (ap (λ n. take n (b ∷ bs)) one) ]

pub line_before : (text : List ℕ) (i : ℕ) → Some i ≡ position is_feed text → take i text ≡ first_line text
line_before text i e = sym (line_is text ∙ ap (λ n. take n text) (first_there is_feed text i e).0)

pub line_all : (text : List ℕ) → None ≡ position is_feed text → text ≡ first_line text
line_all text e = sym (line_is text ∙ take_all (position_or_len is_feed text) text (never_there is_feed text e))
