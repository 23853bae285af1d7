-- The sequential clauses as they are put, member by member.
use Rattle.std.proofs.Common.{◌≡◌, ℕ, ◌+◌, ◌-◌, ◌*◌, ◌<◌, ◌≤◌, List, [], ◌∷◌, ◌++◌, length, take, drop, ℤ, pos, sym, refl, ap, ◌∙◌, append_assoc, arith, length-append, length-drop}
use Rattle.std.proofs.lemmas.List.{get_or-drop, get_or-take, length-take}
use Rattle.filling.specs.Filled.{Filled, after, extended}
use Rattle.logic.specs.Clause.{Clause, against, flat}
use Rattle.encoder_theory.specs.Each.{each}
use Rattle.encoder_theory.specs.Members.{member, auxiliary}
use Rattle.encoder_theory.specs.Sequential.{implies, link, sequential}
use Rattle.encoder_theory.proofs.Each.{each_next, length_each}
use Rattle.encoder_theory.proofs.SequentialLaws.{whole}
use Rattle.encoder_theory.proofs.Rows.{clause_next}

module _ (xs : List ℤ) (first : ℕ) where
  abbrev m : ℕ
  m = length xs

  -- the first clause, and those of the n members after the first
  abbrev pub links_before : ℕ → List Clause
  links_before n = implies (member xs 0) (auxiliary first 0) ∷ each 1 n (link xs first)

  length_links : (n : ℕ) → length (links_before n) ≡ 1 + 3 * n
  length_links n = let e = length_each (link xs first) 3 1 n (λ k. refl) in omega arith

  -- the members between the first and the last
  abbrev pub between : List ℤ
  between = take (length xs - 1 - 1) (drop 1 xs)

  member_between : (k : ℕ) → k < length between → member between k ≡ member xs (1 + k)
  member_between k l =
      let n = length-take (length xs - 1 - 1) (drop 1 xs) in
      get_or-take (length xs - 1 - 1) (drop 1 xs) k (pos 0) (omega arith) ∙ get_or-drop 1 xs k (pos 0)

  length_between : 2 ≤ m → length between ≡ m - 2
  length_between two = omega (arith, length-take (length xs - 1 - 1) (drop 1 xs), length-drop 1 xs)

  module _ (two : 2 ≤ m) (f : Filled ℤ) (room : 2 * sequential.clauses m ≤ length f.rest) where
    pub links_next : (n : ℕ) (g p q r : Filled ℤ) (a b c : Clause) → n < length between → a ≡ implies (member between n) (auxiliary first (n + 1))
        → b ≡ implies (auxiliary first (n + 1 - 1)) (auxiliary first (n + 1)) → c ≡ against (member between n) (auxiliary first n)
        → g ≡ after f (flat (links_before n)) → p ≡ extended g (a.0 ∷ a.1 ∷ []) → q ≡ extended p (b.0 ∷ b.1 ∷ []) → r ≡ extended q (c.0 ∷ c.1 ∷ [])
        → r ≡ after f (flat (links_before (n + 1)))
    links_next n g p q r a b c l ea eb ec so pa pb pc =
        let L = links_before n in
        let w = length_between two in
        let k = length_links n in
        let ka = length-append L (a ∷ []) in
        let kb = length-append (L ++ (a ∷ [])) (b ∷ []) in
        let kc = length-append ((L ++ (a ∷ [])) ++ (b ∷ [])) (c ∷ []) in
        let here : member between n ≡ member xs (n + 1) = member_between n l ∙ ap (member xs) (omega arith) in
        let fa : a ≡ implies (member xs (n + 1)) (auxiliary first (n + 1)) = ea ∙ ap (λ x. implies x (auxiliary first (n + 1))) here in
        let fc : c ≡ against (member xs (n + 1)) (auxiliary first (n + 1 - 1)) =
        ec ∙ ap (λ x. against x (auxiliary first n)) here ∙ ap (λ i. against (member xs (n + 1)) (auxiliary first i)) (omega arith) in
        let three : a ∷ b ∷ c ∷ [] ≡ link xs first (n + 1) =
        ap (λ x. x ∷ b ∷ c ∷ []) fa ∙ ap (λ x. implies (member xs (n + 1)) (auxiliary first (n + 1)) ∷ x ∷ c ∷ []) eb
        ∙ ap (λ x. implies (member xs (n + 1)) (auxiliary first (n + 1)) ∷ implies (auxiliary first (n + 1 - 1)) (auxiliary first (n + 1)) ∷ x ∷ []) fc in
        let all : ((L ++ (a ∷ [])) ++ (b ∷ [])) ++ (c ∷ []) ≡ links_before (n + 1) =
        ap (λ ys. ys ++ (c ∷ [])) (append_assoc L (a ∷ []) (b ∷ [])) ∙ append_assoc L (a ∷ b ∷ []) (c ∷ [])
        ∙ ap (λ ys. L ++ ys) (three ∙ ap (link xs first) (omega arith))
        ∙ ap (λ ys. implies (member xs 0) (auxiliary first 0) ∷ ys) (sym (each_next (link xs first) 1 n)) in
        clause_next f q r ((L ++ (a ∷ [])) ++ (b ∷ [])) c
        (clause_next f p q (L ++ (a ∷ [])) b (clause_next f g p L a so pa (omega arith)) pb (omega arith)) pc (omega arith)
        ∙ ap (λ ys. after f (flat ys)) all

    pub links_end : (k : ℕ) (g h : Filled ℤ) (d : Clause) → k ≤ length between → length between ≤ k → d ≡ against (member xs (m - 1)) (auxiliary first (length between))
        → g ≡ after f (flat (links_before k)) → h ≡ extended g (d.0 ∷ d.1 ∷ []) → h ≡ after f (flat (sequential.list xs first))
    links_end k g h d l u e so put =
        let w = length_between two in
        let n = length_links k in
        let a = length-append (links_before k) (d ∷ []) in
        clause_next f g h (links_before k) d so put (omega arith)
        ∙ ap (λ x. after f (flat (links_before k ++ (x ∷ [])))) (e ∙ ap (λ i. against (member xs (m - 1)) (auxiliary first i)) w)
        ∙ ap (λ i. after f (flat (links_before i ++ (against (member xs (m - 1)) (auxiliary first (m - 2)) ∷ [])))) (omega arith)
        ∙ ap (λ ys. after f (flat ys)) (sym (whole xs first two))
