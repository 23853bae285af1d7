-- The numbers of written clauses, each closed by a 0, one clause after another.
use Rattle.std.proofs.Common.{◌≡◌, ℕ, ◌*◌, ◌<◌, List, [], ◌∷◌, ◌++◌, map, length, take, ℤ, pos, sym, refl, ap, ◌∙◌, append_assoc, append-nil, arith}
use Rattle.std.proofs.lemmas.List.{take_at}
use Rattle.logic.specs.Clause.{Clause, flat}
use Rattle.logic.proofs.Clauses.{length_flat}
use Rattle.dimacs.specs.Clauses.{numbers}
use Rattle.compaction_theory.specs.Printed.{literals_of}
use Rattle.compaction_theory.specs.Walks.{Closed}

pub closed_first : (W : List Clause) (rest written before : List ℤ) (count : ℕ) → length W ≡ count → written ≡ flat W ++ rest → Closed W (take (2 * count) written) before before
closed_first W rest written before count e w = record {
  clauses = W;
  pairs = ap (take (2 * count)) w ∙ take_at (flat W) rest (2 * count) (omega (arith, length_flat W));
  completed = refl;
}

-- two numbers that come first are a clause
pair_first : (clauses : List Clause) (pair left : List ℤ) → length pair ≡ 2 → pair ++ left ≡ flat clauses
    → (c : Clause) × (more : List Clause) × (clauses ≡ c ∷ more) × (pair ≡ literals_of c) × (left ≡ flat more)
pair_first clauses [] left two e = absurd (omega arith)
pair_first clauses (x ∷ []) left two e = absurd (omega arith)
pair_first [] (x ∷ (y ∷ pair)) left two e = let z : ◌≡◌ {A = ℕ} 0 1 = cc in absurd (omega arith)
pair_first (c ∷ more) (x ∷ (y ∷ [])) left two e = let first : x ≡ c.0 = cc in let second : y ≡ c.1 = cc in let rest : left ≡ flat more = cc in (c, more, refl, (cc), rest)
pair_first clauses (x ∷ (y ∷ (z ∷ pair))) left two e = absurd (omega arith)

pub closed_more : (W : List Clause) (rest pair left before put more : List ℤ) → Closed W rest before put → rest ≡ pair ++ left → length pair ≡ 2
    → more ≡ (put ++ pair) ++ pos 0 ∷ [] → Closed W left before more
closed_more W rest pair left before put more h e two m =
    let first = pair_first h.clauses pair left two (sym e ∙ h.pairs) in
    let c : Clause = first.0 in
    let others : List ℤ = numbers (map literals_of first.1) in
    record {
      clauses = first.1;
      pairs = first.4;
      completed =
          ap (λ l. l ++ others) (m ∙ ap (λ l. (put ++ l) ++ pos 0 ∷ []) first.3)
          ∙ append_assoc (put ++ literals_of c) (pos 0 ∷ []) others
          ∙ append_assoc put (literals_of c) (pos 0 ∷ others)
          ∙ sym (ap (λ V. put ++ numbers (map literals_of V)) first.2)
          ∙ h.completed;
    }

pub closed_all : (W : List Clause) (left before put : List ℤ) → Closed W left before put → length left < 2 → put ≡ before ++ numbers (map literals_of W)
closed_all W left before put h few = by h.clauses h.pairs h.completed
  where
    by : (V : List Clause) → left ≡ flat V → put ++ numbers (map literals_of V) ≡ before ++ numbers (map literals_of W) → put ≡ before ++ numbers (map literals_of W)
    by [] e k = sym (append-nil put) ∙ k
    by (c ∷ V) e k = absurd (omega (arith, ap length e))
