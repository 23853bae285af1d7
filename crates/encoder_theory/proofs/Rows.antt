-- Clauses and values that are put next one after another, also row by row.
use Rattle.std.proofs.Common.{◌≡◌, ℕ, ◌+◌, ◌*◌, ◌<◌, ◌≤◌, Bool, List, [], ◌∷◌, ◌++◌, map, length, take, take_all, slice_set, ℤ, sym, ap, ◌∙◌, append_assoc, arith, length-append}
use Rattle.std.proofs.lemmas.List.{map-append, length-map, take_more_set}
use Rattle.std.proofs.lemmas.List.FromFn.{length-map-range_with_len, map-range_with_len_more}
use Rattle.filling.specs.Filled.{Filled, after, extended}
use Rattle.filling.proofs.Extended.{extended_step}
use Rattle.logic.specs.Clause.{Clause, flat}
use Rattle.logic.proofs.Clauses.{length_flat, flat_append}
use Rattle.encoder_theory.specs.Each.{each, table}
use Rattle.encoder_theory.specs.Buffer.{byte}
use Rattle.encoder_theory.proofs.Each.{each_next, each_last, length_each_part}

-- one clause more, for which there is room
pub clause_next : (f g h : Filled ℤ) (L : List Clause) (c : Clause) → g ≡ after f (flat L) → h ≡ extended g (c.0 ∷ c.1 ∷ [])
    → 2 * length (L ++ (c ∷ [])) ≤ length f.rest → h ≡ after f (flat (L ++ (c ∷ [])))
clause_next f g h L c e put room =
    let n = length_flat (L ++ (c ∷ [])) in
    let s = flat_append L (c ∷ []) in
    let a = ap length s in
    put ∙ extended_step f g (flat L) (c.0 ∷ c.1 ∷ []) e (omega arith) ∙ ap (after f) (sym s)

module _ (start count : ℕ → ℕ) (cell : ℕ → ℕ → Clause) where
  -- row i has so many cells, from a first one on
  abbrev pub row : ℕ → List Clause
  row i = each (start i) (count i) (λ j. cell i j ∷ [])

  -- the rows before row i, and its first k cells
  abbrev pub before : ℕ → ℕ → List Clause
  before i k = each 0 i row ++ each (start i) k (λ j. cell i j ∷ [])

  before_next : (i k : ℕ) → before i (k + 1) ≡ before i k ++ (cell i (start i + k) ∷ [])
  before_next i k =
      ap (λ cs. each 0 i row ++ cs) (each_next (λ j. cell i j ∷ []) (start i) k)
      ∙ sym (append_assoc (each 0 i row) (each (start i) k (λ j. cell i j ∷ [])) (cell i (start i + k) ∷ []))

  -- the last cell ends the row
  pub row_end : (i k : ℕ) (f g : Filled ℤ) → k ≡ count i → g ≡ after f (flat (before i k)) → g ≡ after f (flat (each 0 (i + 1) row))
  row_end i k f g e so =
      so ∙ ap (λ n. after f (flat (each 0 i row ++ each (start i) n (λ j. cell i j ∷ [])))) e ∙ ap (λ cs. after f (flat cs)) (sym (each_last row i))

  before_part : (n i k : ℕ) → i < n → k ≤ count i → length (before i k) ≤ length (each 0 n row)
  before_part n i k l u =
      let w = length_each_part (λ j. cell i j ∷ []) (start i) k (count i) u in
      let a = length-append (each 0 i row) (each (start i) k (λ j. cell i j ∷ [])) in
      let b = length-append (each 0 i row) (each (start i) (count i) (λ j. cell i j ∷ [])) in
      let e = ap length (each_last row i) in
      let p = length_each_part row 0 (i + 1) n (omega arith) in
      omega arith

  pub cell_next : (n i k : ℕ) (f g h : Filled ℤ) (c : Clause) → i < n → k < count i → c ≡ cell i (start i + k) → g ≡ after f (flat (before i k))
      → h ≡ extended g (c.0 ∷ c.1 ∷ []) → 2 * length (each 0 n row) ≤ length f.rest → h ≡ after f (flat (before i (k + 1)))
  cell_next n i k f g h c l u e so put room =
      let s = before_next i k ∙ ap (λ d. before i k ++ (d ∷ [])) (sym e) in
      let p = before_part n i (k + 1) l (omega arith) in
      let q = ap length s in
      clause_next f g h (before i k) c so put (omega arith) ∙ ap (λ cs. after f (flat cs)) (sym s)

-- one value more of a table
pub value_next : (v : ℕ → Bool) (f g h : Filled ℕ) (i b : ℕ) → b ≡ byte (v i) → g ≡ after f (map byte (table i v)) → h ≡ extended g (b ∷ []) → i < length f.rest
    → h ≡ after f (map byte (table (i + 1) v))
value_next v f g h i b e so put room =
    let more : map byte (table (i + 1) v) ≡ map byte (table i v) ++ (b ∷ []) =
    ap (map byte) (map-range_with_len_more v 0 i i (omega arith)) ∙ map-append byte (table i v) (v i ∷ []) ∙ ap (λ x. map byte (table i v) ++ (x ∷ [])) (sym e) in
    let n = length-map (table i v) byte in
    let k = length-map-range_with_len v 0 i in
    let a = length-append (map byte (table i v)) (b ∷ []) in
    put ∙ extended_step f g (map byte (table i v)) (b ∷ []) so (omega arith) ∙ ap (after f) (sym more)

-- the same in a buffer that has a place for each
pub byte_next : (v : ℕ → Bool) (out : List ℕ) (i b : ℕ) → b ≡ byte (v i) → i < length out → take i out ≡ map byte (table i v) → take (i + 1) (slice_set out i b) ≡ map byte (table (i + 1) v)
byte_next v out i b e l h =
    take_more_set out i b l ∙ ap (λ xs. xs ++ (b ∷ [])) h ∙ ap (λ y. map byte (table i v) ++ (y ∷ [])) e
    ∙ sym (ap (map byte) (map-range_with_len_more v 0 i i (omega arith)) ∙ map-append byte (table i v) (v i ∷ []))

pub bytes_end : (v : ℕ → Bool) (out : List ℕ) (i n : ℕ) → i ≡ n → length out ≡ n → take i out ≡ map byte (table i v) → out ≡ map byte (table n v)
bytes_end v out i n e l h = sym (take_all i out (omega arith)) ∙ h ∙ ap (λ k. map byte (table k v)) e
