-- Reading the parts of a list, one after the other.
use Rattle.std.specs.Prelude.{ℕ, zero, suc, ◌+◌, cond, List, [], ◌∷◌, length, ℤ, pos, negsuc, Some, None, Option, nat_le, slice_index_or}
use Rattle.cover_theory.specs.Parts.{Part as PartOf, clique, biclique}
use Rattle.cover.specs.declared.Part.{Part}
use Rattle.cover.specs.declared.Part.TheVariants.{Clique, Biclique}

-- the place after a part
abbrev pub end_of : Part → ℕ
end_of (Clique at size) = at + size
end_of (Biclique at left right) = at + left + right

-- the part, if it lies within a list of so many numbers
abbrev pub within : ℕ → Part → Option Part
within room P = cond (nat_le (end_of P) room) (Some P) None

-- the biclique at a place that begins with minus `left`, and whose next number is this
abbrev pub biclique_from : ℕ → ℕ → ℕ → ℤ → Option Part
biclique_from room at left (pos right) = within room (Biclique (at + 2) left right)
biclique_from room at left (negsuc k) = None

-- the part that begins at a place with these two numbers: a size above 0 begins a clique, one below 0 a biclique
abbrev pub part_from : ℕ → ℕ → ℤ → ℤ → Option Part
part_from room at (pos zero) next = None
part_from room at (pos (suc k)) next = within room (Clique (at + 1) (suc k))
part_from room at (negsuc k) next = biclique_from room at (suc k) next

-- the part that begins at a place of the list, if one does
abbrev pub part_at : List ℤ → ℕ → Option Part
part_at list at = part_from (length list) at (slice_index_or list at (pos 0)) (slice_index_or list (at + 1) (pos 0))

-- a part of literals whose numbers begin at a place, as it is read there
abbrev pub placed : ℕ → PartOf ℤ → Part
placed at (clique ms) = Clique (at + 1) (length ms)
placed at (biclique xs ys) = Biclique (at + 2) (length xs) (length ys)

-- a part is one clique or one biclique
abbrev pub cliques_in : Part → ℕ
cliques_in (Clique at size) = 1
cliques_in (Biclique at left right) = 0

abbrev pub bicliques_in : Part → ℕ
bicliques_in (Clique at size) = 0
bicliques_in (Biclique at left right) = 1

-- ---- all parts of a list

-- the part with those that follow it, or none
abbrev pub followed : Option Part → (Part → List Part) → List Part
followed None rest = []
followed (Some P) rest = P ∷ rest P

-- the parts that are read one after the other from a place on, at most so many
abbrev pub parts_from : List ℤ → ℕ → ℕ → List Part
parts_from list zero at = []
parts_from list (suc k) at = followed (part_at list at) (λ P. parts_from list k (end_of P))

-- all parts that are read from the start, up to the first place where none begins: each takes at least one number
abbrev pub parts_in : List ℤ → List Part
parts_in list = parts_from list (length list) 0

abbrev pub summed : (Part → ℕ) → List Part → ℕ
summed f [] = 0
summed f (P ∷ Ps) = f P + summed f Ps
