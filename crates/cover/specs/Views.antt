-- The conflicts that lie in rows of words, and what stays as it is while conflicts are taken out.
use Rattle.std.specs.Prelude.{◌≡◌, ℕ, ◌≤◌, List, ℤ, length}
use base.Fml.{GName}
use Rattle.filling.specs.Filled.{Filled, after}
use Rattle.cover_theory.specs.Rule.{Rel}
use Rattle.cover_theory.specs.Rows.{conflicts, Flat}
use Rattle.cover.specs.declared.rows.Rows.{Rows}
use Rattle.cover.specs.declared.remaining.Remaining.{Remaining}

-- the conflicts that can be read
abbrev pub rel_of : Rows → Rel
rel_of r = conflicts r.count r.width r.words.now

-- the conflicts that remain
abbrev pub rel_in : Remaining → Rel
rel_in r = conflicts r.count r.width r.words.now

-- how many literals there are, how wide the rows are, and who lent the words
pub record Shape : Type 0 where
  pub count : ℕ
  pub width : ℕ
  pub lender : GName

abbrev pub shape_of : Remaining → Shape
shape_of r = record { count = r.count; width = r.width; lender = r.words.ghost_name }

-- the conflicts that remain and the list moved on to s: numbers were put into the list, and nothing else changed but the conflicts
pub record Moved (r t : Remaining) (f g : Filled ℤ) (s : Flat) : Type 0 where
  pub shape : shape_of t ≡ shape_of r
  pub state : ◌≡◌ {A = Flat} (rel_in t, g.put) s
  pub added : List ℤ
  pub fits : length added ≤ length f.rest
  pub list : g ≡ after f added
