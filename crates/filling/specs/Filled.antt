-- A lent buffer that is filled from its start.
use Rattle.std.specs.Prelude.{List, ◌++◌, drop, length, nat_le, if◌then◌else◌}
use base.Fml.{GName}

-- what has been put into a buffer so far, what stands in it after that, and who lent it
pub record Filled (T : Type 0) : Type 0 where
  pub put : List T
  pub rest : List T
  pub lender : GName

-- the items are put next; what they do not reach stays
abbrev pub after : {T : Type 0} → Filled T → List T → Filled T
after f items = record { put = f.put ++ items; rest = drop (length items) f.rest; lender = f.lender }

-- the items are put next, if there is room for them all; else none is
abbrev pub extended : {T : Type 0} → Filled T → List T → Filled T
extended f items = if nat_le (length items) (length f.rest) then after f items else f

-- all that stands in the buffer
abbrev pub whole : {T : Type 0} → Filled T → List T
whole f = f.put ++ f.rest
