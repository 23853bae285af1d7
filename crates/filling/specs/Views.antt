-- How a filling lies in its buffer: so many of the buffer's items have been put.
use Rattle.std.specs.Prelude.{take, drop}
use Rattle.filling.specs.Filled.{Filled}
use Rattle.filling.specs.declared.Filling.{Filling}

abbrev pub filled : {T : Type 0} → Filling T → Filled T
filled f = record { put = take f.len f.buffer.now; rest = drop f.len f.buffer.now; lender = f.buffer.ghost_name }
