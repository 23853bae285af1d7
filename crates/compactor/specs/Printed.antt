-- What the program prints for an input.
use Rattle.std.specs.Prelude.{ℕ, Bool, cond, ◌&&◌, List, [], ◌∷◌, ◌++◌, length, take, drop, replicate, ℤ, pos, Ok, Err, Result, nat_le, nat_lt}
use Rattle.fault.specs.Fault.{fault_text}
use Rattle.fault.specs.declared.Fault.{Fault}
use Rattle.fault.specs.declared.Layer.TheVariants.{Network}
use Rattle.fault.specs.declared.Refusal.TheVariants.{VariableCount, ClauseListFull}
use Rattle.dimacs.specs.declared.Summary.{Summary}
use Rattle.dimacs.specs.Reading.{reading, fault_at}
use Rattle.dimacs.specs.Written.{text_of}

-- n is from 1 to 256
abbrev pub few_variables : ℕ → Bool
few_variables n = nat_le 1 n && nat_le n 256

abbrev pub count_fault : Fault
count_fault = record { refusal = VariableCount; layer = Network; place = 0 }

-- the buffer that the numbers are read into
abbrev pub empty_list : List ℤ
empty_list = replicate 16_384 (pos 0)

-- the text that is written for what was read, or the fault
abbrev pub rewritten : Result Summary Fault → List ℤ → Result (List ℕ) Fault
rewritten (Err f) list = Err f
rewritten (Ok s) list = cond (few_variables s.variables) (Ok (text_of s.variables (take s.numbers list))) (Err count_fault)

-- an input that is too long is refused before it is read
abbrev pub outcome : List ℕ → Result (List ℕ) Fault
outcome text = cond (nat_lt 65_536 (length text)) (Err (fault_at ClauseListFull 65_536)) (rewritten (reading text empty_list).answer (reading text empty_list).list)

-- a fault is printed on a line of its own
abbrev pub printed : Result (List ℕ) Fault → List ℕ
printed (Ok text) = text
printed (Err f) = fault_text f ++ 10 ∷ []

-- how long the written text is, and a buffer with it at the start
abbrev pub size_of : Result (List ℕ) Fault → Result ℕ Fault
size_of (Ok text) = Ok (length text)
size_of (Err f) = Err f

abbrev pub over : Result (List ℕ) Fault → List ℕ → List ℕ
over (Ok text) bytes = text ++ drop (length text) bytes
over (Err f) bytes = bytes
