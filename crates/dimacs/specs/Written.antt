-- What the writer writes, and when it declines.
use Rattle.std.specs.Prelude.{ℕ, cond, ◌||◌, List, [], ◌∷◌, ◌++◌, length, drop, ℤ, Some, None, Ok, Err, Option, Result, nat_lt}
use Rattle.std.specs.List.{flat_map}
use Rattle.std.specs.Fmt.{signed_decimal}
use Rattle.fault.specs.declared.Fault.{Fault}
use Rattle.fault.specs.declared.Layer.TheVariants.{Text}
use Rattle.fault.specs.declared.Refusal.{Refusal}
use Rattle.fault.specs.declared.Refusal.TheVariants.{MalformedHeader, VariableAboveHeader, UnexpectedEnd, BufferShort}
use Rattle.dimacs.specs.Clauses.{closes, closings, unclosed, exceeds}
use Rattle.dimacs.specs.File.{header_line}

-- a number with what stands after it: a line feed after the 0 that closes a clause, a space after a literal
abbrev pub spaced : ℤ → List ℕ
spaced z = signed_decimal z ++ cond (closes z) 10 32 ∷ []

-- the header line, then a line for each clause
abbrev pub text_of : ℕ → List ℤ → List ℕ
text_of n zs = header_line n (closings zs) ++ 10 ∷ flat_map spaced zs

-- why the numbers zs over n variables are not written into this many bytes, if they are not
abbrev pub write_refusal : ℕ → List ℤ → ℕ → Option Refusal
write_refusal n zs room =
    cond (nat_lt 999_999_999 n || nat_lt 1_000_000 (closings zs)) (Some MalformedHeader) (
    cond (exceeds n zs) (Some VariableAboveHeader) (
    cond (unclosed zs) (Some UnexpectedEnd) (
    cond (nat_lt room (length (text_of n zs))) (Some BufferShort) None)))

-- the writer's answer: how many bytes it wrote, or why none
abbrev pub write_answer_of : Option Refusal → ℕ → Result ℕ Fault
write_answer_of None size = Ok size
write_answer_of (Some refusal) size = Err (record { refusal = refusal; layer = Text; place = 0 })

abbrev pub write_answer : ℕ → List ℤ → ℕ → Result ℕ Fault
write_answer n zs room = write_answer_of (write_refusal n zs room) (length (text_of n zs))

-- what the writer leaves where bytes stood
abbrev pub write_leaves_of : Option Refusal → List ℕ → List ℕ → List ℕ
write_leaves_of None text bytes = text ++ drop (length text) bytes
write_leaves_of (Some refusal) text bytes = bytes

abbrev pub write_leaves : ℕ → List ℤ → List ℕ → List ℕ
write_leaves n zs bytes = write_leaves_of (write_refusal n zs (length bytes)) (text_of n zs) bytes
