-- What the reader answers for a text and leaves in the list, step by step.
use Rattle.std.specs.Prelude.{ℕ, ◌+◌, Bool, true, false, cond, not, List, [], ◌∷◌, length, ℤ, pos, neg_ℤ, is_some, Some, None, Ok, Err, Option, Result, ◌==◌, nat_le, nat_lt, slice_set}
use Rattle.fault.specs.declared.Fault.{Fault}
use Rattle.fault.specs.declared.Layer.TheVariants.{Text}
use Rattle.fault.specs.declared.Refusal.{Refusal}
use Rattle.fault.specs.declared.Refusal.TheVariants.{VariableAboveHeader, ClauseListFull, UnexpectedEnd, ClauseCount}
use Rattle.dimacs.specs.declared.Header.{Header}
use Rattle.dimacs.specs.declared.Machine.{Machine}
use Rattle.dimacs.specs.declared.State.TheVariants.{LineStart}
use Rattle.dimacs.specs.declared.Summary.{Summary}
use Rattle.dimacs.specs.Bytes.{class_of}
use Rattle.dimacs.specs.Steps.{Step, go, head, put, stop, step_of, end_of}

abbrev pub fault_at : Refusal → ℕ → Fault
fault_at refusal place = record { refusal = refusal; layer = Text; place = place }

-- the greatest variable: that of the header, and 0 before it
abbrev pub limit_of : Option Header → ℕ
limit_of None = 0
limit_of (Some h) = h.variables

abbrev pub literal_of : Bool → ℕ → ℤ
literal_of true size = neg_ℤ (pos size)
literal_of false size = pos size

-- the machine after a step, where the list has room for `room` numbers
abbrev pub applied : Machine → Step → ℕ → Result Machine Fault
applied m (go s) room = Ok (record { state = s; header = m.header; listed = m.listed; closed = m.closed; inside = m.inside })
applied m (head n k) room = Ok (record { state = LineStart; header = Some (record { variables = n; clauses = k }); listed = m.listed; closed = m.closed; inside = m.inside })
applied m (put from negative size next) room =
    cond (nat_lt (limit_of m.header) size) (Err (fault_at VariableAboveHeader from)) (
    cond (nat_le room m.listed) (Err (fault_at ClauseListFull from))
    (Ok (record { state = next; header = m.header; listed = m.listed + 1; closed = m.closed + cond (size == 0) 1 0; inside = not (size == 0) })))
applied m (stop refusal place) room = Err (fault_at refusal place)

-- the list after a step
abbrev pub listed_by : Machine → Step → List ℤ → List ℤ
listed_by m (go s) list = list
listed_by m (head n k) list = list
listed_by m (put from negative size next) list = cond (nat_lt (limit_of m.header) size) list (slice_set list m.listed (literal_of negative size))
listed_by m (stop refusal place) list = list

-- the answer where the text is over: 17 inside a clause, then 18 for another count than the header's
abbrev pub closed_by : Option Header → Machine → ℕ → Result Summary Fault
closed_by None m len = Err (fault_at UnexpectedEnd len)
closed_by (Some h) m len =
    cond m.inside (Err (fault_at UnexpectedEnd len)) (
    cond (m.closed == h.clauses) (Ok (record { variables = h.variables; clauses = m.closed; numbers = m.listed })) (Err (fault_at ClauseCount len)))

abbrev pub ended : Result Machine Fault → ℕ → Result Summary Fault
ended (Err f) len = Err f
ended (Ok m) len = closed_by m.header m len

-- the reader's answer, and the list as it leaves it
pub record Reading : Type 0 where
  pub answer : Result Summary Fault
  pub list : List ℤ

-- after a step that gave r and left the list so: decline there, or go on
abbrev pub following : Result Machine Fault → List ℤ → (Machine → Reading) → Reading
following (Ok n) list rest = rest n
following (Err f) list rest = record { answer = Err f; list = list }

abbrev pub step_at : Machine → ℕ → ℕ → Step
step_at m at b = step_of (is_some m.header) m.state (class_of b) at

abbrev pub end_at : Machine → ℕ → Step
end_at m len = end_of (is_some m.header) m.state len

abbrev pub read_on : Machine → List ℤ → ℕ → List ℕ → Reading
read_on m list at [] = record { answer = ended (applied m (end_at m at) (length list)) at; list = listed_by m (end_at m at) list }
read_on m list at (b ∷ bs) =
    following
    (applied m (step_at m at b) (length list))
    (listed_by m (step_at m at b) list)
    (λ n. read_on n (listed_by m (step_at m at b) list) (at + 1) bs)

abbrev pub start : Machine
start = record { state = LineStart; header = None; listed = 0; closed = 0; inside = false }

-- reading a text into a list
abbrev pub reading : List ℕ → List ℤ → Reading
reading text list = read_on start list 0 text
