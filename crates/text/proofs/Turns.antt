-- One turn of the reader's loop, and its end, by what a step answered and left.
use Rattle.std.proofs.Common.{◌≡◌, ℕ, ◌+◌, ◌<◌, List, length, get_or, drop, ℤ, is_some, Ok, Err, Result, sym, ap, ◌∙◌, arith}
use Rattle.std.proofs.lemmas.List.{at_drop_more, at_drop_all}
use Rattle.fault.specs.declared.Fault.{Fault}
use Rattle.dimacs.specs.declared.Class.{Class}
use Rattle.dimacs.specs.declared.Machine.{Machine}
use Rattle.dimacs.specs.declared.Summary.{Summary}
use Rattle.dimacs.specs.Bytes.{class_of}
use Rattle.dimacs.specs.Steps.{Step, step_of}
use Rattle.dimacs.specs.Reading.{Reading, applied, listed_by, closed_by, ended, following, end_at, read_on}
use Rattle.text.specs.declared.read.Reader.{Reader}
use Rattle.text.specs.Turn.{Turned, told, kept}

-- a step that answers Ok goes on to the machine that it leaves
goes_on : (m n : Machine) (x : Result Machine Fault) (list : List ℤ) (rest : Machine → Reading) → n ≡ kept m x → told x ≡ Ok tt → following x list rest ≡ rest n
goes_on m n (Ok k) list rest e a = ap rest (sym e)
goes_on m n (Err f) list rest e a = cc

declines : (f : Fault) (x : Result Machine Fault) (list : List ℤ) (rest : Machine → Reading) → told x ≡ Err f → following x list rest ≡ record { answer = Err f; list = list }
declines f (Ok k) list rest a = cc
declines f (Err g) list rest a = cc

-- the step at a byte of this class, and reading on by a step
abbrev step_by : Reader → ℕ → Class → Step
step_by p at k = step_of (is_some p.machine.header) p.machine.state k at

abbrev read_by : Reader → ℕ → List ℕ → Step → Reading
read_by p at bs step = following (applied p.machine step (length p.list.now)) (listed_by p.machine step p.list.now) (λ n. read_on n (listed_by p.machine step p.list.now) (at + 1) (drop (at + 1) bs))

at_byte : (p : Reader) (at : ℕ) (bs : List ℕ) (k : Class) → at < length bs → k ≡ class_of (get_or bs at 0) → read_by p at bs (step_by p at k) ≡ read_on p.machine p.list.now at (drop at bs)
at_byte p at bs k h e = ap (λ (x : Class). read_by p at bs (step_by p at x)) e ∙ sym (at_drop_more (read_on p.machine p.list.now at) bs at 0 h)

pub turn : (p q : Reader) (at : ℕ) (bs : List ℕ) (k : Class) (r : Result (Unit {0}) Fault) → at < length bs → k ≡ class_of (get_or bs at 0) → Turned p (step_by p at k) r q → r ≡ Ok tt
    → read_on q.machine q.list.now (at + 1) (drop (at + 1) bs) ≡ read_on p.machine p.list.now at (drop at bs)
turn p q at bs k r h e t ok =
    let list : List ℤ = listed_by p.machine (step_by p at k) p.list.now in
    ap (λ (x : List ℤ). read_on q.machine x (at + 1) (drop (at + 1) bs)) t.list
    ∙ sym (goes_on p.machine q.machine _ list (λ n. read_on n list (at + 1) (drop (at + 1) bs)) t.machine (sym t.answers ∙ ok))
    ∙ at_byte p at bs k h e

pub halted : (p q : Reader) (f : Fault) (at : ℕ) (bs : List ℕ) (k : Class) (r : Result (Unit {0}) Fault) (answer : Result Summary Fault) → at < length bs → k ≡ class_of (get_or bs at 0)
    → Turned p (step_by p at k) r q → r ≡ Err f → answer ≡ Err f → record { answer = answer; list = q.list.now } ≡ read_on p.machine p.list.now at (drop at bs)
halted p q f at bs k r answer h e t bad a =
    (λ i. record { answer = a i; list = t.list i }) ∙ sym (declines f _ _ (λ n. read_on n (listed_by p.machine (step_by p at k) p.list.now) (at + 1) (drop (at + 1) bs)) (sym t.answers ∙ bad)) ∙ at_byte p at bs k h e

-- the text's end
at_end : (p : Reader) (at : ℕ) (bs : List ℕ) → at ≡ length bs
    → record { answer = ended (applied p.machine (end_at p.machine (length bs)) (length p.list.now)) (length bs); list = listed_by p.machine (end_at p.machine (length bs)) p.list.now } ≡ read_on p.machine p.list.now at (drop at bs)
at_end p at bs e = sym (ap (λ n. read_on p.machine p.list.now n (drop n bs)) e ∙ at_drop_all (read_on p.machine p.list.now (length bs)) bs (length bs) (omega arith))

closes_ok : (m n : Machine) (x : Result Machine Fault) (len : ℕ) → n ≡ kept m x → told x ≡ Ok tt → closed_by n.header n len ≡ ended x len
closes_ok m n (Ok k) len e a = ap (λ (j : Machine). closed_by j.header j len) e
closes_ok m n (Err f) len e a = cc

closes_err : (f : Fault) (x : Result Machine Fault) (len : ℕ) → told x ≡ Err f → Err f ≡ ended x len
closes_err f (Ok k) len a = cc
closes_err f (Err g) len a = cc

pub ends : (p q : Reader) (at : ℕ) (bs : List ℕ) (r : Result (Unit {0}) Fault) (answer : Result Summary Fault) → at ≡ length bs → Turned p (end_at p.machine (length bs)) r q → r ≡ Ok tt
    → answer ≡ closed_by q.machine.header q.machine (length bs) → record { answer = answer; list = q.list.now } ≡ read_on p.machine p.list.now at (drop at bs)
ends p q at bs r answer e t ok a =
    (λ i. record { answer = (a ∙ closes_ok p.machine q.machine (applied p.machine (end_at p.machine (length bs)) (length p.list.now)) (length bs) t.machine (sym t.answers ∙ ok)) i; list = t.list i }) ∙ at_end p at bs e

pub ends_badly : (p q : Reader) (f : Fault) (at : ℕ) (bs : List ℕ) (r : Result (Unit {0}) Fault) (answer : Result Summary Fault) → at ≡ length bs → Turned p (end_at p.machine (length bs)) r q → r ≡ Err f
    → answer ≡ Err f → record { answer = answer; list = q.list.now } ≡ read_on p.machine p.list.now at (drop at bs)
ends_badly p q f at bs r answer e t bad a =
    (λ i. record { answer = (a ∙ closes_err f (applied p.machine (end_at p.machine (length bs)) (length p.list.now)) (length bs) (sym t.answers ∙ bad)) i; list = t.list i }) ∙ at_end p at bs e
