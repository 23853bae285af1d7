-- The laws of files, at what a call answered and left.
use Rattle.std.proofs.Common.{◌≡◌, ℕ, List, length, take, drop, ℤ, IfOk, Some, None, Option, Result, sym, refl, subst}
use Rattle.std.proofs.lemmas.List.{take_at}
use Rattle.fault.specs.declared.Fault.{Fault}
use Rattle.fault.specs.declared.Refusal.{Refusal}
use Rattle.dimacs.specs.declared.Summary.{Summary}
use Rattle.dimacs.specs.Laws.{AcceptsFiles, ReadsBack}
use Rattle.dimacs.specs.Reading.{reading}
use Rattle.dimacs.specs.Written.{text_of, write_refusal, write_answer_of, write_leaves_of}
use Rattle.dimacs.proofs.Texts.{every_text_decided}
use Rattle.dimacs.proofs.Writings.{every_writing_reads_back}

pub accepts_files : (text : List ℕ) (before after : List ℤ) (answer : Result Summary Fault)
    → answer ≡ (reading text before).answer → after ≡ (reading text before).list → AcceptsFiles text before answer after
accepts_files text before after answer a l =
    subst (λ (r : Result Summary Fault). AcceptsFiles text before r after) (sym a)
    (subst (λ (x : List ℤ). AcceptsFiles text before (reading text before).answer x) (sym l) (every_text_decided text before))

-- what was written is the text at the buffer's start
back_of : (n : ℕ) (zs : List ℤ) (bytes : List ℕ) (x : Option Refusal) → write_refusal n zs (length bytes) ≡ x
    → IfOk (write_answer_of x (length (text_of n zs))) (λ size. ReadsBack n zs (take size (write_leaves_of x (text_of n zs) bytes)))
back_of n zs bytes None e =
    let text : List ℕ = text_of n zs in
    subst (λ (t : List ℕ). ReadsBack n zs t) (sym (take_at text (drop (length text) bytes) (length text) refl)) (every_writing_reads_back n zs (length bytes) e)
back_of n zs bytes (Some r) e = tt

pub reads_back : (n : ℕ) (zs : List ℤ) (bytes after : List ℕ) (r : Result ℕ Fault)
    → r ≡ write_answer_of (write_refusal n zs (length bytes)) (length (text_of n zs)) → after ≡ write_leaves_of (write_refusal n zs (length bytes)) (text_of n zs) bytes
    → IfOk r (λ size. ReadsBack n zs (take size after))
reads_back n zs bytes after r a b =
    subst (λ (y : Result ℕ Fault). IfOk y (λ size. ReadsBack n zs (take size after))) (sym a)
    (subst (λ (w : List ℕ). IfOk (write_answer_of (write_refusal n zs (length bytes)) (length (text_of n zs))) (λ size. ReadsBack n zs (take size w))) (sym b)
    (back_of n zs bytes (write_refusal n zs (length bytes)) refl))
