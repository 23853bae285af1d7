-- What a call that got the rest of a buffer leaves in the whole of it.
use base.Fml.{GName}
use borrow.Rule.Slice.PartMut.{put_mid}
use Rattle.std.proofs.Common.{◌≡◌, ℕ, ◌+◌, ◌-◌, ◌*◌, ◌≤◌, List, [], ◌∷◌, ◌++◌, map, length, take, drop, ℤ, pos, nat_abs, Ok, Err, Option, sym, ap, ◌∙◌, subst, append_assoc, arith, length-append}
use Rattle.std.proofs.lemmas.Bool.{leb-true, le-leb, cond-true}
use Rattle.std.proofs.lemmas.List.{length-take-le, length-drop, take_at, drop_at, take_all, take-append-drop, drop_all, append-nil, length-set, take_more_set, drop-set-lt, drop-drop}
use Rattle.std.specs.Prelude.{slice_set}
use Rattle.filling.specs.Filled.{Filled, after, extended}
use Rattle.filling.proofs.Extended.{extended_fits}
use Rattle.fault.specs.declared.Fault.{Fault}
use Rattle.logic.specs.Clause.{Clause, flat}
use Rattle.logic.proofs.Clauses.{length_flat}
use Rattle.encoder_theory.specs.Buffer.{byte, with_clause}
use Rattle.encoder_theory.specs.Members.{Within}
use Rattle.encoder_theory.specs.Meaning.{Meaning, Admits, most_members}
use Rattle.encoder_theory.specs.Laws.{Lawful}
use Rattle.encoder_theory.specs.Calls.{is_placed, clauses_fit, clauses_room, values_room, write_answer, write_leaves, values_answer}
use Rattle.encoder_theory.specs.Appended.{clauses_appended, values_appended}
use Rattle.encoder_theory.proofs.Answered.{granted, declined}
use Rattle.encoder_theory.proofs.Decided.{admitted_decides, admitted_first, placed_decides}

module _ {T : Type 0} (buf : List T) (name : GName) where
  -- the first n items of a buffer have been put
  abbrev pub up_to : List T → ℕ → Filled T
  up_to b n = record { put = take n b; rest = drop n b; lender = name }

  abbrev pub part_from : ℕ → List T
  part_from at = take (length buf - at) (drop at buf)

  pub part_is : (at : ℕ) → part_from at ≡ drop at buf
  part_is at = let d = length-drop at buf in take_all (length buf - at) (drop at buf) (omega arith)

  -- a call that puts nothing there leaves all as it was
  pub rest_kept : (at : ℕ) (part : List T) → at ≤ length buf → part ≡ part_from at → up_to (put_mid at (length buf - at) buf part) at ≡ up_to buf at
  rest_kept at part l e =
      let d = length-drop at buf in
      let none : drop (length buf - at) (drop at buf) ≡ [] = drop_all (length buf - at) (drop at buf) (omega arith) in
      let same : put_mid at (length buf - at) buf part ≡ buf =
      ap (λ p. take at buf ++ (p ++ drop (length buf - at) (drop at buf))) (e ∙ part_is at)
      ∙ ap (λ z. take at buf ++ (drop at buf ++ z)) none
      ∙ ap (λ z. take at buf ++ z) (append-nil (drop at buf))
      ∙ take-append-drop at buf in
      ap (λ b. up_to b at) same

  -- one that puts a block at the start of it
  pub rest_put : (at : ℕ) (part block : List T) → at ≤ length buf → length block ≤ length (drop at buf) → part ≡ block ++ drop (length block) (part_from at)
      → up_to (put_mid at (length buf - at) buf part) (at + length block) ≡ after (up_to buf at) block
  rest_put at part block l r e =
      let d = length-drop at buf in
      let t = length-take-le at buf l in
      let none : drop (length buf - at) (drop at buf) ≡ [] = drop_all (length buf - at) (drop at buf) (omega arith) in
      let back = drop (length block) (drop at buf) in
      let split : put_mid at (length buf - at) buf part ≡ (take at buf ++ block) ++ back =
      ap (λ p. take at buf ++ (p ++ drop (length buf - at) (drop at buf))) (e ∙ ap (λ p. block ++ drop (length block) p) (part_is at))
      ∙ ap (λ z. take at buf ++ ((block ++ back) ++ z)) none
      ∙ ap (λ z. take at buf ++ z) (append-nil (block ++ back))
      ∙ sym (append_assoc (take at buf) block back) in
      let n : length (take at buf ++ block) ≡ at + length block = length-append (take at buf) block ∙ ap (λ k. k + length block) t in
      ap (λ b. up_to b (at + length block)) split
      ∙ ap (λ x. record { put = x; rest = drop (at + length block) ((take at buf ++ block) ++ back); lender = name }) (take_at (take at buf ++ block) back (at + length block) n)
      ∙ ap (λ x. record { put = take at buf ++ block; rest = x; lender = name }) (drop_at (take at buf ++ block) back (at + length block) n)

module _ (M : Meaning) (law : Lawful M) (buf : List ℤ) (name : GName) (at : ℕ) (xs : List ℤ) (first : ℤ) (part : List ℤ) (l : at ≤ length buf)
    (e : part ≡ write_leaves M xs first (part_from buf name at)) where
  abbrev there : Filled ℤ
  there = up_to buf name buf at

  at_rest : (P : List ℤ → Type 0) → P (part_from buf name at) → P (drop at buf)
  at_rest P p = subst P (part_is buf name at) p

  pub clauses_kept : (f : Fault) → Err f ≡ write_answer M xs first (part_from buf name at)
      → up_to buf name (put_mid at (length buf - at) buf part) at ≡ clauses_appended M xs first there
  clauses_kept f h =
      let d = declined {Y = Unit {0}} (clauses_fit M xs first) (clauses_room M xs (drop at buf)) tt tt (after there (flat (M.list xs (nat_abs first)))) there f (at_rest (λ r. Err f ≡ write_answer M xs first r) h) in
      let k = declined {Y = Unit {0}} (clauses_fit M xs first) (clauses_room M xs (part_from buf name at)) tt tt _ (part_from buf name at) f h in
      rest_kept buf name at part l (e ∙ sym k.1) ∙ d.1

  pub clauses_put : (c : ℕ) → c ≡ M.clauses (length xs) → Ok tt ≡ write_answer M xs first (part_from buf name at)
      → up_to buf name (put_mid at (length buf - at) buf part) (at + 2 * c) ≡ clauses_appended M xs first there
  clauses_put c ec h =
      let g = granted (clauses_fit M xs first) (clauses_room M xs (drop at buf)) tt tt (at_rest (λ r. Ok tt ≡ write_answer M xs first r) h) in
      let k = granted (clauses_fit M xs first) (clauses_room M xs (part_from buf name at)) tt tt h in
      let z = admitted_first xs first (M.auxiliaries (length xs)) g.0 in
      let ez : nat_abs first ≡ z.0 = ap nat_abs z.1 in
      let block = flat (M.list xs (nat_abs first)) in
      let n : length block ≡ 2 * M.clauses (length xs) =
      length_flat (M.list xs (nat_abs first)) ∙ ap (λ q. 2 * length (M.list xs q)) ez ∙ ap (λ q. 2 * q) (law.well_formed.counted xs z.0 z.2) in
      let r = leb-true _ _ g.1 in
      let w : part ≡ block ++ drop (length block) (part_from buf name at) =
      e ∙ cond-true (clauses_fit M xs first) _ _ k.0 ∙ cond-true (clauses_room M xs (part_from buf name at)) _ _ k.1
      ∙ ap (λ q. block ++ drop q (part_from buf name at)) (sym n) in
      let m : at + 2 * c ≡ at + length block = ap (λ q. at + 2 * q) ec ∙ ap (λ q. at + q) (sym n) in
      ap (λ q. up_to buf name (put_mid at (length buf - at) buf part) q) m
      ∙ rest_put buf name at part block l (omega arith) w
      ∙ sym (cond-true (clauses_fit M xs first) _ _ g.0 ∙ cond-true (clauses_room M xs (drop at buf)) _ _ g.1)

-- where a call is known to be admitted and to have room, it puts its block next
module _ (M : Meaning) (xs : List ℤ) (first : ℕ) (f : Filled ℤ) (ok : Admits M xs first) (room : 2 * M.clauses (length xs) ≤ length f.rest) where
  pub clauses_granted : (write_answer M xs (pos first) f.rest ≡ Ok tt) × (clauses_appended M xs (pos first) f ≡ after f (flat (M.list xs first)))
  clauses_granted =
      let a = (admitted_decides xs first (M.auxiliaries (length xs))).1 ok in
      let b = le-leb _ _ room in (
        cond-true (clauses_fit M xs (pos first)) _ _ a ∙ cond-true (clauses_room M xs f.rest) _ _ b,
        cond-true (clauses_fit M xs (pos first)) _ _ a ∙ cond-true (clauses_room M xs f.rest) _ _ b,
      )

module _ (M : Meaning) (m : ℕ) (t : Option ℕ) (f : Filled ℕ) (few : m ≤ most_members) (w : Within t m) (room : M.auxiliaries m ≤ length f.rest) where
  pub values_granted : (values_answer M m t f.rest ≡ Ok tt) × (values_appended M m t f ≡ after f (map byte (M.values m t)))
  values_granted =
      let a = (placed_decides m t).1 (few, w) in
      let b = le-leb _ _ room in (
        cond-true (is_placed m t) _ _ a ∙ cond-true (values_room M m f.rest) _ _ b,
        cond-true (is_placed m t) _ _ a ∙ cond-true (values_room M m f.rest) _ _ b,
      )

-- a clause at the next two numbers
pub clause_put : (buf next : List ℤ) (name : GName) (at : ℕ) (c : Clause) → at ≤ length buf → 2 ≤ length buf - at → next ≡ with_clause buf at c
    → (record { put = take (at + 2) next; rest = drop (at + 2) next; lender = name }) ≡ extended (record { put = take at buf; rest = drop at buf; lender = name }) (c.0 ∷ c.1 ∷ [])
clause_put buf next name at c l r e =
    let one = slice_set buf at c.0 in
    let two = slice_set one (at + 1) c.1 in
    let n : length one ≡ length buf = length-set buf at c.0 in
    let is : next ≡ two = e ∙ cond-true _ _ _ (le-leb (at + 2) (length buf) (omega arith)) in
    let step : at + 2 ≡ at + 1 + 1 = omega arith in
    let front : take (at + 2) two ≡ take at buf ++ (c.0 ∷ c.1 ∷ []) =
    ap (λ k. take k two) step
    ∙ take_more_set one (at + 1) c.1 (omega arith)
    ∙ ap (λ z. z ++ c.1 ∷ []) (take_more_set buf at c.0 (omega arith))
    ∙ append_assoc (take at buf) (c.0 ∷ []) (c.1 ∷ []) in
    let back : drop (at + 2) two ≡ drop 2 (drop at buf) =
    drop-set-lt (at + 2) one (at + 1) c.1 (omega arith)
    ∙ drop-set-lt (at + 2) buf at c.0 (omega arith)
    ∙ sym (drop-drop 2 at buf) in
    ap (λ b. record { put = take (at + 2) b; rest = drop (at + 2) b; lender = name }) is
    ∙ ap (λ z. record { put = z; rest = drop (at + 2) two; lender = name }) front
    ∙ ap (λ z. record { put = take at buf ++ (c.0 ∷ c.1 ∷ []); rest = z; lender = name }) back
    ∙ sym (extended_fits (record { put = take at buf; rest = drop at buf; lender = name }) (c.0 ∷ c.1 ∷ []) (let d = length-drop at buf in omega arith))
