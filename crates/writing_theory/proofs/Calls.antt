-- A call from its checks to its end.
use Rattle.std.proofs.Common.{◌≡◌, ℕ, ◌*◌, ◌<◌, ◌≤◌, Bool, true, false, cond, not, ◌&&◌, ◌||◌, eqb, List, length, take, replicate, ℤ, pos, Some, None, Ok, Err, Option, Result, sym, refl, ap, ◌∙◌, subst, ap₂, arith}
use Rattle.std.proofs.lemmas.Bool.{ltb-false, eqb-true, or_from}
use Rattle.std.specs.Option.{option_map}
use Rattle.fault.specs.declared.Fault.{Fault}
use Rattle.encoder_theory.specs.Meaning.{Meaning, last_end}
use Rattle.encoder_theory.specs.Laws.{Lawful}
use Rattle.network_theory.specs.Layout.{Net, Conflict, Mutual, Apart, row_words, cleared}
use Rattle.cover_theory.specs.Parts.{Cover, Partition}
use Rattle.network_theory.specs.declared.Call.{Call}
use Rattle.network_theory.specs.Runs.{Came}
use Rattle.cover_theory.specs.Rule.{Rel, cover_of, pairs_from}
use Rattle.cover_theory.specs.Rows.{conflicts}
use Rattle.cover_theory.specs.Lies.{conflicts_in, list_holding}
use Rattle.cover.specs.declared.Covered.{Covered}
use Rattle.cover.specs.Outcome.{cover_answer, cover_of_net, counts_of, work_after as coverWork, list_after as coverList, remaining_of, conflicts_of}
use Rattle.formula_theory.specs.declared.Size.{Size}
use Rattle.formula_theory.specs.Writing.{part_auxiliaries, over_parts, clause_count, auxiliary_count}
use Rattle.formula_theory.specs.Outcome.{Terms, terms, words_fault, range_fault, list_fault, exhausted_fault, buffer_fault, buffer_short, words_short, range_unfit, list_short, exhausted, unless_refused, kept_if_refused, start, size_of, measure_answer, write_answer, write_leaves, work_after, list_after, values_fault, broken_fault, values_unfit, are_bits, first_broken, assignment_of, complete_answer, complete_leaves, complete_early_refused, write_refusal}
use Rattle.formula_theory.specs.Promise.{EveryRun, AnyOther, Completed}
use Rattle.formula_theory.proofs.Covers.{cover_partitions}
use Rattle.formula_theory.proofs.Promised.{faithfulness}
use Rattle.formula_theory.proofs.Completions.{completion}
use Rattle.writing_theory.specs.Completing.{valued_answer, broken, put_values, late_complete, completed_answer}
use Rattle.writing_theory.specs.declared.Numbers.{Numbers}
use Rattle.writing_theory.specs.Listed.{parts_of}
use Rattle.writing_theory.specs.Covering.{numbers_of, terms_answer, covered_words, cover_in, size_in, measured, put, late_write, written_answer, written_leaves}
use Rattle.writing_theory.proofs.Completes.{unless_err}
use Rattle.writing_theory.proofs.Ends.{Held, held_size, held_cover, covering_left, early_no, early_yes, cover_no, cover_yes, three_passed, third_refused, early_kept, cover_kept, at_covered, past_same, first_above, end_small}

module _ (n : ℕ) (ws : List ℕ) (M : Meaning) (first last : ℤ) (old : List ℕ) (ol : List ℤ) where
  abbrev net : Net
  net = record { variables = n; words = ws }

  abbrev C : Cover
  C = cover_of_net net

  abbrev t : Terms
  t = terms first last (length old) (length ol)

  abbrev late : Option Fault
  late = cond (exhausted M C t) (Some exhausted_fault) None

  module _ (numbers : Numbers) (h : Ok numbers ≡ terms_answer n t) (work : List ℕ) (list : List ℤ)
      (hw : work ≡ coverWork net old (length ol)) (hl : list ≡ coverList net (length old) ol) where
    pub passed : (words_short n t ≡ false) × (range_unfit n t ≡ false) × (numbers ≡ numbers_of first last)
    passed = early_yes words_fault range_fault (numbers_of first last) numbers (words_short n t) (range_unfit n t) h

    module _ (k : Covered) (hc : Ok k ≡ cover_answer net (length old) (length ol)) where
      covered : (words_short n t ≡ false) × (list_short C t ≡ false) × (k ≡ counts_of C)
      covered = cover_yes words_fault list_fault (counts_of C) k (words_short n t) (list_short C t) hc

      pub covering : Mutual net → Apart net → n ≤ 4096 → Lawful M → Partition n (Conflict net) C
          → ((u w : ℕ) → remaining_of net u w ≡ true → conflicts_of net u w ≡ true) → length list ≡ length ol
          → Held n M C (take k.used list) work k.remaining
      covering both apart few law v within el =
          let q = covered in
          let ew = at_covered (words_short n t) (list_short C t) old (cleared n old) (covered_words net old) work q.0 q.1 hw in
          let ex = at_covered (words_short n t) (list_short C t) ol (replicate (length ol) (pos 0)) (list_holding C.parts (length ol)) list q.0 q.1 hl in
          subst (λ y. Held n M C (take k.used list) y k.remaining) (sym ew)
          (covering_left n ws both apart few M law C v within old (ltb-false _ _ q.0) list k.remaining k.used k.used refl
          (ap (λ (z : Covered). z.remaining) q.2) (ap (λ (z : Covered). z.used) q.2) refl (ex ∙ ap (list_holding C.parts) (sym el)))

      pub ends_measured : Held n M C (take k.used list) work k.remaining → (r : Result Size Fault) → r ≡ measured (size_in M (take k.used list) k.remaining) numbers → r ≡ measure_answer n C M t
      ends_measured held r e =
          let p = passed in
          three_passed words_fault range_fault list_fault (size_of M C) late r (words_short n t) (range_unfit n t) (list_short C t) p.0 p.1 covered.1
          (e ∙ ap (λ s. measured s numbers) (held_size n M C (take k.used list) work k.remaining held) ∙ ap (measured (size_of M C)) p.2 ∙ ap (λ b. unless_refused (cond b (Some exhausted_fault) None) (size_of M C)) (past_same n first last (length old) (length ol) p.1 M C))

-- ---- a writing
three_kept : {X : Type 0} (g h k : Fault) (new old now : X) (rest : Option Fault) (a b c : Bool) → a ≡ false → b ≡ false → c ≡ false → now ≡ kept_if_refused rest new old
    → now ≡ kept_if_refused (cond a (Some g) (cond b (Some h) (cond c (Some k) rest))) new old
three_kept g h k new old now rest a b c ea eb ec e =
    e ∙ sym (ap (λ q. kept_if_refused q new old) (ap (λ z. cond z (Some g) (cond b (Some h) (cond c (Some k) rest))) ea
    ∙ ap (λ z. cond z (Some h) (cond c (Some k) rest)) eb ∙ ap (λ z. cond z (Some k) rest) ec))

module _ (n : ℕ) (ws : List ℕ) (M : Meaning) (law : Lawful M) (first last : ℤ) (old : List ℕ) (ol : List ℤ) (out : List ℤ) where
  abbrev network : Net
  network = record { variables = n; words = ws }

  abbrev D : Cover
  D = cover_of_net network

  abbrev s : Terms
  s = terms first last (length old) (length ol)

  abbrev late_w : Option Fault
  late_w = cond (exhausted M D s) (Some exhausted_fault) (cond (buffer_short (2 * clause_count M D) (length out)) (Some buffer_fault) None)

  abbrev new : List ℤ
  new = put M D (start s) out

  -- what a writing leaves in the buffer of clauses, and what it promises
  pub record Writes (r : Result Size Fault) (now : List ℤ) : Type 0 where
    pub leaves : now ≡ write_leaves n D M s out
    pub every_run : EveryRun cover_of network M s (length out) now r
    pub any_other : AnyOther cover_of network M s (length out) now r

  promised : (r : Result Size Fault) (now : List ℤ) → r ≡ write_answer n D M s (length out) → now ≡ write_leaves n D M s out → Writes r now
  promised r now e f =
      let p = faithfulness cover_of cover_partitions network M law s out now r (e, f) in
      record { leaves = f; every_run = p.0; any_other = p.1 }

  -- refused, it leaves the buffer as it was
  writes_refused : (f : Fault) → Err f ≡ write_answer n D M s (length out) → Writes (Err f) out
  writes_refused f e = promised (Err f) out e (unless_err (write_refusal n D M s (length out)) f (size_of M D) new out e)

  -- by the checks
  pub writes_early : (f : Fault) → Err f ≡ terms_answer n s → Writes (Err f) out
  writes_early f h =
      writes_refused f
      (early_no words_fault range_fault (size_of M D) (numbers_of first last) (cond (list_short D s) (Some list_fault) late_w) (words_short n s) (range_unfit n s) f h).0

  module _ (numbers : Numbers) (h : Ok numbers ≡ terms_answer n s) where
    fits : (words_short n s ≡ false) × (range_unfit n s ≡ false) × (numbers ≡ numbers_of first last)
    fits = early_yes words_fault range_fault (numbers_of first last) numbers (words_short n s) (range_unfit n s) h

    pub numbers_fit : (n < numbers.first) × (numbers.end ≤ last_end)
    numbers_fit =
        let q = fits in (
          subst (λ (z : Numbers). n < z.first) (sym q.2) (first_above n first last (length old) (length ol) q.1),
          subst (λ (z : Numbers). z.end ≤ last_end) (sym q.2) (end_small n first last (length old) (length ol) q.1),
        )

    -- by the cover
    pub writes_short : (f : Fault) → Err f ≡ cover_answer network (length old) (length ol) → Writes (Err f) out
    writes_short f hc =
        let z = cover_no words_fault list_fault f (counts_of D) (words_short n s) (list_short D s) fits.0 hc in
        writes_refused f (third_refused words_fault range_fault list_fault f (size_of M D) late_w (words_short n s) (range_unfit n s) (list_short D s) fits.0 fits.1 z.0 z.1)

    module _ (k : Covered) (hc : Ok k ≡ cover_answer network (length old) (length ol)) where
      same_late : late_write (size_of M D) numbers (length out) ≡ late_w
      same_late =
          ap (λ (z : Numbers). late_write (size_of M D) z (length out)) fits.2
          ∙ ap (λ b. cond b (Some exhausted_fault) (cond (buffer_short (2 * clause_count M D) (length out)) (Some buffer_fault) None)) (past_same n first last (length old) (length ol) fits.1 M D)

      pub writes_done : (xs : List ℤ) (work : List ℕ) (remaining : ℕ) (pairs : List (ℤ × ℤ)) → Held n M D xs work remaining → pairs ≡ pairs_from (2 * n) (conflicts (2 * n) (row_words n) work) (2 * n) 0
          → (r : Result Size Fault) (now : List ℤ) → r ≡ written_answer (size_in M xs remaining) numbers (length out)
          → now ≡ written_leaves M (cover_in xs pairs) (size_in M xs remaining) numbers out → (r ≡ write_answer n D M s (length out)) × Writes r now
      writes_done xs work remaining pairs held ep r now e f =
          let es = held_size n M D xs work remaining held in
          let ed = held_cover n M D xs work remaining held pairs ep in
          let p = fits in
          let q = cover_yes words_fault list_fault (counts_of D) k (words_short n s) (list_short D s) hc in
          let a = three_passed words_fault range_fault list_fault (size_of M D) late_w r (words_short n s) (range_unfit n s) (list_short D s) p.0 p.1 q.1
          (e ∙ ap (λ s. written_answer s numbers (length out)) es ∙ ap (λ z. unless_refused z (size_of M D)) same_late) in (
            a,
            promised r now a
                (three_kept words_fault range_fault list_fault new out now late_w (words_short n s) (range_unfit n s) (list_short D s) p.0 p.1 q.1
                (f ∙ ap₂ (λ E s. written_leaves M E s numbers out) ed es ∙ ap (λ z. kept_if_refused z (put M D numbers.first out) out) same_late ∙ ap (λ (z : Numbers). kept_if_refused late_w (put M D z.first out) out) p.2)),
          )

-- ---- a completion
differs : true ≡ false → ⊥
differs e = let z : ◌≡◌ {A = ℕ} 0 1 = cc in omega arith

declines : {X : Type 0} (f : Fault) (x : X) → ◌≡◌ {A = Result X Fault} (Err f) (Ok x) → ⊥
declines f x h = let z : ◌≡◌ {A = ℕ} 0 1 = cc in omega arith

module _ {X : Type 0} (f2 f6 f7 f8 : Fault) (x : X) (rest : Option Fault) where
  abbrev in_order : Bool → Bool → Bool → Bool → Option Fault
  in_order a b c d = cond a (Some f2) (cond b (Some f6) (cond c (Some f7) (cond d (Some f8) rest)))

  four_early : {Y : Type 0} (y : Y) (a b c d : Bool) (f : Fault) → Err f ≡ cond a (Err f2) (cond b (Err f6) (cond c (Err f7) (Ok y)))
      → (Err f ≡ unless_refused (in_order a b c d) x) × ((a || (b || c)) ≡ true)
  four_early y true b c d f e = (let q : f ≡ f2 = cc in ap Err q, refl)
  four_early y false true c d f e = (let q : f ≡ f6 = cc in ap Err q, refl)
  four_early y false false true d f e = (let q : f ≡ f7 = cc in ap Err q, refl)
  four_early y false false false d f e = absurd (declines f y e)

  four_passed : (a b c d : Bool) → a ≡ false → b ≡ false → c ≡ false → d ≡ false → rest ≡ in_order a b c d
  four_passed true b c d ea eb ec ed = absurd (differs ea)
  four_passed false true c d ea eb ec ed = absurd (differs eb)
  four_passed false false true d ea eb ec ed = absurd (differs ec)
  four_passed false false false true ea eb ec ed = absurd (differs ed)
  four_passed false false false false ea eb ec ed = refl

  fourth_refused : (a b c d : Bool) (f : Fault) → a ≡ false → b ≡ false → c ≡ false → d ≡ true → f ≡ f8 → Err f ≡ unless_refused (in_order a b c d) x
  fourth_refused true b c d f ea eb ec ed e = absurd (differs ea)
  fourth_refused false true c d f ea eb ec ed e = absurd (differs eb)
  fourth_refused false false true d f ea eb ec ed e = absurd (differs ec)
  fourth_refused false false false true f ea eb ec ed e = ap Err e
  fourth_refused false false false false f ea eb ec ed e = absurd (differs (sym ed))

valued_yes : {Y : Type 0} (g h k : Fault) (y z : Y) (a b c : Bool) → Ok z ≡ cond a (Err g) (cond b (Err h) (cond c (Err k) (Ok y)))
    → (Ok z ≡ cond a (Err g) (cond b (Err h) (Ok y))) × (c ≡ false)
valued_yes g h k y z true b c e = absurd (declines g z (sym e))
valued_yes g h k y z false true c e = absurd (declines h z (sym e))
valued_yes g h k y z false false true e = absurd (declines k z (sym e))
valued_yes g h k y z false false false e = (e, refl)

as_many : (a b : Bool) → not (a && b) ≡ false → a ≡ true
as_many true b e = refl
as_many false b e = absurd (differs e)

module _ (n : ℕ) (ws : List ℕ) (M : Meaning) (law : Lawful M) (first last : ℤ) (old : List ℕ) (ol : List ℤ) (values out : List ℕ) where
  abbrev given_net : Net
  given_net = record { variables = n; words = ws }

  abbrev G : Cover
  G = cover_of_net given_net

  abbrev v : Terms
  v = terms first last (length old) (length ol)

  abbrev rel : Rel
  rel = conflicts_in n ws

  abbrev late_c : Option Fault
  late_c = cond (exhausted M G v) (Some exhausted_fault) (cond (buffer_short (auxiliary_count M G) (length out)) (Some buffer_fault) (option_map broken_fault (first_broken n rel (assignment_of values))))

  abbrev filled : List ℕ
  filled = put_values M G.parts (assignment_of values) out

  -- what a completion answers, what it leaves in every buffer, and what it promises
  pub record Completes (work : List ℕ) (list : List ℤ) (r : Result ℕ Fault) (now : List ℕ) : Type 0 where
    pub answers : r ≡ complete_answer n rel G M v values (length out)
    pub words_left : work ≡ work_after (complete_early_refused n v values) n G v old (covered_words given_net old)
    pub list_left : list ≡ list_after (complete_early_refused n v values) G v ol
    pub bytes_left : now ≡ complete_leaves n rel G M v values out
    pub promise : (calls : List Call) → Came given_net calls → Completed cover_of n calls M v values (length out) now r

  kept_promise : (work : List ℕ) (list : List ℤ) (r : Result ℕ Fault) (now : List ℕ) → r ≡ complete_answer n rel G M v values (length out)
      → work ≡ work_after (complete_early_refused n v values) n G v old (covered_words given_net old)
      → list ≡ list_after (complete_early_refused n v values) G v ol
      → now ≡ complete_leaves n rel G M v values out → Completes work list r now
  kept_promise work list r now e ew el eb = record {
    answers = e;
    words_left = ew;
    list_left = el;
    bytes_left = eb;
    promise = completion cover_of cover_partitions given_net M law v values out now r e eb;
  }

  pub completes_early : (f : Fault) → Err f ≡ valued_answer n v values → Completes old ol (Err f) out
  completes_early f h =
      let k = four_early words_fault range_fault values_fault list_fault (auxiliary_count M G) late_c (numbers_of first last) (words_short n v) (range_unfit n v) (values_unfit n values) (list_short G v) f h in
      kept_promise old ol (Err f) out k.0 (early_kept (complete_early_refused n v values) old _ k.1) (early_kept (complete_early_refused n v values) ol _ k.1)
      (unless_err _ f (auxiliary_count M G) filled out k.0)

  module _ (numbers : Numbers) (h : Ok numbers ≡ valued_answer n v values) where
    fit_values : (Ok numbers ≡ terms_answer n v) × (values_unfit n values ≡ false)
    fit_values = valued_yes words_fault range_fault values_fault (numbers_of first last) numbers (words_short n v) (range_unfit n v) (values_unfit n values) h

    pub terms_fit : Ok numbers ≡ terms_answer n v
    terms_fit = fit_values.0

    pub values_counted : length values ≡ n
    values_counted = eqb-true (length values) n (as_many (eqb (length values) n) (are_bits values) fit_values.1)

    fits_all : (words_short n v ≡ false) × (range_unfit n v ≡ false) × (numbers ≡ numbers_of first last)
    fits_all = early_yes words_fault range_fault (numbers_of first last) numbers (words_short n v) (range_unfit n v) terms_fit

    module _ (work : List ℕ) (list : List ℤ) (hw : work ≡ coverWork given_net old (length ol)) (hl : list ≡ coverList given_net (length old) ol) where
      as_left : {X : Type 0} (before after now : X) → now ≡ cond (words_short n v) before after → now ≡ cond (complete_early_refused n v values) before after
      as_left before after now e =
          let p = fits_all in
          cover_kept (words_short n v) (range_unfit n v || values_unfit n values) before after now p.0 (or_from (range_unfit n v) (values_unfit n values) p.1 fit_values.1) e

      pub completes_short : (f : Fault) → Err f ≡ cover_answer given_net (length old) (length ol) → Completes work list (Err f) out
      completes_short f hc =
          let p = fits_all in
          let z = cover_no words_fault list_fault f (counts_of G) (words_short n v) (list_short G v) p.0 hc in
          let k = fourth_refused words_fault range_fault values_fault list_fault (auxiliary_count M G) late_c (words_short n v) (range_unfit n v) (values_unfit n values) (list_short G v) f p.0 p.1 fit_values.1 z.0 z.1 in
          kept_promise work list (Err f) out k (as_left old _ work hw) (as_left ol _ list hl) (unless_err _ f (auxiliary_count M G) filled out k)

      module _ (k : Covered) (hc : Ok k ≡ cover_answer given_net (length old) (length ol)) where
        abbrev last_c : Option Fault
        last_c = broken (2 * n) rel (assignment_of values)

        same_end : late_complete (auxiliary_count M G) numbers (length out) last_c ≡ late_c
        same_end =
            ap (λ (z : Numbers). late_complete (auxiliary_count M G) z (length out) last_c) fits_all.2
            ∙ ap (λ b. cond b (Some exhausted_fault) (cond (buffer_short (auxiliary_count M G) (length out)) (Some buffer_fault) (option_map broken_fault (first_broken n rel (assignment_of values)))))
            (past_same n first last (length old) (length ol) fits_all.1 M G)

        pub completes_done : (xs : List ℤ) (held : List ℕ) (remaining : ℕ) → Held n M G xs held remaining
            → (r : Result ℕ Fault) (now : List ℕ) → r ≡ completed_answer (over_parts (part_auxiliaries M) (parts_of xs)) numbers (length out) last_c
            → now ≡ kept_if_refused (late_complete (over_parts (part_auxiliaries M) (parts_of xs)) numbers (length out) last_c) (put_values M (parts_of xs) (assignment_of values) out) out
            → Completes work list r now
        completes_done xs held remaining h r now e f =
            let p = fits_all in
            let q = cover_yes words_fault list_fault (counts_of G) k (words_short n v) (list_short G v) hc in
            let all = same_end
            ∙ four_passed words_fault range_fault values_fault list_fault (auxiliary_count M G) late_c (words_short n v) (range_unfit n v) (values_unfit n values) (list_short G v) p.0 p.1 fit_values.1 q.1 in
            kept_promise work list r now
            (e ∙ ap (λ Ps. completed_answer (over_parts (part_auxiliaries M) Ps) numbers (length out) last_c) h.parts ∙ ap (λ z. unless_refused z (auxiliary_count M G)) all)
            (as_left old _ work hw) (as_left ol _ list hl)
            (f ∙ ap (λ Ps. kept_if_refused (late_complete (over_parts (part_auxiliaries M) Ps) numbers (length out) last_c) (put_values M Ps (assignment_of values) out) out) h.parts
            ∙ ap (λ z. kept_if_refused z filled out) all)
