-- What stands in words and list once the phases have ended.
use Rattle.std.proofs.Common.{◌≡◌, ℕ, ◌+◌, ◌-◌, ◌*◌, ◌^◌, ◌<◌, ◌≤◌, Bool, true, false, List, [], ◌++◌, length, get_or, take, drop, replicate, ℤ, pos, Option, Some, None, is_some, not, MatchOption, w64, Fits, sym, ap, ap₂, ◌∙◌, subst, arith}
use borrow.Rule.Slice.PartMut.{put_mid}
use Rattle.std.proofs.lemmas.List.{length-append, length-drop, length-take-le, drop_all, append-nil, get_or_past}
use Rattle.std.proofs.lemmas.Bool.{false≢true}
use Rattle.filling.specs.Filled.{Filled}
use Rattle.filling.specs.Views.{filled}
use Rattle.filling.specs.declared.Filling.{Filling}
use Rattle.filling.proofs.Extended.{whole_is}
use Rattle.network_theory.specs.Layout.{row_words, words_needed, cleared}
use Rattle.cover_theory.specs.Rule.{Rel, ruled, covering, pairs_from}
use Rattle.cover_theory.specs.Lies.{conflicts_in, words_holding}
use Rattle.cover_theory.specs.Rows.{Fit, Flat, conflicts, told}
use Rattle.cover_theory.proofs.Laid.{list_holds}
use Rattle.cover_theory.proofs.Endings.{words_are}
use Rattle.cover.specs.declared.remaining.Remaining.{Remaining}
use Rattle.cover.specs.Views.{Moved, rel_in}
use Rattle.cover.proofs.Moves.{moved_count, moved_width, moved_room}

-- whether the list was too short
pub none_of : {X : Type 0} (r : Option X) (b : Bool) (P Q : Type 0) → is_some r ≡ not b → b ≡ true → MatchOption r P (λ _. Q) → P
none_of None b P Q e h m = m
none_of (Some x) b P Q e h m = absurd (false≢true (sym (e ∙ ap not h)))

pub some_of : {X : Type 0} (r : Option X) (b : Bool) (P Q : Type 0) → is_some r ≡ not b → b ≡ false → MatchOption r P (λ _. Q) → Q
some_of None b P Q e h m = absurd (false≢true (e ∙ ap not h))
some_of (Some x) b P Q e h m = m

pub short_is : (n R : ℕ) (vs : List ℕ) (f : Filled ℤ) (list : List ℤ) → R ≡ row_words n → f.put ≡ [] → f.rest ≡ list
    → length f.put + length f.rest < length (ruled told (2 * n) (conflicts (2 * n) R vs, f.put)).1 → length list < length (ruled told (2 * n) (conflicts (2 * n) (row_words n) vs, [])).1
short_is n R vs f list e start rest h =
    omega (arith, h, ap length start, ap length rest, ap₂ (λ k (l : List ℤ). length (ruled told (2 * n) (conflicts (2 * n) k vs, l)).1) e start)

pub cleared_is : (n : ℕ) (work : List ℕ) (k : ℕ) → length work ≡ words_needed n → k ≡ words_needed n → replicate k 0 ≡ cleared n work
cleared_is n work k len e =
    ap (λ m. replicate m 0) e ∙ sym (append-nil (replicate (words_needed n) 0)) ∙ ap (λ l. replicate (words_needed n) 0 ++ l) (sym (drop_all (words_needed n) work (omega (arith, len))))

module _ (n : ℕ) (vs : List ℕ) (r t : Remaining) (f g : Filled ℤ) (rc : r.count ≡ 2 * n) (rw : r.width ≡ row_words n) (rv : r.words.now ≡ vs) (start : f.put ≡ [])
    (moved : Moved r t f g (ruled told r.count (rel_in r, f.put))) where
  count_is : t.count ≡ 2 * n
  count_is = moved_count r t f g _ moved ∙ rc

  width_is : t.width ≡ row_words n
  width_is = moved_width r t f g _ moved ∙ rw

  left_is : rel_in t ≡ conflicts (2 * n) (row_words n) t.words.now
  left_is = ap₂ (λ N R. conflicts N R t.words.now) count_is width_is

  fits : Fit (2 * n) (row_words n) t.words.now
  fits = subst (λ N. Fit N (row_words n) t.words.now) count_is (subst (λ R. Fit t.count R t.words.now) width_is t.fit)

  long : length t.words.now ≡ words_needed n
  long = t.whole ∙ ap₂ (λ N R. N * R) count_is width_is

  began : ◌≡◌ {A = Flat} (rel_in r, f.put) (conflicts (2 * n) (row_words n) vs, [])
  began = λ i. (conflicts (rc i) (rw i) (rv i), start i)

  pub ended : ◌≡◌ {A = Flat} (conflicts (2 * n) (row_words n) t.words.now, g.put) (ruled told (2 * n) (conflicts (2 * n) (row_words n) vs, []))
  ended =
      ap (λ (q : Rel). (q, g.put)) (sym left_is) ∙ moved.state ∙ ap₂ (λ N (s : Flat). ruled told N s) rc began

  pub pairs_left : (m : ℕ) (k : ℕ) (q : Rel) → k ≡ t.count → q ≡ rel_in t → m ≡ length (pairs_from k q k 0) → m ≡ length (pairs_from (2 * n) (conflicts (2 * n) (row_words n) t.words.now) (2 * n) 0)
  pairs_left m k q ek eq e = e ∙ ap₂ (λ N (p : Rel). length (pairs_from N p N 0)) (ek ∙ count_is) (eq ∙ left_is)

  pub work_is : (ws work work' : List ℕ) → ((i : ℕ) → i < words_needed n → get_or vs i 0 ≡ get_or ws i 0) → length work ≡ words_needed n → work' ≡ t.words.now → ((i : ℕ) → Fits w64 (get_or work' i 0))
      → work' ≡ words_holding n (covering (2 * n) (conflicts_in n ws)).0 ++ drop (words_needed n) work
  work_is ws work work' copied len e small =
      e ∙ words_are n ws work vs copied t.words.now g.put ended fits (omega (arith, len)) (long ∙ sym len)
      (λ i. let b = small i in subst (λ (l : List ℕ). get_or l i 0 < 2 ^ 64) e (omega arith))
      (λ i h. get_or_past t.words.now i 0 (omega (arith, long)) ∙ sym (get_or_past work i 0 (omega (arith, len))))

-- the list: the numbers of the parts, and zeros to its end
module _ (f : Filling ℤ) where
  pub put_length : f.len ≡ length (filled f).put
  put_length = sym (length-take-le f.len f.buffer.now f.within)

  pub buffer_length : (r t : Remaining) (g : Filled ℤ) (s : Flat) → g.put ≡ [] → Moved r t g (filled f) s → length f.buffer.now ≡ length g.rest
  buffer_length r t g s e m =
      ap length (whole_is f) ∙ length-append (filled f).put (filled f).rest ∙ moved_room r t g (filled f) s m ∙ ap (λ (l : List ℤ). length l + length g.rest) e
      ∙ (let q : 0 + length g.rest ≡ length g.rest = omega arith in q)

  pub list_done : (list L F ns : List ℤ) → L ≡ f.buffer.now → length f.buffer.now ≡ length list → F ≡ replicate (length (take (length L - f.len) (drop f.len L))) (pos 0) → (filled f).put ≡ ns
      → put_mid f.len (length L - f.len) L F ≡ ns ++ replicate (length list - length ns) (pos 0)
  list_done list L F ns e len F-is p =
      let same : length L ≡ length list = ap length e ∙ len in
      let used : f.len ≤ length L = omega (arith, ap length e, f.within) in
      let part : length (take (length L - f.len) (drop f.len L)) ≡ length L - f.len = length-take-le (length L - f.len) (drop f.len L) (omega (arith, length-drop f.len L)) in
      ap (λ l. take f.len L ++ (F ++ l)) (drop_all (length L - f.len) (drop f.len L) (omega (arith, length-drop f.len L)))
      ∙ ap (λ l. take f.len L ++ l) (append-nil F ∙ F-is ∙ ap (λ k. replicate k (pos 0)) part)
      ∙ list_holds L ns f.len used (ap (take f.len) e ∙ p) ∙ ap (λ k. ns ++ replicate (k - length ns) (pos 0)) same
