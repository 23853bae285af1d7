-- What stands in words and list once the rule has run to its end, or the list was too short.
use Rattle.std.proofs.Common.{◌≡◌, ℕ, ◌*◌, ◌^◌, ◌<◌, ◌≤◌, List, [], ◌++◌, length, get_or, drop, ℤ, ap, ◌∙◌, arith}
use Rattle.network_theory.specs.Layout.{row_words, words_needed}
use Rattle.cover_theory.specs.Rule.{Rel, ruled, covering, cover_of, pairs_from}
use Rattle.cover_theory.specs.Lies.{numbers, conflicts_in, words_holding}
use Rattle.cover_theory.specs.Rows.{conflicts, Fit, Flat, told}
use Rattle.cover_theory.proofs.Grows.{agree}
use Rattle.cover_theory.proofs.Laid.{flat_covering, laid_words, same_conflicts}

module _ (n : ℕ) (ws work vs : List ℕ) (copied : (i : ℕ) → i < words_needed n → get_or vs i 0 ≡ get_or ws i 0) where
  copy_holds : conflicts (2 * n) (row_words n) vs ≡ conflicts_in n ws
  copy_holds = same_conflicts (2 * n) (row_words n) ws vs (omega arith) copied

  ran : ◌≡◌ {A = Flat} (ruled told (2 * n) (conflicts (2 * n) (row_words n) vs, [])) ((covering (2 * n) (conflicts_in n ws)).0, numbers (cover_of n (conflicts_in n ws)).parts)
  ran = ap (λ (r : Rel). ruled told (2 * n) (r, [])) copy_holds ∙ flat_covering (2 * n) (conflicts_in n ws)

  pub too_short : (k : ℕ) → k < length (ruled told (2 * n) (conflicts (2 * n) (row_words n) vs, [])).1 → k < length (numbers (cover_of n (conflicts_in n ws)).parts)
  too_short k h = omega (arith, ap (λ (s : Flat). length s.1) ran)

  module _ (us : List ℕ) (put : List ℤ) (ended : ◌≡◌ {A = Flat} (conflicts (2 * n) (row_words n) us, put) (ruled told (2 * n) (conflicts (2 * n) (row_words n) vs, []))) where
    state : ◌≡◌ {A = Flat} (conflicts (2 * n) (row_words n) us, put) ((covering (2 * n) (conflicts_in n ws)).0, numbers (cover_of n (conflicts_in n ws)).parts)
    state = ended ∙ ran

    left : conflicts (2 * n) (row_words n) us ≡ (covering (2 * n) (conflicts_in n ws)).0
    left = ap (λ (s : Flat). s.0) state

    pub put_is : put ≡ numbers (cover_of n (conflicts_in n ws)).parts
    put_is = ap (λ (s : Flat). s.1) state

    pub remaining_is : length (pairs_from (2 * n) (conflicts (2 * n) (row_words n) us) (2 * n) 0) ≡ length (cover_of n (conflicts_in n ws)).remaining
    remaining_is = ap (λ (r : Rel). length (pairs_from (2 * n) r (2 * n) 0)) left

    pub words_are : Fit (2 * n) (row_words n) us → words_needed n ≤ length work → length us ≡ length work → ((i : ℕ) → get_or us i 0 < 2 ^ 64) → ((i : ℕ) → words_needed n ≤ i → get_or us i 0 ≡ get_or work i 0)
        → us ≡ words_holding n (covering (2 * n) (conflicts_in n ws)).0 ++ drop (words_needed n) work
    words_are fit room same fits rest =
        laid_words n (covering (2 * n) (conflicts_in n ws)).0 work us room same fits
        (λ u j a b. agree (2 * n) (row_words n) us fit.tidy fit.small u j a b ∙ ap (λ (r : Rel). r u j) left) rest
