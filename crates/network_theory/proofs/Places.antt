-- Where the bit of a row and a column lies.
use Rattle.std.proofs.Common.{◌≡◌, ℕ, ◌*◌, ◌/◌, ◌<◌, ◌≤◌, List, length, sym, ap, ◌∙◌, mul_comm, arith}
use Rattle.std.proofs.lemmas.Nat.{mul-add-lt, div-mul-add}
use Rattle.network_theory.specs.Layout.{row_words, words_needed, word_at}

-- a column lies within its row
pub column_within : (n w : ℕ) → w < 2 * n → w / 64 < row_words n
column_within n w h = omega arith

pub word_at_needed : (n u w : ℕ) → u < 2 * n → w / 64 < row_words n → word_at n u w < words_needed n
word_at_needed n u w hu hw = omega (arith, mul-add-lt u (row_words n) (w / 64) (2 * n) hu hw, mul_comm (2 * n) (row_words n))

pub word_at_within : (n : ℕ) (ws : List ℕ) (u w : ℕ) → words_needed n ≤ length ws → u < 2 * n → w < 2 * n → word_at n u w < length ws
word_at_within n ws u w room hu hw = omega (arith, word_at_needed n u w hu (column_within n w hw))

-- one word has one row, and columns of one 64
pub same_word_at : (n u w u' w' : ℕ) → w / 64 < row_words n → w' / 64 < row_words n → word_at n u w ≡ word_at n u' w' → (u ≡ u') × (w / 64 ≡ w' / 64)
same_word_at n u w u' w' h h' e =
    let p : u ≡ u' = sym (div-mul-add u (row_words n) (w / 64) h) ∙ ap (λ z. z / row_words n) e ∙ div-mul-add u' (row_words n) (w' / 64) h' in
    (p, let q : u * row_words n ≡ u' * row_words n = ap (λ z. z * row_words n) p in omega arith)
