-- A text has room for few words: each takes a byte at least, and so does what parts it from the next.
use Rattle.std.proofs.Common.{◌≡◌, ℕ, suc, ◌+◌, ◌*◌, ◌≤◌, Bool, true, false, cond, List, [], ◌∷◌, ◌++◌, length, ℤ, refl, ap, ◌∙◌, arith, length-append}
use Rattle.std.specs.Fmt.{signed_decimal}
use Rattle.dimacs.specs.Bytes.{is_feed, is_blank}
use Rattle.dimacs.specs.Clauses.{numbers}
use Rattle.dimacs.specs.File.{File, onto, split, nonempty, words, is_comment, words_outside, header_line}
use Rattle.formula_theory.proofs.Listed.{length_map}
use Rattle.compaction_theory.specs.Promises.{LargeHasRoom}

-- the bytes of pieces, each with one that ends it
abbrev taking : List (List ℕ) → ℕ
taking [] = 0
taking (w ∷ ws) = suc (length w) + taking ws

-- one more byte in the first piece, of which there is one
onto_taking : (b : ℕ) (ws : List (List ℕ)) → 1 ≤ taking ws → taking (onto b ws) ≡ suc (taking ws)
onto_taking b [] h = absurd (omega arith)
onto_taking b (w ∷ ws) h = omega arith

-- the pieces of a text, each with its end, are the text with an end
split_taking : (p : ℕ → Bool) (text : List ℕ) → taking (split p text) ≡ suc (length text)
split_taking p [] = refl
split_taking p (b ∷ bs) = by (p b) (split_taking p bs)
  where
    by : (t : Bool) → taking (split p bs) ≡ suc (length bs) → taking (cond t ([] ∷ split p bs) (onto b (split p bs))) ≡ suc (suc (length bs))
    by true e = omega arith
    by false e = let f = onto_taking b (split p bs) (omega arith) in omega arith

-- a piece that is not empty takes two bytes or more with its end
nonempty_short : (ws : List (List ℕ)) → 2 * length (nonempty ws) ≤ taking ws
nonempty_short [] = omega arith
nonempty_short ([] ∷ ws) = let h = nonempty_short ws in omega arith
nonempty_short ((b ∷ w) ∷ ws) = let h = nonempty_short ws in omega arith

words_short : (line : List ℕ) → 2 * length (words line) ≤ suc (length line)
words_short line = let h = nonempty_short (split is_blank line) in let e = split_taking is_blank line in omega arith

outside_short : (ls : List (List ℕ)) → 2 * length (words_outside ls) ≤ taking ls
outside_short [] = omega arith
outside_short (l ∷ ls) = by (is_comment l) (words_short l) (outside_short ls)
  where
    by : (t : Bool) → 2 * length (words l) ≤ suc (length l) → 2 * length (words_outside ls) ≤ taking ls
        → 2 * length (cond t [] (words l) ++ words_outside ls) ≤ suc (length l) + taking ls
    by true h k = omega arith
    by false h k = let e = length-append (words l) (words_outside ls) in omega arith

taking_append : (ks ls : List (List ℕ)) → taking (ks ++ ls) ≡ taking ks + taking ls
taking_append [] ls = omega arith
taking_append (k ∷ ks) ls = let e = taking_append ks ls in omega arith

-- the words after the header line are the numbers of the clauses
pub file_short : (text : List ℕ) (n : ℕ) (clauses : List (List ℤ)) → File text n clauses → 2 * length (numbers clauses) ≤ length text
file_short text n clauses f =
    let lines : taking (split is_feed text) ≡ suc (length text) = split_taking is_feed text in
    let parts : taking (split is_feed text) ≡ taking f.before + taking (header_line n (length clauses) ∷ f.body) =
    ap taking f.lined ∙ taking_append f.before (header_line n (length clauses) ∷ f.body) in
    let count : length (words_outside f.body) ≡ length (numbers clauses) = ap length f.worded ∙ length_map signed_decimal (numbers clauses) in
    let short = outside_short f.body in omega arith

pub large_has_room : LargeHasRoom
large_has_room text n clauses f = let h = file_short text n clauses f in omega arith
