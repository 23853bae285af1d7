-- What a file picks and what a program takes: the encoder by the file's first line, the limits by the program's scale.
use Rattle.std.specs.Prelude.{ℕ, ◌+◌, ◌/◌, Bool, cond, ◌&&◌, List, [], ◌∷◌, length, ◌==◌, slice_index}
use Rattle.dimacs.specs.Bytes.{is_feed}
use Rattle.encoder_theory.specs.Meaning.{Meaning}
use Rattle.encoder_theory.specs.Pairwise.{pairwise}
use Rattle.encoder_theory.specs.Binary.{binary}
use Rattle.encoder_theory.specs.Sequential.{sequential}
use Rattle.layer_theory.specs.Commander.{commander}
use Rattle.layer_theory.specs.Tower.{tower}
use Rattle.compaction_theory.specs.declared.Choice.{Choice}
use Rattle.compaction_theory.specs.declared.Choice.TheVariants.{Pairwise, Binary, Sequential, Commander, Tower}
use Rattle.compaction_theory.specs.declared.Scale.{Scale}
use Rattle.compaction_theory.specs.declared.Scale.TheVariants.{Small, Large}

-- ---- the encoder

-- the bytes before the first line feed
abbrev pub first_line : List ℕ → List ℕ
first_line [] = []
first_line (b ∷ bs) = cond (is_feed b) [] (b ∷ first_line bs)

-- the line is just `c amo ` and one character
abbrev pub picks_encoder : List ℕ → Bool
picks_encoder line =
    (length line == 7) && (slice_index line 0 == 99 && (slice_index line 1 == 32 && (slice_index line 2 == 97
    && (slice_index line 3 == 109 && (slice_index line 4 == 111 && slice_index line 5 == 32)))))

-- the encoder of a letter: w, b, s, c, and the tower for all others
abbrev pub by_letter : ℕ → Choice
by_letter b =
    cond (b == 119) Pairwise (
    cond (b == 98) Binary (
    cond (b == 115) Sequential (
    cond (b == 99) Commander Tower)))

-- the encoder that a first line picks; the tower, if it picks none
abbrev pub choice_of : List ℕ → Choice
choice_of line = cond (picks_encoder line) (by_letter (slice_index line 6)) Tower

-- what each means; the commander is one of three, with pairwise groups under binary
abbrev pub meaning_of : Choice → Meaning
meaning_of Pairwise = pairwise
meaning_of Binary = binary
meaning_of Sequential = sequential
meaning_of Commander = commander 3 pairwise binary
meaning_of Tower = tower

-- the encoder of a file
abbrev pub encoder_of : List ℕ → Meaning
encoder_of text = meaning_of (choice_of (first_line text))

-- ---- the limits

abbrev pub most_bytes : Scale → ℕ
most_bytes Small = 65_536
most_bytes Large = 67_108_864

abbrev pub most_variables : Scale → ℕ
most_variables Small = 256
most_variables Large = 4_096

-- how many numbers are read of a text of so many bytes: a large program has room for all that so many bytes can hold
abbrev pub number_room : Scale → ℕ → ℕ
number_room Small bytes = 16_384
number_room Large bytes = bytes / 2 + 1
