-- How a call of `cover` ends: what it answers, and what it leaves in the work words and in the list.
use Rattle.std.specs.Prelude.{ℕ, ◌*◌, Bool, cond, List, ◌++◌, length, drop, replicate, ℤ, pos, Ok, Err, Result, nat_lt}
use Rattle.fault.specs.declared.Fault.{Fault}
use Rattle.fault.specs.declared.Refusal.TheVariants.{WordsShort, PartListShort}
use Rattle.fault.specs.declared.Layer.TheVariants.{Network, Cover}
use Rattle.network_theory.specs.Layout.{Net, words_needed, cleared}
use Rattle.cover_theory.specs.Parts.{Cover as PartsAndRest}
use Rattle.cover_theory.specs.Rule.{Rel, covering, cover_of}
use Rattle.cover_theory.specs.Lies.{numbers, list_holding, clique_count, biclique_count, conflicts_in, words_holding}
use Rattle.cover.specs.declared.Covered.{Covered}

-- the network of n variables that lies in these words
abbrev pub net_in : ℕ → List ℕ → Net
net_in n words = record { variables = n; words = words }

-- the conflicts of a network, by index
abbrev pub conflicts_of : Net → Rel
conflicts_of net = conflicts_in net.variables net.words

-- the cover of a network
abbrev pub cover_of_net : Net → PartsAndRest
cover_of_net net = cover_of net.variables (conflicts_of net)

-- the conflicts that remain, by index
abbrev pub remaining_of : Net → Rel
remaining_of net = (covering (2 * net.variables) (conflicts_of net)).0

-- what a cover counts: its cliques, its bicliques, the conflicts that remain, and the numbers that its parts take in a list
abbrev pub counts_of : PartsAndRest → Covered
counts_of C = record {
  cliques = clique_count C.parts;
  bicliques = biclique_count C.parts;
  remaining = length C.remaining;
  used = length (numbers C.parts);
}

-- refusal 2: the work words are fewer than the network needs
abbrev pub words_short : Net → ℕ → Bool
words_short net words = nat_lt words (words_needed net.variables)

-- refusal 8: the list is too short for the parts
abbrev pub list_short : Net → ℕ → Bool
list_short net room = nat_lt room (length (numbers (cover_of_net net).parts))

-- x with refusal 2, y with refusal 8, z if neither is met
abbrev pub ending : {X : Type 0} → Net → ℕ → ℕ → X → X → X → X
ending net words room x y z = cond (words_short net words) x (cond (list_short net room) y z)

-- what the call answers, with so many work words and a list of so many numbers
abbrev pub cover_answer : Net → ℕ → ℕ → Result Covered Fault
cover_answer net words room = ending net words room
    (Err (record { refusal = WordsShort; layer = Network; place = 0 }))
    (Err (record { refusal = PartListShort; layer = Cover; place = 0 }))
    (Ok (counts_of (cover_of_net net)))

-- the work words that it leaves: untouched; the needed ones zero; or the needed ones holding what remains. Those beyond are untouched
abbrev pub work_after : Net → List ℕ → ℕ → List ℕ
work_after net work room = ending net (length work) room
    work
    (cleared net.variables work)
    (words_holding net.variables (remaining_of net) ++ drop (words_needed net.variables) work)

-- the list that it leaves: untouched; all zero; or holding the parts, with zeros to its end
abbrev pub list_after : Net → ℕ → List ℤ → List ℤ
list_after net words list = ending net words (length list)
    list
    (replicate (length list) (pos 0))
    (list_holding (cover_of_net net).parts (length list))
