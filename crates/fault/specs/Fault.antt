-- The number of each refusal, the name of each layer, and how a fault shows.
use Rattle.std.specs.Prelude.{ℕ, List, ◌++◌, codes, decimal}
use Rattle.fault.specs.declared.Layer.{Layer}
use Rattle.fault.specs.declared.Layer.TheVariants.{Network, Formula, Cover, Encoder, Text}
use Rattle.fault.specs.declared.Refusal.{Refusal}
use Rattle.fault.specs.declared.Refusal.TheVariants.{VariableCount, WordsShort, LiteralOutOfRange, RepeatedLiteral, ComplementaryPair, AuxiliaryRange, UnfitValues, PartListShort, AuxiliariesExhausted, BufferShort, BrokenConflict, UnfitMembers, UnexpectedByte, MalformedHeader, VariableAboveHeader, ClauseListFull, UnexpectedEnd, ClauseCount}
use Rattle.fault.specs.declared.Fault.{Fault}

abbrev pub number_of : Refusal → ℕ
number_of VariableCount = 1
number_of WordsShort = 2
number_of LiteralOutOfRange = 3
number_of RepeatedLiteral = 4
number_of ComplementaryPair = 5
number_of AuxiliaryRange = 6
number_of UnfitValues = 7
number_of PartListShort = 8
number_of AuxiliariesExhausted = 9
number_of BufferShort = 10
number_of (BrokenConflict a b) = 11
number_of UnfitMembers = 12
number_of UnexpectedByte = 13
number_of MalformedHeader = 14
number_of VariableAboveHeader = 15
number_of ClauseListFull = 16
number_of UnexpectedEnd = 17
number_of ClauseCount = 18

abbrev pub layer_name : Layer → List ℕ
layer_name Network = codes "network"
layer_name Formula = codes "formula"
layer_name Cover = codes "cover"
layer_name Encoder = codes "encoder"
layer_name Text = codes "text"

-- the bytes of `fault number layer place`
abbrev pub fault_text : Fault → List ℕ
fault_text f = codes "fault " ++ (decimal (number_of f.refusal) ++ (codes " " ++ (layer_name f.layer ++ (codes " " ++ decimal f.place))))
