use Rattle.std.proofs.Common.{length, w32, SFits, rules}
use Rattle.std.proofs.lemmas.Int.{to_z-of_z}
use Rattle.network.specs.Views.{net_of}
use Rattle.compaction_theory.specs.Walks.{TakenNumbers}
use Rattle.compaction_theory.proofs.Written.{wrote_all}
use Rattle.compaction.proofs.file.File.write_network.Goals as goal

pub returns : goal.returns
returns c =
    let fits : SFits w32 c.first_auxiliary.result = search rules in
    let t : TakenNumbers c.args.self.now.variables c.args.self.now.numbers.now = c.args.self.now.taken in
    wrote_all c.args.self.now.choice _ _ t (net_of c.args.net.now.matrix) c.requires.network.0 c.requires.network.1
    c.first_auxiliary.result c.first_auxiliary.ensures (length c.args.work.now) _ _ _ _ _
    c.requires.words c.requires.room.0 c.requires.room.1 (simp to_z-of_z at c.write_by.ensures)
