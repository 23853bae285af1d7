use Rattle.std.proofs.Common.{◌+◌, length}
use Rattle.filling.specs.Views.{filled}
use Rattle.cover_theory.proofs.Nets.{phases_short}
use Rattle.cover.specs.Views.{rel_in}
use Rattle.cover.proofs.Moves.{on_none}
use Rattle.cover.proofs.phases.find_parts.Goals as goal

pub returns-in_err-find_cliques : goal.returns-in_err-find_cliques
returns-in_err-find_cliques c =
    let r = c.args.remaining.now in
    let f = filled c.args.list.now in
    on_none _ _ _ c.from_residual.ensures (phases_short r.count (rel_in r, f.put) (length f.put + length f.rest) c.in_err-find_cliques.ensures)
