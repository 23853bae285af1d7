use Rattle.std.proofs.Common.{length, ap, arith}
use Rattle.filling.specs.Filled.{Filled}
use Rattle.filling.specs.Views.{filled}
use Rattle.std.proofs.Common.{ℤ}
use Rattle.cover_theory.specs.Rows.{listed, sides_part}
use Rattle.cover_theory.proofs.Pairs.{sides_short, length_sides}
use Rattle.cover.proofs.Moves.{on_none}
use Rattle.cover.proofs.bicliques.take_sides.Goals as goal

pub returns-in_err-has_room : goal.returns-in_err-has_room
returns-in_err-has_room c =
    let N = c.args.remaining.now.count in
    let A = c.args.sides.now.left.words in
    let B = c.args.sides.now.right.words in
    on_none _ _ _ c.from_residual.ensures (sides_short N A B (filled c.args.list.now).put c.args.x c.args.y (length (filled c.args.list.now).rest) c.requires.left.0 c.requires.right.0 c.in_err-has_room.ensures)

pub returns : goal.returns
returns c =
    let N = c.args.remaining.now.count in
    let A = c.args.sides.now.left.words in
    let B = c.args.sides.now.right.words in
    record {
      shape = c.sever.ensures.shape;
      state = λ i. (c.sever.ensures.left i, ap (λ (f : Filled ℤ). f.put) c.emit_sides.ensures i);
      added = listed (sides_part N A B);
      fits = omega (arith, length_sides N A B, c.requires.left.0, c.requires.right.0, c.in_ok-has_room.ensures);
      list = c.emit_sides.ensures;
    }
