use Rattle.std.proofs.Common.{◌≡◌, length, ap, ◌∙◌, arith}
use Rattle.cover.specs.Left.{parts_left}
use Rattle.cover.specs.Walk.{cliques_in, bicliques_in, parts_in, summed}
use Rattle.cover.proofs.Walks.{parts_few, parts_read}
use Rattle.cover.proofs.count_parts.Goals as goal

pub loop-part-init : goal.loop-part-init
loop-part-init c =
    let e : parts_left c.into_iter-part-iterator.result ≡ parts_in c.args.list.now = ap parts_left c.into_iter-part-iterator.ensures.into_iter_gives ∙ c.new-part-items.ensures in (
      tt,
      tt,
      omega (arith, ap length e, parts_few c.args.list.now (length c.args.list.now) 0),
      omega (arith, ap (summed cliques_in) e),
      omega (arith, ap (summed bicliques_in) e),
    )

pub returns-clause-reads : goal.returns-clause-reads
returns-clause-reads c Ps z s e =
    let none = c.in-None.ensures.steps.0 in
    let read = parts_read c.args.list.now Ps z s e in
    let i = c.loop-part.invariant in
    (omega (arith, i.3, read.0, ap (summed cliques_in) none), omega (arith, i.4, read.1, ap (summed bicliques_in) none))
