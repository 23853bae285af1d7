use Rattle.std.proofs.Common.{◌≡◌, ◌+◌, ◌*◌, ◌/◌, ◌<◌, sym, ap, subst}
use Rattle.network_theory.specs.Layout.{words_needed, word_at}
use Rattle.network_theory.proofs.Places.{column_within, word_at_needed}
use Rattle.network.proofs.matrix.word_at.Goals as goal

pub returns-clause-needed : goal.returns-clause-needed
returns-clause-needed c =
    let e : c.args.u * c.row_words.result + c.args.w / 64 ≡ word_at c.args.n c.args.u c.args.w =
    ap (λ z. c.args.u * z + c.args.w / 64) c.row_words.ensures in
    subst (λ z. z < words_needed c.args.n) (sym e) (word_at_needed c.args.n c.args.u c.args.w c.requires.u_index (column_within c.args.n c.args.w c.requires.w_index))
