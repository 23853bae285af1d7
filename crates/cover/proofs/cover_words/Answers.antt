use Rattle.std.proofs.Common.{◌≡◌, ◌-◌, ◌*◌, ◌≤◌, length, take, refl, ap, ◌∙◌, arith}
use Rattle.std.proofs.lemmas.List.{length-take-le}
use Rattle.network_theory.specs.Layout.{words_needed}
use Rattle.cover.specs.Outcome.{net_in}
use Rattle.cover.proofs.Ends.{same_ending, whole_words}
use Rattle.cover.proofs.cover_words.Goals as goal

pub returns : goal.returns
returns c =
    let q : 2 * c.args.n * c.row_words.result ≡ words_needed c.args.n = ap (λ r. 2 * c.args.n * r) c.row_words.ensures in
    let k : 2 * c.args.n * c.row_words.result - 0 ≡ words_needed c.args.n = omega arith in
    let net = net_in c.args.n c.args.words.now in
    let enough : words_needed c.args.n ≤ length c.args.work.now = omega arith in
    let len : words_needed c.args.n ≤ length (take (2 * c.args.n * c.row_words.result - 0) c.args.work.now) = omega (arith, length-take-le (2 * c.args.n * c.row_words.result - 0) c.args.work.now (omega arith)) in
    record {
      answer = c.cover_exactly.ensures.answer ∙ same_ending net (length (take (2 * c.args.n * c.row_words.result - 0) c.args.work.now)) (length c.args.work.now) (length c.args.list.now) _ _ _ _ len enough;
      words = whole_words net c.args.work.now (take (2 * c.args.n * c.row_words.result - 0) c.args.work.now) c.cover_exactly.new.work (length c.args.list.now) (2 * c.args.n * c.row_words.result - 0) k enough refl c.cover_exactly.ensures.words;
      list = c.cover_exactly.ensures.list ∙ same_ending net (length (take (2 * c.args.n * c.row_words.result - 0) c.args.work.now)) (length c.args.work.now) (length c.args.list.now) _ _ _ _ len enough;
    }
