use Rattle.std.proofs.Common.{◌≡◌, ◌*◌, ◌≤◌, length, sym, ap, ◌∙◌, subst}
use Rattle.network_theory.specs.Layout.{Net, words_needed, Mutual, Apart, Trimmed}
use Rattle.network_theory.specs.Calls.{most_variables}
use Rattle.network.specs.Views.{net_of}
use Rattle.cover_theory.proofs.Fuel.{covering_ends}
use Rattle.cover_theory.proofs.Settles.{grown_settles}
use Rattle.cover_theory.proofs.Nets.{net_partition, net_within, net_alone}
use Rattle.cover.specs.Outcome.{net_in, conflicts_of, cover_answer, work_after, list_after}
use Rattle.cover.proofs.cover.Goals as goal

pub cover_words-requires : goal.cover_words-requires
cover_words-requires c =
    let net = c.args.net.now in
    let e : net_of net.matrix ≡ net_in c.variables.result c.words.result.now = λ i. record { variables = sym c.variables.ensures i; words = sym c.words.ensures i } in
    record {
      size = (subst (λ (X : Net). X.variables ≤ most_variables) e net.matrix.few, subst (λ (X : Net). words_needed X.variables ≤ length X.words) e net.matrix.room);
      network = (subst Mutual e net.matrix.mutual, (subst Apart e net.matrix.apart, subst Trimmed e net.matrix.trimmed));
    }

pub returns : goal.returns
returns c =
    let net = c.args.net.now in
    let e : net_in c.variables.result c.words.result.now ≡ net_of net.matrix = λ i. record { variables = c.variables.ensures i; words = c.words.ensures i } in
    record {
      answer = c.cover_words.ensures.answer ∙ ap (λ (X : Net). cover_answer X (length c.args.work.now) (length c.args.list.now)) e;
      words = c.cover_words.ensures.words ∙ ap (λ (X : Net). work_after X c.args.work.now (length c.args.list.now)) e;
      list = c.cover_words.ensures.list ∙ ap (λ (X : Net). list_after X (length c.args.work.now) c.args.list.now) e;
      partition = net_partition net.matrix.variables net.matrix.words.now net.matrix.mutual net.matrix.apart;
      within = net_within net.matrix.variables net.matrix.words.now net.matrix.mutual net.matrix.apart;
      ended = (covering_ends (2 * net.matrix.variables) (conflicts_of (net_of net.matrix)), grown_settles);
      alone = λ words h. net_alone net.matrix.variables net.matrix.words.now words h;
    }
