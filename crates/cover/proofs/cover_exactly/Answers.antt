use Rattle.std.proofs.Common.{◌≡◌, ℕ, ◌-◌, ◌*◌, ◌<◌, ◌≤◌, List, ℤ, length, get_or, take, replicate, pos, Ok, Err, refl, sym, ap, ◌∙◌, subst, arith, rules}
use Rattle.std.proofs.lemmas.List.{get_or-take}
use Rattle.filling.specs.Filled.{Filled}
use Rattle.filling.specs.Views.{filled}
use Rattle.cover.specs.declared.Covered.{Covered}
use Rattle.network_theory.specs.Layout.{words_needed}
use Rattle.cover_theory.specs.Lies.{numbers}
use Rattle.cover_theory.specs.Rows.{Fit}
use Rattle.cover_theory.proofs.Nets.{net_fit, net_partition}
use Rattle.cover_theory.proofs.Remaining.{sized}
use Rattle.cover_theory.proofs.Endings.{too_short, put_is, remaining_is}
use Rattle.cover.specs.Outcome.{net_in, cover_of_net}
use Rattle.cover.proofs.Ends.{ends_list, ends_covered}
use Rattle.cover.proofs.Finishes.{short_is, cleared_is, none_of, some_of, ended, pairs_left, work_is, put_length, buffer_length, list_done}
use Rattle.cover.proofs.cover_exactly.Goals as goal

same-counts : {k l m n k' l' m' n' : ℕ} → k ≡ k' → l ≡ l' → m ≡ m' → n ≡ n'
    → ◌≡◌ {A = Covered} (record { cliques = k; bicliques = l; remaining = m; used = n }) (record { cliques = k'; bicliques = l'; remaining = m'; used = n' })
same-counts a b c d i = record { cliques = a i; bicliques = b i; remaining = c i; used = d i }

copied : (n : ℕ) (ws work vs : List ℕ) (k : ℕ) → vs ≡ take k ws → k ≡ words_needed n → (i : ℕ) → i < words_needed n → get_or vs i 0 ≡ get_or ws i 0
copied n ws work vs k e len i h = ap (λ l. get_or l i 0) e ∙ get_or-take k ws i 0 (omega arith)

pub invariant_of-remaining : goal.invariant_of-remaining
invariant_of-remaining c =
    let n = c.args.n in
    let vs = c.copy_from_slice.new.self in
    let len : length vs ≡ words_needed n = omega arith in
    record {
      fit = subst (λ r. Fit (2 * n) r vs) (sym c.row_words.ensures)
          (net_fit n c.args.words.now c.requires.network.0 c.requires.network.1.0 vs c.requires.network.1.1 c.requires.size.0 (omega arith)
          (copied n c.args.words.now c.args.work.now vs _ c.copy_from_slice.ensures.after (omega arith)));
      whole = len ∙ ap (λ r. 2 * n * r) (sym c.row_words.ensures);
    }

pub returns-then-is_none : goal.returns-then-is_none
returns-then-is_none c =
    let n = c.args.n in
    let ws = c.args.words.now in
    let work = c.args.work.now in
    let list = c.args.list.now in
    let vs = c.copy_from_slice.new.self in
    let net = net_in n ws in
    let len : length work ≡ words_needed n = omega arith in
    let start = ap (λ (f : Filled ℤ). f.put) c.new-parts.ensures in
    let rest = ap (λ (f : Filled ℤ). f.rest) c.new-parts.ensures in
    let short = too_short n ws work vs (copied n ws work vs _ c.copy_from_slice.ensures.after len) (length list)
    (short_is n c.row_words.result vs (filled c.new-parts.result) list c.row_words.ensures start rest (none_of _ _ _ _ c.is_none.ensures c.if-is_none.true c.find_parts.ensures)) in
    let words : length c.fill.new.self ≡ length work = search rules in
    let numbers : length c.fill-then-is_none.new.self ≡ length list = search rules in
    record {
      answer = ap Err c.new.ensures ∙ ends_list net (length work) (length list) _ _ _ (omega (arith, len)) short;
      words = c.fill.ensures.after (λ y e. e) ∙ cleared_is n work _ len (sym c.fill.ensures.len ∙ words ∙ len)
          ∙ ends_list net (length work) (length list) _ _ _ (omega (arith, len)) short;
      list = c.fill-then-is_none.ensures.after (λ y e. e) ∙ ap (λ k. replicate k (pos 0)) (sym c.fill-then-is_none.ensures.len ∙ numbers)
          ∙ ends_list net (length work) (length list) _ _ _ (omega (arith, len)) short;
    }

pub returns : goal.returns
returns c =
    let n = c.args.n in
    let ws = c.args.words.now in
    let work = c.args.work.now in
    let list = c.args.list.now in
    let vs = c.copy_from_slice.new.self in
    let net = net_in n ws in
    let t = c.find_parts.new.remaining in
    let f = c.find_parts.new.list in
    let room = length list in
    let len : length work ≡ words_needed n = omega arith in
    let same = copied n ws work vs _ c.copy_from_slice.ensures.after len in
    let start = ap (λ (g : Filled ℤ). g.put) c.new-parts.ensures in
    let rest = ap (λ (g : Filled ℤ). g.rest) c.new-parts.ensures in
    let moved = some_of _ _ _ _ c.is_none.ensures c.if-is_none.false c.find_parts.ensures in
    let state = ended n vs _ t (filled c.new-parts.result) (filled f) refl c.row_words.ensures refl start moved in
    let put = put_is n ws work vs same t.words.now (filled f).put state in
    let parts = numbers (cover_of_net net).parts in
    let used : f.len ≡ length parts = put_length f ∙ ap length put in
    let long : length f.buffer.now ≡ room = buffer_length f _ t (filled c.new-parts.result) _ start moved ∙ ap length rest in
    let enough : words_needed n ≤ length work = omega (arith, len) in
    let fits : length parts ≤ room = omega (arith, used, long, f.within) in
    let held = list_done f list _ c.fill-2.new.self parts (search rules) long (c.fill-2.ensures.after (λ y e. e)) put in
    let counts = c.count_parts-cliques.ensures.reads (cover_of_net net).parts (room - length parts)
    (sized n (cover_of_net net).parts (net_partition n ws c.requires.network.0 c.requires.network.1.0).sound) held in
    let remaining = pairs_left n vs _ t (filled c.new-parts.result) (filled f) refl c.row_words.ensures refl start moved c.conflicts-left.result _ _ c.rows.ensures.count c.rows.ensures.conflicts c.conflicts-left.ensures
    ∙ remaining_is n ws work vs same t.words.now (filled f).put state in
    record {
      answer = ap Ok (same-counts counts.0 counts.1 remaining used) ∙ ends_covered net (length work) room _ _ _ enough fits;
      words = work_is n vs _ t (filled c.new-parts.result) (filled f) refl c.row_words.ensures refl start moved ws work _ same len (search rules) c.type_inv.work
          ∙ ends_covered net (length work) room _ _ _ enough fits;
      list = held ∙ ends_covered net (length work) room _ _ _ enough fits;
    }
