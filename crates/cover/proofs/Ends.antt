-- The three ways in which a call of `cover` ends.
use Rattle.std.proofs.Common.{◌≡◌, ℕ, ◌<◌, ◌≤◌, Bool, true, false, cond, List, [], ◌++◌, length, take, drop, replicate, sym, ap, ◌∙◌, ap₂, arith}
use Rattle.std.proofs.lemmas.List.{append-nil, length-take-le, drop_all}
use Rattle.std.proofs.lemmas.Bool.{cond-true, cond-false, lt-ltb, le-ltb}
use Rattle.network_theory.specs.Layout.{Net, words_needed}
use Rattle.cover_theory.specs.Lies.{numbers, words_holding}
use Rattle.cover.specs.Outcome.{cover_of_net, remaining_of, words_short, list_short, ending, work_after}

module _ {X : Type 0} (net : Net) (words room : ℕ) (x y z : X) where
  module _ (enough : words_needed net.variables ≤ words) where
    pub ends_list : room < length (numbers (cover_of_net net).parts) → y ≡ ending net words room x y z
    ends_list h = sym (cond-false (words_short net words) x _ (le-ltb words _ enough) ∙ cond-true (list_short net room) y z (lt-ltb room _ h))

    pub ends_covered : length (numbers (cover_of_net net).parts) ≤ room → z ≡ ending net words room x y z
    ends_covered h = sym (cond-false (words_short net words) x _ (le-ltb words _ enough) ∙ cond-false (list_short net room) y z (le-ltb room _ h))

-- ---- a call on just the needed words

pub same_ending : {X : Type 0} (net : Net) (a b room : ℕ) (x x' y z : X) → words_needed net.variables ≤ a → words_needed net.variables ≤ b → ending net a room x y z ≡ ending net b room x' y z
same_ending net a b room x x' y z h g =
    cond-false (words_short net a) x _ (le-ltb a _ h) ∙ sym (cond-false (words_short net b) x' _ (le-ltb b _ g))

joined : (b : Bool) (R H D E : List ℕ) → D ≡ [] → cond b (R ++ D) (H ++ D) ++ E ≡ cond b (R ++ E) (H ++ E)
joined true R H D E e = ap (λ d. (R ++ d) ++ E) e ∙ ap (λ l. l ++ E) (append-nil R)
joined false R H D E e = ap (λ d. (H ++ d) ++ E) e ∙ ap (λ l. l ++ E) (append-nil H)

pub whole_words : (net : Net) (work part last : List ℕ) (room k : ℕ) → k ≡ words_needed net.variables → words_needed net.variables ≤ length work → part ≡ take k work
    → last ≡ work_after net part room → last ++ drop k work ≡ work_after net work room
whole_words net work part last room k ke h p e =
    let n = net.variables in
    let part_is : part ≡ take (words_needed n) work = p ∙ ap (λ z. take z work) ke in
    let len : length part ≡ words_needed n = ap length part_is ∙ length-take-le (words_needed n) work h in
    let none : drop (words_needed n) part ≡ [] = drop_all (words_needed n) part (omega arith) in
    ap₂ (λ l z. l ++ drop z work) (e ∙ cond-false (words_short net (length part)) part _ (le-ltb (length part) _ (omega arith))) ke
    ∙ joined (list_short net room) (replicate (words_needed n) 0) (words_holding n (remaining_of net)) (drop (words_needed n) part) (drop (words_needed n) work) none
    ∙ sym (cond-false (words_short net (length work)) work _ (le-ltb (length work) _ h))
