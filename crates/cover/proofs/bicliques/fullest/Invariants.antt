use Rattle.std.proofs.Common.{◌≡◌, ℕ, ◌+◌, ◌-◌, ◌<◌, get_or}
use Rattle.cover_theory.specs.Rule.{first_best}
use Rattle.cover.proofs.bicliques.fullest.Given as goal

abbrev pub invariant-loop-c : goal.invariant-loop-c
invariant-loop-c l =
    let sc = λ (c : ℕ). get_or l.degrees c 0 + 1 in
    (l.best < l.count) × (l.top ≡ sc l.best) × (first_best sc (l.count - l.c) l.c l.best ≡ first_best sc l.count 0 0)
