-- What write answers is told from what measure answers.
use Rattle.std.proofs.Common.{◌≡◌, ◌*◌, Bool, true, false, cond, Some, None, refl}
use Rattle.formula_theory.specs.Writing.{clause_count}
use Rattle.formula_theory.specs.Outcome.{words_fault, range_fault, list_fault, exhausted_fault, buffer_fault, words_short, range_unfit, list_short, exhausted, buffer_short, unless_refused, size_of, if_room, MeasureForetells}

pub measure_foretells : MeasureForetells
measure_foretells n C M t room = go (words_short n t) (range_unfit n t) (list_short C t) (exhausted M C t) (buffer_short (2 * clause_count M C) room) refl
  where
    go : (b2 b6 b8 b9 b10 : Bool) → buffer_short (2 * clause_count M C) room ≡ b10
        → unless_refused (cond b2 (Some words_fault) (cond b6 (Some range_fault) (cond b8 (Some list_fault) (cond b9 (Some exhausted_fault) (cond b10 (Some buffer_fault) None))))) (size_of M C)
        ≡ if_room room (unless_refused (cond b2 (Some words_fault) (cond b6 (Some range_fault) (cond b8 (Some list_fault) (cond b9 (Some exhausted_fault) None)))) (size_of M C))
    go true b6 b8 b9 b10 e = refl
    go false true b8 b9 b10 e = refl
    go false false true b9 b10 e = refl
    go false false false true b10 e = refl
    go false false false false true e = rw e refl
    go false false false false false e = rw e refl
