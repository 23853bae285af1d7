use Rattle.std.proofs.Common.{◌∙◌, arith}
use Rattle.cover.proofs.Erases.{still_fit, same_length, gone}
use Rattle.cover.proofs.remaining.Remaining.erase.Goals as goal

pub invariant_of-self : goal.invariant_of-self
invariant_of-self c =
    let self = c.args.self.now in
    record {
      fit = still_fit self.count self.width c.args.u _ self.words.now c.clear_bits.new.row c.args.mask.now.words self.fit self.whole c.requires (omega arith) (omega arith) c.clear_bits.ensures;
      whole = same_length self.count self.width c.args.u _ self.words.now c.clear_bits.new.row c.args.mask.now.words self.fit self.whole c.requires (omega arith) (omega arith) c.clear_bits.ensures ∙ self.whole;
    }

pub returns-clause-gone : goal.returns-clause-gone
returns-clause-gone c =
    let self = c.args.self.now in
    gone self.count self.width c.args.u _ self.words.now c.clear_bits.new.row c.args.mask.now.words self.fit self.whole c.requires (omega arith) (omega arith) c.clear_bits.ensures
