use Rattle.std.proofs.Common.{◌≡◌, length, ap, arith}
use Rattle.coset_label.proofs.PackedWords.{letters_counted, letter_read, mask_below}
use Rattle.coset_label.proofs.word.Word.letter.Goals as goal

pub overflow_sub-behind-2 : goal.overflow_sub-behind-2
overflow_sub-behind-2 c =
    let counted : c.self.inside.len ≡ length c.args.self.now.letters = letters_counted _ _ c.self.inside.letters c.args.self.now c.self.view_is in omega arith

pub returns-clause-code : goal.returns-clause-code
returns-clause-code c =
    (letter_read c.self.inside.n c.self.inside.len c.self.inside.letters c.args.i c.args.self.now _ c.self.view_is c.self.invariant c.requires
    (c.of_code.ensures.whole (mask_below c.self.inside.n _ c.self.invariant.few))).0

pub returns-clause-other : goal.returns-clause-other
returns-clause-other c =
    (letter_read c.self.inside.n c.self.inside.len c.self.inside.letters c.args.i c.args.self.now _ c.self.view_is c.self.invariant c.requires
    (c.of_code.ensures.whole (mask_below c.self.inside.n _ c.self.invariant.few))).1
