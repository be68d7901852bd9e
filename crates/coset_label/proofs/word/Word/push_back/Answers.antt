use Rattle.std.proofs.Common.{◌<◌, ◌^◌, subst}
use Rattle.coset_label.proofs.PackedWords.{back_packed}
use Rattle.coset_label.proofs.word.Word.push_back.Goals as goal

pub invariant_of-result : goal.invariant_of-result
invariant_of-result c =
    (back_packed c.self.inside.n c.self.inside.len c.self.inside.letters c.code.result c.args.p.code c.args.self.now c.self.view_is c.self.invariant c.code.ensures.value
    (subst (λ n. c.code.result < 4 ^ n) c.requires.same c.code.ensures.below) c.requires.other c.requires.room).packed

pub returns : goal.returns
returns c =
    (back_packed c.self.inside.n c.self.inside.len c.self.inside.letters c.code.result c.args.p.code c.args.self.now c.self.view_is c.self.invariant c.code.ensures.value
    (subst (λ n. c.code.result < 4 ^ n) c.requires.same c.code.ensures.below) c.requires.other c.requires.room).stands_for
