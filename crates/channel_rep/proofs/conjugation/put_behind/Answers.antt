use Rattle.std.proofs.Common.{rules}
use Rattle.channel_rep.proofs.conjugation.put_behind.Goals as goal

pub returns-in-H : goal.returns-in-H
returns-in-H c = λ p l. let h = c.change_each.ensures p l in rw c.in-H.is (search rules)

pub returns-in-S : goal.returns-in-S
returns-in-S c = λ p l. let h = c.change_each-in-S.ensures p l in rw c.in-S.is (search rules)

pub returns-in-Sdg : goal.returns-in-Sdg
returns-in-Sdg c = λ p l. let h = c.change_each-in-Sdg.ensures p l in rw c.in-Sdg.is (search rules)

pub returns-in-Cx : goal.returns-in-Cx
returns-in-Cx c = λ p l. let h = c.change_each-in-Cx.ensures p l in rw c.in-Cx.is (search rules)
