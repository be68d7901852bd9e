use Rattle.meet_middle.proofs.Behind.{told}
use Rattle.meet_middle.proofs.remainder.Remainder.exponent_without.Goals as goal

pub overflow_sub-result : goal.overflow_sub-result
overflow_sub-result c =
    (told c.self.inside.narrow c.args.self.now c.self.inside.parities c.args.turns.now c.self.invariant c.self.view_is c.requires.turns c.args.letter.qubits c.args.letter.code c.code.result c.requires.same
    c.code.ensures.value c.code.ensures.below c.requires.other c.requires.circuit c.commuting-commuting.result.now c.commuting-commuting.ensures.value c.divisions-divisions.result c.divisions-divisions.ensures c.exponent.result c.exponent.ensures.value).fits

pub returns-clause-near : goal.returns-clause-near
returns-clause-near c =
    (told c.self.inside.narrow c.args.self.now c.self.inside.parities c.args.turns.now c.self.invariant c.self.view_is c.requires.turns c.args.letter.qubits c.args.letter.code c.code.result c.requires.same
    c.code.ensures.value c.code.ensures.below c.requires.other c.requires.circuit c.commuting-commuting.result.now c.commuting-commuting.ensures.value c.divisions-divisions.result c.divisions-divisions.ensures c.exponent.result c.exponent.ensures.value).near

pub returns-clause-least : goal.returns-clause-least
returns-clause-least c =
    (told c.self.inside.narrow c.args.self.now c.self.inside.parities c.args.turns.now c.self.invariant c.self.view_is c.requires.turns c.args.letter.qubits c.args.letter.code c.code.result c.requires.same
    c.code.ensures.value c.code.ensures.below c.requires.other c.requires.circuit c.commuting-commuting.result.now c.commuting-commuting.ensures.value c.divisions-divisions.result c.divisions-divisions.ensures c.exponent.result c.exponent.ensures.value).least
