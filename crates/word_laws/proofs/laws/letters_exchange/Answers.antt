use Rattle.word_laws.proofs.Exchanges.{rotations_exchange, cosets_exchange}
use Rattle.word_laws.proofs.laws.letters_exchange.Goals as goal

pub returns-clause-rotations : goal.returns-clause-rotations
returns-clause-rotations a = rotations_exchange

pub returns-clause-words : goal.returns-clause-words
returns-clause-words a = cosets_exchange
