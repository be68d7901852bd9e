use Rattle.word_laws.proofs.Exponents.{exponent_steps, exponent_by_divisions}
use Rattle.word_laws.proofs.Norms.{divisions_below}
use Rattle.word_laws.proofs.laws.divisions_tell_exponents.Goals as goal

pub returns-clause-step : goal.returns-clause-step
returns-clause-step c = exponent_steps

pub returns-clause-exponent : goal.returns-clause-exponent
returns-clause-exponent c = exponent_by_divisions

pub returns-clause-below : goal.returns-clause-below
returns-clause-below c = divisions_below
