use Rattle.std.proofs.Common.{◌^◌}
use Rattle.channel_rep.proofs.Norms.{circuit_columns, circuit_rows, norm_of_orthogonal, norm_within}
use Rattle.channel_rep.proofs.laws.channels_are_orthogonal.Goals as goal

pub returns-clause-norm : goal.returns-clause-norm
returns-clause-norm c = λ n some few m circuit. norm_of_orthogonal (4 ^ n) m.exponent m.table (circuit_columns n some few m circuit)

pub returns-clause-bound : goal.returns-clause-bound
returns-clause-bound c = norm_within

pub returns-clause-columns : goal.returns-clause-columns
returns-clause-columns c = circuit_columns

pub returns-clause-rows : goal.returns-clause-rows
returns-clause-rows c = circuit_rows
