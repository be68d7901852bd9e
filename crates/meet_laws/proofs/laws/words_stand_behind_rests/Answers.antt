use Rattle.meet_laws.proofs.LeastCounts.{word_behind_rest, rest_permutation, rest_grid, least_circuit}
use Rattle.meet_laws.proofs.laws.words_stand_behind_rests.Goals as goal

pub returns-clause-same : goal.returns-clause-same
returns-clause-same a = word_behind_rest

pub returns-clause-permutation : goal.returns-clause-permutation
returns-clause-permutation a = rest_permutation

pub returns-clause-grid : goal.returns-clause-grid
returns-clause-grid a = rest_grid

pub returns-clause-least : goal.returns-clause-least
returns-clause-least a = least_circuit
