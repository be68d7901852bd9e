use Rattle.std.proofs.Common.{subst}
use Rattle.tc_circuit.specs.Model.{IsLeastTCount}
use Rattle.channel_rep.specs.Tables.{built}
use Rattle.channel_rep.proofs.Built.{same_table_refl}
use Rattle.tc_bridge.specs.Steps.{steps_of}
use Rattle.meet_laws.proofs.LeastCounts.{word_of_count, count_of_word, count_exists, above_count, none_of_counts}
use Rattle.meet_laws.proofs.laws.least_counts_are_lengths.Goals as goal

pub returns-clause-exists : goal.returns-clause-exists
returns-clause-exists a = λ n some few c fits. count_exists n some few c fits (built n (steps_of c)) (same_table_refl n (built n (steps_of c)))

pub returns-clause-lengths : goal.returns-clause-lengths
returns-clause-lengths a = λ n some few c fits m is t. (word_of_count n some few c fits m is t, λ h. subst (IsLeastTCount n c) h.2 (count_of_word n some few c fits m is h.0 h.1))

pub returns-clause-above : goal.returns-clause-above
returns-clause-above a = λ n some few c fits m is t. (above_count n some few c fits m is t, none_of_counts n some few c fits m is t)
