use Rattle.channel_rep.proofs.Built.{same_table_trans}
use Rattle.level_laws.proofs.Follow.{off_circuit}
use Rattle.level_laws.proofs.Removed.{removed_step}
use Rattle.level_laws.proofs.laws.letters_come_off.Goals as goal

pub returns-clause-circuit : goal.returns-clause-circuit
returns-clause-circuit c = λ n some few m rest w word circuit same.
    let off = off_circuit n some few m w word circuit in
    (off.0, off.1, same_table_trans n rest _ _ same off.2)

pub returns-clause-step : goal.returns-clause-step
returns-clause-step c = removed_step
