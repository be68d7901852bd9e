use Rattle.channel_rep.specs.Cells.{scaled}
use Rattle.meet_middle.proofs.Resting.{finds_named}
use Rattle.meet_middle.proofs.rests.find_rest.Goals as goal

pub returns-clause-finds : goal.returns-clause-finds
returns-clause-finds c =
    let m = c.args.rest.now in
    finds_named c.args.level.now m.qubits c.args.half c.requires.number c.label_narrow.new.s.label c.find.result c.find.ensures.finds (scaled m) c.requires.circuit c.label_narrow.ensures.label
