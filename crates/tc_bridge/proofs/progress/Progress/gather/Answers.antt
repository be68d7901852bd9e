use Rattle.std.proofs.Common.{[], ◌∷◌, ◌++◌}
use Rattle.tc_bridge.proofs.Taken.{gathered}
use Rattle.tc_bridge.proofs.progress.Progress.gather.Goals as goal

pub returns-clause-taken : goal.returns-clause-taken
returns-clause-taken c = λ steps h. record {
  settled = h.settled;
  gates = h.gates ++ c.args.gate ∷ [];
  all = gathered steps h.settled h.gates c.args.gate h.all;
  built = h.built;
  by = c.then.ensures.by h.gates h.by;
}
