use Rattle.std.proofs.Common.{[], ◌∷◌, ◌++◌, ap, sym}
use Rattle.std.proofs.lemmas.List.{append-nil}
use Rattle.channel_rep.specs.Cells.{scaled}
use Rattle.channel_rep.specs.Tables.{by_rotation}
use Rattle.tc_bridge.specs.Steps.{z_on}
use Rattle.tc_bridge.proofs.Taken.{step_built}
use Rattle.tc_bridge.proofs.progress.Progress.rotate.Goals as goal

pub returns-clause-taken : goal.returns-clause-taken
returns-clause-taken c = λ steps h.
    let more = steps ++ by_rotation (z_on c.args.q) ∷ [] in
    record {
      settled = more;
      gates = [];
      all = sym (append-nil more);
      built = step_built _ _ _ (scaled c.settle.new.self.channel) (scaled c.left_rotation.new.self) steps _ (by_rotation (z_on c.args.q)) c.settle.ensures.qubits c.left_rotation.ensures.qubits
          (ap by_rotation c.z_on.ensures.code) (c.settle.ensures.built steps h) c.left_rotation.ensures.built;
      by = c.settle.ensures.pending;
    }
