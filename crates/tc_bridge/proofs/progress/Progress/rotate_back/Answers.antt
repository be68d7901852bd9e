use Rattle.std.proofs.Common.{[], ◌∷◌, ◌++◌, ap, sym}
use Rattle.std.proofs.lemmas.List.{append-nil}
use Rattle.channel_rep.specs.Cells.{scaled}
use Rattle.channel_rep.specs.Tables.{by_inverse_rotation}
use Rattle.tc_bridge.specs.Steps.{z_on}
use Rattle.tc_bridge.proofs.Taken.{step_built}
use Rattle.tc_bridge.proofs.progress.Progress.rotate_back.Goals as goal

pub returns-clause-taken : goal.returns-clause-taken
returns-clause-taken c = λ steps h.
    let more = steps ++ by_inverse_rotation (z_on c.args.q) ∷ [] in
    record {
      settled = more;
      gates = [];
      all = sym (append-nil more);
      built = step_built _ _ _ (scaled c.settle.new.self.channel) (scaled c.left_rotation_inverse.new.self) steps _ (by_inverse_rotation (z_on c.args.q)) c.settle.ensures.qubits c.left_rotation_inverse.ensures.qubits
          (ap by_inverse_rotation c.z_on.ensures.code) (c.settle.ensures.built steps h) c.left_rotation_inverse.ensures.built;
      by = c.settle.ensures.pending;
    }
