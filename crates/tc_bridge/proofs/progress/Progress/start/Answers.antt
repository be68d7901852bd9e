use Rattle.std.proofs.Common.{ℕ, [], refl, sym, subst}
use Rattle.channel_rep.specs.Cells.{scaled}
use Rattle.channel_rep.specs.Tables.{IsBuiltOf}
use Rattle.tc_bridge.proofs.progress.Progress.start.Goals as goal

pub returns-clause-taken : goal.returns-clause-taken
returns-clause-taken c = record {
  settled = [];
  gates = [];
  all = refl;
  built = subst (λ (n : ℕ). IsBuiltOf n [] (scaled c.in_ok-channel.channel)) (sym c.in_ok-channel.ensures.qubits) c.in_ok-channel.ensures.built;
  by = c.identity-3.ensures.by;
}
