use Rattle.std.proofs.Common.{◌≡◌, ◌<◌, ℕ}
use Rattle.ring_laws.specs.Matrix.{identity}
use Rattle.tc_ring.specs.Surds.{surds}
use Rattle.channel_rep.specs.Cells.{entries}
use Rattle.channel_rep.proofs.channel.write_identity.Given as goal

abbrev pub invariant-loop-row : goal.invariant-loop-row
invariant-loop-row l = (r c : ℕ) → r < l.row → c < l.size → entries l.size l.cells r c ≡ identity surds r c
