use Rattle.std.proofs.Common.{◌≡◌, ◌==◌, ◌&&◌, true, map, All}
use Rattle.channel_rep.specs.Cells.{scaled}
use Rattle.meet_middle.specs.Kept.{keeps}
use Rattle.meet_middle.proofs.search.seekers.Given as goal

abbrev pub invariant-loop-seat : goal.invariant-loop-seat
invariant-loop-seat g l = record {
  seats : map (λ s. s.seat) l.all.items ≡ l.yielded;
  fit : All (λ s. (s.local.trail.word.qubits == g.row.N && s.local.label.qubits == g.row.N && s.local.other.qubits == g.row.N) ≡ true) l.all.items;
  keeps : All (λ s. keeps g.row.N (scaled l.target) s.local.trail ≡ true) l.all.items;
}
