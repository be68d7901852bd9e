use Rattle.std.proofs.Common.{◌≡◌, ◌^◌, ◌<◌, take}
use Rattle.channel_rep.specs.Conjugations.{conjugated_by}
use Rattle.clifford_rest.proofs.pauli.conjugate_by.Given as goal

abbrev pub invariant-loop-gate : goal.invariant-loop-gate
invariant-loop-gate l = (l.image.code < 4 ^ l.n) × (l.image ≡ conjugated_by l.n (take l.gate-index l.gates) l.fn.p)
