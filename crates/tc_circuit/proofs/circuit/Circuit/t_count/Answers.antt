use Rattle.std.proofs.Common.{length, ap, arith}
use Rattle.std.proofs.lemmas.List.Sums.{count_by-le-length}
use Rattle.tc_circuit.specs.Circuit.{Gates}
use Rattle.tc_circuit.specs.Gate.{is_t}
use Rattle.tc_circuit.specs.Model.{t_count_of}
use Rattle.tc_circuit.proofs.circuit.Circuit.t_count.Goals as goal

pub overflow_cast-result : goal.overflow_cast-result
overflow_cast-result c =
    omega (
      arith,
      c.t_count.ensures,
      c.requires,
      ap t_count_of c.deref.ensures.value,
      ap (λ (g : Gates). length g.gates) c.self.view_is,
      count_by-le-length is_t c.self.inside.gates.items,
    )
