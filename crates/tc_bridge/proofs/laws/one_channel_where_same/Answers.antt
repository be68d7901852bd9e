use Rattle.tc_circuit.specs.Model.{matrix_of}
use Rattle.tc_bridge.proofs.Unitary.{unitary_circuit}
use Rattle.tc_bridge.proofs.OneChannel.{same_up_to, same_channel}
use Rattle.tc_bridge.proofs.laws.one_channel_where_same.Goals as goal

pub returns : goal.returns
returns c = λ n some few a b fa fb x y hx hy. (
  λ same. same_up_to n (matrix_of n a).table (matrix_of n b).table (matrix_of n a).exponent (matrix_of n b).exponent x y (unitary_circuit n some few a fa) (unitary_circuit n some few b fb) hx hy same,
  λ same. same_channel n (matrix_of n a).table (matrix_of n b).table (matrix_of n a).exponent (matrix_of n b).exponent same.0 x y (unitary_circuit n some few a fa) hx hy same.2,
)
