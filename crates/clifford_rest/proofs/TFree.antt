-- Lemmas for the crates above: the channel of a circuit without T gates is a signed permutation.
use Rattle.std.proofs.Common.{◌≡◌, ℕ, suc, ◌-◌, ◌^◌, ◌<◌, ◌≤◌, List, [], ◌∷◌, refl, ap, sym, ◌∙◌, subst, inl, inr, arith}
use Rattle.std.specs.List.{AllByRecursion}
use Rattle.std.proofs.lemmas.Bool.{cases_eq}
use Rattle.ring_laws.specs.Ring.{power}
use Rattle.ring_laws.proofs.Ring.{power-zero, power-suc, one-mul}
use Rattle.tc_ring.specs.Surds.{Surd, surds, surd_times, root2_surd}
use Rattle.tc_ring.proofs.Surds.{surds_laws, surd_times_assoc, odd_is_no_multiple}
use Rattle.tc_circuit.specs.Model.{IsCircuit, t_count_of}
use Rattle.tc_circuit.specs.declared.circuit.Gate.{Gate}
use Rattle.tc_circuit.specs.declared.circuit.Gate.TheVariants.{H, S, Sdg, T, Tdg, Cx}
use Rattle.channel_rep.specs.declared.gate.ChannelGate.{ChannelGate}
use Rattle.channel_rep.specs.Cells.{ChannelGrid, table_of, scaled, IsReduced, IsSignedPermutation}
use Rattle.channel_rep.specs.Gates.{GateFits}
use Rattle.channel_rep.proofs.OneUnit.{same_unit}
use Rattle.channel_rep.specs.Tables.{ScaledTable, built, IsBuiltOf}
use Rattle.tc_bridge.specs.Block.{as_gates}
use Rattle.tc_bridge.specs.Steps.{steps_of}
use Rattle.tc_circuit.proofs.Counts.{t_count-cons}
use Rattle.tc_bridge.proofs.CliffordTables.{gates_exponent, row_unit, column_unit}

-- ---- a circuit without T gates has Clifford gates alone
pub record IsClifford (n : ℕ) (gates : List Gate) : Type 0 where
  pub clifford : List ChannelGate
  pub fits : AllByRecursion (GateFits n) clifford
  pub is : as_gates clifford ≡ gates

-- one gate more
more_clifford : (n : ℕ) (g : ChannelGate) (h : Gate) (gates : List Gate) → GateFits n g → as_gates (g ∷ []) ≡ h ∷ [] → IsClifford n gates → IsClifford n (h ∷ gates)
more_clifford n g h gates fits e c = record { clifford = g ∷ c.clifford; fits = (fits, c.fits); is = cc (c.is, e) }

-- gate by gate
pub clifford_of : (n : ℕ) (gates : List Gate) → IsCircuit n gates → t_count_of gates ≡ 0 → IsClifford n gates
clifford_of n [] fits none = record { clifford = []; fits = tt; is = refl }
clifford_of n (H q ∷ gates) fits none = more_clifford n (ChannelGate.H q) (H q) gates fits.0 refl (clifford_of n gates fits.1 (omega (arith, t_count-cons (H q) gates, none)))
clifford_of n (S q ∷ gates) fits none = more_clifford n (ChannelGate.S q) (S q) gates fits.0 refl (clifford_of n gates fits.1 (omega (arith, t_count-cons (S q) gates, none)))
clifford_of n (Sdg q ∷ gates) fits none = more_clifford n (ChannelGate.Sdg q) (Sdg q) gates fits.0 refl (clifford_of n gates fits.1 (omega (arith, t_count-cons (Sdg q) gates, none)))
clifford_of n (Cx c t ∷ gates) fits none = more_clifford n (ChannelGate.Cx c t) (Cx c t) gates fits.0 refl (clifford_of n gates fits.1 (omega (arith, t_count-cons (Cx c t) gates, none)))
clifford_of n (T q ∷ gates) fits none = absurd (omega (arith, t_count-cons (T q) gates, none))
clifford_of n (Tdg q ∷ gates) fits none = absurd (omega (arith, t_count-cons (Tdg q) gates, none))

-- ---- the least exponent of such a table is 0
odd_none : (n k : ℕ) (x y : Surd) → k ≡ suc n → x ≡ surd_times (power surds root2_surd k) y → surd_times root2_surd (surd_times (power surds root2_surd n) y) ≡ x
odd_none n k x y e h =
    sym (surd_times_assoc root2_surd (power surds root2_surd n) y) ∙ ap (λ (z : Surd). surd_times z y) (sym (power-suc surds_laws root2_surd n)) ∙ ap (λ (j : ℕ). surd_times (power surds root2_surd j) y) (sym e) ∙ sym h

module _ (c : ChannelGrid) (some : 0 < c.qubits) (few : c.qubits ≤ 3) (gates : List Gate) (circuit : IsCircuit c.qubits gates) (none : t_count_of gates ≡ 0)
    (same : IsBuiltOf c.qubits (steps_of gates) (scaled c)) (reduced : IsReduced c) where
  abbrev n : ℕ
  n = c.qubits

  -- the Clifford gates
  made_of : IsClifford n gates
  made_of = clifford_of n gates circuit none

  -- the table that they build
  abbrev clifford_table : ScaledTable
  clifford_table = built n (steps_of (as_gates made_of.clifford))

  -- which is divided by no root
  no_root : clifford_table.exponent ≡ 0
  no_root = gates_exponent n made_of.clifford (built n [])

  -- no power of √2 changes nothing
  one_times : (k : ℕ) (x : Surd) → k ≡ 0 → surd_times (power surds root2_surd k) x ≡ x
  one_times k x e = ap (λ (j : ℕ). surd_times (power surds root2_surd j) x) e ∙ ap (λ (y : Surd). surd_times y x) (power-zero surds_laws root2_surd) ∙ one-mul surds_laws x

  -- the channel's cells are those of the built table times a power of √2
  cells : (row column : ℕ) → row < 4 ^ n → column < 4 ^ n → table_of c row column ≡ surd_times (power surds root2_surd c.exponent) (clifford_table.table row column)
  cells row column lr lc =
      sym (one_times clifford_table.exponent (table_of c row column) no_root)
      ∙ subst (λ (g : List Gate). surd_times (power surds root2_surd (built n (steps_of g)).exponent) (table_of c row column) ≡ surd_times (power surds root2_surd c.exponent) ((built n (steps_of g)).table row column))
      (sym made_of.is) (same row column lr lc)

  -- with a power of √2 left, no whole part would be odd
  least : IsReduced c → c.exponent ≡ 0
  least (inl e) = e
  least (inr odd) = elim (cases_eq c.exponent 0) [
    | inl e ↦ e
    | inr d ↦
        let k = c.exponent - 1 in
        absurd (odd_is_no_multiple _ (table_of c odd.row odd.column) odd.odd (odd_none k c.exponent (table_of c odd.row odd.column) (clifford_table.table odd.row odd.column) (omega arith) (cells odd.row odd.column odd.row_below odd.column_below)))
  ]

  -- the exponent is 0
  exponent : c.exponent ≡ 0
  exponent = least reduced

  -- so the cells are those of the table
  equal : (row column : ℕ) → row < 4 ^ n → column < 4 ^ n → table_of c row column ≡ clifford_table.table row column
  equal row column lr lc = cells row column lr lc ∙ one_times c.exponent (clifford_table.table row column) exponent

  -- the channel is a signed permutation
  pub is_permutation : IsSignedPermutation c
  is_permutation = record {
    exponent = exponent;
    rows = λ row l. same_unit (4 ^ n) (λ column. clifford_table.table row column) (λ column. table_of c row column) (λ column h. equal row column l h) (row_unit n some few made_of.clifford made_of.fits row l);
    columns = λ column l. same_unit (4 ^ n) (λ row. clifford_table.table row column) (λ row. table_of c row column) (λ row h. equal row column h l) (column_unit n some few made_of.clifford made_of.fits column l);
  }
