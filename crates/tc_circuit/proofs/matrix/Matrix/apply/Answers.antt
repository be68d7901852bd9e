use Rattle.std.proofs.Common.{◌≡◌, ℕ, ◌^◌, arith, ap, sym, subst, List}
use Rattle.tc_ring.specs.Bounds.{IsWithin}
use Rattle.tc_ring.specs.declared.omega.Omega.{Omega}
use Rattle.tc_circuit.specs.Gate.{Fits, gate_exponent}
use Rattle.tc_circuit.specs.Grid.{Grid, entries}
use Rattle.tc_circuit.proofs.Bounds.{grid_written, grown_within, not_h}
use Rattle.tc_circuit.proofs.Built.{matrix_written}
use Rattle.tc_circuit.proofs.matrix.Matrix.apply.Goals as goal

pub change_cells-requires-clause-small : goal.change_cells-requires-clause-small
change_cells-requires-clause-small c = λ k l r l'.
    grown_within c.self.inside.k _ c.self.invariant.low
    (subst (λ (cells : List Omega). IsWithin (2 ^ c.self.inside.k) (entries c.self.inside.n cells r k)) (sym c.deref_mut.ensures.value) (c.self.invariant.small k l r l'))

pub invariant_of-self : goal.invariant_of-self
invariant_of-self c =
    let qubits = ap (λ (g : Grid). g.qubits) c.self.view_is in
    let exponent = ap (λ (g : Grid). g.exponent) c.self.view_is in
    let fits : Fits c.self.inside.n c.args.gate = subst (λ (n : ℕ). Fits n c.args.gate) (sym qubits) c.requires.fits in
    let one : gate_exponent c.args.gate ≡ 1 = ap gate_exponent c.in-H.is in
    grid_written c.self.inside.n c.self.inside.k _ _ c.args.gate _ c.deref_mut.result.now c.change_cells.new.cells c.self.invariant c.deref_mut.ensures.value c.deref_mut.ensures.len fits
    (omega (arith, one)) (omega (arith, one, exponent, c.requires.room)) c.change_cells.ensures.whole c.change_cells.ensures.product

pub invariant_of-self-in_default : goal.invariant_of-self-in_default
invariant_of-self-in_default c =
    let qubits = ap (λ (g : Grid). g.qubits) c.self.view_is in
    let fits : Fits c.self.inside.n c.args.gate = subst (λ (n : ℕ). Fits n c.args.gate) (sym qubits) c.requires.fits in
    let none : gate_exponent c.args.gate ≡ 0 = not_h c.args.gate c.in_default.not-H in
    grid_written c.self.inside.n c.self.inside.k _ _ c.args.gate _ c.deref_mut.result.now c.change_cells.new.cells c.self.invariant c.deref_mut.ensures.value c.deref_mut.ensures.len fits
    (omega (arith, none)) c.self.invariant.low c.change_cells.ensures.whole c.change_cells.ensures.product

pub returns-in-H-clause-built : goal.returns-in-H-clause-built
returns-in-H-clause-built c =
    let one : gate_exponent c.args.gate ≡ 1 = ap gate_exponent c.in-H.is in
    matrix_written c.self.inside.n c.self.inside.k _ _ c.args.gate _ c.deref_mut.result.now c.change_cells.new.cells _ c.self.view_is c.self.invariant c.deref_mut.ensures.value c.deref_mut.ensures.len
    (omega (arith, one)) c.change_cells.ensures.whole c.change_cells.ensures.product

pub returns-in_default-clause-built : goal.returns-in_default-clause-built
returns-in_default-clause-built c =
    let none : gate_exponent c.args.gate ≡ 0 = not_h c.args.gate c.in_default.not-H in
    matrix_written c.self.inside.n c.self.inside.k _ _ c.args.gate _ c.deref_mut.result.now c.change_cells.new.cells _ c.self.view_is c.self.invariant c.deref_mut.ensures.value c.deref_mut.ensures.len
    (omega (arith, none)) c.change_cells.ensures.whole c.change_cells.ensures.product
