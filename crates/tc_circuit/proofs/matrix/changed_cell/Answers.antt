use Rattle.std.proofs.Common.{◌≡◌, ◌∙◌, sym, ap, subst, ℕ, ◌<◌, ◌^◌}
use Rattle.ring_laws.specs.Cyclotomic.{Zω, cyclotomics}
use Rattle.tc_ring.specs.Bounds.{IsWithin}
use Rattle.tc_circuit.specs.Gate.{Table, gate_table, Fits}
use Rattle.ring_laws.specs.Matrix.{product}
use Rattle.tc_circuit.specs.Grid.{entries}
use Rattle.tc_circuit.specs.declared.circuit.Gate.{Gate}
use Rattle.tc_circuit.specs.declared.circuit.Gate.TheVariants.{H, Cx}
use Rattle.tc_circuit.proofs.Flips.{flip_below, state_small}
use Rattle.tc_circuit.proofs.Gates.{diagonal_product, cx_product, crossed_below}
use Rattle.tc_circuit.proofs.Cells.{h_set, h_unset}
use Rattle.tc_circuit.proofs.matrix.changed_cell.Goals as goal

h_fits : (n q : ℕ) (gate : Gate) → gate ≡ H q → Fits n gate → q < n
h_fits n q gate e f = subst (Fits n) e f

at_gate : (size : ℕ) (gate gate' : Gate) (m : Table) (r c : ℕ) (x : Zω) → gate ≡ gate' → x ≡ product cyclotomics size (gate_table gate') m r c → x ≡ product cyclotomics size (gate_table gate) m r c
at_gate size gate gate' m r c x e h = subst (λ (g : Gate). x ≡ product cyclotomics size (gate_table g) m r c) (sym e) h

within_at : (b : ℕ) (x y : Zω) → x ≡ y → IsWithin b y → IsWithin b x
within_at b x y e h = subst (IsWithin b) (sym e) h

pub flip-requires-clause-small : goal.flip-requires-clause-small
flip-requires-clause-small c = state_small c.args.n c.args.row c.requires.few c.requires.row

below : (n x y : ℕ) → x ≡ y → y < 2 ^ n → x < 2 ^ n
below n x y e h = subst (λ (z : ℕ). z < 2 ^ n) (sym e) h

pub cell_at-there-requires-clause-row : goal.cell_at-there-requires-clause-row
cell_at-there-requires-clause-row c =
    below c.args.n _ _ c.flip.ensures (flip_below c.args.n c.in-H.q c.args.row c.requires.few (h_fits _ _ _ c.in-H.is c.requires.fits) c.requires.row)

pub sub-requires-clause-left : goal.sub-requires-clause-left
sub-requires-clause-left c =
    within_at _ _ _ c.cell_at-there.ensures (c.requires.small c.flip.result (below c.args.n _ _ c.flip.ensures (flip_below c.args.n c.in-H.q c.args.row c.requires.few (h_fits _ _ _ c.in-H.is c.requires.fits) c.requires.row)))

pub add-requires-clause-left : goal.add-requires-clause-left
add-requires-clause-left c =
    within_at _ _ _ c.cell_at-there.ensures (c.requires.small c.flip.result (below c.args.n _ _ c.flip.ensures (flip_below c.args.n c.in-H.q c.args.row c.requires.few (h_fits _ _ _ c.in-H.is c.requires.fits) c.requires.row)))

pub cross-requires-clause-small : goal.cross-requires-clause-small
cross-requires-clause-small c = state_small c.args.n c.args.row c.requires.few c.requires.row

cx_fits : (n a b : ℕ) (gate : Gate) → gate ≡ Cx a b → Fits n gate → Fits n (Cx a b)
cx_fits n a b gate e f = subst (Fits n) e f

pub cell_at-requires-clause-row : goal.cell_at-requires-clause-row
cell_at-requires-clause-row c =
    let fits = cx_fits _ _ _ _ c.in-Cx.is c.requires.fits in
    below c.args.n _ _ c.cross.ensures (crossed_below c.args.n c.in-Cx.control c.in-Cx.target c.args.row c.requires.few fits.1 c.requires.row)

pub returns-then-is_set : goal.returns-then-is_set
returns-then-is_set c =
    at_gate _ _ _ _ _ _ _ c.in-H.is (c.sub.ensures.value ∙ h_set c.args.n c.in-H.q (entries c.args.n c.args.cells.now) c.args.row c.args.col _ _ c.requires.few
    (h_fits _ _ _ c.in-H.is c.requires.fits) c.requires.row (sym c.is_set.ensures ∙ c.if-is_set.true) c.cell_at-here.ensures
    (c.cell_at-there.ensures ∙ ap (λ x. entries c.args.n c.args.cells.now x c.args.col) c.flip.ensures))

pub returns-else-is_set : goal.returns-else-is_set
returns-else-is_set c =
    at_gate _ _ _ _ _ _ _ c.in-H.is (c.add.ensures.value ∙ h_unset c.args.n c.in-H.q (entries c.args.n c.args.cells.now) c.args.row c.args.col _ _ c.requires.few
    (h_fits _ _ _ c.in-H.is c.requires.fits) c.requires.row (sym c.is_set.ensures ∙ c.if-is_set.false) c.cell_at-here.ensures
    (c.cell_at-there.ensures ∙ ap (λ x. entries c.args.n c.args.cells.now x c.args.col) c.flip.ensures))

pub returns-in-S : goal.returns-in-S
returns-in-S c = at_gate _ _ _ _ _ _ _ c.in-S.is (c.turn_cell.ensures ∙ sym (diagonal_product _ c.in-S.q 2 _ c.args.row c.args.col c.requires.row))

pub returns-in-Sdg : goal.returns-in-Sdg
returns-in-Sdg c = at_gate _ _ _ _ _ _ _ c.in-Sdg.is (c.turn_cell-in-Sdg.ensures ∙ sym (diagonal_product _ c.in-Sdg.q 6 _ c.args.row c.args.col c.requires.row))

pub returns-in-T : goal.returns-in-T
returns-in-T c = at_gate _ _ _ _ _ _ _ c.in-T.is (c.turn_cell-in-T.ensures ∙ sym (diagonal_product _ c.in-T.q 1 _ c.args.row c.args.col c.requires.row))

pub returns-in-Tdg : goal.returns-in-Tdg
returns-in-Tdg c = at_gate _ _ _ _ _ _ _ c.in-Tdg.is (c.turn_cell-in-Tdg.ensures ∙ sym (diagonal_product _ c.in-Tdg.q 7 _ c.args.row c.args.col c.requires.row))

pub returns-in-Cx : goal.returns-in-Cx
returns-in-Cx c =
    let fits = cx_fits _ _ _ _ c.in-Cx.is c.requires.fits in
    at_gate _ _ _ _ _ _ _ c.in-Cx.is (c.cell_at.ensures ∙ ap (λ x. entries c.args.n c.args.cells.now x c.args.col) c.cross.ensures
    ∙ sym (cx_product c.args.n c.in-Cx.control c.in-Cx.target _ c.args.row c.args.col c.requires.few fits.0 fits.1 fits.2 c.requires.row))
