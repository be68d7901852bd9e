use Rattle.std.proofs.Common.{◌≡◌, ℕ, ◌^◌, ◌<◌, arith, sym, ◌∙◌, inl, inr, subst}
use Rattle.std.proofs.lemmas.Bool.{cases_eq}
use Rattle.ring_laws.specs.Matrix.{product}
use Rattle.ring_laws.specs.Cyclotomic.{cyclotomics}
use Rattle.tc_circuit.specs.Gate.{gate_table}
use Rattle.tc_circuit.specs.Grid.{entries}
use Rattle.tc_circuit.proofs.Cells.{product_column}
use Rattle.tc_circuit.proofs.matrix.change_cells.Goals as goal

pub loop-col-preserved : goal.loop-col-preserved
loop-col-preserved c =
    let here : c.loop-col.col < 2 ^ c.args.n = omega arith in
    record {
      done = λ r k l b.
          elim (cases_eq k c.loop-col.col) [
            | inl e ↦ subst (λ (k : ℕ). entries c.args.n c.write_column.new.cells r k ≡ product cyclotomics (2 ^ c.args.n) (gate_table c.args.gate) (entries c.args.n c.args.cells.now) r k) (sym e)
                (c.write_column.ensures.column r l ∙ c.changed_column-column.ensures r l
                ∙ product_column (2 ^ c.args.n) (gate_table c.args.gate) (entries c.args.n c.loop-col.cells) (entries c.args.n c.args.cells.now) r c.loop-col.col (λ m lm. c.loop-col.invariant.rest m c.loop-col.col lm here (omega arith)))
            | inr d ↦ c.write_column.ensures.others r k l (omega arith) d ∙ c.loop-col.invariant.done r k l (omega arith)
          ];
      rest = λ r k l lk b. c.write_column.ensures.others r k l lk (omega arith) ∙ c.loop-col.invariant.rest r k l lk (omega arith);
    }
