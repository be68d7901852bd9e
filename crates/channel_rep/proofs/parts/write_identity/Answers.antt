use Rattle.std.proofs.Common.{◌+◌, ◌*◌, ap, ◌∙◌, inl, inr, arith}
use Rattle.std.specs.Prelude.{pos}
use Rattle.std.proofs.lemmas.Bool.{cases_eq}
use Rattle.std.proofs.lemmas.List.{get_or-replicate, get_or-set_other}
use Rattle.std.proofs.lemmas.Grind.{get_or-set_at}
use Rattle.channel_rep.specs.Lanes.{number}
use Rattle.channel_rep.proofs.Squares.{place-lt}
use Rattle.channel_rep.proofs.TwoLists.{identity_parts, off_diagonal, on_diagonal}
use Rattle.channel_rep.proofs.parts.write_identity.Goals as goal

pub loop-row-init : goal.loop-row-init
loop-row-init c = record {
  ones = λ r l. absurd (omega arith);
  zeros = λ r k l m d.
      ap (λ xs. number xs (r * c.args.size + k)) (c.fill.ensures.after (λ y h. h))
      ∙ get_or-replicate _ (r * c.args.size + k) (pos 0) (pos 0) (let inside = place-lt c.args.size r k l m in omega (arith, inside));
}

pub loop-row-preserved : goal.loop-row-preserved
loop-row-preserved c =
    let size = c.args.size in
    let row = c.loop-row.row in
    let inside = place-lt size row row c.loop-row-test.true c.loop-row-test.true in
    record {
      ones = λ r l.
          elim (cases_eq r row) [
            | inl e ↦ get_or-set_at c.loop-row.a (row * size + row) (r * size + r) (pos 1) (pos 0) (ap (λ k. k * size + k) e) (omega (arith, inside))
            | inr d ↦ get_or-set_other c.loop-row.a (row * size + row) (r * size + r) (pos 1) (pos 0) (on_diagonal size r row (omega arith) c.loop-row-test.true d) ∙ c.loop-row.invariant.ones r (omega arith)
          ];
      zeros = λ r k l m d.
          get_or-set_other c.loop-row.a (row * size + row) (r * size + k) (pos 1) (pos 0) (off_diagonal size r k row m c.loop-row-test.true d) ∙ c.loop-row.invariant.zeros r k l m d;
    }

pub returns : goal.returns
returns c =
    identity_parts c.args.size c.loop-row.a c.fill-2.new.self (omega arith) (omega arith) (λ r l. c.loop-row.invariant.ones r (omega arith)) c.loop-row.invariant.zeros
    (λ k l. ap (λ xs. number xs k) (c.fill-2.ensures.after (λ y h. h)) ∙ get_or-replicate _ k (pos 0) (pos 0) (omega arith))
