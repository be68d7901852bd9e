use Rattle.std.proofs.Common.{◌≡◌, ◌^◌, ◌<◌, length, take, slice_index, ap, sym, ◌∙◌, subst, arith, rules, SFits}
use Rattle.std.specs.Int.{w16}
use Rattle.std.proofs.lemmas.Int.{to_z-of_z}
use Rattle.std.proofs.lemmas.List.{take_all}
use Rattle.tc_ring.specs.Surds.{Surd}
use Rattle.channel_rep.specs.Cells.{table_of}
use Rattle.word_laws.specs.Parities.{parity}
use Rattle.quick_label.specs.ParityWords.{HasBitsAt}
use Rattle.quick_label.proofs.ParityBits.{no_bits, bits_more}
use Rattle.quick_label.proofs.parities.block_parities.Goals as goal

pub with_parity-wholes-requires : goal.with_parity-wholes-requires
with_parity-wholes-requires c = let low = c.requires.columns c.loop-k.k (omega arith) in omega (arith, c.requires.few)

pub with_parity-parts-requires : goal.with_parity-parts-requires
with_parity-parts-requires c = let low = c.requires.columns c.loop-k.k (omega arith) in omega (arith, c.requires.few)

pub loop-k-preserved : goal.loop-k-preserved
loop-k-preserved c =
    let m = c.args.channel.now in
    let row = c.args.row in
    let before = c.loop-k.invariant in
    let low = c.requires.columns c.loop-k.k (omega arith) in
    let whole = c.with_parity-wholes in
    let part = c.with_parity-parts in
    let cell = c.cell-whole.ensures.value in
    let whole_fits : SFits w16 c.cell-whole.result.0 = search rules in
    let part_fits : SFits w16 c.cell-whole.result.1 = search rules in
    let whole_is = to_z-of_z w16 c.cell-whole.result.0 whole_fits in
    let part_is = to_z-of_z w16 c.cell-whole.result.1 part_fits in
    record {
      whole_below = whole.ensures.below (4 ^ m.qubits) low before.whole_below;
      part_below = part.ensures.below (4 ^ m.qubits) low before.part_below;
      wholes = bits_more c.args.columns.now (λ k. parity (table_of m row k).a) c.loop-k.k c.loop-k.wholes whole.result _ (omega arith) before.wholes
          (ap parity whole_is ∙ ap (λ (s : Surd). parity s.a) cell) whole.ensures.kept whole.ensures.fresh whole.ensures.again;
      parts = bits_more c.args.columns.now (λ k. parity (table_of m row k).b) c.loop-k.k c.loop-k.parts part.result _ (omega arith) before.parts
          (ap parity part_is ∙ ap (λ (s : Surd). parity s.b) cell) part.ensures.kept part.ensures.fresh part.ensures.again;
    }

pub returns-clause-wholes : goal.returns-clause-wholes
returns-clause-wholes c =
    subst (λ xs. HasBitsAt xs (λ k. parity (table_of c.args.channel.now c.args.row k).a) c.loop-k.wholes) (take_all c.loop-k.k c.args.columns.now (omega arith)) c.loop-k.invariant.wholes

pub returns-clause-parts : goal.returns-clause-parts
returns-clause-parts c =
    subst (λ xs. HasBitsAt xs (λ k. parity (table_of c.args.channel.now c.args.row k).b) c.loop-k.parts) (take_all c.loop-k.k c.args.columns.now (omega arith)) c.loop-k.invariant.parts
