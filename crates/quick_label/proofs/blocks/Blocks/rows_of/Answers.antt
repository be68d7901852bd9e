use Rattle.std.proofs.Common.{◌≡◌, ◌+◌, ◌*◌, ◌<◌, ◌≤◌, length, slice_index, slice_range, refl, ap, ◌∙◌, arith}
use Rattle.quick_label.specs.Rooms.{HeldBlocks}
use Rattle.quick_label.proofs.WeightRows.{read_is}
use Rattle.quick_label.proofs.BlockRows.{block_fits}
use Rattle.quick_label.proofs.blocks.Blocks.rows_of.Goals as goal

pub slice_bounds-result-end : goal.slice_bounds-result-end
slice_bounds-result-end c =
    let size : c.self.inside.size ≡ c.args.self.now.size = ap (λ (b : HeldBlocks). b.size) c.self.view_is in
    let column : c.args.column < c.self.inside.size = omega arith in
    let home : c.index.result.now ≡ slice_index c.self.inside.homes.items c.args.column = read_is _ c.self.inside.homes.items c.args.column _ refl (omega (arith, c.self.invariant.homes)) c.index.ensures in
    let low : c.index.result.now < c.self.inside.size = omega (arith, c.self.invariant.homes_below c.args.column column) in
    let count : c.index-2.result.now ≡ slice_index c.self.inside.counts.items c.index.result.now = read_is _ c.self.inside.counts.items c.index.result.now _ refl (omega (arith, c.self.invariant.counts)) c.index-2.ensures in
    let few : c.index-2.result.now ≤ c.self.inside.size = omega (arith, c.self.invariant.counts_few c.index.result.now low) in
    omega (arith, block_fits c.self.inside.size c.index.result.now c.index-2.result.now low few, ap length c.deref.ensures.value, c.self.invariant.rows)

pub returns : goal.returns
returns c span are =
    let size = ap (λ (b : HeldBlocks). b.size) c.self.view_is in
    let homes = ap (λ (b : HeldBlocks). b.homes) c.self.view_is in
    let counts = ap (λ (b : HeldBlocks). b.counts) c.self.view_is in
    let column : c.args.column < c.self.inside.size = omega (arith, size) in
    let home : c.index.result.now ≡ slice_index c.args.self.now.homes c.args.column = read_is _ _ c.args.column _ homes (omega (arith, c.self.invariant.homes, ap length homes, size)) c.index.ensures in
    let home_in : c.index.result.now ≡ slice_index c.self.inside.homes.items c.args.column = read_is _ c.self.inside.homes.items c.args.column _ refl (omega (arith, c.self.invariant.homes)) c.index.ensures in
    let low : c.index.result.now < c.self.inside.size = omega (arith, c.self.invariant.homes_below c.args.column column) in
    let count : c.index-2.result.now ≡ slice_index c.args.self.now.counts (slice_index c.args.self.now.homes c.args.column) =
    read_is _ _ c.index.result.now _ counts (omega (arith, c.self.invariant.counts, ap length counts)) c.index-2.ensures ∙ ap (slice_index c.args.self.now.counts) home in
    (λ i. slice_range ((c.deref.ensures.value ∙ ap (λ (b : HeldBlocks). b.rows) c.self.view_is) i) (home i * size i) (home i * size i + count i)) ∙ are.rows c.args.column c.requires
