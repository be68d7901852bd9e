use Rattle.std.proofs.Common.{◌≡◌, ℕ, ◌*◌, ◌<◌, ◌≤◌, List, length, slice_index, ap, ◌∙◌, subst, arith}
use Rattle.quick_label.specs.Rooms.{HeldBlocks, IsBlockRoom, AreBlocks, HasSmallBlocks}
use Rattle.quick_label.proofs.WeightRows.{given_back}
use Rattle.quick_label.proofs.BlockRows.{full_room, homes_known, rows_known, all_given_back, blocks_held, small_held}
use Rattle.quick_label.proofs.blocks.Blocks.take.Goals as goal

pub invariant_of-self : goal.invariant_of-self
invariant_of-self c =
    let homes : length c.find_homes.new.homes ≡ c.self.inside.size = omega (arith, c.find_homes.auto.homes, ap length c.deref_mut.ensures.value, c.self.invariant.homes) in
    let homes_len : length c.find_homes.new.homes ≡ c.self.inside.homes.len = omega (arith, c.find_homes.auto.homes, c.deref_mut.ensures.len) in
    let rows : length c.place_rows.new.rows ≡ c.self.inside.size * c.self.inside.size = omega (arith, c.place_rows.auto.rows, ap length c.deref_mut-2.ensures.value, c.self.invariant.rows) in
    let counts : length c.place_rows.new.counts ≡ c.self.inside.size = omega (arith, c.place_rows.auto.counts, ap length c.deref_mut-3.ensures.value, c.self.invariant.counts) in
    let behind : length c.place_rows.new.behind ≡ c.self.inside.size = omega (arith, c.place_rows.auto.behind, ap length c.deref_mut-4.ensures.value, c.self.invariant.behind) in
    let found = homes_known c.self.inside.size c.args.span.now c.deref_mut.result.now c.find_homes.new.homes (ap length c.deref_mut.ensures.value ∙ c.self.invariant.homes) c.find_homes.ensures in
    let placed = rows_known c.self.inside.size _ c.find_homes.new.homes _ _ _ (c.deref.ensures.value ∙ given_back c.self.inside.homes.len c.self.inside.homes.items c.find_homes.new.homes homes_len) homes c.place_rows.ensures in
    all_given_back (λ h r k b. IsBlockRoom (record { size = c.self.inside.size; homes = h; rows = r; counts = k; behind = b })) c.find_homes.new.homes c.place_rows.new.rows c.place_rows.new.counts c.place_rows.new.behind
    _ _ _ _ _ _ _ _ homes_len (omega (arith, c.place_rows.auto.rows, c.deref_mut-2.ensures.len)) (omega (arith, c.place_rows.auto.counts, c.deref_mut-3.ensures.len)) (omega (arith, c.place_rows.auto.behind, c.deref_mut-4.ensures.len))
    (full_room c.self.inside.size c.args.span.now c.find_homes.new.homes c.place_rows.new.rows c.place_rows.new.counts c.place_rows.new.behind c.self.invariant.few c.self.invariant.closed homes rows counts behind found placed)

pub returns-clause-blocks : goal.returns-clause-blocks
returns-clause-blocks c =
    let homes : length c.find_homes.new.homes ≡ c.self.inside.size = omega (arith, c.find_homes.auto.homes, ap length c.deref_mut.ensures.value, c.self.invariant.homes) in
    let homes_len : length c.find_homes.new.homes ≡ c.self.inside.homes.len = omega (arith, c.find_homes.auto.homes, c.deref_mut.ensures.len) in
    let rows : length c.place_rows.new.rows ≡ c.self.inside.size * c.self.inside.size = omega (arith, c.place_rows.auto.rows, ap length c.deref_mut-2.ensures.value, c.self.invariant.rows) in
    let found = homes_known c.self.inside.size c.args.span.now c.deref_mut.result.now c.find_homes.new.homes (ap length c.deref_mut.ensures.value ∙ c.self.invariant.homes) c.find_homes.ensures in
    let placed = rows_known c.self.inside.size _ c.find_homes.new.homes _ _ _ (c.deref.ensures.value ∙ given_back c.self.inside.homes.len c.self.inside.homes.items c.find_homes.new.homes homes_len) homes c.place_rows.ensures in
    all_given_back (λ h r k b. AreBlocks c.args.self.now.size c.args.span.now (record { size = c.self.inside.size; homes = h; rows = r; counts = k; behind = b })) c.find_homes.new.homes c.place_rows.new.rows c.place_rows.new.counts c.place_rows.new.behind
    _ _ _ _ _ _ _ _ homes_len (omega (arith, c.place_rows.auto.rows, c.deref_mut-2.ensures.len)) (omega (arith, c.place_rows.auto.counts, c.deref_mut-3.ensures.len)) (omega (arith, c.place_rows.auto.behind, c.deref_mut-4.ensures.len))
    (subst (λ (n : ℕ). AreBlocks n c.args.span.now (record { size = c.self.inside.size; homes = c.find_homes.new.homes; rows = c.place_rows.new.rows; counts = c.place_rows.new.counts; behind = c.place_rows.new.behind })) (ap (λ (b : HeldBlocks). b.size) c.self.view_is)
    (blocks_held c.self.inside.size c.args.span.now c.find_homes.new.homes c.place_rows.new.rows c.place_rows.new.counts c.place_rows.new.behind rows found placed))

pub returns-clause-small : goal.returns-clause-small
returns-clause-small c is =
    let homes : length c.find_homes.new.homes ≡ c.self.inside.size = omega (arith, c.find_homes.auto.homes, ap length c.deref_mut.ensures.value, c.self.invariant.homes) in
    let homes_len : length c.find_homes.new.homes ≡ c.self.inside.homes.len = omega (arith, c.find_homes.auto.homes, c.deref_mut.ensures.len) in
    let rows : length c.place_rows.new.rows ≡ c.self.inside.size * c.self.inside.size = omega (arith, c.place_rows.auto.rows, ap length c.deref_mut-2.ensures.value, c.self.invariant.rows) in
    let counts : length c.place_rows.new.counts ≡ c.self.inside.size = omega (arith, c.place_rows.auto.counts, ap length c.deref_mut-3.ensures.value, c.self.invariant.counts) in
    let found = homes_known c.self.inside.size c.args.span.now c.deref_mut.result.now c.find_homes.new.homes (ap length c.deref_mut.ensures.value ∙ c.self.invariant.homes) c.find_homes.ensures in
    let placed = rows_known c.self.inside.size _ c.find_homes.new.homes _ _ _ (c.deref.ensures.value ∙ given_back c.self.inside.homes.len c.self.inside.homes.items c.find_homes.new.homes homes_len) homes c.place_rows.ensures in
    let tested = c.deref-2.ensures.value ∙ given_back c.self.inside.counts.len c.self.inside.counts.items c.place_rows.new.counts (omega (arith, c.place_rows.auto.counts, c.deref_mut-3.ensures.len)) in
    let few = subst (λ (xs : List ℕ). (i : ℕ) → i < length xs → slice_index xs i ≤ 16) tested (c.has_small_counts.ensures.0 is) in
    subst (λ (n : ℕ). HasSmallBlocks n c.args.span.now) (ap (λ (b : HeldBlocks). b.size) c.self.view_is)
    (small_held c.self.inside.size c.args.span.now c.find_homes.new.homes c.place_rows.new.rows c.place_rows.new.counts c.place_rows.new.behind rows found placed (λ home l. few home (omega (arith, counts))))
