use Rattle.std.proofs.Common.{◌≡◌, ℕ, ◌%◌, ◌^◌, ◌<◌, ◌≤◌, slice_index}
use Rattle.channel_rep.specs.Cells.{cell_of}
use Rattle.coset_label.specs.Tags.{fold_number}
use Rattle.coset_label.proofs.sums.add_row.Given as goal

abbrev pub invariant-loop-c : goal.invariant-loop-c
invariant-loop-c l = record {
  done : (k : ℕ) → k < l.c → slice_index l.sums k % 2 ^ 38 ≡ fold_number (fold_number (slice_index l.initial.sums k) (cell_of l.line k).a) (cell_of l.line k).b;
  rest : (k : ℕ) → l.c ≤ k → slice_index l.sums k ≡ slice_index l.initial.sums k;
}
