-- Seats of which nothing was taken.
use Rattle.std.proofs.Common.{◌≡◌, ℕ, zero, suc, ◌+◌, ◌<◌, ◌≤◌, false, List, Vec, Global, [], ◌∷◌, All, map, vec_len, vec_capacity, refl, ap, ◌∙◌, arith}
use Rattle.std.specs.List.{sum_by, range_with_len}
use Rattle.std.proofs.lemmas.List.Sums.{sum_by-cons}
use Rattle.crossbeam_deque.specs.Handles.{worker_view}
use Rattle.work_shares.specs.declared.block.Block.{Block}
use Rattle.work_shares.specs.declared.block.Cut.{Cut}
use Rattle.work_shares.specs.declared.theft.Theft.{Theft}
use Rattle.work_shares.specs.declared.entry.Entry.{Entry}
use Rattle.work_shares.specs.Cuts.{block_count}
use Rattle.work_shares.specs.Blocks.{extents_of}
use Rattle.work_shares.specs.Entries.{is_work, ends, weight_of, entries_of}
use Rattle.work_shares.specs.Thefts.{pushed_into, got_by, left_into, entries_after}
use Rattle.work_shares.specs.Seats.{seat_left, IsSeated}
use Rattle.work_shares.specs.Owners.{Owner, IsReady}
use Rattle.work_shares.specs.Lending.{IsUnused, AreGiven}
use Rattle.work_shares.proofs.AllGiven.{sum_by-entries_all}

-- nothing was stolen
got_nothing : (weight : Entry → ℕ) (thefts : List Theft) → All IsUnused thefts → sum_by (got_by weight) thefts ≡ 0
got_nothing weight [] unused = refl
got_nothing weight (t ∷ ts) unused =
    let here : got_by weight t ≡ 0 = ap (sum_by weight) (unused 0 t (omega arith)).got in
    omega (arith, sum_by-cons (got_by weight) t ts, got_nothing weight ts (λ k d lt. unused (suc k) d (omega arith)))

-- then all that was pushed is left
left_all : (thefts : List Theft) → All IsUnused thefts → sum_by left_into thefts ≡ sum_by (λ entries. sum_by is_work entries) (map pushed_into thefts)
left_all [] unused = refl
left_all (t ∷ ts) unused =
    let works : List Entry → ℕ = λ entries. sum_by is_work entries in
    let none : sum_by is_work (view_got t) ≡ 0 = ap (sum_by is_work) (unused 0 t (omega arith)).got in
    let here : left_into t ≡ works (pushed_into t) = omega arith in
    omega (arith, sum_by-cons left_into t ts, sum_by-cons works (pushed_into t) (map pushed_into ts), left_all ts (λ k d lt. unused (suc k) d (omega arith)))
  where
    view_got : Theft → List Entry
    view_got t = t.pass.me.view.client.got

-- all deques together were given as many blocks as there are
works_all : (count workers worker : ℕ) → worker < workers
    → sum_by is_work (entries_of count workers worker) + sum_by (λ entries. sum_by is_work entries) (entries_after count workers worker) ≡ count
works_all count workers worker lt = sum_by-entries_all is_work count workers worker lt refl ∙ count_ones 0 count where
  count_ones : (a n : ℕ) → sum_by (λ (number : ℕ). 1) (range_with_len a n) ≡ n
  count_ones a zero = refl
  count_ones a (suc n) = omega (arith, sum_by-cons (λ (number : ℕ). 1) a (range_with_len (a + 1) n), count_ones (a + 1) n)

-- the seat at the start
pub seated_fresh : (cut : Cut) (workers worker : ℕ) (own : Owner) (thefts : Vec Theft Global) (noted : Vec Block Global) → worker < workers → workers ≤ 8
    → IsReady (block_count cut.total cut.size) workers worker own → AreGiven (block_count cut.total cut.size) workers worker thefts.items → noted.items ≡ [] → vec_len noted ≡ 0 → vec_capacity noted ≡ block_count cut.total cut.size
    → IsSeated (record { cut = cut; workers = workers; worker = worker; own = own; thefts = thefts; noted = noted; over = false; ended = false })
unfolding seat_left
seated_fresh cut workers worker own thefts noted lt few ready given empty none room =
    let count = block_count cut.total cut.size in
    let no_ends : ends (worker_view own).got ≡ 0 = ap ends ready.untaken.got in
    record {
      stands = record {
        worker = lt;
        few = few;
        front = ready.untaken.front;
        parts = ready.parts;
        own = ready.pushed;
        others = given.given;
        apart = λ weight. omega (arith, ap (sum_by weight) ready.untaken.got);
        marked = record { going = λ _. no_ends; over = λ e. absurd cc; ended = λ e. absurd cc };
      };
      noted = λ weight. (
          let w : Entry → ℕ = weight_of weight cut.total cut.size in
          omega (arith, ap (λ l. sum_by weight (extents_of l)) empty, ap (sum_by w) ready.untaken.got, got_nothing w thefts.items given.unused));
      room = omega (
        arith,
        ap (sum_by is_work) ready.untaken.got,
        ap (sum_by is_work) ready.pushed,
        left_all thefts.items given.unused,
        ap (sum_by (λ (entries : List Entry). sum_by is_work entries)) given.given,
        works_all count workers worker lt,
      );
    }
