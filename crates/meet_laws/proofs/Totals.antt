-- Lemmas for the crates above: the totals of the search, even and odd.
use Rattle.std.proofs.Common.{◌≡◌, ℕ, ◌+◌, ◌-◌, ◌*◌, ◌^◌, ◌<◌, ◌≤◌, List, [], length, slice_index_or, sym, subst, arith, length-append}
use Rattle.channel_rep.specs.Tables.{ScaledTable}
use Rattle.meet_laws.specs.Laws.{TellsTotal}
use Rattle.level_laws.specs.Levels.{IsLevel, NoneBelow, front_at}
use Rattle.meet_laws.proofs.Fronts.{AreFronts, even_fronts, odd_fronts}
use Rattle.meet_laws.proofs.Meeting.{none_meets, first_meets}

-- fronts that stand in order
total_of : (n : ℕ) → 0 < n → n ≤ 3 → (m : ScaledTable) (f h t count : ℕ) (front : ℕ → List ℕ) → t ≡ f + h → AreFronts n f count front → NoneBelow n m t → TellsTotal n m t h count front
total_of n some few m f h t count front e fronts none =
    let below : NoneBelow n m (f + h) = subst (NoneBelow n m) e none in
    record {
      none = λ never. subst (λ k. NoneBelow n m (k + 1)) (sym e) (none_meets n some few m f h count front fronts below never);
      first = λ i l b meets never. first_meets n some few m f h count front fronts below i l b meets never;
      long = λ i l b meets. omega (arith, length-append (front i) b, fronts.long i l, meets.level.letters);
    }

pub even_total : (n : ℕ) → 0 < n → n ≤ 3 → (m : ScaledTable) (h : ℕ) (words : List (List ℕ)) → IsLevel n h words → NoneBelow n m (2 * h) → TellsTotal n m (2 * h) h (length words) (λ i. slice_index_or words i [])
even_total n some few m h words level none =
    total_of n some few m h h (2 * h) (length words) (λ i. slice_index_or words i []) (omega arith) (even_fronts n some few h words level) none

pub odd_total : (n : ℕ) → 0 < n → n ≤ 3 → (m : ScaledTable) (h : ℕ) (words : List (List ℕ)) → IsLevel n h words → NoneBelow n m (2 * h + 1)
    → TellsTotal n m (2 * h + 1) h (length words * (4 ^ n - 1)) (front_at n words)
odd_total n some few m h words level none =
    total_of n some few m (h + 1) h (2 * h + 1) (length words * (4 ^ n - 1)) (front_at n words) (omega arith) (odd_fronts n some few h words level) none
