-- Rows of cells in two lists, turned and scaled.
use Rattle.std.proofs.Common.{◌≡◌, ◌≢◌, ℕ, ◌+◌, ◌-◌, ◌*◌, ◌<◌, ◌≤◌, List, length, refl, ap, sym, ◌∙◌, subst, inl, inr, arith}
use Rattle.std.specs.Prelude.{ℤ, pos, ◌*ℤ◌}
use Rattle.std.proofs.lemmas.Bool.{cases_lt, cases_eq}
use Rattle.std.proofs.lemmas.Int.{ints}
use Rattle.std.proofs.Math.ListN.{set}
use Rattle.std.proofs.lemmas.List.{get_or-set_other}
use Rattle.std.proofs.lemmas.Grind.{get_or-set_at}
use mir.Facts.{to_z-of_z}
use Rattle.tc_ring.specs.Surds.{Surd, surd, surd_plus, surd_negative, surd_times, root2_surd, SurdWithin}
use Rattle.tc_ring.proofs.Surds.{same_surd, root2_surd-times}
use Rattle.channel_rep.specs.Cells.{entries}
use Rattle.channel_rep.specs.Changes.{ChangesPair, ChangesRow}
use Rattle.channel_rep.specs.Lanes.{number, most_small, IsSmall, AreApart, IsOutside, HasSmallPairs, TurnsPairs}
use Rattle.channel_rep.specs.Parts.{cells_of}
use Rattle.channel_rep.proofs.Pairs.{again, small_fits, small_twice}
use Rattle.channel_rep.proofs.Places.{row_before}
use Rattle.channel_rep.proofs.TwoLists.{entry_is}

-- different rows don't meet
pub rows_apart : (x y size : ℕ) → x ≢ y → AreApart (x * size) (y * size) size
rows_apart x y size d = elim (cases_lt x y) [
  | inl l ↦ inl (row_before x y size l)
  | inr l ↦ let m : y < x = omega arith in inr (row_before y x size m)
]

-- a place of one row is outside the other
outside_row : (r x size c : ℕ) → c < size → r ≢ x → IsOutside (x * size) size (r * size + c)
outside_row r x size c l d = elim (cases_lt r x) [
  | inl m ↦ let before = row_before r x size m in inl (omega arith)
  | inr m ↦ let n : x < r = omega arith in let before = row_before x r size n in inr (omega arith)
]

module _ (size : ℕ) (a b : List ℤ) (long_a : length a ≡ size * size) (long_b : length b ≡ size * size) where
  -- rows of small cells have small whole parts
  pub small_whole_parts : (x y : ℕ) → x < size → y < size → ((c : ℕ) → c < size → SurdWithin most_small (entries size (cells_of a b) x c))
      → ((c : ℕ) → c < size → SurdWithin most_small (entries size (cells_of a b) y c)) → HasSmallPairs (x * size) (y * size) size a
  small_whole_parts x y l m small_x small_y =
      let end_x = row_before x size size l in
      let end_y = row_before y size size m in
      record {
        first_end = omega arith;
        second_end = omega arith;
        first = λ c h. let small = subst (SurdWithin most_small) (entry_is size a b long_a long_b x c l h) (small_x c h) in record { low = small.low_a; high = small.high_a };
        second = λ c h. let small = subst (SurdWithin most_small) (entry_is size a b long_a long_b y c m h) (small_y c h) in record { low = small.low_a; high = small.high_a };
      }

  -- and small parts of √2
  pub small_root_parts : (x y : ℕ) → x < size → y < size → ((c : ℕ) → c < size → SurdWithin most_small (entries size (cells_of a b) x c))
      → ((c : ℕ) → c < size → SurdWithin most_small (entries size (cells_of a b) y c)) → HasSmallPairs (x * size) (y * size) size b
  small_root_parts x y l m small_x small_y =
      let end_x = row_before x size size l in
      let end_y = row_before y size size m in
      record {
        first_end = omega arith;
        second_end = omega arith;
        first = λ c h. let small = subst (SurdWithin most_small) (entry_is size a b long_a long_b x c l h) (small_x c h) in record { low = small.low_b; high = small.high_b };
        second = λ c h. let small = subst (SurdWithin most_small) (entry_is size a b long_a long_b y c m h) (small_y c h) in record { low = small.low_b; high = small.high_b };
      }

  -- and the numbers at each place of it are small
  pub small_place : (row place : ℕ) → row < size → row * size ≤ place → place < (row + 1) * size → ((c : ℕ) → c < size → SurdWithin most_small (entries size (cells_of a b) row c))
      → IsSmall (number a place) × IsSmall (number b place)
  small_place row place l le h small =
      let c : ℕ = place - row * size in
      let inside : c < size = omega arith in
      let at : row * size + c ≡ place = omega arith in
      let own = subst (SurdWithin most_small) (entry_is size a b long_a long_b row c l inside ∙ ap (λ (k : ℕ). surd (number a k) (number b k)) at) (small c inside) in
      (record { low = own.low_a; high = own.high_a }, record { low = own.low_b; high = own.high_b })

  module _ (a' b' : List ℤ) (kept_a : length a' ≡ length a) (kept_b : length b' ≡ length b) where
    -- an entry before, and after
    old_entry : (r c : ℕ) → r < size → c < size → entries size (cells_of a b) r c ≡ surd (number a (r * size + c)) (number b (r * size + c))
    old_entry r c l m = entry_is size a b long_a long_b r c l m

    new_entry : (r c : ℕ) → r < size → c < size → entries size (cells_of a' b') r c ≡ surd (number a' (r * size + c)) (number b' (r * size + c))
    new_entry r c l m = entry_is size a' b' (kept_a ∙ long_a) (kept_b ∙ long_b) r c l m

    -- both lists of a pair of rows are turned
    pub turned_parts : (x y : ℕ) → x < size → y < size → TurnsPairs (x * size) (y * size) size a a' → TurnsPairs (x * size) (y * size) size b b'
        → ChangesPair size x y
        (λ c. surd_plus (entries size (cells_of a b) x c) (surd_negative (entries size (cells_of a b) y c)))
        (λ c. surd_plus (entries size (cells_of a b) y c) (entries size (cells_of a b) x c)) (cells_of a b) (cells_of a' b')
    unfolding surd_plus surd_negative
    turned_parts x y l m whole root = record {
      low_is = λ c h.
          new_entry x c l h
          ∙ same_surd {y = surd_plus (surd (number a (x * size + c)) (number b (x * size + c))) (surd_negative (surd (number a (y * size + c)) (number b (y * size + c))))}
          (omega (arith, ints, whole.first c h)) (omega (arith, ints, root.first c h))
          ∙ (λ i. surd_plus (sym (old_entry x c l h) i) (surd_negative (sym (old_entry y c m h) i)));
      high_is = λ c h.
          new_entry y c m h
          ∙ same_surd {y = surd_plus (surd (number a (y * size + c)) (number b (y * size + c))) (surd (number a (x * size + c)) (number b (x * size + c)))}
          (omega (arith, ints, whole.second c h)) (omega (arith, ints, root.second c h))
          ∙ (λ i. surd_plus (sym (old_entry y c m h) i) (sym (old_entry x c l h) i));
      others = λ r c h k d e.
          new_entry r c h k
          ∙ (λ i. surd (whole.others (r * size + c) (outside_row r x size c k d) (outside_row r y size c k e) i) (root.others (r * size + c) (outside_row r x size c k d) (outside_row r y size c k e) i))
          ∙ sym (old_entry r c h k);
    }

    -- the numbers of one row become twice the other part, and the other part
    pub scaled_parts : (row : ℕ) → row < size → ((c : ℕ) → c < size → number a' (row * size + c) ≡ pos 2 *ℤ number b (row * size + c))
        → ((c : ℕ) → c < size → number b' (row * size + c) ≡ number a (row * size + c))
        → ((k : ℕ) → IsOutside (row * size) size k → (number a' k ≡ number a k) × (number b' k ≡ number b k))
        → ChangesRow size row (λ c. surd_times root2_surd (entries size (cells_of a b) row c)) (cells_of a b) (cells_of a' b')
    scaled_parts row l whole root others = record {
      row_is = λ c h.
          new_entry row c l h ∙ (λ i. surd (whole c h i) (root c h i)) ∙ sym (root2_surd-times (surd (number a (row * size + c)) (number b (row * size + c))))
          ∙ ap (surd_times root2_surd) (sym (old_entry row c l h));
      others = λ r c h k d. let same = others (r * size + c) (outside_row r row size c k d) in new_entry r c h k ∙ (λ i. surd (same.0 i) (same.1 i)) ∙ sym (old_entry r c h k);
    }

-- from one place on, the numbers before another place are scaled
pub record ScaledBelow (start place : ℕ) (a b a' b' : List ℤ) : Type 0 where
  pub whole : (k : ℕ) → start ≤ k → k < place → number a' k ≡ pos 2 *ℤ number b k
  pub root : (k : ℕ) → start ≤ k → k < place → number b' k ≡ number a k
  pub before : (k : ℕ) → k < start → (number a' k ≡ number a k) × (number b' k ≡ number b k)
  pub behind : (k : ℕ) → place ≤ k → (number a' k ≡ number a k) × (number b' k ≡ number b k)

-- none so far
pub scaled_none : (start place : ℕ) (a b : List ℤ) → place ≡ start → ScaledBelow start place a b a b
scaled_none start place a b e = record { whole = λ k l m. absurd (omega arith); root = λ k l m. absurd (omega arith); before = λ k l. (refl, refl); behind = λ k l. (refl, refl) }

-- one place more, where small numbers go through their bits
pub scaled_more : (start place : ℕ) (a b a' b' : List ℤ) → start ≤ place → place < length a' → place < length b' → IsSmall (number a place) → IsSmall (number b place) → ScaledBelow start place a b a' b'
    → ScaledBelow start (place + 1) a b (set a' place (again (pos 2 *ℤ again (number b' place)))) (set b' place (again (number a' place)))
scaled_more start place a b a' b' le l m small_a small_b h = record {
  whole = λ k s n. elim (cases_eq k place) [
    | inl e ↦ get_or-set_at a' place k doubled (pos 0) e l ∙ twice ∙ ap (λ j. pos 2 *ℤ number b j) (sym e)
    | inr d ↦ get_or-set_other a' place k doubled (pos 0) d ∙ h.whole k s (omega arith)
  ];
  root = λ k s n. elim (cases_eq k place) [
    | inl e ↦ get_or-set_at b' place k moved (pos 0) e m ∙ once ∙ ap (number a) (sym e)
    | inr d ↦ get_or-set_other b' place k moved (pos 0) d ∙ h.root k s (omega arith)
  ];
  before = λ k s. let d : k ≢ place = λ e. omega arith in (get_or-set_other a' place k doubled (pos 0) d ∙ (h.before k s).0, get_or-set_other b' place k moved (pos 0) d ∙ (h.before k s).1);
  behind = λ k s. let d : k ≢ place = λ e. omega arith in (get_or-set_other a' place k doubled (pos 0) d ∙ (h.behind k (omega arith)).0, get_or-set_other b' place k moved (pos 0) d ∙ (h.behind k (omega arith)).1);
}
  where
    doubled : ℤ
    doubled = again (pos 2 *ℤ again (number b' place))

    moved : ℤ
    moved = again (number a' place)

    plain_a : number a' place ≡ number a place
    plain_a = (h.behind place (omega arith)).0

    plain_b : number b' place ≡ number b place
    plain_b = (h.behind place (omega arith)).1

    twice : again (pos 2 *ℤ again (number b' place)) ≡ pos 2 *ℤ number b place
    twice = ap (λ z. again (pos 2 *ℤ again z)) plain_b ∙ ap (λ z. again (pos 2 *ℤ z)) (to_z-of_z (small_fits _ small_b)) ∙ to_z-of_z (small_twice _ small_b)

    once : again (number a' place) ≡ number a place
    once = ap again plain_a ∙ to_z-of_z (small_fits _ small_a)

-- the rows of a pair in the other order
pub changes_pair_back : (size x y : ℕ) (f g : ℕ → Surd) (old new : _) → ChangesPair size x y f g old new → ChangesPair size y x g f old new
changes_pair_back size x y f g old new h = record { low_is = h.high_is; high_is = h.low_is; others = λ r c l m d e. h.others r c l m e d }
