-- The rows of a span's blocks, at their homes.
use Rattle.std.proofs.Common.{◌≡◌, ◌≢◌, ℕ, zero, suc, ◌+◌, ◌-◌, ◌*◌, ◌/◌, ◌<◌, ◌≤◌, Bool, List, [], ◌∷◌, ◌++◌, length, take, drop, reverse, filter, cond, slice_index, inl, inr, refl, ap, sym, ◌∙◌, subst, arith, get_or-set_same, get_or-set_other, length-take, length-drop, length-append}
use Rattle.std.specs.List.{count_by, range_with_len}
use Rattle.std.proofs.Math.ListN.{set, replicate, get_or-append}
use Rattle.std.proofs.lemmas.Bool.{cases_eq, eq-eqb, ne_eqb, eqb-true}
use Rattle.std.proofs.lemmas.List.{length-reverse, reverse-append, get_or_push, get_or-take, get_or-drop, ext_get_or, length-replicate, get_or-replicate}
use Rattle.std.proofs.lemmas.List.Sums.{length-filter, count_by-le-length}
use Rattle.std.proofs.lemmas.List.FromFn.{length-range_with_len}
use Rattle.std.proofs.lemmas.Nat.{mul-le}
use Rattle.channel_rep.proofs.Squares.{place-lt, row_of_place}
use Rattle.pauli_basis.specs.Products.{product_code}
use Rattle.quick_label.proofs.WeightRows.{given_back}
use Rattle.quick_label.specs.Blocks.{in_block, block_rows, rows_behind}
use Rattle.quick_label.specs.Rooms.{HeldBlocks, IsBlockRoom, held_rows, AreHomes, AreBlocks, HasSmallBlocks, ArePlaced, lives_at, rows_at}

-- the rows with this home from a row on, the last one first
abbrev pub rows_from : ℕ → List ℕ → ℕ → ℕ → List ℕ
rows_from size homes from home = reverse (filter (lives_at homes home) (range_with_len from (size - from)))

-- the rows from a row on stand at their homes, and each knows how many stand behind it
pub record ArePlacedFrom (size : ℕ) (homes : List ℕ) (from : ℕ) (rows counts behind : List ℕ) : Type 0 where
  pub counted : (home : ℕ) → home < size → slice_index counts home ≡ length (rows_from size homes from home)
  pub placed : (home k : ℕ) → home < size → k < slice_index counts home → slice_index rows (home * size + k) ≡ slice_index (rows_from size homes from home) k
  pub followed : (row : ℕ) → from ≤ row → row < size → slice_index behind row ≡ count_by (lives_at homes (slice_index homes row)) (range_with_len (row + 1) (size - 1 - row))
  pub within : (row : ℕ) → from ≤ row → row < size → slice_index behind row < slice_index counts (slice_index homes row)

-- ---- tests that agree on a range
pub filter_range : (p q : ℕ → Bool) (a n : ℕ) → ((y : ℕ) → y < a + n → p y ≡ q y) → filter p (range_with_len a n) ≡ filter q (range_with_len a n)
filter_range p q a zero h = refl
filter_range p q a (suc n) h =
    ap (λ (b : Bool). cond b (a ∷ filter p (range_with_len (a + 1) n)) (filter p (range_with_len (a + 1) n))) (h a (omega arith))
    ∙ ap (λ (xs : List ℕ). cond (q a) (a ∷ xs) xs) (filter_range p q (a + 1) n (λ y l. h y (omega arith)))

pub count_range : (p q : ℕ → Bool) (a n : ℕ) → ((y : ℕ) → y < a + n → p y ≡ q y) → count_by p (range_with_len a n) ≡ count_by q (range_with_len a n)
count_range p q a n h = sym (length-filter p (range_with_len a n)) ∙ ap length (filter_range p q a n h) ∙ length-filter q (range_with_len a n)

-- ---- one row more
module _ (size : ℕ) (homes : List ℕ) where
  range_more : (row : ℕ) → row < size → range_with_len row (size - row) ≡ row ∷ range_with_len (row + 1) (size - (row + 1))
  range_more row l = let e : size - row ≡ suc (size - (row + 1)) = omega arith in ap (range_with_len row) e

  abbrev later : ℕ → ℕ → List ℕ
  later row home = filter (lives_at homes home) (range_with_len (row + 1) (size - (row + 1)))

  rows_yes : (row home : ℕ) → row < size → slice_index homes row ≡ home → rows_from size homes row home ≡ rows_from size homes (row + 1) home ++ row ∷ []
  rows_yes row home l e =
      ap (λ (xs : List ℕ). reverse (filter (lives_at homes home) xs)) (range_more row l)
      ∙ ap (λ (b : Bool). reverse (cond b (row ∷ later row home) (later row home))) (eq-eqb (slice_index homes row) home e)
      ∙ reverse-append (row ∷ []) (later row home)

  rows_no : (row home : ℕ) → row < size → slice_index homes row ≢ home → rows_from size homes row home ≡ rows_from size homes (row + 1) home
  rows_no row home l d =
      ap (λ (xs : List ℕ). reverse (filter (lives_at homes home) xs)) (range_more row l)
      ∙ ap (λ (b : Bool). reverse (cond b (row ∷ later row home) (later row home))) (ne_eqb (slice_index homes row) home d)

  rows_counted : (row home : ℕ) → length (rows_from size homes row home) ≡ count_by (lives_at homes home) (range_with_len row (size - row))
  rows_counted row home =
      length-reverse (filter (lives_at homes home) (range_with_len row (size - row))) ∙ length-filter (lives_at homes home) (range_with_len row (size - row))

  rows_few : (row home : ℕ) → length (rows_from size homes row home) ≤ size - row
  rows_few row home =
      omega (arith, rows_counted row home, count_by-le-length (lives_at homes home) (range_with_len row (size - row)), length-range_with_len row (size - row))

-- no row is placed yet
pub none_placed : (size : ℕ) (homes rows counts behind : List ℕ) → ((home : ℕ) → home < size → slice_index counts home ≡ 0) → ArePlacedFrom size homes size rows counts behind
none_placed size homes rows counts behind zeros = record {
  counted = λ home l. zeros home l ∙ sym (rows_counted size homes size home ∙ ap (λ (n : ℕ). count_by (lives_at homes home) (range_with_len size n)) none);
  placed = λ home k l m. absurd (omega (arith, zeros home l));
  followed = λ row l m. absurd (omega arith);
  within = λ row l m. absurd (omega arith);
}
  where
    none : size - size ≡ 0
    none = omega arith

-- the next one
module _ (size : ℕ) (homes : List ℕ) (row : ℕ) (low : row < size) (below : (x : ℕ) → x < size → slice_index homes x < size) (rows counts behind : List ℕ)
    (rows_long : length rows ≡ size * size) (counts_long : length counts ≡ size) (behind_long : length behind ≡ size) (h : ArePlacedFrom size homes (row + 1) rows counts behind) where
  abbrev home : ℕ
  home = slice_index homes row

  abbrev count : ℕ
  count = slice_index counts home

  abbrev more : List ℕ
  more = set counts home (count + 1)

  home_low : home < size
  home_low = below row low

  count_is : count ≡ length (rows_from size homes (row + 1) home)
  count_is = h.counted home home_low

  pub count_low : count + 1 ≤ size
  count_low = omega (arith, count_is, rows_few size homes (row + 1) home)

  pub place_low : home * size + count < length rows
  place_low = let less : count < size = omega (arith, count_low) in omega (arith, place-lt size home count home_low less)

  own_more : slice_index more home ≡ count + 1
  own_more = get_or-set_same counts home (count + 1) 0 (omega (arith, home_low))

  others_more : (x : ℕ) → x ≢ home → slice_index more x ≡ slice_index counts x
  others_more x d = get_or-set_other counts home x (count + 1) 0 d

  counted_own : slice_index more home ≡ length (rows_from size homes row home)
  counted_own = own_more ∙ ap (λ (k : ℕ). k + 1) count_is ∙ sym (ap length (rows_yes size homes row home low refl) ∙ length-append (rows_from size homes (row + 1) home) (row ∷ []))

  counted_step : (x : ℕ) → x < size → slice_index more x ≡ length (rows_from size homes row x)
  counted_step x l = elim (cases_eq x home) [
    | inl e ↦ subst (λ (q : ℕ). slice_index more q ≡ length (rows_from size homes row q)) (sym e) counted_own
    | inr d ↦ others_more x d ∙ h.counted x l ∙ sym (ap length (rows_no size homes row x low (λ g. d (sym g))))
  ]

  abbrev filled : List ℕ
  filled = set rows (home * size + count) row

  placed_own : (k : ℕ) → k < count + 1 → slice_index filled (home * size + k) ≡ slice_index (rows_from size homes row home) k
  placed_own k m = elim (cases_eq k count) [
    | inl e ↦
        ap (λ (j : ℕ). slice_index filled (home * size + j)) e ∙ get_or-set_same rows (home * size + count) row 0 place_low
        ∙ sym (ap (λ (xs : List ℕ). slice_index xs k) (rows_yes size homes row home low refl) ∙ get_or_push (rows_from size homes (row + 1) home) row 0 k (sym count_is ∙ sym e))
    | inr d ↦
        get_or-set_other rows (home * size + count) (home * size + k) row 0 (λ g. d (omega arith))
        ∙ h.placed home k home_low (omega arith)
        ∙ sym (ap (λ (xs : List ℕ). slice_index xs k) (rows_yes size homes row home low refl) ∙ get_or-append (rows_from size homes (row + 1) home) (row ∷ []) 0 k (omega (arith, count_is)))
  ]

  placed_other : (x k : ℕ) → x < size → x ≢ home → k < slice_index counts x → slice_index filled (x * size + k) ≡ slice_index (rows_from size homes row x) k
  placed_other x k l d m =
      get_or-set_other rows (home * size + count) (x * size + k) row 0
      (λ g. d (sym (row_of_place size x k (omega (arith, h.counted x l, rows_few size homes (row + 1) x))) ∙ ap (λ (v : ℕ). v / size) g ∙ row_of_place size home count (omega (arith, count_low))))
      ∙ h.placed x k l m
      ∙ sym (ap (λ (xs : List ℕ). slice_index xs k) (rows_no size homes row x low (λ g. d (sym g))))

  placed_step : (x k : ℕ) → x < size → k < slice_index more x → slice_index filled (x * size + k) ≡ slice_index (rows_from size homes row x) k
  placed_step x k l m = elim (cases_eq x home) [
    | inl e ↦ subst (λ (q : ℕ). slice_index filled (q * size + k) ≡ slice_index (rows_from size homes row q) k) (sym e) (placed_own k (omega (arith, ap (slice_index more) e, own_more)))
    | inr d ↦ placed_other x k l d (omega (arith, others_more x d))
  ]

  abbrev after : List ℕ
  after = set behind row count

  own_after : slice_index after row ≡ count
  own_after = get_or-set_same behind row count 0 (omega arith)

  followed_own : slice_index after row ≡ count_by (lives_at homes home) (range_with_len (row + 1) (size - 1 - row))
  followed_own =
      let e : size - (row + 1) ≡ size - 1 - row = omega arith in
      own_after ∙ count_is ∙ rows_counted size homes (row + 1) home ∙ ap (λ (n : ℕ). count_by (lives_at homes home) (range_with_len (row + 1) n)) e

  followed_step : (r : ℕ) → row ≤ r → r < size → slice_index after r ≡ count_by (lives_at homes (slice_index homes r)) (range_with_len (r + 1) (size - 1 - r))
  followed_step r m l = elim (cases_eq r row) [
    | inl e ↦ subst (λ (q : ℕ). slice_index after q ≡ count_by (lives_at homes (slice_index homes q)) (range_with_len (q + 1) (size - 1 - q))) (sym e) followed_own
    | inr d ↦ get_or-set_other behind row r count 0 d ∙ h.followed r (omega arith) l
  ]

  grown : (x : ℕ) → slice_index counts x ≤ slice_index more x
  grown x = elim (cases_eq x home) [
    | inl e ↦ omega (arith, ap (slice_index more) e, ap (slice_index counts) e, own_more)
    | inr d ↦ omega (arith, others_more x d)
  ]

  within_step : (r : ℕ) → row ≤ r → r < size → slice_index after r < slice_index more (slice_index homes r)
  within_step r m l = elim (cases_eq r row) [
    | inl e ↦ subst (λ (q : ℕ). slice_index after q < slice_index more (slice_index homes q)) (sym e) (omega (arith, own_after, own_more))
    | inr d ↦ omega (arith, get_or-set_other behind row r count 0 d, h.within r (omega arith) l, grown (slice_index homes r))
  ]

  pub place_step : ArePlacedFrom size homes row filled more after
  place_step = record { counted = counted_step; placed = placed_step; followed = followed_step; within = within_step }

-- all of them
pub all_placed : (size : ℕ) (homes : List ℕ) (from : ℕ) (rows counts behind : List ℕ) → from ≡ 0 → ArePlacedFrom size homes from rows counts behind → ArePlaced size homes rows counts behind
all_placed size homes from rows counts behind e h = record {
  counted = λ home l. h.counted home l ∙ ap length (same home);
  placed = λ home k l m. h.placed home k l m ∙ ap (λ (xs : List ℕ). slice_index xs k) (same home);
  followed = λ row l. h.followed row (omega arith) l;
  within = λ row l. h.within row (omega arith) l;
}
  where
    rest : size - from ≡ size
    rest = omega arith

    same : (home : ℕ) → rows_from size homes from home ≡ rows_at size homes home
    same home = λ i. reverse (filter (lives_at homes home) (range_with_len (e i) (rest i)))

-- ---- all rows
module _ (size : ℕ) (span : List Bool) (homes rows counts behind : List ℕ) (long : length rows ≡ size * size) (a : AreHomes size span homes) (p : ArePlaced size homes rows counts behind) where
  abbrev held : HeldBlocks
  held = record { size = size; homes = homes; rows = rows; counts = counts; behind = behind }

  same_rows : (column : ℕ) → column < size → rows_at size homes (slice_index homes column) ≡ block_rows size span column
  same_rows column l =
      ap reverse (filter_range (lives_at homes (slice_index homes column)) (in_block span column) 0 size (λ y m. a.same column y l (omega arith)))

  rows_most : (home : ℕ) → length (rows_at size homes home) ≤ size
  rows_most home =
      omega (
        arith,
        length-reverse (filter (lives_at homes home) (range_with_len 0 size)) ∙ length-filter (lives_at homes home) (range_with_len 0 size),
        count_by-le-length (lives_at homes home) (range_with_len 0 size),
        length-range_with_len 0 size,
      )

  pub few_rows : (home : ℕ) → home < size → slice_index counts home ≤ size
  few_rows home l = omega (arith, p.counted home l, rows_most home)

  rows_fit : (home : ℕ) → home < size → home * size + slice_index counts home ≤ length rows
  rows_fit home l = omega (arith, few_rows home l, mul-le (home + 1) size size size (omega arith) (omega arith))

  rows_held : (column : ℕ) → column < size → held_rows held column ≡ block_rows size span column
  rows_held column l = ext_get_or 0 (held_rows held column) (block_rows size span column) (so_many ∙ p.counted (slice_index homes column) at_low ∙ ap length (same_rows column l)) each
    where
      at_low : slice_index homes column < size
      at_low = a.below column l

      so_many : length (held_rows held column) ≡ slice_index counts (slice_index homes column)
      so_many = omega (arith, length-take {A = ℕ}, length-drop {A = ℕ}, rows_fit (slice_index homes column) at_low)

      each : (k : ℕ) → k < length (held_rows held column) → slice_index (held_rows held column) k ≡ slice_index (block_rows size span column) k
      each k m =
          get_or-take (slice_index homes column * size + slice_index counts (slice_index homes column) - slice_index homes column * size) (drop (slice_index homes column * size) rows) k 0 (omega (arith, so_many))
          ∙ get_or-drop (slice_index homes column * size) rows k 0
          ∙ p.placed (slice_index homes column) k at_low (omega (arith, so_many))
          ∙ ap (λ (xs : List ℕ). slice_index xs k) (same_rows column l)

  behind_held : (row : ℕ) → row < size → slice_index behind row ≡ rows_behind size span row
  behind_held row l =
      p.followed row l
      ∙ count_range (lives_at homes (slice_index homes row)) (in_block span row) (row + 1) (size - 1 - row) (λ y m. a.same row y l (omega arith))

  -- a home is its own
  settled : (x : ℕ) → x < size → slice_index homes (slice_index homes x) ≡ slice_index homes x
  settled x l = sym (eqb-true _ _ (a.same (slice_index homes x) x (a.below x l) l ∙ a.inside x l))

  pub blocks_held : AreBlocks size span held
  blocks_held = record { long = refl; homes = a.inside; settled = settled; rows = rows_held; behind = behind_held }

  pub small_held : ((home : ℕ) → home < size → slice_index counts home ≤ 16) → HasSmallBlocks size span
  small_held few = record {
    rows = λ column l. omega (arith, ap length (same_rows column l), p.counted (slice_index homes column) (a.below column l), few (slice_index homes column) (a.below column l));
    behind = λ row l. omega (arith, behind_held row l, p.within row l, few (slice_index homes row) (a.below row l));
  }

-- ---- what is held
-- with no blocks yet
pub empty_room : (size : ℕ) (homes rows counts behind : List ℕ) → 0 < size → size ≤ 64 → ((x y : ℕ) → x < size → y < size → product_code x y < size)
    → homes ≡ replicate size 0 → rows ≡ replicate (size * size) 0 → counts ≡ replicate size 0 → behind ≡ replicate size 0
    → IsBlockRoom (record { size = size; homes = homes; rows = rows; counts = counts; behind = behind })
empty_room size homes rows counts behind some few closed e f g h = record {
  few = few;
  closed = closed;
  homes = ap length e ∙ length-replicate size 0;
  rows = ap length f ∙ length-replicate (size * size) 0;
  counts = ap length g ∙ length-replicate size 0;
  behind = ap length h ∙ length-replicate size 0;
  homes_below = λ x l. omega (arith, ap (λ (xs : List ℕ). slice_index xs x) e, get_or-replicate {A = ℕ} size x 0 0 l);
  counts_few = λ x l. omega (arith, ap (λ (xs : List ℕ). slice_index xs x) g, get_or-replicate {A = ℕ} size x 0 0 l);
}

-- and with the blocks of a span
pub full_room : (size : ℕ) (span : List Bool) (homes rows counts behind : List ℕ) → size ≤ 64 → ((x y : ℕ) → x < size → y < size → product_code x y < size)
    → length homes ≡ size → length rows ≡ size * size → length counts ≡ size → length behind ≡ size → AreHomes size span homes → ArePlaced size homes rows counts behind
    → IsBlockRoom (record { size = size; homes = homes; rows = rows; counts = counts; behind = behind })
full_room size span homes rows counts behind few closed e f g h a p = record {
  few = few;
  closed = closed;
  homes = e;
  rows = f;
  counts = g;
  behind = h;
  homes_below = a.below;
  counts_few = few_rows size span homes rows counts behind f a p;
}

-- the homes that one call found are those by which another placed the rows
pub homes_known : (size : ℕ) (span : List Bool) (lent homes : List ℕ) → length lent ≡ size → AreHomes (length lent) span homes → AreHomes size span homes
homes_known size span lent homes e a = subst (λ (n : ℕ). AreHomes n span homes) e a

pub rows_known : (size : ℕ) (given homes rows counts behind : List ℕ) → given ≡ homes → length homes ≡ size → ArePlaced (length given) given rows counts behind → ArePlaced size homes rows counts behind
rows_known size given homes rows counts behind same e p =
    subst (λ (n : ℕ). ArePlaced n homes rows counts behind) e (subst (λ (xs : List ℕ). ArePlaced (length xs) xs rows counts behind) same p)

-- what four whole lists are after calls that write them
pub all_given_back : (P : List ℕ → List ℕ → List ℕ → List ℕ → Type 0) (a b c d : List ℕ) (i j k l : ℕ) (o p q r : List ℕ) → length a ≡ i → length b ≡ j → length c ≡ k → length d ≡ l → P a b c d
    → P (take i (a ++ drop (length a) o)) (take j (b ++ drop (length b) p)) (take k (c ++ drop (length c) q)) (take l (d ++ drop (length d) r))
all_given_back P a b c d i j k l o p q r e f g h is =
    subst (λ (x : List ℕ). P x (take j (b ++ drop (length b) p)) (take k (c ++ drop (length c) q)) (take l (d ++ drop (length d) r))) (sym (given_back i o a e))
    (subst (λ (x : List ℕ). P a x (take k (c ++ drop (length c) q)) (take l (d ++ drop (length d) r))) (sym (given_back j p b f))
    (subst (λ (x : List ℕ). P a b x (take l (d ++ drop (length d) r))) (sym (given_back k q c g)) (subst (P a b c) (sym (given_back l r d h)) is)))

-- a block lies within the rows
pub block_fits : (size home count : ℕ) → home < size → count ≤ size → home * size + count ≤ size * size
block_fits size home count l m = omega (arith, mul-le (home + 1) size size size (omega arith) (omega arith))
