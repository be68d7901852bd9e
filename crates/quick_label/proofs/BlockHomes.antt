-- The homes of a span's blocks.
use Rattle.std.proofs.Common.{◌≡◌, ◌≢◌, ℕ, ◌+◌, ◌^◌, ◌<◌, ◌≤◌, ◌==◌, ◌⊎◌, Bool, true, false, List, length, slice_index, slice_index_or, inl, inr, ap, sym, ◌∙◌, subst, arith, refl, get_or-set_same, get_or-set_other}
use Rattle.std.specs.Prelude.{if◌then◌else◌}
use Rattle.std.specs.Int.Bits.{xor_self, xor_assoc, xor_comm}
use Rattle.std.proofs.Math.ListN.{set}
use Rattle.std.proofs.lemmas.Bool.{true≢false, cases_eq, cases_Bool, cases_order, eq-eqb, ne_eqb}
use Rattle.pauli_basis.specs.Products.{product_code}
use Rattle.pauli_basis.proofs.Products.{product_code-back, product_code-lt}
use Rattle.channel_rep.proofs.Squares.{codes_some}
use Rattle.word_laws.specs.Spans.{IsInSpan}
use Rattle.word_laws.proofs.Spans.{span_subspace}
use Rattle.quick_label.specs.Blocks.{in_block}
use Rattle.quick_label.specs.Spans.{AreSpan}
use Rattle.quick_label.specs.Rooms.{MarksSubspace, AreHomes}

-- ---- blocks
apart : {b : Bool} → b ≡ true → b ≡ false → ⊥
apart e d = true≢false (sym e ∙ d)

pub in_block-swap : (span : List Bool) (x y : ℕ) → in_block span x y ≡ in_block span y x
in_block-swap span x y = ap (λ (v : ℕ). slice_index_or span v false) (xor_comm x y)

-- ---- one block
-- the codes up to v of home's block have it, and the others are as before
pub record AreSettled (span : List Bool) (home v : ℕ) (before homes : List ℕ) : Type 0 where
  pub settled : (x : ℕ) → x < length span → product_code home x < v → in_block span home x ≡ true → slice_index homes x ≡ home
  pub later : (x : ℕ) → x < length span → v ≤ product_code home x → slice_index homes x ≡ slice_index before x
  pub outside : (x : ℕ) → x < length span → in_block span home x ≡ false → slice_index homes x ≡ slice_index before x

module _ (span : List Bool) (home v : ℕ) (before homes : List ℕ) (h : AreSettled span home v before homes) where
  same_code : (x : ℕ) → product_code home x ≡ v → x ≡ product_code home v
  same_code x e = sym (product_code-back home x) ∙ ap (product_code home) e

  -- v is in the span
  pub settle_one : product_code home v < length homes → slice_index_or span v false ≡ true → AreSettled span home (v + 1) before (set homes (product_code home v) home)
  settle_one low is = record {
    settled = λ x l m e. elim (cases_eq x (product_code home v)) [
      | inl same ↦ ap (slice_index (set homes (product_code home v) home)) same ∙ get_or-set_same homes (product_code home v) home 0 low
      | inr d ↦ get_or-set_other homes (product_code home v) x home 0 d ∙ h.settled x l (let ne : product_code home x ≢ v = λ g. d (same_code x g) in omega arith) e
    ];
    later = λ x l m. get_or-set_other homes (product_code home v) x home 0 (λ g. let back : product_code home x ≡ v = ap (product_code home) g ∙ product_code-back home v in omega arith) ∙ h.later x l (omega arith);
    outside = λ x l e.
        get_or-set_other homes (product_code home v) x home 0
        (λ g. apart (ap (λ (w : ℕ). slice_index_or span w false) (ap (product_code home) g ∙ product_code-back home v) ∙ is) e)
        ∙ h.outside x l e;
  }

  -- or not
  pub settle_none : slice_index_or span v false ≡ false → AreSettled span home (v + 1) before homes
  settle_none not_in = record {
    settled = λ x l m e. elim (cases_eq (product_code home x) v) [
      | inl g ↦ absurd (apart (sym (ap (λ (w : ℕ). slice_index_or span w false) g) ∙ e) not_in)
      | inr d ↦ h.settled x l (omega arith) e
    ];
    later = λ x l m. h.later x l (omega arith);
    outside = h.outside;
  }

-- all of them
pub settled_all : (span : List Bool) (home v : ℕ) (before homes : List ℕ) → AreSettled span home v before homes → (x : ℕ) → x < length span → product_code home x < v
    → slice_index homes x ≡ (if in_block span home x then home else slice_index before x)
settled_all span home v before homes h x l m = by (in_block span home x) refl
  where
    by : (b : Bool) → in_block span home x ≡ b → slice_index homes x ≡ (if b then home else slice_index before x)
    by true e = h.settled x l m e
    by false e = h.outside x l e

-- ---- all blocks
-- a code without a home lies in no block of a code before, and a home is the least code of its block
pub record HasNoHome (span : List Bool) (code x home : ℕ) : Type 0 where
  pub none : home ≡ 255
  pub new : (y : ℕ) → y < code → in_block span y x ≡ false

pub record HasHome (span : List Bool) (code x home : ℕ) : Type 0 where
  pub low : home < code
  pub inside : in_block span home x ≡ true
  pub least : (y : ℕ) → y < home → in_block span y x ≡ false

abbrev pub AreFound : ℕ → List Bool → ℕ → List ℕ → Type 0
AreFound size span code homes = (x : ℕ) → x < size → HasNoHome span code x (slice_index homes x) ⊎ HasHome span code x (slice_index homes x)

module _ (size : ℕ) (span : List Bool) (s : MarksSubspace size span) where
  pub in_block-self : (x : ℕ) → in_block span x x ≡ true
  in_block-self x = ap (λ (v : ℕ). slice_index_or span v false) (xor_self x ∙ sym (xor_self 0)) ∙ s.zero

  -- a code with no home becomes that of its block
  pub find_new : (code : ℕ) (before homes : List ℕ) → AreFound size span code before → code < size → size ≤ 64 → slice_index before code ≡ 255
      → ((x : ℕ) → x < size → slice_index homes x ≡ (if in_block span code x then code else slice_index before x)) → AreFound size span (code + 1) homes
  find_new code before homes found low few none is x l = by (in_block span code x) refl
    where
      fresh : HasNoHome span code code (slice_index before code)
      fresh = elim (found code low) [ inl h ↦ h | inr h ↦ absurd (omega (arith, h.low)) ]

      at : (b : Bool) → in_block span code x ≡ b → slice_index homes x ≡ (if b then code else slice_index before x)
      at b e = is x l ∙ ap (λ (t : Bool). if t then code else slice_index before x) e

      least : in_block span code x ≡ true → (y : ℕ) → y < code → in_block span y x ≡ false
      least e y m = elim (cases_Bool (in_block span y x)) [
        | inl t ↦ absurd (apart (s.closed y x code (omega arith) l low t (in_block-swap span x code ∙ e)) (fresh.new y m))
        | inr f ↦ f
      ]

      new : in_block span code x ≡ false → HasNoHome span code x (slice_index before x) → (y : ℕ) → y < code + 1 → in_block span y x ≡ false
      new e h y m = elim (cases_eq y code) [ inl g ↦ ap (λ (q : ℕ). in_block span q x) g ∙ e | inr d ↦ h.new y (omega arith) ]

      by : (b : Bool) → in_block span code x ≡ b → HasNoHome span (code + 1) x (slice_index homes x) ⊎ HasHome span (code + 1) x (slice_index homes x)
      by true e = inr (subst (HasHome span (code + 1) x) (sym (at true e)) (record { low = omega arith; inside = e; least = least e }))
      by false e = elim (found x l) [
        | inl h ↦ inl (subst (HasNoHome span (code + 1) x) (sym (at false e)) (record { none = h.none; new = new e h }))
        | inr h ↦ inr (subst (HasHome span (code + 1) x) (sym (at false e)) (record { low = omega (arith, h.low); inside = h.inside; least = h.least }))
      ]

  -- a code with a home has it already
  pub find_old : (code : ℕ) (homes : List ℕ) → AreFound size span code homes → code < size → slice_index homes code ≢ 255 → AreFound size span (code + 1) homes
  find_old code homes found low d x l = elim (found x l) [
    | inl h ↦ inl (record { none = h.none; new = λ y m. elim (cases_eq y code) [ inl g ↦ ap (λ (q : ℕ). in_block span q x) g ∙ not_here h | inr e ↦ h.new y (omega arith) ] })
    | inr h ↦ inr (record { low = omega (arith, h.low); inside = h.inside; least = h.least })
  ]
    where
      own : HasHome span code code (slice_index homes code)
      own = elim (found code low) [ inl h ↦ absurd (d h.none) | inr h ↦ h ]

      not_here : HasNoHome span code x (slice_index homes x) → in_block span code x ≡ false
      not_here h = elim (cases_Bool (in_block span code x)) [
        | inl t ↦ absurd (apart (s.closed (slice_index homes code) code x (omega (arith, own.low)) low l own.inside t) (h.new (slice_index homes code) own.low))
        | inr f ↦ f
      ]

  -- at the end each code has one, and two have the same exactly where they lie in one block
  pub found_homes : (code : ℕ) (homes : List ℕ) → code ≡ size → AreFound size span code homes → AreHomes size span homes
  found_homes code homes end found = record { below = λ x l. omega (arith, (home x l).low, end); inside = λ x l. (home x l).inside; same = λ x y l m. by x y l m (in_block span x y) refl }
    where
      home : (x : ℕ) → x < size → HasHome span code x (slice_index homes x)
      home x l = elim (found x l) [ inl h ↦ absurd (apart (in_block-self x) (h.new x (omega arith))) | inr h ↦ h ]

      low : (x : ℕ) → x < size → slice_index homes x < size
      low x l = omega (arith, (home x l).low, end)

      one : (x y : ℕ) → x < size → y < size → in_block span x y ≡ true → slice_index homes y ≡ slice_index homes x
      one x y l m e = elim (cases_order (slice_index homes y) (slice_index homes x)) [
        | inl g ↦ g
        | inr o ↦ elim o [
          | inl lt ↦ absurd (apart (s.closed (slice_index homes y) y x (low y m) m l (home y m).inside (in_block-swap span y x ∙ e)) ((home x l).least (slice_index homes y) lt))
          | inr gt ↦ absurd (apart (s.closed (slice_index homes x) x y (low x l) l m (home x l).inside e) ((home y m).least (slice_index homes x) gt))
        ]
      ]

      two : (x y : ℕ) → x < size → y < size → slice_index homes y ≡ slice_index homes x → in_block span x y ≡ true
      two x y l m g =
          s.closed x (slice_index homes x) y l (low x l) m (in_block-swap span x (slice_index homes x) ∙ (home x l).inside)
          (subst (λ (h : ℕ). in_block span h y ≡ true) g (home y m).inside)

      by : (x y : ℕ) → x < size → y < size → (b : Bool) → in_block span x y ≡ b → (slice_index homes y == slice_index homes x) ≡ in_block span x y
      by x y l m true e = eq-eqb (slice_index homes y) (slice_index homes x) (one x y l m e) ∙ sym e
      by x y l m false e = ne_eqb (slice_index homes y) (slice_index homes x) (λ g. apart (two x y l m g) e) ∙ sym e

-- ---- spans
-- the span of a word's letters marks a subspace
pub span_marks : (n : ℕ) (word : List ℕ) (span : List Bool) → AreSpan n word span → MarksSubspace (4 ^ n) span
span_marks n word span are = record {
  long = are.long;
  zero = (are.tells 0 (codes_some n)).1 (span_subspace word).zero;
  closed = λ x y z l m k e g.
      (are.tells (product_code x z) (product_code-lt n x z l k)).1
      (subst (IsInSpan word) (between x y z)
      ((span_subspace word).closed (product_code x y) (product_code y z) ((are.tells (product_code x y) (product_code-lt n x y l m)).0 e) ((are.tells (product_code y z) (product_code-lt n y z m k)).0 g)));
}
  where
    between : (x y z : ℕ) → product_code (product_code x y) (product_code y z) ≡ product_code x z
    between x y z = xor_assoc x y (product_code y z) ∙ ap (product_code x) (product_code-back y z)
