-- Lemmas for the crates above: tables with one entry in each column, 1 or −1, under gates, and those that gates build.
use Rattle.std.proofs.Common.{◌≡◌, ◌≢◌, ℕ, ◌+◌, ◌^◌, ◌<◌, ◌≤◌, Bool, true, false, List, [], ◌∷◌, refl, ap, sym, ◌∙◌, inl, inr, arith}
use Rattle.std.specs.List.{AllByRecursion}
use Rattle.std.proofs.lemmas.Bool.{cases_eq}
use Rattle.ring_laws.specs.Matrix.{identity, Agree}
use Rattle.tc_ring.specs.Surds.{Surd, surds, one_surd, zero_surd}
use Rattle.pauli_basis.specs.Products.{Signed}
use Rattle.channel_rep.specs.declared.gate.ChannelGate.{ChannelGate}
use Rattle.channel_rep.specs.declared.gate.ChannelGate.TheVariants.{H, S, Sdg, Cx}
use Rattle.channel_rep.specs.Cells.{IsUnit, HasOneUnit}
use Rattle.channel_rep.specs.Gates.{GateFits, image, positive}
use Rattle.channel_rep.specs.Rows.{moved}
use Rattle.channel_rep.specs.Tables.{ScaledTable, by_gate, signed, turned_over, stepped, built_on, built}
use Rattle.channel_rep.proofs.Images.{image-lt, image-image}
use Rattle.channel_rep.proofs.Rules.{one_at, zero_at, gate_rule}
use Rattle.channel_rep.proofs.Signs.{signed-zero, signed-signed}
use Rattle.tc_bridge.specs.Block.{as_gates, undone}
use Rattle.tc_bridge.specs.Steps.{steps_of}
use Rattle.channel_rep.specs.Conjugations.{conjugated, conjugated_by}
use Rattle.tc_bridge.proofs.Conjugations.{undone_fits}
use Rattle.tc_bridge.proofs.Codes.{conjugated_by-lt, conjugated_by-undone, undone-conjugated_by, conjugated_code}

-- a column of a table has one entry, 1 or −1
pub record HasEntry (n : ℕ) (c : ScaledTable) (column : ℕ) (s : Signed) : Type 0 where
  pub below : s.code < 4 ^ n
  pub is : (row : ℕ) → row < 4 ^ n → c.table row column ≡ signed s.is_negative (identity surds row s.code)

module _ (n : ℕ) (some : 0 < n) (few : n ≤ 3) where
  -- a gate moves the entry to the image and multiplies the signs
  entry_gate : (g : ChannelGate) → GateFits n g → (c : ScaledTable) (q : ℕ) → q < 4 ^ n → (s : Signed) → HasEntry n c q s → HasEntry n (stepped n (by_gate g) c) q (conjugated n g s)
  unfolding moved
  entry_gate g fits c q l s h = record {
    below = image-lt n some few g fits s.code h.below;
    is = λ row lr.
        let from = (image n g row).code in
        let t = image n g s.code in
        gate_rule n some few g fits c.table row q lr
        ∙ ap (signed (image n g from).is_negative) (h.is from (image-lt n some few g fits row lr))
        ∙ elim (cases_eq row t.code) [
          | inl e ↦
              let back : from ≡ s.code = ap (λ (k : ℕ). (image n g k).code) e ∙ image-image n some few g fits s.code h.below in
              (λ i. signed (image n g (back i)).is_negative (signed s.is_negative (one_at from s.code back i)))
              ∙ signed-signed t.is_negative s.is_negative one_surd ∙ ap (signed (turned_over s.is_negative t.is_negative)) (sym (one_at row t.code e))
          | inr d ↦
              ap (λ (x : Surd). signed (image n g from).is_negative (signed s.is_negative x)) (zero_at from s.code (λ e. d (sym (image-image n some few g fits row lr) ∙ ap (λ (k : ℕ). (image n g k).code) e)))
              ∙ ap (signed (image n g from).is_negative) (signed-zero s.is_negative) ∙ signed-zero (image n g from).is_negative
              ∙ sym (ap (signed (turned_over s.is_negative t.is_negative)) (zero_at row t.code d) ∙ signed-zero (turned_over s.is_negative t.is_negative))
        ];
  }

  -- gates behind a table
  pub entry_gates : (gates : List ChannelGate) → AllByRecursion (GateFits n) gates → (c : ScaledTable) (q : ℕ) → q < 4 ^ n → (s : Signed) → HasEntry n c q s
      → HasEntry n (built_on n c (steps_of (as_gates gates))) q (conjugated_by n gates s)
  entry_gates [] fits c q l s h = h
  entry_gates (H j ∷ gates) fits c q l s h = entry_gates gates fits.1 _ q l _ (entry_gate (H j) fits.0 c q l s h)
  entry_gates (S j ∷ gates) fits c q l s h = entry_gates gates fits.1 _ q l _ (entry_gate (S j) fits.0 c q l s h)
  entry_gates (Sdg j ∷ gates) fits c q l s h = entry_gates gates fits.1 _ q l _ (entry_gate (Sdg j) fits.0 c q l s h)
  entry_gates (Cx j k ∷ gates) fits c q l s h = entry_gates gates fits.1 _ q l _ (entry_gate (Cx j k) fits.0 c q l s h)

  -- the identity's entries
  positive_entry : (q : ℕ) → q < 4 ^ n → HasEntry n (built n []) q (positive q)
  unfolding signed
  positive_entry q l = record { below = l; is = λ row h. refl }

  -- gates by themselves
  pub entry_built : (gates : List ChannelGate) → AllByRecursion (GateFits n) gates → (q : ℕ) → q < 4 ^ n → HasEntry n (built n (steps_of (as_gates gates))) q (conjugated_by n gates (positive q))
  entry_built gates fits q l = entry_gates gates fits (built n []) q l (positive q) (positive_entry q l)

-- nothing more
zero_more : (c : ScaledTable) → 0 + c.exponent ≡ c.exponent
zero_more c = omega arith

-- gates divide by no root
pub gates_exponent : (n : ℕ) (gates : List ChannelGate) (c : ScaledTable) → (built_on n c (steps_of (as_gates gates))).exponent ≡ c.exponent
gates_exponent n [] c = refl
gates_exponent n (H j ∷ gates) c = gates_exponent n gates _ ∙ zero_more c
gates_exponent n (S j ∷ gates) c = gates_exponent n gates _ ∙ zero_more c
gates_exponent n (Sdg j ∷ gates) c = gates_exponent n gates _ ∙ zero_more c
gates_exponent n (Cx j k ∷ gates) c = gates_exponent n gates _ ∙ zero_more c

-- a table whose entries are at the columns themselves is the identity
pub identity_from_entries : (n : ℕ) (c : ScaledTable) → ((q : ℕ) → q < 4 ^ n → HasEntry n c q (positive q)) → Agree surds (4 ^ n) c.table (identity surds)
unfolding signed
identity_from_entries n c h row q lr lq = (h q lq).is row lr

-- ---- units
unit_of : (b : Bool) (x : Surd) → x ≡ signed b one_surd → IsUnit x
unfolding signed
unit_of true x e = inr e
unit_of false x e = inl e

-- the entry of a column is a unit
at_entry : (n : ℕ) (c : ScaledTable) (q : ℕ) (s : Signed) (h : HasEntry n c q s) (row : ℕ) → row < 4 ^ n → row ≡ s.code → IsUnit (c.table row q)
at_entry n c q s h row l e = unit_of s.is_negative _ (h.is row l ∙ ap (signed s.is_negative) (one_at row s.code e))

-- and the others are 0
off_entry : (n : ℕ) (c : ScaledTable) (q : ℕ) (s : Signed) (h : HasEntry n c q s) (row : ℕ) → row < 4 ^ n → row ≢ s.code → c.table row q ≡ zero_surd
off_entry n c q s h row l d = h.is row l ∙ ap (signed s.is_negative) (zero_at row s.code d) ∙ signed-zero s.is_negative

module _ (n : ℕ) (some : 0 < n) (few : n ≤ 3) (gates : List ChannelGate) (fits : AllByRecursion (GateFits n) gates) where
  -- the table that the gates build
  abbrev m : ScaledTable
  m = built n (steps_of (as_gates gates))

  -- what the gates make of a code
  abbrev made : ℕ → Signed
  made q = conjugated_by n gates (positive q)

  -- and what their inverses do
  abbrev back : ℕ → Signed
  back p = conjugated_by n (undone gates) (positive p)

  -- the columns' entries
  entry : (q : ℕ) → q < 4 ^ n → HasEntry n m q (made q)
  entry q l = entry_built n some few gates fits q l

  -- the inverses keep to codes of n qubits
  back_lt : (p : ℕ) → p < 4 ^ n → (back p).code < 4 ^ n
  back_lt p l = conjugated_by-lt n some few (undone gates) (undone_fits n gates fits) (positive p) l

  -- the codes go there and back
  there : (p : ℕ) → p < 4 ^ n → (made (back p).code).code ≡ p
  there p l = conjugated_code n gates (positive (back p).code) (back p) refl ∙ ap (λ (s : Signed). s.code) (undone-conjugated_by n some few gates fits (positive p) l)

  -- and back and there
  here : (q : ℕ) → q < 4 ^ n → (back (made q).code).code ≡ q
  here q l = conjugated_code n (undone gates) (positive (made q).code) (made q) refl ∙ ap (λ (s : Signed). s.code) (conjugated_by-undone n some few gates fits (positive q) l)

  -- each column has one unit
  pub column_unit : (q : ℕ) → q < 4 ^ n → HasOneUnit (4 ^ n) (λ row. m.table row q)
  column_unit q l = record {
    place = (made q).code;
    below = (entry q l).below;
    unit = at_entry n m q (made q) (entry q l) (made q).code (entry q l).below refl;
    others = λ row h d. off_entry n m q (made q) (entry q l) row h d;
  }

  -- each row has one unit
  pub row_unit : (row : ℕ) → row < 4 ^ n → HasOneUnit (4 ^ n) (λ q. m.table row q)
  row_unit row l = record {
    place = (back row).code;
    below = back_lt row l;
    unit = at_entry n m (back row).code (made (back row).code) (entry (back row).code (back_lt row l)) row l (sym (there row l));
    others = λ q h d. off_entry n m q (made q) (entry q h) row l (λ e. d (sym (here q h) ∙ ap (λ (k : ℕ). (back k).code) (sym e)));
  }
