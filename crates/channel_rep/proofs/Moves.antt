-- The rows that a run of gates moves.
use Rattle.std.proofs.Common.{◌≡◌, ◌≢◌, ◌⊎◌, ℕ, zero, suc, ◌+◌, ◌^◌, ◌<◌, ◌≤◌, Bool, false, List, [], ◌∷◌, ◌++◌, refl, ap, sym, ◌∙◌, subst, inl, inr, append_assoc, arith}
use Rattle.std.proofs.lemmas.List.{append-nil}
use Rattle.std.specs.List.{AllByRecursion}
use Rattle.std.proofs.lemmas.Bool.{cases_eq}
use Rattle.tc_ring.specs.Surds.{Surd, surd_times}
use Rattle.tc_ring.specs.declared.root2.Root2.{Root2}
use Rattle.pauli_basis.specs.Products.{Signed}
use Rattle.channel_rep.specs.Gates.{GateFits, image, positive}
use Rattle.channel_rep.specs.Tables.{ScaledTable, Step, by_gate, stepped, built_on, SameTable, IsBuiltOf, signed}
use Rattle.channel_rep.specs.Rows.{moved}
use Rattle.channel_rep.specs.Cells.{cell_of, entries}
use Rattle.channel_rep.specs.Changes.{ChangesRow}
use Rattle.channel_rep.specs.Conjugations.{conjugated, conjugated_by, gate_steps, PauliMap, image_of, IsPauliMap, IsConjugationBy, MovesRows}
use Rattle.channel_rep.specs.declared.gate.ChannelGate.{ChannelGate}
use Rattle.channel_rep.proofs.Images.{image-lt, image-image}
use Rattle.channel_rep.proofs.Signs.{signed-signed}
use Rattle.channel_rep.proofs.Rules.{gate_rule}
use Rattle.channel_rep.proofs.Built.{built_more, built_same, root2_to}

-- no sign
plain : (x : Surd) → x ≡ signed false x
unfolding signed
plain x = refl

-- the exponent stays
gates-exponent : (n : ℕ) (gates : List ChannelGate) (m : ScaledTable) → (built_on n m (gate_steps gates)).exponent ≡ m.exponent
gates-exponent n [] m = refl
gates-exponent n (g ∷ gates) m = gates-exponent n gates (stepped n (by_gate g) m) ∙ (omega arith)

-- a list of steps, and then gates
gates_built : (n : ℕ) (gates : List ChannelGate) (steps : List Step) (m : ScaledTable) → IsBuiltOf n steps m → IsBuiltOf n (steps ++ gate_steps gates) (built_on n m (gate_steps gates))
gates_built n [] steps m h = subst (λ (s : List Step). IsBuiltOf n s m) (sym (append-nil steps)) h
gates_built n (g ∷ gates) steps m h =
    subst (λ (s : List Step). IsBuiltOf n s (built_on n m (gate_steps (g ∷ gates)))) (append_assoc steps (by_gate g ∷ []) (gate_steps gates))
    (gates_built n gates (steps ++ by_gate g ∷ []) (stepped n (by_gate g) m) (built_more n steps (by_gate g) m (stepped n (by_gate g) m) refl (λ r c l k. refl) h))

module _ (n : ℕ) (some : 0 < n) (few : n ≤ 3) where
  -- a row goes to its image, with its sign
  gate_moves : (g : ChannelGate) → GateFits n g → (m : ScaledTable) (s : Signed) (c : ℕ) (x : Surd) → s.code < 4 ^ n → m.table s.code c ≡ signed s.is_negative x
      → (stepped n (by_gate g) m).table (conjugated n g s).code c ≡ signed (conjugated n g s).is_negative x
  unfolding moved
  gate_moves g fits m s c x l h =
      gate_rule n some few g fits m.table (image n g s.code).code c (image-lt n some few g fits s.code l)
      ∙ ap (λ k. signed (image n g k).is_negative (m.table k c)) (image-image n some few g fits s.code l)
      ∙ ap (signed (image n g s.code).is_negative) h ∙ signed-signed (image n g s.code).is_negative s.is_negative x

  -- the same of gates one after another
  gates_move : (gates : List ChannelGate) → AllByRecursion (GateFits n) gates → (m : ScaledTable) (s : Signed) (c : ℕ) (x : Surd) → s.code < 4 ^ n → m.table s.code c ≡ signed s.is_negative x
      → (built_on n m (gate_steps gates)).table (conjugated_by n gates s).code c ≡ signed (conjugated_by n gates s).is_negative x
  gates_move [] fits m s c x l h = h
  gates_move (g ∷ gates) fits m s c x l h =
      gates_move gates fits.1 (stepped n (by_gate g) m) (conjugated n g s) c x (image-lt n some few g fits.0 s.code l) (gate_moves g fits.0 m s c x l h)

-- a number below a bound with this value, or none
found : (f : ℕ → ℕ) (q bound : ℕ) → ((p : ℕ) × (p < bound) × (f p ≡ q)) ⊎ ((p : ℕ) → p < bound → f p ≢ q)
found f q zero = inr (λ p l. absurd (omega arith))
found f q (suc bound) = elim (cases_eq (f bound) q) [
  | inl e ↦ inl (bound, omega arith, e)
  | inr d ↦ elim (found f q bound) [
    | inl h ↦ let l = h.1 in inl (h.0, omega arith, h.2)
    | inr none ↦ inr (λ p l. elim (cases_eq p bound) [ inl e ↦ subst (λ k. f k ≢ q) (sym e) d | inr apart ↦ none p (omega arith) ])
  ]
]

module _ (by : PauliMap) (valid : IsPauliMap by) where
  -- the code whose image this is
  pub source : (q : ℕ) → q < 4 ^ by.qubits → (p : ℕ) × (p < 4 ^ by.qubits) × ((image_of by p).code ≡ q)
  source q l = elim (found (λ p. (image_of by p).code) q (4 ^ by.qubits)) [ inl h ↦ h | inr none ↦ absurd (valid.onto q l none) ]

  -- a table whose rows are moved is built of the gates
  pub moves_built : (gates : List ChannelGate) → IsConjugationBy gates by → (old new : ScaledTable) → new.exponent ≡ old.exponent → MovesRows by old.table new.table
      → (steps : List Step) → IsBuiltOf by.qubits steps old → IsBuiltOf by.qubits (steps ++ gate_steps gates) new
  moves_built gates is old new e moves steps h =
      built_same by.qubits (steps ++ gate_steps gates) after new same (gates_built by.qubits gates steps old h)
    where
      after : ScaledTable
      after = built_on by.qubits old (gate_steps gates)

      entry : (r c : ℕ) → r < 4 ^ by.qubits → c < 4 ^ by.qubits → new.table r c ≡ after.table r c
      entry r c l k =
          let from = source r l in
          let p = from.0 in
          let row : (conjugated_by by.qubits gates (positive p)).code ≡ r = ap (λ (s : Signed). s.code) (sym (is.images p from.1)) ∙ from.2 in
          ap (λ j. new.table j c) (sym from.2) ∙ moves p c from.1 k
          ∙ ap (λ (s : Signed). signed s.is_negative (old.table p c)) (is.images p from.1)
          ∙ sym (gates_move by.qubits valid.some valid.few gates is.fit old (positive p) c (old.table p c) from.1 (plain (old.table p c)))
          ∙ ap (λ j. after.table j c) row

      same : SameTable by.qubits new after
      same r c l k = λ i. surd_times (root2_to ((gates-exponent by.qubits gates old ∙ sym e) i)) (entry r c l k i)

-- ---- one row after another
-- the first i rows stand at the rows of their images
abbrev pub MovedBelow : PauliMap → ℕ → List Root2 → List Root2 → Type 0
MovedBelow by i from cells = (p column : ℕ) → p < i → p < 4 ^ by.qubits → column < 4 ^ by.qubits
    → entries (4 ^ by.qubits) cells (image_of by p).code column ≡ signed (image_of by p).is_negative (entries (4 ^ by.qubits) from p column)

-- one row more, with a size and an image that are given by equations
pub moved_more : (by : PauliMap) (size row image : ℕ) (negative : Bool) (from old new lent : List Root2) → IsPauliMap by → size ≡ 4 ^ by.qubits → row < 4 ^ by.qubits
    → image ≡ (image_of by row).code → negative ≡ (image_of by row).is_negative → ((c : ℕ) → c < size → cell_of lent c ≡ entries size from row c)
    → MovedBelow by row from old → ChangesRow size image (λ c. signed negative (cell_of lent c)) old new → MovedBelow by (row + 1) from new
moved_more by size row image negative from old new lent valid e l to sign cells before given p c m inside k =
    elim (cases_eq p row) [
      | inl here ↦
          ap (λ (j : ℕ). entries (4 ^ by.qubits) new (image_of by j).code c) here
          ∙ ap (λ (j : ℕ). entries (4 ^ by.qubits) new j c) (sym to)
          ∙ step.row_is c k ∙ (λ i. signed (sign i) (at c k i))
          ∙ ap (λ (j : ℕ). signed (image_of by j).is_negative (entries (4 ^ by.qubits) from j c)) (sym here)
      | inr apart ↦
          step.others (image_of by p).code c (valid.below p inside) k (λ h. apart (valid.one_to_one p row inside l (h ∙ to)))
          ∙ before p c (omega arith) inside k
    ]
  where
    step : ChangesRow (4 ^ by.qubits) image (λ c. signed negative (cell_of lent c)) old new
    step = subst (λ size. ChangesRow size image (λ c. signed negative (cell_of lent c)) old new) e given

    at : (c : ℕ) → c < 4 ^ by.qubits → cell_of lent c ≡ entries (4 ^ by.qubits) from row c
    at = subst (λ (size : ℕ). (c : ℕ) → c < size → cell_of lent c ≡ entries size from row c) e cells
