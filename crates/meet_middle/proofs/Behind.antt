-- The least exponent behind an inverse rotation, by the number of divisions.
use Rattle.std.proofs.Common.{◌≡◌, ◌≢◌, ℕ, true, ◌+◌, ◌-◌, ◌^◌, ◌<◌, ◌≤◌, Bool, false, List, [], ◌∷◌, slice_index_or, refl, ap, sym, ◌∙◌, subst, arith}
use Rattle.pauli_basis.specs.Products.{commute}
use Rattle.tc_ring.specs.Surds.{surd_times}
use Rattle.channel_rep.specs.Cells.{ChannelGrid, scaled, table_of}
use Rattle.channel_rep.specs.Tables.{SurdTable, ScaledTable, by_inverse_rotation, stepped, SameTable, IsCircuitChannel}
use Rattle.channel_rep.specs.Rows.{rotated}
use Rattle.channel_rep.proofs.Built.{root2_to, root2_to-add}
use Rattle.channel_rep.proofs.Rules.{rotation_rule}
use Rattle.coset_label.specs.Labels.{HasLeastExponent}
use Rattle.level_laws.specs.Levels.{removed}
use Rattle.level_laws.proofs.Exponents.{reduced_least}
use Rattle.quick_label.specs.Letters.{HeldTurns}
use Rattle.quick_label.specs.ParityWords.{ParityWords, HoldsParities}
use Rattle.word_laws.specs.Divisions.{IsDivisionCount}
use Rattle.word_laws.proofs.Exponents.{exponent_by_divisions}
use Rattle.word_laws.proofs.Norms.{divisions_below}
use Rattle.meet_middle.specs.Remainders.{IsLeastExponentOf, IsRemainder}

module _ (n : ℕ) (some : 0 < n) (few : n ≤ 3) (p : ℕ) (good : (p < 4 ^ n) × (p ≢ 0)) (a : ScaledTable) (circuit : IsCircuitChannel n a) (divisions : ℕ) (count : IsDivisionCount n (rotated n true p a.table) divisions) where
  -- the divisions are at most the exponent and 1
  pub divisions_fit : divisions ≤ a.exponent + 1
  divisions_fit = divisions_below n some few true p good.0 good.1 a circuit divisions count

  -- the quotient over the exponent that is left
  behind : ScaledTable
  behind = record { table = count.divides.0; exponent = a.exponent + 1 - divisions }

  same : SameTable n behind (stepped n (by_inverse_rotation p) a)
  unfolding behind
  same row column l k =
      let parts : 1 + a.exponent ≡ (a.exponent + 1 - divisions) + divisions = omega (arith, divisions_fit) in
      ap (λ j. surd_times (root2_to j) (count.divides.0 row column)) parts
      ∙ root2_to-add (a.exponent + 1 - divisions) divisions (count.divides.0 row column)
      ∙ ap (surd_times (root2_to (a.exponent + 1 - divisions))) (count.divides.1 row column l k ∙ sym (rotation_rule n true p good.0 good.1 a.table row column l))

  -- is the least one
  pub exponent_told : HasLeastExponent n a → IsLeastExponentOf n (removed n a (p ∷ [])) (a.exponent + 1 - divisions)
  unfolding behind
  exponent_told least = record {
    reduced = behind;
    same = same;
    least = (exponent_by_divisions n true p good.0 good.1 a behind same least divisions count).1 refl;
    is = refl;
  }

-- rows that commute with a letter, by its code
pub commuting_rows : (n k p code : ℕ) (flags : List Bool) → k ≡ n → code ≡ p
    → ((row : ℕ) → row < 4 ^ k → slice_index_or flags row false ≡ commute k code row) → (row : ℕ) → row < 4 ^ n → slice_index_or flags row false ≡ commute n p row
commuting_rows n k p code flags e d are row l = are row (subst (λ j. row < 4 ^ j) (sym e) l) ∙ (λ i. commute (e i) (d i) row)

-- what a number of divisions tells of a channel that is now by another name, whose exponent is read as e
pub record TellsExponent (now : ChannelGrid) (p divisions e : ℕ) : Type 0 where
  pub fits : divisions ≤ e + 1
  pub near : now.exponent ≤ e + 1 - divisions + 1
  pub least : IsLeastExponentOf now.qubits (removed now.qubits (scaled now) (p ∷ [])) (e + 1 - divisions)

pub told : (m now : ChannelGrid) (words : ParityWords) (held : HeldTurns) → IsRemainder m words → m ≡ now → held.qubits ≡ now.qubits
    → (q p code : ℕ) → q ≡ now.qubits → code ≡ p → code < 4 ^ q → p ≢ 0 → IsCircuitChannel now.qubits (scaled now)
    → (commuting : List Bool) → ((row : ℕ) → row < 4 ^ held.qubits → slice_index_or commuting row false ≡ commute held.qubits code row)
    → (divisions : ℕ)
    → ((n : ℕ) (inverse : Bool) (t : SurdTable) → HoldsParities n t words → ((row : ℕ) → row < 4 ^ n → slice_index_or commuting row false ≡ commute n p row) → IsDivisionCount n (rotated n inverse p t) divisions)
    → (e : ℕ) → e ≡ m.exponent → TellsExponent now p divisions e
told m now words held is view turns q p code own d below other circuit commuting rows divisions counts e read =
    let n = m.qubits in
    let low : p < 4 ^ n = subst (λ k. p < 4 ^ k) (own ∙ sym (ap (λ c. c.qubits) view)) (subst (λ k. k < 4 ^ q) d below) in
    let here : IsCircuitChannel n (scaled m) = subst (λ c. IsCircuitChannel c.qubits (scaled c)) (sym view) circuit in
    let count = counts n true (table_of m) is.parities (commuting_rows n held.qubits p code commuting (turns ∙ sym (ap (λ c. c.qubits) view)) d rows) in
    let fit = divisions_fit n is.some is.few p (low, other) (scaled m) here divisions count in
    let least = exponent_told n is.some is.few p (low, other) (scaled m) here divisions count (reduced_least m is.reduced) in
    record {
      fits = omega (arith, fit, read);
      near = omega (arith, fit, read, count.few, ap (λ c. c.exponent) view);
      least = subst (λ k. IsLeastExponentOf now.qubits (removed now.qubits (scaled now) (p ∷ [])) (k + 1 - divisions)) (sym read)
          (subst (λ c. IsLeastExponentOf c.qubits (removed c.qubits (scaled c) (p ∷ [])) (m.exponent + 1 - divisions)) view least);
    }
