-- Lemmas for the crates above: each circuit is a word of rotations behind a circuit without T gates, and each word has a
-- circuit.
use Rattle.std.proofs.Common.{◌≡◌, ◌≢◌, ℕ, suc, ◌+◌, ◌^◌, ◌<◌, ◌≤◌, List, [], ◌∷◌, ◌++◌, length, cond, Bool, true, false, not, ◌||◌, ◌==◌, eqb, eqb→eq, T as Holds, T_not, refl, ap, sym, ◌∙◌, subst, zero-add, add-zero, add-one, add_assoc}
use Rattle.std.proofs.lemmas.List.Sums.{sum_by-cons}
use Rattle.std.specs.List.{AllByRecursion}
use Rattle.std.specs.Prelude.{if◌then◌else◌}
use Rattle.ring_laws.specs.Ring.{power}
use Rattle.ring_laws.specs.Cyclotomic.{cyclotomics, times, ω, zero_number, one_number}
use Rattle.ring_laws.proofs.Ring.{power-add}
use Rattle.ring_laws.proofs.Cyclotomic.{cyclotomics_laws as laws, one-times, times-zero}
use Rattle.tc_circuit.specs.Gate.{gate_table, gate_exponent, diagonal_entry, is_t}
use Rattle.tc_circuit.specs.Gate as circuit
use Rattle.tc_circuit.specs.Bits.{has_bit}
use Rattle.tc_circuit.specs.Model.{ScaledMatrix, after, matrix_of, IsCircuit, t_count_of}
use Rattle.tc_circuit.proofs.Gates.{diagonal_product}
use Rattle.tc_circuit.specs.declared.circuit.Gate.{Gate}
use Rattle.channel_rep.specs.declared.gate.ChannelGate.{ChannelGate}
use Rattle.channel_rep.specs.declared.gate.ChannelGate.TheVariants.{H, S, Sdg, Cx}
use Rattle.channel_rep.specs.Gates.{GateFits, image}
use Rattle.pauli_basis.specs.Products.{turns}
use Rattle.pauli_basis.proofs.Small.{all, all_at}
use Rattle.channel_rep.specs.Words.{IsWord}
use Rattle.tc_bridge.specs.Rotation.{rotation, scaled_product, word_matrix}
use Rattle.tc_bridge.specs.Steps.{z_on}
use Rattle.tc_bridge.specs.Block.{as_gate, as_gates, block, word_gates}
use Rattle.tc_bridge.proofs.AllGates.{or_right}
use Rattle.tc_bridge.proofs.GateTerms.{all_cliffords, each_clifford, image-lt}
use Rattle.tc_bridge.proofs.CircuitChannels.{z_on-lt, z_on-nonzero}
use Rattle.tc_bridge.proofs.ScaledMatrices.{Equal, Near, one, equal_tables, equal-refl, equal-sym, ◌⊚◌, mul-left, mul-right, mul_assoc, one-mul, mul-one, near, ◌⊛◌, near-left, near-right}
use Rattle.tc_bridge.proofs.Appended.{gate_matrix, append_is, gate_is, cons_is}
use Rattle.tc_bridge.proofs.Conjugations.{plain_axis, gate_axis, as_gates-append, all-append}
use Rattle.tc_bridge.proofs.Blocks.{t_is, block_is}
use Rattle.tc_bridge.proofs.Negatives.{one_plus, one_minus, correction, correction_fits, corrected}

-- the matrix of Clifford gates
abbrev pub clifford_matrix : ℕ → List ChannelGate → ScaledMatrix
clifford_matrix n gates = matrix_of n (as_gates gates)

-- a Pauli on n qubits other than the identity
abbrev pub IsLetter : ℕ → ℕ → Type 0
IsLetter n p = (p < 4 ^ n) × (p ≢ 0)

-- ---- conjugation keeps letters
abbrev keeps_at : ℕ → ChannelGate → ℕ → Bool
keeps_at n g q = eqb q 0 || not (eqb (image n g q).code 0)

-- for each Pauli
abbrev keeps : ℕ → ChannelGate → Bool
keeps n g = all (4 ^ n) (keeps_at n g)

-- computed on one, two and three qubits
keeps_1 : Holds (all_cliffords 1 (keeps 1))
unfolding image turns
keeps_1 = tt

keeps_2 : Holds (all_cliffords 2 (keeps 2))
unfolding image turns
keeps_2 = tt

keeps_3 : Holds (all_cliffords 3 (keeps 3))
unfolding image turns
keeps_3 = tt

module _ (n : ℕ) (some : 0 < n) (few : n ≤ 3) where
  -- the image of a letter is a letter
  image_letter : (g : ChannelGate) → GateFits n g → (p : ℕ) → IsLetter n p → IsLetter n (image n g p).code
  image_letter g fits p h =
      let kept = or_right (eqb p 0) _ (λ k. h.1 (eqb→eq p 0 k)) (all_at (4 ^ n) (keeps_at n g) (each_clifford keeps keeps_1 keeps_2 keeps_3 n some few g fits) p h.0) in
      (image-lt n some few g fits p h.0, λ e. T_not (eqb (image n g p).code 0) kept (subst (λ (x : ℕ). Holds (eqb x 0)) (sym e) tt))

-- ---- Clifford gates past one letter: V·R(P) is R(P')·V' up to a power of ω
pub record PastLetter (n p : ℕ) (gates : List ChannelGate) : Type 0 where
  pub letter : ℕ
  pub rest : List ChannelGate
  pub good : IsLetter n letter
  pub fits : AllByRecursion (GateFits n) rest
  pub is : Near n (scaled_product n (clifford_matrix n gates) (rotation n p)) (scaled_product n (rotation n letter) (clifford_matrix n rest))

-- and past a word
pub record PastWord (n : ℕ) (word : List ℕ) (gates : List ChannelGate) : Type 0 where
  pub letters : List ℕ
  pub rest : List ChannelGate
  pub good : IsWord n letters
  pub fits : AllByRecursion (GateFits n) rest
  pub long : length letters ≡ length word
  pub is : Near n (scaled_product n (clifford_matrix n gates) (word_matrix n word)) (scaled_product n (word_matrix n letters) (clifford_matrix n rest))

-- Clifford gates behind others
clifford-append : (n : ℕ) (c d : List ChannelGate) → Equal n (clifford_matrix n (c ++ d)) (scaled_product n (clifford_matrix n d) (clifford_matrix n c))
clifford-append n c d = subst (λ (x : List Gate). Equal n (matrix_of n x) (scaled_product n (clifford_matrix n d) (clifford_matrix n c))) (sym (as_gates-append c d)) (append_is n (as_gates c) (as_gates d))

module _ (n : ℕ) (some : 0 < n) (few : n ≤ 3) where
  -- gate by gate
  pub past_letter : (gates : List ChannelGate) → AllByRecursion (GateFits n) gates → (p : ℕ) → IsLetter n p → PastLetter n p gates
  past_letter [] fits p h = record { letter = p; rest = []; good = h; fits = tt; is = near (one-mul (rotation n p) ⊚ equal-sym (mul-one (rotation n p))) }
  past_letter (g ∷ gates) fits p h = by (past_letter gates fits.1 (image n g p).code (image_letter n some few g fits.0 p h))
    where
      by : PastLetter n (image n g p).code gates → PastLetter n p (g ∷ gates)
      by ih =
          let s = image n g p in
          let good = image_letter n some few g fits.0 p h in
          let fix = correction n some few s.is_negative s.code in
          let u = gate_matrix (as_gate g) in
          let v = clifford_matrix n gates in
          record {
            letter = ih.letter;
            rest = g ∷ (fix ++ ih.rest);
            good = ih.good;
            fits = (fits.0, all-append (GateFits n) fix ih.rest (correction_fits n some few s.is_negative s.code good.0 good.1) ih.fits);
            is =
                near (mul-right (cons_is n (as_gate g) (as_gates gates)) (rotation n p) ⊚ mul_assoc v u (rotation n p))
                ⊛ near-left v (
                near (mul-left u (plain_axis n one_plus one_minus p 2) ⊚ gate_axis n some few g fits.0 one_plus one_minus (record { code = p; is_negative = false }) 2 h.0)
                ⊛ near-right (corrected n some few s.is_negative s.code good.0 good.1) u ⊛ near (mul_assoc (rotation n s.code) (clifford_matrix n fix) u))
                ⊛ near (equal-sym (mul_assoc v (rotation n s.code) (scaled_product n (clifford_matrix n fix) u)))
                ⊛ near-right ih.is (scaled_product n (clifford_matrix n fix) u)
                ⊛ near (mul_assoc (rotation n ih.letter) (clifford_matrix n ih.rest) (scaled_product n (clifford_matrix n fix) u)
                ⊚ mul-left (rotation n ih.letter) (
                equal-sym (mul_assoc (clifford_matrix n ih.rest) (clifford_matrix n fix) u) ⊚ mul-right (equal-sym (clifford-append n fix ih.rest)) u ⊚ equal-sym (cons_is n (as_gate g) (as_gates (fix ++ ih.rest)))));
          }

  -- letter by letter
  pub past_word : (word : List ℕ) (gates : List ChannelGate) → AllByRecursion (GateFits n) gates → IsWord n word → PastWord n word gates
  past_word [] gates fits good = record { letters = []; rest = gates; good = tt; fits = fits; long = refl; is = near (mul-one (clifford_matrix n gates) ⊚ equal-sym (one-mul (clifford_matrix n gates))) }
  past_word (p ∷ word) gates fits good = let s = past_letter gates fits p good.0 in join s (past_word word s.rest s.fits good.1)
    where
      join : (s : PastLetter n p gates) → PastWord n word s.rest → PastWord n (p ∷ word) gates
      join s ih =
          let v = clifford_matrix n gates in
          let w = word_matrix n word in
          record {
            letters = s.letter ∷ ih.letters;
            rest = ih.rest;
            good = (s.good, ih.good);
            fits = ih.fits;
            long = ap suc ih.long;
            is =
                near (equal-sym (mul_assoc v (rotation n p) w)) ⊛ near-right s.is w
                ⊛ near (mul_assoc (rotation n s.letter) (clifford_matrix n s.rest) w)
                ⊛ near-left (rotation n s.letter) ih.is
                ⊛ near (equal-sym (mul_assoc (rotation n s.letter) (word_matrix n ih.letters) (clifford_matrix n ih.rest)));
          }

-- ---- a matrix that is R(w)·D up to a power of ω, for a word w of t letters and a circuit D without T gates
pub record IsWorded (n : ℕ) (m : ScaledMatrix) (t : ℕ) : Type 0 where
  pub letters : List ℕ
  pub rest : List ChannelGate
  pub good : IsWord n letters
  pub fits : AllByRecursion (GateFits n) rest
  pub long : length letters ≡ t
  pub is : Near n m (scaled_product n (word_matrix n letters) (clifford_matrix n rest))

-- ---- one more gate
-- tdg is t behind sdg
tdg_is : (n q : ℕ) → Equal n (gate_matrix (Gate.Tdg q)) (scaled_product n (gate_matrix (Gate.T q)) (gate_matrix (Gate.Sdg q)))
unfolding diagonal_entry
tdg_is n q = equal_tables _ _ refl (record {
  at = λ r c lr lc.
      sym (diagonal_product (2 ^ n) q 1 (diagonal_entry q 6) r c lr ∙ by (r == c) (has_bit q r));
})
  where
    by : (same bit : Bool)
        → times (if bit then power cyclotomics ω 1 else one_number) (if same then (if bit then power cyclotomics ω 6 else one_number) else zero_number)
        ≡ (if same then (if bit then power cyclotomics ω 7 else one_number) else zero_number)
    by true true = sym (power-add laws ω 1 6)
    by true false = one-times one_number
    by false true = times-zero (power cyclotomics ω 1)
    by false false = times-zero one_number

module _ (n : ℕ) (some : 0 < n) (few : n ≤ 3) where
  -- a Clifford gate moves past the word
  clifford_more : (g : ChannelGate) → GateFits n g → (m : ScaledMatrix) (t : ℕ) → IsWorded n m t → IsWorded n (scaled_product n (gate_matrix (as_gate g)) m) t
  clifford_more g fits m t w = by (past_word n some few w.letters (g ∷ []) (fits, tt) w.good)
    where
      by : PastWord n w.letters (g ∷ []) → IsWorded n (scaled_product n (gate_matrix (as_gate g)) m) t
      by p =
          let u = gate_matrix (as_gate g) in
          let d = clifford_matrix n w.rest in
          record {
            letters = p.letters;
            rest = w.rest ++ p.rest;
            good = p.good;
            fits = all-append (GateFits n) w.rest p.rest w.fits p.fits;
            long = p.long ∙ w.long;
            is =
                near-left u w.is
                ⊛ near (equal-sym (mul_assoc u (word_matrix n w.letters) d) ⊚ mul-right (mul-right (equal-sym (gate_is n (as_gate g))) (word_matrix n w.letters)) d)
                ⊛ near-right p.is d
                ⊛ near (mul_assoc (word_matrix n p.letters) (clifford_matrix n p.rest) d ⊚ mul-left (word_matrix n p.letters) (equal-sym (clifford-append n w.rest p.rest)));
          }

  -- a t is one letter more
  t_more : (q : ℕ) → q < n → (m : ScaledMatrix) (t : ℕ) → IsWorded n m t → IsWorded n (scaled_product n (gate_matrix (Gate.T q)) m) (suc t)
  t_more q l m t w = record {
    letters = z_on q ∷ w.letters;
    rest = w.rest;
    good = ((z_on-lt n q l, z_on-nonzero q), w.good);
    fits = w.fits;
    long = ap suc w.long;
    is =
        near-left (gate_matrix (Gate.T q)) w.is
        ⊛ near (mul-right (t_is n some few q l) _ ⊚ equal-sym (mul_assoc (rotation n (z_on q)) (word_matrix n w.letters) (clifford_matrix n w.rest)));
  }

  -- an equal matrix
  same_worded : {a b : ScaledMatrix} {t : ℕ} → Equal n a b → IsWorded n b t → IsWorded n a t
  same_worded h w = record { letters = w.letters; rest = w.rest; good = w.good; fits = w.fits; long = w.long; is = near h ⊛ w.is }

  -- any gate: one letter more for a T gate
  gate_more : (g : Gate) → circuit.Fits n g → (m : ScaledMatrix) (t : ℕ) → IsWorded n m t → IsWorded n (scaled_product n (gate_matrix g) m) (t + cond (is_t g) 1 0)
  gate_more (Gate.H q) f m t w = subst (IsWorded n _) (sym (add-zero t)) (clifford_more (H q) f m t w)
  gate_more (Gate.S q) f m t w = subst (IsWorded n _) (sym (add-zero t)) (clifford_more (S q) f m t w)
  gate_more (Gate.Sdg q) f m t w = subst (IsWorded n _) (sym (add-zero t)) (clifford_more (Sdg q) f m t w)
  gate_more (Gate.Cx a b) f m t w = subst (IsWorded n _) (sym (add-zero t)) (clifford_more (Cx a b) f m t w)
  gate_more (Gate.T q) f m t w = subst (IsWorded n _) (sym (add-one t)) (t_more q f m t w)
  gate_more (Gate.Tdg q) f m t w =
      subst (IsWorded n _) (sym (add-one t))
      (same_worded (mul-right (tdg_is n q) m ⊚ mul_assoc (gate_matrix (Gate.T q)) (gate_matrix (Gate.Sdg q)) m) (t_more q f _ t (clifford_more (Sdg q) f m t w)))

  -- the gates of a circuit, one after another
  worded_after : (gates : List Gate) (m : ScaledMatrix) (t : ℕ) → IsCircuit n gates → IsWorded n m t → IsWorded n (after n m gates) (t + t_count_of gates)
  worded_after [] m t fits w = subst (IsWorded n m) (sym (add-zero t)) w
  worded_after (g ∷ gates) m t fits w =
      subst (IsWorded n _) (add_assoc t (cond (is_t g) 1 0) (t_count_of gates) ∙ ap (λ (k : ℕ). t + k) (sym (sum_by-cons (λ x. cond (is_t x) 1 0) g gates)))
      (worded_after gates (scaled_product n (gate_matrix g) m) (t + cond (is_t g) 1 0) fits.1 (gate_more g fits.0 m t w))

  -- a circuit with t T gates is R(w)·D up to a power of ω
  pub circuit_worded : (gates : List Gate) → IsCircuit n gates → IsWorded n (matrix_of n gates) (t_count_of gates)
  circuit_worded gates fits =
      subst (IsWorded n (matrix_of n gates)) (zero-add (t_count_of gates))
      (worded_after gates one 0 fits (record { letters = []; rest = []; good = tt; fits = tt; long = refl; is = near (equal-sym (one-mul one)) }))

-- ---- the circuit of a word
module _ (n : ℕ) (some : 0 < n) (few : n ≤ 3) where
  -- the blocks of its letters have the matrix R(w), exactly
  pub word_gates_is : (word : List ℕ) → IsWord n word → Equal n (matrix_of n (word_gates n word)) (word_matrix n word)
  word_gates_is [] good = equal-refl one
  word_gates_is (p ∷ word) good =
      append_is n (word_gates n word) (block n p) ⊚ mul-right (block_is n some few p good.0.0 good.0.1) _ ⊚ mul-left (rotation n p) (word_gates_is word good.1)
