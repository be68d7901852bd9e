-- Two circuits' channels lie in one coset exactly where a Clifford operator stands between them, and a Clifford operator
-- before a word moves behind a word as long.
use Rattle.std.proofs.Common.{◌≡◌, ℕ, ◌^◌, ◌<◌, ◌≤◌, List, [], ◌∷◌, ◌++◌, length, refl, sym, ◌∙◌, subst, arith}
use Rattle.std.specs.List.{AllByRecursion}
use Rattle.ring_laws.specs.Matrix.{product, identity}
use Rattle.ring_laws.proofs.Sums.{identity-product}
use Rattle.tc_ring.specs.Surds.{surds}
use Rattle.tc_ring.proofs.Surds.{surds_laws}
use Rattle.tc_circuit.specs.Gate as circuit
use Rattle.tc_circuit.specs.Model.{IsCircuit, t_count_of}
use Rattle.tc_circuit.specs.declared.circuit.Gate.{Gate}
use Rattle.channel_rep.specs.Gates.{GateFits, positive}
use Rattle.channel_rep.specs.Products.{table_product, identity_table}
use Rattle.channel_rep.specs.Tables.{SurdTable, ScaledTable, IsStep, built, built_on, SameTable, IsCircuitChannel}
use Rattle.channel_rep.specs.Words.{IsWord}
use Rattle.channel_rep.specs.declared.gate.ChannelGate.{ChannelGate}
use Rattle.channel_rep.proofs.Built.{same_table_sym, same_table_trans}
use Rattle.channel_rep.proofs.Conjugated.{conjugated_by-append}
use Rattle.channel_rep.proofs.Independent.{circuit_independent}
use Rattle.channel_rep.proofs.Products.{same_of, tables_right, tables_left, tables_assoc, identity-table, table-identity, built_append}
use Rattle.coset_label.specs.Cosets.{SameCoset, IsSignedPermutationTable}
use Rattle.coset_label.specs.Words.{word_steps, word_channel}
use Rattle.coset_label.proofs.InFront.{coset_before, coset_after, product_coset, built_on_coset}
use Rattle.coset_label.proofs.OneCoset.{same_coset_trans}
use Rattle.coset_label.proofs.WordChannels.{word_has_steps}
use Rattle.coset_label.proofs.Permutations.{coset_of_permutation, permutation_of_coset}
use Rattle.tc_bridge.specs.Block.{as_gates, undone, word_gates}
use Rattle.tc_bridge.specs.Steps.{steps_of}
use Rattle.tc_bridge.proofs.CliffordTables.{HasEntry, entry_built, gates_exponent, identity_from_entries}
use Rattle.tc_bridge.proofs.Codes.{undone-conjugated_by}
use Rattle.tc_bridge.proofs.Conjugations.{all-append, as_gates-append, undone_fits}
use Rattle.tc_circuit.proofs.Counts.{t_count-append}
use Rattle.tc_bridge.proofs.Counts.{word_count, word_circuit, clifford_count, clifford_circuit}
use Rattle.clifford_rest.proofs.TFree.{IsClifford, clifford_of}
use Rattle.level_laws.specs.Levels.{undo}
use Rattle.level_laws.proofs.Circuits.{HasWord, circuit_word, channel_word, circuits_joined, word_built}
use Rattle.level_laws.proofs.Follow.{word_is_circuit, off_circuit}
use Rattle.level_laws.proofs.Inverses.{put_back, taken_off}
use Rattle.meet_laws.specs.Laws.{DiffersByClifford, IsMovedWord}
use Rattle.meet_laws.proofs.Cliffords.{HasClifford, clifford_of_coset}

-- a word of no letters
empty : (w : List ℕ) → length w ≡ 0 → [] ≡ w
empty [] e = refl
empty (p ∷ w) e = absurd (omega arith)

module _ (n : ℕ) (some : 0 < n) (few : n ≤ 3) where
  -- ---- the coset of the identity
  -- a circuit without T gates has a channel in it
  pub lies_with_identity : (c : List Gate) → IsCircuit n c → t_count_of c ≡ 0 → SameCoset n (built n (steps_of c)) identity_table
  lies_with_identity c fits none =
      let w = circuit_word n some few c fits in
      subst (λ (v : List ℕ). SameCoset n (built n (steps_of c)) (word_channel n v)) (sym (empty w.word (w.long ∙ none))) w.coset

  -- a table in the coset of a word is the word before a circuit without T gates
  pub clifford_behind : (m : ScaledTable) (v : List ℕ) → IsWord n v → IsCircuitChannel n m → SameCoset n m (word_channel n v) → HasClifford n (built_on n m (undo v))
  clifford_behind m v h circuit same =
      clifford_of_coset n some few (built_on n m (undo v)) (off_circuit n some few m v h circuit)
      (coset_after n _ _ _ (built_on_coset n (undo v) m _ (coset_after n m _ _ same (same_table_sym n _ _ (table-identity n (word_channel n v))))) (taken_off n v h identity_table))

  -- ---- Clifford gates and their inverses
  -- the inverses in reverse order and then the gates have the identity's channel
  undone_built : (v : List ChannelGate) → AllByRecursion (GateFits n) v → SameTable n (built n (steps_of (as_gates (undone v ++ v)))) identity_table
  undone_built v fits =
      let gates = undone v ++ v in
      let all = all-append (GateFits n) (undone v) v (undone_fits n v fits) fits in
      same_of n _ identity_table (gates_exponent n gates (built n []))
      (identity_from_entries n (built n (steps_of (as_gates gates))) (λ q l.
      subst (HasEntry n (built n (steps_of (as_gates gates))) q)
      (conjugated_by-append n (undone v) v (positive q) ∙ undone-conjugated_by n some few v fits (positive q) l)
      (entry_built n some few gates all q l)))

  -- so does their product
  gates_undone : (v : List ChannelGate) → AllByRecursion (GateFits n) v → SameTable n (table_product n (built n (steps_of (as_gates v))) (built n (steps_of (as_gates (undone v))))) identity_table
  gates_undone v fits =
      same_table_trans n _ (built n (steps_of (as_gates (undone v) ++ as_gates v))) _ (same_table_sym n _ _ (circuits_joined n some few (as_gates (undone v)) (as_gates v)))
      (subst (λ (c : List Gate). SameTable n (built n (steps_of c)) identity_table) (as_gates-append (undone v) v) (undone_built v fits))

  -- ---- a Clifford operator between two tables
  -- w·a, and w·b where b is undone by b', differ by b'·a
  between : (w a b b' : ScaledTable) → SameTable n (table_product n b b') identity_table → SameTable n (table_product n w a) (table_product n (table_product n w b) (table_product n b' a))
  between w a b b' undone = same_table_sym n _ _
      (same_table_trans n _ (table_product n w (table_product n b (table_product n b' a))) _ (tables_assoc n w b _)
      (tables_right n w _ _
      (same_table_trans n _ (table_product n (table_product n b b') a) _ (same_table_sym n _ _ (tables_assoc n b b' a))
      (same_table_trans n _ (table_product n identity_table a) _ (tables_left n _ _ a undone) (identity-table n a)))))

  -- what is left of two tables without a word of their coset, as circuits, makes the circuit between them
  join : (a b : ScaledTable) (w : List ℕ) → IsWord n w → HasClifford n (built_on n a (undo w)) → (g : HasClifford n (built_on n b (undo w))) → IsClifford n g.gates → DiffersByClifford n a b
  join a b w hw f g c =
      let front = word_channel n w in
      let back = as_gates (undone c.clifford) in
      let left : SameTable n (table_product n front (built n (steps_of f.gates))) a =
      same_table_trans n _ (table_product n front (built_on n a (undo w))) _ (tables_right n front _ _ f.same) (put_back n w hw a) in
      let right : SameTable n (table_product n front (built n (steps_of g.gates))) b =
      same_table_trans n _ (table_product n front (built_on n b (undo w))) _ (tables_right n front _ _ g.same) (put_back n w hw b) in
      let inverse : SameTable n (table_product n (built n (steps_of g.gates)) (built n (steps_of back))) identity_table =
      subst (λ (d : List Gate). SameTable n (table_product n (built n (steps_of d)) (built n (steps_of back))) identity_table) c.is (gates_undone c.clifford c.fits) in
      let gates = f.gates ++ back in
      let whole : SameTable n (built n (steps_of gates)) (table_product n (built n (steps_of back)) (built n (steps_of f.gates))) = circuits_joined n some few f.gates back in
      record {
        gates = gates;
        fits = all-append (circuit.Fits n) f.gates back f.fits (clifford_circuit n (undone c.clifford) (undone_fits n c.clifford c.fits));
        no_t = omega (arith, t_count-append f.gates back, f.no_t, clifford_count (undone c.clifford));
        product_is =
            same_table_trans n a _ _ (same_table_sym n _ _ left)
            (same_table_trans n _ (table_product n (table_product n front (built n (steps_of g.gates))) (table_product n (built n (steps_of back)) (built n (steps_of f.gates)))) _ (between front _ _ _ inverse)
            (same_table_trans n _ (table_product n b (table_product n (built n (steps_of back)) (built n (steps_of f.gates)))) _ (tables_left n _ _ _ right)
            (tables_right n b _ _ (same_table_sym n _ _ whole))));
      }

  -- tables of one coset
  pub clifford_between : (a b : ScaledTable) → IsCircuitChannel n a → IsCircuitChannel n b → SameCoset n a b → DiffersByClifford n a b
  clifford_between a b ha hb same =
      let w = channel_word n some few hb.0 hb.1 in
      let second = coset_before n b _ _ hb.2 w.coset in
      let f = clifford_behind a w.word w.is_word ha (same_coset_trans n a b _ same second) in
      let g = clifford_behind b w.word w.is_word hb second in
      join a b w.word w.is_word f g (clifford_of n g.gates g.fits g.no_t)

  -- and back
  pub coset_of_clifford : (a b : ScaledTable) → DiffersByClifford n a b → SameCoset n a b
  coset_of_clifford a b d =
      coset_before n a _ b d.product_is
      (coset_after n _ (table_product n b identity_table) b (product_coset n b _ _ (lies_with_identity d.gates d.fits d.no_t)) (table-identity n b))

  -- ---- a Clifford operator before a word
  -- moves behind a word as long, up to another one
  pub word_past : (m : ScaledTable) → HasClifford n m → (w : List ℕ) → IsWord n w → HasWord n (table_product n m (word_channel n w)) (length w)
  word_past m d w hw =
      let c = word_gates n w ++ d.gates in
      let v = circuit_word n some few c (all-append (circuit.Fits n) (word_gates n w) d.gates (word_circuit n some few w hw) d.fits) in
      let gates : SameTable n (built n (steps_of c)) (table_product n m (word_channel n w)) =
      same_table_trans n _ (table_product n (built n (steps_of d.gates)) (built n (steps_of (word_gates n w)))) _ (circuits_joined n some few (word_gates n w) d.gates)
      (same_table_trans n _ (table_product n m (built n (steps_of (word_gates n w)))) _ (tables_left n _ m _ d.same) (tables_right n m _ _ (word_built n some few w hw))) in
      record {
        word = v.word;
        is_word = v.is_word;
        long = omega (arith, v.long, t_count-append (word_gates n w) d.gates, word_count n w, d.no_t);
        coset = coset_before n _ _ _ (same_table_sym n _ _ gates) v.coset;
      }

  -- a table before a word is a circuit's channel where the table is
  before_word : (m : ScaledTable) → IsCircuitChannel n m → (w : List ℕ) → IsWord n w → IsCircuitChannel n (table_product n m (word_channel n w))
  before_word m circuit w hw = (
    word_steps w ++ circuit.0,
    all-append (IsStep n) (word_steps w) circuit.0 (word_has_steps n w hw) circuit.1,
    same_table_trans n _ (table_product n (built n circuit.0) (word_channel n w)) _ (tables_left n m _ _ circuit.2) (same_table_sym n _ _ (built_append n (word_steps w) circuit.0)),
  )

  -- the same of a signed permutation
  pub moved_word : (p : SurdTable) → IsSignedPermutationTable n p → IsCircuitChannel n (record { table = p; exponent = 0 }) → (w : List ℕ) → IsWord n w
      → (v : List ℕ) × IsMovedWord n (record { table = p; exponent = 0 }) w v
  moved_word p permutation circuit w hw =
      let m : ScaledTable = record { table = p; exponent = 0 } in
      let with_identity : SameCoset n m identity_table = coset_of_permutation n m identity_table (record {
        permutation = p;
        is = permutation;
        product_is = same_of n m (record { table = product surds (4 ^ n) (identity surds) p; exponent = 0 }) refl (λ r c l k. sym (identity-product surds_laws (4 ^ n) p r c l));
      }) in
      let v = word_past m (clifford_of_coset n some few m circuit with_identity) w hw in (
        v.word,
        record {
          word = v.is_word;
          long = v.long;
          differs =
              permutation_of_coset n _ _ (circuit_independent n some few _ (before_word m circuit w hw))
              (circuit_independent n some few _ (word_is_circuit n some few v.word v.is_word)) v.coset;
        },
      )
