-- Lemmas for the crates above: codes conjugated by gates one after another.
use Rattle.std.proofs.Common.{◌≡◌, ℕ, ◌/◌, ◌%◌, ◌^◌, ◌<◌, ◌≤◌, ◌==◌, List, [], ◌∷◌, ◌++◌, refl, ap, sym, ◌∙◌, subst, arith}
use Rattle.std.specs.Prelude.{slice_index}
use Rattle.std.specs.List.{AllByRecursion}
use Rattle.pauli_basis.specs.Products.{Signed}
use Rattle.channel_rep.specs.Gates.{GateFits, image, positive}
use Rattle.channel_rep.specs.Tables.{turned_over}
use Rattle.channel_rep.specs.Conjugations.{conjugated, conjugated_by, pauli_in, PauliMap, image_of, IsPauliMap, IsConjugationBy}
use Rattle.channel_rep.specs.declared.gate.ChannelGate.{ChannelGate}
use Rattle.channel_rep.specs.declared.gate.ChannelGate.TheVariants.{H, S, Sdg, Cx}
use Rattle.channel_rep.proofs.Images.{image-lt, image-image, crossed_is}
use Rattle.channel_rep.proofs.Squares.{codes_few}

-- a Pauli and a sign, by parts
same_parts : (a b : Signed) → a.code ≡ b.code → a.is_negative ≡ b.is_negative → a ≡ b
same_parts a b e d = λ i. record { code = e i; is_negative = d i }

-- more qubits change no image
pub image-three : (n : ℕ) → n ≤ 3 → (g : ChannelGate) → GateFits n g → (code : ℕ) → code < 4 ^ n → image 3 g code ≡ image n g code
unfolding image
image-three n few (H q) fits code l = refl
image-three n few (S q) fits code l = refl
image-three n few (Sdg q) fits code l = refl
image-three n few (Cx control target) fits code l =
    let l3 : code < 64 = omega (arith, codes_few n few) in
    sym (crossed_is 3 control target code _ _ (omega arith) (omega (arith, fits.0)) (omega (arith, fits.1)) fits.2 l3 refl refl)
    ∙ crossed_is n control target code _ _ few fits.0 fits.1 fits.2 l refl refl

-- gates behind gates
pub conjugated_by-append : (n : ℕ) (c d : List ChannelGate) (s : Signed) → conjugated_by n (c ++ d) s ≡ conjugated_by n d (conjugated_by n c s)
conjugated_by-append n [] d s = refl
conjugated_by-append n (g ∷ c) d s = conjugated_by-append n c d (conjugated n g s)

-- gates that fit, and one more
fits-push : (n : ℕ) (c : List ChannelGate) (g : ChannelGate) → AllByRecursion (GateFits n) c → GateFits n g → AllByRecursion (GateFits n) (c ++ (g ∷ []))
fits-push n [] g fits fit = (fit, tt)
fits-push n (h ∷ c) g fits fit = (fits.0, fits-push n c g fits.1 fit)

-- ---- bytes
-- the map of these bytes
abbrev pub map_of : ℕ → List ℕ → PauliMap
map_of n bytes = record { qubits = n; bytes = bytes }

-- a byte below 64 holds itself, without a sign
pauli_in-code : (byte : ℕ) → byte < 64 → pauli_in byte ≡ positive byte
pauli_in-code byte l =
    let none : byte / 64 ≡ 0 = omega arith in
    same_parts _ _ (let e : byte % 64 ≡ byte = omega arith in e) (ap (λ k. k % 2 == 1) none)

module _ (n : ℕ) (some : 0 < n) (few : n ≤ 3) (bytes : List ℕ) (own : (p : ℕ) → p < 64 → slice_index bytes p ≡ p) where
  -- each code goes to itself
  pub identity_images : (p : ℕ) → p < 4 ^ n → image_of (map_of n bytes) p ≡ positive p
  identity_images p l = let h : p < 64 = omega (arith, codes_few n few) in ap pauli_in (own p h) ∙ pauli_in-code p h

  -- which is a map of Paulis
  pub identity_map : IsPauliMap (map_of n bytes)
  identity_map = record {
    some = some;
    few = few;
    below = λ p l. subst (λ k. k < 4 ^ n) (sym (ap (λ (s : Signed). s.code) (identity_images p l))) l;
    one_to_one = λ p q l h e. sym (ap (λ (s : Signed). s.code) (identity_images p l)) ∙ e ∙ ap (λ (s : Signed). s.code) (identity_images q h);
    onto = λ q l none. none q l (ap (λ (s : Signed). s.code) (identity_images q l));
  }

  -- and conjugation by no gate
  pub identity_by : IsConjugationBy [] (map_of n bytes)
  identity_by = record { fit = tt; images = identity_images }

module _ (n : ℕ) (g : ChannelGate) (fits : GateFits n g) (old new : List ℕ) (valid : IsPauliMap (map_of n old))
    (behind : (p : ℕ) → p < 64 → pauli_in (slice_index new p) ≡ conjugated 3 g (pauli_in (slice_index old p))) where
  -- the gate's images of the images
  pub behind_images : (p : ℕ) → p < 4 ^ n → image_of (map_of n new) p ≡ conjugated n g (image_of (map_of n old) p)
  behind_images p l =
      behind p (omega (arith, codes_few n valid.few))
      ∙ ap (λ (s : Signed). record { code = s.code; is_negative = turned_over (image_of (map_of n old) p).is_negative s.is_negative }) (image-three n valid.few g fits _ (valid.below p l))

  -- their codes
  behind_code : (p : ℕ) → p < 4 ^ n → (image_of (map_of n new) p).code ≡ (image n g (image_of (map_of n old) p).code).code
  behind_code p l = ap (λ (s : Signed). s.code) (behind_images p l)

  -- it is a map of Paulis
  pub behind_map : IsPauliMap (map_of n new)
  behind_map = record {
    some = valid.some;
    few = valid.few;
    below = λ p l. subst (λ k. k < 4 ^ n) (sym (behind_code p l)) (image-lt n valid.some valid.few g fits _ (valid.below p l));
    one_to_one = λ p q l h e.
        valid.one_to_one p q l h (
        sym (image-image n valid.some valid.few g fits _ (valid.below p l))
        ∙ ap (λ k. (image n g k).code) (sym (behind_code p l) ∙ e ∙ behind_code q h)
        ∙ image-image n valid.some valid.few g fits _ (valid.below q h)
        );
    onto = λ q l none.
        valid.onto (image n g q).code (image-lt n valid.some valid.few g fits q l) (λ p h e.
        none p h (behind_code p h ∙ ap (λ k. (image n g k).code) e ∙ image-image n valid.some valid.few g fits q l));
  }

  -- by one gate more
  pub behind_by : (gates : List ChannelGate) → IsConjugationBy gates (map_of n old) → IsConjugationBy (gates ++ (g ∷ [])) (map_of n new)
  behind_by gates by = record {
    fit = fits-push n gates g by.fit fits;
    images = λ p l. behind_images p l ∙ ap (conjugated n g) (by.images p l) ∙ sym (conjugated_by-append n gates (g ∷ []) (positive p));
  }
