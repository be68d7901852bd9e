-- Lemmas for the crates above: sums, matrices and powers of √2 among the numbers of Z[ω].
use Rattle.std.proofs.Common.{◌≡◌, ℕ, zero, suc, ◌^◌, ◌<◌, Bool, true, false, ap, sym, ◌∙◌, inl, inr}
use Rattle.std.specs.Prelude.{pos}
use Rattle.std.proofs.lemmas.Bool.{cases_eq}
use Rattle.ring_laws.specs.Ring.{power}
use Rattle.ring_laws.specs.Matrix.{sum, product, identity}
use Rattle.ring_laws.specs.Cyclotomic.{cyclotomics, plus, times, root2}
use Rattle.ring_laws.proofs.Ring.{power-zero, power-suc}
use Rattle.ring_laws.proofs.Sums.{sum_cong}
use Rattle.tc_bridge.proofs.Identities.{identity_same, identity_apart}
use Rattle.ring_laws.proofs.Cyclotomic.{cyclotomics_laws as laws, negative_one-times, one-times}
use Rattle.tc_ring.specs.Surds.{Surd, surds, surd_times, root2_surd, embed}
use Rattle.tc_ring.proofs.Surds.{surds_laws, embed-plus, embed-times, embed-negative, embed-integer, embed-root2, embed_injective}
use Rattle.channel_rep.specs.Tables.{SurdTable, ScaledTable, SameTable, signed}
use Rattle.tc_bridge.specs.Pauli.{sign}

-- sums
embed-sum : (n : ℕ) (f : ℕ → Surd) → embed (sum surds n f) ≡ sum cyclotomics n (λ k. embed (f k))
unfolding sum
embed-sum zero f = embed-integer (pos 0)
embed-sum (suc n) f = embed-plus (sum surds n f) (f n) ∙ ap (λ x. plus x (embed (f n))) (embed-sum n f)

-- an entry of a product
pub embed-product : (n : ℕ) (a b : SurdTable) (r c : ℕ) → embed (product surds n a b r c) ≡ sum cyclotomics n (λ k. times (embed (a r k)) (embed (b k c)))
unfolding product
embed-product n a b r c = embed-sum n (λ k. surd_times (a r k) (b k c)) ∙ sum_cong laws n _ _ (λ k l. embed-times (a r k) (b k c))

-- the identity
pub embed-identity : (r c : ℕ) → embed (identity surds r c) ≡ identity cyclotomics r c
embed-identity r c = elim (cases_eq r c) [
  | inl e ↦ ap embed (identity_same surds_laws r c e) ∙ embed-integer (pos 1) ∙ sym (identity_same laws r c e)
  | inr d ↦ ap embed (identity_apart surds_laws r c d) ∙ embed-integer (pos 0) ∙ sym (identity_apart laws r c d)
]

-- powers of √2
pub embed-power : (k : ℕ) → embed (power surds root2_surd k) ≡ power cyclotomics root2 k
embed-power zero = ap embed (power-zero surds_laws root2_surd) ∙ embed-integer (pos 1) ∙ sym (power-zero laws root2)
embed-power (suc k) =
    ap embed (power-suc surds_laws root2_surd k) ∙ embed-times root2_surd (power surds root2_surd k)
    ∙ (λ i. times (embed-root2 i) (embed-power k i)) ∙ sym (power-suc laws root2 k)

-- a number with a sign
pub embed-signed : (b : Bool) (x : Surd) → embed (signed b x) ≡ times (sign b) (embed x)
unfolding signed sign
embed-signed true x = embed-negative x ∙ sym (negative_one-times (embed x))
embed-signed false x = sym (one-times (embed x))

-- ---- tables
scaled_embed : (k : ℕ) (x : Surd) → embed (surd_times (power surds root2_surd k) x) ≡ times (power cyclotomics root2 k) (embed x)
scaled_embed k x = embed-times (power surds root2_surd k) x ∙ ap (λ y. times y (embed x)) (embed-power k)

-- the same entries, among the numbers of Z[ω]
pub record SameEmbedded (n : ℕ) (a b : ScaledTable) : Type 0 where
  pub at : (p q : ℕ) → p < 4 ^ n → q < 4 ^ n → times (power cyclotomics root2 b.exponent) (embed (a.table p q)) ≡ times (power cyclotomics root2 a.exponent) (embed (b.table p q))

-- tables with the same entries have them there
pub same_embedded : (n : ℕ) (a b : ScaledTable) → SameTable n a b → SameEmbedded n a b
same_embedded n a b h = record { at = λ p q lp lq. sym (scaled_embed b.exponent (a.table p q)) ∙ ap embed (h p q lp lq) ∙ scaled_embed a.exponent (b.table p q) }

-- and the other way round
pub same_from_embedded : (n : ℕ) (a b : ScaledTable) → SameEmbedded n a b → SameTable n a b
same_from_embedded n a b h = λ p q lp lq. embed_injective _ _ (scaled_embed b.exponent (a.table p q) ∙ h.at p q lp lq ∙ sym (scaled_embed a.exponent (b.table p q)))
