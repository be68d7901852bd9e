-- Lemmas for the crates above: cells divided by √2, several times.
use Rattle.std.proofs.Common.{◌≡◌, ℕ, ◌+◌, ◌-◌, ◌≤◌, ap, ◌∙◌, arith}
use Rattle.ring_laws.specs.Ring.{power}
use Rattle.ring_laws.proofs.Ring.{one-mul}
use Rattle.tc_ring.specs.Surds.{Surd, surds, surd_times, root2_surd}
use Rattle.tc_ring.proofs.Surds.{surds_laws, surd_times_assoc}
use Rattle.channel_rep.proofs.Built.{root2_to, root2_to-add}

-- once: x is √2·x', and so √2^j·x is √2^(j+1)·x'
pub once_more : (j i : ℕ) (x x' y : Surd) → i ≡ j + 1 → surd_times root2_surd x' ≡ x → surd_times (root2_to j) x ≡ y → surd_times (root2_to i) x' ≡ y
unfolding power
once_more j i x x' y e h g =
    ap (λ k. surd_times (root2_to k) x') e ∙ root2_to-add j 1 x'
    ∙ ap (surd_times (root2_to j)) (surd_times_assoc root2_surd (power surds root2_surd 0) x' ∙ ap (surd_times root2_surd) (one-mul surds_laws x') ∙ h) ∙ g

-- no time at all
pub not_yet : (k : ℕ) (x : Surd) → surd_times (root2_to (k - k)) x ≡ x
unfolding power
not_yet k x = let e : k - k ≡ 0 = omega arith in ap (λ j. surd_times (root2_to j) x) e ∙ one-mul surds_laws x

-- brought to one exponent
pub brought : (k j : ℕ) (x y : Surd) → k ≤ j → surd_times (root2_to (j - k)) x ≡ y → surd_times (root2_to j) x ≡ surd_times (root2_to k) y
brought k j x y l h =
    let e : j ≡ k + (j - k) = omega arith in
    ap (λ i. surd_times (root2_to i) x) e ∙ root2_to-add k (j - k) x ∙ ap (surd_times (root2_to k)) h
