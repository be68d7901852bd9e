-- Lemmas for the crates above: numbers with a sign.
use Rattle.std.proofs.Common.{◌≡◌, Bool, true, false, not, refl, ap, sym, ◌∙◌}
use Rattle.ring_laws.proofs.Ring.{one-mul, neg-mul, mul-neg, neg-neg}
use Rattle.tc_ring.specs.Surds.{Surd, surd_integer, surd_plus, surd_times, surd_negative, zero_surd, one_surd}
use Rattle.tc_ring.proofs.Surds.{surds_laws, surd_plus_comm, surd_plus-negative}
use Rattle.channel_rep.specs.Tables.{signed, turned_over}

-- with the sign
pub signed-true : (b : Bool) (x : Surd) → b ≡ true → surd_negative x ≡ signed b x
unfolding signed
signed-true true x e = refl
signed-true false x e = absurd cc

-- without it
pub signed-false : (b : Bool) (x : Surd) → b ≡ false → x ≡ signed b x
unfolding signed
signed-false true x e = absurd cc
signed-false false x e = refl

-- without it, by the opposite flag
pub signed-not_true : (b : Bool) (x : Surd) → b ≡ true → x ≡ signed (not b) x
unfolding signed
signed-not_true true x e = refl
signed-not_true false x e = absurd cc

-- with it, by the opposite flag
pub signed-not_false : (b : Bool) (x : Surd) → b ≡ false → surd_negative x ≡ signed (not b) x
unfolding signed
signed-not_false true x e = absurd cc
signed-not_false false x e = refl

-- a sign is a factor
pub signed_is : (b : Bool) (x : Surd) → signed b x ≡ surd_times (signed b one_surd) x
unfolding signed
signed_is true x = sym (neg-mul surds_laws one_surd x ∙ ap surd_negative (one-mul surds_laws x))
signed_is false x = sym (one-mul surds_laws x)

-- zero has no sign
pub signed-zero : (b : Bool) → signed b zero_surd ≡ zero_surd
unfolding signed surd_negative surd_integer
signed-zero true = refl
signed-zero false = refl

-- ---- two signs
-- a sign taken twice
pub signed-twice : (b : Bool) (x : Surd) → signed b (signed b x) ≡ x
unfolding signed
signed-twice true x = neg-neg surds_laws x
signed-twice false x = refl

-- two signs one after another
pub signed-signed : (a b : Bool) (x : Surd) → signed a (signed b x) ≡ signed (turned_over b a) x
unfolding signed
signed-signed true true x = neg-neg surds_laws x
signed-signed true false x = refl
signed-signed false true x = refl
signed-signed false false x = refl

-- a factor goes under a sign
pub times-signed : (b : Bool) (x y : Surd) → surd_times x (signed b y) ≡ signed b (surd_times x y)
unfolding signed
times-signed true x y = mul-neg surds_laws x y
times-signed false x y = refl

-- both signs add up to zero
pub signed-opposite : (b : Bool) (x : Surd) → surd_plus (signed b x) (signed (not b) x) ≡ zero_surd
unfolding signed
signed-opposite true x = surd_plus_comm (surd_negative x) x ∙ surd_plus-negative x
signed-opposite false x = surd_plus-negative x

-- only zero is zero with a sign
pub zero_of_signed : (b : Bool) (x : Surd) → signed b x ≡ zero_surd → x ≡ zero_surd
zero_of_signed b x e = sym (signed-twice b x) ∙ ap (signed b) e ∙ signed-zero b

-- a sign and its inverse
pub turned_over-not : (inverse b : Bool) → turned_over inverse (not b) ≡ not (turned_over inverse b)
turned_over-not true b = refl
turned_over-not false b = refl
