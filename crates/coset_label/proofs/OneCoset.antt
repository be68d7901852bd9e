-- Lemmas for the crates above: to lie in one coset is an equivalence on tables, and on words.
use Rattle.std.proofs.Common.{◌≡◌, ℕ, Bool, false, List, ap, sym, ◌∙◌}
use Rattle.ring_laws.proofs.Ring.{mul_left_comm}
use Rattle.tc_ring.specs.Surds.{Surd, surd_times}
use Rattle.tc_ring.proofs.Surds.{surds_laws, cancel_root2_power}
use Rattle.channel_rep.specs.Tables.{ScaledTable, SameTable, signed, turned_over}
use Rattle.channel_rep.proofs.Built.{root2_to, same_table_refl}
use Rattle.channel_rep.proofs.Signs.{signed-twice, signed-signed, times-signed}
use Rattle.coset_label.specs.Cosets.{IsColumnUpToSign, HasColumnsOf, SameCoset, SameCosetWords}
use Rattle.coset_label.specs.Words.{word_channel}

-- two factors change places under a sign
swap_signed : (b : Bool) (x y z : Surd) → surd_times x (signed b (surd_times y z)) ≡ signed b (surd_times y (surd_times x z))
swap_signed b x y z = times-signed b x (surd_times y z) ∙ ap (signed b) (mul_left_comm surds_laws x y z)

-- a column of a column: the power of √2 of the table in the middle cancels
pub column_trans : (n : ℕ) (a b d : ScaledTable) (p q r : ℕ) → IsColumnUpToSign n a p b q → IsColumnUpToSign n b q d r → IsColumnUpToSign n a p d r
column_trans n a b d p q r first second = record {
  negative = turned_over second.negative first.negative;
  cells = λ row l. cancel_root2_power b.exponent _ _ (
      mul_left_comm surds_laws (root2_to b.exponent) (root2_to d.exponent) (a.table row p)
      ∙ ap (surd_times (root2_to d.exponent)) (first.cells row l)
      ∙ swap_signed first.negative (root2_to d.exponent) (root2_to a.exponent) (b.table row q)
      ∙ ap (λ x. signed first.negative (surd_times (root2_to a.exponent) x)) (second.cells row l)
      ∙ ap (signed first.negative) (swap_signed second.negative (root2_to a.exponent) (root2_to b.exponent) (d.table row r))
      ∙ signed-signed first.negative second.negative _
      ∙ sym (times-signed _ (root2_to b.exponent) (surd_times (root2_to a.exponent) (d.table row r))));
}

-- the same the other way round
pub column_sym : (n : ℕ) (a b : ScaledTable) (p q : ℕ) → IsColumnUpToSign n a p b q → IsColumnUpToSign n b q a p
column_sym n a b p q is = record {
  negative = is.negative;
  cells = λ row l. sym (signed-twice is.negative _) ∙ ap (signed is.negative) (sym (is.cells row l));
}

-- what has the columns of a table has those of a third
columns_trans : (n : ℕ) (a b d : ScaledTable) → HasColumnsOf n b a → HasColumnsOf n d b → HasColumnsOf n d a
columns_trans n a b d first second column l =
    let middle = first column l in
    let last = second middle.0 middle.1 in
    (last.0, last.1, column_trans n a b d column middle.0 last.0 middle.2 last.2)

-- ---- the laws
pub same_coset_sym : (n : ℕ) (a b : ScaledTable) → SameCoset n a b → SameCoset n b a
same_coset_sym n a b same = record { there = same.back; back = same.there }

-- through a third table
pub same_coset_trans : (n : ℕ) (a b d : ScaledTable) → SameCoset n a b → SameCoset n b d → SameCoset n a d
same_coset_trans n a b d first second = record {
  there = columns_trans n a b d first.there second.there;
  back = columns_trans n d b a second.back first.back;
}

-- tables that are the same lie in one coset
pub same_coset_of_same : (n : ℕ) (a b : ScaledTable) → SameTable n a b → SameCoset n a b
unfolding signed
same_coset_of_same n a b same = record {
  there = λ column l. (column, l, record { negative = false; cells = λ row m. same row column m l });
  back = λ column l. (column, l, record { negative = false; cells = λ row m. sym (same row column m l) });
}

-- a table lies in its own coset
pub same_coset_refl : (n : ℕ) (a : ScaledTable) → SameCoset n a a
same_coset_refl n a = same_coset_of_same n a a (same_table_refl n a)

-- ---- the same of words
pub coset_refl : (n : ℕ) (v : List ℕ) → SameCosetWords n v v
coset_refl n v = same_coset_refl n (word_channel n v)

pub coset_sym : (n : ℕ) (v w : List ℕ) → SameCosetWords n v w → SameCosetWords n w v
coset_sym n v w = same_coset_sym n (word_channel n v) (word_channel n w)

pub coset_trans : (n : ℕ) (u v w : List ℕ) → SameCosetWords n u v → SameCosetWords n v w → SameCosetWords n u w
coset_trans n u v w = same_coset_trans n (word_channel n u) (word_channel n v) (word_channel n w)
