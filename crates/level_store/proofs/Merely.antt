-- Lemmas for the crates above: what a level merely keeps, it keeps: each part has one proof, or a truth value tells it.
use Rattle.std.proofs.Common.{◌≡◌, ◌≢◌, ℕ, ◌<◌, Bool, true, not, ◌&&◌, ◌==◌, Decides, List, Contains, Option, None, Some, get_or, refl, sym, subst}
use Rattle.std.proofs.Props.{props}
use mathlib.Core.HLevel.{⊥_prop}
use Rattle.std.proofs.Math.Bool.{Bool-set}
use Rattle.std.proofs.Math.Logic.{∥∥₁_elim, ∥∥₁_map, ∥∥₁_prop}
use Rattle.std.proofs.Math.Nat.{ℕ_set}
use Rattle.std.proofs.Math.Bridge.{le_prop}
use Rattle.std.proofs.lemmas.Bool.Decides.{Decides-like, Decides-not, Decides-and, Decides-eqb, Decides-below_and, Decides-below_or}
use Rattle.std.proofs.lemmas.Map.Made.{is_member-Decides}
use Rattle.std.proofs.lemmas.Slice.Eq.{bytes_eq-Decides}
use Rattle.std.specs.Str.{bytes_eq}
use Rattle.coset_label.specs.Decided.{at_all, at_some}
use Rattle.coset_label.specs.Words.{RotationWord}
use Rattle.coset_table.specs.declared.close.Buckets.{Buckets}
use Rattle.coset_table.specs.declared.rule.Shape.{Shape}
use Rattle.coset_table.specs.BucketWords.{letters_of, IsBucketWord, home_of}
use Rattle.coset_table.specs.Buckets.{place}
use Rattle.coset_table.specs.Capacity.{IsShape}
use Rattle.coset_table.specs.Ends.{IsReached, Stands, words_in}
use Rattle.level_laws.specs.Levels.{IsLevel, level}
use Rattle.level_laws.proofs.AllWords.{level_is_filter}
use Rattle.level_laws.proofs.Decide.{decide_word}
use Rattle.level_laws.proofs.Finding.{truth_of, truth_decides}
use Rattle.level_laws.proofs.Growth.{one_level}
use Rattle.level_store.specs.declared.level.Level.{Level}
use Rattle.level_store.specs.Contents.{letters_of_all, HoldsAll, AreBucketsOf, IsStored}
use Rattle.level_store.specs.Filling.{shape_with}
use Rattle.level_store.specs.InOrder.{qubits_of, len_of, IsLevelOf}
use Rattle.level_store.specs.Stored.{words_of, letters_in, buckets_of}
use Rattle.level_store.proofs.Looks.{buckets_at}

-- a fact that a truth value tells
told : {P : Type 0} (r : Bool) → Decides r P → ∥ P ∥₁ → P
told r d t = d.0 (∥∥₁_elim t (Bool-set r true) d.1)

-- an element of a list of words
contained : (all : List (List ℕ)) (w : List ℕ) → ∥ Contains all w ∥₁ → Contains all w
contained all w = told _ (is_member-Decides bytes_eq-Decides all w)

module _ (shape : Shape) (words : List ℕ) where
  full : ℕ → Bool
  full k = not (get_or words k 0 == 0)

  full_decided : (k : ℕ) → Decides (full k) (get_or words k 0 ≢ 0)
  unfolding full
  full_decided k = Decides-not _ (Decides-eqb (get_or words k 0) 0)

  -- a bucket that holds a word
  standing : (w : List ℕ) → ∥ Stands shape words w ∥₁ → Stands shape words w
  standing w =
      let same : ℕ → Bool = λ k. bytes_eq (letters_of shape (get_or words k 0)) w in
      let test : ℕ → Bool = λ k. full k && same k in
      told (at_some test shape.capacity)
      (Decides-like _ (λ h. (h.0, (h.1, h.2.0), h.2.1)) (λ h. (h.0, h.1.0, (h.1.1, h.2)))
      (Decides-below_or test (λ k. (get_or words k 0 ≢ 0) × (letters_of shape (get_or words k 0) ≡ w)) (at_some test)
      (λ k. Decides-and (full k) (same k) (full_decided k) (bytes_eq-Decides (letters_of shape (get_or words k 0)) w)) refl (λ _. refl) shape.capacity))

  -- a probe that comes to a bucket
  reaching : (k : ℕ) → ∥ IsReached shape words k ∥₁ → IsReached shape words k
  reaching k =
      let at : ℕ → ℕ = place shape.capacity (home_of shape (get_or words k 0)) in
      let test : ℕ → Bool = λ d. (at d == k) && at_all (λ e. full (at e)) d in
      told (at_some test shape.capacity)
      (Decides-like _ (λ h. (h.0, h.1, h.2.0, h.2.1)) (λ h. (h.0, h.1, (h.2, h.3)))
      (Decides-below_or test (λ d. (at d ≡ k) × ((e : ℕ) → e < d → get_or words (at e) 0 ≢ 0)) (at_some test)
      (λ d. Decides-and (at d == k) (at_all (λ e. full (at e)) d) (Decides-eqb (at d) k)
      (Decides-below_and (λ e. full (at e)) (λ e. get_or words (at e) 0 ≢ 0) (at_all (λ e. full (at e))) (λ e. full_decided (at e)) refl (λ _. refl) d)) refl (λ _. refl) shape.capacity))

  -- a bucket word
  bucket_word : (number : ℕ) → ∥ IsBucketWord shape number ∥₁ → IsBucketWord shape number
  bucket_word number t =
      let d = decide_word shape.qubits (letters_of shape number) in
      record { word = told (truth_of d) (truth_decides d) (∥∥₁_map t (λ h. h.word)); of_word = ∥∥₁_elim t ∥∥₁_prop (λ h. h.of_word) }

  holding : (all : List (List ℕ)) → ∥ HoldsAll shape words all ∥₁ → HoldsAll shape words all
  holding all t = record {
    long = ∥∥₁_elim t (ℕ_set _ _) (λ h. h.long);
    valid = λ k is. bucket_word (get_or words k 0) (∥∥₁_map t (λ h. h.valid k is));
    exactly = λ w. (λ s. contained all w (∥∥₁_map t (λ h. (h.exactly w).0 s)), λ c. standing w (∥∥₁_map t (λ h. (h.exactly w).1 c)));
    once = λ j k a b same. ∥∥₁_elim t (ℕ_set _ _) (λ h. h.once j k a b same);
    reached = λ k is. reaching k (∥∥₁_map t (λ h. h.reached k is));
  }

-- the buckets of a level's words
bucketed : (n len : ℕ) (all : List (List ℕ)) (b : Buckets) → ∥ AreBucketsOf n len all b ∥₁ → AreBucketsOf n len all b
bucketed n len all b t =
    let words = words_in b in
    let shape = shape_with n len words in
    let at : AreBucketsOf n len all b → IsShape shape × HoldsAll shape words all = λ a. buckets_at n len all b words a refl in
    let fit : IsShape shape = ∥∥₁_elim t (hlevel (le_prop, props)) (λ a. (at a).0) in
    record { shape = shape; fit = fit; qubits = refl; len_is = refl; holds = holding shape words all (∥∥₁_map t (λ a. (at a).1)) }

-- no buckets
empty : (o : Option Buckets) → ∥ o ≡ None ∥₁ → o ≡ None
empty None t = refl
empty (Some b) t = absurd (∥∥₁_elim t ⊥_prop (λ (e : Some b ≡ None). (let f : ⊥ = cc in f)))

-- a stored level
keeping : (n k : ℕ) (list : List RotationWord) (table : Option Buckets) → ∥ IsStored n k list table ∥₁ → IsStored n k list table
keeping n k list table t = record {
  some = ∥∥₁_elim t le_prop (λ h. h.some);
  few = ∥∥₁_elim t le_prop (λ h. h.few);
  short = ∥∥₁_elim t le_prop (λ h. h.short);
  level = subst (IsLevel n k) (sym same) (level_is_filter n k);
  words = λ i d lt. ∥∥₁_elim t (ℕ_set _ _) (λ h. h.words i d lt);
  none = (λ e. ∥∥₁_elim t (ℕ_set _ _) (λ h. h.none.0 e), λ z. empty table (∥∥₁_map t (λ h. h.none.1 z)));
  buckets = λ b e. bucketed n k (letters_of_all list) b (∥∥₁_map t (λ h. h.buckets b e));
}
  where
    same : letters_of_all list ≡ level n k
    same = ∥∥₁_elim t (hlevel props) (λ h. one_level n k (letters_of_all list) (level n k) h.level (level_is_filter n k))

-- what each level keeps
pub stored_of : (l : Level) → IsStored (qubits_of l) (len_of l) (words_of l) (buckets_of l)
stored_of l = keeping (qubits_of l) (len_of l) (words_of l) (buckets_of l) l.stored

-- the same, by its number
pub stored_at : (n k : ℕ) (l : Level) → IsLevelOf n k l → IsStored n k (words_of l) (buckets_of l)
stored_at n k l is = subst (λ (z : ℕ × ℕ). IsStored z.0 z.1 (words_of l) (buckets_of l)) (λ i. (is.qubits i, is.len i)) (stored_of l)

-- what is known of a level's buckets, by the qubits of a word beside it
module _ (l : Level) (q : ℕ) (qubits : q ≡ qubits_of l) where
  pub level_beside : IsStored q (len_of l) (words_of l) (buckets_of l)
  level_beside = stored_at q (len_of l) l (record { qubits = sym qubits; len = refl })

  pub buckets_beside : (b : Buckets) → buckets_of l ≡ Some b → (words : List ℕ) → words ≡ words_in b → IsShape (shape_with q (len_of l) words) × HoldsAll (shape_with q (len_of l) words) words (letters_in l)
  buckets_beside b is words e = buckets_at q (len_of l) (letters_in l) b words (level_beside.buckets b is) e
