-- How many fronts there are at most.
use Rattle.std.proofs.Common.{ℕ, ◌*◌, ◌≤◌, length, arith}
use Rattle.std.proofs.lemmas.Nat.{mul-le}
use Rattle.level_laws.proofs.ShortWords.{level_few}
use Rattle.level_store.specs.declared.level.Level.{Level}
use Rattle.level_store.specs.InOrder.{IsLevelOf}
use Rattle.level_store.specs.Stored.{letters_in, words_of}
use Rattle.level_store.proofs.Merely.{stored_at}
use Rattle.std.proofs.lemmas.List.{length-map}
use Rattle.coset_label.specs.Words.{RotationWord}

pub words_few : (n k : ℕ) (l : Level) → IsLevelOf n k l → length (words_of l) ≤ 16777216
words_few n k l is =
    let stored = stored_at n k l is in
    let few : length (letters_in l) ≤ 16777216 = level_few n stored.some stored.few k stored.short (letters_in l) stored.level in
    omega (arith, length-map (words_of l) (λ (w : RotationWord). w.letters))

pub product_few : (count letters : ℕ) → count ≤ 16777216 → letters ≤ 63 → count * letters ≤ 1056964608
product_few count letters a b = mul-le count letters 16777216 63 a b
