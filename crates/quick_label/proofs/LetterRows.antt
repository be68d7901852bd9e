-- The turns of all letters in one list, a letter's rows together.
use Rattle.std.proofs.Common.{◌≡◌, ℕ, ◌+◌, ◌-◌, ◌*◌, ◌/◌, ◌%◌, ◌^◌, ◌<◌, ◌≤◌, ◌==◌, Bool, false, List, length, drop, slice_index_or, slice_range, inl, inr, ap, sym, ◌∙◌, arith, length-take, length-drop}
use Rattle.std.proofs.lemmas.Bool.{cases_eq, eq-eqb, ne_eqb}
use Rattle.std.proofs.lemmas.List.{get_or-take, get_or-drop}
use Rattle.std.proofs.lemmas.Nat.{mul-le}
use Rattle.pauli_basis.specs.Products.{turns, anti_sign}
use Rattle.channel_rep.proofs.Squares.{place-lt, row_of_place, column_of_place}

-- −i·P·Q is the negative of a Pauli where P·Q has three quarter turns
three_turns : (t x : ℕ) → t ≡ x % 4 → (t == 3) ≡ ((x + 3) % 4 == 2)
three_turns t x e = elim (cases_eq t 3) [
  | inl is ↦ eq-eqb t 3 is ∙ sym (eq-eqb ((x + 3) % 4) 2 (omega arith))
  | inr d ↦ ne_eqb t 3 d ∙ sym (ne_eqb ((x + 3) % 4) 2 (λ is. d (omega arith)))
]

pub sign_is : (n p q t : ℕ) → t ≡ turns n p q % 4 → (t == 3) ≡ anti_sign n p q
unfolding anti_sign
sign_is n p q t e = three_turns t (turns n p q) e

-- a letter's rows end within the list
pub rows_end : (letter size : ℕ) → letter < size → (letter + 1) * size ≤ size * size
rows_end letter size l = mul-le (letter + 1) size size size (omega arith) (omega arith)

pub rows_few : (letter size : ℕ) → letter < size → size ≤ 64 → (letter + 1) * size ≤ 4096
rows_few letter size l few = mul-le (letter + 1) size 64 64 (omega arith) few

-- as many as there are codes
pub rows_long : (xs items : List Bool) (letter size n : ℕ) → letter < size → size ≡ 4 ^ n → xs ≡ items → length items ≡ 4 ^ n * 4 ^ n
    → length (slice_range xs (letter * size) ((letter + 1) * size)) ≡ 4 ^ n
rows_long xs items letter size n l e same long =
    let end = rows_end letter size l in
    let all : length xs ≡ size * size = ap length same ∙ long ∙ sym (ap (λ (s : ℕ). s * s) e) in
    omega (arith, length-take {A = Bool}, length-drop {A = Bool})

-- one of them
pub row_at : (xs items : List Bool) (letter size n row : ℕ) → row < size → size ≡ 4 ^ n → xs ≡ items
    → slice_index_or (slice_range xs (letter * size) ((letter + 1) * size)) row false ≡ slice_index_or items (letter * 4 ^ n + row) false
row_at xs items letter size n row l e same =
    get_or-take ((letter + 1) * size - letter * size) (drop (letter * size) xs) row false (omega arith)
    ∙ get_or-drop (letter * size) xs row false
    ∙ (λ i. slice_index_or (same i) (letter * e i + row) false)

-- what stands at the place of a letter and a row
pub at_place : (f : ℕ → ℕ → Bool) (n size p row : ℕ) → size ≡ 4 ^ n → row < 4 ^ n → f ((p * 4 ^ n + row) / size) ((p * 4 ^ n + row) % size) ≡ f p row
at_place f n size p row e l =
    (λ i. f ((p * 4 ^ n + row) / e i) ((p * 4 ^ n + row) % e i)) ∙ (λ i. f (row_of_place (4 ^ n) p row l i) (column_of_place (4 ^ n) p row l i))

-- which is within the places
pub place_below : (n size p row end : ℕ) → size ≡ 4 ^ n → p < 4 ^ n → row < 4 ^ n → size * size ≤ end → p * 4 ^ n + row < end
place_below n size p row end e l m most = omega (arith, place-lt (4 ^ n) p row l m, ap (λ (s : ℕ). s * s) e)
