-- Numbers as words, and the commands that words are.
use Rattle.std.proofs.Common.{◌≡◌, ◌⊎◌, ℕ, zero, suc, ◌*◌, ◌^◌, ◌<◌, ◌≤◌, List, [], ◌∷◌, length, get_or, slice_index_or, Result, Ok, Err, IfSome, IfNone, refl, ap, sym, subst, ◌∙◌, inl, inr, arith}
use Rattle.std.specs.Prelude.{codes, decimal}
use Rattle.std.specs.Result.{result_ok}
use Rattle.std.specs.Int.{IsInRange}
use Rattle.std.specs.Str.Parse.{ParsesUnsigned, digits_value}
use Rattle.std.proofs.lemmas.Bool.{cases_eq}
use Rattle.std.proofs.lemmas.Result.{OkIff-at_ok}
use Rattle.std.proofs.lemmas.Str.Parse.{IsNumeralModel, numerals_by_value, tells_by_index, parse_plain, digits_value_short}
use Rattle.std.proofs.lemmas.Fmt.{parse-decimal, length-decimal-le, first_decimal, digits_decimal, decimal-digits_value, decimal_injective, decimal_nonempty, decimal_digit}
use Rattle.coset_label.specs.Words.{most_letters}
use Rattle.tcount_top.specs.declared.command.TextCommand.TheVariants.{Synth, Check}
use Rattle.tcount_top.specs.declared.command.Command.{Command}
use Rattle.tcount_top.specs.declared.command.Command.TheVariants.{OverText, Levels, Bench}
use Rattle.tcount_top.specs.Words.{IsNumber, IsSynth, IsLevels, IsBench, Spell, IsCommand}

-- ---- numbers
-- each byte is a digit
abbrev AreDigits : List ℕ → Type 0
AreDigits ds = (i : ℕ) → i < length ds → IsInRange 48 57 (get_or ds i 0)

own : IsNumeralModel AreDigits (digits_value 10)
own = numerals_by_value AreDigits tells_by_index

small : (n : ℕ) → n < 10 ^ 10 → n < 2 ^ 64
small n l = omega (arith, l)

-- a number word is `0`, or begins with a digit from 1 to 9 and has ten bytes at most
pub first_of_number : (word : List ℕ) (n : ℕ) → IsNumber word n → (word ≡ codes "0") ⊎ ((48 < get_or word 0 0) × (get_or word 0 0 < 58) × (length word ≤ 10))
first_of_number word n h = elim (cases_eq n 0) [
  | inl e ↦ inl (h.0 ∙ ap decimal e ∙ decimal_digit 0 (omega arith))
  | inr e ↦ inr (
    subst (λ (w : List ℕ). 48 < get_or w 0 0) (sym h.0) (first_decimal n (omega arith) (small n h.1)),
    subst (λ (w : List ℕ). get_or w 0 0 < 58) (sym h.0) (let d : IsInRange 48 57 (get_or (decimal n) 0 0) = digits_decimal own n (small n h.1) 0 (decimal_nonempty n (small n h.1)) in omega (arith, d)),
    subst (λ (w : List ℕ). length w ≤ 10) (sym h.0) (length-decimal-le 10 n (omega arith) h.1 (small n h.1)),
  )
]

-- a word is one number
pub one_number : (word : List ℕ) (m n : ℕ) → IsNumber word m → IsNumber word n → m ≡ n
one_number word m n a b = decimal_injective m n (small m a.1) (small n b.1) (sym a.0 ∙ b.0)

module _ {E : Type 0} (word : List ℕ) (r : Result ℕ E) (parses : ParsesUnsigned 64 10 word r) (low : 48 < get_or word 0 0) (few : length word ≤ 10) where
  -- what a word that begins plainly parses as is its number
  parsed_number : (n : ℕ) → r ≡ Ok n → IsNumber word n
  parsed_number n e =
      let h = OkIff-at_ok r _ _ n (parse_plain own 64 word r parses (λ plus. omega (arith, plus, low))) e in
      let value : n ≡ digits_value 10 word = h.1 in
      let short : digits_value 10 word < 10 ^ 10 = digits_value_short own word 10 h.0.0 few in (
        sym (decimal-digits_value own word h.0.0 h.0.1 (λ zero. absurd (omega (arith, zero, low))) (small _ short)) ∙ ap decimal (sym value),
        subst (λ (k : ℕ). k < 10 ^ 10) (sym value) short,
      )

  -- and one that doesn't parse is none
  unparsed : (e : E) → r ≡ Err e → (n : ℕ) → IsNumber word n → ⊥
  unparsed e is n h = let good : r ≡ Ok n = parse-decimal 64 n word r (small n h.1) (small n h.1) h.0 parses in cc

-- what a word parses as, where it begins plainly
pub number_some : {E : Type 0} (word : List ℕ) (r : Result ℕ E) → ParsesUnsigned 64 10 word r → 48 < get_or word 0 0 → length word ≤ 10 → IfSome (result_ok r) (λ n. IsNumber word n)
number_some {E} word (Ok n) parses low few = parsed_number {E = E} word (Ok n) parses low few n refl
number_some word (Err e) parses low few = tt

pub number_none : {E : Type 0} (word : List ℕ) (r : Result ℕ E) → ParsesUnsigned 64 10 word r → 48 < get_or word 0 0 → length word ≤ 10 → IfNone (result_ok r) ((n : ℕ) → IsNumber word n → ⊥)
number_none word (Ok n) parses low few = tt
number_none {E} word (Err e) parses low few = unparsed {E = E} word (Err e) parses low few e refl

-- ---- commands
-- three words that are a command are `synth`, a number and workers
pub record AreThree (name bound workers : List ℕ) : Type 0 where
  pub is_synth : name ≡ codes "synth"
  pub least : ℕ
  pub is_bound : IsNumber bound least
  pub crew : ℕ
  pub are_crew : IsNumber workers crew
  pub some : 1 ≤ crew
  pub few : crew ≤ 8

pub three_words : (name bound workers : List ℕ) → IsCommand (name ∷ bound ∷ workers ∷ []) → AreThree name bound workers
three_words name bound workers (OverText (Synth m w), h) = record {
  is_synth = ap (λ (l : List (List ℕ)). slice_index_or l 0 []) h.spelled;
  least = m;
  is_bound = (ap (λ (l : List (List ℕ)). slice_index_or l 1 []) h.spelled, h.number);
  crew = w;
  are_crew = (ap (λ (l : List (List ℕ)). slice_index_or l 2 []) h.spelled, omega (arith, h.crew.1));
  some = h.crew.0;
  few = h.crew.1;
}
three_words name bound workers (OverText Check, h) = let long : 3 ≡ 1 = ap length h in absurd (omega (arith, long))
three_words name bound workers (Levels n k w, h) = let long : 3 ≡ 4 = ap length h.spelled in absurd (omega (arith, long))
three_words name bound workers (Bench n t s m w, h) = let long : 3 ≡ 6 = ap length h.spelled in absurd (omega (arith, long))

-- and four words are `levels`, qubits, a level and workers
pub record AreFour (name qubits top workers : List ℕ) : Type 0 where
  pub is_levels : name ≡ codes "levels"
  pub n : ℕ
  pub is_n : IsNumber qubits n
  pub n_some : 1 ≤ n
  pub n_few : n ≤ 3
  pub k : ℕ
  pub is_k : IsNumber top k
  pub low : k ≤ most_letters n
  pub crew : ℕ
  pub are_crew : IsNumber workers crew
  pub some : 1 ≤ crew
  pub few : crew ≤ 8

-- words have at most nine letters
pub most_nine : (n : ℕ) → most_letters n ≤ 9
most_nine zero = omega arith
most_nine (suc zero) = omega arith
most_nine (suc (suc zero)) = omega arith
most_nine (suc (suc (suc n))) = omega arith

pub four_words : (name qubits top workers : List ℕ) → IsCommand (name ∷ qubits ∷ top ∷ workers ∷ []) → AreFour name qubits top workers
four_words name qubits top workers (Levels n k w, h) = record {
  is_levels = ap (λ (l : List (List ℕ)). slice_index_or l 0 []) h.spelled;
  n = n;
  is_n = (ap (λ (l : List (List ℕ)). slice_index_or l 1 []) h.spelled, omega (arith, h.few));
  n_some = h.some;
  n_few = h.few;
  k = k;
  is_k = (ap (λ (l : List (List ℕ)). slice_index_or l 2 []) h.spelled, omega (arith, h.low, most_nine n));
  low = h.low;
  crew = w;
  are_crew = (ap (λ (l : List (List ℕ)). slice_index_or l 3 []) h.spelled, omega (arith, h.crew.1));
  some = h.crew.0;
  few = h.crew.1;
}
four_words name qubits top workers (OverText (Synth m w), h) = let long : 4 ≡ 3 = ap length h.spelled in absurd (omega (arith, long))
four_words name qubits top workers (OverText Check, h) = let long : 4 ≡ 1 = ap length h in absurd (omega (arith, long))
four_words name qubits top workers (Bench n t s m w, h) = let long : 4 ≡ 6 = ap length h.spelled in absurd (omega (arith, long))

-- six words are `bench`, qubits, letters, a seed, a bound and workers
pub record AreSix (name qubits letters seed bound workers : List ℕ) : Type 0 where
  pub is_bench : name ≡ codes "bench"
  pub n : ℕ
  pub is_n : IsNumber qubits n
  pub n_some : 1 ≤ n
  pub n_few : n ≤ 3
  pub t : ℕ
  pub is_t : IsNumber letters t
  pub t_few : t ≤ 44
  pub from : ℕ
  pub is_from : IsNumber seed from
  pub low_seed : from ≤ 2147483647
  pub m : ℕ
  pub is_m : IsNumber bound m
  pub low : m ≤ 2 * most_letters n
  pub crew : ℕ
  pub are_crew : IsNumber workers crew
  pub some : 1 ≤ crew
  pub few : crew ≤ 8

pub six_words : (name qubits letters seed bound workers : List ℕ) → IsCommand (name ∷ qubits ∷ letters ∷ seed ∷ bound ∷ workers ∷ []) → AreSix name qubits letters seed bound workers
six_words name qubits letters seed bound workers (Bench n t s m w, h) = record {
  is_bench = ap (λ (l : List (List ℕ)). slice_index_or l 0 []) h.spelled;
  n = n;
  is_n = (ap (λ (l : List (List ℕ)). slice_index_or l 1 []) h.spelled, omega (arith, h.few));
  n_some = h.some;
  n_few = h.few;
  t = t;
  is_t = (ap (λ (l : List (List ℕ)). slice_index_or l 2 []) h.spelled, omega (arith, h.short));
  t_few = h.short;
  from = s;
  is_from = (ap (λ (l : List (List ℕ)). slice_index_or l 3 []) h.spelled, omega (arith, h.seeds));
  low_seed = omega (arith, h.seeds);
  m = m;
  is_m = (ap (λ (l : List (List ℕ)). slice_index_or l 4 []) h.spelled, omega (arith, h.low, most_nine n));
  low = h.low;
  crew = w;
  are_crew = (ap (λ (l : List (List ℕ)). slice_index_or l 5 []) h.spelled, omega (arith, h.crew.1));
  some = h.crew.0;
  few = h.crew.1;
}
six_words name qubits letters seed bound workers (OverText (Synth m w), h) = let long : 6 ≡ 3 = ap length h.spelled in absurd (omega (arith, long))
six_words name qubits letters seed bound workers (OverText Check, h) = let long : 6 ≡ 1 = ap length h in absurd (omega (arith, long))
six_words name qubits letters seed bound workers (Levels n k w, h) = let long : 6 ≡ 4 = ap length h.spelled in absurd (omega (arith, long))

-- one word that is a command is `check`
pub one_word : (name : List ℕ) → IsCommand (name ∷ []) → name ≡ codes "check"
one_word name (OverText (Synth m w), h) = let long : 1 ≡ 3 = ap length h.spelled in absurd (omega (arith, long))
one_word name (OverText Check, h) = ap (λ (l : List (List ℕ)). slice_index_or l 0 []) h
one_word name (Levels n k w, h) = let long : 1 ≡ 4 = ap length h.spelled in absurd (omega (arith, long))
one_word name (Bench n t s m w, h) = let long : 1 ≡ 6 = ap length h.spelled in absurd (omega (arith, long))

-- a command has one word, three, four or six
pub command_length : (words : List (List ℕ)) → IsCommand words → (length words ≡ 1) ⊎ ((length words ≡ 3) ⊎ ((length words ≡ 4) ⊎ (length words ≡ 6)))
command_length words (OverText (Synth m w), h) = inr (inl (ap length h.spelled))
command_length words (OverText Check, h) = inl (ap length h)
command_length words (Levels n k w, h) = inr (inr (inl (ap length h.spelled)))
command_length words (Bench n t s m w, h) = inr (inr (inr (ap length h.spelled)))

-- words that are numbers in these ranges are the commands
pub is_synth : (name bound workers : List ℕ) (m w : ℕ) → name ≡ codes "synth" → IsNumber bound m → IsNumber workers w → 1 ≤ w → w ≤ 8 → IsSynth (name ∷ bound ∷ workers ∷ []) m w
is_synth name bound workers m w e b c some few = record { spelled = λ i. e i ∷ b.0 i ∷ c.0 i ∷ []; number = b.1; crew = (some, few) }

pub is_levels : (name qubits top workers : List ℕ) (n k w : ℕ) → name ≡ codes "levels" → IsNumber qubits n → 1 ≤ n → n ≤ 3 → IsNumber top k → k ≤ most_letters n → IsNumber workers w → 1 ≤ w → w ≤ 8
    → IsLevels (name ∷ qubits ∷ top ∷ workers ∷ []) n k w
is_levels name qubits top workers n k w e a n_some n_few b low c some few = record { spelled = λ i. e i ∷ a.0 i ∷ b.0 i ∷ c.0 i ∷ []; some = n_some; few = n_few; low = low; crew = (some, few) }

pub is_bench : (name qubits letters seed bound workers : List ℕ) (n t s m w : ℕ) → name ≡ codes "bench" → IsNumber qubits n → 1 ≤ n → n ≤ 3 → IsNumber letters t → t ≤ 44 → IsNumber seed s → s ≤ 2147483647
    → IsNumber bound m → m ≤ 2 * most_letters n → IsNumber workers w → 1 ≤ w → w ≤ 8 → IsBench (name ∷ qubits ∷ letters ∷ seed ∷ bound ∷ workers ∷ []) n t s m w
is_bench name qubits letters seed bound workers n t s m w e a n_some n_few b short d last f low c some few = record {
  spelled = λ i. e i ∷ a.0 i ∷ b.0 i ∷ d.0 i ∷ f.0 i ∷ c.0 i ∷ [];
  some = n_some;
  few = n_few;
  short = short;
  seeds = omega (arith, last);
  low = low;
  crew = (some, few);
}

-- ---- one command
-- how many words a command has
abbrev count_of : Command → ℕ
count_of (OverText (Synth m w)) = 3
count_of (OverText Check) = 1
count_of (Levels n k w) = 4
count_of (Bench n t s m w) = 6

counted : (words : List (List ℕ)) (a : Command) → Spell words a → length words ≡ count_of a
counted words (OverText (Synth m w)) h = ap length h.spelled
counted words (OverText Check) h = ap length h
counted words (Levels n k w) h = ap length h.spelled
counted words (Bench n t s m w) h = ap length h.spelled

-- so no words are two commands of different counts
apart : {P : Type 0} → (words : List (List ℕ)) (a b : Command) → Spell words a → Spell words b → (count_of a ≡ count_of b → ⊥) → P
apart words a b ha hb other = absurd (other (sym (counted words a ha) ∙ counted words b hb))

-- the word at an index is one number
one_at : (xs ys : List (List ℕ)) → xs ≡ ys → (i m n : ℕ) → slice_index_or xs i [] ≡ decimal m → slice_index_or ys i [] ≡ decimal n → m < 10 ^ 10 → n < 10 ^ 10 → m ≡ n
one_at xs ys e i m n a b l k = decimal_injective m n (small m l) (small n k) (sym a ∙ ap (λ (l : List (List ℕ)). slice_index_or l i []) e ∙ b)

-- words are at most one command
pub one_command : (words : List (List ℕ)) (a b : Command) → Spell words a → Spell words b → a ≡ b
one_command words (OverText (Synth m w)) (OverText (Synth m' w')) h h' =
    let e = sym h.spelled ∙ h'.spelled in
    let bound = one_at _ _ e 1 m m' refl refl h.number h'.number in
    let crew = one_at _ _ e 2 w w' refl refl (omega (arith, h.crew.1)) (omega (arith, h'.crew.1)) in λ i. OverText (Synth (bound i) (crew i))
one_command words (OverText (Synth m w)) (OverText Check) h h' = apart words (OverText (Synth m w)) (OverText Check) h h' (λ e. omega (arith, e))
one_command words (OverText (Synth m w)) (Levels n k v) h h' = apart words (OverText (Synth m w)) (Levels n k v) h h' (λ e. omega (arith, e))
one_command words (OverText (Synth m w)) (Bench n t s b v) h h' = apart words (OverText (Synth m w)) (Bench n t s b v) h h' (λ e. omega (arith, e))
one_command words (OverText Check) (OverText (Synth m w)) h h' = apart words (OverText Check) (OverText (Synth m w)) h h' (λ e. omega (arith, e))
one_command words (OverText Check) (OverText Check) h h' = refl
one_command words (OverText Check) (Levels n k v) h h' = apart words (OverText Check) (Levels n k v) h h' (λ e. omega (arith, e))
one_command words (OverText Check) (Bench n t s b v) h h' = apart words (OverText Check) (Bench n t s b v) h h' (λ e. omega (arith, e))
one_command words (Levels n k v) (OverText (Synth m w)) h h' = apart words (Levels n k v) (OverText (Synth m w)) h h' (λ e. omega (arith, e))
one_command words (Levels n k v) (OverText Check) h h' = apart words (Levels n k v) (OverText Check) h h' (λ e. omega (arith, e))
one_command words (Levels n k w) (Levels n' k' w') h h' =
    let e = sym h.spelled ∙ h'.spelled in
    let qubits = one_at _ _ e 1 n n' refl refl (omega (arith, h.few)) (omega (arith, h'.few)) in
    let top = one_at _ _ e 2 k k' refl refl (omega (arith, h.low, most_nine n)) (omega (arith, h'.low, most_nine n')) in
    let crew = one_at _ _ e 3 w w' refl refl (omega (arith, h.crew.1)) (omega (arith, h'.crew.1)) in λ i. Levels (qubits i) (top i) (crew i)
one_command words (Levels n k v) (Bench n' t s b w) h h' = apart words (Levels n k v) (Bench n' t s b w) h h' (λ e. omega (arith, e))
one_command words (Bench n t s b v) (OverText (Synth m w)) h h' = apart words (Bench n t s b v) (OverText (Synth m w)) h h' (λ e. omega (arith, e))
one_command words (Bench n t s b v) (OverText Check) h h' = apart words (Bench n t s b v) (OverText Check) h h' (λ e. omega (arith, e))
one_command words (Bench n t s b v) (Levels n' k w) h h' = apart words (Bench n t s b v) (Levels n' k w) h h' (λ e. omega (arith, e))
one_command words (Bench n t s b v) (Bench n' t' s' b' v') h h' =
    let e = sym h.spelled ∙ h'.spelled in
    let qubits = one_at _ _ e 1 n n' refl refl (omega (arith, h.few)) (omega (arith, h'.few)) in
    let letters = one_at _ _ e 2 t t' refl refl (omega (arith, h.short)) (omega (arith, h'.short)) in
    let seed = one_at _ _ e 3 s s' refl refl (omega (arith, h.seeds)) (omega (arith, h'.seeds)) in
    let bound = one_at _ _ e 4 b b' refl refl (omega (arith, h.low, most_nine n)) (omega (arith, h'.low, most_nine n')) in
    let crew = one_at _ _ e 5 v v' refl refl (omega (arith, h.crew.1)) (omega (arith, h'.crew.1)) in λ i. Bench (qubits i) (letters i) (seed i) (bound i) (crew i)
