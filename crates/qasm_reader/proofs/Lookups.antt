-- Registers by name, and numbers.
use Rattle.std.proofs.Common.{◌≡◌, ℕ, zero, suc, ◌+◌, ◌-◌, ◌*◌, ◌<◌, Bool, true, false, cond, ◌||◌, List, [], ◌∷◌, ◌++◌, length, map, take, drop, get_or, min, Some, arith, ap, ◌∙◌, sym, refl}
use Rattle.std.specs.Prelude.{◌==◌}
use Rattle.std.specs.Str.{bytes_eq}
use Rattle.std.specs.List.{list_any, range_with_len}
use Rattle.std.proofs.lemmas.List.{at_drop_more, take_all, length-drop}
use Rattle.std.proofs.lemmas.List.Sums.{fold_more}
use Rattle.qasm_reader.specs.declared.scan.Register.{Register as CodeRegister}
use Rattle.std.proofs.lemmas.List.{map-append}
use Rattle.qasm_reader.specs.declared.lexemes.Lexeme.{Lexeme as CodeLexeme}
use Rattle.qasm_reader.specs.Lexemes.{Lexeme, is_kind, closer}
use Rattle.qasm_reader.specs.Rows.{last_of, ends, has_twins}
use Rattle.qasm_reader.specs.State.{value, find_register}
use Rattle.qasm_reader.specs.View.{lexeme, lexemes, register, registers}

-- a register of another name is passed over
pub other_register : (rs : List CodeRegister) (i : ℕ) (r : CodeRegister) (name : List ℕ) → i < length rs → r ≡ get_or rs i r → bytes_eq r.name.now name ≡ false
    → find_register (registers (drop (i + 1) rs)) name ≡ find_register (registers (drop i rs)) name
other_register rs i r name h is e =
    sym (at_drop_more (λ (l : List CodeRegister). find_register (registers l) name) rs i r h
    ∙ ap (λ (x : CodeRegister). find_register (registers (x ∷ drop (i + 1) rs)) name) (sym is)
    ∙ ap (λ (t : Bool). cond t (Some (register r)) (find_register (registers (drop (i + 1) rs)) name)) e)

-- a register of the name is found
pub this_register : (rs : List CodeRegister) (i : ℕ) (r : CodeRegister) (name : List ℕ) → i < length rs → r ≡ get_or rs i r → bytes_eq r.name.now name ≡ true
    → Some (register r) ≡ find_register (registers (drop i rs)) name
this_register rs i r name h is e =
    sym (at_drop_more (λ (l : List CodeRegister). find_register (registers l) name) rs i r h
    ∙ ap (λ (x : CodeRegister). find_register (registers (x ∷ drop (i + 1) rs)) name) (sym is)
    ∙ ap (λ (t : Bool). cond t (Some (register r)) (find_register (registers (drop (i + 1) rs)) name)) e)

-- one digit more
pub next_value : (ds : List ℕ) (i n : ℕ) → i < length ds → n ≡ min (value (take i ds)) 4
    → min (n * 10 + (get_or ds i 0 - 48)) 4 ≡ min (value (take (i + 1) ds)) 4
next_value ds i n h e =
    let v = fold_more (λ (n b : ℕ). n * 10 + (b - 48)) 0 ds i 0 h in
    omega (arith, e, v)

-- one of the images passes where an element does
pub list_any-map : {A B : Type 0} (p : B → Bool) (f : A → B) (xs : List A) → list_any p (map f xs) ≡ list_any (λ x. p (f x)) xs
list_any-map p f [] = refl
list_any-map p f (x ∷ xs) = ap (λ (t : Bool). p (f x) || t) (list_any-map p f xs)

-- the last lexeme
pub last_of-push : (u : Lexeme) (b : List Lexeme) (w : Lexeme) → last_of u (b ++ w ∷ []) ≡ w
last_of-push u [] w = refl
last_of-push u (x ∷ b) w = last_of-push x b w

-- it decides whether a statement has its end
pub ends_push : (v : Lexeme) (vs b : List Lexeme) (w : Lexeme) → v ∷ vs ≡ b ++ w ∷ [] → ends (v ∷ vs) ≡ is_kind (closer v) w
ends_push v vs [] w e = let only : vs ≡ [] = cc in let same : v ≡ w = cc in ap (λ (l : List Lexeme). ends (v ∷ l)) only ∙ ap (λ (x : Lexeme). is_kind (closer v) x) same
ends_push v vs (u ∷ b) w e = let rest : vs ≡ b ++ w ∷ [] = cc in ap (λ (l : List Lexeme). ends (v ∷ l)) rest ∙ ap (λ (x : Lexeme). is_kind (closer v) x) (last_of-push v b w)

-- the same of the code's lexemes
pub code_ends : (ws b : List CodeLexeme) (w d : CodeLexeme) → ws ≡ b ++ w ∷ [] → is_kind (closer (lexeme (get_or ws 0 d))) (lexeme w) ≡ ends (lexemes ws)
code_ends [] [] w d e = absurd (cc)
code_ends [] (u ∷ b) w d e = absurd (cc)
code_ends (v ∷ vs) b w d e = sym (ends_push (lexeme v) (lexemes vs) (lexemes b) (lexeme w) (ap lexemes e ∙ map-append lexeme b (w ∷ [])))

-- a range with one number more
range_suc : (n : ℕ) (a : ℕ) → range_with_len a (suc n) ≡ range_with_len a n ++ (a + n) ∷ []
range_suc zero a = ap (λ (x : ℕ). x ∷ []) (omega arith)
range_suc (suc n) a =
    let more = range_suc n (a + 1) in
    let same : a + 1 + n ≡ a + suc n = omega arith in
    ap (λ (l : List ℕ). a ∷ l) (more ∙ ap (λ (x : ℕ). range_with_len (a + 1) n ++ x ∷ []) same)

-- a range with one number more, as the code counts it
pub range_push : (a n : ℕ) → range_with_len a (n + 1) ≡ range_with_len a n ++ (a + n) ∷ []
range_push a n = let more : n + 1 ≡ suc n = omega arith in ap (range_with_len a) more ∙ range_suc n a

-- twins are of the first qubit, or of the others
pub twins_next : (qs : List ℕ) (i : ℕ) (t : Bool) → i < length qs → t ≡ list_any (λ r. r == get_or qs i 0) (take (length qs - (i + 1)) (drop (i + 1) qs))
    → has_twins (drop i qs) ≡ (t || has_twins (drop (i + 1) qs))
twins_next qs i t h e =
    let whole : take (length qs - (i + 1)) (drop (i + 1) qs) ≡ drop (i + 1) qs = take_all _ _ (omega (arith, length-drop (i + 1) qs)) in
    at_drop_more has_twins qs i 0 h
    ∙ ap (λ (x : Bool). x || has_twins (drop (i + 1) qs)) (sym (e ∙ ap (λ (l : List ℕ). list_any (λ (r : ℕ). r == get_or qs i 0) l) whole))
