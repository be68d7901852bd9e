-- What a worker's ways take from the owners, one by one.
use Rattle.std.proofs.Common.{◌≡◌, ℕ, zero, suc, ◌+◌, ◌-◌, ◌%◌, ◌==◌, ◌<◌, ◌≤◌, ◌⊎◌, ⊎_elim, inl, inr, true, cond, List, [], ◌∷◌, ◌++◌, Some, All, map, set, get_or, length, length-set, slice_get, slice_index, slice_index_or, refl, sym, ap, ◌∙◌, subst, add-one, arith}
use Rattle.std.specs.List.{range_with_len}
use Rattle.std.proofs.lemmas.List.{map-set, map-append, get_or-map, get_or-set_same, set-get_or, set-set, length-map}
use Rattle.std.proofs.lemmas.List.Elements.{All-set, All-push, All-nil}
use Rattle.std.proofs.lemmas.List.FromFn.{length-map-range_with_len, map-range_with_len_more}
use Rattle.std.proofs.lemmas.Bool.Decides.{nat_tests}
use Rattle.std.proofs.lemmas.Option.{slice_get-get_or}
use Rattle.std.proofs.Math.Nat.{mod-lt}
use Rattle.std.proofs.Math.Seq.{map-set_same}
use Rattle.work_shares.specs.declared.entry.Entry.{Entry}
use Rattle.work_shares.specs.declared.theft.Theft.{Theft}
use Rattle.work_shares.specs.Thefts.{deque_into, pushed_into}
use Rattle.work_shares.specs.Ways.{ways_of}
use Rattle.work_shares.specs.Owners.{Owner, deque_of, parts_of, pushed_of, IsUntaken}
use Rattle.work_shares.specs.Lending.{IsUnused, IsLent, Lends}
use Rattle.work_shares.proofs.TakingBack.{parts_step}

-- an element of a list with one more behind it
pub slice_get-pushed : {X : Type 0} (xs : List X) (y : X) (i : ℕ) (x : X) → slice_get (xs ++ y ∷ []) i ≡ Some x → (slice_get xs i ≡ Some x) ⊎ ((i ≡ length xs) × (y ≡ x))
slice_get-pushed [] y zero x e = inr (refl, cc)
slice_get-pushed [] y (suc i) x e = absurd cc
slice_get-pushed (z ∷ zs) y zero x e = inl e
slice_get-pushed (z ∷ zs) y (suc i) x e = ⊎_elim (λ h. inl h) (λ (h : (i ≡ length zs) × (y ≡ x)). inr (ap suc h.0, h.1)) (slice_get-pushed zs y i x e)

-- more ways are no fewer ways into one deque
pub ways_of-grow : (workers deque worker n more : ℕ) → ways_of workers deque worker n ≤ ways_of workers deque worker (n + more)
unfolding ways_of
ways_of-grow workers deque worker n zero = (let e : n + 0 ≡ n = omega arith in rw e (omega arith))
ways_of-grow workers deque worker n (suc more) = (let e : n + suc more ≡ suc (n + more) = omega arith in let r = ways_of-grow workers deque worker n more in rw e (omega arith))

-- the next way leads into its deque
way_next : (workers worker n : ℕ) → ways_of workers ((worker + 1 + n) % workers) worker (suc n) ≡ 1 + ways_of workers ((worker + 1 + n) % workers) worker n
unfolding ways_of
way_next workers worker n =
    let same : ((worker + 1 + n) % workers == (worker + 1 + n) % workers) ≡ true = grind (arith, nat_tests) in
    ap (λ b. cond b 1 0 + ways_of workers ((worker + 1 + n) % workers) worker n) same

-- before the first way
pub lends_start : (worker : ℕ) (owners : List Owner) → All IsUntaken owners → Lends worker 0 [] owners owners
unfolding ways_of
lends_start worker owners untaken = record {
  ways = record { lead = λ i d e. absurd cc; given = refl; unused = All-nil IsUnused };
  lender = record { deques = refl; pushed = refl; parts = λ d lt. omega arith; untaken = untaken };
}

-- the owner of the next deque has two parts
pub lends_room : (worker n : ℕ) (thefts : List Theft) (old now : List Owner) (o : Owner) → Lends worker n thefts old now → n < length old - 1
    → ((d : ℕ) → d < length old → ways_of (length old) d worker (length old - 1) < slice_index (map parts_of old) d) → o ≡ get_or now ((worker + 1 + n) % length old) o → 1 < parts_of o
lends_room worker n thefts old now o h below room is =
    let at : ℕ = (worker + 1 + n) % length old in
    let lt : at < length old = mod-lt (worker + 1 + n) (let some : 0 < length old = omega arith in some) in
    let wide : length now ≡ length old = sym (length-map now deque_of) ∙ ap length h.lender.deques ∙ length-map old deque_of in
    let here : slice_index (map parts_of now) at ≡ parts_of o = get_or-map parts_of now at o 0 (omega arith) ∙ ap parts_of (sym is) in
    let grow : ways_of (length old) at worker (suc n) ≤ ways_of (length old) at worker (length old - 1) =
    (let e : suc n + (length old - 1 - suc n) ≡ length old - 1 = omega arith in subst (λ k. ways_of (length old) at worker (suc n) ≤ ways_of (length old) at worker k) e (ways_of-grow (length old) at worker (suc n) (length old - 1 - suc n))) in
    omega (arith, way_next (length old) worker n, room at lt, h.lender.parts at lt)

-- the part that is lent is one of the owner's of its deque
parts_lent : (workers worker n at : ℕ) (parts : List ℕ) (p d : ℕ) → at < length parts → (worker + 1 + n) % workers ≡ at → p + 1 ≡ get_or parts at 0
    → get_or (set parts at p) d 0 + ways_of workers d worker (suc n) ≡ get_or parts d 0 + ways_of workers d worker n
parts_lent workers worker n at parts p d lt is less =
    let lower : List ℕ = set parts at p in
    let there : at < length lower = omega (arith, length-set parts at p) in
    let back : set lower at (p + 1) ≡ parts = set-set parts at p (p + 1) ∙ ap (set parts at) less ∙ set-get_or parts at 0 in
    let step = parts_step workers worker n at lower (p + 1) d there is (ap (λ k. k + 1) (sym (get_or-set_same parts at p 0 lt))) in
    sym step ∙ ap (λ l. get_or l d 0 + ways_of workers d worker n) back

-- one way more
pub lends_step : (worker n : ℕ) (thefts : List Theft) (old now : List Owner) (t : Theft) (o p : Owner) → 0 < length old → o ≡ get_or now ((worker + 1 + n) % length old) o → IsLent t o p → Lends worker n thefts old now
    → Lends worker (n + 1) (thefts ++ t ∷ []) old (set now ((worker + 1 + n) % length old) p)
lends_step worker n thefts old now t o p some is lent h =
    let at : ℕ = (worker + 1 + n) % length old in
    let wide : length now ≡ length old = sym (length-map now deque_of) ∙ ap length h.lender.deques ∙ length-map old deque_of in
    let lt : at < length now = (let l = mod-lt (worker + 1 + n) some in omega arith) in
    let f : ℕ → List Entry = λ i. slice_index_or (map pushed_of old) ((worker + 1 + i) % length old) [] in
    let count : length thefts ≡ n = sym (length-map thefts pushed_into) ∙ ap length h.ways.given ∙ length-map-range_with_len f 0 n in
    let deque : deque_of (get_or now at o) ≡ deque_into t = ap deque_of (sym is) ∙ sym lent.deque in
    let there : slice_get (map deque_of old) at ≡ Some (deque_into t) =
    ap (λ l. slice_get l at) (sym h.lender.deques) ∙ slice_get-get_or (map deque_of now) at (deque_of o) (omega (arith, length-map now deque_of)) ∙ ap Some (get_or-map deque_of now at o (deque_of o) lt ∙ deque) in
    let given : pushed_into t ≡ f n = lent.given ∙ ap pushed_of is ∙ sym (get_or-map pushed_of now at o [] lt) ∙ ap (λ l. get_or l at []) h.lender.pushed in
    let parts : List ℕ = map parts_of now in
    record {
      ways = record {
        lead = λ i d e. ⊎_elim (λ old_way. h.ways.lead i d old_way)
            (λ (last : (i ≡ length (map deque_into thefts)) × (deque_into t ≡ d)).
            let same : i ≡ n = last.0 ∙ length-map thefts deque_into ∙ count in
            ap (λ k. slice_get (map deque_of old) ((worker + 1 + k) % length (map deque_of old))) same
            ∙ ap (λ k. slice_get (map deque_of old) ((worker + 1 + n) % k)) (length-map old deque_of) ∙ there ∙ ap Some last.1)
            (slice_get-pushed (map deque_into thefts) (deque_into t) i d (ap (λ l. slice_get l i) (sym (map-append deque_into thefts (t ∷ []))) ∙ e));
        given = map-append pushed_into thefts (t ∷ []) ∙ ap (λ l. l ++ pushed_into t ∷ []) h.ways.given ∙ ap (λ x. map f (range_with_len 0 n) ++ x ∷ []) given ∙ sym (map-range_with_len_more f 0 n n (omega arith));
        unused = All-push IsUnused thefts t h.ways.unused lent.unused;
      };
      lender = record {
        deques = map-set_same deque_of now at p o (lent.same ∙ ap deque_of is) ∙ h.lender.deques;
        pushed = map-set_same pushed_of now at p o (lent.pushed ∙ ap pushed_of is) ∙ h.lender.pushed;
        parts = λ d below. (
            let was : get_or parts at 0 ≡ parts_of o = get_or-map parts_of now at o 0 lt ∙ ap parts_of (sym is) in
            let step = parts_lent (length old) worker n at parts (parts_of p) d (omega (arith, length-map now parts_of)) refl (lent.parts ∙ sym was) in
            let same : get_or (map parts_of (set now at p)) d 0 ≡ get_or (set parts at (parts_of p)) d 0 = ap (λ l. get_or l d 0) (map-set parts_of now at p) in
            ap (λ k. k + ways_of (length old) d worker (n + 1)) same ∙ ap (λ k. get_or (set parts at (parts_of p)) d 0 + ways_of (length old) d worker k) (add-one n) ∙ step ∙ h.lender.parts d below);
        untaken = All-set IsUntaken now at p lent.untaken h.lender.untaken;
      };
    }
