-- Shares are made one by one.
use Rattle.std.proofs.Common.{◌≡◌, ℕ, suc, ◌+◌, ◌%◌, ◌<◌, ◌≤◌, ⊎_elim, List, Vec, Global, [], ◌∷◌, ◌++◌, Some, All, map, get_or, length, length-append, remove, slice_get, refl, sym, ap, ◌∙◌, subst, append_assoc, append-nil, zero-add, arith}
use Rattle.std.proofs.lemmas.List.{length-map, map-append, nil_from_length}
use Rattle.std.proofs.lemmas.List.Elements.{All-push, All-nil}
use Rattle.work_shares.specs.declared.theft.Theft.{Theft}
use Rattle.work_shares.specs.declared.share.Share.{Share}
use Rattle.work_shares.specs.Cuts.{block_count}
use Rattle.work_shares.specs.Entries.{entries_of}
use Rattle.work_shares.specs.Thefts.{DequeId, deque_into}
use Rattle.work_shares.specs.Places.{Place}
use Rattle.work_shares.specs.Owners.{Owner, deque_of, pushed_of, LeadOn, IsFilled, AreFilled, IsReady}
use Rattle.work_shares.specs.Lending.{AreGiven}
use Rattle.work_shares.specs.Shares.{place_of, load_of, IsFresh, AreDeal}
use Rattle.work_shares.proofs.LendingOne.{slice_get-pushed}
use Rattle.work_shares.proofs.Ties.{slice_get-mapped}

-- one more deque is filled
pub filled_more : (count workers n : ℕ) (owners more : List Owner) (o : Owner) → AreFilled count workers n owners → IsFilled count workers n o → more ≡ owners ++ o ∷ [] → AreFilled count workers (n + 1) more
filled_more count workers n owners more o h filled is = subst (AreFilled count workers (n + 1)) (sym is) (record {
  length_is = length-append owners (o ∷ []) ∙ (let l = h.length_is in omega arith);
  each = λ k p e. ⊎_elim (h.each k p)
      (λ (last : (k ≡ length owners) × (o ≡ p)).
      let place : k ≡ n = last.0 ∙ h.length_is in
      subst (λ (q : Owner). IsFilled count workers k q) last.1 (subst (λ (j : ℕ). IsFilled count workers j o) (sym place) filled))
      (slice_get-pushed owners o k p e);
})

-- a list is its first element and the rest
pub first_rest : {X : Type 0} (xs left : List X) (x : X) → 0 < length xs → x ≡ get_or xs 0 x → left ≡ remove xs 0 → xs ≡ x ∷ left
first_rest [] left x some is less = absurd (omega arith)
first_rest {X} (y ∷ ys) left x some is less = let head : y ≡ x = sym is in let tail : ys ≡ left = sym less in ap (λ (z : X). z ∷ ys) head ∙ ap (λ l. x ∷ l) tail

-- other deques are those of the workers after this one, counted round
abbrev LeadTo : List DequeId → ℕ → List DequeId → Type 0
LeadTo deques worker others = (i : ℕ) (d : DequeId) → slice_get others i ≡ Some d → slice_get deques ((worker + 1 + i) % length deques) ≡ Some d

-- a share of this worker
pub record IsPlaced {L : Type 0} (total size workers worker : ℕ) (deques : List DequeId) (s : Share L) : Type 0 where
  pub total_is : (place_of s).total ≡ total
  pub size_is : (place_of s).size ≡ size
  pub workers_is : (place_of s).workers ≡ workers
  pub worker_is : (place_of s).worker ≡ worker
  pub others : LeadTo deques worker (place_of s).others

module _ {L : Type 0} (total size count workers : ℕ) (deques : List DequeId) (all : List L) where
  -- the shares of the first workers are made, of all that is at hand
  pub record IsSharing (n : ℕ) (owners : List Owner) (thefts : List (Vec Theft Global)) (loads : List L) (shares : List (Share L)) : Type 0 where
    pub owners_left : length owners + n ≡ workers
    pub thefts_left : length thefts + n ≡ workers
    pub loads_left : length loads + n ≡ workers
    pub ready : (k : ℕ) (o : Owner) → slice_get owners k ≡ Some o → IsReady count workers (n + k) o
    pub given : (k : ℕ) (own : Vec Theft Global) → slice_get thefts k ≡ Some own → AreGiven count workers (n + k) own.items
    pub lead : (k : ℕ) (own : Vec Theft Global) → slice_get thefts k ≡ Some own → LeadOn deques (n + k) own.items
    pub deques_are : map (λ s. (place_of s).deque) shares ++ map deque_of owners ≡ deques
    pub loads_are : map load_of shares ++ loads ≡ all
    pub made : length shares ≡ n
    pub fresh : All IsFresh shares
    pub places : (k : ℕ) (s : Share L) → slice_get shares k ≡ Some s → IsPlaced total size workers k deques s

  -- before the first
  pub sharing_starts : (owners : List Owner) (thefts : List (Vec Theft Global)) (shares : List (Share L)) → shares ≡ [] → deques ≡ map deque_of owners → length owners ≡ workers → length thefts ≡ workers → length all ≡ workers
      → ((k : ℕ) (o : Owner) → slice_get owners k ≡ Some o → IsReady count workers k o) → ((k : ℕ) (own : Vec Theft Global) → slice_get thefts k ≡ Some own → AreGiven count workers k own.items)
      → ((k : ℕ) (own : Vec Theft Global) → slice_get thefts k ≡ Some own → LeadOn deques k own.items) → IsSharing 0 owners thefts all shares
  sharing_starts owners thefts shares none is a b c ready given lead = subst (IsSharing 0 owners thefts all) (sym none) (record {
    owners_left = omega arith;
    thefts_left = omega arith;
    loads_left = omega arith;
    ready = λ k o e. subst (λ (j : ℕ). IsReady count workers j o) (sym (zero-add k)) (ready k o e);
    given = λ k v e. subst (λ (j : ℕ). AreGiven count workers j v.items) (sym (zero-add k)) (given k v e);
    lead = λ k v e. subst (λ (j : ℕ). LeadOn deques j v.items) (sym (zero-add k)) (lead k v e);
    deques_are = sym is;
    loads_are = refl;
    made = refl;
    fresh = All-nil IsFresh;
    places = λ k s e. absurd cc;
  })

  -- what is made of the first of each
  pub record IsMade (worker : ℕ) (own : Owner) (thefts : Vec Theft Global) (load : L) (s : Share L) : Type 0 where
    pub place : place_of s ≡ record { total = total; size = size; workers = workers; worker = worker; deque = deque_of own; given = pushed_of own; others = map deque_into thefts.items }
    pub fresh : IsFresh s
    pub load_is : s.load ≡ load

  -- the same place, counted from the next
  one_on : (n k : ℕ) → n + suc k ≡ n + 1 + k
  one_on n k = omega arith

  -- one share more
  pub sharing_step : (n : ℕ) (owners left_owners : List Owner) (thefts left_thefts : List (Vec Theft Global)) (loads left_loads : List L) (shares more : List (Share L)) (own : Owner) (ways : Vec Theft Global) (load : L) (s : Share L)
      → owners ≡ own ∷ left_owners → thefts ≡ ways ∷ left_thefts → loads ≡ load ∷ left_loads → more ≡ shares ++ s ∷ [] → IsMade n own ways load s → IsSharing n owners thefts loads shares → IsSharing (n + 1) left_owners left_thefts left_loads more
  sharing_step n owners left_owners thefts left_thefts loads left_loads shares more own ways load s o t l is made h =
      let deque : Share L → DequeId = λ x. (place_of x).deque in
      let here : LeadTo deques n (place_of s).others =
      subst (λ (p : Place). LeadTo deques n p.others) (sym made.place) (subst (λ (k : ℕ). LeadOn deques k ways.items) (let z : n + 0 ≡ n = omega arith in z) (h.lead 0 ways (ap (λ (x : List (Vec Theft Global)). slice_get x 0) t))) in
      record {
        owners_left = (let a = h.owners_left in omega (arith, ap length o));
        thefts_left = (let a = h.thefts_left in omega (arith, ap length t));
        loads_left = (let a = h.loads_left in omega (arith, ap length l));
        ready = λ k p e. subst (λ (j : ℕ). IsReady count workers j p) (one_on n k) (h.ready (suc k) p (ap (λ (x : List Owner). slice_get x (suc k)) o ∙ e));
        given = λ k v e. subst (λ (j : ℕ). AreGiven count workers j v.items) (one_on n k) (h.given (suc k) v (ap (λ (x : List (Vec Theft Global)). slice_get x (suc k)) t ∙ e));
        lead = λ k v e. subst (λ (j : ℕ). LeadOn deques j v.items) (one_on n k) (h.lead (suc k) v (ap (λ (x : List (Vec Theft Global)). slice_get x (suc k)) t ∙ e));
        deques_are = ap (λ x. map deque x ++ map deque_of left_owners) is ∙ ap (λ x. x ++ map deque_of left_owners) (map-append deque shares (s ∷ []))
            ∙ append_assoc (map deque shares) (deque s ∷ []) (map deque_of left_owners)
            ∙ ap (λ d. map deque shares ++ (d ∷ map deque_of left_owners)) (ap (λ (p : Place). p.deque) made.place)
            ∙ ap (λ x. map deque shares ++ map deque_of x) (sym o) ∙ h.deques_are;
        loads_are = ap (λ x. map load_of x ++ left_loads) is ∙ ap (λ x. x ++ left_loads) (map-append load_of shares (s ∷ []))
            ∙ append_assoc (map load_of shares) (load_of s ∷ []) left_loads
            ∙ ap (λ x. map load_of shares ++ (x ∷ left_loads)) made.load_is ∙ ap (λ x. map load_of shares ++ x) (sym l) ∙ h.loads_are;
        made = ap length is ∙ length-append shares (s ∷ []) ∙ (let m = h.made in omega arith);
        fresh = subst (All IsFresh) (sym is) (All-push IsFresh shares s h.fresh made.fresh);
        places = λ k x e. ⊎_elim (h.places k x)
            (λ (last : (k ≡ length shares) × (s ≡ x)).
            let worker : k ≡ n = last.0 ∙ h.made in
            subst (λ (y : Share L). IsPlaced total size workers k deques y) last.1 (subst (λ (j : ℕ). IsPlaced total size workers j deques s) (sym worker) (record {
              total_is = ap (λ (p : Place). p.total) made.place;
              size_is = ap (λ (p : Place). p.size) made.place;
              workers_is = ap (λ (p : Place). p.workers) made.place;
              worker_is = ap (λ (p : Place). p.worker) made.place;
              others = here;
            })))
            (slice_get-pushed shares s k x (ap (λ y. slice_get y k) (sym is) ∙ e));
      }

  -- what a share's deque was given
  given_at : (worker : ℕ) (s : Share L) → IsPlaced total size workers worker deques s → (place_of s).given ≡ entries_of (block_count total size) workers worker
  given_at worker s at = s.seated.stands.own
      ∙ ap (λ t. entries_of (block_count t s.seat.cut.size) s.seat.workers s.seat.worker) at.total_is
      ∙ ap (λ z. entries_of (block_count total z) s.seat.workers s.seat.worker) at.size_is
      ∙ ap (λ w. entries_of (block_count total size) w s.seat.worker) at.workers_is
      ∙ ap (entries_of (block_count total size) workers) at.worker_is

  -- all shares are made
  pub sharing_ends : (owners : List Owner) (thefts : List (Vec Theft Global)) (loads : List L) (shares : List (Share L)) → 0 < workers → workers ≤ 8 → IsSharing workers owners thefts loads shares → AreDeal total size shares
  sharing_ends owners thefts loads shares some few h =
      let no_owners : owners ≡ [] = nil_from_length owners (let a = h.owners_left in omega arith) in
      let wide : length (map place_of shares) ≡ workers = length-map shares place_of ∙ h.made in
      let same : map (λ (p : Place). p.deque) (map place_of shares) ≡ deques = twice shares ∙ sym (append-nil (map (λ (s : Share L). (place_of s).deque) shares)) ∙ ap (λ l. map (λ (s : Share L). (place_of s).deque) shares ++ map deque_of l) (sym no_owners) ∙ h.deques_are in
      let round : length deques ≡ length (map place_of shares) = ap length (sym same) ∙ length-map (map place_of shares) (λ (p : Place). p.deque) in
      record {
        some = omega arith;
        few = omega arith;
        each = λ j p e. (
            let f = slice_get-mapped place_of shares j p e in
            let at = h.places j f.0 f.1.0 in
            let is : place_of f.0 ≡ p = f.1.1 in (
              ap (λ (q : Place). q.total) (sym is) ∙ at.total_is,
              ap (λ (q : Place). q.size) (sym is) ∙ at.size_is,
              ap (λ (q : Place). q.workers) (sym is) ∙ at.workers_is ∙ sym wide,
              ap (λ (q : Place). q.worker) (sym is) ∙ at.worker_is,
              ap (λ (q : Place). q.given) (sym is) ∙ given_at j f.0 at ∙ ap (λ w. entries_of (block_count total size) w j) (sym wide),
            ));
        others = λ i j p d e other. (
            let f = slice_get-mapped place_of shares j p e in
            let at = h.places j f.0 f.1.0 in
            let lead = at.others i d (ap (λ (q : Place). slice_get q.others i) f.1.1 ∙ other) in
            ap (λ l. slice_get l ((j + 1 + i) % length (map place_of shares))) same ∙ ap (λ n. slice_get deques ((j + 1 + i) % n)) (sym round) ∙ lead);
      }
    where
      twice : (xs : List (Share L)) → map (λ (p : Place). p.deque) (map place_of xs) ≡ map (λ s. (place_of s).deque) xs
      twice [] = refl
      twice (x ∷ xs) = ap (λ l. (place_of x).deque ∷ l) (twice xs)
