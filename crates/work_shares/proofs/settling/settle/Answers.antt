use Rattle.std.proofs.Common.{rules, ◌≡◌, ℕ, List, [], ◌∷◌, Vec, Global, Some, IfSome, All, IsPermutation, map, flat_map, get_or, length, vec_len, slice_get, refl, sym, ap, ◌∙◌, subst}
use Rattle.std.specs.List.{range_with_len}
use Rattle.std.proofs.lemmas.List.{get_or-map}
use Rattle.std.proofs.lemmas.Option.{slice_get-get_or}
use Rattle.work_shares.specs.declared.block.Block.{Block}
use Rattle.work_shares.specs.declared.theft.Theft.{Theft}
use Rattle.work_shares.specs.declared.share.Share.{Share}
use Rattle.work_shares.specs.Cuts.{dealt, positions_of, IsPartOf}
use Rattle.work_shares.specs.Blocks.{extents_of}
use Rattle.work_shares.specs.Owners.{Owner, deque_of, LeadAllOn, IsLive, HasMark, KeepMarks, TookBack}
use Rattle.work_shares.specs.Ways.{ways_from}
use Rattle.crossbeam_deque.specs.Handles.{worker_view}
use Rattle.work_shares.specs.Rule.{Learnt}
use Rattle.work_shares.specs.Shares.{noted_by, own_blocks, AreDeal}
use Rattle.work_shares.specs.Apart.{own_of, thefts_of, notes_of}
use Rattle.work_shares.proofs.AllBack.{lengths_of, all_got}
use Rattle.work_shares.proofs.Ties.{place_at, own_blocks_at, all_lead, all_live, all_marked, owners_whole}
use Rattle.work_shares.proofs.Settles.{Settling, apart_dealt, once_dealt, own_noted}
use Rattle.work_shares.proofs.Positions.{positions_once, positions_by_share}
use Rattle.work_shares.proofs.Kept.{AreDeal-size}
use Rattle.work_shares.proofs.settling.settle.Goals as goal

-- what holds of each share of a deal holds of the first one
first_of : {L : Type 0} (P : Share L → Type 0) (shares : List (Share L)) → ((s : Share L) → slice_get shares 0 ≡ Some s → P s) → IfSome (slice_get shares 0) P
first_of P [] each = tt
first_of P (s ∷ ss) each = each s refl

-- the blocks of the notes of shares
blocks_are : {L : Type 0} (shares : List (Share L)) (notes : List (Vec Block Global)) → notes ≡ map notes_of shares → map (λ (own : Vec Block Global). own.items) notes ≡ map noted_by shares
blocks_are shares notes is = ap (map (λ (own : Vec Block Global). own.items)) is ∙ notes_are shares where
  notes_are : {L : Type 0} (shares : List (Share L)) → map (λ (own : Vec Block Global). own.items) (map notes_of shares) ≡ map noted_by shares
  notes_are [] = refl
  notes_are (s ∷ ss) = ap (λ l. noted_by s ∷ l) (notes_are ss)

-- what was taken back, of the lists that these are
took_from : (owners was new : List Owner) (thefts given : List (Vec Theft Global)) → was ≡ owners → given ≡ thefts → TookBack (λ d. ways_from (length was) d 0 (lengths_of given)) (λ weight. all_got weight given) was new
    → TookBack (λ d. ways_from (length owners) d 0 (lengths_of thefts)) (λ weight. all_got weight thefts) owners new
took_from owners was new thefts given a b t =
    subst (λ (os : List Owner). TookBack (λ d. ways_from (length os) d 0 (lengths_of thefts)) (λ weight. all_got weight thefts) os new) a
    (subst (λ (ts : List (Vec Theft Global)). TookBack (λ d. ways_from (length was) d 0 (lengths_of ts)) (λ weight. all_got weight ts) was new) b t)

pub take_apart-owners-requires-clause-first : goal.take_apart-owners-requires-clause-first
take_apart-owners-requires-clause-first g c =
    let d = c.requires in
    first_of (λ (s : Share g.row.L.Denot). s.seat.worker ≡ 0) c.args.shares.items (λ s e. (place_at d.0 d.1.0 c.args.shares.items d.1.1 0 s e).3)

pub take_apart-owners-requires-clause-room : goal.take_apart-owners-requires-clause-room
take_apart-owners-requires-clause-room g c =
    let d = c.requires in
    let len : length c.args.shares.items ≡ vec_len c.args.shares = search rules in
    first_of (λ (s : Share g.row.L.Denot). s.seat.workers ≡ vec_len c.args.shares) c.args.shares.items (λ s e. (place_at d.0 d.1.0 c.args.shares.items d.1.1 0 s e).2 ∙ len)

pub take_back_all-requires-clause-ways : goal.take_back_all-requires-clause-ways
take_back_all-requires-clause-ways g c =
    let d = c.requires in
    let e = c.take_apart-owners.ensures in
    let P : List Owner → Type 0 = λ l. LeadAllOn (map deque_of l) c.take_apart-owners.result.thefts.items in
    let Q : List (Vec Theft Global) → Type 0 = λ l. LeadAllOn (map deque_of (map own_of c.args.shares.items)) l in
    subst P (sym e.owners) (subst Q (sym e.thefts) (all_lead d.0 d.1.0 c.args.shares.items d.1.1))

pub take_back_all-requires-clause-live : goal.take_back_all-requires-clause-live
take_back_all-requires-clause-live g c = subst (All IsLive) (sym c.take_apart-owners.ensures.owners) (all_live c.args.shares.items)

pub learn_all-requires : goal.learn_all-requires
learn_all-requires g c =
    let d = c.requires in
    owners_whole d.0 d.1.0 c.args.shares.items _ c.take_back_all.new.owners.items d.1.1
    (took_from (map own_of c.args.shares.items) c.take_apart-owners.result.owners.items c.take_back_all.new.owners.items (map thefts_of c.args.shares.items) c.take_apart-owners.result.thefts.items c.take_apart-owners.ensures.owners c.take_apart-owners.ensures.thefts c.take_back_all.ensures.took)

pub returns-clause-blocks : goal.returns-clause-blocks
returns-clause-blocks g c = blocks_are c.args.shares.items c.take_apart-owners.result.notes.items c.take_apart-owners.ensures.notes

-- what the owners learnt, who took back all thefts of a deal
settling : {L : Type 0} (total block : ℕ) (shares : List (Share L)) (owners new : List Owner) (thefts : List (Vec Theft Global)) → owners ≡ map own_of shares → thefts ≡ map thefts_of shares → AreDeal total block shares
    → TookBack (λ d. ways_from (length owners) d 0 (lengths_of thefts)) (λ weight. all_got weight thefts) owners new → KeepMarks owners new → All (λ o. Learnt (worker_view o) []) new → Settling total block shares new
settling total block shares owners new thefts own stolen deal took marks learnt =
    let t = took_from (map own_of shares) owners new (map thefts_of shares) thefts own stolen took in
    record { deal = deal; pushed = t.pushed; got = t.got; marks = subst (λ (l : List Owner). KeepMarks l new) own marks; learnt = learnt }

pub returns-clause-apart : goal.returns-clause-apart
returns-clause-apart g c total block deal =
    let e = c.take_apart-owners.ensures in
    let s = settling total block c.args.shares.items _ c.take_back_all.new.owners.items _ e.owners e.thefts deal c.take_back_all.ensures.took c.take_back_all.ensures.marks c.learn_all.ensures.learnt in
    subst (λ (l : List (List Block)). IsPartOf (flat_map extents_of l) (dealt total block)) (sym (blocks_are c.args.shares.items c.take_apart-owners.result.notes.items e.notes)) (apart_dealt total block c.args.shares.items c.take_back_all.new.owners.items s)

pub returns-clause-own : goal.returns-clause-own
returns-clause-own g c k d lt mark =
    let e = c.take_apart-owners.ensures in
    let shares = c.args.shares.items in
    let total = c.requires.0 in
    let block = c.requires.1.0 in
    let deal = c.requires.1.1 in
    let s = settling total block shares _ c.take_back_all.new.owners.items _ e.owners e.thefts deal c.take_back_all.ensures.took c.take_back_all.ensures.marks c.learn_all.ensures.learnt in
    let own = own_noted total block shares c.take_back_all.new.owners.items s k (own_of d) lt (subst HasMark (sym (get_or-map own_of shares k d (own_of d) lt)) mark) in
    subst (λ (l : List (List Block)). IsPartOf (own_blocks (get_or shares k d)) (flat_map extents_of l)) (sym (blocks_are shares c.take_apart-owners.result.notes.items e.notes))
    (subst (λ (l : List (ℕ × ℕ)). IsPartOf l (flat_map extents_of (map noted_by shares))) (sym (own_blocks_at total block shares deal k (get_or shares k d) (slice_get-get_or shares k d lt))) own)

pub returns-clause-once : goal.returns-clause-once
returns-clause-once g c total block deal ended =
    let e = c.take_apart-owners.ensures in
    let s = settling total block c.args.shares.items _ c.take_back_all.new.owners.items _ e.owners e.thefts deal c.take_back_all.ensures.took c.take_back_all.ensures.marks c.learn_all.ensures.learnt in
    subst (λ (l : List (List Block)). IsPermutation (dealt total block) (flat_map extents_of l)) (sym (blocks_are c.args.shares.items c.take_apart-owners.result.notes.items e.notes)) (once_dealt total block c.args.shares.items c.take_back_all.new.owners.items s (all_marked c.args.shares.items ended))

pub returns-clause-positions : goal.returns-clause-positions
returns-clause-positions g c total block deal ended =
    positions_once total block (flat_map extents_of (map (λ (own : Vec Block Global). own.items) c.take_apart-owners.result.notes.items)) (AreDeal-size total block c.args.shares.items deal) (returns-clause-once g c total block deal ended)

pub returns-clause-shared : goal.returns-clause-shared
returns-clause-shared g c total block deal ended =
    let shares = c.args.shares.items in
    let same = ap (λ (l : List (List Block)). flat_map positions_of (flat_map extents_of l)) (blocks_are shares c.take_apart-owners.result.notes.items c.take_apart-owners.ensures.notes) ∙ positions_by_share noted_by shares in
    subst (IsPermutation (range_with_len 0 total)) same (returns-clause-positions g c total block deal ended)
