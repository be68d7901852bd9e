use Rattle.std.proofs.Common.{◌≡◌, ℕ, ◌<◌, List, [], All, map, length, get_or, sym, ap, ◌∙◌, subst, arith}
use Rattle.work_shares.specs.declared.share.Share.{Share}
use Rattle.work_shares.specs.Shares.{AreDeal, place_of, load_of}
use Rattle.work_shares.proofs.Kept.{AreDeal-kept, map-same}
use Rattle.steal_sweep.proofs.Lists.{at_map, written_back, All-from_map}
use Rattle.steal_sweep.proofs.each.for_each.Goals as goal

pub work_all-requires-clause-own : goal.work_all-requires-clause-own
work_all-requires-clause-own g c κs within =
    let S : Type 0 = Share g.row.L.Denot in
    let own = g.J.Job.own c.args.job.now in
    let is = c.as_mut_slice.ensures.value in
    let P : S → Type 0 = λ s. (p : ℕ) → p < (place_of s).total → own p in
    let each : All P c.args.shares.now.items = λ k d lt p below.
    (let same = (c.requires.deal.1.1.each k _ (at_map (place_of {L = g.row.L.Denot}) c.args.shares.now.items k d lt)).0 in c.requires.deal.1.2 p (omega arith)) in
    subst (All P) (sym is) each

pub work_all-requires-clause-stands : goal.work_all-requires-clause-stands
work_all-requires-clause-stands g c κs within =
    let P = λ (l : g.row.L.Denot). g.J.Job.stands c.args.job.now l [] in
    subst (All (λ (s : Share g.row.L.Denot). P s.load)) (sym c.as_mut_slice.ensures.value) (All-from_map load_of P c.args.shares.now.items c.requires.stands)

pub returns-clause-deal : goal.returns-clause-deal
returns-clause-deal g c = λ total block are.
    let S : Type 0 = Share g.row.L.Denot in
    let new = c.work_all.new.shares in
    let old = c.args.shares.now.items in
    let is = c.as_mut_slice.ensures.value in
    let len : length new ≡ length old = c.work_all.auto.shares ∙ ap (λ (l : List S). length l) is in
    let whole = written_back c.args.shares.now.len new old (c.work_all.auto.shares ∙ c.as_mut_slice.ensures.len) in
    let same = subst (λ (l : List S). (k : ℕ) (d : S) → k < length l → place_of (get_or new k d) ≡ place_of (get_or l k d)) is c.work_all.ensures.place in
    subst (AreDeal total block) (sym whole) (AreDeal-kept total block old new len same are)

pub returns-clause-name : goal.returns-clause-name
returns-clause-name g c =
    let S : Type 0 = Share g.row.L.Denot in
    let name = λ (s : S). g.J.Job.name c.args.job.now s.load in
    let new = c.work_all.new.shares in
    let old = c.args.shares.now.items in
    let is = c.as_mut_slice.ensures.value in
    let len : length new ≡ length old = c.work_all.auto.shares ∙ ap (λ (l : List S). length l) is in
    let whole = written_back c.args.shares.now.len new old (c.work_all.auto.shares ∙ c.as_mut_slice.ensures.len) in
    let same = subst (λ (l : List S). (k : ℕ) (d : S) → k < length l → name (get_or new k d) ≡ name (get_or l k d)) is c.work_all.ensures.name in
    ap (map name) whole ∙ map-same name old new len same

pub returns-clause-place : goal.returns-clause-place
returns-clause-place g c =
    let S : Type 0 = Share g.row.L.Denot in
    let new = c.work_all.new.shares in
    let old = c.args.shares.now.items in
    let is = c.as_mut_slice.ensures.value in
    let len : length new ≡ length old = c.work_all.auto.shares ∙ ap (λ (l : List S). length l) is in
    let whole = written_back c.args.shares.now.len new old (c.work_all.auto.shares ∙ c.as_mut_slice.ensures.len) in
    let same = subst (λ (l : List S). (k : ℕ) (d : S) → k < length l → place_of (get_or new k d) ≡ place_of (get_or l k d)) is c.work_all.ensures.place in
    ap (map (place_of {L = g.row.L.Denot})) whole ∙ map-same (place_of {L = g.row.L.Denot}) old new len same
