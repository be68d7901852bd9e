use Rattle.std.proofs.Common.{rules, ◌≡◌, ◌<◌, ◌≤◌, ℕ, List, Vec, Global, slice_get, map, length, subst, sym, ap, refl, ◌∙◌, add-zero, arith}
use Rattle.work_shares.specs.Cuts.{block_count}
use Rattle.work_shares.specs.Owners.{deque_of, pushed_of, IsReady}
use Rattle.work_shares.specs.Lending.{AreGiven}
use Rattle.work_shares.specs.declared.theft.Theft.{Theft}
use Rattle.work_shares.specs.Thefts.{DequeId, deque_into}
use Rattle.work_shares.specs.Places.{Place}
use Rattle.work_shares.specs.Owners.{Owner}
use Rattle.work_shares.proofs.Handing.{IsMade, IsSharing, sharing_starts, sharing_step, sharing_ends, first_rest}
use Rattle.work_shares.proofs.dealing.shares_of.Goals as goal

abbrev place_from : ℕ → ℕ → ℕ → ℕ → Owner → List DequeId → Place
place_from total size workers worker own others = record { total = total; size = size; workers = workers; worker = worker; deque = deque_of own; given = pushed_of own; others = others }

pub loop-worker-init : goal.loop-worker-init
loop-worker-init g c =
    let r = c.requires in
    let a = c.args in (
      sharing_starts a.cut.total a.cut.size (block_count a.cut.total a.cut.size) (length a.loads.items) (map deque_of a.owners.items) a.loads.items a.owners.items a.thefts.items c.in_ok-shares.shares.items c.in_ok-shares.ensures.items
          refl r.lengths.0 r.lengths.1 refl r.owners r.thefts r.ways,
      c.in_ok-shares.ensures.exact,
    )

pub share_at-requires-clause-own : goal.share_at-requires-clause-own
share_at-requires-clause-own g c =
    let i = c.loop-worker.invariant.0 in
    let count = block_count c.args.cut.total c.args.cut.size in
    let own = c.remove-own.result in
    let wide : c.len-workers.result ≡ length c.args.loads.items = search rules in
    let some : 0 < length c.loop-worker.owners.items = (let t = c.loop-worker-test.true in let l = i.owners_left in omega arith) in
    let is = first_rest c.loop-worker.owners.items c.remove-own.new.self.items own some c.remove-own.ensures.value c.remove-own.ensures.items in
    let ready = i.ready 0 own (ap (λ (l : List Owner). slice_get l 0) is) in
    subst (λ (w : ℕ). IsReady count w c.loop-worker.worker own) (sym wide) (subst (λ (k : ℕ). IsReady count (length c.args.loads.items) k own) (add-zero c.loop-worker.worker) ready)

pub share_at-requires-clause-thefts : goal.share_at-requires-clause-thefts
share_at-requires-clause-thefts g c =
    let i = c.loop-worker.invariant.0 in
    let count = block_count c.args.cut.total c.args.cut.size in
    let ways = c.remove-ways.result in
    let wide : c.len-workers.result ≡ length c.args.loads.items = search rules in
    let some : 0 < length c.loop-worker.thefts.items = (let t = c.loop-worker-test.true in let l = i.thefts_left in omega arith) in
    let is = first_rest c.loop-worker.thefts.items c.remove-ways.new.self.items ways some c.remove-ways.ensures.value c.remove-ways.ensures.items in
    let given = i.given 0 ways (ap (λ (l : List (Vec Theft Global)). slice_get l 0) is) in
    subst (λ (w : ℕ). AreGiven count w c.loop-worker.worker ways.items) (sym wide) (subst (λ (k : ℕ). AreGiven count (length c.args.loads.items) k ways.items) (add-zero c.loop-worker.worker) given)

pub loop-worker-preserved : goal.loop-worker-preserved
loop-worker-preserved g c =
    let i = c.loop-worker.invariant.0 in
    let a = c.args in
    let count = block_count a.cut.total a.cut.size in
    let t = c.loop-worker-test.true in
    let wide : c.len-workers.result ≡ length a.loads.items = search rules in
    let some_own : 0 < length c.loop-worker.owners.items = (let l = i.owners_left in omega arith) in
    let some_ways : 0 < length c.loop-worker.thefts.items = (let l = i.thefts_left in omega arith) in
    let some_load : 0 < length c.loop-worker.loads.items = (let l = i.loads_left in omega arith) in
    let owns = first_rest c.loop-worker.owners.items c.remove-own.new.self.items c.remove-own.result some_own c.remove-own.ensures.value c.remove-own.ensures.items in
    let ways = first_rest c.loop-worker.thefts.items c.remove-ways.new.self.items c.remove-ways.result some_ways c.remove-ways.ensures.value c.remove-ways.ensures.items in
    let loads = first_rest c.loop-worker.loads.items c.remove-load.new.self.items c.remove-load.result some_load c.remove-load.ensures.value c.remove-load.ensures.items in
    let e = c.in_ok-share.ensures in
    let made : IsMade a.cut.total a.cut.size count (length a.loads.items) (map deque_of a.owners.items) a.loads.items c.loop-worker.worker c.remove-own.result c.remove-ways.result c.remove-load.result c.in_ok-share.share =
    record { place = e.place ∙ ap (λ (w : ℕ). place_from a.cut.total a.cut.size w c.loop-worker.worker c.remove-own.result (map deque_into c.remove-ways.result.items)) wide; fresh = e.fresh; load_is = e.load } in (
      sharing_step a.cut.total a.cut.size count (length a.loads.items) (map deque_of a.owners.items) a.loads.items c.loop-worker.worker c.loop-worker.owners.items c.remove-own.new.self.items c.loop-worker.thefts.items c.remove-ways.new.self.items
          c.loop-worker.loads.items c.remove-load.new.self.items c.loop-worker.shares.items c.push_reserved.new.self.items c.remove-own.result c.remove-ways.result c.remove-load.result c.in_ok-share.share
          owns ways loads c.push_reserved.ensures.items made i,
      c.push_reserved.ensures.capacity ∙ c.loop-worker.invariant.1,
    )

pub returns-clause-deal : goal.returns-clause-deal
returns-clause-deal g c =
    let a = c.args in
    let count = block_count a.cut.total a.cut.size in
    let some : 0 < length a.loads.items = search rules in
    let few : length a.loads.items ≤ 8 = search rules in
    let all : c.loop-worker.worker ≡ length a.loads.items = search rules in
    sharing_ends a.cut.total a.cut.size count (length a.loads.items) (map deque_of a.owners.items) a.loads.items c.loop-worker.owners.items c.loop-worker.thefts.items c.loop-worker.loads.items c.loop-worker.shares.items some few
    (subst (λ (n : ℕ). IsSharing a.cut.total a.cut.size count (length a.loads.items) (map deque_of a.owners.items) a.loads.items n c.loop-worker.owners.items c.loop-worker.thefts.items c.loop-worker.loads.items c.loop-worker.shares.items) all c.loop-worker.invariant.0)
