use Rattle.std.proofs.Common.{rules, ◌≡◌, ◌+◌, ◌<◌, ℕ, length, vec_len, ◌∙◌, subst}
use Rattle.std.proofs.lemmas.List.{nil_from_length}
use Rattle.work_shares.specs.declared.share.Share.{Share}
use Rattle.work_shares.specs.Parts.{HasRoom}
use Rattle.work_shares.proofs.Parting.{parting_starts, parting_step, parting_ends, holds_first}
use Rattle.work_shares.proofs.settling.take_apart.Goals as goal

pub loop-shares-init : goal.loop-shares-init
loop-shares-init g c =
    let s = c.remove-load.result in
    let all = c.args.shares.items in
    let some : 0 < length all = search rules in
    let first : s.seat.worker ≡ 0 = holds_first (λ (x : Share g.row.L.Denot). x.seat.worker ≡ 0) all s some c.remove-load.ensures.value c.requires.first in
    let workers : s.seat.workers ≡ vec_len c.args.shares = holds_first (λ (x : Share g.row.L.Denot). x.seat.workers ≡ vec_len c.args.shares) all s some c.remove-load.ensures.value c.requires.room in
    let count : s.seat.workers ≡ length all = workers ∙ (let e : vec_len c.args.shares ≡ length all = search rules in e) in
    let room : HasRoom (length all) s.room = subst (λ (n : ℕ). HasRoom n s.room) count (s.roomy first) in
    let left : length all ≡ length c.remove-load.new.self.items + 1 = search rules in
    let more = c.put.ensures.room (length c.remove-load.new.self.items) (subst (λ (n : ℕ). HasRoom n s.room) left room) in
    parting_step all all _ s.room _ s some c.remove-load.ensures.value c.remove-load.ensures.items c.put.ensures.gains more (parting_starts all s.room s.empty room)

pub loop-shares-preserved : goal.loop-shares-preserved
loop-shares-preserved g c =
    let s = c.remove-load-in-loop-shares.result in
    let i = c.loop-shares.invariant in
    let rest = c.loop-shares.shares.items in
    let e = c.remove-load-in-loop-shares.ensures in
    let some : 0 < length rest = search rules in
    let left : length rest ≡ length c.remove-load-in-loop-shares.new.self.items + 1 = search rules in
    let more = c.put-in-loop-shares.ensures.room (length c.remove-load-in-loop-shares.new.self.items) (subst (λ (n : ℕ). HasRoom n c.loop-shares.parts) left i.room) in
    parting_step c.args.shares.items rest _ c.loop-shares.parts _ s some e.value e.items c.put-in-loop-shares.ensures.gains more i

pub returns : goal.returns
returns g c = parting_ends c.args.shares.items c.loop-shares.shares.items c.loop-shares.parts (nil_from_length c.loop-shares.shares.items (search rules)) c.loop-shares.invariant
