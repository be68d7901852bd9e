use Rattle.std.proofs.Common.{rules, ◌≡◌, length, sym, ◌∙◌, subst}
use Rattle.std.proofs.lemmas.List.{nil_from_length}
use Rattle.std.proofs.lemmas.List.Elements.{All-get_or}
use Rattle.crossbeam_deque.specs.Handles.{IsPassOf}
use Rattle.work_shares.specs.Owners.{IsLive}
use Rattle.work_shares.proofs.TakingBack.{Absorbs, left_step, left_ends, lead-last}
use Rattle.work_shares.proofs.returns.take_back_from.Goals as goal

pub take_back-requires : goal.take_back-requires
take_back-requires c =
    let i = c.loop-theft.invariant in
    let t = c.in-Some.theft in
    let o = c.index_mut.result.now in
    let long : c.len.result ≡ length c.pop.new.self.items = search rules in
    let wide : c.len-workers.result ≡ length c.args.owners.now.items = search rules in
    let found = lead-last c.loop-theft.owners.items c.args.worker c.len.result c.len-workers.result c.loop-theft.thefts.items c.pop.new.self.items t o c.in-Some.ensures.items i.lead long (wide ∙ sym i.wide) c.index_mut.ensures.value in
    let live : IsLive o = subst IsLive (sym c.index_mut.ensures.value) (All-get_or IsLive c.loop-theft.owners.items _ o found.0 i.live) in
    (subst (λ d. IsPassOf d t.pass) (sym found.1) t.of, live)

pub loop-theft-preserved : goal.loop-theft-preserved
loop-theft-preserved c =
    let o = c.index_mut.result.now in
    let absorbs : Absorbs c.in-Some.theft o c.take_back.new.owner = record { deque = c.take_back.ensures.same.0; is = c.take_back.ensures.view } in
    let long : c.len.result ≡ length c.pop.new.self.items = search rules in
    let wide : c.len-workers.result ≡ length c.args.owners.now.items = search rules in
    left_step _ _ _ _ _ _ _ _ _ o _ c.in-Some.ensures.items long wide c.index_mut.ensures.value absorbs c.loop-theft.invariant

pub returns-clause-took : goal.returns-clause-took
returns-clause-took c = left_ends _ _ c.loop-theft.thefts.items _ _ (nil_from_length c.loop-theft.thefts.items (search rules)) c.loop-theft.invariant
