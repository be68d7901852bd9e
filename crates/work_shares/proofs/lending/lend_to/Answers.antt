use Rattle.std.proofs.Common.{rules, ◌≡◌, ◌+◌, ◌-◌, ◌%◌, ◌<◌, ◌++◌, ◌∷◌, [], ℕ, List, get_or, set, length, sym, ap, ◌∙◌, subst, arith}
use Rattle.work_shares.specs.declared.theft.Theft.{Theft}
use Rattle.work_shares.specs.Lending.{Lends}
use Rattle.work_shares.proofs.LendingOne.{lends_start, lends_room, lends_step}
use Rattle.work_shares.proofs.lending.lend_to.Goals as goal

pub loop-i-init : goal.loop-i-init
loop-i-init c =
    let owners = c.args.owners.now.items in (
      subst (λ (l : List Theft). Lends c.args.worker 0 l owners owners) (sym c.in_ok-thefts.ensures.items) (lends_start c.args.worker owners c.requires.untaken),
      c.in_ok-thefts.ensures.len,
      c.in_ok-thefts.ensures.exact,
    )

pub lend_one-requires-clause-parts : goal.lend_one-requires-clause-parts
lend_one-requires-clause-parts c =
    let owners = c.args.owners.now.items in
    let now = c.loop-i.owners.items in
    let o = c.index_mut.result.now in
    let wide : c.len-workers.result ≡ length owners = search rules in
    let at : o ≡ get_or now ((c.args.worker + 1 + c.loop-i.i) % length owners) o = subst (λ (w : ℕ). o ≡ get_or now ((c.args.worker + 1 + c.loop-i.i) % w) o) wide c.index_mut.ensures.value in
    let below : c.loop-i.i < length owners - 1 = (let t = c.loop-i-test.true in omega arith) in
    lends_room c.args.worker c.loop-i.i c.loop-i.thefts.items owners now o c.loop-i.invariant.0 below c.requires.parts at

pub loop-i-preserved : goal.loop-i-preserved
loop-i-preserved c =
    let owners = c.args.owners.now.items in
    let now = c.loop-i.owners.items in
    let o = c.index_mut.result.now in
    let p = c.lend_one.new.owner in
    let t = c.in_ok-theft.theft in
    let wide : c.len-workers.result ≡ length owners = search rules in
    let some : 0 < length owners = search rules in
    let at : o ≡ get_or now ((c.args.worker + 1 + c.loop-i.i) % length owners) o = subst (λ (w : ℕ). o ≡ get_or now ((c.args.worker + 1 + c.loop-i.i) % w) o) wide c.index_mut.ensures.value in
    let step = lends_step c.args.worker c.loop-i.i c.loop-i.thefts.items owners now t o p some at c.in_ok-theft.ensures c.loop-i.invariant.0 in
    let i = c.loop-i.invariant in
    let e = c.push_reserved.ensures in (
      subst (λ (l : List Theft). Lends c.args.worker (c.loop-i.i + 1) l owners (set now ((c.args.worker + 1 + c.loop-i.i) % c.len-workers.result) p)) (sym e.items)
          (subst (λ (w : ℕ). Lends c.args.worker (c.loop-i.i + 1) (c.loop-i.thefts.items ++ t ∷ []) owners (set now ((c.args.worker + 1 + c.loop-i.i) % w) p)) (sym wide) step),
      e.len ∙ ap (λ k. k + 1) i.1,
      e.capacity ∙ i.2,
    )
