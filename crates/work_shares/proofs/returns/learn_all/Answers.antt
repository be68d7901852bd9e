use Rattle.std.proofs.Common.{rules, ◌≡◌, ◌<◌, ◌≤◌, ℕ, List, [], map, get_or, length, sym, ap, ◌∙◌, subst, arith}
use Rattle.std.proofs.lemmas.List.{get_or-map, get_or_default, length-map}
use Rattle.std.proofs.Math.Seq.{map-set_same}
use borrow.Author.Count.{below_more}
use Rattle.crossbeam_deque.specs.Handles.{worker_view}
use Rattle.work_shares.specs.declared.entry.View.{View}
use Rattle.work_shares.specs.Rule.{Learnt}
use Rattle.work_shares.specs.Owners.{Owner}
use Rattle.work_shares.proofs.returns.learn_all.Goals as goal

abbrev view_of : Owner → View
view_of owner = worker_view owner

-- owners with the same views, at one place
same_view : (xs ys : List Owner) (i : ℕ) (d : Owner) → map view_of xs ≡ map view_of ys → i < length xs → (i < length ys) × (view_of (get_or xs i d) ≡ view_of (get_or ys i d))
same_view xs ys i d same here =
    let there : i < length ys = omega (arith, length-map xs view_of, length-map ys view_of, ap length same) in
    (there, sym (get_or-map view_of xs i d (view_of d) here) ∙ ap (λ l. get_or l i (view_of d)) same ∙ get_or-map view_of ys i d (view_of d) there)

pub learn-requires : goal.learn-requires
learn-requires c =
    let owners = c.loop-i.owners.items in
    let o = c.index_mut.result.now in
    let lt : c.loop-i.i < length owners = search rules in
    let s = same_view owners c.args.owners.now.items c.loop-i.i o c.loop-i.invariant.0 lt in
    ap (λ (v : View). v.parts) (ap view_of c.index_mut.ensures.value ∙ s.1) ∙ c.requires c.loop-i.i o s.0

pub loop-i-preserved : goal.loop-i-preserved
loop-i-preserved c =
    let owners = c.loop-i.owners.items in
    let o = c.index_mut.result.now in
    let lt : c.loop-i.i < length owners = search rules in (
      map-set_same view_of owners c.loop-i.i c.learn.new.owner o (c.learn.ensures.view ∙ ap view_of c.index_mut.ensures.value) ∙ c.loop-i.invariant.0,
      below_more (λ k. (d : Owner) → Learnt (view_of (get_or c.args.owners.now.items k d)) []) c.loop-i.i c.loop-i.invariant.1 (λ d.
          let seen : view_of o ≡ view_of (get_or c.args.owners.now.items c.loop-i.i d) =
          ap view_of (c.index_mut.ensures.value ∙ get_or_default owners c.loop-i.i o d lt) ∙ (same_view owners c.args.owners.now.items c.loop-i.i d c.loop-i.invariant.0 lt).1 in
          subst (λ (v : View). Learnt v []) seen c.learn.ensures.learnt),
    )

pub returns-clause-learnt : goal.returns-clause-learnt
returns-clause-learnt c k d lt = c.loop-i.invariant.1 k (let all : length c.args.owners.now.items ≤ c.loop-i.i = search rules in omega arith) d
