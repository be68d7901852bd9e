use Rattle.std.proofs.Common.{◌++◌, ◌∷◌, [], ◌∙◌, ap, sym, subst, map, All}
use Rattle.std.proofs.lemmas.List.{map-append}
use Rattle.std.proofs.lemmas.List.Elements.{All-push}
use Rattle.level_store.specs.declared.hand.Hand.{Hand}
use Rattle.level_store.specs.Hands.{IsHand}
use Rattle.level_store.proofs.hand.hands_of.Goals as goal

pub loop-seat-preserved : goal.loop-seat-preserved
loop-seat-preserved c =
    let i = c.loop-seat.invariant in
    let e = c.in_ok-push.ensures.items in
    let seat = λ (h : Hand). h.seat in
    let before = c.loop-seat.hands.items in
    record {
      seats = ap (map seat) e ∙ (map-append seat before _ ∙ (λ k. i.seats k ++ c.in_ok-new.ensures.seat k ∷ []));
      hands = subst (All (IsHand c.args.n)) (sym e) (All-push (IsHand c.args.n) before _ i.hands c.in_ok-new.ensures.hand);
    }
