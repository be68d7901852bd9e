use Rattle.std.proofs.Common.{◌≡◌, length, All, sym, subst, arith}
use Rattle.std.proofs.lemmas.List.{length-append}
use Rattle.std.proofs.lemmas.List.Elements.{All-push}
use Rattle.quick_label.specs.Classes.{IsClassRoom}
use Rattle.quick_label.proofs.classes.new_classes.Goals as goal

pub loop-preserved : goal.loop-preserved
loop-preserved c = record {
  long = omega (arith, c.in_ok-push.ensures.len, c.loop.invariant.long);
  rooms = subst (All (IsClassRoom c.args.n)) (sym c.in_ok-push.ensures.items) (All-push (IsClassRoom c.args.n) c.loop.classes.items _ c.loop.invariant.rooms c.in_ok-new.ensures);
}
