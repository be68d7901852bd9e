use Rattle.std.proofs.Common.{◌≡◌, length, All}
use Rattle.quick_label.specs.Classes.{IsClassRoom}
use Rattle.quick_label.proofs.classes.new_classes.Given as goal

abbrev pub invariant-loop : goal.invariant-loop
invariant-loop l = record {
  long : length l.classes.items ≡ l.counter;
  rooms : All (IsClassRoom l.n) l.classes.items;
}
