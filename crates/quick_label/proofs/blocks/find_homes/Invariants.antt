use Rattle.std.proofs.Common.{length}
use Rattle.quick_label.proofs.BlockHomes.{AreFound}
use Rattle.quick_label.proofs.blocks.find_homes.Given as goal

abbrev pub invariant-loop-code : goal.invariant-loop-code
invariant-loop-code l = AreFound (length l.initial.homes) l.span l.code l.homes
