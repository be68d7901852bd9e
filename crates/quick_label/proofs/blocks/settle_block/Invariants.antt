use Rattle.quick_label.proofs.BlockHomes.{AreSettled}
use Rattle.quick_label.proofs.blocks.settle_block.Given as goal

abbrev pub invariant-loop-v : goal.invariant-loop-v
invariant-loop-v l = AreSettled l.span l.home l.v l.initial.homes l.homes
