use Rattle.std.proofs.Common.{refl, sym, subst, arith}
use Rattle.quick_label.proofs.BlockHomes.{AreSettled, settle_one, settle_none, settled_all}
use Rattle.quick_label.proofs.blocks.settle_block.Goals as goal
use Rattle.quick_label.proofs.blocks.settle_block.Goals.{then-span-v, else-span-v}

pub loop-v-init : goal.loop-v-init
loop-v-init c = record { settled = λ x l m e. absurd (omega arith); later = λ x l m. refl; outside = λ x l e. refl }

pub loop-v-preserved : goal.loop-v-preserved
loop-v-preserved c = elim c.if-span-v.branch [
  | then-span-v w ↦ subst (AreSettled c.args.span.now c.args.home _ c.args.homes.now) (sym w.homes-is)
      (settle_one c.args.span.now c.args.home c.loop-v.v c.args.homes.now c.loop-v.homes c.loop-v.invariant (let low = c.requires.closed c.loop-v.v c.loop-v-test.true in omega arith) w.if-span-v.true)
  | else-span-v w ↦ subst (AreSettled c.args.span.now c.args.home _ c.args.homes.now) (sym w.homes-is)
      (settle_none c.args.span.now c.args.home c.loop-v.v c.args.homes.now c.loop-v.homes c.loop-v.invariant w.if-span-v.false)
]

pub returns : goal.returns
returns c x l = settled_all c.args.span.now c.args.home c.loop-v.v _ c.loop-v.homes c.loop-v.invariant x l (let m = c.requires.closed x l in omega arith)
