use Rattle.std.proofs.Common.{◌+◌, ◌-◌, ◌^◌, ◌∙◌, ap, arith}
use Rattle.ring_laws.specs.Cyclotomic.{times, root2}
use Rattle.tc_ring.specs.Omega.{number_of}
use Rattle.count_checker.proofs.Entries.{no_factor, one_factor, within_last, within_twice, within_zero}
use Rattle.count_checker.proofs.matrices.raise.Goals as goal

pub loop-init : goal.loop-init
loop-init c = record { value = no_factor (number_of c.args.number); small = within_zero c.args.factors (number_of c.args.number) c.requires.small }

pub times_root2-product-requires : goal.times_root2-product-requires
times_root2-product-requires c = within_last c.args.factors c.loop.counter (number_of c.loop.product) (omega arith) c.requires.few c.loop.invariant.small

pub loop-preserved : goal.loop-preserved
loop-preserved c = record {
  value = c.times_root2-product.ensures.value ∙ ap (times root2) c.loop.invariant.value ∙ one_factor c.loop.counter (number_of c.args.number);
  small = within_twice c.args.factors c.loop.counter (number_of c.times_root2-product.result) (omega arith) c.requires.few
      (c.times_root2-product.ensures.bound (2 ^ (120 - c.args.factors + c.loop.counter)) c.loop.invariant.small);
}
