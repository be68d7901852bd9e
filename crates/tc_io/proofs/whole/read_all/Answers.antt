use Rattle.std.proofs.Common.{ℕ, arith, length-take}
use Rattle.tc_io.proofs.Pieces.{takes_front, takes_at_most}
use Rattle.tc_io.proofs.whole.read_all.Goals as goal

pub returns-then-count-limit-clause-too_long : goal.returns-then-count-limit-clause-too_long
returns-then-count-limit-clause-too_long g c =
    let left = g.S.Source.left in
    λ _. takes_front _ c.in-Ok.count (left c.args.src.now) (left c.loop-bytes.src) (left c.read.new.self) c.loop-bytes.bytes.items _ c.loop-bytes.invariant.gone c.in-Ok.ensures.bytes.0 (omega (arith, c.in-Ok.ensures.bound)) (omega (arith, c.loop-bytes.bytes.ok.0, c.in-Ok.ensures.bound, c.read.auto.buf, length-take {A = ℕ}))

pub returns-then-count-limit-clause-part : goal.returns-then-count-limit-clause-part
returns-then-count-limit-clause-part g c =
    let left = g.S.Source.left in
    takes_at_most _ c.in-Ok.count (left c.args.src.now) (left c.loop-bytes.src) (left c.read.new.self) c.loop-bytes.bytes.items _ c.loop-bytes.invariant.gone c.in-Ok.ensures.bytes.0 (omega (arith, c.in-Ok.ensures.bound)) (omega (arith, c.loop-bytes.bytes.ok.0, c.in-Ok.ensures.bound, c.read.auto.buf, length-take {A = ℕ}))

pub returns-then-is_err-clause-part : goal.returns-then-is_err-clause-part
returns-then-is_err-clause-part g c =
    let left = g.S.Source.left in
    takes_at_most _ c.in-Ok.count (left c.args.src.now) (left c.loop-bytes.src) (left c.read.new.self) c.loop-bytes.bytes.items _ c.loop-bytes.invariant.gone c.in-Ok.ensures.bytes.0 (omega (arith, c.in-Ok.ensures.bound)) (omega (arith, c.loop-bytes.bytes.ok.0, c.in-Ok.ensures.bound))
