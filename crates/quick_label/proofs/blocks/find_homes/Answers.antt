use Rattle.std.proofs.Common.{ℕ, length, inl, sym, subst, refl, arith}
use Rattle.quick_label.specs.Rooms.{MarksSubspace, AreHomes}
use Rattle.quick_label.proofs.BlockHomes.{AreFound, find_new, find_old, found_homes}
use Rattle.quick_label.proofs.blocks.find_homes.Goals as goal
use Rattle.quick_label.proofs.blocks.find_homes.Goals.{then-homes-code, else-homes-code}

pub loop-code-init : goal.loop-code-init
loop-code-init c x l = inl (record { none = c.fill.ensures.clones x 0 (omega (arith, c.fill.ensures.len)) refl; new = λ y m. absurd (omega arith) })

pub loop-code-preserved : goal.loop-code-preserved
loop-code-preserved c = elim c.if-homes-code.branch [
  | then-homes-code w ↦ subst (AreFound (length c.fill.new.self) c.args.span.now _) (sym w.homes-is)
      (find_new (length c.fill.new.self) c.args.span.now (subst (λ (n : ℕ). MarksSubspace n c.args.span.now) (sym c.fill.ensures.len) c.requires.subspace) c.loop-code.code c.loop-code.homes _ c.loop-code.invariant c.loop-code-test.true
      (omega (arith, c.fill.ensures.len)) w.if-homes-code.true (λ x l. w.settle_block.ensures x (omega (arith, c.fill.ensures.len, c.requires.subspace.long))))
  | else-homes-code w ↦ subst (AreFound (length c.fill.new.self) c.args.span.now _) (sym w.homes-is)
      (find_old (length c.fill.new.self) c.args.span.now (subst (λ (n : ℕ). MarksSubspace n c.args.span.now) (sym c.fill.ensures.len) c.requires.subspace) c.loop-code.code c.loop-code.homes c.loop-code.invariant c.loop-code-test.true w.if-homes-code.false)
]

pub returns : goal.returns
returns c = subst (λ (n : ℕ). AreHomes n c.args.span.now c.loop-code.homes) c.fill.ensures.len
    (found_homes (length c.fill.new.self) c.args.span.now (subst (λ (n : ℕ). MarksSubspace n c.args.span.now) (sym c.fill.ensures.len) c.requires.subspace) c.loop-code.code c.loop-code.homes (omega arith) c.loop-code.invariant)
