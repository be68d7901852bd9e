use Rattle.std.proofs.Common.{◌≡◌, ◌≢◌, ◌<◌, ◌+◌, ◌∷◌, ◌∙◌, List, length, slice_index, slice_index_or, inl, inr, ap, sym, subst, arith}
use Rattle.std.proofs.lemmas.Bool.{cases_eq}
use Rattle.quick_label.specs.Classes.{IsClass}
use Rattle.quick_label.specs.Spans.{AreSpan}
use Rattle.quick_label.specs.declared.classes.Class.{Class}
use Rattle.quick_label.proofs.classes.take_classes.Goals as goal

pub loop-home-preserved : goal.loop-home-preserved
loop-home-preserved c = record {
  long = c.settle_class.ensures.long ∙ c.loop-home.invariant.long;
  rooms = c.settle_class.ensures.rooms;
  done = λ letters are k d l own. elim (cases_eq k c.loop-home.home) [
    | inl e ↦ (let here : slice_index c.args.blocks.now.homes c.loop-home.home ≡ c.loop-home.home = sym (ap (slice_index c.args.blocks.now.homes) e) ∙ own ∙ e in
        subst (λ j. IsClass c.args.n (j ∷ letters) (slice_index_or c.settle_class.new.classes j d)) (sym e) (c.settle_class.ensures.class letters d are here))
    | inr ne ↦ subst (IsClass c.args.n (k ∷ letters)) (sym (c.settle_class.ensures.kept k d ne)) (c.loop-home.invariant.done letters are k d (omega arith) own)
  ];
}

pub returns-clause-classes : goal.returns-clause-classes
returns-clause-classes c letters are home d l own = c.loop-home.invariant.done letters are home d (omega (arith, c.loop-home.invariant.long)) own
