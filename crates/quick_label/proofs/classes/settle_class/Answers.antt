use Rattle.std.proofs.Common.{◌≡◌, ◌^◌, ◌<◌, ◌∷◌, length, sym, subst, arith, get_or-set_same}
use Rattle.quick_label.specs.Classes.{IsClass}
use Rattle.quick_label.proofs.classes.settle_class.Goals as goal

pub returns-clause-class : goal.returns-clause-class
returns-clause-class c letters d are own =
    subst (IsClass c.args.n (c.args.home ∷ letters)) (sym (get_or-set_same c.args.classes.now c.args.home c.take.new.self d (omega arith)))
    (c.take.ensures.class letters are)
