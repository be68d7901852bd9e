use Rattle.std.proofs.Common.{◌∷◌, [], ◌++◌, ◌∙◌, List, length, arith, ap, sym, subst}
use Rattle.qasm_reader.specs.declared.pieces.Piece.{Piece}
use Rattle.qasm_reader.specs.Known.{known}
use Rattle.qasm_reader.specs.Pieces.{IsMade}
use Rattle.qasm_reader.specs.View.{meanings_behind}
use Rattle.qasm_reader.proofs.Written.{adds_one, adds_call}
use Rattle.qasm_reader.proofs.bodies.push_definition.Goals as goal

pub returns-in_ok-push-in-len1 : goal.returns-in_ok-push-in-len1
returns-in_ok-push-in-len1 c =
    let ds = c.args.list.now.list.items in
    let gs = meanings_behind known ds in
    let d = c.index.result.now in
    adds_one gs ds c.args.place c.args.places d c.as_slice.result.now _ c.args.pieces.now.items c.push.new.self.items
    (subst (IsMade gs ds c.args.place) (sym c.index.ensures) (c.requires.kept.made c.args.place c.requires.within d)) c.requires.narrow
    c.as_slice.ensures.value (omega (arith, c.in-len1.len_at_least, c.in-len1.len_below)) (c.in_ok-push-in-len1.ensures.items ∙ ap (λ (p : Piece). c.args.pieces.now.items ++ p ∷ []) c.piece_image.ensures)

pub returns-in_ok-push-in_default : goal.returns-in_ok-push-in_default
returns-in_ok-push-in_default c =
    let ds = c.args.list.now.list.items in
    let gs = meanings_behind known ds in
    let d = c.index.result.now in
    adds_call gs ds c.args.place c.args.places d c.args.pieces.now.items c.push-in_default.new.self.items c.requires.within c.index.ensures
    (subst (IsMade gs ds c.args.place) (sym c.index.ensures) (c.requires.kept.made c.args.place c.requires.within d)) c.requires.narrow
    (omega (arith, c.in_default.len_at_least, ap (λ (l : List Piece). length l) c.as_slice.ensures.value)) c.in_ok-push-in_default.ensures.items
