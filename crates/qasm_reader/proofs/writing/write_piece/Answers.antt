use Rattle.std.proofs.Common.{◌∷◌, [], ◌++◌, ◌∙◌, List, map, reverse, ap, sym, subst}
use Rattle.qasm_reader.specs.declared.pieces.Piece.{Piece}
use Rattle.qasm_reader.specs.declared.pieces.Piece.TheVariants.{Call}
use Rattle.qasm_reader.specs.Known.{known}
use Rattle.qasm_reader.specs.Pieces.{piece_image, IsSound, IsMade, IsStep}
use Rattle.qasm_reader.specs.View.{meanings_behind}
use Rattle.qasm_reader.proofs.Written.{step_call}
use Rattle.qasm_reader.proofs.writing.write_piece.Goals as goal

pub returns-in_ok-push_images-in-Call : goal.returns-in_ok-push_images-in-Call
returns-in_ok-push_images-in-Call c =
    let ds = c.args.list.now.list.items in
    let gs = meanings_behind known ds in
    let call = subst (λ (p : Piece). IsSound gs ds p) c.in-Call.is c.requires.sound in
    let d = c.index.result.now in
    subst (λ (p : Piece). IsStep gs ds p c.args.gates.now.items c.args.todo.now.items c.args.gates.now.items c.push_images.new.todo.items) (sym c.in-Call.is)
    (step_call gs ds c.in-Call.place c.in-Call.places d c.args.gates.now.items c.args.todo.now.items c.push_images.new.todo.items c.index.ensures call
    (subst (IsMade gs ds c.in-Call.place) (sym c.index.ensures) (c.requires.kept.made c.in-Call.place call.within d))
    (c.in_ok-push_images-in-Call.ensures ∙ ap (λ (l : List Piece). c.args.todo.now.items ++ reverse (map (piece_image c.in-Call.places) l)) c.deref.ensures.value))
