use Rattle.std.proofs.Common.{◌<◌, ◌∷◌, [], ◌++◌, ◌∙◌, List, reverse, ap, sym, subst}
use Rattle.qasm_reader.specs.declared.pieces.Piece.{Piece}
use Rattle.qasm_reader.specs.Known.{known}
use Rattle.qasm_reader.specs.Pieces.{weight}
use Rattle.qasm_reader.specs.View.{meanings_behind}
use Rattle.qasm_reader.proofs.Written.{reverse_push, step_less}
use Rattle.qasm_reader.proofs.writing.gates_of_definition.Goals as goal

pub loop-piece-smaller : goal.loop-piece-smaller
loop-piece-smaller c =
    let ds = c.args.list.now.list.items in
    let gs = meanings_behind known ds in
    let piece = c.in-Some.piece in
    let rest = c.pop.new.self.items in
    let before = ap (λ (l : List Piece). reverse l) c.in-Some.ensures.items ∙ reverse_push rest piece in
    subst (λ (l : List Piece). weight gs (reverse c.write_piece.new.todo.items) < weight gs l) (sym before)
    (step_less gs ds piece c.loop-piece.gates.items c.write_piece.new.gates.items rest c.write_piece.new.todo.items c.in_ok-write_piece.ensures)
