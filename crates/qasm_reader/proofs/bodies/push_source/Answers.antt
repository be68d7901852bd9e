use Rattle.std.proofs.Common.{List, map, sym, subst}
use Rattle.qasm_reader.specs.declared.pieces.Source.{Source}
use Rattle.qasm_reader.specs.Known.{known}
use Rattle.qasm_reader.specs.Pieces.{image, source_gates, Adds}
use Rattle.qasm_reader.specs.View.{meanings_behind}
use Rattle.qasm_reader.proofs.Written.{adds_gates}
use Rattle.qasm_reader.proofs.bodies.push_source.Goals as goal

pub returns-in_ok-push_gates-in-Listed : goal.returns-in_ok-push_gates-in-Listed
returns-in_ok-push_gates-in-Listed c =
    let ds = c.args.list.now.list.items in
    let gs = meanings_behind known ds in
    let old = c.args.pieces.now.items in
    let new = c.push_gates.new.pieces.items in
    subst (λ (s : Source). Adds gs ds old (map (image c.args.places) (source_gates gs s)) new) (sym c.in-Listed.is)
    (adds_gates gs ds old new c.args.places c.in-Listed.gates.now c.in_ok-push_gates-in-Listed.ensures)
