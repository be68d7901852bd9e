use Rattle.std.proofs.Common.{◌≡◌, ◌++◌, ◌∷◌, [], ◌<◌, ◌≤◌, ℕ, List, length, arith, ap, ◌∙◌, sym, subst, Some, false}
use Rattle.std.proofs.lemmas.List.{length-map}
use Rattle.qasm_reader.specs.declared.scan.Defined.{Defined}
use Rattle.qasm_reader.specs.Forms.{Define}
use Rattle.qasm_reader.specs.Known.{known}
use Rattle.qasm_reader.specs.Rows.{has_bad_body}
use Rattle.qasm_reader.specs.View.{name_list, entries, known_behind, AreKept, state}
use Rattle.qasm_reader.proofs.Places.{or_false}
use Rattle.qasm_reader.proofs.Kept.{known-push, kept_new}
use Rattle.qasm_reader.proofs.declare.with_definition.Goals as goal

pub push_definition-requires-clause-fits : goal.push_definition-requires-clause-fits
push_definition-requires-clause-fits c =
    let ds = c.args.scan.definitions.list.items in
    let definition = c.args.definition in
    let d : Defined = record { definition = definition; size = c.args.size; pieces = c.in_ok-pieces.pieces } in
    let names : length (name_list definition.names.items) ≡ length definition.names.items = length-map definition.names.items (λ b. b.now) in
    let bad : has_bad_body (state c.args.scan) (Some (Define definition.name.now (name_list definition.names.items) (entries definition.body.items))) ≡ false = c.requires.fits.1 in
    kept_new ds d c.requires.kept.list (omega (arith, c.requires.fits.0, names)) c.requires.fits.2 (or_false _ _ bad).1 c.requires.size

pub push_definition-requires-clause-gates : goal.push_definition-requires-clause-gates
push_definition-requires-clause-gates c =
    let names : length (name_list c.args.definition.names.items) ≡ length c.args.definition.names.items = length-map c.args.definition.names.items (λ b. b.now) in
    λ narrow. c.in_ok-pieces.ensures.gates (omega (arith, narrow, names))

pub returns-clause-value : goal.returns-clause-value
returns-clause-value c =
    let ds = c.args.scan.definitions.list.items in
    let more = ap (known_behind known) c.in_ok-push_definition.ensures.items ∙ known-push known ds (record { definition = c.args.definition; size = c.args.size; pieces = c.in_ok-pieces.pieces }) in
    ap (λ k. record (state c.args.scan) { known = k }) more
