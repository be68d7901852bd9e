use Rattle.std.proofs.Common.{ℕ, cond, Some, ap, ◌∙◌}
use Rattle.std.specs.Str.{bytes_eq}
use Rattle.qasm_reader.specs.View.{place_of}
use Rattle.qasm_reader.proofs.Kept.{kept_more}
use Rattle.qasm_reader.proofs.definitions.push_definition.Goals as goal

pub returns-clause-kept : goal.returns-clause-kept
returns-clause-kept c =
    let old = c.args.list.now in
    let d = c.args.defined in
    kept_more old (record { list = c.push.new.self; places = c.add_place.new.places }) d c.requires.kept c.requires.fits c.requires.sound c.requires.gates c.in_ok-push.ensures.items
    (λ other. c.in_ok-add_place.ensures other ∙ ap (λ (n : ℕ). cond (bytes_eq other d.definition.name.now) (Some n) (place_of old.places other)) (c.len.ensures ∙ c.args.list.now.list.ok.0))
