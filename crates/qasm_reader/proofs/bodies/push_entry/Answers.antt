use Rattle.std.proofs.Common.{◌≡◌, ◌≤◌, ◌∷◌, [], ◌∙◌, Bor, List, ℕ, length, map, false, ap, sym, subst, arith}
use Rattle.std.specs.Prelude.{OnOk}
use Rattle.std.proofs.lemmas.List.{length-map}
use Rattle.tc_circuit.specs.declared.circuit.Gate.{Gate}
use Rattle.qasm_reader.specs.declared.pieces.Places.{Places}
use Rattle.qasm_reader.specs.Limits.{most_qubits}
use Rattle.qasm_reader.specs.Known.{known, turned}
use Rattle.qasm_reader.specs.State.{place_among, entry_gates}
use Rattle.qasm_reader.specs.Rows.{is_bad_entry}
use Rattle.qasm_reader.specs.Pieces.{image, places_of, source_gates, Adds}
use Rattle.qasm_reader.specs.View.{known_behind, meanings_behind, name_list, entry}
use Rattle.qasm_reader.proofs.Takeable.{entry_narrow, turned_narrow}
use Rattle.qasm_reader.proofs.Kept.{kept_sound}
use Rattle.qasm_reader.proofs.Written.{source_is, source_narrow, call_images, spin_images}
use Rattle.qasm_reader.proofs.bodies.push_entry.Goals as goal

pub push_source-requires-clause-narrow : goal.push_source-requires-clause-narrow
push_source-requires-clause-narrow c =
    let ds = c.args.list.now.list.items in
    let gates = known_behind known ds in
    let among = name_list c.args.among.now in
    let few : length among ≤ most_qubits = omega (arith, c.requires.narrow, length-map c.args.among.now (λ (b : Bor (List ℕ)). b.now)) in
    source_narrow (meanings_behind known ds) ds (gates c.in-Call.name.now) c.found_by_name.result.source c.found_by_name.ensures.source
    (entry_narrow gates among c.in-Call.name.now (name_list c.in-Call.args.items) few (sym (ap (λ line. is_bad_entry gates among (entry line)) c.in-Call.is) ∙ c.requires.good))

pub push_source-requires-in-Spin-clause-narrow : goal.push_source-requires-in-Spin-clause-narrow
push_source-requires-in-Spin-clause-narrow c =
    let ds = c.args.list.now.list.items in
    let gs = meanings_behind known ds in
    source_narrow gs ds (turned c.in-Spin.rotation.value) c.found_by_value.result.source (c.found_by_value.ensures.source gs ds) (turned_narrow c.in-Spin.rotation.value)

pub returns-in-Call : goal.returns-in-Call
returns-in-Call c =
    let ds = c.args.list.now.list.items in
    let gs = meanings_behind known ds in
    let gates = known_behind known ds in
    let among = name_list c.args.among.now in
    let name = c.in-Call.name.now in
    let args = name_list c.in-Call.args.items in
    let source = c.found_by_name.result.source in
    let few : length among ≤ most_qubits = omega (arith, c.requires.narrow, length-map c.args.among.now (λ (b : Bor (List ℕ)). b.now)) in
    let good = sym (ap (λ line. is_bad_entry gates among (entry line)) c.in-Call.is) ∙ c.requires.good in
    let places = c.places_among-places.ensures ∙ ap (λ (l : List (Bor (List ℕ))). places_of (map (place_among among) (name_list l))) c.deref.ensures.value in
    let same =
    ap (λ (p : Places). map (image p) (source_gates gs source)) places ∙ ap (map (image (places_of (map (place_among among) args)))) (source_is gs ds (gates name) source c.found_by_name.ensures.source)
    ∙ call_images gates among name args (kept_sound ds c.requires.kept.list) few good ∙ sym (ap (λ line. entry_gates gates among (entry line)) c.in-Call.is) in
    subst (λ (l : List Gate). OnOk c.push_source.result (Adds gs ds c.args.pieces.now.items l c.push_source.new.pieces.items)) same c.push_source.ensures

pub returns-in-Spin : goal.returns-in-Spin
returns-in-Spin c =
    let ds = c.args.list.now.list.items in
    let gs = meanings_behind known ds in
    let gates = known_behind known ds in
    let among = name_list c.args.among.now in
    let value = c.in-Spin.rotation.value in
    let place = place_among among c.in-Spin.name.now in
    let source = c.found_by_value.result.source in
    let same =
    ap (λ (p : Places). map (image p) (source_gates gs source)) c.place_alone-places.ensures ∙ ap (map (image (places_of (place ∷ [])))) (source_is gs ds (turned value) source (c.found_by_value.ensures.source gs ds))
    ∙ spin_images value place ∙ sym (ap (λ line. entry_gates gates among (entry line)) c.in-Spin.is) in
    subst (λ (l : List Gate). OnOk c.push_source-in-Spin.result (Adds gs ds c.args.pieces.now.items l c.push_source-in-Spin.new.pieces.items)) same c.push_source-in-Spin.ensures
