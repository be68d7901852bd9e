use Rattle.std.proofs.Common.{◌≡◌, ◌<◌, ◌++◌, ◌∙◌, [], Bor, List, ℕ, length, map, take, get_or, arith, ap, sym, subst}
use Rattle.std.specs.List.{list_any, flat_map}
use Rattle.tc_circuit.specs.declared.circuit.Gate.{Gate}
use Rattle.qasm_reader.specs.declared.forms.Entry.{Entry as CodeEntry}
use Rattle.qasm_reader.specs.Known.{known}
use Rattle.qasm_reader.specs.State.{entry_gates}
use Rattle.qasm_reader.specs.Rows.{is_bad_entry}
use Rattle.qasm_reader.specs.Pieces.{Adds}
use Rattle.qasm_reader.specs.View.{known_behind, meanings_behind, name_list, entry, entries}
use Rattle.qasm_reader.proofs.Kept.{none_at}
use Rattle.qasm_reader.proofs.Written.{adds_more, entries_more}
use Rattle.qasm_reader.proofs.bodies.pieces_of_definition.Goals as goal

pub push_entry-requires-clause-good : goal.push_entry-requires-clause-good
push_entry-requires-clause-good c =
    let gates = known_behind known c.args.list.now.list.items in
    let among = name_list c.args.definition.now.names.items in
    let good = ap (λ (l : List _). list_any (is_bad_entry gates among) (map entry l)) c.deref-line-items.ensures.value ∙ c.requires.good in
    ap (λ l. is_bad_entry gates (name_list l) (entry c.line-item.result)) c.deref.ensures.value
    ∙ ap (λ x. is_bad_entry gates among (entry x)) c.line-item.is
    ∙ none_at (is_bad_entry gates among) entry c.deref-line-items.result.now c.loop-line.line-index c.line-item.result good c.loop-line-test.true

pub loop-line-preserved : goal.loop-line-preserved
loop-line-preserved c =
    let ds = c.args.list.now.list.items in
    let gs = meanings_behind known ds in
    let gates = known_behind known ds in
    let body = c.args.definition.now.body.items in
    let f = entry_gates gates (name_list c.args.definition.now.names.items) in
    let i = c.loop-line.line-index in
    let new = c.push_entry.new.pieces.items in
    let front = flat_map f (entries (take i body)) in
    let below : i < length body = omega (arith, c.loop-line-test.true, ap (λ (l : List CodeEntry). length l) c.deref-line-items.ensures.value) in
    let this : c.line-item.result ≡ get_or body i c.line-item.result = c.line-item.is ∙ ap (λ (l : List CodeEntry). get_or l i c.line-item.result) c.deref-line-items.ensures.value in
    let here : entry_gates gates (name_list c.deref.result.now) (entry c.line-item.result) ≡ f (entry (get_or body i c.line-item.result)) =
    ap (λ (l : List (Bor (List ℕ))). entry_gates gates (name_list l) (entry c.line-item.result)) c.deref.ensures.value ∙ ap (λ (x : CodeEntry). f (entry x)) this in
    let more = ap (λ (l : List Gate). front ++ l) here ∙ sym (entries_more f body i c.line-item.result below) in
    subst (λ (l : List Gate). Adds gs ds [] l new) more (adds_more gs ds [] c.loop-line.pieces.items new front _ c.loop-line.invariant c.in_ok-push_entry.ensures)
