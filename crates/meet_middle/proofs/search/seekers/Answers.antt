use Rattle.std.proofs.Common.{◌≡◌, ◌∙◌, ◌++◌, ◌∷◌, ◌==◌, ◌&&◌, [], true, All, map, ap, sym, subst}
use Rattle.std.proofs.lemmas.List.{map-append}
use Rattle.std.proofs.lemmas.List.Elements.{All-push}
use Rattle.channel_rep.specs.Cells.{scaled}
use Rattle.steal_sweep.specs.declared.best.BestSeat.{BestSeat}
use Rattle.steal_sweep.specs.declared.search.Seeker.{Seeker}
use Rattle.meet_middle.specs.Kept.{keeps}
use Rattle.meet_middle.specs.declared.probe.Probe.{Probe}
use Rattle.meet_middle.proofs.search.seekers.Goals as goal

pub loop-seat-preserved : goal.loop-seat-preserved
loop-seat-preserved g c =
    let S : Type 0 = Seeker (Probe g.row.N) in
    let seat : S → BestSeat = λ s. s.seat in
    let fit : S → Type 0 = λ s. (s.local.trail.word.qubits == g.row.N && s.local.label.qubits == g.row.N && s.local.other.qubits == g.row.N) ≡ true in
    let keeping : S → Type 0 = λ s. keeps g.row.N (scaled c.args.target.now) s.local.trail ≡ true in
    let one : S = record { seat = c.in-Some.seat; local = c.in_ok-local.local } in
    let old = c.loop-seat.all.items in
    let i = c.loop-seat.invariant in
    let is = c.in_ok-push.ensures.items in
    record {
      seats = ap (map seat) is ∙ (map-append seat old (one ∷ []) ∙ ap (λ l. l ++ c.in-Some.seat ∷ []) i.seats);
      fit = subst (All fit) (sym is) (All-push fit old one i.fit c.in_ok-local.ensures.fit);
      keeps = subst (All keeping) (sym is) (All-push keeping old one i.keeps c.in_ok-local.ensures.keeps);
    }
