use Rattle.std.proofs.Common.{◌≡◌, ◌+◌, All, length, ap, sym, ◌∙◌, subst}
use Rattle.channel_rep.specs.Cells.{ChannelGrid, scaled}
use Rattle.channel_rep.specs.Tables.{IsCircuitChannel}
use Rattle.coset_label.specs.Words.{RotationWord, most_letters}
use Rattle.meet_middle.specs.Trails.{IsTrail}
use Rattle.meet_middle.proofs.Trailing.{started}
use Rattle.meet_middle.proofs.trail.Trail.new.Goals as goal

pub invariant_of-result : goal.invariant_of-result
invariant_of-result c =
    let n = c.qubits-n.result in
    let m = c.args.target.now in
    let rests = c.in_ok-rests.rests.items in
    let turns = c.in_ok-turns.turns in
    let q : m.qubits ≡ n = sym c.qubits-n.ensures.value in
    let is = c.take.ensures in
    let long : length rests ≡ most_letters n + 1 = c.in_ok-rests.ensures.long ∙ ap (λ (g : ChannelGrid). most_letters g.qubits + 1) is ∙ ap (λ k. most_letters k + 1) q in
    let all : All (λ (r : ChannelGrid). r ≡ m) rests = subst (λ (g : ChannelGrid). All (λ (r : ChannelGrid). r ≡ g) rests) is c.in_ok-rests.ensures.all in
    let start = started rests m turns n q c.qubits-n.ensures.some c.qubits-n.ensures.few long all c.in_ok-turns.ensures (subst (λ k. IsCircuitChannel k (scaled m)) q c.requires.circuit) in
    subst (λ (g : ChannelGrid). IsTrail rests c.empty.result g turns) (sym is) (subst (λ (w : RotationWord). IsTrail rests w m turns) (sym c.empty.ensures) start)
