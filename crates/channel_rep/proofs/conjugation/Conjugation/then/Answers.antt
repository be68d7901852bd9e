use Rattle.std.proofs.Common.{◌^◌, ◌≡◌, ◌<◌, ℕ, List, [], ◌∷◌, ◌++◌, sym, subst}
use Rattle.channel_rep.specs.Gates.{GateFits}
use Rattle.channel_rep.specs.Conjugations.{PauliMap, image_of, conjugated, IsConjugationBy}
use Rattle.channel_rep.specs.declared.gate.ChannelGate.{ChannelGate}
use Rattle.channel_rep.proofs.Images.{fits_three}
use Rattle.channel_rep.proofs.Conjugated.{map_of, behind_images, behind_map, behind_by}
use Rattle.channel_rep.proofs.conjugation.Conjugation.then.Goals as goal

pub put_behind-requires : goal.put_behind-requires
put_behind-requires c =
    fits_three c.self.inside.n c.self.invariant.few c.args.gate (subst (λ (m : PauliMap). GateFits m.qubits c.args.gate) (sym c.self.view_is) c.requires)

pub invariant_of-self : goal.invariant_of-self
invariant_of-self c =
    let fits = subst (λ (m : PauliMap). GateFits m.qubits c.args.gate) (sym c.self.view_is) c.requires in
    behind_map c.self.inside.n c.args.gate fits c.self.inside.images c.put_behind.new.images c.self.invariant c.put_behind.ensures

pub returns-clause-images : goal.returns-clause-images
returns-clause-images c =
    let fits = subst (λ (m : PauliMap). GateFits m.qubits c.args.gate) (sym c.self.view_is) c.requires in
    let P = λ (m : PauliMap). (p : ℕ) → p < 4 ^ m.qubits → image_of (map_of c.self.inside.n c.put_behind.new.images) p ≡ conjugated m.qubits c.args.gate (image_of m p) in
    subst P c.self.view_is (behind_images c.self.inside.n c.args.gate fits c.self.inside.images c.put_behind.new.images c.self.invariant c.put_behind.ensures)

pub returns-clause-by : goal.returns-clause-by
returns-clause-by c =
    let fits = subst (λ (m : PauliMap). GateFits m.qubits c.args.gate) (sym c.self.view_is) c.requires in
    let P = λ (m : PauliMap). (gates : List ChannelGate) → IsConjugationBy gates m → IsConjugationBy (gates ++ c.args.gate ∷ []) (map_of c.self.inside.n c.put_behind.new.images) in
    subst P c.self.view_is (behind_by c.self.inside.n c.args.gate fits c.self.inside.images c.put_behind.new.images c.self.invariant c.put_behind.ensures)
