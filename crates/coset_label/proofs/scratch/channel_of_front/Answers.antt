use Rattle.std.proofs.Common.{◌≡◌, ℕ, ◌∷◌, ◌∙◌, sym, ap, subst}
use Rattle.channel_rep.specs.Cells.{ChannelGrid, scaled}
use Rattle.channel_rep.specs.Tables.{IsBuiltOf}
use Rattle.coset_label.specs.Words.{word_steps}
use Rattle.coset_label.proofs.scratch.channel_of_front.Goals as goal

pub returns-clause-built : goal.returns-clause-built
returns-clause-built c = λ w built.
    let copied : ChannelGrid = c.copy_from.new.self in
    let rotated : ChannelGrid = c.left_rotation.new.self in
    let is : copied ≡ c.args.suffix.now = c.copy_from.ensures in
    let n : c.args.channel.now.qubits ≡ copied.qubits = sym c.requires.same ∙ ap (λ (m : ChannelGrid). m.qubits) (sym is) in
    let same : rotated.qubits ≡ copied.qubits = c.left_rotation.ensures.qubits in
    let before : IsBuiltOf copied.qubits (word_steps w) (scaled copied) =
    subst (λ (k : ℕ). IsBuiltOf k (word_steps w) (scaled copied)) n (subst (λ (m : ChannelGrid). IsBuiltOf c.args.channel.now.qubits (word_steps w) (scaled m)) (sym is) built) in
    let turned : IsBuiltOf copied.qubits (word_steps (c.args.letter.code ∷ w)) (scaled rotated) = c.left_rotation.ensures.built (word_steps w) before in
    let reduced = c.reduce.ensures.built (word_steps (c.args.letter.code ∷ w)) (subst (λ (k : ℕ). IsBuiltOf k (word_steps (c.args.letter.code ∷ w)) (scaled rotated)) (sym same) turned) in
    subst (λ (k : ℕ). IsBuiltOf k (word_steps (c.args.letter.code ∷ w)) (scaled c.reduce.new.self)) (same ∙ sym n) reduced
