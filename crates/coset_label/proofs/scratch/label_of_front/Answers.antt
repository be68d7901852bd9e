use Rattle.std.proofs.Common.{rules, ◌≡◌, ℕ, Bool, List, ◌∷◌, ◌++◌, length, take, drop, ap, sym, ◌∙◌, subst}
use Rattle.std.proofs.Math.Seq.{take-append_seam}
use Rattle.channel_rep.specs.Cells.{scaled}
use Rattle.channel_rep.specs.Tables.{IsBuiltOf}
use Rattle.coset_label.specs.Labels.{IsLabelOf}
use Rattle.coset_label.specs.Scratch.{HeldLabel, kept_label}
use Rattle.coset_label.specs.Words.{word_steps}
use Rattle.coset_label.proofs.scratch.label_of_front.Goals as goal

-- what a slice of a vector was written over with is the vector
written : {A : Type 0} (n : ℕ) (xs ys : List A) → n ≡ length xs → xs ≡ take n (xs ++ ys)
written n xs ys e = sym (take-append_seam xs ys) ∙ ap (λ k. take k (xs ++ ys)) (sym e)

pub returns-clause-label : goal.returns-clause-label
returns-clause-label c = λ w before.
    let n : c.s.inside.channel.qubits ≡ c.args.s.now.qubits = ap (λ (h : HeldLabel). h.qubits) c.s.view_is in
    let built = c.channel_of_front.ensures.built w (subst (λ k. IsBuiltOf k (word_steps w) (scaled c.args.suffix.now)) (sym n) before) in
    let signs : c.s.inside.negative.len ≡ length c.put_in_order.new.negative = search rules in
    let places : c.s.inside.order.len ≡ length c.put_in_order.new.order = search rules in
    let label : IsLabelOf c.s.inside.channel.qubits (scaled c.channel_of_front.new.channel) (kept_label c.channel_of_front.new.channel c.put_in_order.new.negative c.put_in_order.new.order) =
    subst (λ k. IsLabelOf k (scaled c.channel_of_front.new.channel) (kept_label c.channel_of_front.new.channel c.put_in_order.new.negative c.put_in_order.new.order)) c.channel_of_front.ensures.qubits c.put_in_order.ensures.label in
    record {
      channel = scaled c.channel_of_front.new.channel;
      built = subst (λ k. IsBuiltOf k (word_steps (c.args.letter.code ∷ w)) (scaled c.channel_of_front.new.channel)) n built;
      is = subst (λ (z : ℕ × (List Bool × List ℕ)). IsLabelOf z.0 (scaled c.channel_of_front.new.channel) (kept_label c.channel_of_front.new.channel z.1.0 z.1.1))
          (λ i. (
            n i,
            (
              written _ c.put_in_order.new.negative (drop (length c.put_in_order.new.negative) c.s.inside.negative.items) signs i,
              written _ c.put_in_order.new.order (drop (length c.put_in_order.new.order) c.s.inside.order.items) places i,
            ),
          )) label;
    }
