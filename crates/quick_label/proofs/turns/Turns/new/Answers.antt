use Rattle.std.proofs.Common.{◌≡◌, ℕ, ◌+◌, ◌*◌, ◌^◌, ap, ◌∙◌, arith}
use Rattle.pauli_basis.specs.Products.{commute, anti_sign}
use Rattle.quick_label.proofs.LetterRows.{at_place, place_below}
use Rattle.quick_label.proofs.turns.Turns.new.Goals as goal

pub invariant_of-result : goal.invariant_of-result
invariant_of-result c =
    let size : c.codes-size.result ≡ 4 ^ c.args.n = c.codes-size.ensures.value in
    let all : c.codes-size.result * c.codes-size.result ≡ 4 ^ c.args.n * 4 ^ c.args.n = ap (λ (s : ℕ). s * s) size in
    record {
      few = c.requires.few;
      commuting_long = omega arith;
      negative_long = omega arith;
      turns = record {
        commutes = λ p row l l'.
            c.loop-place.invariant.commutes (p * 4 ^ c.args.n + row) (place_below c.args.n c.codes-size.result p row c.loop-place.place size l l' c.loop-place-test.false)
            ∙ at_place (commute c.args.n) c.args.n c.codes-size.result p row size l';
        signs = λ p row l l'.
            c.loop-place.invariant.signs (p * 4 ^ c.args.n + row) (place_below c.args.n c.codes-size.result p row c.loop-place.place size l l' c.loop-place-test.false)
            ∙ at_place (anti_sign c.args.n) c.args.n c.codes-size.result p row size l';
      };
    }
