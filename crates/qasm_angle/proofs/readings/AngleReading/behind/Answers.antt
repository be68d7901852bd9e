use Rattle.std.proofs.Common.{◌∷◌, [], ◌∙◌, ap, sym, subst}
use Rattle.std.proofs.lemmas.List.Sums.{fold-append}
use Rattle.qasm_angle.specs.Steps.{start, reading_behind, reading_of}
use Rattle.qasm_angle.specs.Symbols.{symbol}
use Rattle.qasm_angle.proofs.readings.AngleReading.behind.Goals as goal

pub returns : goal.returns
unfolding reading_of
returns c ss h =
    c.reading_behind.ensures ∙ ap (reading_behind c.args.self) c.symbol_from.ensures ∙ ap (λ r. reading_behind r (symbol c.args.kind c.args.bytes.now)) h
    ∙ sym (fold-append reading_behind start ss (symbol c.args.kind c.args.bytes.now ∷ []))
