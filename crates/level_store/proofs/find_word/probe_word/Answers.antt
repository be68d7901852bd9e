use Rattle.std.proofs.Common.{◌<◌, sym, subst, ◌∙◌}
use Rattle.std.proofs.Math.Nat.{mod-lt}
use Rattle.coset_label.specs.Cosets.{SameCosetWords}
use Rattle.level_store.proofs.Probing.{passed_more, missed_at_empty, missed_all}
use Rattle.level_store.proofs.find_word.probe_word.Goals as goal

pub returns-then-found-eq0-clause-none : goal.returns-then-found-eq0-clause-none
returns-then-found-eq0-clause-none c =
    let s = c.args.shape in
    missed_at_empty s c.requires.shape c.args.words.now (SameCosetWords s.qubits c.args.word.letters) c.args.tag c.requires.valid c.requires.reached c.requires.tag c.loop-steps.steps c.place_behind-bucket.result c.loop-steps.invariant.passed c.place_behind-bucket.ensures c.if-found-eq0.true

pub loop-steps-preserved : goal.loop-steps-preserved
loop-steps-preserved c =
    let s = c.args.shape in
    let i = c.loop-steps.invariant in
    record {
      room = c.in_default.ensures.room ∙ i.room;
      passed = passed_more s c.requires.shape c.args.words.now (SameCosetWords s.qubits c.args.word.letters) c.args.tag c.loop-steps.steps c.place_behind-bucket.result i.passed c.place_behind-bucket.ensures (subst (λ b. b < s.capacity) (sym c.place_behind-bucket.ensures) (mod-lt _ c.requires.shape.buckets), c.if-found-eq0.false) c.in_default.ensures.none;
    }

pub returns-clause-none : goal.returns-clause-none
returns-clause-none c =
    missed_all c.args.shape c.requires.shape c.args.words.now (SameCosetWords c.args.shape.qubits c.args.word.letters) c.args.tag c.loop-steps.steps c.loop-steps.invariant.passed c.loop-steps-test.false
