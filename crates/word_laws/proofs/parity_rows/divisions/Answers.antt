use Rattle.std.proofs.Common.{sym, ◌∙◌, arith}
use Rattle.std.proofs.lemmas.Bool.{true≢false}
use Rattle.word_laws.proofs.Bits.{wholes_by_words, parts_by_words, wholes_even_by_words}
use Rattle.word_laws.proofs.Multiples.{divides_none, divides_once, divides_twice}
use Rattle.word_laws.proofs.parity_rows.divisions.Goals as goal

-- the pairs don't agree
pub returns-then-not-pairs_agree : goal.returns-then-not-pairs_agree
returns-then-not-pairs_agree c n inverse m h = record {
  few = omega arith;
  divides = divides_none n _;
  no_more = λ _ once. true≢false (sym (c.pairs_agree.ensures.1 ((wholes_by_words n c.args.p m _ _ _ h).1 ((divides_once n inverse c.args.p m).0 once))) ∙ c.if-not-pairs_agree.true);
}

-- they do, but a row that commutes has an odd whole part
pub returns-then-not-commuting_even : goal.returns-then-not-commuting_even
returns-then-not-commuting_even c n inverse m h = record {
  few = omega arith;
  divides = (divides_once n inverse c.args.p m).1 ((wholes_by_words n c.args.p m _ _ _ h).0 (c.pairs_agree.ensures.0 c.if-not-pairs_agree.false));
  no_more = λ _ twice. true≢false (sym (c.commuting_even.ensures.1 ((wholes_even_by_words n c.args.p m _ _ _ h).1 ((divides_twice n inverse c.args.p m).0 twice).1)) ∙ c.if-not-commuting_even.true);
}

-- or the parts of √2 don't agree
pub returns-then-not-pairs_agree-2 : goal.returns-then-not-pairs_agree-2
returns-then-not-pairs_agree-2 c n inverse m h = record {
  few = omega arith;
  divides = (divides_once n inverse c.args.p m).1 ((wholes_by_words n c.args.p m _ _ _ h).0 (c.pairs_agree.ensures.0 c.if-not-pairs_agree.false));
  no_more = λ _ twice. true≢false (sym (c.pairs_agree-2.ensures.1 ((parts_by_words n c.args.p m _ _ _ h c.requires.parts).1 ((divides_twice n inverse c.args.p m).0 twice).2)) ∙ c.if-not-pairs_agree-2.true);
}

-- all of it
pub returns : goal.returns
returns c n inverse m h = record {
  few = omega arith;
  divides = (divides_twice n inverse c.args.p m).1 (
    (wholes_by_words n c.args.p m _ _ _ h).0 (c.pairs_agree.ensures.0 c.if-not-pairs_agree.false),
    (wholes_even_by_words n c.args.p m _ _ _ h).0 (c.commuting_even.ensures.0 c.if-not-commuting_even.false),
    (parts_by_words n c.args.p m _ _ _ h c.requires.parts).0 (c.pairs_agree-2.ensures.0 c.if-not-pairs_agree-2.false),
  );
  no_more = λ l. absurd (omega arith);
}
