use Rattle.level_store.proofs.find_word.word_beside.Goals as goal

pub returns-then-found-tag-clause-none : goal.returns-then-found-tag-clause-none
returns-then-found-tag-clause-none c = λ same. c.if-found-tag.true (c.requires.tag c.args.found c.requires.found same)
