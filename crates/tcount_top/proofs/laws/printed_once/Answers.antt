use Rattle.tcount_top.proofs.Once.{printed_once}
use Rattle.tcount_top.proofs.laws.printed_once.Goals as goal

pub returns : goal.returns
returns c = printed_once record {
  ring = c.surd_laws_hold.ensures.surds;
  tables = c.tables_compare.ensures;
  built = c.circuits_have_one_channel.ensures.built;
  classes = c.tables_are_classes.ensures;
  have = c.circuits_have_one_channel.ensures.exists;
  one = c.one_channel_where_same.ensures;
  unique = c.cosets_have_least_words.ensures.unique;
  off = c.letters_come_off.ensures.step;
  permutes = c.words_stand_behind_rests.ensures.permutation;
}
