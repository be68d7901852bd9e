use Rattle.printed_texts.proofs.Comments.{letters_line}
use Rattle.printed_texts.proofs.Prints.{Laws, print_reads}
use Rattle.printed_texts.proofs.laws.printed_texts_read_back.Goals as goal

pub returns : goal.returns
returns c =
    let taken = c.statements_within_limits_are_taken.ensures in
    let laws : Laws = record { include = taken.include; register = taken.register; gate = taken.gate } in
    record {
      word = λ n t gates letters some few fit t_few short word. print_reads laws n gates letters some few fit t_few short (letters_line n t letters word);
      letters = print_reads laws;
    }
