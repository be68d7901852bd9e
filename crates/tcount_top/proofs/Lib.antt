-- What the files hold:
-- Words: Numbers as words, and the commands that words are.
-- Letters: Letters, their codes and their texts.
-- Printing: The printed circuit: the rest that is left without the least word, and the word's blocks behind it.
-- Outcomes: The outcome for a text's circuit, from what the search found out.
-- Answering: What writing an outcome makes of a run.
-- Once: What is printed is a function of the channel: one least word, and one rest of what is left without it.
-- Comparing: What comparing the programs of a text finds out is the outcome of `check`.
-- OneCheck: `check` has one outcome for a text.
-- OneOutcome: Words and a text have one outcome.
-- OneAnswer: Texts of one matrix have one answer.
-- Made: Made circuits: one letter more, and the outcome of `bench` from what the search found out.
-- Blocks: The gates of a word: they fit its qubits, and are few.
-- Existence: Each command has an outcome for each text.
-- Complete: Where a command accepts the source's content and no device fails, the answer is Found, Above or want of memory.
pub mod Words
pub mod Letters
pub mod Printing
pub mod Outcomes
pub mod Answering
pub mod Once
pub mod Comparing
pub mod OneCheck
pub mod OneOutcome
pub mod OneAnswer
pub mod Made
pub mod Blocks
pub mod Existence
pub mod Complete
