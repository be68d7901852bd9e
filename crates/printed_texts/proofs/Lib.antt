-- What the files hold:
-- Lexed: The tokens of a text, found one after another: what stands at a place is skipped or is a token, and behind it is the rest.
-- Comments: Comments of a line, which are skipped, and the texts in them, which have no line feed.
-- Scanned: What the scan makes of statements, one after another.
-- Gates: The statement of a gate of a print: its lexemes, its form, and the gate that it adds.
-- Lines: The tokens of the lines of a print.
-- Circuits: The lines of the gates of a print: their tokens, and what the scan makes of them.
-- Heads: The lines of a print before its gates: the header, the include and the register.
-- Prints: A whole print is read as its circuit.
pub mod Lexed
pub mod Comments
pub mod Scanned
pub mod Gates
pub mod Lines
pub mod Circuits
pub mod Heads
pub mod Prints
