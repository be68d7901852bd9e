-- The numbers of the reasons for which a text is refused.
use Rattle.std.specs.Prelude.{ℕ}
use Rattle.qasm_lex.specs.declared.fault.LexFault.{LexFault}
use Rattle.qasm_lex.specs.declared.fault.LexFault.TheVariants.{BadByte as BadByteAt, Memory as NoMemory}
use Rattle.qasm_reader.specs.declared.fault.ReadFault.{ReadFault}
use Rattle.qasm_reader.specs.declared.fault.ReadFault.TheVariants.{Refused, Memory}
use Rattle.qasm_reader.specs.declared.refusal.Refusal.{Refusal}
use Rattle.qasm_reader.specs.declared.refusal.Refusal.TheVariants.{Header, BadByte, Statement, UnknownGate, UnknownRegister, Index, SameQubit, Qubits, TooManyT, TooLong, NotInProfile, TwoNames, Body, TooManyGates, Angle}

abbrev pub number_of : Refusal → ℕ
number_of Header = 1
number_of BadByte = 2
number_of Statement = 3
number_of UnknownGate = 4
number_of UnknownRegister = 5
number_of Index = 6
number_of SameQubit = 7
number_of Qubits = 8
number_of TooManyT = 9
number_of TooLong = 10
number_of NotInProfile = 11
number_of TwoNames = 12
number_of Body = 17
number_of TooManyGates = 18
number_of Angle = 20

-- what a reader answers where there are no tokens
abbrev pub fault_of : LexFault → ReadFault
fault_of (BadByteAt place) = Refused (number_of BadByte) place
fault_of NoMemory = Memory
