-- What comparing the programs of a text finds out is the outcome of `check`.
use Rattle.std.proofs.Common.{◌↔◌, ℕ, ◌+◌, ◌≤◌, Bool, true, false, List, length, take, drop, refl, sym, subst}
use Rattle.std.specs.Prelude.{IsTrue}
use Rattle.tc_circuit.specs.Circuit.{Gates}
use Rattle.qasm_reader.specs.declared.fault.ReadFault.{ReadFault}
use Rattle.qasm_reader.specs.declared.fault.ReadFault.TheVariants.{Refused as Refusing, Memory as NoReading}
use Rattle.qasm_reader.specs.Halves.{HasHalves, IsBadByte}
use Rattle.qasm_reader.specs.Read.{Reads, IsFault, Refused as IsRefused}
use Rattle.count_checker.specs.declared.fault.CheckFault.{CheckFault}
use Rattle.count_checker.specs.declared.fault.CheckFault.TheVariants.{TooManyH as TooManyToCheck, Memory as NoChecking}
use Rattle.count_checker.specs.Check.{AreSame, IsFault as IsCheckFault}
use Rattle.tcount_top.specs.declared.top.Status.TheVariants.{Found, Above, Refused}
use Rattle.tcount_top.specs.Lines.{refusal_line, many_h_line, same_line, different_line}
use Rattle.tcount_top.specs.Out.{AreFewH, CheckOut, longest, many_h, are_same, differ, first_refused, second_refused, both_read, bad_byte, halved}
use Rattle.tcount_top.specs.Compared.{IsVerdict, IsReason, unread, unchecked}

module _ (text : List ℕ) (short : length text ≤ longest) where
  -- a bad byte
  pub bad_reason : (fault : ReadFault) → IsBadByte text fault → IsReason text (unread fault)
  bad_reason (Refusing number place) h = subst (λ (k : ℕ). CheckOut text Refused (refusal_line k place)) (sym h.0) (bad_byte short place h.1)
  bad_reason NoReading h = tt

  module _ (cut : ℕ) (halves : HasHalves text cut) where
    -- the first program is refused
    pub first_reason : (fault : ReadFault) → IsFault (take cut text) fault → IsReason text (unread fault)
    first_reason (Refusing number place) h = halved short cut halves Refused (refusal_line number place) (first_refused number place h)
    first_reason NoReading h = tt

    -- the second is
    pub second_reason : (c : Gates) → Reads (take cut text) c → (number place : ℕ) → IsRefused (drop cut text) number place → CheckOut text Refused (refusal_line number (cut + place))
    second_reason c reads number place h = halved short cut halves Refused (refusal_line number (cut + place)) (second_refused c reads number place h)

    module _ (c d : Gates) (first : Reads (take cut text) c) (second : Reads (drop cut text) d) where
      -- a circuit has too many h gates
      pub many_reason : (fault : CheckFault) → IsCheckFault c d fault → IsReason text (unchecked fault)
      many_reason (TooManyToCheck count) h = halved short cut halves Refused (many_h_line count) (both_read c d first second Refused (many_h_line count) (many_h count h))
      many_reason NoChecking h = tt

      -- the circuits are the same, or they aren't
      pub verdict : AreFewH c d → (yes : Bool) → IsTrue yes ↔ AreSame c d → IsVerdict text yes
      verdict few true h = halved short cut halves Found same_line (both_read c d first second Found same_line (are_same few (h.0 refl)))
      verdict few false h = halved short cut halves Above different_line (both_read c d first second Above different_line (differ few (λ s. let e = h.1 s in cc)))
