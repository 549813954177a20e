-- The name of each cause of undefined behaviour in a report.
use Rattle.std.specs.Prelude.{ℕ, List, codes}
use Rattle.lcc_base.specs.declared.cause.Cause.{Cause}
use Rattle.lcc_base.specs.declared.cause.Cause.TheVariants.{ZeroDivisor, DivideOverflow, ShiftCount, Unknown, PointerBytes, Outside, Misaligned, Dead, ReadOnly, PointerRange, PointerOrder, PointerEqual, PointerNumber, CallMismatch, NoResult, Overlap}

abbrev pub cause_name : Cause → List ℕ
cause_name ZeroDivisor = codes "ZeroDivisor"
cause_name DivideOverflow = codes "DivideOverflow"
cause_name ShiftCount = codes "ShiftCount"
cause_name Unknown = codes "Unknown"
cause_name PointerBytes = codes "PointerBytes"
cause_name Outside = codes "Outside"
cause_name Misaligned = codes "Misaligned"
cause_name Dead = codes "Dead"
cause_name ReadOnly = codes "ReadOnly"
cause_name PointerRange = codes "PointerRange"
cause_name PointerOrder = codes "PointerOrder"
cause_name PointerEqual = codes "PointerEqual"
cause_name PointerNumber = codes "PointerNumber"
cause_name CallMismatch = codes "CallMismatch"
cause_name NoResult = codes "NoResult"
cause_name Overlap = codes "Overlap"
