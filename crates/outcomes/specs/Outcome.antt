-- What is told of each outcome: its status, and its line on the report. Addresses are in eight hexadecimal digits, other
-- numbers are decimal.
use Rattle.std.specs.Prelude.{ℕ, ◌+◌, ◌/◌, ◌%◌, ◌^◌, ◌++◌, [], ◌∷◌, List, codes, decimal, nat_lt, if◌then◌else◌}
use Rattle.std.specs.Fmt.{signed_decimal}
use Rattle.lcc_base.specs.Cause.{cause_name as undefined_name}
use Rattle.lcc_base.specs.Which.{which_name}
use Rattle.lcc_base.specs.declared.cause.Cause.{Cause}
use Rattle.asm_text.specs.StuckCause.{cause_name}
use Rattle.outcomes.specs.FaultName.{fault_name}
use Rattle.outcomes.specs.declared.status.Status.{Status}
use Rattle.outcomes.specs.declared.status.Status.TheVariants as status
use Rattle.outcomes.specs.declared.outcome.End.{End}
use Rattle.outcomes.specs.declared.outcome.End.TheVariants as ends
use Rattle.outcomes.specs.declared.outcome.Refusal.{Refusal}
use Rattle.outcomes.specs.declared.outcome.Refusal.TheVariants as refusal
use Rattle.outcomes.specs.declared.outcome.Outcome.{Outcome}
use Rattle.outcomes.specs.declared.outcome.Outcome.TheVariants as outcome

-- a hexadecimal digit, in lower case
abbrev pub hex_digit : ℕ → ℕ
hex_digit d = if nat_lt d 10 then 48 + d else 87 + d

-- the eight hexadecimal digits of a word, the most significant first
abbrev pub hex_word : ℕ → List ℕ
hex_word n =
    hex_digit (n / 2 ^ 28 % 16) ∷ hex_digit (n / 2 ^ 24 % 16) ∷ hex_digit (n / 2 ^ 20 % 16) ∷ hex_digit (n / 2 ^ 16 % 16)
    ∷ hex_digit (n / 2 ^ 12 % 16) ∷ hex_digit (n / 2 ^ 8 % 16) ∷ hex_digit (n / 2 ^ 4 % 16) ∷ hex_digit (n % 16) ∷ []

-- ` at 0xPPPPPPPP, step N`
abbrev pub place_line : List ℕ → ℕ → ℕ → List ℕ
place_line what pc step = (what ++ codes " at 0x" ++ hex_word pc) ++ (codes ", step " ++ decimal step ++ codes "\n")

-- `undefined: CAUSE at line L`
abbrev pub undefined_line : Cause → ℕ → List ℕ
undefined_line cause n = (codes "undefined: " ++ undefined_name cause ++ codes " at line ") ++ (decimal n ++ codes "\n")

-- `line L: ` and what is told of the line
abbrev pub at_line : ℕ → List ℕ → List ℕ
at_line n what = (codes "line " ++ decimal n ++ codes ": ") ++ (what ++ codes "\n")

-- a status and the line beside it
pub record Told : Type 0 where
  pub status : Status
  pub line : List ℕ

abbrev pub told : Status → List ℕ → Told
told s line = record { status = s; line = line }

abbrev pub end_told : End → Told
end_told ends.Finished = told status.Ok []
end_told (ends.NoCover n) = told status.NoCover (codes "no cover: " ++ decimal n ++ codes "\n")
end_told (ends.Exited s) = told status.Ok (codes "exit " ++ signed_decimal s ++ codes "\n")
end_told (ends.Stuck cause pc step) = told status.Stuck (place_line (codes "stuck: " ++ cause_name cause) pc step)
end_told (ends.StackOut pc step) = told status.StackOut (place_line (codes "stack out") pc step)
end_told (ends.OutOfSteps n) = told status.OutOfSteps (codes "out of steps: " ++ decimal n ++ codes "\n")
end_told (ends.Undefined cause n) = told status.Undefined (undefined_line cause n)
end_told (ends.OutOfTurns n) = told status.OutOfTurns (codes "out of turns: " ++ decimal n ++ codes "\n")

abbrev pub refusal_told : Refusal → Told
refusal_told refusal.BadText = told status.BadText (codes "bad text\n")
refusal_told refusal.NoMain = told status.BadText (codes "no main\n")
refusal_told (refusal.Fault n name) = told status.BadText (at_line n (fault_name name))
refusal_told (refusal.Constraint n number) = told status.BadProgram (at_line n (codes "constraint " ++ decimal number))
refusal_told (refusal.Limit n which) = told status.Limit (at_line n (codes "limit " ++ which_name which))

abbrev pub outcome_told : Outcome → Told
outcome_told (outcome.Done end) = end_told end
outcome_told (outcome.Refused why) = refusal_told why
outcome_told outcome.Usage = told status.Usage (codes "lcc: wrong words\n")
outcome_told outcome.ReadFault = told status.ReadFault []
outcome_told outcome.WriteFault = told status.WriteFault []
outcome_told outcome.Memory = told status.Memory []
outcome_told outcome.InputTooLong = told status.InputTooLong (codes "input too long\n")

abbrev pub end_status : End → Status
end_status end = (end_told end).status

abbrev pub end_line : End → List ℕ
end_line end = (end_told end).line

abbrev pub refusal_status : Refusal → Status
refusal_status why = (refusal_told why).status

abbrev pub refusal_line : Refusal → List ℕ
refusal_line why = (refusal_told why).line

abbrev pub status_of : Outcome → Status
status_of o = (outcome_told o).status

abbrev pub line_of : Outcome → List ℕ
line_of o = (outcome_told o).line
