-- No fault stands in a description's text, and where none stands none is the first.
use Rattle.std.proofs.Common.{◌≡◌, ℕ, List, ◌∷◌, ◌++◌, length, Some, subst, inl, inr}
use Rattle.std.specs.Prelude.{slice_get}
use Rattle.lcc_base.specs.declared.which.Which.{Which}
use Rattle.lcc_base.specs.declared.which.Which.TheVariants as which
use Rattle.lcc_text.specs.Lines.{lines_of}
use Rattle.lburg_lines.specs.declared.section.Section.{Section}
use Rattle.lburg_lines.specs.declared.section.Section.TheVariants.{Head}
use Rattle.lburg_lines.specs.Sections.{TokenLine, AreLinesFrom}
use Rattle.lburg_faults.specs.declared.line_fault.LineFault.{LineFault}
use Rattle.lburg_faults.specs.declared.line_fault.LineFault.TheVariants as fault
use Rattle.lburg_faults.specs.declared.desc_fault.DescFault.{DescFault}
use Rattle.lburg_faults.specs.declared.checked_text.CheckedText.{CheckedText}
use Rattle.lburg_faults.specs.BadRule.{IsBadRule}
use Rattle.lburg_faults.specs.Limits.{IsLimit}
use Rattle.lburg_faults.specs.LineFaults.{Stands}
use Rattle.lburg_faults.specs.UnknownNonterminal.{HasUnruled, IsUnruledStart}
use Rattle.lburg_faults.specs.FirstFault.{FirstFault, IsFaultless, setting_of}
use Rattle.lburg_faults.specs.CheckedText.{IsChecked}
use Rattle.lburg_model.specs.Description.{MDescription}
use Rattle.lburg_grammar.specs.DescriptionText.{IsText}
use Rattle.lburg_grammar.proofs.FaultTold.{Told, OneTree, mentioned, start_named, ruled, some_rule}
use Rattle.lburg_grammar.proofs.FaultDeclarations.{line_here, no_bad_token, no_break, no_second_start, no_terminal_start, no_double, few_terminals, small_number}
use Rattle.lburg_grammar.proofs.FaultRules.{OneLine, no_terminal_left, no_unknown, no_other_arity, small_cost, few_nonterminals, few_rules, few_nodes}

-- ---- a line

no_bad_rule : (d : MDescription) (lines : List TokenLine) (t : Told d lines) (before behind : List TokenLine) (l : TokenLine) (place : ℕ) → lines ≡ before ++ l ∷ behind → slice_get lines (length before) ≡ Some l → IsBadRule (setting_of lines before) l place → ⊥
no_bad_rule d lines t before behind l place e g (inl b) = no_break d lines t (length before) l place g b.0
no_bad_rule d lines t before behind l place e g (inr (inl b)) = no_second_start d lines t before behind l place e b
no_bad_rule d lines t before behind l place e g (inr (inr (inl b))) = no_terminal_start d lines t before (length before) l place g b
no_bad_rule d lines t before behind l place e g (inr (inr (inr b))) = no_terminal_left d lines t before (length before) l place g b

no_limit : (d : MDescription) (lines : List TokenLine) (t : Told d lines) (before behind : List TokenLine) (l : TokenLine) (place : ℕ) (w : Which) → lines ≡ before ++ l ∷ behind → slice_get lines (length before) ≡ Some l → IsLimit w (setting_of lines before) l place → ⊥
no_limit d lines t before behind l place which.Terminals e g b = few_terminals d lines t before behind l place e b
no_limit d lines t before behind l place which.Nonterminals e g b = few_nonterminals d lines t before behind l place e b
no_limit d lines t before behind l place which.Rules e g b = few_rules d lines t before behind l place e b
no_limit d lines t before behind l place which.Pattern e g b = few_nodes d lines t (length before) l place g b
no_limit d lines t before behind l place which.Number e g b = small_number d lines t before behind l place e b
no_limit d lines t before behind l place other e g b = b

no_line_fault : (d : MDescription) (lines : List TokenLine) (t : Told d lines) (one : OneTree) (alone : OneLine) (before behind : List TokenLine) (l : TokenLine) (place : ℕ) (f : LineFault) → lines ≡ before ++ l ∷ behind → slice_get lines (length before) ≡ Some l → Stands f (setting_of lines before) l place → ⊥
no_line_fault d lines t one alone before behind l place fault.BadToken e g b = no_bad_token d lines t (length before) l place g b
no_line_fault d lines t one alone before behind l place fault.BadRule e g b = no_bad_rule d lines t before behind l place e g b
no_line_fault d lines t one alone before behind l place fault.UnknownTerminal e g b = no_unknown d lines t before (length before) l place g b
no_line_fault d lines t one alone before behind l place fault.DoubleTerminal e g b = no_double d lines t before behind l place e b
no_line_fault d lines t one alone before behind l place fault.ArityDiffers e g b = no_other_arity d lines t one before behind l place e b
no_line_fault d lines t one alone before behind l place fault.CostForm e g b = no_break d lines t (length before) l place g b.0
no_line_fault d lines t one alone before behind l place fault.CostTooLarge e g b = small_cost d lines t alone (length before) l place g b
no_line_fault d lines t one alone before behind l place (fault.Limit w) e g b = no_limit d lines t before behind l place w e g b

-- ---- the text

no_unruled : (d : MDescription) (lines : List TokenLine) (t : Told d lines) (i : ℕ) (l : TokenLine) → slice_get lines i ≡ Some l → HasUnruled lines l → ⊥
no_unruled d lines t i l g u = u.5 (ruled d lines t u.1 (mentioned d lines t i l u.0 u.1 g (inr (inr u.2, u.3, u.4))))

no_unruled_start : (d : MDescription) (lines : List TokenLine) (t : Told d lines) (i : ℕ) → IsUnruledStart lines i → ⊥
no_unruled_start d lines t i u = u.5 (ruled d lines t u.1 (start_named d lines t i u.0 u.1 u.2 u.3 u.4))

-- no fault stands in the lines of a description's text
faultless : (d : MDescription) (lines : List TokenLine) → OneTree → OneLine → Told d lines → IsFaultless lines
faultless d lines one alone t = record {
  none = λ place s. no_line_fault d lines t one alone s.before s.behind s.here place.token s.fault s.parts (line_here lines s.before s.behind s.here s.parts) s.stands;
  some_rule = some_rule d lines t;
  patterns = no_unruled d lines t;
  start = no_unruled_start d lines t;
}

-- a text has one list of lines
abbrev pub OneText : Type 0
OneText = (section : Section) (lines : List (List ℕ)) (a b : List TokenLine) → AreLinesFrom section lines a → AreLinesFrom section lines b → a ≡ b

-- lines without a fault have no first
none_first : (text : List ℕ) (lines : List TokenLine) (f : DescFault) → OneText → AreLinesFrom Head (lines_of text) lines → IsFaultless lines → FirstFault text f → ⊥
none_first text lines f one are fine x =
    let P : List TokenLine → Type 0 = λ ls. IsFaultless ls in
    let here = subst P (one Head (lines_of text) lines x.lines are x.are) fine in
    elim x.first [
      | inl a ↦ here.none a.0 a.2.stands
      | inr r ↦ elim r [
        | inl a ↦ here.some_rule a.1
        | inr u ↦ elim u.2 [
          | inl a ↦ here.patterns a.0 a.1 a.2 a.3
          | inr a ↦ here.start a.0 a.2
        ]
      ]
    ]

pub no_fault : (d : MDescription) (text : List ℕ) (f : DescFault) → OneText → OneLine → OneTree → IsText d text → FirstFault text f → ⊥
no_fault d text f one alone tree is = none_first text is.lines f one is.are (faultless d is.lines tree alone (record { written = is.written; are_written = is.are_written; means = is.means }))

pub checked_fine : (c : CheckedText) (text : List ℕ) (f : DescFault) → OneText → IsChecked c text → FirstFault text f → ⊥
checked_fine c text f one is = none_first text is.lines f one is.are is.faultless
