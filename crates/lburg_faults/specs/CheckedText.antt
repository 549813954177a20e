-- What is read from a description's text without a fault.
use Rattle.std.specs.Prelude.{◌≡◌, ℕ, Some, List, length, map, option_map, option_to_list, slice_get}
use Rattle.lcc_text.specs.Lines.{lines_of}
use Rattle.lcc_text.specs.Names.{bytes_of}
use Rattle.lburg_lines.specs.declared.section.Section.TheVariants.{Head}
use Rattle.lburg_lines.specs.Grammar.{MLine, rule_of}
use Rattle.lburg_lines.specs.Sections.{TokenLine, AreLinesFrom}
use Rattle.lburg_faults.specs.declared.checked_text.CheckedText.{CheckedText}
use Rattle.lburg_faults.specs.Terminals.{names_of, numbers_of}
use Rattle.lburg_faults.specs.Uses.{IsFirstUse}
use Rattle.lburg_faults.specs.Written.{AreWritten, rules_in, terminals_in, starts_in}
use Rattle.lburg_faults.specs.FirstFault.{IsFaultless}

pub record IsChecked (c : CheckedText) (text : List ℕ) : Type 0 where
  pub lines : List TokenLine
  pub are : AreLinesFrom Head (lines_of text) lines
  pub faultless : IsFaultless lines
  pub written : List MLine
  pub are_written : AreWritten lines written
  pub names : bytes_of c.terminals ≡ names_of (terminals_in written)
  pub numbers : c.numbers.keys ≡ numbers_of (terminals_in written)
  pub start : option_to_list (option_map (λ n. n.now) c.start) ≡ starts_in written
  pub rules : map rule_of c.rules.items ≡ rules_in written
  -- a terminal's number of operands is that of its first use
  pub known : length c.arities.items ≡ length (bytes_of c.terminals)
  pub arities : (i n : ℕ) (name : List ℕ) → slice_get (bytes_of c.terminals) i ≡ Some name → slice_get c.arities.items i ≡ Some (Some n) → IsFirstUse lines name n
  pub noted : (i n : ℕ) (name : List ℕ) → slice_get (bytes_of c.terminals) i ≡ Some name → IsFirstUse lines name n → slice_get c.arities.items i ≡ Some (Some n)
