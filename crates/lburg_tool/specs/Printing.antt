-- What a printer printed.
use Rattle.std.specs.Prelude.{◌≡◌, ◌≤◌, ◌<◌, ◌+◌, false, ℕ, List, ◌++◌, length, codes, decimal}
use Rattle.lburg_model.specs.Tree.{MTree}
use Rattle.lburg_model.specs.Description.{MDescription}
use Rattle.lburg_model.specs.CoverText.{IsCoverLine}
use Rattle.tree_labeller.specs.MCells.{MCells}
use Rattle.lburg_tool.specs.declared.printer.Printer.{Printer}

-- where no allocation was refused, the text has these bytes more
abbrev pub Adds : Printer → Printer → List ℕ → Type 0
Adds old new bytes = new.is_refused ≡ false → (old.is_refused ≡ false) × (new.text ≡ old.text ++ bytes)

-- the printer printed a rule's number behind a blank
abbrev pub AddsNumber : {N : Type 0} → Printer → ℕ → N → Printer → Type 0
AddsNumber old number node new = Adds old new (codes " " ++ decimal number)

-- the printer printed the line of tree k
abbrev pub AddsLine : MDescription → ℕ → MTree → ℕ → Printer → Printer → Type 0
AddsLine d k t uncovered old new = (line : List ℕ) × IsCoverLine d k t line uncovered × Adds old new line

-- Tree k may come: rows have a cell for each nonterminal, and of the trees before at most all have no derivation.
abbrev pub IsReady : MDescription → MCells → ℕ → ℕ → Type 0
IsReady d cells uncovered k = (length d.nonterminals ≤ cells.nonterminals) × (cells.nonterminals ≤ 127) × (uncovered < k)

-- the printer printed the line of tree k, and the number of trees without a derivation went on as the line tells
abbrev pub Covers : MDescription → ℕ → MTree → Printer → ℕ → Printer → ℕ → Type 0
Covers d k t old uncovered new more = (here : ℕ) × AddsLine d k t here old new × (more ≡ uncovered + here)
