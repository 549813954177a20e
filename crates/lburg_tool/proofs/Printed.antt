-- What several prints add, one after another.
use Rattle.std.proofs.Common.{◌≡◌, ℕ, false, List, [], ◌∷◌, ◌++◌, map, sym, ap, subst, ◌∙◌, append_assoc, append-nil}
use Rattle.std.specs.Prelude.{codes, decimal}
use Rattle.lburg_model.specs.Tree.{MTree}
use Rattle.lburg_model.specs.CoverText.{spaced}
use Rattle.reducer.specs.Runs.{Runs}
use Rattle.lburg_tool.specs.declared.printer.Printer.{Printer}
use Rattle.lburg_tool.specs.Printing.{Adds, AddsNumber}

pub adds_then : (a b c : Printer) (x y : List ℕ) → Adds a b x → Adds b c y → Adds a c (x ++ y)
adds_then a b c x y h k = λ fine.
    let (fine_b, new) = k fine in
    let (fine_a, mid) = h fine_b in
    (fine_a, new ∙ ap (λ (l : List ℕ). l ++ y) mid ∙ append_assoc a.text x y)

abbrev number_of : ℕ × MTree → ℕ
number_of v = v.0

-- a visitor's run prints the numbers, each behind a blank
pub run_adds : {N : Type 0} (tree : N → MTree) (visited : List (ℕ × MTree)) (old new : Printer) → Runs tree AddsNumber visited old new → Adds old new (spaced (map number_of visited))
run_adds tree [] old new same = λ fine.
    (let Fine : Printer → Type 0 = λ p. p.is_refused ≡ false in subst Fine (sym same) fine, ap (λ (p : Printer). p.text) (sym same) ∙ sym (append-nil old.text))
run_adds tree (v ∷ vs) old new (node, mid, is, step, others) =
    let rest = run_adds tree vs mid new others in
    adds_then old mid new (codes " " ++ decimal v.0) (spaced (map number_of vs)) step rest
