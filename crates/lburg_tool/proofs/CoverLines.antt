-- The lines of trees that were covered one after another.
use Rattle.std.proofs.Common.{◌≡◌, ◌∙◌, ℕ, ◌+◌, false, List, [], ◌∷◌, ◌++◌, refl, sym, ap, subst, append_assoc, append-nil, arith}
use Rattle.lburg_model.specs.Tree.{MTree}
use Rattle.lburg_model.specs.Description.{MDescription}
use Rattle.lburg_model.specs.CoverText.{IsCoverLine, AreCoverLines}
use Rattle.lburg_trees.specs.Taking.{Takes}
use Rattle.lburg_tool.specs.declared.printer.Printer.{Printer}
use Rattle.lburg_tool.specs.Printing.{Covers}

-- a tree was covered, with the same description before and after
abbrev pub Step : {C : Type 0} → (C → MDescription) → (C → Printer) → (C → ℕ) → C → ℕ → MTree → C → Type 0
Step d printer uncovered old k t new = Covers (d old) k t (printer old) (uncovered old) (printer new) (uncovered new) × (d new ≡ d old)

-- the trees' lines were added, unless an allocation was refused
pub covered : {C : Type 0} (new old : C) (d : C → MDescription) (printer : C → Printer) (uncovered : C → ℕ) (trees : List MTree) (k : ℕ) → Takes (Step d printer uncovered) k trees old new → (printer new).is_refused ≡ false
    → ((printer old).is_refused ≡ false) × (text : List ℕ) × (many : ℕ) × AreCoverLines (d old) k trees text many × ((printer new).text ≡ (printer old).text ++ text) × (uncovered new ≡ uncovered old + many)
covered {C} new old d printer uncovered [] k same fine =
    let Fine : C → Type 0 = λ c. (printer c).is_refused ≡ false in
    let count : uncovered old ≡ uncovered new = ap uncovered same in
    (subst Fine (sym same) fine, [], 0, (refl, refl), ap (λ (c : C). (printer c).text) (sym same) ∙ sym (append-nil (printer old).text), omega arith)
covered new old d printer uncovered (t ∷ ts) k (mid, ((here, (line, is, adds), more), same), others) fine =
    let (fine_mid, text, many, are, parts, sum) = covered new mid d printer uncovered ts (k + 1) others fine in
    let (fine_old, added) = adds fine_mid in
    let Lines : MDescription → Type 0 = λ e. AreCoverLines e (k + 1) ts text many in
    let first : uncovered mid ≡ uncovered old + here = more in (
      fine_old,
      line ++ text,
      here + many,
      (line, text, here, many, is, subst Lines same are, refl, refl),
      parts ∙ ap (λ (l : List ℕ). l ++ text) added ∙ append_assoc (printer old).text line text,
      omega arith,
    )
