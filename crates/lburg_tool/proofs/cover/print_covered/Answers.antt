use Rattle.std.proofs.Common.{◌≡◌, ℕ, List, refl, ap, subst, ◌∙◌, inl}
use Rattle.lburg_model.specs.Derivation.{MDerivation, cost, numbers, applied}
use Rattle.lburg_model.specs.CoverText.{spaced, cost_line}
use Rattle.lburg_model.proofs.lemmas.Laws.{numbers_applied, one_best}
use Rattle.lburg_tool.specs.Printing.{Adds}
use Rattle.lburg_tool.proofs.Printed.{adds_then, run_adds}
use Rattle.lburg_tool.proofs.cover.print_covered.Goals as goal

pub returns : goal.returns
returns g c =
    let d = c.args.tables.now in
    let t = g.N.TreeNode.tree c.args.tree.now in
    let (x, best, run) = c.reduce.ensures.visits in
    let (y, known, sum) = c.requires.best in
    let same = one_best d.rules d.start t y x known best in
    let total : c.args.sum ≡ cost d.rules x = sum ∙ ap (λ (z : MDerivation). cost d.rules z) same in
    let visited = run_adds g.N.TreeNode.tree (applied d.rules t x) c.print-2.new.self c.reduce.new.visitor run in
    let Spaced : List ℕ → Type 0 = λ ns. Adds c.print-2.new.self c.reduce.new.visitor (spaced ns) in
    let spelled = subst Spaced (numbers_applied d.rules d.start t x best.derives) visited in
    let one = adds_then _ _ _ _ _ c.print_number.ensures c.print.ensures in
    let two = adds_then _ _ _ _ _ one c.print_number-2.ensures in
    let three = adds_then _ _ _ _ _ two c.print-2.ensures in
    let four = adds_then _ _ _ _ _ three spelled in
    let five = adds_then _ _ _ _ _ four c.print-3.ensures in
    (cost_line c.args.number c.args.sum (numbers x), inl (x, best, ap (λ (k : ℕ). cost_line c.args.number k (numbers x)) total, refl), five)
