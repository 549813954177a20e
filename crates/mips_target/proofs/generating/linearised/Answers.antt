use Rattle.std.proofs.Common.{◌≤◌, ◌^◌, map, sum_by, ap, sym, ◌∙◌, subst, arith}
use Rattle.op_forest.specs.Nodes.{nodes, tree_of}
use Rattle.lburg_model.specs.DerivationOf.{derivation_of}
use Rattle.reducer.specs.AreBest.{AreBest}
use Rattle.vcode.specs.Roots.{AreDerived}
use Rattle.mips_target.proofs.Selection.{each_small, covered, derived_of, best_of, selected}
use Rattle.mips_target.proofs.generating.linearised.Goals as goal

pub best_derivations-requires-clause-covered : goal.best_derivations-requires-clause-covered
best_derivations-requires-clause-covered c =
    covered c.args.rules.now c.description.result.now c.args.forest c.as_slice-roots.result.now c.requires.covers c.forest-2.ensures.is c.requires.ruled (c.as_slice-roots.ensures ∙ ap (λ f. f.roots) c.forest-2.ensures.value) c.description.ensures.value

pub best_derivations-requires-clause-small : goal.best_derivations-requires-clause-small
best_derivations-requires-clause-small c =
    let same = c.as_slice-roots.ensures ∙ ap (λ f. f.roots) c.forest-2.ensures.value in
    let few : sum_by nodes c.as_slice-roots.result.now ≤ 2 ^ 25 = let e = ap (λ ts. sum_by nodes ts) same in let s = c.requires.size in omega (arith, e, s) in
    each_small (2 ^ 25) c.as_slice-roots.result.now few

pub linearise-requires-clause-derived : goal.linearise-requires-clause-derived
linearise-requires-clause-derived c =
    let same = c.as_slice-roots.ensures ∙ ap (λ f. f.roots) c.forest-2.ensures.value in
    let xs = ap (λ ds. map derivation_of ds) c.as_slice.ensures in
    subst (AreDerived c.args.rules.now c.args.forest.roots) (sym xs) (derived_of c.args.rules.now c.description.result.now c.args.forest.roots c.as_slice-roots.result.now (map derivation_of c.in_ok-cover.cover) same c.description.ensures.value c.in_ok-cover.ensures.best)

pub returns : goal.returns
returns c =
    let same = c.as_slice-roots.ensures ∙ ap (λ f. f.roots) c.forest-2.ensures.value in
    let xs = ap (λ ds. map derivation_of ds) c.as_slice.ensures in
    let roots = c.args.forest.roots in
    let best = best_of c.args.rules.now c.description.result.now roots c.as_slice-roots.result.now (map derivation_of c.in_ok-cover.cover) same c.description.ensures.value c.in_ok-cover.ensures.best in
    selected c.args.rules.now roots (map derivation_of c.as_slice.result.now) c.linearise.result c.requires.shipped (subst (AreBest c.args.rules.now (map tree_of roots)) (sym xs) best) c.linearise.ensures
