-- Marks of small expressions, and those that aren't.
use Rattle.std.specs.Prelude.{◌≡◌, true, false, [], ◌∷◌}
use Rattle.std.proofs.Common.{refl}
use Rattle.c_types.specs.CType.{Int, basic}
use Rattle.c_meaning.specs.declared.core_expr.CoreKind.{CoreKind}
use Rattle.c_meaning.specs.declared.core_expr.CoreKind.TheVariants as kind
use Rattle.c_meaning.specs.CoreTrees.{Core, none, one, two}
use Rattle.c_meaning.specs.Values.{CoreTree, CoreTrees}
use Rattle.objects.specs.declared.operators.Binary.TheVariants as binary
use Rattle.c_lower_expr.specs.Marks.{marks}

abbrev tree : CoreKind → CoreTrees → CoreTree
tree what kids = Core what (basic Int) 1 kids

abbrev number : CoreTree
number = tree (kind.Number 1) none

-- 1 + !1
abbrev sum : CoreTree
sum = tree (kind.Binary binary.Add true) (two number (tree kind.Not (one number)))

sum_marks : marks sum ≡ false ∷ true ∷ false ∷ true ∷ []
sum_marks = refl

-- an expression with a part that jumps is not straight itself
other_marks : marks sum ≡ true ∷ true ∷ false ∷ true ∷ [] → ⊥
other_marks e = cc
