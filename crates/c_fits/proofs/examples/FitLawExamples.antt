-- Examples: why the law asks that an expression is of the grammar.
use Rattle.std.specs.Prelude.{◌≡◌, refl}
use Rattle.c_ast.specs.Trees.{Comma, NoExprs}
use Rattle.c_types.specs.CType.{Void, basic}
use Rattle.c_meaning.specs.declared.core_expr.CoreKind.TheVariants as kind
use Rattle.c_meaning.specs.CoreTrees.{Core, NoCore}
use Rattle.c_meaning.specs.Samples.{sample}
use Rattle.c_meaning.specs.Constraints.{fault_at}
use Rattle.c_meaning.specs.Typing.{Fine, typed}
use Rattle.c_meaning.specs.Values.{CoreTree}
use Rattle.c_fits.specs.Laws.{Fit}

-- a comma without parts is typed, but the grammar has none, and it doesn't fit
abbrev nothing : CoreTree
nothing = Core kind.Comma (basic Void) 1 NoCore

typed_comma_without_parts : typed sample (Comma 1 NoExprs) ≡ Fine sample nothing
unfolding fault_at
typed_comma_without_parts = refl

comma_without_parts : Fit sample.tags nothing → ⊥
comma_without_parts h = h.1.1
