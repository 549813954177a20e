-- A structure's or union's tag that stands alone in a declaration, where scopes and a table tell what is known.
-- Source: C89 3.5.2.3.
use Rattle.std.specs.Prelude.{ℕ, Bool, true, false, List}
use Rattle.c_ast.specs.declared.specifier.RecordKind.{RecordKind}
use Rattle.c_ast.specs.Trees.{SpecifierTrees, NoSpecifiers, Specifiers, RecordTag}
use Rattle.c_symbols.specs.Scoping.{Scoping}
use Rattle.c_types.specs.CType.{CType}
use Rattle.c_types.specs.Table.{Table}
use Rattle.c_meaning.specs.Declarations.{AloneTag}
use Rattle.c_meaning.specs.Declaring.{alone, at_decl}
use Rattle.c_meaning.specs.Typing.{Outcome}
use Rattle.c_check_expr.specs.Known.{state_of}

unfoldable pub lone_tag_in : Scoping → Table → ℕ → RecordKind → List ℕ → Outcome CType
lone_tag_in s t line k tag = at_decl (state_of s t) line (AloneTag k tag) (alone (state_of s t) line k tag).state (alone (state_of s t) line k tag).of

-- specifiers that are such a tag, and nothing else
abbrev pub is_lone_tag : SpecifierTrees → Bool
is_lone_tag (Specifiers (RecordTag line k tag) NoSpecifiers) = true
is_lone_tag ss = false
