-- What static storage may begin with in a checked unit: a constant or an address constant. It is asked as while the unit was
-- checked, where each name was a symbol with the type of what it names.
-- Source: C89 3.4, 3.5.7.
use Rattle.std.specs.Prelude.{◌≡◌, ℕ, true, List, [], get_or}
use Rattle.c_types.specs.CType.{CType}
use Rattle.c_types.specs.Layout.{Tag}
use Rattle.c_meaning.specs.declared.core_expr.CoreKind.{CoreKind}
use Rattle.c_meaning.specs.declared.core_expr.CoreKind.TheVariants as kind
use Rattle.c_meaning.specs.CoreTrees.{Core, NoCore, Cores}
use Rattle.c_meaning.specs.Values.{CoreTree, CoreTrees}
use Rattle.c_meaning.specs.AddressConstants.{is_static_value}

-- by the types of the unit's objects, and by its string literals
abbrev pub symbol_kind : List (List ℕ) → CoreKind → CoreKind
symbol_kind texts (kind.Object n) = kind.Symbol n
symbol_kind texts (kind.Function n) = kind.Symbol n
symbol_kind texts (kind.BuiltIn b) = kind.Symbol 0
symbol_kind texts (kind.Text n) = kind.Literal (get_or texts n [])
symbol_kind texts what = what

abbrev pub symbol_type : List CType → CoreKind → CType → CType
symbol_type objects (kind.Object n) of = get_or objects n of
symbol_type objects what of = of

abbrev mutual
  pub by_symbols : List CType → List (List ℕ) → CoreTree → CoreTree
  by_symbols objects texts (Core what of line kids) = Core (symbol_kind texts what) (symbol_type objects what of) line (all_by_symbols objects texts kids)

  pub all_by_symbols : List CType → List (List ℕ) → CoreTrees → CoreTrees
  all_by_symbols objects texts NoCore = NoCore
  all_by_symbols objects texts (Cores c cs) = Cores (by_symbols objects texts c) (all_by_symbols objects texts cs)

abbrev pub IsStaticValue : List Tag → List CType → List (List ℕ) → CoreTree → Type 0
IsStaticValue tags objects texts c = is_static_value tags (by_symbols objects texts c) ≡ true
