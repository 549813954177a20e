-- What names with static storage stand for at the end of a unit: functions and objects whose types are compatible with those that
-- the names have where they stand.
-- Source: C89 3.1.2.2, 3.1.2.6, 3.7.
use Rattle.std.specs.Prelude.{◌≡◌, ℕ, true, false, Some, slice_get}
use Rattle.c_types.specs.CType.{CType}
use Rattle.c_types.specs.Compatible.{compatible}
use Rattle.c_meaning.specs.declared.built_in.BuiltIn.{BuiltIn}
use Rattle.c_meaning.specs.declared.core_expr.CoreKind.{CoreKind}
use Rattle.c_meaning.specs.declared.core_expr.CoreKind.TheVariants as kind
use Rattle.c_meaning.specs.Declarations.{Defined}
use Rattle.c_meaning.specs.State.{State}
use Rattle.c_meaning.specs.Types.{is_function}
use Rattle.c_units.specs.Ends.{built_in_of, is_defined_in}
use Rattle.c_units.specs.Externals.{Parts}
use Rattle.c_units.specs.Functions.{DefinedFunction}

-- A symbol that stands with this type: a function or an object that the unit defines for it has a compatible one, and a built-in
-- function that it stands for, where the unit defines none, is one by its type.
pub record SymbolFits (s : State) (p : Parts) (id : ℕ) (of : CType) : Type 0 where
  pub functions : (k : ℕ) (f : DefinedFunction) → slice_get p.functions k ≡ Some f → f.symbol ≡ id → compatible of f.function.of ≡ true
  pub objects : (k : ℕ) (o : Defined) → slice_get p.objects k ≡ Some o → o.symbol ≡ id → compatible of o.object.of ≡ true
  pub built_in : (b : BuiltIn) → is_defined_in p id ≡ false → built_in_of s id ≡ Some b → is_function of ≡ true

abbrev pub IfSymbol : State → Parts → CoreKind → CType → Type 0
IfSymbol s p (kind.Symbol id) of = SymbolFits s p id of
IfSymbol s p what of = Unit {0}
