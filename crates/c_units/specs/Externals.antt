-- Typing of the external declarations of a unit, in order: what the unit has behind them.
-- Source: C89 3.7.
use Rattle.std.specs.Prelude.{List, [], ◌∷◌, ◌++◌}
use Rattle.c_ast.specs.Trees.{ExternalTree, Function, Declares, Empty}
use Rattle.c_meaning.specs.State.{State}
use Rattle.c_meaning.specs.Typing.{Outcome, Fine, then_do}
use Rattle.c_meaning.specs.Declarations.{Defined, Linked}
use Rattle.c_meaning.specs.Declarations as decl
use Rattle.c_meaning.specs.Declaring.{typed_declaration}
use Rattle.c_units.specs.Functions.{DefinedFunction, TypedFunction, typed_function}

-- What a unit has so far: its functions; its objects with static storage, but for tentative definitions; and each declaration of a
-- name with linkage; all in the order of the text.
pub record Parts : Type 0 where
  pub functions : List DefinedFunction
  pub objects : List Defined
  pub linked : List Linked

abbrev pub no_parts : Parts
no_parts = record { functions = []; objects = []; linked = [] }

abbrev pub with_function : Parts → TypedFunction → Parts
with_function u f =
    record { functions = u.functions ++ f.function ∷ []; objects = u.objects ++ f.body.objects; linked = u.linked ++ f.body.linked }

abbrev pub with_declared : Parts → decl.Declares → Parts
with_declared u d = record { functions = u.functions; objects = u.objects ++ d.objects; linked = u.linked ++ d.linked }

abbrev pub typed_external : State → Parts → ExternalTree → Outcome Parts
typed_external s u (Function l specs d olds body) = then_do (typed_function s l specs d olds body) (λ s f. Fine s (with_function u f))
typed_external s u (Declares l d) = then_do (typed_declaration s d) (λ s what. Fine s (with_declared u what))
typed_external s u (Empty l) = Fine s u

abbrev pub typed_externals : State → Parts → List ExternalTree → Outcome Parts
typed_externals s u [] = Fine s u
typed_externals s u (e ∷ es) = then_do (typed_external s u e) (λ s v. typed_externals s v es)
