-- Numbers that an expression writes in a place, and what it then comes to.
use Rattle.std.specs.Prelude.{◌≡◌, ℕ, List, [], ◌∷◌, Ok}
use Rattle.lcc_base.specs.declared.order.Order.{Order}
use Rattle.lcc_base.specs.Traces.{Event}
use Rattle.objects.specs.declared.purpose.Purpose.TheVariants.{Assignment}
use Rattle.objects.specs.declared.value.Value.{Value}
use Rattle.objects.specs.declared.value.Value.TheVariants.{Number}
use Rattle.objects.specs.declared.width.Scalar.{Scalar}
use Rattle.objects.specs.Accesses.{read}
use Rattle.objects.specs.Objects.{Object, Storage}
use Rattle.c_types.specs.CType.{CType}
use Rattle.c_meaning.specs.declared.core_expr.Change.{Change}
use Rattle.c_meaning.specs.CoreTrees.{CoreOf, what_of, type_of, line_of}
use Rattle.c_meaning.specs.Scalars.{scalar_of}
use Rattle.c_meaning.specs.Values.{CoreTree}
use Rattle.c_runs.specs.Expressions.{changed, row}
use Rattle.c_runs.specs.Outcomes.{Result, Gives, stores}
use Rattle.c_runs.specs.Places.{Spot, spot_of, stored}
use Rattle.c_runs.specs.Worlds.{World, objects}
use Rattle.c_worlds.specs.declared.program.Program.{Program}
use Rattle.c_worlds.specs.Programs.{Calls, known, setting_of}
use Rattle.c_worlds.specs.Shown.{giving}

-- what the row of an expression comes to whose left part gave a pointer, and whose right part a number
abbrev pub row_of : Program → Calls → CoreOf ℕ → CoreTree → Value → CoreTree → ℕ → ℕ → World → Result
row_of p calls e left at right n k w = row (setting_of p calls) (what_of e) (known p (type_of e)) (line_of e) (giving left at ∷ giving right (Number n) ∷ []) k w

-- a place that holds a number is changed to another one
pub record ChangesTo (order : Order) (scalar : Scalar) (by : Change) (os : List Object) (at : Value) (n old m : ℕ) : Type 0 where
  pub reads : read order scalar os at ≡ Ok (Number old)
  pub changes : (x : Spot) (t : CType) → scalar_of x.of ≡ scalar → changed by x t os (Number old) (Number n) ≡ Ok (Number m)

-- the expression stores the number m, and gives some value
abbrev pub StoresNumber : Program → CoreOf ℕ → CoreTree → Value → ℕ → ℕ → List Object → Type 0
StoresNumber p e left at n m os =
    (v : Value)
    × ((calls : Calls) (right : CoreTree) (k : ℕ) (w : World) → objects w ≡ os
    → row_of p calls e left at right n k w ≡ stores (stored Assignment p.order (spot_of left) (Number m) os at) v (line_of e) k w)

-- the expression gives some value, and has written: of what it acts on, the storage alone is another one
abbrev pub IsWritten : Program → CoreOf ℕ → CoreTree → Value → ℕ → Storage → Storage → Type 0
IsWritten p e left at n old new =
    (v : Value)
    × ((calls : Calls) (right : CoreTree) (k : ℕ) (locals : List Value) (input : List ℕ) (t : List Event)
    → row_of p calls e left at right n k (record { storage = old; locals = locals; input = input; trace = t }) ≡ Gives v k (record { storage = new; locals = locals; input = input; trace = t }))
