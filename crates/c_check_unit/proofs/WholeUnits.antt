-- A unit is whole where its functions, objects and texts are.
use Rattle.std.proofs.Common.{◌≡◌, ℕ, List, ◌∙◌}
use Rattle.c_meaning.specs.declared.core_expr.CoreKind.{CoreKind}
use Rattle.c_meaning.specs.State.{State}
use Rattle.c_meaning.specs.Units.{FunctionTree, ObjectTree}
use Rattle.c_units.specs.Externals.{Parts}
use Rattle.c_units.specs.Wholes.{main_from, stands_for, texts_of, whole_functions, whole_objects, whole_unit}

pub unit_is : (s : State) (u : Parts) (meant : ℕ → CoreKind) (texts listed : List (List ℕ)) (fs : List FunctionTree) (os : List ObjectTree) (main : ℕ) → ((id : ℕ) → meant id ≡ stands_for s u id) → texts ≡ texts_of u → listed ≡ texts
    → fs ≡ whole_functions meant texts u.functions → os ≡ whole_objects s meant texts 0 u.objects → main ≡ main_from 0 u.functions
    → record { functions = fs; objects = os; texts = listed; tags = s.tags; main = main } ≡ whole_unit s u
unit_is s u meant texts listed fs os main h e i f o n =
    let functions : fs ≡ whole_functions (stands_for s u) (texts_of u) u.functions = f ∙ (λ j. whole_functions (λ id. h id j) (e j) u.functions) in
    let objects : os ≡ whole_objects s (stands_for s u) (texts_of u) 0 u.objects = o ∙ (λ j. whole_objects s (λ id. h id j) (e j) 0 u.objects) in
    let all : listed ≡ texts_of u = i ∙ e in
    λ j. record { functions = functions j; objects = objects j; texts = all j; tags = s.tags; main = n j }
