-- Typing as a function, as a relation and as a walk over nodes says the same; and each copy of a call has a local of its own.
use Rattle.std.specs.Prelude.{◌≡◌, ◌↔◌, Option, Some, None, List, length, map, slice_get}
use Rattle.std.specs.List.{range_with_len}
use Rattle.c_types.specs.CType.{CType}
use Rattle.c_meaning.specs.State.{State}
use Rattle.c_meaning.specs.Constraints.{Fault}
use Rattle.c_meaning.specs.Typing.{Outcome, Fine, Bad}
use Rattle.c_meaning.specs.Postorder.{Place, first_fault}
use Rattle.c_meaning.specs.DeclaringNodes.{AnyPlace, first_any}
use Rattle.c_meaning.specs.Copies.{LocalAt}
use Rattle.c_meaning.specs.Each.{EachIs}
use Rattle.c_meaning.specs.Units.{FunctionTree, UnitTree, IsFunction, declared, function_copies}

-- what is typed, and nothing else, is what the function gives
abbrev pub IsTyping : {T : Type 0} → Outcome T → (State → T → Type 0) → Type 0
IsTyping {T} outcome types = (s : State) → (t : T) → types s t ↔ (outcome ≡ Fine s t)

abbrev pub fault_of : {T : Type 0} → Outcome T → Option Fault
fault_of (Fine s t) = None
fault_of (Bad f) = Some f

-- the fault that the function gives is that of the first node that has one
abbrev pub IsFirst : {T : Type 0} → Outcome T → List Place → Type 0
IsFirst outcome places = first_fault places ≡ fault_of outcome

-- Where no node has a fault there is a typing, and exactly one; where one has, there is none.
pub record IsDecided {T : Type 0} (types : State → T → Type 0) (fault : Option Fault) : Type 0 where
  pub some : fault ≡ None → (s : State) × (t : T) × types s t
  pub one : (s u : State) → (t v : T) → types s t → types u v → (s ≡ u) × (t ≡ v)
  pub none : (f : Fault) → fault ≡ Some f → (s : State) → (t : T) → types s t → ⊥

abbrev pub AreDecided : {T : Type 0} → (State → T → Type 0) → List Place → Type 0
AreDecided types places = IsDecided types (first_fault places)

-- ---- the same of initialisers and declarations

abbrev pub IsFirstOf : {T : Type 0} → Outcome T → List AnyPlace → Type 0
IsFirstOf outcome places = first_any places ≡ fault_of outcome

abbrev pub AreAllDecided : {T : Type 0} → (State → T → Type 0) → List AnyPlace → Type 0
AreAllDecided types places = IsDecided types (first_any places)

-- ---- copies

-- one of these locals has the place and the type
abbrev pub IsLocalOf : List CType → LocalAt → Type 0
IsLocalOf locals l = slice_get locals l.place ≡ Some l.of

-- what a call of a checked function passes or gives has a local of its type
abbrev pub CopiesAreLocals : Type 0
CopiesAreLocals = (u : UnitTree) (f : FunctionTree) → IsFunction u f → EachIs (IsLocalOf f.locals) (function_copies f)

-- the first is right behind the declared locals, and the others follow, so that no two are one
abbrev pub CopiesAreApart : Type 0
CopiesAreApart = (u : UnitTree) (f : FunctionTree) → IsFunction u f → map (λ (l : LocalAt). l.place) (function_copies f) ≡ range_with_len (declared f) (length (function_copies f))
