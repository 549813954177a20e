-- What a walk over a construct gives.
use Rattle.std.specs.Prelude.{◌≡◌, ◌<◌, ◌++◌, ◌∷◌, [], ℕ, ℤ, pos, ◌+ℤ◌, List, length, Result, IfOk, IfErr}
use Rattle.c_ast.specs.Trees.{EnumeratorTree, FieldTree}
use Rattle.c_symbols.specs.Scoping.{Scoping}
use Rattle.c_types.specs.CType.{CType}
use Rattle.c_types.specs.Layout.{MemberType}
use Rattle.c_types.specs.declared.type_form.Member.{Member}
use Rattle.c_types.specs.Table.{Table, member_types, type_at, types}
use Rattle.c_meaning.specs.CoreTrees.{AreIn, CoreOf, IsIn, all_seen, cores_of, seen}
use Rattle.c_meaning.specs.State.{State}
use Rattle.c_meaning.specs.Typing.{Outcome, Fine, then_do, typed_enumerator, typed_field}
use Rattle.c_meaning.specs.Values.{CoreTree, CoreTrees}
use Rattle.c_values.specs.declared.check_fault.CheckFault.{CheckFault}
use Rattle.c_check_expr.specs.declared.parts.Specified.{Specified}
use Rattle.c_check_expr.specs.declared.parts.Declared.{Declared}
use Rattle.c_check_expr.specs.declared.parts.NamedParameter.{NamedParameter}
use Rattle.c_check_expr.specs.declared.parts.Shaped.{Shaped}
use Rattle.c_check_expr.specs.declared.walk_types.EnumeratorList.{EnumeratorList}
use Rattle.c_check_expr.specs.AtNode.{Tells}
use Rattle.c_check_expr.specs.Keeps.{Keeps}
use Rattle.c_check_expr.specs.Known.{state_of}
use Rattle.c_check_expr.specs.PartsSeen.{AreStepsIn}

-- What typing makes of the construct, seen over the later table, with what is known there and with its types in it; or
-- its first fault. Either way the scopes around stay, and the table is extended.
pub record Walks {V T : Type 0} (view : Table → V → T) (IsWithin : ℕ → V → Type 0) (outcome : Outcome T) (old : Scoping) (before : Table) (new : Scoping) (behind : Table) (result : Result V CheckFault) : Type 0 where
  pub ok : IfOk result (λ v. outcome ≡ Fine (state_of new behind) (view behind v))
  pub err : IfErr result (λ e. Tells e outcome)
  pub within : IfOk result (λ v. IsWithin (length behind.forms) v)
  pub keeps : Keeps old before new behind

-- ---- how values are seen, and where their types stand

abbrev pub core : Table → CoreOf ℕ → CoreTree
core t c = seen (type_at t) c

abbrev pub cores : Table → List (CoreOf ℕ) → CoreTrees
cores t cs = all_seen (type_at t) (cores_of cs)

abbrev pub AreCoresIn : ℕ → List (CoreOf ℕ) → Type 0
AreCoresIn n cs = AreIn n (cores_of cs)

abbrev pub pair : Table → CoreOf ℕ × CoreOf ℕ → CoreTree × CoreTree
pair t p = (core t p.0, core t p.1)

abbrev pub IsPairIn : ℕ → CoreOf ℕ × CoreOf ℕ → Type 0
IsPairIn n p = IsIn n p.0 × IsIn n p.1

abbrev pub IsBelow : ℕ → ℕ → Type 0
IsBelow n id = id < n

abbrev pub IsSpecifiedIn : ℕ → Specified → Type 0
IsSpecifiedIn n b = b.of < n

abbrev pub IsShapeIn : ℕ → Shaped → Type 0
IsShapeIn n p = p.of < n

abbrev pub IsDeclaredIn : ℕ → Declared → Type 0
IsDeclaredIn n d = AreStepsIn n d.steps

abbrev pub members : Table → List Member → List MemberType
members t ms = member_types (types t) ms

abbrev pub IsParameterIn : ℕ → NamedParameter → Type 0
IsParameterIn n p = p.of < n

-- the value that the next enumerator has
abbrev pub next_number : Table → EnumeratorList → ℤ
next_number t a = a.next

abbrev pub IsAnyNumber : ℕ → EnumeratorList → Type 0
IsAnyNumber n a = Unit {0}

-- ---- steps of lists

-- the members with one more behind them
abbrev pub with_field : State → List MemberType → CType → FieldTree → Outcome (List MemberType)
with_field s before base f = then_do (typed_field s before base f) (λ s m. Fine s (before ++ m ∷ []))

-- the number behind an enumerator's
abbrev pub numbered : State → ℤ → EnumeratorTree → Outcome ℤ
numbered s next e = then_do (typed_enumerator s next e) (λ s z. Fine s (z +ℤ pos 1))
