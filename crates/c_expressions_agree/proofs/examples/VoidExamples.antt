-- Expressions of type void: nothing uses the value of `1 ? *p : *p`, where p is a pointer to void; `*p` itself is a place, whose address may be used.
use Rattle.std.specs.Prelude.{◌≡◌, true, false, []}
use Rattle.std.proofs.Common.{refl}
use Rattle.c_types.specs.CType.{CType, Void, basic}
use Rattle.c_meaning.specs.declared.core_expr.CoreKind.TheVariants as kind
use Rattle.c_meaning.specs.CoreTrees.{Core, NoCore, Cores}
use Rattle.c_meaning.specs.Values.{CoreTree}
use Rattle.objects.specs.declared.value.Value.TheVariants.{Number}
use Rattle.c_runs.specs.Outcomes.{Gives, GivesNone}
use Rattle.c_runs.specs.Samples.{number, as_void, as_pointer, pointed}
use Rattle.c_runs.specs.Worlds.{World}
use Rattle.c_straight_agree.specs.Agreement.{without_value}
use Rattle.c_straight_agree.specs.Parts.{is_unused}

abbrev void : CType
void = basic Void

abbrev choice : CoreTree → CoreTree → CoreTree
choice b c = Core kind.Conditional void 1 (Cores (number 1 1) (Cores b (Cores c NoCore)))

-- what a null pointer to void points to
abbrev place : CoreTree
place = pointed 1 (as_pointer 1 void (number 1 0))

choice_is_unused : is_unused (choice place place) ≡ true
choice_is_unused = refl

dropped_is_unused : is_unused (as_void 1 (number 1 2)) ≡ true
dropped_is_unused = refl

place_may_be_used : is_unused place ≡ false
place_may_be_used = refl

number_is_used : is_unused (number 1 2) ≡ false
number_is_used = refl

-- ---- what an evaluation comes to but for its value

abbrev world : World
world = record { storage = record { objects = []; made = 0 }; locals = []; input = []; trace = [] }

value_goes : without_value (Gives (Number 1) 3 world) ≡ GivesNone 0 3 world
value_goes = refl

-- the turns stay
turns_stay : without_value (Gives (Number 1) 3 world) ≡ GivesNone 0 2 world → ⊥
turns_stay e = let never : ⊥ = cc in never
