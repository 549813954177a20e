-- Steps and parameters, seen over a later table.
use Rattle.std.proofs.Common.{Bool, true, false, ◌≡◌, ℕ, ◌≤◌, List, [], ◌∷◌, length, map, refl, ap, arith}
use Rattle.std.specs.Prelude.{Option, Some, None}
use Rattle.c_types.specs.CType.{CType}
use Rattle.c_types.specs.Table.{Extends, Table, type_at}
use Rattle.c_meaning.specs.CoreTrees.{CoreOf}
use Rattle.c_meaning.specs.Nodes as node
use Rattle.c_check_expr.specs.declared.parts.NamedParameter.{NamedParameter}
use Rattle.c_check_expr.specs.declared.parts.Step.{Step}
use Rattle.c_check_expr.specs.declared.parts.Step.TheVariants as step
use Rattle.c_check_expr.specs.PartsSeen.{AreParametersIn, AreStepsIn, IsSizeIn, IsStepIn, parameters_seen, size_seen, step_seen, steps_seen}
use Rattle.c_check_decl.specs.Declares.{AreLocalsIn}
use Rattle.c_units.specs.Definitions.{names_of}
use Rattle.c_units.specs.Functions.{parameter_types, scope_of, types_of}
use Rattle.c_meaning.specs.State.{State}
use Rattle.c_values.specs.Stays.{in_later, longer, seen_stays}

size_stays : (a b : Table) → Extends a b → (size : Option (CoreOf ℕ)) → IsSizeIn (length a.forms) size → size_seen b size ≡ size_seen a size
size_stays a b h None i = refl
size_stays a b h (Some c) i = ap Some (seen_stays a b h c i)

size_later : (a b : Table) → Extends a b → (size : Option (CoreOf ℕ)) → IsSizeIn (length a.forms) size → IsSizeIn (length b.forms) size
size_later a b h None i = tt
size_later a b h (Some c) i = in_later a b h c i

pub parameters_stay : (a b : Table) → Extends a b → (ps : List NamedParameter) → AreParametersIn (length a.forms) ps → parameters_seen b ps ≡ parameters_seen a ps
parameters_stay a b h [] i = refl
parameters_stay a b h (p ∷ ps) i = rw (h.types_stay p.of i.0, parameters_stay a b h ps i.1) refl

parameters_more : (n m : ℕ) → n ≤ m → (ps : List NamedParameter) → AreParametersIn n ps → AreParametersIn m ps
parameters_more n m l [] i = tt
parameters_more n m l (p ∷ ps) i = (let b = i.0 in omega arith, parameters_more n m l ps i.1)

pub parameters_later : (a b : Table) → Extends a b → (ps : List NamedParameter) → AreParametersIn (length a.forms) ps → AreParametersIn (length b.forms) ps
parameters_later a b h ps i = parameters_more (length a.forms) (length b.forms) (longer a b h) ps i

step_stays : (a b : Table) → Extends a b → (p : Step) → IsStepIn (length a.forms) p → step_seen b p ≡ step_seen a p
step_stays a b h (step.Pointer qualifiers) i = refl
step_stays a b h (step.Array size) i = ap node.ToArray (size_stays a b h size i)
step_stays a b h (step.Function parameters more scope) i = ap (λ ps. node.ToFunction ps more scope) (parameters_stay a b h parameters i)
step_stays a b h (step.Named names) i = refl
step_stays a b h step.Open i = refl

step_later : (a b : Table) → Extends a b → (p : Step) → IsStepIn (length a.forms) p → IsStepIn (length b.forms) p
step_later a b h (step.Pointer qualifiers) i = tt
step_later a b h (step.Array size) i = size_later a b h size i
step_later a b h (step.Function parameters more scope) i = parameters_later a b h parameters i
step_later a b h (step.Named names) i = tt
step_later a b h step.Open i = tt

pub steps_stay : (a b : Table) → Extends a b → (ps : List Step) → AreStepsIn (length a.forms) ps → steps_seen b ps ≡ steps_seen a ps
steps_stay a b h [] i = refl
steps_stay a b h (p ∷ ps) i = rw (step_stays a b h p i.0, steps_stay a b h ps i.1) refl

pub steps_later : (a b : Table) → Extends a b → (ps : List Step) → AreStepsIn (length a.forms) ps → AreStepsIn (length b.forms) ps
steps_later a b h [] i = tt
steps_later a b h (p ∷ ps) i = (step_later a b h p i.0, steps_later a b h ps i.1)

-- ---- the types of parameters

pub types_seen : (t : Table) (ps : List NamedParameter) → map (type_at t) (map (λ (p : NamedParameter). p.of) ps) ≡ types_of (parameters_seen t ps)
types_seen t [] = refl
types_seen t (p ∷ ps) = ap (λ (ts : List CType). type_at t p.of ∷ ts) (types_seen t ps)

pub types_below : (n : ℕ) (ps : List NamedParameter) → AreParametersIn n ps → AreLocalsIn n (map (λ (p : NamedParameter). p.of) ps)
types_below n [] i = tt
types_below n (p ∷ ps) i = (i.0, types_below n ps i.1)

-- ---- steps that list no parameters

abbrev pub lists_none : Step → Bool
lists_none (step.Function parameters more scope) = false
lists_none (step.Named names) = false
lists_none p = true

pub no_scope : (t : Table) (p : Step) → lists_none p ≡ true → [] ≡ scope_of (Some (step_seen t p))
no_scope t (step.Pointer qualifiers) h = refl
no_scope t (step.Array size) h = refl
no_scope t (step.Function parameters more scope) h = absurd (cc)
no_scope t (step.Named names) h = absurd (cc)
no_scope t step.Open h = refl

pub no_names : (t : Table) (p : Step) → lists_none p ≡ true → [] ≡ names_of (Some (step_seen t p))
no_names t (step.Pointer qualifiers) h = refl
no_names t (step.Array size) h = refl
no_names t (step.Function parameters more scope) h = absurd (cc)
no_names t (step.Named names) h = absurd (cc)
no_names t step.Open h = refl

pub no_types : (t : Table) (s : State) (p : Step) → lists_none p ≡ true → [] ≡ parameter_types s (Some (step_seen t p))
no_types t s (step.Pointer qualifiers) h = refl
no_types t s (step.Array size) h = refl
no_types t s (step.Function parameters more scope) h = absurd (cc)
no_types t s (step.Named names) h = absurd (cc)
no_types t s step.Open h = refl
