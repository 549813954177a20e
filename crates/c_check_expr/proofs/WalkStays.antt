-- What a walk has seen over an earlier table is seen over the later one.
use Rattle.std.proofs.Common.{◌≡◌, ℕ, ◌<◌, Option, Some, None, List, [], ◌∷◌, ◌++◌, length, map, refl}
use Rattle.c_types.specs.declared.type_form.Member.{Member}
use Rattle.c_types.specs.Table.{Table, Extends, AreMembersBelow, member_types, type_at, types}
use Rattle.c_meaning.specs.CoreTrees.{AreIn, CoreOf, IsIn, all_seen, cores_of, seen}
use Rattle.c_check_expr.specs.declared.parts.Part.{Part}
use Rattle.c_check_expr.specs.declared.parts.Part.TheVariants as part
use Rattle.c_check_expr.specs.declared.parts.NamedParameter.{NamedParameter}
use Rattle.c_check_expr.specs.declared.parts.Step.{Step}
use Rattle.c_check_expr.specs.declared.parts.Step.TheVariants as step
use Rattle.c_check_expr.specs.PartsSeen.{AreParametersIn, ArePartsIn, AreStepsIn, IsPartIn, IsSizeIn, IsStepIn, parameter_seen, parameters_seen, part_seen, parts_seen, size_seen, step_seen, steps_seen}
use Rattle.c_values.specs.Stays.{in_more, longer, seen_stays}
use Rattle.c_check_expr.specs.Kept.{below_later}

-- ---- expressions in a list

pub core_pushed : (n : ℕ) (cs : List (CoreOf ℕ)) (c : CoreOf ℕ) → AreIn n (cores_of cs) → IsIn n c → AreIn n (cores_of (cs ++ c ∷ []))
core_pushed n [] c i h = (h, tt)
core_pushed n (d ∷ cs) c i h = (i.0, core_pushed n cs c i.1 h)

pub cores_later : (a b : Table) → Extends a b → (cs : List (CoreOf ℕ)) → AreIn (length a.forms) (cores_of cs) → AreIn (length b.forms) (cores_of cs)
cores_later a b h [] i = tt
cores_later a b h (c ∷ cs) i = (in_more (length a.forms) (length b.forms) (longer a b h) c i.0, cores_later a b h cs i.1)

pub cores_mapped : (t : Table) (cs : List (CoreOf ℕ)) → all_seen (type_at t) (cores_of cs) ≡ cores_of (map (λ c. seen (type_at t) c) cs)
cores_mapped t [] = refl
cores_mapped t (c ∷ cs) = rw (cores_mapped t cs) refl

pub cores_stay : (a b : Table) → Extends a b → (cs : List (CoreOf ℕ)) → AreIn (length a.forms) (cores_of cs) → map (λ c. seen (type_at b) c) cs ≡ map (λ c. seen (type_at a) c) cs
cores_stay a b h [] i = refl
cores_stay a b h (c ∷ cs) i = rw (seen_stays a b h c i.0, cores_stay a b h cs i.1) refl

-- ---- parts of specifiers

part_later : (a b : Table) → Extends a b → (p : Part) → IsPartIn (length a.forms) p → IsPartIn (length b.forms) p
part_later a b h (part.Stored class) i = tt
part_later a b h (part.Qualified q) i = tt
part_later a b h (part.Word w) i = tt
part_later a b h (part.Whole of) i = below_later a b h of i

part_stays : (a b : Table) → Extends a b → (p : Part) → IsPartIn (length a.forms) p → part_seen b p ≡ part_seen a p
part_stays a b h (part.Stored class) i = refl
part_stays a b h (part.Qualified q) i = refl
part_stays a b h (part.Word w) i = refl
part_stays a b h (part.Whole of) i = rw (h.types_stay of i) refl

pub parts_stay : (a b : Table) → Extends a b → (ps : List Part) → ArePartsIn (length a.forms) ps → parts_seen b ps ≡ parts_seen a ps
parts_stay a b h [] i = refl
parts_stay a b h (p ∷ ps) i = rw (part_stays a b h p i.0, parts_stay a b h ps i.1) refl

pub parts_pushed : (t : Table) (ps : List Part) (p : Part) → parts_seen t (ps ++ p ∷ []) ≡ parts_seen t ps ++ part_seen t p ∷ []
parts_pushed t [] p = refl
parts_pushed t (q ∷ ps) p = rw (parts_pushed t ps p) refl

pub parts_within : (a b : Table) → Extends a b → (ps : List Part) (p : Part) → ArePartsIn (length a.forms) ps → IsPartIn (length b.forms) p → ArePartsIn (length b.forms) (ps ++ p ∷ [])
parts_within a b h [] p i j = (j, tt)
parts_within a b h (q ∷ ps) p i j = (part_later a b h q i.0, parts_within a b h ps p i.1 j)

-- ---- parameters

pub parameters_later : (a b : Table) → Extends a b → (ps : List NamedParameter) → AreParametersIn (length a.forms) ps → AreParametersIn (length b.forms) ps
parameters_later a b h [] i = tt
parameters_later a b h (p ∷ ps) i = (below_later a b h p.of i.0, parameters_later a b h ps i.1)

pub parameters_stay : (a b : Table) → Extends a b → (ps : List NamedParameter) → AreParametersIn (length a.forms) ps → parameters_seen b ps ≡ parameters_seen a ps
parameters_stay a b h [] i = refl
parameters_stay a b h (p ∷ ps) i = rw (h.types_stay p.of i.0, parameters_stay a b h ps i.1) refl

pub parameters_pushed : (t : Table) (ps : List NamedParameter) (p : NamedParameter) → parameters_seen t (ps ++ p ∷ []) ≡ parameters_seen t ps ++ parameter_seen t p ∷ []
parameters_pushed t [] p = refl
parameters_pushed t (q ∷ ps) p = rw (parameters_pushed t ps p) refl

pub parameters_within : (a b : Table) → Extends a b → (ps : List NamedParameter) (p : NamedParameter) → AreParametersIn (length a.forms) ps → p.of < length b.forms → AreParametersIn (length b.forms) (ps ++ p ∷ [])
parameters_within a b h [] p i j = (j, tt)
parameters_within a b h (q ∷ ps) p i j = (below_later a b h q.of i.0, parameters_within a b h ps p i.1 j)

-- ---- steps

pub size_later : (a b : Table) → Extends a b → (o : Option (CoreOf ℕ)) → IsSizeIn (length a.forms) o → IsSizeIn (length b.forms) o
size_later a b h None i = tt
size_later a b h (Some c) i = in_more (length a.forms) (length b.forms) (longer a b h) c i

pub size_stays : (a b : Table) → Extends a b → (o : Option (CoreOf ℕ)) → IsSizeIn (length a.forms) o → size_seen b o ≡ size_seen a o
size_stays a b h None i = refl
size_stays a b h (Some c) i = rw (seen_stays a b h c i) refl

step_later : (a b : Table) → Extends a b → (p : Step) → IsStepIn (length a.forms) p → IsStepIn (length b.forms) p
step_later a b h (step.Pointer q) i = tt
step_later a b h (step.Array size) i = size_later a b h size i
step_later a b h (step.Function ps more scope) i = parameters_later a b h ps i
step_later a b h (step.Named names) i = tt
step_later a b h step.Open i = tt

step_stays : (a b : Table) → Extends a b → (p : Step) → IsStepIn (length a.forms) p → step_seen b p ≡ step_seen a p
step_stays a b h (step.Pointer q) i = refl
step_stays a b h (step.Array size) i = rw (size_stays a b h size i) refl
step_stays a b h (step.Function ps more scope) i = rw (parameters_stay a b h ps i) refl
step_stays a b h (step.Named names) i = refl
step_stays a b h step.Open i = refl

pub steps_later : (a b : Table) → Extends a b → (ps : List Step) → AreStepsIn (length a.forms) ps → AreStepsIn (length b.forms) ps
steps_later a b h [] i = tt
steps_later a b h (p ∷ ps) i = (step_later a b h p i.0, steps_later a b h ps i.1)

pub steps_stay : (a b : Table) → Extends a b → (ps : List Step) → AreStepsIn (length a.forms) ps → steps_seen b ps ≡ steps_seen a ps
steps_stay a b h [] i = refl
steps_stay a b h (p ∷ ps) i = rw (step_stays a b h p i.0, steps_stay a b h ps i.1) refl

pub steps_append : (t : Table) (ps qs : List Step) → steps_seen t (ps ++ qs) ≡ steps_seen t ps ++ steps_seen t qs
steps_append t [] qs = refl
steps_append t (p ∷ ps) qs = rw (steps_append t ps qs) refl

pub steps_in_append : (n : ℕ) (ps qs : List Step) → AreStepsIn n ps → AreStepsIn n qs → AreStepsIn n (ps ++ qs)
steps_in_append n [] qs i j = j
steps_in_append n (p ∷ ps) qs i j = (i.0, steps_in_append n ps qs i.1 j)

pub steps_within : (a b : Table) → Extends a b → (ps : List Step) (p : Step) → AreStepsIn (length a.forms) ps → IsStepIn (length b.forms) p → AreStepsIn (length b.forms) (ps ++ p ∷ [])
steps_within a b h ps p i j = steps_in_append (length b.forms) ps (p ∷ []) (steps_later a b h ps i) (j, tt)

-- ---- members

pub members_later : (a b : Table) → Extends a b → (ms : List Member) → AreMembersBelow (length a.forms) ms → AreMembersBelow (length b.forms) ms
members_later a b h [] i = tt
members_later a b h (m ∷ ms) i = (below_later a b h m.of i.0, members_later a b h ms i.1)

pub members_stay : (a b : Table) → Extends a b → (ms : List Member) → AreMembersBelow (length a.forms) ms → member_types (types b) ms ≡ member_types (types a) ms
members_stay a b h [] i = refl
members_stay a b h (m ∷ ms) i = rw (h.types_stay m.of i.0, members_stay a b h ms i.1) refl
