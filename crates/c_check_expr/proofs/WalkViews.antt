-- Lists of what stands one behind the other, as they are seen and as they are typed.
use Rattle.std.proofs.Common.{◌≡◌, ℕ, ◌+◌, List, [], ◌∷◌, ◌++◌, length, map, refl, sym, ap, ◌∙◌}
use Rattle.std.specs.Prelude.{Bool, ℤ, pos, ◌+ℤ◌}
use Rattle.c_ast.specs.declared.expr.Enumerator.{Enumerator}
use Rattle.c_ast.specs.declared.expr.Expr.{Expr}
use Rattle.c_ast.specs.declared.expr.Member.{Member}
use Rattle.c_ast.specs.declared.expr.MemberDeclarator.{MemberDeclarator}
use Rattle.c_ast.specs.declared.expr.Parameter.{Parameter}
use Rattle.c_ast.specs.declared.expr.Specifier.{Specifier}
use Rattle.c_ast.specs.declared.expr.Suffix.{Suffix}
use Rattle.c_ast.specs.Views.{enumerators_of, exprs_of, fields_of, members_of, parameters_of, specifier_list_of, suffixes_of}
use Rattle.c_ast.specs.Seen.{enumerator_seen, expr_seen, field_seen, member_seen, parameter_seen as parameter_tree, specifier_seen, suffix_seen}
use Rattle.c_types.specs.CType.{CType}
use Rattle.c_types.specs.Layout.{MemberType}
use Rattle.c_types.specs.Table.{Table}
use Rattle.c_meaning.specs.CoreTrees.{CoreOf, Cores, IsIn, cores_of}
use Rattle.c_meaning.specs.Nodes as node
use Rattle.c_meaning.specs.State.{State}
use Rattle.c_meaning.specs.Typing.{Outcome, Fine, all_typed, then_do, typed, typed_enumerator, typed_enumerators, typed_field, typed_fields, typed_member, typed_members, typed_parameter, typed_parameters, typed_part, typed_parts, typed_suffix, typed_suffixes}
use Rattle.c_check_expr.specs.declared.parts.Part.{Part}
use Rattle.c_check_expr.specs.declared.parts.NamedParameter.{NamedParameter}
use Rattle.c_check_expr.specs.declared.parts.Step.{Step}
use Rattle.c_check_expr.specs.PartsSeen.{AreParametersIn, ArePartsIn, AreStepsIn, IsPartIn, IsStepIn, parameter_seen, parameters_seen, part_seen, parts_seen, step_seen, steps_seen}
use Rattle.c_check_expr.specs.Walks.{AreCoresIn, IsParameterIn, core, numbered, with_field}
use Rattle.c_check_expr.proofs.lemmas.WalkLists.{IsSeenAsList, each, folded, then_same, then_then}
use Rattle.c_check_expr.proofs.WalkStays.{core_pushed, cores_later, cores_stay, parameters_pushed, parameters_stay, parameters_within, parts_pushed, parts_stay, parts_within, steps_append, steps_stay, steps_within}

-- ---- seen

abbrev pub core_list : Table → List (CoreOf ℕ) → List (CoreOf CType)
core_list t cs = map (core t) cs

cores_counted : (t : Table) (cs : List (CoreOf ℕ)) → length (core_list t cs) ≡ length cs
cores_counted t [] = refl
cores_counted t (c ∷ cs) = rw (cores_counted t cs) refl

cores_pushed : (t : Table) (cs : List (CoreOf ℕ)) (c : CoreOf ℕ) → core_list t (cs ++ c ∷ []) ≡ core_list t cs ++ core t c ∷ []
cores_pushed t [] c = refl
cores_pushed t (d ∷ cs) c = rw (cores_pushed t cs c) refl

pub cores_known : IsSeenAsList core IsIn core_list AreCoresIn
cores_known =
    record {
      pushed = cores_pushed;
      counted = cores_counted;
      stay = cores_stay;
      within = λ a b h cs c i j. core_pushed (length b.forms) cs c (cores_later a b h cs i) j;
    }

parts_counted : (t : Table) (ps : List Part) → length (parts_seen t ps) ≡ length ps
parts_counted t [] = refl
parts_counted t (p ∷ ps) = rw (parts_counted t ps) refl

pub parts_known : IsSeenAsList part_seen IsPartIn parts_seen ArePartsIn
parts_known = record { pushed = parts_pushed; counted = parts_counted; stay = parts_stay; within = parts_within }

steps_counted : (t : Table) (ps : List Step) → length (steps_seen t ps) ≡ length ps
steps_counted t [] = refl
steps_counted t (p ∷ ps) = rw (steps_counted t ps) refl

pub steps_known : IsSeenAsList step_seen IsStepIn steps_seen AreStepsIn
steps_known = record { pushed = λ t ps p. steps_append t ps (p ∷ []); counted = steps_counted; stay = steps_stay; within = steps_within }

parameters_counted : (t : Table) (ps : List NamedParameter) → length (parameters_seen t ps) ≡ length ps
parameters_counted t [] = refl
parameters_counted t (p ∷ ps) = rw (parameters_counted t ps) refl

pub parameters_known : IsSeenAsList parameter_seen IsParameterIn parameters_seen AreParametersIn
parameters_known = record { pushed = parameters_pushed; counted = parameters_counted; stay = parameters_stay; within = parameters_within }

-- ---- typed

abbrev pub one_expr : ℕ → State → Expr → Outcome (CoreOf CType)
one_expr i s e = typed s (expr_seen e)

pub exprs_typed : (s : State) (i : ℕ) (es : List Expr) → all_typed s (exprs_of (map expr_seen es)) ≡ then_do (each one_expr i s es) (λ u cs. Fine u (cores_of cs))
exprs_typed s i [] = refl
exprs_typed s i (e ∷ es) =
    then_same (typed s (expr_seen e)) (λ m c. then_do (all_typed m (exprs_of (map expr_seen es))) (λ u cs. Fine u (Cores c cs))) (λ m c. then_do (each one_expr (i + 1) m es) (λ u cs. Fine u (cores_of (c ∷ cs))))
    (λ m c. ap (λ o. then_do o (λ u cs. Fine u (Cores c cs))) (exprs_typed m (i + 1) es) ∙ then_then (each one_expr (i + 1) m es) (λ u cs. Fine u (cores_of cs)) (λ u cs. Fine u (Cores c cs)))
    ∙ sym (then_then (typed s (expr_seen e)) (λ m c. then_do (each one_expr (i + 1) m es) (λ u cs. Fine u (c ∷ cs))) (λ u cs. Fine u (cores_of cs))
    ∙ then_same (typed s (expr_seen e)) (λ m c. then_do (then_do (each one_expr (i + 1) m es) (λ u cs. Fine u (c ∷ cs))) (λ u cs. Fine u (cores_of cs))) (λ m c. then_do (each one_expr (i + 1) m es) (λ u cs. Fine u (cores_of (c ∷ cs))))
    (λ m c. then_then (each one_expr (i + 1) m es) (λ u cs. Fine u (c ∷ cs)) (λ u cs. Fine u (cores_of cs))))

abbrev pub one_part : ℕ → State → Specifier → Outcome node.Part
one_part i s p = typed_part s (specifier_seen p)

pub parts_typed : (s : State) (i : ℕ) (ps : List Specifier) → typed_parts s (specifier_list_of (map specifier_seen ps)) ≡ each one_part i s ps
parts_typed s i [] = refl
parts_typed s i (p ∷ ps) =
    then_same (typed_part s (specifier_seen p)) (λ m q. then_do (typed_parts m (specifier_list_of (map specifier_seen ps))) (λ u qs. Fine u (q ∷ qs))) (λ m q. then_do (each one_part (i + 1) m ps) (λ u qs. Fine u (q ∷ qs)))
    (λ m q. ap (λ o. then_do o (λ u qs. Fine u (q ∷ qs))) (parts_typed m (i + 1) ps))

abbrev pub one_suffix : ℕ → State → Suffix → Outcome node.Step
one_suffix i s x = typed_suffix s (suffix_seen x)

pub suffixes_typed : (s : State) (i : ℕ) (xs : List Suffix) → typed_suffixes s (suffixes_of (map suffix_seen xs)) ≡ each one_suffix i s xs
suffixes_typed s i [] = refl
suffixes_typed s i (x ∷ xs) =
    then_same (typed_suffix s (suffix_seen x)) (λ m q. then_do (typed_suffixes m (suffixes_of (map suffix_seen xs))) (λ u qs. Fine u (q ∷ qs))) (λ m q. then_do (each one_suffix (i + 1) m xs) (λ u qs. Fine u (q ∷ qs)))
    (λ m q. ap (λ o. then_do o (λ u qs. Fine u (q ∷ qs))) (suffixes_typed m (i + 1) xs))

abbrev pub one_parameter : Bool → ℕ → State → Parameter → Outcome node.NamedParameter
one_parameter alone i s p = typed_parameter s alone i (parameter_tree p)

pub parameters_typed : (alone : Bool) (s : State) (i : ℕ) (ps : List Parameter) → typed_parameters s alone i (parameters_of (map parameter_tree ps)) ≡ each (one_parameter alone) i s ps
parameters_typed alone s i [] = refl
parameters_typed alone s i (p ∷ ps) =
    then_same (typed_parameter s alone i (parameter_tree p)) (λ m q. then_do (typed_parameters m alone (i + 1) (parameters_of (map parameter_tree ps))) (λ u qs. Fine u (q ∷ qs))) (λ m q. then_do (each (one_parameter alone) (i + 1) m ps) (λ u qs. Fine u (q ∷ qs)))
    (λ m q. ap (λ o. then_do o (λ u qs. Fine u (q ∷ qs))) (parameters_typed alone m (i + 1) ps))

-- ---- members and enumerators

abbrev pub member_step : State → List MemberType → Member → Outcome (List MemberType)
member_step s before m = typed_member s before (member_seen m)

pub members_typed : (s : State) (before : List MemberType) (ms : List Member) → typed_members s before (members_of (map member_seen ms)) ≡ folded member_step s before ms
members_typed s before [] = refl
members_typed s before (m ∷ ms) =
    then_same (typed_member s before (member_seen m)) (λ u now. typed_members u now (members_of (map member_seen ms))) (λ u now. folded member_step u now ms) (λ u now. members_typed u now ms)

abbrev pub field_step : CType → State → List MemberType → MemberDeclarator → Outcome (List MemberType)
field_step base s before f = with_field s before base (field_seen f)

pub fields_typed : (base : CType) (s : State) (before : List MemberType) (fs : List MemberDeclarator) → typed_fields s before base (fields_of (map field_seen fs)) ≡ folded (field_step base) s before fs
fields_typed base s before [] = refl
fields_typed base s before (f ∷ fs) =
    then_same (typed_field s before base (field_seen f)) (λ u m. typed_fields u (before ++ m ∷ []) base (fields_of (map field_seen fs))) (λ u m. folded (field_step base) u (before ++ m ∷ []) fs) (λ u m. fields_typed base u (before ++ m ∷ []) fs)
    ∙ sym (then_then (typed_field s before base (field_seen f)) (λ u m. Fine u (before ++ m ∷ [])) (λ u now. folded (field_step base) u now fs))

abbrev pub enumerator_step : State → ℤ → Enumerator → Outcome ℤ
enumerator_step s next e = numbered s next (enumerator_seen e)

pub enumerators_typed : (s : State) (next : ℤ) (es : List Enumerator) → typed_enumerators s next (enumerators_of (map enumerator_seen es)) ≡ folded enumerator_step s next es
enumerators_typed s next [] = refl
enumerators_typed s next (e ∷ es) =
    then_same (typed_enumerator s next (enumerator_seen e)) (λ u z. typed_enumerators u (z +ℤ pos 1) (enumerators_of (map enumerator_seen es))) (λ u z. folded enumerator_step u (z +ℤ pos 1) es) (λ u z. enumerators_typed u (z +ℤ pos 1) es)
    ∙ sym (then_then (typed_enumerator s next (enumerator_seen e)) (λ u z. Fine u (z +ℤ pos 1)) (λ u z. folded enumerator_step u z es))
