-- The loops of the walk: what came of the front of a list, and what is left.
use Rattle.std.proofs.Common.{◌≡◌, ℕ, ◌+◌, ◌<◌, ◌≤◌, Bool, List, [], ◌∷◌, ◌++◌, length, get_or, drop, map, sym, ap, ◌∙◌, subst}
use Rattle.std.specs.Prelude.{Result, Ok, Err, IfOk, IfErr, IsErrAnd, pos}
use Rattle.c_ast.specs.declared.expr.Enumerator.{Enumerator}
use Rattle.c_ast.specs.declared.expr.Expr.{Expr}
use Rattle.c_ast.specs.declared.expr.Member.{Member as MemberSyntax}
use Rattle.c_ast.specs.declared.expr.MemberDeclarator.{MemberDeclarator}
use Rattle.c_ast.specs.declared.expr.Parameter.{Parameter}
use Rattle.c_ast.specs.declared.expr.Specifier.{Specifier}
use Rattle.c_ast.specs.declared.expr.Suffix.{Suffix}
use Rattle.c_ast.specs.Views.{enumerators_of, exprs_of, fields_of, members_of, parameters_of, specifier_list_of, suffixes_of}
use Rattle.c_ast.specs.Seen.{enumerator_seen, expr_seen, field_seen, member_seen, parameter_seen as parameter_tree, specifier_seen, suffix_seen}
use Rattle.c_symbols.specs.Scoping.{Scoping}
use Rattle.c_types.specs.declared.type_form.Member.{Member}
use Rattle.c_types.specs.Table.{AreMembersBelow, Table, type_at}
use Rattle.c_meaning.specs.CoreTrees.{CoreOf, IsIn, cores_of}
use Rattle.c_meaning.specs.Typing.{Fine, all_typed, then_do, typed_enumerators, typed_fields, typed_members, typed_parameters, typed_parts, typed_suffixes}
use Rattle.c_values.specs.declared.check_fault.CheckFault.{CheckFault}
use Rattle.c_check_expr.specs.declared.parts.NamedParameter.{NamedParameter}
use Rattle.c_check_expr.specs.declared.parts.Part.{Part}
use Rattle.c_check_expr.specs.declared.parts.Step.{Step}
use Rattle.c_check_expr.specs.declared.walk_types.EnumeratorList.{EnumeratorList}
use Rattle.c_check_expr.specs.AtNode.{Tells}
use Rattle.c_check_expr.specs.Known.{AreSymbolsIn, state_of}
use Rattle.c_check_expr.specs.PartsSeen.{AreParametersIn, ArePartsIn, AreStepsIn, IsPartIn, IsStepIn, parameter_seen, parameters_seen, part_seen, parts_seen, step_seen, steps_seen}
use Rattle.c_check_expr.specs.TypedIn.{enumerator_in, enumerators_in, expr_in, exprs_in, field_in, fields_in, member_in, members_in, parameter_in, parameters_in, part_in, parts_in, suffix_in, suffixes_in}
use Rattle.c_check_expr.specs.Walks.{AreCoresIn, IsAnyNumber, IsParameterIn, Walks, core, cores, members, next_number}
use Rattle.c_check_expr.proofs.lemmas.WalkLists.{Going, adds, each, each_is, going_ends, going_on, going_starts, going_stops, push_on, push_stops}
use Rattle.c_check_expr.proofs.WalkStays.{cores_mapped}
use Rattle.c_check_expr.proofs.WalkViews.{core_list, cores_known, enumerator_step, enumerators_typed, exprs_typed, field_step, fields_typed, member_step, members_typed, one_expr, one_parameter, one_part, one_suffix, parameters_known, parameters_typed, parts_known, parts_typed, steps_known, suffixes_typed}
use Rattle.c_check_expr.proofs.lemmas.Walking.{passed, tells_first, tells_same}

-- ---- expressions

unfoldable pub ExprsGoing : Scoping → Table → List Expr → Scoping → Table → List (CoreOf ℕ) → List Expr → Type 0
ExprsGoing r a list s t done left = Going core_list AreCoresIn (adds one_expr) (each one_expr 0 (state_of r a) list) r a s t done left

cores_ok : (r s : Scoping) (a t : Table) (list : List Expr) (x : Result (List (CoreOf ℕ)) CheckFault) → IfOk x (λ v. each one_expr 0 (state_of r a) list ≡ Fine (state_of s t) (core_list t v)) → IfOk x (λ v. all_typed (state_of r a) (exprs_of (map expr_seen list)) ≡ Fine (state_of s t) (cores t v))
cores_ok r s a t list (Ok v) h = exprs_typed (state_of r a) 0 list ∙ ap (λ o. then_do o (λ u cs. Fine u (cores_of cs))) h ∙ ap (Fine (state_of s t)) (sym (cores_mapped t v))
cores_ok r s a t list (Err e) h = tt

cores_err : (r : Scoping) (a : Table) (list : List Expr) (x : Result (List (CoreOf ℕ)) CheckFault) → IfErr x (λ e. Tells e (each one_expr 0 (state_of r a) list)) → IfErr x (λ e. Tells e (all_typed (state_of r a) (exprs_of (map expr_seen list))))
cores_err r a list (Ok v) h = tt
cores_err r a list (Err e) h = tells_same e (all_typed (state_of r a) (exprs_of (map expr_seen list))) (then_do (each one_expr 0 (state_of r a) list) (λ u cs. Fine u (cores_of cs))) (exprs_typed (state_of r a) 0 list) (tells_first e (each one_expr 0 (state_of r a) list) (λ u cs. Fine u (cores_of cs)) h)

cores_walk : (r s : Scoping) (a t : Table) (list : List Expr) (x : Result (List (CoreOf ℕ)) CheckFault) → Walks core_list AreCoresIn (each one_expr 0 (state_of r a) list) r a s t x → Walks cores AreCoresIn (exprs_in r a (exprs_of (map expr_seen list))) r a s t x
unfolding exprs_in
cores_walk r s a t list x w = record { ok = cores_ok r s a t list x w.ok; err = cores_err r a list x w.err; within = w.within; keeps = w.keeps }

pub exprs_start : (r : Scoping) (a : Table) (list : List Expr) → AreSymbolsIn (length a.forms) r.symbols → ExprsGoing r a list r a [] list
unfolding ExprsGoing
exprs_start r a list i = going_starts core_list AreCoresIn (adds one_expr) (each one_expr 0 (state_of r a) list) r a [] list i tt (each_is one_expr (state_of r a) list)

pub exprs_on : (r s u : Scoping) (a t b : Table) (list : List Expr) (done : List (CoreOf ℕ)) (v : CoreOf ℕ) (i : ℕ) (x : Expr) → i < length list → x ≡ get_or list i x → ExprsGoing r a list s t done (drop i list) → Walks core IsIn (expr_in s t (expr_seen x)) s t u b (Ok v) → ExprsGoing r a list u b (done ++ v ∷ []) (drop (i + 1) list)
unfolding ExprsGoing expr_in
exprs_on r s u a t b list done v i x l e g w = push_on core IsIn core_list AreCoresIn one_expr (each one_expr 0 (state_of r a) list) r a cores_known s u t b done v list i x l e g w

pub exprs_stop : (r s u : Scoping) (a t b : Table) (list : List Expr) (done : List (CoreOf ℕ)) (i : ℕ) (x : Expr) (f : CheckFault) (y : Result (List (CoreOf ℕ)) CheckFault) → i < length list → x ≡ get_or list i x → ExprsGoing r a list s t done (drop i list) → Walks core IsIn (expr_in s t (expr_seen x)) s t u b (Err f) → IsErrAnd y (λ d. d ≡ f)
    → Walks cores AreCoresIn (exprs_in r a (exprs_of (map expr_seen list))) r a u b y
unfolding ExprsGoing expr_in
exprs_stop r s u a t b list done i x f y l e g w h = passed y h (cores_walk r u a b list (Err f) (push_stops core IsIn core_list AreCoresIn one_expr (each one_expr 0 (state_of r a) list) r a cores_known s u t b done list i x f l e g w))

pub exprs_end : (r s : Scoping) (a t : Table) (list : List Expr) (done : List (CoreOf ℕ)) (i : ℕ) → length list ≤ i → ExprsGoing r a list s t done (drop i list) → Walks cores AreCoresIn (exprs_in r a (exprs_of (map expr_seen list))) r a s t (Ok done)
unfolding ExprsGoing
exprs_end r s a t list done i l g = cores_walk r s a t list (Ok done) (going_ends core_list AreCoresIn (adds one_expr) (each one_expr 0 (state_of r a) list) r a s t done list i l g)

-- ---- parts of specifiers

unfoldable pub PartsGoing : Scoping → Table → List Specifier → Scoping → Table → List Part → List Specifier → Type 0
PartsGoing r a list s t done left = Going parts_seen ArePartsIn (adds one_part) (typed_parts (state_of r a) (specifier_list_of (map specifier_seen list))) r a s t done left

pub parts_start : (r : Scoping) (a : Table) (list : List Specifier) → AreSymbolsIn (length a.forms) r.symbols → PartsGoing r a list r a [] list
unfolding PartsGoing
parts_start r a list i = going_starts parts_seen ArePartsIn (adds one_part) (typed_parts (state_of r a) (specifier_list_of (map specifier_seen list))) r a [] list i tt (parts_typed (state_of r a) 0 list ∙ each_is one_part (state_of r a) list)

pub parts_on : (r s u : Scoping) (a t b : Table) (list : List Specifier) (done : List Part) (v : Part) (i : ℕ) (x : Specifier) → i < length list → x ≡ get_or list i x → PartsGoing r a list s t done (drop i list) → Walks part_seen IsPartIn (part_in s t (specifier_seen x)) s t u b (Ok v) → PartsGoing r a list u b (done ++ v ∷ []) (drop (i + 1) list)
unfolding PartsGoing part_in
parts_on r s u a t b list done v i x l e g w = push_on part_seen IsPartIn parts_seen ArePartsIn one_part (typed_parts (state_of r a) (specifier_list_of (map specifier_seen list))) r a parts_known s u t b done v list i x l e g w

pub parts_stop : (r s u : Scoping) (a t b : Table) (list : List Specifier) (done : List Part) (i : ℕ) (x : Specifier) (f : CheckFault) (y : Result (List Part) CheckFault) → i < length list → x ≡ get_or list i x → PartsGoing r a list s t done (drop i list) → Walks part_seen IsPartIn (part_in s t (specifier_seen x)) s t u b (Err f) → IsErrAnd y (λ d. d ≡ f)
    → Walks parts_seen ArePartsIn (parts_in r a (specifier_list_of (map specifier_seen list))) r a u b y
unfolding PartsGoing part_in parts_in
parts_stop r s u a t b list done i x f y l e g w h = passed y h (push_stops part_seen IsPartIn parts_seen ArePartsIn one_part (typed_parts (state_of r a) (specifier_list_of (map specifier_seen list))) r a parts_known s u t b done list i x f l e g w)

pub parts_end : (r s : Scoping) (a t : Table) (list : List Specifier) (done : List Part) (i : ℕ) → length list ≤ i → PartsGoing r a list s t done (drop i list) → Walks parts_seen ArePartsIn (parts_in r a (specifier_list_of (map specifier_seen list))) r a s t (Ok done)
unfolding PartsGoing parts_in
parts_end r s a t list done i l g = going_ends parts_seen ArePartsIn (adds one_part) (typed_parts (state_of r a) (specifier_list_of (map specifier_seen list))) r a s t done list i l g

-- ---- suffixes

unfoldable pub SuffixesGoing : Scoping → Table → List Suffix → Scoping → Table → List Step → List Suffix → Type 0
SuffixesGoing r a list s t done left = Going steps_seen AreStepsIn (adds one_suffix) (typed_suffixes (state_of r a) (suffixes_of (map suffix_seen list))) r a s t done left

pub suffixes_start : (r : Scoping) (a : Table) (list : List Suffix) → AreSymbolsIn (length a.forms) r.symbols → SuffixesGoing r a list r a [] list
unfolding SuffixesGoing
suffixes_start r a list i = going_starts steps_seen AreStepsIn (adds one_suffix) (typed_suffixes (state_of r a) (suffixes_of (map suffix_seen list))) r a [] list i tt (suffixes_typed (state_of r a) 0 list ∙ each_is one_suffix (state_of r a) list)

pub suffixes_on : (r s u : Scoping) (a t b : Table) (list : List Suffix) (done : List Step) (v : Step) (i : ℕ) (x : Suffix) → i < length list → x ≡ get_or list i x → SuffixesGoing r a list s t done (drop i list) → Walks step_seen IsStepIn (suffix_in s t (suffix_seen x)) s t u b (Ok v) → SuffixesGoing r a list u b (done ++ v ∷ []) (drop (i + 1) list)
unfolding SuffixesGoing suffix_in
suffixes_on r s u a t b list done v i x l e g w = push_on step_seen IsStepIn steps_seen AreStepsIn one_suffix (typed_suffixes (state_of r a) (suffixes_of (map suffix_seen list))) r a steps_known s u t b done v list i x l e g w

pub suffixes_stop : (r s u : Scoping) (a t b : Table) (list : List Suffix) (done : List Step) (i : ℕ) (x : Suffix) (f : CheckFault) (y : Result (List Step) CheckFault) → i < length list → x ≡ get_or list i x → SuffixesGoing r a list s t done (drop i list) → Walks step_seen IsStepIn (suffix_in s t (suffix_seen x)) s t u b (Err f) → IsErrAnd y (λ d. d ≡ f)
    → Walks steps_seen AreStepsIn (suffixes_in r a (suffixes_of (map suffix_seen list))) r a u b y
unfolding SuffixesGoing suffix_in suffixes_in
suffixes_stop r s u a t b list done i x f y l e g w h = passed y h (push_stops step_seen IsStepIn steps_seen AreStepsIn one_suffix (typed_suffixes (state_of r a) (suffixes_of (map suffix_seen list))) r a steps_known s u t b done list i x f l e g w)

pub suffixes_end : (r s : Scoping) (a t : Table) (list : List Suffix) (done : List Step) (i : ℕ) → length list ≤ i → SuffixesGoing r a list s t done (drop i list) → Walks steps_seen AreStepsIn (suffixes_in r a (suffixes_of (map suffix_seen list))) r a s t (Ok done)
unfolding SuffixesGoing suffixes_in
suffixes_end r s a t list done i l g = going_ends steps_seen AreStepsIn (adds one_suffix) (typed_suffixes (state_of r a) (suffixes_of (map suffix_seen list))) r a s t done list i l g

-- ---- parameters

unfoldable pub ParametersGoing : Bool → Scoping → Table → List Parameter → Scoping → Table → List NamedParameter → List Parameter → Type 0
ParametersGoing alone r a list s t done left = Going parameters_seen AreParametersIn (adds (one_parameter alone)) (typed_parameters (state_of r a) alone 0 (parameters_of (map parameter_tree list))) r a s t done left

pub parameters_start : (alone : Bool) (r : Scoping) (a : Table) (list : List Parameter) → AreSymbolsIn (length a.forms) r.symbols → ParametersGoing alone r a list r a [] list
unfolding ParametersGoing
parameters_start alone r a list i = going_starts parameters_seen AreParametersIn (adds (one_parameter alone)) (typed_parameters (state_of r a) alone 0 (parameters_of (map parameter_tree list))) r a [] list i tt (parameters_typed alone (state_of r a) 0 list ∙ each_is (one_parameter alone) (state_of r a) list)

pub parameters_on : (alone : Bool) (r s u : Scoping) (a t b : Table) (list : List Parameter) (done : List NamedParameter) (v : NamedParameter) (i : ℕ) (x : Parameter) → i < length list → x ≡ get_or list i x → ParametersGoing alone r a list s t done (drop i list) → Walks parameter_seen IsParameterIn (parameter_in s t alone (length done) (parameter_tree x)) s t u b (Ok v) → ParametersGoing alone r a list u b (done ++ v ∷ []) (drop (i + 1) list)
unfolding ParametersGoing parameter_in
parameters_on alone r s u a t b list done v i x l e g w = push_on parameter_seen IsParameterIn parameters_seen AreParametersIn (one_parameter alone) (typed_parameters (state_of r a) alone 0 (parameters_of (map parameter_tree list))) r a parameters_known s u t b done v list i x l e g w

pub parameters_stop : (alone : Bool) (r s u : Scoping) (a t b : Table) (list : List Parameter) (done : List NamedParameter) (i : ℕ) (x : Parameter) (f : CheckFault) (y : Result (List NamedParameter) CheckFault) → i < length list → x ≡ get_or list i x → ParametersGoing alone r a list s t done (drop i list) → Walks parameter_seen IsParameterIn (parameter_in s t alone (length done) (parameter_tree x)) s t u b (Err f) → IsErrAnd y (λ d. d ≡ f)
    → Walks parameters_seen AreParametersIn (parameters_in r a alone (parameters_of (map parameter_tree list))) r a u b y
unfolding ParametersGoing parameter_in parameters_in
parameters_stop alone r s u a t b list done i x f y l e g w h = passed y h (push_stops parameter_seen IsParameterIn parameters_seen AreParametersIn (one_parameter alone) (typed_parameters (state_of r a) alone 0 (parameters_of (map parameter_tree list))) r a parameters_known s u t b done list i x f l e g w)

pub parameters_end : (alone : Bool) (r s : Scoping) (a t : Table) (list : List Parameter) (done : List NamedParameter) (i : ℕ) → length list ≤ i → ParametersGoing alone r a list s t done (drop i list) → Walks parameters_seen AreParametersIn (parameters_in r a alone (parameters_of (map parameter_tree list))) r a s t (Ok done)
unfolding ParametersGoing parameters_in
parameters_end alone r s a t list done i l g = going_ends parameters_seen AreParametersIn (adds (one_parameter alone)) (typed_parameters (state_of r a) alone 0 (parameters_of (map parameter_tree list))) r a s t done list i l g

-- ---- lines of members

unfoldable pub MembersGoing : Scoping → Table → List MemberSyntax → Scoping → Table → (List Member) → List MemberSyntax → Type 0
MembersGoing r a list s t done left = Going members AreMembersBelow (member_step) (typed_members (state_of r a) [] (members_of (map member_seen list))) r a s t done left

pub members_start : (r : Scoping) (a : Table) (list : List MemberSyntax) → AreSymbolsIn (length a.forms) r.symbols → MembersGoing r a list r a [] list
unfolding MembersGoing
members_start r a list i = going_starts members AreMembersBelow (member_step) (typed_members (state_of r a) [] (members_of (map member_seen list))) r a [] list i tt (members_typed (state_of r a) [] list)

pub members_on : (r s u : Scoping) (a t b : Table) (list : List MemberSyntax) (done v : (List Member)) (i : ℕ) (x : MemberSyntax) → i < length list → x ≡ get_or list i x → MembersGoing r a list s t done (drop i list) → Walks members AreMembersBelow (member_in s t done (member_seen x)) s t u b (Ok v) → MembersGoing r a list u b v (drop (i + 1) list)
unfolding MembersGoing member_in
members_on r s u a t b list done v i x l e g w = going_on members AreMembersBelow (member_step) (typed_members (state_of r a) [] (members_of (map member_seen list))) r a s u t b done v list i x l e g (w)

pub members_stop : (r s u : Scoping) (a t b : Table) (list : List MemberSyntax) (done : (List Member)) (i : ℕ) (x : MemberSyntax) (f : CheckFault) (y : Result (List Member) CheckFault) → i < length list → x ≡ get_or list i x → MembersGoing r a list s t done (drop i list) → Walks members AreMembersBelow (member_in s t done (member_seen x)) s t u b (Err f) → IsErrAnd y (λ d. d ≡ f)
    → Walks members AreMembersBelow (members_in r a [] (members_of (map member_seen list))) r a u b y
unfolding MembersGoing member_in members_in
members_stop r s u a t b list done i x f y l e g w h = passed y h (going_stops members AreMembersBelow (member_step) (typed_members (state_of r a) [] (members_of (map member_seen list))) r a s u t b done list i x f l e g (w))

pub members_end : (r s : Scoping) (a t : Table) (list : List MemberSyntax) (done : (List Member)) (i : ℕ) → length list ≤ i → MembersGoing r a list s t done (drop i list) → Walks members AreMembersBelow (members_in r a [] (members_of (map member_seen list))) r a s t (Ok done)
unfolding MembersGoing members_in
members_end r s a t list done i l g = going_ends members AreMembersBelow (member_step) (typed_members (state_of r a) [] (members_of (map member_seen list))) r a s t done list i l g

-- ---- members of a line

unfoldable pub FieldsGoing : List Member → ℕ → Scoping → Table → List MemberDeclarator → Scoping → Table → (List Member) → List MemberDeclarator → Type 0
FieldsGoing before base r a list s t done left = Going members AreMembersBelow (field_step (type_at a base)) (typed_fields (state_of r a) (members a before) (type_at a base) (fields_of (map field_seen list))) r a s t done left

pub fields_start : (before : List Member) (base : ℕ) (r : Scoping) (a : Table) (list : List MemberDeclarator) → AreSymbolsIn (length a.forms) r.symbols → AreMembersBelow (length a.forms) before → FieldsGoing before base r a list r a before list
unfolding FieldsGoing
fields_start before base r a list i m = going_starts members AreMembersBelow (field_step (type_at a base)) (typed_fields (state_of r a) (members a before) (type_at a base) (fields_of (map field_seen list))) r a before list i m (fields_typed (type_at a base) (state_of r a) (members a before) list)

pub fields_on : (before : List Member) (base : ℕ) (r s u : Scoping) (a t b : Table) (list : List MemberDeclarator) (done v : (List Member)) (i : ℕ) (x : MemberDeclarator) → i < length list → x ≡ get_or list i x → FieldsGoing before base r a list s t done (drop i list) → type_at t base ≡ type_at a base → Walks members AreMembersBelow (field_in s t done base (field_seen x)) s t u b (Ok v) → FieldsGoing before base r a list u b v (drop (i + 1) list)
unfolding FieldsGoing field_in
fields_on before base r s u a t b list done v i x l e g k w = going_on members AreMembersBelow (field_step (type_at a base)) (typed_fields (state_of r a) (members a before) (type_at a base) (fields_of (map field_seen list))) r a s u t b done v list i x l e g (subst (λ z. Walks members AreMembersBelow (field_step z (state_of s t) (members t done) x) s t u b (Ok v)) k w)

pub fields_stop : (before : List Member) (base : ℕ) (r s u : Scoping) (a t b : Table) (list : List MemberDeclarator) (done : (List Member)) (i : ℕ) (x : MemberDeclarator) (f : CheckFault) (y : Result (List Member) CheckFault) → i < length list → x ≡ get_or list i x → FieldsGoing before base r a list s t done (drop i list) → type_at t base ≡ type_at a base → Walks members AreMembersBelow (field_in s t done base (field_seen x)) s t u b (Err f) → IsErrAnd y (λ d. d ≡ f)
    → Walks members AreMembersBelow (fields_in r a before base (fields_of (map field_seen list))) r a u b y
unfolding FieldsGoing field_in fields_in
fields_stop before base r s u a t b list done i x f y l e g k w h = passed y h (going_stops members AreMembersBelow (field_step (type_at a base)) (typed_fields (state_of r a) (members a before) (type_at a base) (fields_of (map field_seen list))) r a s u t b done list i x f l e g (subst (λ z. Walks members AreMembersBelow (field_step z (state_of s t) (members t done) x) s t u b (Err f)) k w))

pub fields_end : (before : List Member) (base : ℕ) (r s : Scoping) (a t : Table) (list : List MemberDeclarator) (done : (List Member)) (i : ℕ) → length list ≤ i → FieldsGoing before base r a list s t done (drop i list) → Walks members AreMembersBelow (fields_in r a before base (fields_of (map field_seen list))) r a s t (Ok done)
unfolding FieldsGoing fields_in
fields_end before base r s a t list done i l g = going_ends members AreMembersBelow (field_step (type_at a base)) (typed_fields (state_of r a) (members a before) (type_at a base) (fields_of (map field_seen list))) r a s t done list i l g

-- ---- enumerators

unfoldable pub EnumeratorsGoing : Scoping → Table → List Enumerator → Scoping → Table → EnumeratorList → List Enumerator → Type 0
EnumeratorsGoing r a list s t done left = Going next_number IsAnyNumber (enumerator_step) (typed_enumerators (state_of r a) (pos 0) (enumerators_of (map enumerator_seen list))) r a s t done left

pub enumerators_start : (first : EnumeratorList) (r : Scoping) (a : Table) (list : List Enumerator) → AreSymbolsIn (length a.forms) r.symbols → first.next ≡ pos 0 → EnumeratorsGoing r a list r a first list
unfolding EnumeratorsGoing
enumerators_start first r a list i h = going_starts next_number IsAnyNumber (enumerator_step) (typed_enumerators (state_of r a) (pos 0) (enumerators_of (map enumerator_seen list))) r a first list i tt (rw h (enumerators_typed (state_of r a) (pos 0) list))

pub enumerators_on : (r s u : Scoping) (a t b : Table) (list : List Enumerator) (done v : EnumeratorList) (i : ℕ) (x : Enumerator) → i < length list → x ≡ get_or list i x → EnumeratorsGoing r a list s t done (drop i list) → Walks next_number IsAnyNumber (enumerator_in s t done.next (enumerator_seen x)) s t u b (Ok v) → EnumeratorsGoing r a list u b v (drop (i + 1) list)
unfolding EnumeratorsGoing enumerator_in
enumerators_on r s u a t b list done v i x l e g w = going_on next_number IsAnyNumber (enumerator_step) (typed_enumerators (state_of r a) (pos 0) (enumerators_of (map enumerator_seen list))) r a s u t b done v list i x l e g (w)

pub enumerators_stop : (r s u : Scoping) (a t b : Table) (list : List Enumerator) (done : EnumeratorList) (i : ℕ) (x : Enumerator) (f : CheckFault) (y : Result EnumeratorList CheckFault) → i < length list → x ≡ get_or list i x → EnumeratorsGoing r a list s t done (drop i list) → Walks next_number IsAnyNumber (enumerator_in s t done.next (enumerator_seen x)) s t u b (Err f) → IsErrAnd y (λ d. d ≡ f)
    → Walks next_number IsAnyNumber (enumerators_in r a (pos 0) (enumerators_of (map enumerator_seen list))) r a u b y
unfolding EnumeratorsGoing enumerator_in enumerators_in
enumerators_stop r s u a t b list done i x f y l e g w h = passed y h (going_stops next_number IsAnyNumber (enumerator_step) (typed_enumerators (state_of r a) (pos 0) (enumerators_of (map enumerator_seen list))) r a s u t b done list i x f l e g (w))

pub enumerators_end : (r s : Scoping) (a t : Table) (list : List Enumerator) (done : EnumeratorList) (i : ℕ) → length list ≤ i → EnumeratorsGoing r a list s t done (drop i list) → Walks next_number IsAnyNumber (enumerators_in r a (pos 0) (enumerators_of (map enumerator_seen list))) r a s t (Ok done)
unfolding EnumeratorsGoing enumerators_in
enumerators_end r s a t list done i l g = going_ends next_number IsAnyNumber (enumerator_step) (typed_enumerators (state_of r a) (pos 0) (enumerators_of (map enumerator_seen list))) r a s t done list i l g
