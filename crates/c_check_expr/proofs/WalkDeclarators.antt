-- Walks over declarators, their suffixes and prototypes, fields and enumerators.
use Rattle.std.proofs.Common.{◌≡◌, ℕ, ◌<◌, Bool, Option, None, List, [], ◌∷◌, ◌++◌, length, map, refl, sym, ap, ◌∙◌, subst}
use Rattle.std.specs.Prelude.{Result, Ok, Err, IfOk, IfErr, IsErrAnd, reverse}
use Rattle.std.proofs.lemmas.List.{reverse-append}
use Rattle.c_ast.specs.declared.specifier.Qualifier.{Qualifier}
use Rattle.c_ast.specs.declared.expr.Declarator.{Declarator as DeclaratorSyntax, out-Declarator}
use Rattle.c_ast.specs.declared.expr.DeclaratorCore.{DeclaratorCore}
use Rattle.c_ast.specs.declared.expr.Parameter.{Parameter as ParameterSyntax, out-Parameter}
use Rattle.c_ast.specs.declared.expr.Suffix.{Suffix, out-Suffix}
use Rattle.c_ast.specs.declared.expr.SuffixForm.{SuffixForm}
use Rattle.c_ast.specs.Trees.{ADeclarator, CoreTree as CoreSyntax, DeclaratorTree, MaybeExpr, NoDeclarator, SuffixTree, ParameterTrees}
use Rattle.c_ast.specs.Trees as tree
use Rattle.c_ast.specs.Views.{suffixes_of}
use Rattle.c_ast.specs.Seen.{core_seen, declarator_seen, maybe_declarator_seen, parameter_seen as parameter_tree, specifiers_seen, suffix_form_seen, suffix_seen}
use Rattle.c_ast.proofs.lemmas.SeenTypes.{declarator_parts, parameter_parts, suffix_parts}
use Rattle.c_symbols.specs.Scoping.{Scoping}
use Rattle.c_types.specs.CType.{CType}
use Rattle.c_types.specs.Table.{Grows, Table, type_at}
use Rattle.c_meaning.specs.CoreTrees.{CoreOf}
use Rattle.c_meaning.specs.Nodes.{Typing}
use Rattle.c_meaning.specs.Nodes as node
use Rattle.c_meaning.specs.State.{State}
use Rattle.c_meaning.specs.TypeRows.{adjusted, formed, pointer_steps, with_parameter}
use Rattle.c_meaning.specs.TypeRows as rows
use Rattle.c_meaning.specs.Typing.{Outcome, Fine, at, declared, maybe_typed, shaped, then_do, typed_core, typed_declarator, typed_parameter_shape, typed_specifiers, typed_suffix, typed_suffixes}
use Rattle.c_meaning.specs.Typing as typing
use Rattle.c_values.specs.declared.check_fault.CheckFault.{CheckFault}
use Rattle.c_check_expr.specs.declared.parts.Declared.{Declared as DeclaredValue}
use Rattle.c_check_expr.specs.declared.parts.NamedParameter.{NamedParameter}
use Rattle.c_check_expr.specs.declared.parts.Shaped.{Shaped as ShapedValue}
use Rattle.c_check_expr.specs.declared.parts.Specified.{Specified as SpecifiedValue}
use Rattle.c_check_expr.specs.declared.parts.Step.{Step}
use Rattle.c_check_expr.specs.declared.parts.Step.TheVariants as step
use Rattle.c_check_expr.specs.declared.parameters.ParameterSpot.{ParameterSpot}
use Rattle.c_check_expr.specs.AtNode.{Tells}
use Rattle.c_check_expr.specs.Keeps.{Keeps}
use Rattle.c_check_expr.specs.Known.{AreSymbolsIn, state_of}
use Rattle.c_check_expr.specs.ParameterNode.{parameter_at}
use Rattle.c_check_expr.specs.PartsSeen.{AreStepsIn, IsSizeIn, IsStepIn, declared_seen, parameter_seen, shaped_seen, size_seen, specified_seen, step_seen, steps_seen}
use Rattle.c_check_expr.specs.TypedIn.{core_in, declarator_in, maybe_expr_in, parameter_in, parameter_shape_in, specifiers_in, suffix_in, suffixes_in}
use Rattle.c_check_expr.specs.Walks.{IsDeclaredIn, IsParameterIn, IsShapeIn, IsSpecifiedIn, Walks}
use Rattle.c_values.specs.Stays.{extends_itself}
use Rattle.c_check_expr.specs.Kept.{keeps_grown}
use Rattle.c_check_expr.proofs.WalkStays.{steps_append, steps_in_append, steps_later, steps_stay}
use Rattle.c_check_expr.proofs.lemmas.Walking.{both_go, first_stops, second_stops, walk_none, walk_then}

-- ---- declarators

abbrev ended : ℕ → List (List Qualifier) → State → typing.Declared → List node.Step → Outcome typing.Declared
ended line pointers m inner outer = Fine m (declared line (pointer_steps pointers) inner outer)

pub declarator_stops : {s u : Scoping} {a b : Table} {e : CheckFault} (d : DeclaratorSyntax) (r : Result DeclaredValue CheckFault) → IsErrAnd r (λ x. x ≡ e) → Walks declared_seen IsDeclaredIn (core_in s a (core_seen (out-Declarator d).core)) s a u b (Err e) → Walks declared_seen IsDeclaredIn (declarator_in s a (declarator_seen d)) s a u b r
unfolding declarator_in core_in
declarator_stops {s = s} {a = a} d r h w =
    rw (declarator_parts d) (first_stops declared_seen IsDeclaredIn (typed_core (state_of s a) (core_seen (out-Declarator d).core)) (λ m inner. then_do (typed_suffixes m (suffixes_of (map suffix_seen (out-Declarator d).suffixes))) (λ u outer. ended (out-Declarator d).line (out-Declarator d).pointers u inner outer)) r h w)

pub declarator_stops_second : {s m u : Scoping} {a b c : Table} {v : DeclaredValue} {e : CheckFault} (d : DeclaratorSyntax) (r : Result DeclaredValue CheckFault) → IsErrAnd r (λ x. x ≡ e) → Walks declared_seen IsDeclaredIn (core_in s a (core_seen (out-Declarator d).core)) s a m b (Ok v)
    → Walks steps_seen AreStepsIn (suffixes_in m b (suffixes_of (map suffix_seen (out-Declarator d).suffixes))) m b u c (Err e) → Walks declared_seen IsDeclaredIn (declarator_in s a (declarator_seen d)) s a u c r
unfolding declarator_in core_in suffixes_in
declarator_stops_second {s = s} {a = a} d r h w k =
    rw (declarator_parts d) (second_stops declared_seen IsDeclaredIn (typed_core (state_of s a) (core_seen (out-Declarator d).core)) (λ m inner. typed_suffixes m (suffixes_of (map suffix_seen (out-Declarator d).suffixes))) (λ u inner outer. ended (out-Declarator d).line (out-Declarator d).pointers u inner outer) r h w k)

reversed_in : (n : ℕ) (ps : List Step) → AreStepsIn n ps → AreStepsIn n (reverse ps)
reversed_in n [] i = tt
reversed_in n (p ∷ ps) i = subst (λ qs. AreStepsIn n qs) (sym (reverse-append (p ∷ []) ps)) (steps_in_append n (reverse ps) (p ∷ []) (reversed_in n ps i.1) (i.0, tt))

reversed_seen : (t : Table) (ps : List Step) → steps_seen t (reverse ps) ≡ reverse (steps_seen t ps)
reversed_seen t [] = refl
reversed_seen t (p ∷ ps) =
    ap (steps_seen t) (reverse-append (p ∷ []) ps)
    ∙ steps_append t (reverse ps) (p ∷ [])
    ∙ ap (λ qs. qs ++ step_seen t p ∷ []) (reversed_seen t ps)
    ∙ sym (reverse-append (step_seen t p ∷ []) (steps_seen t ps))

-- all steps, from the pointers to the core's
pub declarator_goes : {s m u : Scoping} {a b c : Table} {v : DeclaredValue} {vs : List Step} (d : DeclaratorSyntax) (pointers all : List Step) → Walks declared_seen IsDeclaredIn (core_in s a (core_seen (out-Declarator d).core)) s a m b (Ok v)
    → Walks steps_seen AreStepsIn (suffixes_in m b (suffixes_of (map suffix_seen (out-Declarator d).suffixes))) m b u c (Ok vs)
    → ((t : Table) → steps_seen t pointers ≡ pointer_steps (out-Declarator d).pointers) → ((n : ℕ) → AreStepsIn n pointers) → all ≡ (pointers ++ reverse vs) ++ v.steps
    → Walks declared_seen IsDeclaredIn (declarator_in s a (declarator_seen d)) s a u c (Ok (record { line = (out-Declarator d).line; name = v.name; steps = all }))
unfolding declarator_in core_in suffixes_in
declarator_goes {s = s} {u = u} {a = a} {b = b} {c = c} {v = v} {vs = vs} d pointers all w k p q e =
    rw (declarator_parts d) (both_go declared_seen IsDeclaredIn (typed_core (state_of s a) (core_seen (out-Declarator d).core)) (λ m inner. typed_suffixes m (suffixes_of (map suffix_seen (out-Declarator d).suffixes))) (λ u inner outer. ended (out-Declarator d).line (out-Declarator d).pointers u inner outer) w k
    (rw (steps_stay b c k.keeps.extends v.steps w.within) refl)
    (record {
      ok = rw (e, steps_append, steps_append, p c, reversed_seen c vs) refl;
      err = tt;
      within = rw e (steps_in_append (length c.forms) (pointers ++ reverse vs) v.steps (steps_in_append (length c.forms) pointers (reverse vs) (q (length c.forms)) (reversed_in (length c.forms) vs k.within)) (steps_later b c k.keeps.extends v.steps w.within));
      keeps = record { outer = refl; extends = extends_itself c; symbols = k.keeps.symbols };
    }))

-- ---- cores

pub core_goes : (s : Scoping) (a : Table) (x : CoreSyntax) (n : Option (List ℕ)) → typed_core (state_of s a) x ≡ Fine (state_of s a) (record { line = 0; name = n; steps = [] }) → AreSymbolsIn (length a.forms) s.symbols → Walks declared_seen IsDeclaredIn (core_in s a x) s a s a (Ok (record { line = 0; name = n; steps = [] }))
unfolding core_in
core_goes s a x n e i = rw e (walk_none declared_seen IsDeclaredIn s a (record { line = 0; name = n; steps = [] }) i tt)

pub core_inner : {s u : Scoping} {a b : Table} {r : Result DeclaredValue CheckFault} (d : DeclaratorTree) → Walks declared_seen IsDeclaredIn (declarator_in s a d) s a u b r → Walks declared_seen IsDeclaredIn (core_in s a (tree.Inner d)) s a u b r
unfolding core_in declarator_in
core_inner d w = w

pub core_as : {s u : Scoping} {a b : Table} {r : Result DeclaredValue CheckFault} (c d : DeclaratorCore) (x : CoreSyntax) → c ≡ d → core_seen d ≡ x → Walks declared_seen IsDeclaredIn (core_in s a x) s a u b r → Walks declared_seen IsDeclaredIn (core_in s a (core_seen c)) s a u b r
core_as {s = s} {u = u} {a = a} {b = b} {r = r} c d x h k w = subst (λ y. Walks declared_seen IsDeclaredIn (core_in s a y) s a u b r) (sym (ap core_seen h ∙ k)) w

-- ---- suffixes

pub suffix_as : {s u : Scoping} {a b : Table} {r : Result Step CheckFault} (e : Suffix) (f : SuffixForm) (x : SuffixTree) → (out-Suffix e).form ≡ f → suffix_form_seen f (out-Suffix e).line ≡ x
    → Walks step_seen IsStepIn (suffix_in s a x) s a u b r → Walks step_seen IsStepIn (suffix_in s a (suffix_seen e)) s a u b r
suffix_as {s = s} {u = u} {a = a} {b = b} {r = r} e f x h k w =
    subst (λ y. Walks step_seen IsStepIn (suffix_in s a y) s a u b r) (sym (suffix_parts e ∙ ap (λ g. suffix_form_seen g (out-Suffix e).line) h ∙ k)) w

pub suffix_plain : (s : Scoping) (a : Table) (x : SuffixTree) (p : Step) → typed_suffix (state_of s a) x ≡ Fine (state_of s a) (step_seen a p) → AreSymbolsIn (length a.forms) s.symbols → IsStepIn (length a.forms) p → Walks step_seen IsStepIn (suffix_in s a x) s a s a (Ok p)
unfolding suffix_in
suffix_plain s a x p e i w = rw e (walk_none step_seen IsStepIn s a p i w)

pub array_stops : {s u : Scoping} {a b : Table} {e : CheckFault} (line : ℕ) (x : MaybeExpr) (r : Result Step CheckFault) → IsErrAnd r (λ d. d ≡ e) → Walks size_seen IsSizeIn (maybe_expr_in s a x) s a u b (Err e) → Walks step_seen IsStepIn (suffix_in s a (tree.ArraySuffix line x)) s a u b r
unfolding suffix_in maybe_expr_in
array_stops {s = s} {a = a} line x r h w = first_stops step_seen IsStepIn (maybe_typed (state_of s a) x) (λ m c. Fine m (node.ToArray c)) r h w

pub array_goes : {s u : Scoping} {a b : Table} {v : Option (CoreOf ℕ)} (line : ℕ) (x : MaybeExpr) → Walks size_seen IsSizeIn (maybe_expr_in s a x) s a u b (Ok v) → Walks step_seen IsStepIn (suffix_in s a (tree.ArraySuffix line x)) s a u b (Ok (step.Array v))
unfolding suffix_in maybe_expr_in
array_goes {s = s} {u = u} {a = a} {b = b} {v = v} line x w = walk_then step_seen IsStepIn (maybe_typed (state_of s a) x) (λ m c. Fine m (node.ToArray c)) s u u a b b v (Ok (step.Array v)) w (walk_none step_seen IsStepIn u b (step.Array v) w.keeps.symbols w.within)

-- the line of a prototype says nothing
pub prototype_line : {s u : Scoping} {a b : Table} {r : Result Step CheckFault} (line : ℕ) (ps : ParameterTrees) (more : Bool) → Walks step_seen IsStepIn (suffix_in s a (tree.Prototype 0 ps more)) s a u b r → Walks step_seen IsStepIn (suffix_in s a (tree.Prototype line ps more)) s a u b r
unfolding suffix_in
prototype_line line ps more w = w

-- ---- parameters

abbrev specified_of : SpecifiedValue → CType → rows.Specified
specified_of b t = record { classes = b.classes; of = t }

abbrev at_parameter : CType → State → typing.Declared → Outcome typing.Shaped
at_parameter t m p = at m p.line (Typing (node.ParameterDeclarator p.name t p.steps)) m (shaped p.name (formed t p.steps))

pub parameter_none : (s : Scoping) (a : Table) (base : ℕ) → AreSymbolsIn (length a.forms) s.symbols → base < length a.forms → Walks shaped_seen IsShapeIn (parameter_shape_in s a base NoDeclarator) s a s a (Ok (record { name = None; of = base }))
unfolding parameter_shape_in
parameter_none s a base i l = walk_none shaped_seen IsShapeIn s a (record { name = None; of = base }) i l

pub parameter_shape_stops : {s u : Scoping} {a b : Table} {e : CheckFault} (base : ℕ) (d : DeclaratorTree) (r : Result ShapedValue CheckFault) → IsErrAnd r (λ x. x ≡ e) → Walks declared_seen IsDeclaredIn (declarator_in s a d) s a u b (Err e) → Walks shaped_seen IsShapeIn (parameter_shape_in s a base (ADeclarator d)) s a u b r
unfolding parameter_shape_in declarator_in
parameter_shape_stops {s = s} {a = a} base d r h w = first_stops shaped_seen IsShapeIn (typed_declarator (state_of s a) d) (λ m p. at_parameter (type_at a base) m p) r h w

pub parameter_shape_goes : {s u : Scoping} {a b c : Table} {v : DeclaredValue} (base : ℕ) (d : DeclaratorTree) (r : Result ShapedValue CheckFault) → base < length a.forms → Walks declared_seen IsDeclaredIn (declarator_in s a d) s a u b (Ok v)
    → IfOk r (λ p. at_parameter (type_at b base) (state_of u b) (declared_seen b v) ≡ Fine (state_of u c) (shaped_seen c p)) → IfErr r (λ e. Tells e (at_parameter (type_at b base) (state_of u b) (declared_seen b v))) → IfOk r (λ p. p.of < length c.forms) → Grows b c
    → Walks shaped_seen IsShapeIn (parameter_shape_in s a base (ADeclarator d)) s a u c r
unfolding parameter_shape_in declarator_in
parameter_shape_goes {s = s} {u = u} {a = a} {b = b} {c = c} {v = v} base d r l w ok err within g =
    walk_then shaped_seen IsShapeIn (typed_declarator (state_of s a) d) (λ m p. at_parameter (type_at a base) m p) s u u a b c v r w
    (subst (λ t. Walks shaped_seen IsShapeIn (at_parameter t (state_of u b) (declared_seen b v)) u b u c r) (w.keeps.extends.types_stay base l)
    (record { ok = ok; err = err; within = within; keeps = keeps_grown u b c w.keeps.symbols g }))

abbrev named : ℕ → ℕ → Bool → State → rows.Specified → typing.Shaped → Outcome node.NamedParameter
named line index alone m b p = at m line (Typing (node.Parameter b.classes p.name p.of alone)) (with_parameter m line index b.classes p.name (adjusted p.of)) (record { name = p.name; of = adjusted p.of })

pub parameter_stops : {s u : Scoping} {a b : Table} {e : CheckFault} (alone : Bool) (index : ℕ) (p : ParameterSyntax) (r : Result NamedParameter CheckFault) → IsErrAnd r (λ x. x ≡ e) → Walks specified_seen IsSpecifiedIn (specifiers_in s a (specifiers_seen (out-Parameter p).specifiers)) s a u b (Err e) → Walks parameter_seen IsParameterIn (parameter_in s a alone index (parameter_tree p)) s a u b r
unfolding parameter_in specifiers_in
parameter_stops {s = s} {a = a} alone index p r h w =
    rw (parameter_parts p) (first_stops parameter_seen IsParameterIn (typed_specifiers (state_of s a) (specifiers_seen (out-Parameter p).specifiers)) (λ m b. then_do (typed_parameter_shape m b.of (maybe_declarator_seen (out-Parameter p).declarator)) (λ u q. named (out-Parameter p).line index alone u b q)) r h w)

pub parameter_stops_second : {s m u : Scoping} {a b c : Table} {v : SpecifiedValue} {e : CheckFault} (alone : Bool) (index : ℕ) (p : ParameterSyntax) (r : Result NamedParameter CheckFault) → IsErrAnd r (λ x. x ≡ e) → Walks specified_seen IsSpecifiedIn (specifiers_in s a (specifiers_seen (out-Parameter p).specifiers)) s a m b (Ok v)
    → Walks shaped_seen IsShapeIn (parameter_shape_in m b v.of (maybe_declarator_seen (out-Parameter p).declarator)) m b u c (Err e) → Walks parameter_seen IsParameterIn (parameter_in s a alone index (parameter_tree p)) s a u c r
unfolding parameter_in specifiers_in parameter_shape_in
parameter_stops_second {s = s} {a = a} alone index p r h w k =
    rw (parameter_parts p) (second_stops parameter_seen IsParameterIn (typed_specifiers (state_of s a) (specifiers_seen (out-Parameter p).specifiers)) (λ m b. typed_parameter_shape m b.of (maybe_declarator_seen (out-Parameter p).declarator)) (λ u b q. named (out-Parameter p).line index alone u b q) r h w k)

pub parameter_goes : {s m u z : Scoping} {a b c d : Table} {v : SpecifiedValue} {q : ShapedValue} (spot : ParameterSpot) (p : ParameterSyntax) (r : Result NamedParameter CheckFault) → spot.line ≡ (out-Parameter p).line → Walks specified_seen IsSpecifiedIn (specifiers_in s a (specifiers_seen (out-Parameter p).specifiers)) s a m b (Ok v)
    → Walks shaped_seen IsShapeIn (parameter_shape_in m b v.of (maybe_declarator_seen (out-Parameter p).declarator)) m b u c (Ok q)
    → IfOk r (λ n. parameter_at (state_of u c) spot v.classes q.name (type_at c q.of) ≡ Fine (state_of z d) (parameter_seen d n)) → IfErr r (λ e. Tells e (parameter_at (state_of u c) spot v.classes q.name (type_at c q.of))) → IfOk r (λ n. n.of < length d.forms) → Keeps u c z d
    → Walks parameter_seen IsParameterIn (parameter_in s a spot.alone spot.index (parameter_tree p)) s a z d r
unfolding parameter_in specifiers_in parameter_shape_in
parameter_goes {s = s} {u = u} {z = z} {a = a} {b = b} {c = c} {d = d} {v = v} {q = q} spot p r l w k ok err within g =
    rw (parameter_parts p, sym l) (both_go parameter_seen IsParameterIn (typed_specifiers (state_of s a) (specifiers_seen (out-Parameter p).specifiers)) (λ m b. typed_parameter_shape m b.of (maybe_declarator_seen (out-Parameter p).declarator)) (λ u b q. named spot.line spot.index spot.alone u b q) w k
    (ap (λ t. specified_of v t) (k.keeps.extends.types_stay v.of w.within))
    (record { ok = ok; err = err; within = within; keeps = g }))
