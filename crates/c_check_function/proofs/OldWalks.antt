-- Walks over an old-style parameter: its declarator, then its constraints and limits, and its name in force.
use Rattle.std.proofs.Common.{◌≡◌, ℕ, ◌<◌, List, length, refl, sym, ap, ◌∙◌, subst}
use Rattle.std.specs.Prelude.{None, Some, Result, Ok, Err, IsErrAnd, is_some}
use Rattle.c_ast.specs.declared.statement.InitDeclarator.{InitDeclarator}
use Rattle.c_ast.specs.Seen.{declarator_seen}
use Rattle.c_ast.specs.SeenUnits.{boxed_initialiser_seen, init_seen}
use Rattle.c_ast.proofs.lemmas.SeenNodes.{init_parts}
use Rattle.c_ast.specs.UnitViews.{option_of}
use Rattle.c_symbols.specs.Scoping.{Scoping}
use Rattle.c_types.specs.CType.{CType}
use Rattle.c_types.specs.Table.{Grows, Table, tags}
use Rattle.c_meaning.specs.Constraints.{Breaks, broken_or, passed_fault}
use Rattle.c_meaning.specs.NodeConstraints.{first_of}
use Rattle.c_meaning.specs.State.{State}
use Rattle.c_meaning.specs.TypeRows.{adjusted, formed, with_parameter}
use Rattle.c_meaning.specs.TypeRows as rows
use Rattle.c_meaning.specs.Typing.{Bad, Fine, Outcome, then_do, unless}
use Rattle.c_meaning.specs.Typing as typing
use Rattle.c_values.specs.declared.check_fault.CheckFault.{CheckFault}
use Rattle.c_values.specs.declared.check_fault.CheckFault.TheVariants.{Constraint}
use Rattle.c_check_expr.specs.declared.parts.Declared.{Declared}
use Rattle.c_check_expr.specs.declared.parts.Specified.{Specified}
use Rattle.c_check_expr.specs.Keeps.{Keeps}
use Rattle.c_check_expr.specs.Known.{AreSymbolsIn, state_of}
use Rattle.c_check_expr.specs.Kept.{keeps_grown, keeps_itself, keeps_on}
use Rattle.c_check_expr.specs.PartsSeen.{declared_seen, specified_seen}
use Rattle.c_check_expr.specs.StepFaults.{IsFault}
use Rattle.c_check_expr.specs.SymbolsStay.{state_stays}
use Rattle.c_check_expr.specs.TypedIn.{declarator_in}
use Rattle.c_check_expr.proofs.lemmas.Walking.{first_stops, passed, walk_as, walk_then}
use Rattle.c_check_expr.specs.Walks.{IsDeclaredIn, Walks}
use Rattle.c_units.specs.Definitions.{OldParameter as OldTrees, parameter_constraints, parameter_fault}
use Rattle.c_units.specs.Functions.{old_parameter, with_old}
use Rattle.c_check_function.specs.FunctionsSeen.{no_types, no_value, old_at, old_in}
use Rattle.c_check_function.specs.OldParameters.{old_passed}
use Rattle.c_check_function.proofs.DefinitionWalks.{base_stays, tells_fault}

-- ---- the declarator, and what follows

some_seen : (i : InitDeclarator) → is_some (option_of boxed_initialiser_seen i.initialiser) ≡ is_some i.initialiser
some_seen i = by i.initialiser
  where
    by : (o : _) → is_some (option_of boxed_initialiser_seen o) ≡ is_some o
    by None = refl
    by (Some x) = refl

module _ (s : Scoping) (a : Table) (line : ℕ) (names : List (List ℕ)) (b : rows.Specified) (i : InitDeclarator) where
  abbrev behind : State → typing.Declared → Outcome (Unit {0})
  behind m p = old_at m line p.line (old_parameter names b p (is_some i.initialiser))

  old_is : old_in s a line names b (init_seen i) ≡ then_do (declarator_in s a (declarator_seen i.declarator)) behind
  unfolding old_in declarator_in
  old_is =
      ap (λ t. old_in s a line names b t) (init_parts i)
      ∙ ap (λ x. then_do (declarator_in s a (declarator_seen i.declarator)) (λ (m : State) (p : typing.Declared). old_at m line p.line (old_parameter names b p x))) (some_seen i)

  pub old_stops : (u : Scoping) (c : Table) (e : CheckFault) (r : Result (Unit {0}) CheckFault) → IsErrAnd r (λ d. d ≡ e) → Walks declared_seen IsDeclaredIn (declarator_in s a (declarator_seen i.declarator)) s a u c (Err e)
      → Walks no_value no_types (old_in s a line names b (init_seen i)) s a u c r
  old_stops u c e r h w = walk_as _ _ old_is (first_stops no_value no_types (declarator_in s a (declarator_seen i.declarator)) behind r h w)

pub old_goes : (s u z : Scoping) (a b c : Table) (line : ℕ) (names : List (List ℕ)) (base : Specified) (i : InitDeclarator) (p : Declared) (n : OldTrees) (r : Result (Unit {0}) CheckFault) → base.of < length a.forms
    → Walks declared_seen IsDeclaredIn (declarator_in s a (declarator_seen i.declarator)) s a u b (Ok p) → n ≡ old_parameter names (specified_seen b base) (declared_seen b p) (is_some i.initialiser)
    → Walks no_value no_types (old_at (state_of u b) line p.line n) u b z c r → Walks no_value no_types (old_in s a line names (specified_seen a base) (init_seen i)) s a z c r
old_goes s u z a b c line names base i p n r l w e x =
    walk_as _ _ (old_is s a line names (specified_seen a base) i)
    (walk_then no_value no_types (declarator_in s a (declarator_seen i.declarator)) (behind s a line names (specified_seen a base) i) s u z a b c p r w
    (subst (λ (y : OldTrees). Walks no_value no_types (old_at (state_of u b) line p.line y) u b z c r)
    (e ∙ ap (λ (y : rows.Specified). old_parameter names y (declared_seen b p) (is_some i.initialiser)) (base_stays a b base w.keeps.extends l)) x))

-- ---- its node

module _ (s : Scoping) (a : Table) (line own : ℕ) (n : OldTrees) (symbols : AreSymbolsIn (length a.forms) s.symbols) where
  abbrev st : State
  st = state_of s a

  fault_breaks : (k : ℕ) → first_of parameter_constraints st n ≡ Some k → parameter_fault st own n ≡ Some (Breaks k own)
  unfolding parameter_fault
  fault_breaks k h = ap (λ o. broken_or own o (old_passed (tags a) n.base n.steps)) h

  fault_passes : first_of parameter_constraints st n ≡ None → parameter_fault st own n ≡ passed_fault own (old_passed (tags a) n.base n.steps)
  unfolding parameter_fault
  fault_passes h = ap (λ o. broken_or own o (old_passed (tags a) n.base n.steps)) h

  pub old_breaks : (k : ℕ) → first_of parameter_constraints st n ≡ Some k → Walks no_value no_types (old_at st line own n) s a s a (Err (Constraint k own))
  old_breaks k h = record { ok = tt; err = ap (λ f. unless f (with_old st line n) tt) (fault_breaks k h); within = tt; keeps = keeps_itself s a symbols }

  module _ (fine : first_of parameter_constraints st n ≡ None) (c : Table) (g : Grows a c) where
    pub old_passes : (e : CheckFault) (r : Result (Unit {0}) CheckFault) → IsErrAnd r (λ d. d ≡ e) → IsFault e (passed_fault own (old_passed (tags a) n.base n.steps)) → Walks no_value no_types (old_at st line own n) s a s c r
    old_passes e r d h =
        passed r d (record { ok = tt; err = tells_fault e (parameter_fault st own n) (with_old st line n) tt (subst (IsFault e) (sym (fault_passes fine)) h); within = tt; keeps = keeps_grown s a c symbols g })

    pub old_kept : (u : Scoping) → Keeps s c u c → Keeps s a u c
    old_kept u k = keeps_on s s u a c c (keeps_grown s a c symbols g) k

    pub old_fine : (u : Scoping) (place : ℕ) (of : CType) → old_passed (tags a) n.base n.steps ≡ None → of ≡ adjusted (formed n.base n.steps) → state_of u c ≡ with_parameter (state_of s c) line place n.classes (Some n.name) of
        → with_parameter st line place n.classes (Some n.name) (adjusted (formed n.base n.steps)) ≡ with_old st line n → Keeps s c u c → Walks no_value no_types (old_at st line own n) s a u c (Ok tt)
    old_fine u place of small is h e k =
        record {
          ok =
              ap (λ f. unless f (with_old st line n) tt) (fault_passes fine ∙ ap (passed_fault own) small)
              ∙ ap (λ (y : State). Fine y tt) (sym (h ∙ ap (λ (y : State). with_parameter y line place n.classes (Some n.name) of) (state_stays s a c g symbols) ∙ ap (with_parameter st line place n.classes (Some n.name)) is ∙ e));
          err = tt;
          within = tt;
          keeps = old_kept u k;
        }
