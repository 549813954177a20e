-- Walks over a definition's declarator: its parts, then its constraints and limits, and what is known behind it.
use Rattle.std.proofs.Common.{◌≡◌, ℕ, ◌<◌, Bool, true, false, List, length, refl, sym, ap, ◌∙◌, subst}
use Rattle.std.specs.Prelude.{Option, None, Some, Result, Ok, Err, IsErrAnd}
use Rattle.lcc_base.specs.declared.which.Which.{Which}
use Rattle.lcc_base.specs.declared.which.Which.TheVariants as which
use Rattle.c_ast.specs.Trees.{DeclaratorTree}
use Rattle.c_symbols.specs.Scoping.{Scoping, symbol_named}
use Rattle.c_types.specs.CType.{CType}
use Rattle.c_types.specs.Table.{Extends, Grows, Table, tags, type_at}
use Rattle.c_meaning.specs.Constraints.{Breaks, Fault, broken_or, passed_fault}
use Rattle.c_meaning.specs.Declarations.{Naming as NamingTrees, noted}
use Rattle.c_meaning.specs.Linkage.{with_name_of}
use Rattle.c_meaning.specs.NodeConstraints.{first_of}
use Rattle.c_meaning.specs.Nodes as node
use Rattle.c_meaning.specs.State.{State}
use Rattle.c_meaning.specs.TypeRows as rows
use Rattle.c_meaning.specs.Typing.{Bad, Fine, Outcome, then_do, unless}
use Rattle.c_meaning.specs.Typing as typing
use Rattle.c_values.specs.declared.check_fault.CheckFault.{CheckFault}
use Rattle.c_values.specs.declared.check_fault.CheckFault.TheVariants.{Constraint, Limit, Memory}
use Rattle.c_check_expr.specs.declared.parts.Declared.{Declared}
use Rattle.c_check_expr.specs.declared.parts.Specified.{Specified}
use Rattle.c_check_expr.specs.AtNode.{Tells}
use Rattle.c_check_expr.specs.Keeps.{Keeps}
use Rattle.c_check_expr.specs.Known.{AreSymbolsIn, state_of}
use Rattle.c_check_expr.specs.Kept.{below_later, keeps_grown, keeps_itself, keeps_on}
use Rattle.c_check_expr.specs.PartsSeen.{AreStepsIn, declared_seen, specified_seen, steps_seen}
use Rattle.c_check_expr.specs.StepFaults.{IsFault, steps_passed}
use Rattle.c_check_expr.specs.SymbolsStay.{state_stays}
use Rattle.c_check_expr.specs.TypedIn.{declarator_in}
use Rattle.c_check_expr.proofs.lemmas.Walking.{first_stops, passed, walk_as, walk_then}
use Rattle.c_check_expr.specs.Walks.{IsDeclaredIn, Walks}
use Rattle.c_check_decl.specs.Named.{linked, naming_in}
use Rattle.c_units.specs.Definitions.{Definition as DefinitionTrees, definition_constraints, definition_fault, definition_limit, has_many_names, or_which, own_step}
use Rattle.c_units.specs.Functions as units
use Rattle.c_units.specs.Functions.{typed_definition, with_definition}
use Rattle.c_check_function.specs.declared.definition.Definition.{Definition}
use Rattle.c_check_function.specs.FunctionsSeen.{IsDefinitionIn, defined_at, definition_in, definition_seen}
use Rattle.c_check_function.proofs.DefinitionFaults.{limit_is}
use Rattle.c_check_function.proofs.StepsStay.{steps_later, steps_stay}

-- ---- the declarator, and what follows

definition_is : (s : Scoping) (a : Table) (line : ℕ) (b : rows.Specified) (d : DeclaratorTree) → definition_in s a line b d ≡ then_do (declarator_in s a d) (λ m p. defined_at m line b p)
unfolding definition_in declarator_in
definition_is s a line b d = refl

pub definition_stops : (s u : Scoping) (a b : Table) (line : ℕ) (base : rows.Specified) (d : DeclaratorTree) (e : CheckFault) (r : Result Definition CheckFault) → IsErrAnd r (λ d. d ≡ e) → Walks declared_seen IsDeclaredIn (declarator_in s a d) s a u b (Err e)
    → Walks definition_seen IsDefinitionIn (definition_in s a line base d) s a u b r
definition_stops s u a b line base d e r h w =
    walk_as (then_do (declarator_in s a d) (λ m p. defined_at m line base p)) (definition_in s a line base d) (definition_is s a line base d) (first_stops definition_seen IsDefinitionIn (declarator_in s a d) (λ m p. defined_at m line base p) r h w)

-- the type of the specifiers stays
pub base_stays : (a b : Table) (base : Specified) → Extends a b → base.of < length a.forms → specified_seen b base ≡ specified_seen a base
base_stays a b base h l = ap (λ (t : CType). record { classes = base.classes; of = t }) (h.types_stay base.of l)

pub definition_goes : (s u z : Scoping) (a b c : Table) (line : ℕ) (base : Specified) (d : DeclaratorTree) (p : Declared) (r : Result Definition CheckFault) → base.of < length a.forms → Walks declared_seen IsDeclaredIn (declarator_in s a d) s a u b (Ok p)
    → Walks definition_seen IsDefinitionIn (defined_at (state_of u b) line (specified_seen b base) (declared_seen b p)) u b z c r → Walks definition_seen IsDefinitionIn (definition_in s a line (specified_seen a base) d) s a z c r
definition_goes s u z a b c line base d p r l w x =
    walk_as (then_do (declarator_in s a d) (λ m p. defined_at m line (specified_seen a base) p)) (definition_in s a line (specified_seen a base) d) (definition_is s a line (specified_seen a base) d)
    (walk_then definition_seen IsDefinitionIn (declarator_in s a d) (λ m p. defined_at m line (specified_seen a base) p) s u z a b c p r w
    (subst (λ (y : rows.Specified). Walks definition_seen IsDefinitionIn (defined_at (state_of u b) line y (declared_seen b p)) u b z c r) (base_stays a b base w.keeps.extends l) x))

-- ---- what is told of it

module _ (s : State) (own : ℕ) (n : DefinitionTrees) where
  fault_breaks : (k : ℕ) → first_of definition_constraints s n ≡ Some k → definition_fault s own n ≡ Some (Breaks k own)
  unfolding definition_fault
  fault_breaks k h = ap (λ o. broken_or own o (definition_limit s n)) h

  fault_passes : first_of definition_constraints s n ≡ None → definition_fault s own n ≡ passed_fault own (or_which (steps_passed s.tags n.base n.steps) (has_many_names (own_step n.steps)))
  unfolding definition_fault
  fault_passes h = ap (λ o. broken_or own o (definition_limit s n)) h ∙ ap (passed_fault own) (limit_is s n)

-- a limit that is passed is told before that on the names
told_first : (own : ℕ) (o : Option Which) (many : Bool) (e : CheckFault) → IsFault e (passed_fault own o) → IsFault e (passed_fault own (or_which o many))
told_first own (Some w) many e h = h
told_first own None many (Constraint k l) h = absurd (cc)
told_first own None many (Limit w l) h = absurd (cc)
told_first own None many Memory h = tt

pub tells_fault : {T : Type 0} (e : CheckFault) (f : Option Fault) (s : State) (t : T) → IsFault e f → Tells e (unless f s t)
tells_fault (Constraint k l) f s t h = ap (λ g. unless g s t) h
tells_fault (Limit w l) f s t h = ap (λ g. unless g s t) h
tells_fault Memory f s t h = tt

-- ---- its node

module _ (s : Scoping) (a : Table) (line : ℕ) (b : rows.Specified) (p : typing.Declared) (n : DefinitionTrees) (same : n ≡ units.definition (state_of s a) b p) (symbols : AreSymbolsIn (length a.forms) s.symbols) where
  abbrev st : State
  st = state_of s a

  at_node : defined_at st line b p ≡ unless (definition_fault st p.line n) (with_definition st line n) n
  at_node = ap (λ (x : DefinitionTrees). unless (definition_fault st p.line x) (with_definition st line x) x) (sym same)

  pub walk_broken : (k : ℕ) → first_of definition_constraints st n ≡ Some k → Walks definition_seen IsDefinitionIn (defined_at st line b p) s a s a (Err (Constraint k p.line))
  walk_broken k h = record { ok = tt; err = at_node ∙ ap (λ f. unless f (with_definition st line n) n) (fault_breaks st p.line n k h); within = tt; keeps = keeps_itself s a symbols }

  -- a fault that is told of it, when the table has grown
  walk_told : (c : Table) (e : CheckFault) (r : Result Definition CheckFault) → IsErrAnd r (λ d. d ≡ e) → Grows a c → IsFault e (definition_fault st p.line n) → Walks definition_seen IsDefinitionIn (defined_at st line b p) s a s c r
  walk_told c e r d g h =
      passed r d (record { ok = tt; err = subst (λ o. Tells e o) (sym at_node) (tells_fault e (definition_fault st p.line n) (with_definition st line n) n h); within = tt; keeps = keeps_grown s a c symbols g })

  module _ (fine : first_of definition_constraints st n ≡ None) where
    pub walk_limited : (c : Table) (e : CheckFault) (r : Result Definition CheckFault) → IsErrAnd r (λ d. d ≡ e) → Grows a c → IsFault e (passed_fault p.line (steps_passed (tags a) n.base n.steps)) → Walks definition_seen IsDefinitionIn (defined_at st line b p) s a s c r
    walk_limited c e r d g h =
        walk_told c e r d g (subst (IsFault e) (sym (fault_passes st p.line n fine)) (told_first p.line (steps_passed (tags a) n.base n.steps) (has_many_names (own_step n.steps)) e h))

    module _ (c : Table) (g : Grows a c) (small : steps_passed (tags a) n.base n.steps ≡ None) where
      fault_is : definition_fault st p.line n ≡ passed_fault p.line (or_which None (has_many_names (own_step n.steps)))
      fault_is = fault_passes st p.line n fine ∙ ap (λ o. passed_fault p.line (or_which o (has_many_names (own_step n.steps)))) small

      pub walk_many : has_many_names (own_step n.steps) ≡ true → Walks definition_seen IsDefinitionIn (defined_at st line b p) s a s c (Err (Limit which.Parameters p.line))
      walk_many h = walk_told c (Limit which.Parameters p.line) (Err (Limit which.Parameters p.line)) refl g (fault_is ∙ ap (λ m. passed_fault p.line (or_which None m)) h)

      module _ (few : has_many_names (own_step n.steps) ≡ false) where
        node_fine : defined_at st line b p ≡ Fine (with_definition st line n) n
        node_fine = at_node ∙ ap (λ f. unless f (with_definition st line n) n) (fault_is ∙ ap (λ m. passed_fault p.line (or_which None m)) few)

        -- want of memory while its name is declared
        pub walk_kept : (u : Scoping) (d : Table) → Keeps s c u d → Keeps s a u d
        walk_kept u d k = keeps_on s s u a c d (keeps_grown s a c symbols g) k

        module _ (x : Definition) (is : naming_in c x.naming ≡ n.naming) (base : type_at a x.base ≡ n.base) (steps : steps_seen a x.steps ≡ n.steps) (of_in : x.naming.of < length c.forms) (base_in : x.base < length a.forms) (steps_in : AreStepsIn (length a.forms) x.steps)
            (u z : Scoping) (d : Table) (named : state_of u d ≡ with_name_of (state_of s c) line x.naming.class (linked x.naming.linkage) x.naming.name (type_at c x.naming.of)) (defines : state_of z d ≡ noted (state_of u d) true (symbol_named u.links x.naming.name))
            (first : Keeps s c u d) (second : Keeps u d z d) where
          force : with_name_of st line n.naming.class n.naming.linkage n.naming.name n.naming.of ≡ units.with_function_name st line n
          force = subst (λ (y : DefinitionTrees). with_name_of st line y.naming.class y.naming.linkage y.naming.name y.naming.of ≡ units.with_function_name st line y) (sym same) refl

          in_force : state_of u d ≡ units.with_function_name st line n
          in_force =
              named ∙ ap (λ (y : State). with_name_of y line x.naming.class (linked x.naming.linkage) x.naming.name (type_at c x.naming.of)) (state_stays s a c g symbols)
              ∙ ap (λ (y : NamingTrees). with_name_of st line y.class y.linkage y.name y.of) is ∙ force

          state_is : state_of z d ≡ with_definition st line n
          state_is =
              defines ∙ ap (λ (y : State). noted y true (symbol_named y.links x.naming.name)) in_force
              ∙ ap (λ (y : NamingTrees). noted (units.with_function_name st line n) true (symbol_named (units.with_function_name st line n).links y.name)) is

          whole : Extends c d
          whole = first.extends

          seen_is : definition_seen d x ≡ n
          seen_is =
              ap (λ (t : CType). record { naming = record { class = x.naming.class; name = x.naming.name; of = t; linkage = linked x.naming.linkage }; base = type_at d x.base; steps = steps_seen d x.steps }) (whole.types_stay x.naming.of of_in)
              ∙ ap (λ (y : NamingTrees). record { naming = y; base = type_at d x.base; steps = steps_seen d x.steps }) is
              ∙ ap (λ (t : CType). record { naming = n.naming; base = t; steps = steps_seen d x.steps }) (whole.types_stay x.base (below_later a c g.extends x.base base_in) ∙ g.extends.types_stay x.base base_in ∙ base)
              ∙ ap (λ (ps : List node.Step). record { naming = n.naming; base = n.base; steps = ps }) (steps_stay c d whole x.steps (steps_later a c g.extends x.steps steps_in) ∙ steps_stay a c g.extends x.steps steps_in ∙ steps)

          pub walk_fine : Walks definition_seen IsDefinitionIn (defined_at st line b p) s a z d (Ok x)
          walk_fine =
              record {
                ok = node_fine ∙ ap (λ m. Fine m n) (sym state_is) ∙ ap (Fine (state_of z d)) (sym seen_is);
                err = tt;
                within =
                    record {
                      naming = below_later c d whole x.naming.of of_in;
                      base = below_later c d whole x.base (below_later a c g.extends x.base base_in);
                      steps = steps_later c d whole x.steps (steps_later a c g.extends x.steps steps_in);
                    };
                keeps = keeps_on s u z a d d (walk_kept u d first) second;
              }
