-- Walks over a function's definition: its specifiers, its declarator, and in their scope the parameters and the body.
use Rattle.std.proofs.Common.{◌≡◌, ◌≢◌, ℕ, List, [], ◌∷◌, ◌++◌, length, refl, sym, ap, ◌∙◌}
use Rattle.std.specs.Prelude.{Option, Some, None, Result, Ok, Err, IsErrAnd}
use Rattle.c_ast.specs.Trees.{BlockTree, DeclarationTree, DeclaratorTree, SpecifiersTree}
use Rattle.c_symbols.specs.Scoping.{Scoping}
use Rattle.c_types.specs.CType.{CType}
use Rattle.c_types.specs.Table.{Table}
use Rattle.c_meaning.specs.Constraints.{Fault}
use Rattle.c_meaning.specs.State.{State, left}
use Rattle.c_meaning.specs.TypeRows.{Specified as SpecifiedTree}
use Rattle.c_meaning.specs.Typing.{Fine, Outcome, then_do, unless}
use Rattle.c_values.specs.declared.check_fault.CheckFault.{CheckFault}
use Rattle.c_check_expr.specs.declared.parts.Specified.{Specified}
use Rattle.c_check_expr.specs.Keeps.{Keeps}
use Rattle.c_check_expr.specs.Known.{state_of}
use Rattle.c_check_expr.specs.PartsSeen.{specified_seen}
use Rattle.c_check_expr.proofs.lemmas.Walking.{both_go, first_stops, second_stops, tells_first, walk_as}
use Rattle.c_check_expr.proofs.lemmas.WalkLists.{then_same, then_then}
use Rattle.c_check_expr.specs.Walks.{IsSpecifiedIn, Walks}
use Rattle.c_check_decl.specs.Named.{naming_in}
use Rattle.c_units.specs.Definitions.{Definition as DefinitionTrees, names_of, own_step}
use Rattle.c_units.specs.Functions as units
use Rattle.c_units.specs.Functions.{TypedFunction, function_of, lost_fault, parameter_types, reopened, scope_of, typed_body, typed_definition, typed_old_declarations, typed_result, with_all_listed}
use Rattle.c_check_function.specs.declared.definition.Definition.{Definition}
use Rattle.c_check_function.specs.declared.function_definitions.Defines.{Defines}
use Rattle.c_check_function.specs.declared.function_definitions.Own.{Own}
use Rattle.c_check_function.specs.Defined.{AreDefinedIn, DefinesTrees, FunctionSyntax, defines_in, function_by, function_in, in_scope_in, made_of, typed_in_scope, with_parameters}
use Rattle.c_check_function.specs.FunctionsSeen.{IsDefinitionIn, definition_in, definition_seen, result_in}
use Rattle.c_check_function.specs.OwnParameters.{own_names, own_types}

-- ---- what a definition gives

abbrev given : State → TypedFunction → Outcome DefinesTrees
given u g = Fine u (made_of g)

unless_given : (f : Option Fault) (t : State) (g : TypedFunction) → then_do (unless f t g) given ≡ unless f t (made_of g)
unless_given (Some f) t g = refl
unless_given None t g = refl

module _ (line : ℕ) (olds : List DeclarationTree) (body : BlockTree) where
  abbrev scoped : State → DefinitionTrees → Outcome DefinesTrees
  scoped s n = typed_in_scope s line n.naming (names_of (own_step n.steps)) (λ s. parameter_types s (own_step n.steps)) olds body

  behind_olds : (s : State) (n : DefinitionTrees)
      → then_do (then_do (typed_body s n body) (λ t x. unless (lost_fault line x.body.lost) t (function_of t n (length (parameter_types s (own_step n.steps))) x))) given ≡ with_parameters line n.naming (parameter_types s (own_step n.steps)) body s
  behind_olds s n =
      then_then (typed_body s n body) (λ t x. unless (lost_fault line x.body.lost) t (function_of t n (length (parameter_types s (own_step n.steps))) x)) given
      ∙ then_same (typed_body s n body) (λ t x. then_do (unless (lost_fault line x.body.lost) t (function_of t n (length (parameter_types s (own_step n.steps))) x)) given)
      (λ t x. unless (lost_fault line x.body.lost) t (function_by t n.naming (length (parameter_types s (own_step n.steps))) x))
      (λ t x. unless_given (lost_fault line x.body.lost) t (function_of t n (length (parameter_types s (own_step n.steps))) x))

  abbrev behind_all : DefinitionTrees → State → Unit {0} → Outcome TypedFunction
  behind_all n s u =
      then_do (typed_body (with_all_listed s line 0 (names_of (own_step n.steps))) n body) (λ t x.
      unless (lost_fault line x.body.lost) t (function_of t n (length (parameter_types (with_all_listed s line 0 (names_of (own_step n.steps))) (own_step n.steps))) x))

  scoped_is : (s : State) (n : DefinitionTrees) → then_do (units.typed_in_scope s line n olds body) given ≡ scoped s n
  scoped_is s n =
      then_then (typed_old_declarations s (names_of (own_step n.steps)) olds) (behind_all n) given
      ∙ then_same (typed_old_declarations s (names_of (own_step n.steps)) olds) (λ s u. then_do (behind_all n s u) given)
      (λ s u. with_parameters line n.naming (parameter_types (with_all_listed s line 0 (names_of (own_step n.steps))) (own_step n.steps)) body (with_all_listed s line 0 (names_of (own_step n.steps))))
      (λ s u. behind_olds (with_all_listed s line 0 (names_of (own_step n.steps))) n)

  -- behind its declarator
  abbrev behind : State → DefinitionTrees → Outcome DefinesTrees
  behind u n = then_do (scoped (reopened u (scope_of (own_step n.steps))) n) (λ t g. Fine (left u.outer u.inner t) g)

  behind_is : (u : State) (n : DefinitionTrees) → then_do (then_do (units.typed_in_scope (reopened u (scope_of (own_step n.steps))) line n olds body) (λ t f. Fine (left u.outer u.inner t) f)) given ≡ behind u n
  behind_is u n =
      then_then (units.typed_in_scope (reopened u (scope_of (own_step n.steps))) line n olds body) (λ t f. Fine (left u.outer u.inner t) f) given
      ∙ sym (then_then (units.typed_in_scope (reopened u (scope_of (own_step n.steps))) line n olds body) given (λ t g. Fine (left u.outer u.inner t) g))
      ∙ ap (λ o. then_do o (λ t g. Fine (left u.outer u.inner t) g)) (scoped_is (reopened u (scope_of (own_step n.steps))) n)

  abbrev defined : DeclaratorTree → State → SpecifiedTree → Outcome DefinitionTrees
  defined d m b = typed_definition m line b d

  abbrev inner : State → DefinitionTrees → Outcome TypedFunction
  inner u n = then_do (units.typed_in_scope (reopened u (scope_of (own_step n.steps))) line n olds body) (λ t f. Fine (left u.outer u.inner t) f)

  pub function_is : (s : Scoping) (a : Table) (specs : Option SpecifiersTree) (d : DeclaratorTree) → function_in s a line (record { specifiers = specs; declarator = d; parameters = olds; body = body }) ≡ then_do (result_in s a specs) (λ m b. then_do (defined d m b) (λ u n. behind u n))
  unfolding function_in result_in
  function_is s a specs d =
      then_then (typed_result (state_of s a) specs) (λ m b. then_do (defined d m b) inner) given
      ∙ then_same (typed_result (state_of s a) specs) (λ m b. then_do (then_do (defined d m b) inner) given) (λ m b. then_do (defined d m b) behind)
      (λ m b. then_then (defined d m b) inner given ∙ then_same (defined d m b) (λ u n. then_do (inner u n) given) behind (λ u n. behind_is u n))

  -- ---- the walk up to the scope of its parameters

  module _ (s : Scoping) (a : Table) (specs : Option SpecifiersTree) (d : DeclaratorTree) where
    abbrev whole : FunctionSyntax
    whole = record { specifiers = specs; declarator = d; parameters = olds; body = body }

    pub function_stops : (u : Scoping) (c : Table) (e : CheckFault) (r : Result Defines CheckFault) → IsErrAnd r (λ x. x ≡ e) → Walks specified_seen IsSpecifiedIn (result_in s a specs) s a u c (Err e) → Walks defines_in AreDefinedIn (function_in s a line whole) s a u c r
    function_stops u c e r h w = walk_as _ _ (function_is s a specs d) (first_stops defines_in AreDefinedIn (result_in s a specs) (λ m b. then_do (defined d m b) (λ u n. behind u n)) r h w)

    module _ (m : Scoping) (t : Table) (b : Specified) (first : Walks specified_seen IsSpecifiedIn (result_in s a specs) s a m t (Ok b)) where
      pub function_stops_second : (u : Scoping) (c : Table) (e : CheckFault) (r : Result Defines CheckFault) → IsErrAnd r (λ x. x ≡ e) → Walks definition_seen IsDefinitionIn (definition_in m t line (specified_seen t b) d) m t u c (Err e) → Walks defines_in AreDefinedIn (function_in s a line whole) s a u c r
      unfolding definition_in
      function_stops_second u c e r h w = walk_as _ _ (function_is s a specs d) (second_stops defines_in AreDefinedIn (result_in s a specs) (defined d) (λ u b n. behind u n) r h first w)

      pub function_goes : (u z : Scoping) (c e : Table) (x : Definition) (r : Result Defines CheckFault) → Walks definition_seen IsDefinitionIn (definition_in m t line (specified_seen t b) d) m t u c (Ok x) → Walks defines_in AreDefinedIn (behind (state_of u c) (definition_seen c x)) u c z e r
          → Walks defines_in AreDefinedIn (function_in s a line whole) s a z e r
      unfolding definition_in
      function_goes u z c e x r w y =
          walk_as _ _ (function_is s a specs d)
          (both_go defines_in AreDefinedIn (result_in s a specs) (defined d) (λ u b n. behind u n) first w (ap (λ (of : CType). record { classes = b.classes; of = of }) (w.keeps.extends.types_stay b.of first.within)) y)

-- ---- the scope of its parameters

ends_same : {A : Type 0} (xs ys : List A) (x y : A) → xs ++ x ∷ [] ≡ ys ++ y ∷ [] → (xs ≡ ys) × (x ≡ y)
ends_same [] [] x y e = (refl, cc)
ends_same [] (b ∷ []) x y e = absurd (cc)
ends_same [] (b ∷ d ∷ ys) x y e = absurd (cc)
ends_same (a ∷ []) [] x y e = absurd (cc)
ends_same (a ∷ d ∷ xs) [] x y e = absurd (cc)
ends_same (a ∷ xs) (b ∷ ys) x y e = (let h : xs ++ x ∷ [] ≡ ys ++ y ∷ [] = cc in let k = ends_same xs ys x y h in let l : a ≡ b = cc in (rw (l, k.0) refl, k.1))

reopened_state : (u v : Scoping) (c : Table) (names : List (List ℕ × ℕ)) → v.outer ≡ u.outer ++ u.inner ∷ [] → v.inner ≡ names → v.links ≡ u.links → v.symbols ≡ u.symbols → state_of v c ≡ reopened (state_of u c) names
reopened_state u v c names o i l y = rw (o, i, l, y) refl

left_state : (u w z : Scoping) (b : Table) → z.outer ≡ u.outer → z.inner ≡ u.inner → z.links ≡ w.links → z.symbols ≡ w.symbols → state_of z b ≡ left u.outer u.inner (state_of w b)
left_state u w z b o i l y = rw (o, i, l, y) refl

-- what comes of a scope comes behind its end
left_walk : {V T : Type 0} (view : Table → V → T) (IsWithin : ℕ → V → Type 0) (u v w z : Scoping) (a b : Table) (o : Outcome T) → state_of z b ≡ left u.outer u.inner (state_of w b) → Keeps u a z b → (r : Result V CheckFault) → Walks view IsWithin o v a w b r
    → Walks view IsWithin (then_do o (λ t x. Fine (left u.outer u.inner t) x)) u a z b r
left_walk view IsWithin u v w z a b o e k (Ok x) h = record { ok = ap (λ p. then_do p (λ t x. Fine (left u.outer u.inner t) x)) h.ok ∙ ap (λ t. Fine t (view b x)) (sym e); err = tt; within = h.within; keeps = k }
left_walk view IsWithin u v w z a b o e k (Err d) h = record { ok = tt; err = tells_first d o (λ t x. Fine (left u.outer u.inner t) x) h.err; within = tt; keeps = k }

scope_same : (s : State) (line : ℕ) (n : _) (names : List (List ℕ)) (ts us : State → List CType) (olds : List DeclarationTree) (body : BlockTree) → ((s : State) → ts s ≡ us s) → typed_in_scope s line n names ts olds body ≡ typed_in_scope s line n names us olds body
scope_same s line n names ts us olds body h =
    then_same (typed_old_declarations s names olds) (λ s u. with_parameters line n (ts (with_all_listed s line 0 names)) body (with_all_listed s line 0 names)) (λ s u. with_parameters line n (us (with_all_listed s line 0 names)) body (with_all_listed s line 0 names))
    (λ s u. ap (λ x. with_parameters line n x body (with_all_listed s line 0 names)) (h (with_all_listed s line 0 names)))

module _ (line : ℕ) (olds : List DeclarationTree) (body : BlockTree) (u v w z : Scoping) (c b : Table) (x : Definition) (own : Own) (names : List (List ℕ × ℕ))
    (scope : names ≡ scope_of (own_step (definition_seen c x).steps)) (listed : own_names own.parameters ≡ names_of (own_step (definition_seen c x).steps)) (types : (s : State) → own_types s c own.parameters ≡ parameter_types s (own_step (definition_seen c x).steps)) (naming : own.naming ≡ x.naming)
    (o : v.outer ≡ u.outer ++ u.inner ∷ []) (i : v.inner ≡ names) (l : v.links ≡ u.links) (k : v.symbols ≡ u.symbols) (scopes : w.outer ≡ z.outer ++ z.inner ∷ []) (links : z.links ≡ w.links) (symbols : z.symbols ≡ w.symbols) where
  abbrev n : DefinitionTrees
  n = definition_seen c x

  inside_is : in_scope_in v c line own olds body ≡ scoped line olds body (reopened (state_of u c) (scope_of (own_step n.steps))) n
  unfolding in_scope_in
  inside_is =
      ap (λ s. typed_in_scope s line (naming_in c own.naming) (own_names own.parameters) (λ s. own_types s c own.parameters) olds body) (reopened_state u v c (scope_of (own_step n.steps)) o (i ∙ scope) l k)
      ∙ ap (λ y. typed_in_scope (reopened (state_of u c) (scope_of (own_step n.steps))) line (naming_in c y) (own_names own.parameters) (λ s. own_types s c own.parameters) olds body) naming
      ∙ ap (λ y. typed_in_scope (reopened (state_of u c) (scope_of (own_step n.steps))) line n.naming y (λ s. own_types s c own.parameters) olds body) listed
      ∙ scope_same (reopened (state_of u c) (scope_of (own_step n.steps))) line n.naming (names_of (own_step n.steps)) (λ s. own_types s c own.parameters) (λ s. parameter_types s (own_step n.steps)) olds body types

  closed : Keeps v c w b → (z.outer ≡ u.outer) × (z.inner ≡ u.inner)
  closed h = ends_same z.outer u.outer z.inner u.inner (sym scopes ∙ h.outer ∙ o)

  kept : Keeps v c w b → Keeps u c z b
  kept h = record { outer = (closed h).0; extends = h.extends; symbols = rw symbols h.symbols }

  pub scope_goes : (r : Result Defines CheckFault) → Walks defines_in AreDefinedIn (in_scope_in v c line own olds body) v c w b r → Walks defines_in AreDefinedIn (behind line olds body (state_of u c) n) u c z b r
  scope_goes r h =
      let e = closed h.keeps in
      left_walk defines_in AreDefinedIn u v w z c b (scoped line olds body (reopened (state_of u c) (scope_of (own_step n.steps))) n) (left_state u w z b e.0 e.1 links symbols) (kept h.keeps) r
      (walk_as _ _ (sym inside_is) h)

-- a scope that was opened has others around it
pub is_more : {A : Type 0} (xs ys : List A) (x : A) → ys ≡ xs ++ x ∷ [] → ys ≢ []
is_more [] ys x e n = absurd (cc)
is_more (y ∷ xs) ys x e n = absurd (cc)
