-- A typed function's names of locals are those of its own, and its locals' initialisers lie in them.
use Rattle.std.proofs.Common.{◌≡◌, ℕ, ◌≤◌, true, false, not, ◌||◌, List, [], ◌∷◌, ◌++◌, length, refl, ap, subst, ◌∙◌, inl, le_trans}
use Rattle.std.specs.Prelude.{Option, Some, None, nat_eq}
use Rattle.c_ast.specs.Levels.{FitsBlock, FitsDeclarations, is_named}
use Rattle.c_ast.specs.Trees.{SpecifiersTree, DeclaratorTree, DeclarationTree, BlockTree}
use Rattle.c_symbols.specs.Scoping.{symbol_named}
use Rattle.c_types.specs.CType.{CType}
use Rattle.c_types.specs.Layout.{Tag}
use Rattle.c_meaning.specs.Declarations.{has_other_linkage, is_again, is_inner_class}
use Rattle.c_meaning.specs.Declaring.{first_class, line_of}
use Rattle.c_meaning.specs.Each.{EachIs}
use Rattle.c_meaning.specs.Linkage.{is_outside, with_count}
use Rattle.c_meaning.specs.State.{State, left, place_here, known_at}
use Rattle.c_meaning.specs.StmtTrees.{StmtOf}
use Rattle.c_meaning.specs.TypeRows.{Specified}
use Rattle.c_meaning.specs.Types.{is_function}
use Rattle.c_meaning.specs.Units.{are_different}
use Rattle.c_tree_names.specs.Names.{AllDeclarationNames, AreNames, BlockNames, DeclaratorNames, MaybeSpecifiersNames}
use Rattle.c_typing_steps.specs.Laws.{StepLaws}
use Rattle.c_units.specs.Bodies.{Typed}
use Rattle.c_units.specs.Definitions.{Definition, names_of, own_step}
use Rattle.c_units.specs.Functions.{TypedFunction, definition, nowhere, parameter_types, reopened, scope_of, started, with_all_listed, with_definition, with_function_name, within, function_of}
use Rattle.c_units.specs.UnitsRelation.{TypesBody, TypesDefinition, TypesFunction, TypesInScope, TypesResult}
use Rattle.c_fits.specs.Growing.{Grows}
use Rattle.c_fits.specs.Sound.{IsSound}
use Rattle.c_fits.proofs.lemmas.Booleans.{or_left}
use Rattle.c_fits.proofs.lemmas.Leading.{count_leads}
use Rattle.c_unit_fits.proofs.lemmas.Defining.{all_listed_lead, definition_leads, old_declarations_lead, result_specifies}
use Rattle.c_unit_fits.proofs.lemmas.Scopes.{reopened_sound}
use Rattle.c_unit_fits.proofs.lemmas.Signatures.{definition_unbroken}
use Rattle.c_local_names.specs.Laws.{LocalsFit}
use Rattle.c_local_names.proofs.lemmas.Declaring.{HasTexts, declarator_name, others_then, outside_classes, outside_other}
use Rattle.c_local_names.proofs.lemmas.Keeping.{Adds, Counted, same_adds, then_adds, then_keeps, other_stays}
use Rattle.c_local_names.proofs.lemmas.Knowing.{Knows, adds_know, begins_itself}
use Rattle.c_local_names.proofs.lemmas.Naming.{SameOthers, links_are, name_adds, noted_adds}
use Rattle.c_local_names.proofs.lemmas.OldStyle.{InnerListed, all_list, old_declarations_list, parameters_placed}
use Rattle.c_local_names.proofs.lemmas.Parameters.{AreScopedIn, IsScope, all_scoped_stay, declarator_scoped, own_scope, step_types, own_names}
use Rattle.c_local_names.proofs.lemmas.Starting.{body_starts, outside_knows, reopened_counted, scope_knows}
use Rattle.c_local_names.proofs.lemmas.Statements.{StmtOwns, block_owns, inner_outside}
use Rattle.c_local_names.proofs.lemmas.Stepping.{steps_add}

-- ---- what a definition gives

pub record FunctionOwns (s u : State) (f : TypedFunction) : Type 0 where
  pub knows : Knows None [] u
  pub outer : u.outer ≡ s.outer
  pub fits : (tags : List Tag) → Grows u.tags tags → LocalsFit tags f.function
  pub objects : EachIs HasTexts f.body.objects

module _ (laws : StepLaws) where
  -- ---- its declarator

  result_adds : (s : State) (specs : Option SpecifiersTree) (u : State) (b : Specified) → TypesResult s specs u b → MaybeSpecifiersNames specs → Counted None s → Adds None s u × (is_inner_class b.classes ≡ false)
  result_adds s None u b h n c = (subst (Adds None s) h.0 (same_adds None s c), subst (λ (b : Specified). is_inner_class b.classes ≡ false) h.1 refl)
  result_adds s (Some specs) u b h n c =
      let f = steps_add None s h.0 (laws.specifiers s h.0 specs h.1 n h.2) c in
      (subst (Adds None s) h.3.1.0 f, outside_classes h.0 (line_of specs) h.1 b u h.3)

  definition_adds : (s : State) (line : ℕ) (b : Specified) (d : DeclaratorTree) (u : State) (n : Definition) → TypesDefinition s line b d u n → is_named d ≡ true → DeclaratorNames d → Counted None s → is_outside s ≡ true → is_inner_class b.classes ≡ false
      → Adds None s u × AreScopedIn u n.steps
  definition_adds s line b d u n h e names c out inner =
      let t = h.0 in
      let f = steps_add None s t (laws.declarators s t d h.1 names h.2) c in
      let m : Definition = definition t b h.1 in
      let name = m.naming.name in
      let again = or_left (is_again t m.naming.linkage (place_here t name)) (has_other_linkage t m.naming.linkage (symbol_named t.links name))
      (or_left (is_again t m.naming.linkage (place_here t name) || has_other_linkage t m.naming.linkage (symbol_named t.links name)) (not (are_different (names_of (own_step m.steps)))) (definition_unbroken t h.1.line m h.3.0 5)) in
      let at : is_outside t ≡ true = ap (λ ss. nat_eq (length ss) 0) f.keeps.outer ∙ out in
      let g = name_adds None t line (first_class b.classes) m.naming.linkage name m.naming.of (outside_other t b.classes name (is_function m.naming.of) at inner) again f.keeps.counted (declarator_name s d t h.1 h.2 e names) in
      let v : State = with_function_name t line m in
      let k = noted_adds None v true (symbol_named v.links name) g.0.keeps.counted (links_are None v name g.0.keeps.counted) in
      let all = then_adds None t v (with_definition t line m) g.0 k in
      let scoped = all_scoped_stay None t (with_definition t line m) h.1.steps all.keeps (declarator_scoped laws s d t h.1 h.2 names c) in
      subst (λ u. Adds None s u × AreScopedIn u n.steps) h.3.1.0 (subst (λ (n : Definition). Adds None s (with_definition t line m) × AreScopedIn (with_definition t line m) n.steps) h.3.1.1 (then_adds None s t (with_definition t line m) f all, scoped))

  -- ---- its body

  -- in the scope of its parameters
  body_owns : (s : State) (n : Definition) (body : BlockTree) (u : State) (t : Typed (StmtOf CType)) → TypesBody s n body u t → IsSound s → FitsBlock body → BlockNames body → Knows None (parameter_types s (own_step n.steps)) s
      → (outer : List (List (List ℕ × ℕ))) (inner : List (List ℕ × ℕ)) → s.outer ≡ outer ++ inner ∷ [] → (c : ℕ) × StmtOwns c (with_count s (length (parameter_types s (own_step n.steps)))) u (started (parameter_types s (own_step n.steps))) t × SameOthers s u × (length s.symbols ≤ length u.symbols) × (u.outer ≡ s.outer)
  body_owns s n body u t h z g m k outer inner e =
      let ps = parameter_types s (own_step n.steps) in
      let b = body_starts ps s k in
      let l = count_leads s (length ps) z in
      let out : is_outside (with_count s (length ps)) ≡ false = ap (λ ss. nat_eq (length ss) 0) (b.outer ∙ e) ∙ inner_outside outer inner in
      let i = block_owns laws b.counter (within n body) nowhere (with_count s (length ps)) (started ps) body u t h g m (l.sound, b.knows, out, tt) in
      (b.counter, i, others_then s (with_count s (length ps)) u b.symbols b.others i.others, le_trans b.symbols i.leads.symbols, i.outer ∙ b.outer)

  -- ---- the whole

  scope_owns : (s : State) (scope : List (List ℕ × ℕ)) (line : ℕ) (n : Definition) (olds : List DeclarationTree) (body : BlockTree) (u : State) (f : TypedFunction) → TypesInScope (reopened s scope) line n olds body u f → IsSound (reopened s scope)
      → Knows None [] s → IsScope s (step_types (own_step n.steps)) scope → AreNames (names_of (own_step n.steps)) → FitsDeclarations olds → AllDeclarationNames olds → FitsBlock body → BlockNames body → FunctionOwns s (left s.outer s.inner u) f
  scope_owns s scope line n olds body u f h z k at names fits named g m =
      let own = own_step n.steps in
      let r : State = reopened s scope in
      let v = h.0 in
      let w : State = with_all_listed v line 0 (names_of own) in
      let first : InnerListed (names_of own) (step_types own) r = (λ name id q. inl (at name id q).2) in
      let a = old_declarations_list laws (names_of own) (step_types own) r olds v h.1 h.2 fits named (reopened_counted s (step_types own) scope k.counted at) first in
      let b = all_list (names_of own) (step_types own) v line 0 (names_of own) [] refl refl (λ m e. refl) names a.keeps.counted a.listed in
      let keeps = then_keeps None r v w a.keeps b.keeps in
      let ps = parameter_types w own in
      let kw = scope_knows ps s r w k refl refl keeps (parameters_placed own w b.listed) in
      let old = old_declarations_lead r (names_of own) olds v h.1 h.2 z in
      let listed = all_listed_lead v line 0 (names_of own) old.sound in
      let t = h.3.0 in
      let x = h.3.1 in
      let y = body_owns w n body t x h.3.2 listed.sound g m kw s.outer s.inner keeps.outer in
      let i = y.1 in
      let others : SameOthers r t = others_then r w t keeps.symbols (λ id l e. other_stays (known_at r id) (known_at w id) (keeps.known id l) e) y.2 in
      let d : FunctionOwns s (left s.outer s.inner t) (function_of t n (length ps) x) =
      record {
        knows = outside_knows y.0 x.body.locals s r t k refl (le_trans keeps.symbols y.3) others i.knows (y.4 ∙ keeps.outer);
        outer = refl;
        fits = λ tags e. (let q = i.code tags x.body.locals e (begins_itself x.body.locals) in record { names = q.0; fills = q.1 });
        objects = i.objects;
      } in
      subst (λ (u : State). FunctionOwns s (left s.outer s.inner u) f) h.3.3.1.0 (subst (FunctionOwns s (left s.outer s.inner t)) h.3.3.1.1 d)

  pub function_owns : (s : State) (line : ℕ) (specs : Option SpecifiersTree) (d : DeclaratorTree) (olds : List DeclarationTree) (body : BlockTree) (u : State) (f : TypedFunction) → TypesFunction s line specs d olds body u f → IsSound s → Knows None [] s → is_outside s ≡ true
      → is_named d ≡ true → MaybeSpecifiersNames specs → DeclaratorNames d → FitsDeclarations olds → AllDeclarationNames olds → FitsBlock body → BlockNames body → FunctionOwns s u f
  function_owns s line specs d olds body u f h z k out e sn dn fits named g m =
      let a = result_adds s specs h.0 h.1 h.2 sn k.counted in
      let at : is_outside h.0 ≡ true = ap (λ ss. nat_eq (length ss) 0) a.0.keeps.outer ∙ out in
      let b = definition_adds h.0 line h.1 d h.3.0 h.3.1 h.3.2 e dn a.0.keeps.counted at a.1 in
      let both = then_adds None s h.0 h.3.0 a.0 b.0 in
      let kb = adds_know None [] s h.3.0 both k in
      let ra = result_specifies s specs h.0 h.1 h.2 z in
      let db = definition_leads h.0 line h.1 d h.3.0 h.3.1 h.3.2 ra.0.sound ra.1 in
      let scope = scope_of (own_step h.3.1.steps) in
      let y = scope_owns h.3.0 scope line h.3.1 olds body h.3.3.0 h.3.3.1 h.3.3.2 (reopened_sound h.3.0 scope db.0.sound db.1.0) kb (own_scope h.3.0 h.3.1.steps b.1) (own_names h.3.0 h.3.1.steps b.1) fits named g m in
      let all : FunctionOwns s (left h.3.0.outer h.3.0.inner h.3.3.0) h.3.3.1 = record { knows = y.knows; outer = y.outer ∙ both.keeps.outer; fits = y.fits; objects = y.objects } in
      subst (λ u. FunctionOwns s u f) h.3.3.3.0 (subst (FunctionOwns s (left h.3.0.outer h.3.0.inner h.3.3.0)) h.3.3.3.1 all)
