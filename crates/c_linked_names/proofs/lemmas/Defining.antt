-- What definitions of functions make of what is known: the function's symbol is defined once, and its body's names stand for what
-- their symbols do.
use Rattle.std.proofs.Common.{◌≡◌, ◌⊎◌, ℕ, suc, ◌+◌, ◌≤◌, Bool, true, false, not, ◌||◌, List, [], ◌∷◌, ◌++◌, length, reverse, refl, sym, ap, subst, ◌∙◌, inl, inr, arith}
use Rattle.std.specs.Prelude.{◌==◌, Option, Some, None, is_some, nat_eq, if◌then◌else◌}
use Rattle.std.proofs.lemmas.List.{reverse-append}
use Rattle.c_ast.specs.declared.specifier.Qualifier.{Qualifier}
use Rattle.c_ast.specs.declared.specifier.Storage.{Storage as StorageClass}
use Rattle.c_ast.specs.declared.specifier.Storage.TheVariants as class
use Rattle.c_ast.specs.Levels.{FitsBlock, FitsDeclaration, FitsDeclarations, FitsInits, is_named}
use Rattle.c_ast.specs.Trees.{SpecifiersTree, DeclaratorTree, Declarator, CoreTree, Named, Inner, Omitted, SuffixTree, ArraySuffix, Prototype, NameList, NoParameters, SuffixTrees, NoSuffixes, Suffixes, InitTree, DeclarationTree, BlockTree}
use Rattle.c_symbols.specs.Scoping.{symbol_named}
use Rattle.c_types.specs.CType.{CType, Int, basic}
use Rattle.c_meaning.specs.Declarations.{Outside, has_other_linkage, is_again, is_inner_class, is_typedef, noted, or_zero}
use Rattle.c_meaning.specs.Declaring.{first_class, line_of}
use Rattle.c_meaning.specs.Each.{EachIs}
use Rattle.c_meaning.specs.Linkage.{Linkage, Alone, Internal, External, is_linked, linkage, linkage_at, or_external, with_count}
use Rattle.c_meaning.specs.Nodes.{Step, ToPointer, ToArray, ToFunction, ToNamed, ToOpen}
use Rattle.c_meaning.specs.State.{State, entered, known_at, left, place_here, place_of}
use Rattle.c_meaning.specs.TypeRows.{Specified, adjusted, formed, formed_by, pointer_steps}
use Rattle.c_meaning.specs.Types.{is_function}
use Rattle.c_meaning.specs.Typing.{Declared, stands_alone}
use Rattle.c_meaning.specs.TypingRelation.{TypesCore, TypesDeclarator, TypesSuffix, TypesSuffixes}
use Rattle.c_meaning.specs.Units.{are_different}
use Rattle.c_tree_names.specs.Names.{AllDeclarationNames, AllInitNames, AllSuffixNames, AreNames, BlockNames, CoreNames, DeclarationNames, DeclaratorNames, InitNames, IsName, MaybeSpecifiersNames, SuffixNames}
use Rattle.c_typing_steps.specs.Laws.{StepLaws}
use Rattle.c_typing_steps.specs.Names.{EachNameIn}
use Rattle.c_typing_steps.proofs.lemmas.Walk.{core_steps, parameters_steps, suffix_steps, suffixes_steps}
use Rattle.c_units.specs.Definitions.{Definition, OldParameter, definition_constraints, definition_fault, definition_limit, is_definition_step, names_of, own_step}
use Rattle.c_units.specs.Ends.{is_link}
use Rattle.c_units.specs.Externals.{Parts, no_parts}
use Rattle.c_units.specs.Functions.{TypedFunction, definition, function_of, nowhere, old_parameter, parameter_types, reopened, scope_of, started, with_all_listed, with_definition, with_function_name, with_listed, with_old, within}
use Rattle.c_units.specs.UnitsRelation.{TypesDefinition, TypesFunction, TypesInScope, TypesOld, TypesOldDeclaration, TypesOldDeclarations, TypesOlds, TypesResult}
use Rattle.c_fits.proofs.lemmas.DeclaredFits.{each_join}
use Rattle.c_fits.proofs.lemmas.Booleans.{never, not_false, or_left}
use Rattle.c_fits.proofs.lemmas.Constraints.{decl_unbroken, test_in, unbroken_on}
use Rattle.c_fits.proofs.lemmas.Lists.{some_id}
use Rattle.c_linked_names.proofs.lemmas.Absorbing.{Absorbs, TypeLaws, absorbed_function}
use Rattle.c_linked_names.proofs.lemmas.Declaring.{declarator_named, known_before}
use Rattle.c_linked_names.proofs.lemmas.Going.{Goes, IfKnown, IfMeant, Meant, defined_at, function_still, goes_then, meant_keeps, steady_defined, steady_goes}
use Rattle.c_linked_names.proofs.lemmas.Keeping.{IsEntry, IsRegular, Keeps, Steady, alike_keeps, alike_regular, keeps_then, link_below, link_class, scope_keeps, steady_itself, steady_then}
use Rattle.c_linked_names.proofs.lemmas.Lists.{each_map, named_link, one_if}
use Rattle.c_linked_names.proofs.lemmas.Naming.{NameGoes, name_goes, with_count_steady}
use Rattle.c_linked_names.proofs.lemmas.Statements.{block_goes, goes_from, goes_scoped, of_body}
use Rattle.c_linked_names.proofs.lemmas.Stepping.{entered_regular, inside_steady, left_regular, parameter_steady, steps_steady}
use Rattle.c_linked_names.proofs.lemmas.Wholes.{Notes, noting_notes}

-- ---- the steps of a declarator: the names of a prototype's scope, and of a list

abbrev pub StepIs : State → Step → Type 0
StepIs s (ToFunction ps more scope) = EachIs (IsEntry s) scope
StepIs s (ToNamed names) = AreNames names
StepIs s p = Unit {0}

step_keeps : (s u : State) → Keeps s u → (p : Step) → StepIs s p → StepIs u p
step_keeps s u k (ToFunction ps more scope) h = scope_keeps s u k scope h
step_keeps s u k (ToNamed names) h = h
step_keeps s u k (ToPointer q) h = tt
step_keeps s u k (ToArray size) h = tt
step_keeps s u k ToOpen h = tt

steps_keep : (s u : State) → Keeps s u → (ps : List Step) → EachIs (StepIs s) ps → EachIs (StepIs u) ps
steps_keep s u k ps h = each_map (StepIs s) (StepIs u) (step_keeps s u k) ps h

each_reverse : (s : State) (ps : List Step) → EachIs (StepIs s) ps → EachIs (StepIs s) (reverse ps)
each_reverse s [] h = tt
each_reverse s (p ∷ ps) h = subst (EachIs (StepIs s)) (sym (reverse-append (p ∷ []) ps)) (each_join (StepIs s) (reverse ps) (p ∷ []) (each_reverse s ps h.1) (h.0, tt))

each_pointer : (s : State) (qs : List (List Qualifier)) → EachIs (StepIs s) (pointer_steps qs)
each_pointer s [] = tt
each_pointer s (q ∷ qs) = (tt, each_pointer s qs)

-- the function's own step
abbrev pub OwnIs : State → Option Step → Type 0
OwnIs s (Some p) = StepIs s p
OwnIs s None = Unit {0}

own_is : (s : State) (ps : List Step) → EachIs (StepIs s) ps → OwnIs s (own_step ps)
own_is s [] h = tt
own_is s (p ∷ []) h = h.0
own_is s (p ∷ q ∷ ps) h = own_is s (q ∷ ps) h.1

own_scope : (s : State) (o : Option Step) → OwnIs s o → EachIs (IsEntry s) (scope_of o)
own_scope s (Some (ToFunction ps more scope)) h = h
own_scope s (Some (ToNamed names)) h = tt
own_scope s (Some (ToPointer q)) h = tt
own_scope s (Some (ToArray size)) h = tt
own_scope s (Some ToOpen) h = tt
own_scope s None h = tt

own_names : (s : State) (o : Option Step) → OwnIs s o → AreNames (names_of o)
own_names s (Some (ToFunction ps more scope)) h = tt
own_names s (Some (ToNamed names)) h = h
own_names s (Some (ToPointer q)) h = tt
own_names s (Some (ToArray size)) h = tt
own_names s (Some ToOpen) h = tt
own_names s None h = tt

own_keeps : (s u : State) → Keeps s u → (o : Option Step) → OwnIs s o → OwnIs u o
own_keeps s u k (Some p) h = step_keeps s u k p h
own_keeps s u k None h = tt

-- the type that it forms
own_function : (ps : List Step) (t : CType) → is_definition_step (own_step ps) ≡ true → is_function (formed t ps) ≡ true
own_function [] t h = never (sym h)
own_function (ToFunction qs more scope ∷ []) t h = refl
own_function (ToNamed names ∷ []) t h = refl
own_function (ToOpen ∷ []) t h = refl
own_function (ToPointer q ∷ []) t h = never (sym h)
own_function (ToArray size ∷ []) t h = never (sym h)
own_function (p ∷ q ∷ ps) t h = own_function (q ∷ ps) (formed_by p t) h

definition_unbroken : (s : State) (line : ℕ) (n : Definition) → definition_fault s line n ≡ None → (number : ℕ) → test_in definition_constraints number s n ≡ false
unfolding definition_fault
definition_unbroken s line n h number = unbroken_on definition_constraints s line n (definition_limit s n) h number

-- ---- its linkage

abbrev pub is_inner : Option StorageClass → Bool
is_inner (Some class.Auto) = true
is_inner (Some class.Register) = true
is_inner c = false

or_external_linked : (l : Linkage) → is_linked (or_external l) ≡ true
or_external_linked Alone = refl
or_external_linked Internal = refl
or_external_linked External = refl

-- a function's name has linkage at file scope
definition_linked : (s : State) (c : Option StorageClass) (name : List ℕ) → s.outer ≡ [] → is_typedef c ≡ false → is_inner c ≡ false → is_linked (linkage s c name true) ≡ true
definition_linked s (Some class.Extern) name o t i = or_external_linked (linkage_at s (place_of s name))
definition_linked s None name o t i = or_external_linked (linkage_at s (place_of s name))
definition_linked s (Some class.Static) name o t i = ap (λ (ss : List (List (List ℕ × ℕ))). is_linked (if nat_eq (length ss) 0 then Internal else Alone)) o
definition_linked s (Some class.Typedef) name o t i = never t
definition_linked s (Some class.Auto) name o t i = never i
definition_linked s (Some class.Register) name o t i = never i

first_inner : (cs : List StorageClass) → is_inner_class cs ≡ false → is_inner (first_class cs) ≡ false
first_inner [] h = refl
first_inner (class.Auto ∷ cs) h = never h
first_inner (class.Register ∷ cs) h = never h
first_inner (class.Extern ∷ cs) h = refl
first_inner (class.Static ∷ cs) h = refl
first_inner (class.Typedef ∷ cs) h = refl

-- ---- what a definition's declarator makes of what is known

pub record DefinitionGoes (s u : State) (n : Definition) : Type 0 where
  pub goes : Goes s u no_parts
  pub outer : u.outer ≡ s.outer
  pub symbol : ℕ
  pub named : symbol_named u.links n.naming.name ≡ Some symbol
  pub meant : Meant u symbol n.naming.of
  pub once : (id : ℕ) → IfKnown u id → one_if (symbol == id) + defined_at s id ≤ defined_at u id
  pub own : OwnIs u (own_step n.steps)

-- a listed parameter
listed_steady : (s : State) (line place : ℕ) (name : List ℕ) (o : Option ℕ) → IsName name → IsRegular s → Steady s (with_listed s line place name o)
listed_steady s line place name (Some id) n k = steady_itself s k
listed_steady s line place name None n k = parameter_steady s line place [] (Some name) (basic Int) n k

all_listed_steady : (s : State) (line place : ℕ) (names : List (List ℕ)) → AreNames names → IsRegular s → Steady s (with_all_listed s line place names)
all_listed_steady s line place [] n k = steady_itself s k
all_listed_steady s line place (x ∷ xs) n k =
    let t : State = with_listed s line place x (place_here s x) in
    let f = listed_steady s line place x (place_here s x) n.0 k in
    steady_then s t (with_all_listed t line (suc place) xs) f (all_listed_steady t line (suc place) xs n.1 f.regular)

module _ (types : TypeLaws) (laws : StepLaws) where
  suffix_is : (s : State) (x : SuffixTree) (u : State) (p : Step) → TypesSuffix s x u p → SuffixNames x → IsRegular s → StepIs u p
  suffix_is s (ArraySuffix l size) u p h n k = subst (StepIs u) h.3.1 tt
  suffix_is s (NameList l names) u p h n k = subst (StepIs u) h.1 n
  suffix_is s (NoParameters l) u p h n k = subst (StepIs u) h.1 tt
  suffix_is s (Prototype l ps more) u p h n k =
      let f = inside_steady types (parameters_steps (entered s) (stands_alone ps more) 0 ps h.0 h.1 n h.2) (entered_regular s k) in
      let v : State = left s.outer s.inner h.0 in
      subst (StepIs u) h.3.1 (subst (λ (u : State). EachIs (IsEntry u) h.0.inner) h.3.0 (scope_keeps h.0 v (alike_keeps h.0 v refl refl) h.0.inner f.regular.inner))

  suffixes_are : (s : State) (xs : SuffixTrees) (u : State) (ps : List Step) → TypesSuffixes s xs u ps → AllSuffixNames xs → IsRegular s → EachIs (StepIs u) ps
  suffixes_are s NoSuffixes u ps h n k = subst (EachIs (StepIs u)) h.1 tt
  suffixes_are s (Suffixes x xs) u ps h n k =
      let f = steps_steady types (suffix_steps s x h.0 h.1 n.0 h.2) k in
      let g = steps_steady types (suffixes_steps h.0 xs h.3.0 h.3.1 n.1 h.3.2) f.regular in
      subst (EachIs (StepIs u)) h.3.3.1
      (subst (λ (u : State). EachIs (StepIs u) (h.1 ∷ h.3.1)) h.3.3.0 (step_keeps h.0 h.3.0 g.keeps h.1 (suffix_is s x h.0 h.1 h.2 n.0 k), suffixes_are h.0 xs h.3.0 h.3.1 h.3.2 n.1 f.regular))

  mutual
    declarator_is : (s : State) (d : DeclaratorTree) (u : State) (p : Declared) → TypesDeclarator s d u p → DeclaratorNames d → IsRegular s → EachIs (StepIs u) p.steps
    declarator_is s (Declarator l pointers core xs) u p h n k =
        let f = steps_steady types (core_steps s core h.0 h.1 n.0 h.2) k in
        let g = steps_steady types (suffixes_steps h.0 xs h.3.0 h.3.1 n.1 h.3.2) f.regular in
        let inner = steps_keep h.0 h.3.0 g.keeps h.1.steps (core_is s core h.0 h.1 h.2 n.0 k) in
        let outer = each_reverse h.3.0 h.3.1 (suffixes_are h.0 xs h.3.0 h.3.1 h.3.2 n.1 f.regular) in
        subst (λ (p : Declared). EachIs (StepIs u) p.steps) h.3.3.1
        (subst (λ (u : State). EachIs (StepIs u) (pointer_steps pointers ++ reverse h.3.1 ++ h.1.steps)) h.3.3.0
        (each_join (StepIs h.3.0) (pointer_steps pointers ++ reverse h.3.1) h.1.steps (each_join (StepIs h.3.0) (pointer_steps pointers) (reverse h.3.1) (each_pointer h.3.0 pointers) outer) inner))

    core_is : (s : State) (c : CoreTree) (u : State) (p : Declared) → TypesCore s c u p → CoreNames c → IsRegular s → EachIs (StepIs u) p.steps
    core_is s (Named x) u p h n k = subst (λ (p : Declared). EachIs (StepIs u) p.steps) h.1 tt
    core_is s (Inner d) u p h n k = declarator_is s d u p h n k
    core_is s Omitted u p h n k = subst (λ (p : Declared). EachIs (StepIs u) p.steps) h.1 tt

  -- the result's specifiers
  result_steady : (s : State) (specs : Option SpecifiersTree) (u : State) (b : Specified) → TypesResult s specs u b → MaybeSpecifiersNames specs → IsRegular s → Steady s u × (is_inner (first_class b.classes) ≡ false)
  result_steady s None u b h n k = subst (λ u. Steady s u × (is_inner (first_class b.classes) ≡ false)) h.0 (subst (λ (b : Specified). Steady s s × (is_inner (first_class b.classes) ≡ false)) h.1 (steady_itself s k, refl))
  result_steady s (Some specs) u b h n k =
      let f = steps_steady types (laws.specifiers s h.0 specs h.1 n h.2) k in
      subst (λ u. Steady s u × (is_inner (first_class b.classes) ≡ false)) h.3.1.0
      (subst (λ (b : Specified). Steady s h.0 × (is_inner (first_class b.classes) ≡ false)) h.3.1.1 (f, first_inner h.1.classes (decl_unbroken h.0 (line_of specs) (Outside h.1.classes) h.3.0 3)))

  -- the function's name is declared, and noted as defined
  noted_goes : (s t v : State) (m : Definition) (j : ℕ) → IsRegular s → Steady s t → NameGoes t v m.naming.name m.naming.linkage m.naming.of → is_function m.naming.of ≡ true → symbol_named v.links m.naming.name ≡ Some j → Absorbs (known_at v j).of m.naming.of → defined_at v j ≡ 0 → OwnIs t (own_step m.steps)
      → DefinitionGoes s (noted v true (Some j)) m
  noted_goes s t v m j k f g function named a z own =
      record {
        goes =
            record {
              regular = w.regular;
              keeps = keeps_then s t u f.keeps behind;
              once = λ id q. let x = before id q in let r = w.more id in omega (arith, x, r);
              new = λ id q. by id q (g.new id q);
              functions = tt;
              objects = tt;
              linked = tt;
            };
        outer = w.outer ∙ (g.outer ∙ f.outer);
        symbol = j;
        named = named;
        meant = meant;
        once = λ id q. let x = before id q in let r = w.once refl z id in omega (arith, x, r);
        own = own_keeps t u behind (own_step m.steps) own;
      }
    where
      u : State
      u = noted v true (Some j)

      is : is_link v.links j ≡ true
      is = named_link v.links m.naming.name j named

      w : Notes v u j true
      w = noting_notes v j true g.regular is

      behind : Keeps t u
      behind = keeps_then t v u g.keeps w.keeps

      meant : Meant u j m.naming.of
      meant = meant_keeps v u w.keeps j m.naming.of (record { below = link_below v j g.regular is; class = link_class v j g.regular is; absorbed = a })

      before : (id : ℕ) → IfKnown u id → defined_at s id ≤ defined_at v id
      before id q =
          let x = steady_defined s t k f id (known_before t u behind id q) in
          let y = g.once id (known_before v u w.keeps id q) in
          omega (arith, x, y)

      this : is_function (known_at u j).of ≡ true
      this = absorbed_function types (known_at u j).of m.naming.of meant.absorbed ∙ function

      old : (id : ℕ) → is_link t.links id ≡ true → (is_link s.links id ≡ true) ⊎ (is_function (known_at t id).of ≡ true) → (is_link s.links id ≡ true) ⊎ ((is_function (known_at u id).of ≡ true) ⊎ ⊥)
      old id q (inl p) = inl p
      old id q (inr p) = inr (inl (function_still types t u behind id (link_below t id f.regular q) (link_class t id f.regular q) p))

      by : (id : ℕ) → is_link v.links id ≡ true → (is_link t.links id ≡ true) ⊎ ((is_function (known_at v id).of ≡ true) ⊎ ((is_linked m.naming.linkage ≡ true) × (symbol_named v.links m.naming.name ≡ Some id))) → (is_link s.links id ≡ true) ⊎ ((is_function (known_at u id).of ≡ true) ⊎ ⊥)
      by id q (inl p) = old id p (f.new id p)
      by id q (inr (inl p)) = inr (inl (function_still types v u w.keeps id (link_below v id g.regular q) (link_class v id g.regular q) p))
      by id q (inr (inr p)) = inr (inl (subst (λ i. is_function (known_at u i).of ≡ true) (some_id j id (sym named ∙ p.1)) this))

  definition_goes : (s : State) (line : ℕ) (b : Specified) (d : DeclaratorTree) (u : State) (n : Definition) → TypesDefinition s line b d u n → IsRegular s → s.outer ≡ [] → is_inner (first_class b.classes) ≡ false → DeclaratorNames d → is_named d ≡ true → DefinitionGoes s u n
  definition_goes s line b d u n h k o i x e =
      let f = steps_steady types (laws.declarators s h.0 d h.1 x h.2) k in
      let m : Definition = definition h.0 b h.1 in
      let name = m.naming.name in
      let is = declarator_named s d h.0 h.1 h.2 x e in
      let broken = definition_unbroken h.0 h.1.line m h.3.0 in
      let function : is_function m.naming.of ≡ true = own_function h.1.steps b.of (not_false (is_definition_step (own_step m.steps)) (broken 18)) in
      let linked : is_linked m.naming.linkage ≡ true = ap (λ q. is_linked (linkage h.0 (first_class b.classes) name q)) function ∙ definition_linked h.0 (first_class b.classes) name (f.outer ∙ o) (broken 3) i in
      let again =
      or_left (is_again h.0 m.naming.linkage (place_here h.0 name)) (has_other_linkage h.0 m.naming.linkage (symbol_named h.0.links name))
      (or_left (is_again h.0 m.naming.linkage (place_here h.0 name) || has_other_linkage h.0 m.naming.linkage (symbol_named h.0.links name)) (not (are_different (names_of (own_step m.steps)))) (broken 5)) in
      let g = name_goes types h.0 line m.naming.class m.naming.linkage name m.naming.of f.regular is again (broken 6) in
      let own = own_is h.0 h.1.steps (declarator_is s d h.0 h.1 h.2 x k) in
      subst (λ u. DefinitionGoes s u n) h.3.1.0
      (subst (DefinitionGoes s (with_definition h.0 line m)) h.3.1.1 (
      let v : State = with_function_name h.0 line m in
      let q = g.linked linked in
      subst (λ p. DefinitionGoes s (noted v true p) m) (sym q.1) (noted_goes s h.0 v m q.0 k f g function q.1 q.3 (q.4 (broken 7)) own)
      ))

  -- ---- old-style parameters

  old_steady : (s : State) (line : ℕ) (names : List (List ℕ)) (b : Specified) (i : InitTree) (u : State) (x : Unit {0}) → TypesOld s line names b i u x → InitNames i → is_named i.declarator ≡ true → IsRegular s → Steady s u
  old_steady s line names b i u x h n e k =
      let f = steps_steady types (laws.declarators s h.0 i.declarator h.1 n.0 h.2) k in
      let p : OldParameter = old_parameter names b h.1 (is_some i.initialiser) in
      let g = parameter_steady h.0 line (or_zero p.place) p.classes (Some p.name) (adjusted (formed p.base p.steps)) (declarator_named s i.declarator h.0 h.1 h.2 n.0 e) f.regular in
      subst (Steady s) h.3.1.0 (steady_then s h.0 (with_old h.0 line p) f g)

  olds_steady : (s : State) (line : ℕ) (names : List (List ℕ)) (b : Specified) (is : List InitTree) (u : State) (x : Unit {0}) → TypesOlds s line names b is u x → AllInitNames is → FitsInits is → IsRegular s → Steady s u
  olds_steady s line names b [] u x h n e k = subst (Steady s) h.0 (steady_itself s k)
  olds_steady s line names b (i ∷ is) u x h n e k =
      let f = old_steady s line names b i h.0 h.1 h.2 n.0 e.0.0 k in
      steady_then s h.0 u f (olds_steady h.0 line names b is u x h.3 n.1 e.1 f.regular)

  old_declaration_steady : (s : State) (names : List (List ℕ)) (d : DeclarationTree) (u : State) (x : Unit {0}) → TypesOldDeclaration s names d u x → DeclarationNames d → FitsDeclaration d → IsRegular s → Steady s u
  old_declaration_steady s names d u x h n e k =
      let f = steps_steady types (laws.inside s h.0 d.specifiers d.declarators h.1 n.0 h.2) k in
      let g = olds_steady h.0 d.line names h.1 d.declarators h.3.0 h.3.1 h.3.2 n.1 e.1 f.regular in
      subst (Steady s) h.3.3.1.0 (steady_then s h.0 h.3.0 f g)

  old_declarations_steady : (s : State) (names : List (List ℕ)) (ds : List DeclarationTree) (u : State) (x : Unit {0}) → TypesOldDeclarations s names ds u x → AllDeclarationNames ds → FitsDeclarations ds → IsRegular s → Steady s u
  old_declarations_steady s names [] u x h n e k = subst (Steady s) h.0 (steady_itself s k)
  old_declarations_steady s names (d ∷ ds) u x h n e k =
      let f = old_declaration_steady s names d h.0 h.1 h.2 n.0 e.0 k in
      steady_then s h.0 u f (old_declarations_steady h.0 names ds u x h.3 n.1 e.1 f.regular)

  -- ---- the body, and the whole

  -- what the body adds to the function's own symbol
  function_adds : (s u t : State) (n : Definition) (f : TypedFunction) → DefinitionGoes s u n → Goes u t (of_body f.body) → f.function.symbol ≡ or_zero (symbol_named t.links n.naming.name) → f.function.function.of ≡ n.naming.of → f.function.function.name ≡ n.naming.name → EachNameIn (IfMeant t) f.function.function.body
      → Goes s t (record { functions = f.function ∷ []; objects = f.body.objects; linked = f.body.linked })
  function_adds s u t n f d b e of name code =
      let all = goes_then types s u t no_parts (of_body f.body) d.goes b in
      let named : symbol_named t.links n.naming.name ≡ Some d.symbol = b.keeps.named n.naming.name d.symbol d.named in
      let symbol : f.function.symbol ≡ d.symbol = e ∙ ap or_zero named in
      record {
        regular = all.regular;
        keeps = all.keeps;
        once = λ id q.
            let x = subst (λ i. one_if (i == id) + defined_at s id ≤ defined_at u id) (sym symbol) (d.once id (known_before u t b.keeps id q)) in
            let y = b.once id q in
            omega (arith, x, y);
        new = all.new;
        functions = (
          record {
            meant = subst (λ i. Meant t i f.function.function.of) (sym symbol) (subst (Meant t d.symbol) (sym of) (meant_keeps u t b.keeps d.symbol n.naming.of d.meant));
            named = ap (symbol_named t.links) name ∙ (named ∙ ap Some (sym symbol));
            body = code;
          },
          tt,
        );
        objects = all.objects;
        linked = all.linked;
      }

  -- what a function that is defined adds
  abbrev FunctionGoes : State → State → TypedFunction → Type 0
  FunctionGoes s t f = Goes s t (record { functions = f.function ∷ []; objects = f.body.objects; linked = f.body.linked })

  scope_goes : (s u : State) (line : ℕ) (n : Definition) (olds : List DeclarationTree) (body : BlockTree) (t : State) (f : TypedFunction) → DefinitionGoes s u n → TypesInScope (reopened u (scope_of (own_step n.steps))) line n olds body t f → AllDeclarationNames olds → FitsDeclarations olds → BlockNames body → FitsBlock body
      → FunctionGoes s t f × Keeps u t
  scope_goes s u line n olds body t f d h x e y g =
      let scope = scope_of (own_step n.steps) in
      let o : State = reopened u scope in
      let k : IsRegular o = alike_regular u o refl refl d.goes.regular (each_join (EachIs (IsEntry u)) u.outer (u.inner ∷ []) d.goes.regular.outer (d.goes.regular.inner, tt)) (own_scope u (own_step n.steps) d.own) in
      let a = old_declarations_steady o (names_of (own_step n.steps)) olds h.0 h.1 h.2 x e k in
      let v : State = with_all_listed h.0 line 0 (names_of (own_step n.steps)) in
      let b = all_listed_steady h.0 line 0 (names_of (own_step n.steps)) (own_names u (own_step n.steps) d.own) a.regular in
      let ps = parameter_types v (own_step n.steps) in
      let c = with_count_steady v (length ps) b.regular in
      let w : State = with_count v (length ps) in
      let all = steady_then o h.0 w a (steady_then h.0 v w b c) in
      let i = block_goes types laws o (within n body) nowhere w (started ps) body h.3.0 h.3.1 h.3.2 y g (steady_goes types o w k all) in
      let z = goes_from u h.3.0 (u.outer ++ u.inner ∷ []) scope (of_body h.3.1.body) i.goes in
      let r : TypedFunction = function_of h.3.0 n (length ps) h.3.1 in
      subst (λ t. FunctionGoes s t f × Keeps u t) h.3.3.1.0
      (subst (λ f. FunctionGoes s h.3.0 f × Keeps u h.3.0) h.3.3.1.1 (function_adds s u h.3.0 n r d z refl refl refl i.code, z.keeps))

  pub function_goes : (s : State) (line : ℕ) (specs : Option SpecifiersTree) (d : DeclaratorTree) (olds : List DeclarationTree) (body : BlockTree) (u : State) (f : TypedFunction) → TypesFunction s line specs d olds body u f → IsRegular s → s.outer ≡ [] → MaybeSpecifiersNames specs → DeclaratorNames d → is_named d ≡ true → AllDeclarationNames olds → FitsDeclarations olds → BlockNames body → FitsBlock body
      → FunctionGoes s u f × (u.outer ≡ [])
  function_goes s line specs d olds body u f h k o a x e y g z w =
      let b = result_steady s specs h.0 h.1 h.2 a k in
      let c = definition_goes h.0 line h.1 d h.3.0 h.3.1 h.3.2 b.0.regular (b.0.outer ∙ o) b.1 x e in
      let i = scope_goes h.0 h.3.0 line h.3.1 olds body h.3.3.0 h.3.3.1 c h.3.3.2 y g z w in
      let v : State = left h.3.0.outer h.3.0.inner h.3.3.0 in
      let p : Parts = record { functions = h.3.3.1.function ∷ []; objects = h.3.3.1.body.objects; linked = h.3.3.1.body.linked } in
      let all = goes_then types s h.0 h.3.3.0 no_parts p (steady_goes types s h.0 k b.0) i.0 in
      let last = goes_scoped s h.3.3.0 h.3.0.outer h.3.0.inner p all (left_regular h.3.0 h.3.3.0 c.goes.regular i.0.regular i.1) in
      subst (λ u. FunctionGoes s u f × (u.outer ≡ [])) h.3.3.3.0 (subst (λ f. FunctionGoes s v f × (v.outer ≡ [])) h.3.3.3.1 (last, c.outer ∙ (b.0.outer ∙ o)))
