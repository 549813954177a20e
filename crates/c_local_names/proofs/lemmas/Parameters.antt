-- The scope of a prototype's parameters: each of their names has its place among the parameters' types, and others in it are no locals'.
use Rattle.std.proofs.Common.{◌≡◌, ◌⊎◌, ℕ, ◌+◌, ◌<◌, Bool, true, false, not, ◌&&◌, ◌||◌, List, [], ◌∷◌, ◌++◌, length, refl, reverse, sym, ap, subst, ◌∙◌, inl, inr, lt_of_lt_of_le}
use Rattle.std.specs.Prelude.{pos, Option, Some, None, is_some, slice_get}
use Rattle.std.proofs.lemmas.List.{append_assoc, length-append, reverse-append}
use Rattle.c_ast.specs.declared.specifier.Qualifier.{Qualifier}
use Rattle.c_ast.specs.declared.specifier.Storage.{Storage as StorageClass}
use Rattle.c_ast.specs.Trees.{DeclaratorTree, Declarator, MaybeDeclarator, NoDeclarator, ADeclarator, CoreTree, Named as NamedCore, Inner, Omitted, SuffixTree, ArraySuffix, Prototype, NameList, NoParameters, SuffixTrees, NoSuffixes, Suffixes, ParameterTree, Parameter, ParameterTrees, NoParameter, Parameters}
use Rattle.c_types.specs.CType.{CType, Plain, Array, Simple, Pointer, Function, Structure, Union, Enumeration}
use Rattle.c_fits.proofs.lemmas.Booleans.{and_left, and_right, never}
use Rattle.c_fits.proofs.lemmas.Constraints.{unbroken}
use Rattle.c_fits.proofs.lemmas.Following.{pushed}
use Rattle.c_fits.proofs.lemmas.Lists.{seam}
use Rattle.c_fits.proofs.lemmas.Values.{chosen_by}
use Rattle.c_meaning.specs.Nodes.{NamedParameter, Step, Typing, ToPointer, ToArray, ToFunction, ToNamed, ToOpen}
use Rattle.c_meaning.specs.Nodes as node
use Rattle.c_meaning.specs.State.{Known, State, declared, entered, known_at, nothing_known}
use Rattle.c_meaning.specs.TypeRows.{adjusted, none_if_void, parameter_class, parameter_known, pointer_steps, with_parameter}
use Rattle.c_meaning.specs.Types.{is_void}
use Rattle.c_meaning.specs.Typing as typing
use Rattle.c_meaning.specs.Typing.{Declared, Shaped, shaped, stands_alone}
use Rattle.c_meaning.specs.TypingRelation.{TypesCore, TypesDeclarator, TypesParameter, TypesParameters, TypesParameterShape, TypesSuffix, TypesSuffixes}
use Rattle.c_tree_names.specs.Names.{AllParameterNames, AllSuffixNames, CoreNames, DeclaratorNames, MaybeDeclaratorNames, ParameterNames, SuffixNames, AreNames}
use Rattle.c_typing_steps.specs.Laws.{StepLaws}
use Rattle.c_typing_steps.specs.Steps.{Steps, Stay}
use Rattle.c_units.specs.Definitions.{own_step, names_of}
use Rattle.c_units.specs.Functions.{is_object_class, scope_of, types_of}
use Rattle.c_local_names.proofs.lemmas.Itself.{compatible_itself}
use Rattle.c_local_names.proofs.lemmas.Keeping.{Adds, Counted, Keeps, declared_keeps, entered_counted, same_adds, same_keeps, then_adds, then_keeps}
use Rattle.c_local_names.proofs.lemmas.Knowing.{IsPlaced, get_next, other_placed, stays_placed}
use Rattle.c_local_names.proofs.lemmas.Naming.{named_by}
use Rattle.c_local_names.proofs.lemmas.Scopes.{Has, IsSome, has_append, name_some}
use Rattle.c_local_names.proofs.lemmas.Stepping.{steps_add}

-- ---- names in the innermost scope

-- each local's among them has its place in this list
abbrev pub InnerPlaced : List CType → State → Type 0
InnerPlaced locals s = (name : List ℕ) (id : ℕ) → Has s.inner name id → IsPlaced locals (known_at s id)

adds_inner : (o : Option ℕ) (locals : List CType) (s u : State) → Adds o s u → Counted o s → InnerPlaced locals s → InnerPlaced locals u
adds_inner o locals s u f c h name id k = by (f.inner name id k)
  where
    by : Has s.inner name id ⊎ (is_object_class (known_at u id).class ≡ false) → IsPlaced locals (known_at u id)
    by (inl g) = stays_placed locals (known_at s id) (known_at u id) (f.keeps.known id (c.below name id (inr g))) (h name id g)
    by (inr e) = other_placed locals (known_at u id) e

-- a parameter's name
pub parameter_inner : (o : Option ℕ) (locals : List CType) (s : State) (name : List ℕ) (line place : ℕ) (classes : List StorageClass) (of : CType) → Counted o s → InnerPlaced locals s → slice_get locals place ≡ Some of → InnerPlaced locals (declared s name (parameter_known s line place classes of))
parameter_inner o locals s name line place classes of c h e x id k = by (has_append s.inner (name, length s.symbols) x id k)
  where
    known : Known
    known = parameter_known s line place classes of

    placed : IsPlaced locals known
    placed = named_by locals (parameter_class classes) (Some (pos place)) of of e (compatible_itself of)

    by : Has s.inner x id ⊎ ((name ≡ x) × (length s.symbols ≡ id)) → IsPlaced locals (known_at (declared s name known) id)
    by (inl g) = subst (IsPlaced locals) (sym (pushed s.symbols known id (c.below x id (inr g)))) (h x id g)
    by (inr g) = subst (λ i. IsPlaced locals (known_at (declared s name known) i)) g.1 (subst (IsPlaced locals) (sym (seam s.symbols known nothing_known)) placed)

-- ---- the scope of a step

-- its names have symbols and aren't empty, and each local's among them has its place
abbrev pub IsScope : State → List CType → List (List ℕ × ℕ) → Type 0
IsScope s locals scope = (name : List ℕ) (id : ℕ) → Has scope name id → (id < length s.symbols) × IsSome name × IsPlaced locals (known_at s id)

abbrev pub IsScopedIn : State → Step → Type 0
IsScopedIn s (ToFunction ps more scope) = IsScope s (types_of ps) scope
IsScopedIn s (ToNamed names) = AreNames names
IsScopedIn s p = Unit {0}

abbrev pub AreScopedIn : State → List Step → Type 0
AreScopedIn s [] = Unit {0}
AreScopedIn s (p ∷ ps) = IsScopedIn s p × AreScopedIn s ps

pub scope_stays : (o : Option ℕ) (s u : State) (locals : List CType) (scope : List (List ℕ × ℕ)) → Keeps o s u → IsScope s locals scope → IsScope u locals scope
scope_stays o s u locals scope f h name id k = let a = h name id k in (lt_of_lt_of_le a.0 f.symbols, a.1, stays_placed locals (known_at s id) (known_at u id) (f.known id a.0) a.2)

scoped_stays : (o : Option ℕ) (s u : State) (p : Step) → Keeps o s u → IsScopedIn s p → IsScopedIn u p
scoped_stays o s u (ToFunction ps more scope) f h = scope_stays o s u (types_of ps) scope f h
scoped_stays o s u (ToPointer q) f h = tt
scoped_stays o s u (ToArray size) f h = tt
scoped_stays o s u (ToNamed names) f h = h
scoped_stays o s u ToOpen f h = tt

pub all_scoped_stay : (o : Option ℕ) (s u : State) (ps : List Step) → Keeps o s u → AreScopedIn s ps → AreScopedIn u ps
all_scoped_stay o s u [] f h = tt
all_scoped_stay o s u (p ∷ ps) f h = (scoped_stays o s u p f h.0, all_scoped_stay o s u ps f h.1)

scoped_join : (s : State) (ps qs : List Step) → AreScopedIn s ps → AreScopedIn s qs → AreScopedIn s (ps ++ qs)
scoped_join s [] qs h k = k
scoped_join s (p ∷ ps) qs h k = (h.0, scoped_join s ps qs h.1 k)

scoped_reverse : (s : State) (ps : List Step) → AreScopedIn s ps → AreScopedIn s (reverse ps)
scoped_reverse s [] h = tt
scoped_reverse s (p ∷ ps) h = subst (AreScopedIn s) (sym (reverse-append (p ∷ []) ps)) (scoped_join s (reverse ps) (p ∷ []) (scoped_reverse s ps h.1) (h.0, tt))

pointers_scoped : (s : State) (qs : List (List Qualifier)) → AreScopedIn s (pointer_steps qs)
pointers_scoped s [] = tt
pointers_scoped s (q ∷ qs) = (tt, pointers_scoped s qs)

void_adjusted : (t : CType) → is_void (adjusted t) ≡ is_void t
void_adjusted (Array of n) = refl
void_adjusted (Plain q (Function r ps)) = refl
void_adjusted (Plain q (Simple b)) = refl
void_adjusted (Plain q (Pointer to)) = refl
void_adjusted (Plain q (Structure n)) = refl
void_adjusted (Plain q (Union n)) = refl
void_adjusted (Plain q (Enumeration n)) = refl

-- names that declarators have aren't empty
abbrev HasSomeName : Option (List ℕ) → Type 0
HasSomeName n = (name : List ℕ) → n ≡ Some name → IsSome name

mutual
  declarator_some : (s : State) (d : DeclaratorTree) (u : State) (p : Declared) → TypesDeclarator s d u p → DeclaratorNames d → HasSomeName p.name
  declarator_some s (Declarator l pointers core _) u p h n = subst (λ (p : Declared). HasSomeName p.name) h.3.3.1 (core_some s core h.0 h.1 h.2 n.0)

  core_some : (s : State) (c : CoreTree) (u : State) (p : Declared) → TypesCore s c u p → CoreNames c → HasSomeName p.name
  core_some s (NamedCore x) u p h n = subst (λ (p : Declared). HasSomeName p.name) h.1 (λ name e. subst IsSome (same x name e) (name_some x n))
    where
      same : (x name : List ℕ) → Some x ≡ Some name → x ≡ name
      same x name e = cc
  core_some s (Inner d) u p h n = declarator_some s d u p h n
  core_some s Omitted u p h n = subst (λ (p : Declared). HasSomeName p.name) h.1 (λ name e. absurd (let none : ⊥ = cc in none))

named_parameter : (s : State) (line index : ℕ) (classes : List StorageClass) (name : Option (List ℕ)) (of : CType) → HasSomeName name → Counted None s → (locals : List CType) → slice_get locals index ≡ Some of → InnerPlaced locals s
    → Keeps None s (with_parameter s line index classes name of) × InnerPlaced locals (with_parameter s line index classes name of)
named_parameter s line index classes None of n c locals e k = (same_keeps None s c, k)
named_parameter s line index classes (Some name) of n c locals e k = (declared_keeps None s name (parameter_known s line index classes of) c (n name refl), parameter_inner None locals s name line index classes of c k e)

none_scope : (t : State) (alone : Bool) (qs : List NamedParameter) (scope : List (List ℕ × ℕ)) → IsScope t (types_of qs) scope → ((q : NamedParameter) (rest : List NamedParameter) → qs ≡ q ∷ rest → alone ≡ true → is_void q.of ≡ true → IsScope t [] scope)
    → IsScope t (types_of (none_if_void alone qs)) scope
none_scope t alone [] scope h k = h
none_scope t alone (q ∷ qs) scope h k = chosen_by (λ ps. IsScope t (types_of ps) scope) (alone && is_void q.of) [] (q ∷ qs) (λ e. k q qs refl (and_left alone (is_void q.of) e) (and_right alone (is_void q.of) e)) (λ e. h)

module _ (laws : StepLaws) where
  -- ---- one parameter

  shape_adds : (s : State) (base : CType) (d : MaybeDeclarator) (u : State) (p : Shaped) → TypesParameterShape s base d u p → MaybeDeclaratorNames d → Counted None s → Adds None s u × HasSomeName p.name
  shape_adds s base NoDeclarator u p h n c = (subst (Adds None s) h.0 (same_adds None s c), subst (λ (p : Shaped). HasSomeName p.name) h.1 (λ name e. absurd (let none : ⊥ = cc in none)))
  shape_adds s base (ADeclarator d) u p h n c =
      let f = steps_add None s h.0 (laws.declarators s h.0 d h.1 n h.2) c in
      (subst (Adds None s) h.3.1.0 f, subst (λ (p : Shaped). HasSomeName p.name) h.3.1.1 (declarator_some s d h.0 h.1 h.2 n))

  -- what is known before its name
  parameter_before : (s : State) (alone : Bool) (index line : ℕ) (specs : _) (d : MaybeDeclarator) (u : State) (q : NamedParameter) → (h : TypesParameter s alone index (Parameter line specs d) u q) → ParameterNames (Parameter line specs d) → Counted None s → Adds None s h.3.0 × HasSomeName h.3.1.name
  parameter_before s alone index line specs d u q h n c =
      let f = steps_add None s h.0 (laws.specifiers s h.0 specs h.1 n.0 h.2) c in
      let g = shape_adds h.0 h.1.of d h.3.0 h.3.1 h.3.2 n.1 f.keeps.counted in
      (then_adds None s h.0 h.3.0 f g.0, g.1)

  parameter_goes : (s : State) (alone : Bool) (index : ℕ) (p : ParameterTree) (u : State) (q : NamedParameter) → TypesParameter s alone index p u q → ParameterNames p → Counted None s → (locals : List CType) → slice_get locals index ≡ Some q.of → InnerPlaced locals s
      → Keeps None s u × InnerPlaced locals u
  parameter_goes s alone index (Parameter l specs d) u q h n c locals e k =
      let f = parameter_before s alone index l specs d u q h n c in
      let at = h.3.3.1 in
      let r = named_parameter h.3.0 l index h.1.classes h.3.1.name (adjusted h.3.1.of) f.1 f.0.keeps.counted locals (e ∙ ap (λ (q : NamedParameter). Some q.of) (sym at.1)) (adds_inner None locals s h.3.0 f.0 c k) in
      let a : Keeps None s (with_parameter h.3.0 l index h.1.classes h.3.1.name (adjusted h.3.1.of)) = then_keeps None s h.3.0 _ f.0.keeps r.0 in
      subst (λ u. Keeps None s u × InnerPlaced locals u) at.0 (a, r.1)

  -- `void` alone has no name
  void_adds : (s : State) (alone : Bool) (index : ℕ) (p : ParameterTree) (u : State) (q : NamedParameter) → TypesParameter s alone index p u q → ParameterNames p → Counted None s → alone ≡ true → is_void q.of ≡ true → Adds None s u
  void_adds s alone index (Parameter l specs d) u q h n c a v =
      let f = parameter_before s alone index l specs d u q h n c in
      let z = unbroken h.3.0 l (Typing (node.Parameter h.1.classes h.3.1.name h.3.1.of alone)) h.3.3.0 17 in
      let void : is_void h.3.1.of ≡ true = sym (void_adjusted h.3.1.of) ∙ (ap (λ (q : NamedParameter). is_void q.of) h.3.3.1.1 ∙ v) in
      subst (Adds None s) h.3.3.1.0 (by h.3.0 h.1.classes h.3.1.name (adjusted h.3.1.of) (is_void h.3.1.of) alone z void a f.0)
    where
      by : (t : State) (classes : List StorageClass) (name : Option (List ℕ)) (of : CType) (b alone : Bool) → (b && (not alone || is_some name)) ≡ false → b ≡ true → alone ≡ true → Adds None s t → Adds None s (with_parameter t l index classes name of)
      by t classes None of b alone z e g f = f
      by t classes (Some name) of true true z e g f = never z
      by t classes (Some name) of false alone z e g f = never (sym e)
      by t classes (Some name) of true false z e g f = never (sym g)

  -- ---- all of them

  parameters_go : (s : State) (alone : Bool) (index : ℕ) (ps : ParameterTrees) (u : State) (qs : List NamedParameter) → TypesParameters s alone index ps u qs → AllParameterNames ps → Counted None s
      → (locals before : List CType) → index ≡ length before → locals ≡ before ++ types_of qs → InnerPlaced locals s → Keeps None s u × InnerPlaced locals u
  parameters_go s alone index NoParameter u qs h n c locals before e g k = subst (λ u. Keeps None s u × InnerPlaced locals u) h.0 (same_keeps None s c, k)
  parameters_go s alone index (Parameters p ps) u qs h n c locals before e g k =
      let all : locals ≡ before ++ h.1.of ∷ types_of h.3.1 = g ∙ ap (λ qs. before ++ types_of qs) (sym h.3.3.1) in
      let at : slice_get locals index ≡ Some h.1.of = ap (λ (ls : List CType). slice_get ls index) all ∙ (ap (slice_get (before ++ h.1.of ∷ types_of h.3.1)) e ∙ get_next before h.1.of (types_of h.3.1)) in
      let f = parameter_goes s alone index p h.0 h.1 h.2 n.0 c locals at k in
      let next : index + 1 ≡ length (before ++ h.1.of ∷ []) = ap (λ m. m + 1) e ∙ sym (length-append before (h.1.of ∷ [])) in
      let r = parameters_go h.0 alone (index + 1) ps h.3.0 h.3.1 h.3.2 n.1 f.0.counted locals (before ++ h.1.of ∷ []) next (all ∙ sym (append_assoc before (h.1.of ∷ []) (types_of h.3.1))) f.1 in
      subst (λ u. Keeps None s u × InnerPlaced locals u) h.3.3.0 (then_keeps None s h.0 h.3.0 f.0 r.0, r.1)

  lone_adds : (s : State) (more : Bool) (ps : ParameterTrees) (u : State) (qs : List NamedParameter) → TypesParameters s (stands_alone ps more) 0 ps u qs → AllParameterNames ps → Counted None s
      → (q : NamedParameter) (rest : List NamedParameter) → qs ≡ q ∷ rest → stands_alone ps more ≡ true → is_void q.of ≡ true → Adds None s u
  lone_adds s more NoParameter u qs h n c q rest e a v = never (sym a)
  lone_adds s more (Parameters p (Parameters p2 ps)) u qs h n c q rest e a v = never (sym a)
  lone_adds s more (Parameters p NoParameter) u qs h n c q rest e a v =
      let same : h.1 ≡ q = first h.1 q h.3.1 rest (h.3.3.1 ∙ e) in
      subst (Adds None s) (h.3.2.0 ∙ h.3.3.0) (void_adds s (not more) 0 p h.0 h.1 h.2 n.0 c a (ap (λ (q : NamedParameter). is_void q.of) same ∙ v))
    where
      first : (x y : NamedParameter) (xs ys : List NamedParameter) → x ∷ xs ≡ y ∷ ys → x ≡ y
      first x y xs ys e = cc

  prototype_scope : (s : State) (more : Bool) (ps : ParameterTrees) (t : State) (qs : List NamedParameter) → TypesParameters (entered s) (stands_alone ps more) 0 ps t qs → AllParameterNames ps → Counted None s → IsScope t (types_of (none_if_void (stands_alone ps more) qs)) t.inner
  prototype_scope s more ps t qs h n c =
      let d = entered_counted None s c in
      let f = parameters_go (entered s) (stands_alone ps more) 0 ps t qs h n d (types_of qs) [] refl refl (λ name id k. absurd k) in
      none_scope t (stands_alone ps more) qs t.inner (λ name id k. (f.0.counted.below name id (inr k), f.0.counted.beside name id (inr k), f.1 name id k))
      (λ q rest e a v.
      let g = lone_adds (entered s) more ps t qs h n d q rest e a v in
      λ name id k. (f.0.counted.below name id (inr k), f.0.counted.beside name id (inr k), other t name id (g.inner name id k)))
    where
      other : (t : State) (name : List ℕ) (id : ℕ) → ⊥ ⊎ (is_object_class (known_at t id).class ≡ false) → IsPlaced [] (known_at t id)
      other t name id (inl e) = absurd e
      other t name id (inr e) = other_placed [] (known_at t id) e

  -- ---- declarators

  core_steps : (s : State) (core : CoreTree) (u : State) (p : Declared) → TypesCore s core u p → CoreNames core → Steps s u
  core_steps s (NamedCore x) u p h n = subst (Steps s) h.0 Stay
  core_steps s (Inner d) u p h n = laws.declarators s u d p n h
  core_steps s Omitted u p h n = subst (Steps s) h.0 Stay

  suffixes_steps : (s : State) (xs : SuffixTrees) (u : State) (ps : List Step) → TypesSuffixes s xs u ps → AllSuffixNames xs → Steps s u
  suffixes_steps s xs u ps h n =
      let inner : Declared = record { line = 0; name = None; steps = [] } in
      laws.declarators s u (Declarator 0 [] Omitted xs) (typing.declared 0 [] inner ps) (tt, n) (s, inner, (refl, refl), (u, ps, h, (refl, refl)))

  suffix_steps : (s : State) (x : SuffixTree) (u : State) (p : Step) → TypesSuffix s x u p → SuffixNames x → Steps s u
  suffix_steps s x u p h n = suffixes_steps s (Suffixes x NoSuffixes) u (p ∷ []) (u, p, h, (u, [], (refl, refl), (refl, refl))) (n, tt)

  suffix_scoped : (s : State) (x : SuffixTree) (u : State) (p : Step) → TypesSuffix s x u p → SuffixNames x → Counted None s → IsScopedIn u p
  suffix_scoped s (ArraySuffix l size) u p h n c = subst (IsScopedIn u) h.3.1 tt
  suffix_scoped s (NameList l names) u p h n c = subst (IsScopedIn u) h.1 n
  suffix_scoped s (NoParameters l) u p h n c = subst (IsScopedIn u) h.1 tt
  suffix_scoped s (Prototype l ps more) u p h n c =
      let alone = stands_alone ps more in
      let step : Step = ToFunction (none_if_void alone h.1) more h.0.inner in
      subst (IsScopedIn u) h.3.1 (subst (λ (u : State). IsScopedIn u step) h.3.0 (prototype_scope s more ps h.0 h.1 h.2 n c))

  suffixes_scoped : (s : State) (xs : SuffixTrees) (u : State) (ps : List Step) → TypesSuffixes s xs u ps → AllSuffixNames xs → Counted None s → AreScopedIn u ps
  suffixes_scoped s NoSuffixes u ps h n c = subst (AreScopedIn u) h.1 tt
  suffixes_scoped s (Suffixes x xs) u ps h n c =
      let f = steps_add None s h.0 (suffix_steps s x h.0 h.1 h.2 n.0) c in
      let g = steps_add None h.0 h.3.0 (suffixes_steps h.0 xs h.3.0 h.3.1 h.3.2 n.1) f.keeps.counted in
      subst (AreScopedIn u) h.3.3.1
      (subst (λ (u : State). AreScopedIn u (h.1 ∷ h.3.1)) h.3.3.0
      (scoped_stays None h.0 h.3.0 h.1 g.keeps (suffix_scoped s x h.0 h.1 h.2 n.0 c), suffixes_scoped h.0 xs h.3.0 h.3.1 h.3.2 n.1 f.keeps.counted))

  mutual
    pub declarator_scoped : (s : State) (d : DeclaratorTree) (u : State) (p : Declared) → TypesDeclarator s d u p → DeclaratorNames d → Counted None s → AreScopedIn u p.steps
    declarator_scoped s (Declarator l pointers core xs) u p h n c =
        let f = steps_add None s h.0 (core_steps s core h.0 h.1 h.2 n.0) c in
        let g = steps_add None h.0 h.3.0 (suffixes_steps h.0 xs h.3.0 h.3.1 h.3.2 n.1) f.keeps.counted in
        let inner = all_scoped_stay None h.0 h.3.0 h.1.steps g.keeps (core_scoped s core h.0 h.1 h.2 n.0 c) in
        let outer = scoped_reverse h.3.0 h.3.1 (suffixes_scoped h.0 xs h.3.0 h.3.1 h.3.2 n.1 f.keeps.counted) in
        subst (λ (p : Declared). AreScopedIn u p.steps) h.3.3.1
        (subst (λ (u : State). AreScopedIn u (pointer_steps pointers ++ reverse h.3.1 ++ h.1.steps)) h.3.3.0
        (scoped_join h.3.0 (pointer_steps pointers ++ reverse h.3.1) h.1.steps (scoped_join h.3.0 (pointer_steps pointers) (reverse h.3.1) (pointers_scoped h.3.0 pointers) outer) inner))

    core_scoped : (s : State) (core : CoreTree) (u : State) (p : Declared) → TypesCore s core u p → CoreNames core → Counted None s → AreScopedIn u p.steps
    core_scoped s (NamedCore x) u p h n c = subst (λ (p : Declared). AreScopedIn u p.steps) h.1 tt
    core_scoped s (Inner d) u p h n c = declarator_scoped s d u p h n c
    core_scoped s Omitted u p h n c = subst (λ (p : Declared). AreScopedIn u p.steps) h.1 tt

-- the step that is the function's own, and the types of its parameters
abbrev pub step_types : Option Step → List CType
step_types (Some (ToFunction ps more scope)) = types_of ps
step_types step = []

step_scope : (s : State) (p : Step) → IsScopedIn s p → IsScope s (step_types (Some p)) (scope_of (Some p))
step_scope s (ToFunction ps more scope) h = h
step_scope s (ToPointer q) h = λ name id k. absurd k
step_scope s (ToArray size) h = λ name id k. absurd k
step_scope s (ToNamed names) h = λ name id k. absurd k
step_scope s ToOpen h = λ name id k. absurd k

pub own_scope : (s : State) (ps : List Step) → AreScopedIn s ps → IsScope s (step_types (own_step ps)) (scope_of (own_step ps))
own_scope s [] h = λ name id k. absurd k
own_scope s (p ∷ []) h = step_scope s p h.0
own_scope s (p ∷ q ∷ ps) h = own_scope s (q ∷ ps) h.1

-- and the names of its list
step_names : (s : State) (p : Step) → IsScopedIn s p → AreNames (names_of (Some p))
step_names s (ToNamed names) h = h
step_names s (ToFunction ps more scope) h = tt
step_names s (ToPointer q) h = tt
step_names s (ToArray size) h = tt
step_names s ToOpen h = tt

pub own_names : (s : State) (ps : List Step) → AreScopedIn s ps → AreNames (names_of (own_step ps))
own_names s [] h = tt
own_names s (p ∷ []) h = step_names s p h.0
own_names s (p ∷ q ∷ ps) h = own_names s (q ∷ ps) h.1
