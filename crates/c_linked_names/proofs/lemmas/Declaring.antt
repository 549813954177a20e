-- What declarations make of what is known, with the objects that they define and the names with linkage that they declare.
use Rattle.std.proofs.Common.{◌≡◌, ◌⊎◌, ℕ, ◌+◌, ◌<◌, ◌≤◌, Bool, true, false, not, ◌||◌, List, [], ◌∷◌, length, refl, sym, ap, subst, ◌∙◌, inl, inr, arith, lt_of_lt_of_le}
use Rattle.std.specs.Prelude.{◌==◌, Option, Some, None, IfSome, is_some, if◌then◌else◌}
use Rattle.std.proofs.lemmas.Bool.{eqb-true}
use Rattle.c_ast.specs.Levels.{FitsInits, FitsDeclaration, FitsDeclarations, has_name, is_named}
use Rattle.c_ast.specs.Trees.{DeclaratorTree, Declarator, CoreTree, Named, Inner, Omitted, InitialiserTree, ByExpr, Braced, InitTree, DeclarationTree}
use Rattle.c_symbols.specs.Scoping.{symbol_named}
use Rattle.c_types.specs.CType.{CType, Plain, Array, Simple, Pointer, Function, Structure, Union, Enumeration}
use Rattle.c_types.specs.Layout.{Tag}
use Rattle.c_meaning.specs.Declarations.{Declares, Defined, Linked, Name, Naming, Whole, alone_declares, decl_fault, declares, fills_of, has_other_linkage, is_again, is_static, is_typedef, linked_declares, linked_name, linked_objects, local, nothing, object, one_object, or_zero, places_of, retyped, together, with_linked_whole, with_whole}
use Rattle.c_meaning.specs.Declaring.{first_class, initialised, naming, type_filled, type_here, with_type, with_type_here}
use Rattle.c_meaning.specs.DeclaringRelation.{TypesDeclaration, TypesInit, TypesInitialiser, TypesInits, TypesMaybeInitialiser, TypesName}
use Rattle.c_meaning.specs.Each.{EachIs}
use Rattle.c_meaning.specs.Filling.{sized}
use Rattle.c_meaning.specs.Initialising.{Filled, Initialised, Items, Value, can_be_initialised, init_fault, list_of, place_in, stored_elements, text_elements, value_of, whole, whole_node}
use Rattle.c_meaning.specs.Linkage.{Linkage, is_linked, local_count, with_name}
use Rattle.c_meaning.specs.State.{Known, State, known_at, place_here}
use Rattle.c_meaning.specs.StmtTrees.{StmtOf}
use Rattle.c_meaning.specs.TypeRows.{Specified, formed, name_or_empty}
use Rattle.c_meaning.specs.Types.{is_function}
use Rattle.c_meaning.specs.Typing as typing
use Rattle.c_meaning.specs.TypingRelation.{TypesCore, TypesDeclarator}
use Rattle.c_tree_names.specs.Names.{AllDeclarationNames, AllInitNames, CoreNames, DeclarationNames, DeclaratorNames, InitNames, IsName}
use Rattle.c_typing_steps.specs.Laws.{StepLaws}
use Rattle.c_typing_steps.specs.Names.{EachNameIn, EachNameStored, StandsFor}
use Rattle.c_typing_steps.proofs.lemmas.Names.{each_more_in, stored_more}
use Rattle.c_units.specs.BodiesRelation.{TypesDeclarations}
use Rattle.c_units.specs.Ends.{is_link}
use Rattle.c_units.specs.Externals.{Parts, no_parts}
use Rattle.c_fits.proofs.lemmas.DeclaredFits.{each_join}
use Rattle.c_fits.proofs.lemmas.Booleans.{never, not_false, or_left}
use Rattle.c_fits.proofs.lemmas.Constraints.{decl_unbroken, init_unbroken}
use Rattle.c_fits.proofs.lemmas.Lists.{some_id}
use Rattle.c_fits.proofs.lemmas.Values.{chosen_by}
use Rattle.c_linked_names.proofs.lemmas.Absorbing.{Absorbs, TypeLaws, absorbs_itself, sized_absorbs}
use Rattle.c_linked_names.proofs.lemmas.Going.{Goes, Has, IfKnown, IfMeant, IsObject, Meant, defined_at, goes_itself, goes_steady, goes_then, if_meant_keeps, steady_goes}
use Rattle.c_linked_names.proofs.lemmas.Keeping.{IsEntry, IsRegular, Keeps, Steady, entry_keeps, is_tag, link_at, link_of}
use Rattle.c_linked_names.proofs.lemmas.Lists.{each_map, each_named, named_link, one_if}
use Rattle.c_linked_names.proofs.lemmas.Naming.{NameGoes, Retypes, name_goes, retypes_defined}
use Rattle.c_linked_names.proofs.lemmas.Standing.{stored_meant}
use Rattle.c_linked_names.proofs.lemmas.Stepping.{steps_steady}
use Rattle.c_linked_names.proofs.lemmas.Wholes.{LinkedWhole, alone_whole, linked_whole, undefined_yet}

-- ---- names of declarators

mutual
  pub declarator_named : (s : State) (d : DeclaratorTree) (u : State) (p : typing.Declared) → TypesDeclarator s d u p → DeclaratorNames d → is_named d ≡ true → IsName (name_or_empty p.name)
  declarator_named s (Declarator l pointers core outer) u p h n e = subst (λ (p : typing.Declared). IsName (name_or_empty p.name)) h.3.3.1 (core_named s core h.0 h.1 h.2 n.0 e)

  core_named : (s : State) (c : CoreTree) (u : State) (p : typing.Declared) → TypesCore s c u p → CoreNames c → has_name c ≡ true → IsName (name_or_empty p.name)
  core_named s (Named x) u p h n e = subst (λ (p : typing.Declared). IsName (name_or_empty p.name)) h.1 n
  core_named s (Inner d) u p h n e = declarator_named s d u p h n e
  core_named s Omitted u p h n e = never (sym e)

-- ---- what an initialiser makes of a type

initialiser_absorbs : (s : State) (o : Initialised) (i : InitialiserTree) (u : State) (f : Filled) → TypesInitialiser s o i u f → Absorbs f.of o.of
initialiser_absorbs s o (ByExpr l e) u f h = subst (λ (f : Filled). Absorbs f.of o.of) h.3.1.1 (sized_absorbs o.of (text_elements o.of h.1))
initialiser_absorbs s o (Braced l items comma) u f h = subst (λ (f : Filled). Absorbs f.of o.of) h.3.1.1 (sized_absorbs o.of (stored_elements h.1.left h.1.places))

filled_absorbs : (s : State) (o : Initialised) (i : Option InitialiserTree) (u : State) (f : Option Filled) → TypesMaybeInitialiser s o i u f → Absorbs (type_filled o.of f) o.of
filled_absorbs s o None u f h = subst (λ f. Absorbs (type_filled o.of f) o.of) h.1 (absorbs_itself o.of)
filled_absorbs s o (Some i) u f h = subst (λ f. Absorbs (type_filled o.of f) o.of) h.3.1 (initialiser_absorbs s o i h.0 h.1 h.2)

sized_function : (t : CType) (n : ℕ) → is_function (sized t n) ≡ is_function t
sized_function (Array of None) n = refl
sized_function (Array of (Some m)) n = refl
sized_function (Plain q k) n = refl

-- a function has no size
fit_function : (tags : List Tag) (t : CType) → can_be_initialised tags t ≡ true → is_function t ≡ false
fit_function tags (Plain q (Function r ps)) h = never (sym h)
fit_function tags (Plain q (Simple b)) h = refl
fit_function tags (Plain q (Pointer to)) h = refl
fit_function tags (Plain q (Structure n)) h = refl
fit_function tags (Plain q (Union n)) h = refl
fit_function tags (Plain q (Enumeration n)) h = refl
fit_function tags (Array of n) h = refl

whole_object : (s u : State) (l : ℕ) (o : Initialised) (form : _) (f : Filled) (n : ℕ) → init_fault u l (whole_node s o form f.of) ≡ None → f.of ≡ sized o.of n → is_function f.of ≡ false
whole_object s u l o form f n h e = ap is_function e ∙ sized_function o.of n ∙ fit_function s.tags o.of (not_false (can_be_initialised s.tags o.of) (init_unbroken u l (whole_node s o form f.of) h 27))

initialiser_object : (s : State) (o : Initialised) (i : InitialiserTree) (u : State) (f : Filled) → TypesInitialiser s o i u f → is_function f.of ≡ false
initialiser_object s o (ByExpr l e) u f h = subst (λ (f : Filled). is_function f.of ≡ false) h.3.1.1 (whole_object s h.0 l o (Value (place_in (whole s.tags o.of)) h.1) (value_of s o h.1) (text_elements o.of h.1) h.3.0 refl)
initialiser_object s o (Braced l items comma) u f h = subst (λ (f : Filled). is_function f.of ≡ false) h.3.1.1 (whole_object s h.0 l o (Items h.1.excess false) (list_of o h.1) (stored_elements h.1.left h.1.places) h.3.0 refl)

filled_object : (s : State) (o : Initialised) (i : Option InitialiserTree) (u : State) (f : Option Filled) → TypesMaybeInitialiser s o i u f → is_some f ≡ true → is_function (type_filled o.of f) ≡ false
filled_object s o None u f h = subst (λ f. is_some f ≡ true → is_function (type_filled o.of f) ≡ false) h.1 (λ e. never (sym e))
filled_object s o (Some i) u f h = subst (λ f. is_some f ≡ true → is_function (type_filled o.of f) ≡ false) h.3.1 (λ e. initialiser_object s o i h.0 h.1 h.2)

-- ---- what declarations give

abbrev pub parts_of : Declares → Parts
parts_of d = record { functions = []; objects = d.objects; linked = d.linked }

pub record DeclaresGo (s u : State) (d : Declares) : Type 0 where
  pub goes : Goes s u (parts_of d)
  pub outer : u.outer ≡ s.outer
  pub fills : EachIs (EachNameIn (IfMeant u)) d.fills

pub fills_keep : (s u : State) → Keeps s u → (fs : List (StmtOf CType)) → EachIs (EachNameIn (IfMeant s)) fs → EachIs (EachNameIn (IfMeant u)) fs
fills_keep s u k fs h = each_map (EachNameIn (IfMeant s)) (EachNameIn (IfMeant u)) (λ c. each_more_in (IfMeant s) (IfMeant u) (if_meant_keeps s u k) c) fs h

pub known_before : (s u : State) → Keeps s u → (id : ℕ) → IfKnown u id → IfKnown s id
known_before s u k id e l = sym (k.links id l) ∙ e (lt_of_lt_of_le l k.symbols)

-- types that change define nothing
retypes_go : (s t : State) → Retypes s t → Goes s t no_parts
retypes_go s t r =
    record { regular = r.regular; keeps = r.keeps; once = λ id e. let z = retypes_defined s t r id in omega (arith, z); new = λ id e. inl (ap (λ ns. is_link ns id) (sym r.links) ∙ e); functions = tt; objects = tt; linked = tt }

-- an object with static storage whose name has no linkage
static_goes : (s t : State) (o : Defined) → Retypes s t → o.symbol < length s.symbols → is_link s.links o.symbol ≡ false → IsObject t o → Goes s t (record { functions = []; objects = o ∷ []; linked = [] })
static_goes s t o r b a h =
    record {
      regular = r.regular;
      keeps = r.keeps;
      once = λ id e. let z = retypes_defined s t r id in let y = none id e (o.symbol == id) refl in omega (arith, y, z);
      new = λ id e. inl (ap (λ ns. is_link ns id) (sym r.links) ∙ e);
      functions = tt;
      objects = (h, tt);
      linked = tt;
    }
  where
    none : (id : ℕ) → IfKnown t id → (q : Bool) → (o.symbol == id) ≡ q → one_if (o.symbol == id) ≡ 0
    none id e true p =
        let x = eqb-true o.symbol id p in
        let l : id < length s.symbols = subst (λ i. i < length s.symbols) x b in
        never (sym (known_before s t r.keeps id e l) ∙ subst (λ i. is_link s.links i ≡ false) x a)
    none id e false p = ap one_if p

-- ---- the declared name

pub record NameDeclares (s t : State) (n : Naming) : Type 0 where
  pub before : State
  pub steady : Steady s before
  pub goes : NameGoes before t n.name n.linkage n.of
  pub name : IsName n.name

-- an alone name adds nothing
alone_adds : (s t : State) (name : List ℕ) (l : Linkage) (of : CType) → NameGoes s t name l of → is_linked l ≡ false → Goes s t no_parts
alone_adds s t name l of g e =
    record { regular = g.regular; keeps = g.keeps; once = λ id k. let z = g.once id k in omega (arith, z); new = λ id q. by id (g.new id q); functions = tt; objects = tt; linked = tt }
  where
    by : (id : ℕ) → (is_link s.links id ≡ true) ⊎ ((is_function (known_at t id).of ≡ true) ⊎ ((is_linked l ≡ true) × (symbol_named t.links name ≡ Some id))) → (is_link s.links id ≡ true) ⊎ ((is_function (known_at t id).of ≡ true) ⊎ Has [] id)
    by id (inl q) = inl q
    by id (inr (inl q)) = inr (inl q)
    by id (inr (inr q)) = never (sym q.0 ∙ e)

-- one with linkage adds its declaration
linked_adds : (s t : State) (name : List ℕ) (l : Linkage) (of : CType) (m : ℕ) (d : Linked) → NameGoes s t name l of → d.symbol ≡ m → d.of ≡ of → symbol_named t.links name ≡ Some m → Absorbs (known_at t m).of of → Goes s t (record { functions = []; objects = []; linked = d ∷ [] })
linked_adds s t name l of m d g e f q a =
    let k = link_at t m g.regular (named_link t.links name m q) in
    let meant : Meant t m of = record { below = k.1.below; class = k.1.class; absorbed = a } in
    record {
      regular = g.regular;
      keeps = g.keeps;
      once = λ id k. let z = g.once id k in omega (arith, z);
      new = λ id q. by id (g.new id q);
      functions = tt;
      objects = tt;
      linked = (subst (λ i. Meant t i d.of) (sym e) (subst (Meant t m) (sym f) meant), tt);
    }
  where
    by : (id : ℕ) → (is_link s.links id ≡ true) ⊎ ((is_function (known_at t id).of ≡ true) ⊎ ((is_linked l ≡ true) × (symbol_named t.links name ≡ Some id))) → (is_link s.links id ≡ true) ⊎ ((is_function (known_at t id).of ≡ true) ⊎ Has (d ∷ []) id)
    by id (inl x) = inl x
    by id (inr (inl x)) = inr (inl x)
    by id (inr (inr x)) = inr (inr (inl (e ∙ some_id m id (sym q ∙ x.1))))

-- the object that a name with linkage and an initialiser defines
linked_defines : (u v : State) (line l : ℕ) (n : Naming) (f : Option Filled) → symbol_named u.links n.name ≡ Some l → LinkedWhole u v l (is_some f) n.of → (is_some f ≡ true → defined_at u l ≡ 0) → IsName n.name → IfSome f (λ g. EachNameStored (IfMeant u) g.places)
    → Goes u v (record { functions = []; objects = linked_objects u line n f; linked = [] })
linked_defines u v line l n None e w z is p =
    record {
      regular = w.notes.regular;
      keeps = w.notes.keeps;
      once = λ id k. let y = w.notes.more id in omega (arith, y);
      new = λ id q. inl (ap (λ ns. is_link ns id) (sym w.notes.links) ∙ q);
      functions = tt;
      objects = tt;
      linked = tt;
    }
linked_defines u v line l n (Some g) e w z is p =
    let e2 : symbol_named v.links n.name ≡ Some l = ap (λ ns. symbol_named ns n.name) w.notes.links ∙ e in
    let k = link_at v l w.notes.regular (named_link v.links n.name l e2) in
    let symbol : or_zero (symbol_named u.links n.name) ≡ l = ap or_zero e in
    record {
      regular = w.notes.regular;
      keeps = w.notes.keeps;
      once = λ id q. let y = subst (λ i. one_if (i == id) + defined_at u id ≤ defined_at v id) (sym symbol) (w.notes.once refl (z refl) id) in omega (arith, y);
      new = λ id q. inl (ap (λ ns. is_link ns id) (sym w.notes.links) ∙ q);
      functions = tt;
      objects = (
        record {
          meant = subst (λ i. Meant v i n.of) (sym symbol) (record { below = k.1.below; class = k.1.class; absorbed = w.absorbed refl });
          name = is;
          named = λ q. e2 ∙ ap Some (sym symbol);
          places = stored_more (IfMeant u) (IfMeant v) (if_meant_keeps u v w.notes.keeps) g.places p;
        },
        tt,
      );
      linked = tt;
    }

-- what a name without linkage gives
alone_gives : (u v : State) (line place id : ℕ) (n : Naming) (i : Option InitialiserTree) (f : Option Filled) → Retypes u v → Absorbs (known_at v id).of n.of → place_here u n.name ≡ Some id → IsEntry u (n.name, id) → is_tag (known_at u id).class ≡ false → IsName n.name → IfSome f (λ g. EachNameStored (IfMeant u) g.places)
    → Goes u v (parts_of (alone_declares u line place n i f)) × EachIs (EachNameIn (IfMeant v)) (alone_declares u line place n i f).fills
alone_gives u v line place id n i f r a here x t is p =
    chosen_by (λ d. Goes u v (parts_of d) × EachIs (EachNameIn (IfMeant v)) d.fills) (is_typedef n.class || is_function n.of) nothing _ (λ e. (retypes_go u v r, tt))
    (λ e. chosen_by (λ d. Goes u v (parts_of d) × EachIs (EachNameIn (IfMeant v)) d.fills) (is_static n.class) (one_object o) (local place n.of i f) (λ c. (static_goes u v o r below apart is_object, tt)) (λ c. (retypes_go u v r, fills f p)))
  where
    o : Defined
    o = object (or_zero (place_here u n.name)) line n f

    symbol : o.symbol ≡ id
    symbol = ap or_zero here

    below : o.symbol < length u.symbols
    below = subst (λ i. i < length u.symbols) (sym symbol) x.below

    apart : is_link u.links o.symbol ≡ false
    apart = ap (is_link u.links) symbol ∙ x.apart

    later : (ps : _) → EachNameStored (IfMeant u) ps → EachNameStored (IfMeant v) ps
    later ps h = stored_more (IfMeant u) (IfMeant v) (if_meant_keeps u v r.keeps) ps h

    places : (f : Option Filled) → IfSome f (λ g. EachNameStored (IfMeant u) g.places) → EachNameStored (IfMeant v) (places_of f)
    places None h = tt
    places (Some g) h = later g.places h

    fills : (f : Option Filled) → IfSome f (λ g. EachNameStored (IfMeant u) g.places) → EachIs (EachNameIn (IfMeant v)) (fills_of place n.of i f)
    fills None h = tt
    fills (Some g) h = (later g.places h, tt)

    is_object : IsObject v o
    is_object =
        record {
          meant = subst (λ i. Meant v i n.of) (sym symbol) (record { below = lt_of_lt_of_le x.below r.keeps.symbols; class = ap is_tag (r.keeps.classes id x.below) ∙ t; absorbed = a });
          name = is;
          named = λ q. never (sym q ∙ (ap (λ ns. is_link ns o.symbol) r.links ∙ apart));
          places = places f p;
        }

module _ (types : TypeLaws) (laws : StepLaws) where
  pub name_declares : (s : State) (line : ℕ) (b : Specified) (i : InitTree) (t : State) (n : Naming) → TypesName s line b i t n → IsRegular s → DeclaratorNames i.declarator → is_named i.declarator ≡ true → NameDeclares s t n
  name_declares s line b i t n h k x e =
      let f = steps_steady types (laws.declarators s h.0 i.declarator h.1 x h.2) k in
      let m : Naming = naming h.0 (first_class b.classes) (name_or_empty h.1.name) (formed b.of h.1.steps) in
      let is = declarator_named s i.declarator h.0 h.1 h.2 x e in
      let again = or_left (is_again h.0 m.linkage (place_here h.0 m.name)) (has_other_linkage h.0 m.linkage (symbol_named h.0.links m.name)) (decl_unbroken h.0 h.1.line (Name m) h.3.2.0 5) in
      let g = name_goes types h.0 line (first_class b.classes) m.linkage m.name m.of f.regular is again (decl_unbroken h.0 h.1.line (Name m) h.3.2.0 6) in
      let base : NameDeclares s (with_name h.0 line (first_class b.classes) (name_or_empty h.1.name) (formed b.of h.1.steps)) m = record { before = h.0; steady = f; goes = g; name = is } in
      subst (λ t. NameDeclares s t n) h.3.3.1.0
      (subst (λ n. NameDeclares s (with_name h.3.0 line (first_class b.classes) (name_or_empty h.3.1.name) (formed b.of h.3.1.steps)) n) h.3.3.1.1
      (subst (λ (v : State). NameDeclares s (with_name v line (first_class b.classes) (name_or_empty h.3.1.name) (formed b.of h.3.1.steps)) (naming v (first_class b.classes) (name_or_empty h.3.1.name) (formed b.of h.3.1.steps))) h.3.2.1.0
      (subst (λ (p : typing.Declared). NameDeclares s (with_name h.0 line (first_class b.classes) (name_or_empty p.name) (formed b.of p.steps)) (naming h.0 (first_class b.classes) (name_or_empty p.name) (formed b.of p.steps))) h.3.2.1.1 base)))

  -- the name, its initialiser, and what is known behind both
  whole_goes : (s t u : State) (line l place : ℕ) (n : Naming) (i : Option InitialiserTree) (f : Option Filled) → IsRegular s → NameDeclares s t n → TypesMaybeInitialiser t (initialised t (with_type_here t n)) i u f → Steady t u → IfSome f (λ g. EachNameStored (IfMeant u) g.places)
      → decl_fault u l (Whole (with_type n (type_filled (with_type_here t n).of f)) (is_some f)) ≡ None
      → DeclaresGo s (with_whole u (with_type n (type_filled (with_type_here t n).of f)) (is_some f)) (declares u line place n.of (with_type n (type_filled (with_type_here t n).of f)) i f)
  whole_goes s t u line l place n i f k d h e p z = by (is_linked n.linkage) refl
    where
      w : Initialised
      w = initialised t (with_type_here t n)

      m : Naming
      m = with_type n (type_filled w.of f)

      id : ℕ
      id = d.goes.id

      here : place_here u n.name ≡ Some id
      here = e.here n.name id d.goes.here

      old : IsEntry t (n.name, id)
      old = each_named (IsEntry t) t.inner n.name id d.goes.regular.inner d.goes.here

      entry : IsEntry u (n.name, id)
      entry = entry_keeps t u e.keeps (n.name, id) old

      untagged : is_tag (known_at u id).class ≡ false
      untagged = entry.tag ∙ ap not d.name

      same : known_at u id ≡ known_at t id
      same = e.same id old.below (old.tag ∙ ap not d.name)

      type : w.of ≡ (known_at u id).of
      type = ap (λ p. type_here t p n.of) d.goes.here ∙ ap (λ (k : Known). k.of) (sym same)

      absorbed : Absorbs m.of (known_at u id).of
      absorbed = subst (Absorbs m.of) type (filled_absorbs t w i u f h)

      started : Goes s d.before no_parts
      started = steady_goes types s d.before k d.steady

      outer : u.outer ≡ s.outer
      outer = e.outer ∙ (d.goes.outer ∙ d.steady.outer)

      linked : (j : ℕ) → is_linked n.linkage ≡ true → symbol_named t.links n.name ≡ Some j → link_of (known_at t d.goes.id) ≡ Some j → Absorbs (known_at t j).of n.of → DeclaresGo s (with_linked_whole u m (is_some f)) (linked_declares u line n.of m f)
      linked j q named link a =
          let now : symbol_named u.links n.name ≡ Some j = e.keeps.named n.name j named in
          let r : Linked = linked_name u line n.of m in
          let g = goes_then types s d.before t no_parts _ started (linked_adds d.before t n.name n.linkage n.of j r d.goes (ap or_zero now) refl named a) in
          let o = goes_steady types s t u _ g e in
          let v = linked_whole types u l m (is_some f) id j e.regular here entry q (ap link_of same ∙ link) z (filled_object t w i u f h) in
          let x = linked_defines u (with_linked_whole u m (is_some f)) line j m f now v (undefined_yet types u l m (is_some f) j now q z) d.name p in
          record { goes = goes_then types s u (with_linked_whole u m (is_some f)) _ _ o x; outer = v.notes.outer ∙ outer; fills = tt }

      alone : is_linked n.linkage ≡ false → DeclaresGo s (retyped u m.of (place_here u m.name)) (alone_declares u line place m i f)
      alone q =
          let g = goes_then types s d.before t no_parts no_parts started (alone_adds d.before t n.name n.linkage n.of d.goes q) in
          let o = goes_steady types s t u no_parts g e in
          let v = alone_whole u m.of n.name id e.regular here entry.below (ap link_of same ∙ d.goes.alone q) absorbed in
          let x = alone_gives u (retyped u m.of (place_here u m.name)) line place id m i f v.0 v.1 here entry untagged d.name p in
          record { goes = goes_then types s u (retyped u m.of (place_here u m.name)) no_parts _ o x.0; outer = v.0.outer ∙ outer; fills = x.1 }

      by : (b : Bool) → is_linked n.linkage ≡ b → DeclaresGo s (if b then with_linked_whole u m (is_some f) else retyped u m.of (place_here u m.name)) (if b then linked_declares u line n.of m f else alone_declares u line place m i f)
      by true q = let x = d.goes.linked q in linked x.0 q x.1 x.2 x.3
      by false q = alone q

  places_meant : (t u : State) (f : Option Filled) → IsRegular t → IfSome f (λ g. EachNameStored (StandsFor t u) g.places) → IfSome f (λ g. EachNameStored (IfMeant u) g.places)
  places_meant t u None k h = tt
  places_meant t u (Some g) k h = stored_meant types t u g.places k h

  pub init_goes : (s : State) (line : ℕ) (b : Specified) (i : InitTree) (u : State) (x : Declares) → TypesInit s line b i u x → IsRegular s → InitNames i → is_named i.declarator ≡ true → DeclaresGo s u x
  init_goes s line b i u x h k n e =
      let d = name_declares s line b i h.0 h.1 h.2 k n.0 e in
      let w : Initialised = initialised h.0 (with_type_here h.0 h.1) in
      let f = steps_steady types (laws.initialisers h.0 h.3.0 w i.initialiser h.3.1 n.1 h.3.2) d.goes.regular in
      let p = places_meant h.0 h.3.0 h.3.1 d.goes.regular (laws.stored h.0 h.3.0 w i.initialiser h.3.1 n.1 h.3.2) in
      let a = whole_goes s h.0 h.3.0 line i.line (local_count s) h.1 i.initialiser h.3.1 k d h.3.2 f p h.3.3.0 in
      subst (λ u. DeclaresGo s u x) h.3.3.1.0 (subst (DeclaresGo s (with_whole h.3.0 (with_type h.1 (type_filled w.of h.3.1)) (is_some h.3.1))) h.3.3.1.1 a)

  pub nothing_goes : (s : State) → IsRegular s → DeclaresGo s s nothing
  nothing_goes s k = record { goes = goes_itself s k; outer = refl; fills = tt }

  pub declares_then : (s t u : State) (a b : Declares) → DeclaresGo s t a → DeclaresGo t u b → DeclaresGo s u (together a b)
  declares_then s t u a b f g =
      record {
        goes = goes_then types s t u (parts_of a) (parts_of b) f.goes g.goes;
        outer = g.outer ∙ f.outer;
        fills = each_join (EachNameIn (IfMeant u)) a.fills b.fills (fills_keep t u g.goes.keeps a.fills f.fills) g.fills;
      }

  pub inits_go : (s : State) (line : ℕ) (b : Specified) (is : List InitTree) (u : State) (x : Declares) → TypesInits s line b is u x → IsRegular s → AllInitNames is → FitsInits is → DeclaresGo s u x
  inits_go s line b [] u x h k n e = subst (λ u. DeclaresGo s u x) h.0 (subst (DeclaresGo s s) h.1 (nothing_goes s k))
  inits_go s line b (i ∷ is) u x h k n e =
      let f = init_goes s line b i h.0 h.1 h.2 k n.0 e.0.0 in
      let g = inits_go h.0 line b is h.3.0 h.3.1 h.3.2 f.goes.regular n.1 e.1 in
      subst (λ u. DeclaresGo s u x) h.3.3.0 (subst (DeclaresGo s h.3.0) h.3.3.1 (declares_then s h.0 h.3.0 h.1 h.3.1 f g))

  -- steps before what is declared
  steady_declares : (s t u : State) (x : Declares) → IsRegular s → Steady s t → DeclaresGo t u x → DeclaresGo s u x
  steady_declares s t u x k f g = record { goes = goes_then types s t u no_parts (parts_of x) (steady_goes types s t k f) g.goes; outer = g.outer ∙ f.outer; fills = g.fills }

  pub declaration_goes : (s : State) (d : DeclarationTree) (u : State) (x : Declares) → TypesDeclaration s d u x → IsRegular s → DeclarationNames d → FitsDeclaration d → DeclaresGo s u x
  declaration_goes s d u x h k n e =
      let f = steps_steady types (laws.own s h.0 d.specifiers d.declarators h.1 n.0 h.2) k in
      let g = inits_go h.0 d.line h.1 d.declarators h.3.0 h.3.1 h.3.2 f.regular n.1 e.1 in
      subst (λ u. DeclaresGo s u x) h.3.3.1.0 (subst (DeclaresGo s h.3.0) h.3.3.1.1 (steady_declares s h.0 h.3.0 h.3.1 k f g))

  pub declarations_go : (s : State) (ds : List DeclarationTree) (u : State) (x : Declares) → TypesDeclarations s ds u x → IsRegular s → AllDeclarationNames ds → FitsDeclarations ds → DeclaresGo s u x
  declarations_go s [] u x h k n e = subst (λ u. DeclaresGo s u x) h.0 (subst (DeclaresGo s s) h.1 (nothing_goes s k))
  declarations_go s (d ∷ ds) u x h k n e =
      let f = declaration_goes s d h.0 h.1 h.2 k n.0 e.0 in
      let g = declarations_go h.0 ds h.3.0 h.3.1 h.3.2 f.goes.regular n.1 e.1 in
      subst (λ u. DeclaresGo s u x) h.3.3.0 (subst (DeclaresGo s h.3.0) h.3.3.1 (declares_then s h.0 h.3.0 h.1 h.3.1 f g))
