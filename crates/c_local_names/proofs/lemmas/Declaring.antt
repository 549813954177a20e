-- What declarations declare: their locals are the next, and what these begin with lies in them; others than locals' names add none.
use Rattle.c_fits.proofs.lemmas.Leading.{old_stays}
use Rattle.std.proofs.lemmas.List.{append_assoc}
use Rattle.std.proofs.Common.{◌≡◌, ℕ, ◌≤◌, Bool, true, false, not, ◌&&◌, ◌||◌, List, [], ◌∷◌, ◌++◌, length, refl, sym, ap, subst, ◌∙◌, inl, inr, le_trans, lt_of_lt_of_le}
use Rattle.std.specs.Prelude.{pos, IfSome, Option, Some, None, is_some, nat_eq, slice_get, if◌then◌else◌}
use Rattle.c_ast.specs.declared.specifier.Storage.{Storage as StorageClass}
use Rattle.c_ast.specs.declared.specifier.Storage.TheVariants as class
use Rattle.c_ast.specs.Levels.{FitsInit, FitsOption, has_name, is_named, FitsDeclaration, FitsInits}
use Rattle.c_ast.specs.Trees.{DeclaratorTree, Declarator, CoreTree, Named as NamedCore, Inner, Omitted, InitialiserTree, InitTree, ByExpr, Braced, DeclarationTree}
use Rattle.c_symbols.specs.Scoping.{symbol_named}
use Rattle.c_symbols.specs.declared.symbol.Storage.{Storage}
use Rattle.c_types.specs.CType.{CType, Plain, Array}
use Rattle.c_types.specs.Compatible.{compatible}
use Rattle.c_types.specs.Layout.{Tag}
use Rattle.c_meaning.specs.declared.core_expr.CoreKind.{CoreKind}
use Rattle.c_meaning.specs.declared.core_expr.CoreKind.TheVariants as kind
use Rattle.c_meaning.specs.Declarations.{Declares, Defined, Naming, Name, Whole, alone_declares, decl_fault, declares, defines, fills_of, has_other_linkage, is_again, is_function_class, is_inner_class, is_static, is_typedef, line_at, linked_declares, local, nothing, object, one_object, or_zero, places_of, retyped, with_whole, together, Outside}
use Rattle.c_meaning.specs.Declaring.{first_class, initialised, naming, type_filled, type_here, with_type, with_type_here, line_of}
use Rattle.c_meaning.specs.DeclaringRelation.{IsDecl, TypesInit, TypesInitialiser, TypesMaybeInitialiser, TypesInits, IsOutside, TypesDeclaration}
use Rattle.c_meaning.specs.Each.{EachIs}
use Rattle.c_meaning.specs.Filling.{sized}
use Rattle.c_meaning.specs.Initialising.{Filled, Initialised, stored_elements, text_elements}
use Rattle.c_meaning.specs.Linkage.{Linkage, Alone, Internal, External, earlier, is_linked, is_outside, linkage, linkage_at, linkage_without_class, local_count, or_external, plain, with_alone, with_local, with_name, with_name_of}
use Rattle.c_meaning.specs.Linkage as linkage
use Rattle.c_meaning.specs.Nodes.{Typing}
use Rattle.c_meaning.specs.Nodes as node
use Rattle.c_meaning.specs.State.{Known, State, known_at, place_here, place_of}
use Rattle.c_meaning.specs.StmtTrees.{StmtOf, Initialise}
use Rattle.c_meaning.specs.TypeRows.{Specified, formed, name_or_empty}
use Rattle.c_meaning.specs.Types.{has_size, is_function}
use Rattle.c_meaning.specs.Typing.{Declared}
use Rattle.c_meaning.specs.TypingRelation.{IsAt, Then, TypesCore, TypesDeclarator}
use Rattle.c_meaning.specs.Units.{text_type}
use Rattle.c_tree_names.specs.Names.{CoreNames, DeclaratorNames, InitNames, MaybeInitialiserNames, AllInitNames, DeclarationNames}
use Rattle.c_typing_steps.specs.Laws.{StepLaws}
use Rattle.c_typing_steps.specs.Names.{EachNameStored, IfName, StandsFor}
use Rattle.c_fits.specs.Growing.{Grows}
use Rattle.c_fits.specs.OpenPlaces.{AreOpenOf}
use Rattle.c_fits.specs.Sound.{IsOld, IsSound, has_elements}
use Rattle.c_fits.proofs.lemmas.Booleans.{and_beside, never, not_false, or_left}
use Rattle.c_fits.proofs.lemmas.Constraints.{decl_unbroken}
use Rattle.c_fits.proofs.lemmas.Declared.{here_old, name_goes, init_leads, inits_lead, own_specifies}
use Rattle.c_fits.proofs.lemmas.DeclaredFits.{of_stays, each_join}
use Rattle.c_fits.proofs.lemmas.Initialisers.{initialiser_stores}
use Rattle.c_fits.proofs.lemmas.Values.{chosen_by}
use Rattle.c_local_names.specs.LocalNames.{IfLocal, IsOwn}
use Rattle.c_local_names.proofs.lemmas.Itself.{compatible_itself, compatible_sized}
use Rattle.c_local_names.proofs.lemmas.Keeping.{Adds, Counted, Stays, other_stays, then_adds, same_adds}
use Rattle.c_local_names.proofs.lemmas.Knowing.{Begins, IsPlaced, Knows, adds_know, begins_itself, get_begun, get_next, name_local, nothing_behind, other_placed}
use Rattle.c_local_names.proofs.lemmas.Names.{each_name_stored}
use Rattle.c_local_names.proofs.lemmas.Naming.{IsOtherAt, SameOthers, is_local, local_class, local_count_is, local_next, local_retyped, name_adds, named_by, none_again, whole_adds}
use Rattle.c_local_names.proofs.lemmas.Scopes.{IsSome, name_some, named_has}
use Rattle.c_local_names.proofs.lemmas.Stepping.{steps_add}

-- ---- string literals have their types

abbrev pub IfText : CoreKind → CType → Type 0
IfText (kind.Literal bytes) of = of ≡ text_type bytes
IfText what of = Unit {0}

pub name_text : (s u : State) (what : CoreKind) (of : CType) → IfName (StandsFor s u) what of → IfName IfText what of
name_text s u (kind.Local place register) of h = tt
name_text s u (kind.Symbol id) of h = tt
name_text s u (kind.Literal bytes) of h = h
name_text s u what of h = tt

-- in what an object begins with
abbrev pub HasTexts : Defined → Type 0
HasTexts o = EachNameStored IfText o.object.places

some_texts : (s u : State) (f : Option Filled) → IfSome f (λ g. EachNameStored (StandsFor s u) g.places) → EachNameStored IfText (places_of f)
some_texts s u None h = tt
some_texts s u (Some f) h = each_name_stored (StandsFor s u) IfText (name_text s u) f.places h

-- ---- what locals begin with

-- it lies in its local, and its names are those of locals
abbrev pub FillOwn : List Tag → List CType → StmtOf CType → Type 0
FillOwn tags locals (Initialise place zero ps) = IsOwn tags locals place ps × EachNameStored (IfLocal locals) ps
FillOwn tags locals s = ⊥

more_named : (all locals : List CType) → Begins all locals → (what : CoreKind) (of : CType) → IfName (IfLocal locals) what of → IfName (IfLocal all) what of
more_named all locals b (kind.Local place register) of h = (h.0, get_begun all locals place h.0 b h.1, h.2)
more_named all locals b (kind.Symbol id) of h = tt
more_named all locals b (kind.Literal bytes) of h = h
more_named all locals b what of h = tt

pub fill_later : (old new : List Tag) (all locals : List CType) (f : StmtOf CType) → Grows old new → Begins all locals → FillOwn old locals f → FillOwn new all f
fill_later old new all locals (Initialise place zero ps) g b h =
    let o = h.0 in ((o.0, get_begun all locals place o.0 b o.1, of_stays old new o.0 ps g o.2), each_name_stored (IfLocal locals) (IfLocal all) (more_named all locals b) ps h.1)
fill_later old new all locals f g b h = absurd h

pub fills_later : (old new : List Tag) (all locals : List CType) (fs : List (StmtOf CType)) → Grows old new → Begins all locals → EachIs (FillOwn old locals) fs → EachIs (FillOwn new all) fs
fills_later old new all locals [] g b h = tt
fills_later old new all locals (f ∷ fs) g b h = (fill_later old new all locals f g b h.0, fills_later old new all locals fs g b h.1)

-- ---- a declarator's name

abbrev pub HasName : Declared → Type 0
HasName p = IsSome (name_or_empty p.name)

mutual
  pub declarator_name : (s : State) (d : DeclaratorTree) (u : State) (p : Declared) → TypesDeclarator s d u p → is_named d ≡ true → DeclaratorNames d → HasName p
  declarator_name s (Declarator l pointers core _) u p h e n = subst HasName h.3.3.1 (core_name s core h.0 h.1 h.2 e n.0)

  core_name : (s : State) (c : CoreTree) (u : State) (p : Declared) → TypesCore s c u p → has_name c ≡ true → CoreNames c → HasName p
  core_name s (NamedCore x) u p h e n = subst HasName h.1 (name_some x n)
  core_name s (Inner d) u p h e n = declarator_name s d u p h e n
  core_name s Omitted u p h e n = never (sym e)

-- ---- which names are locals'

alone_linkage : (c : Option StorageClass) (l : Linkage) → is_local c l ≡ true → l ≡ Alone
alone_linkage c Alone e = refl
alone_linkage c Internal e = never (sym e)
alone_linkage c External e = never (sym e)

earlier_other : (c : Option StorageClass) (l : Linkage) → is_local c (or_external l) ≡ false
earlier_other c Alone = refl
earlier_other c Internal = refl
earlier_other c External = refl

static_other : (l : Linkage) → is_local (Some class.Static) l ≡ false
static_other Alone = refl
static_other Internal = refl
static_other External = refl

-- in a block a local is no function
local_object : (s : State) (c : Option StorageClass) (name : List ℕ) (f : Bool) → is_local c (linkage s c name f) ≡ true → (not (is_outside s) && (f && not (is_function_class c))) ≡ false → is_outside s ≡ false → f ≡ false
local_object s c name false e k d = refl
local_object s None name true e k d = never (sym e ∙ earlier_other None (linkage_at s (place_of s name)))
local_object s (Some class.Extern) name true e k d = never (sym e ∙ earlier_other (Some class.Extern) (linkage_at s (place_of s name)))
local_object s (Some class.Static) name true e k d = never (sym e ∙ static_other (linkage s (Some class.Static) name true))
local_object s (Some class.Typedef) name true e k d = never (sym e)
local_object s (Some class.Auto) name true e k d = never (sym (ap (λ b. not b && true) d) ∙ k)
local_object s (Some class.Register) name true e k d = never (sym (ap (λ b. not b && true) d) ∙ k)

without_class_other : (s : State) (name : List ℕ) (f : Bool) → is_outside s ≡ true → is_local None (linkage_without_class s name f) ≡ false
without_class_other s name true d = earlier_other None (linkage_at s (place_of s name))
without_class_other s name false d = ap (λ b. is_local None (if b then External else Alone)) d

-- at file scope no name is a local's
pub outside_other : (s : State) (classes : List StorageClass) (name : List ℕ) (f : Bool) → is_outside s ≡ true → is_inner_class classes ≡ false → is_local (first_class classes) (linkage s (first_class classes) name f) ≡ false
outside_other s [] name f d e = without_class_other s name f d
outside_other s (class.Extern ∷ cs) name f d e = earlier_other (Some class.Extern) (linkage_at s (place_of s name))
outside_other s (class.Static ∷ cs) name f d e = static_other (linkage s (Some class.Static) name f)
outside_other s (class.Typedef ∷ cs) name f d e = refl
outside_other s (class.Auto ∷ cs) name f d e = never e
outside_other s (class.Register ∷ cs) name f d e = never e

-- ---- what comes of a name

-- others than locals
pub record DeclaresOther (o : Option ℕ) (s u : State) (x : Declares) : Type 0 where
  pub adds : Adds o s u
  pub locals : x.locals ≡ []
  pub fills : x.fills ≡ []
  pub objects : EachIs HasTexts x.objects

-- in a function with these locals
pub record DeclaresIn (c : ℕ) (locals : List CType) (s u : State) (x : Declares) : Type 0 where
  pub knows : Knows (Some c) (locals ++ x.locals) u
  pub outer : u.outer ≡ s.outer
  pub symbols : length s.symbols ≤ length u.symbols
  pub others : SameOthers s u
  pub fills : EachIs (FillOwn u.tags (locals ++ x.locals)) x.fills
  pub objects : EachIs HasTexts x.objects

pub adds_others : (o : Option ℕ) (s u : State) → Adds o s u → SameOthers s u
adds_others o s u f id l e = other_stays (known_at s id) (known_at u id) (f.keeps.known id l) e

pub others_then : (s t u : State) → length s.symbols ≤ length t.symbols → SameOthers s t → SameOthers t u → SameOthers s u
others_then s t u l f g id m e = g id (lt_of_lt_of_le m l) (f id m e)

other_in : (c : ℕ) (locals : List CType) (s u : State) (x : Declares) → DeclaresOther (Some c) s u x → Knows (Some c) locals s → DeclaresIn c locals s u x
other_in c locals s u x d h =
    record {
      knows = subst (λ ls. Knows (Some c) ls u) (sym (ap (λ ls. locals ++ ls) d.locals ∙ nothing_behind locals)) (adds_know (Some c) locals s u d.adds h);
      outer = d.adds.keeps.outer;
      symbols = d.adds.keeps.symbols;
      others = adds_others (Some c) s u d.adds;
      fills = subst (EachIs (FillOwn u.tags (locals ++ x.locals))) (sym d.fills) tt;
      objects = d.objects;
    }

-- ---- the type that an initialiser gives

filled_compatible : (s : State) (o : Initialised) (i : Option InitialiserTree) (u : State) (f : Option Filled) → TypesMaybeInitialiser s o i u f → compatible o.of (type_filled o.of f) ≡ true
filled_compatible s o None u f h = subst (λ f. compatible o.of (type_filled o.of f) ≡ true) h.1 (compatible_itself o.of)
filled_compatible s o (Some i) u f h = subst (λ f. compatible o.of (type_filled o.of f) ≡ true) h.3.1 (by i h.0 h.1 h.2)
  where
    by : (i : InitialiserTree) (v : State) (g : Filled) → TypesInitialiser s o i v g → compatible o.of g.of ≡ true
    by (ByExpr l e) v g h = subst (λ (g : Filled). compatible o.of g.of ≡ true) h.3.1.1 (compatible_sized o.of (text_elements o.of h.1))
    by (Braced l items comma) v g h = subst (λ (g : Filled). compatible o.of g.of ≡ true) h.3.1.1 (compatible_sized o.of (stored_elements h.1.left h.1.places))

sized_function : (t : CType) (n : ℕ) → is_function (sized t n) ≡ is_function t
sized_function (Array of None) n = refl
sized_function (Array of (Some m)) n = refl
sized_function (Plain q k) n = refl

filled_function : (s : State) (o : Initialised) (i : Option InitialiserTree) (u : State) (f : Option Filled) → TypesMaybeInitialiser s o i u f → is_function (type_filled o.of f) ≡ is_function o.of
filled_function s o None u f h = subst (λ f. is_function (type_filled o.of f) ≡ is_function o.of) h.1 refl
filled_function s o (Some i) u f h = subst (λ f. is_function (type_filled o.of f) ≡ is_function o.of) h.3.1 (by i h.0 h.1 h.2)
  where
    by : (i : InitialiserTree) (v : State) (g : Filled) → TypesInitialiser s o i v g → is_function g.of ≡ is_function o.of
    by (ByExpr l e) v g h = subst (λ (g : Filled). is_function g.of ≡ is_function o.of) h.3.1.1 (sized_function o.of (text_elements o.of h.1))
    by (Braced l items comma) v g h = subst (λ (g : Filled). is_function g.of ≡ is_function o.of) h.3.1.1 (sized_function o.of (stored_elements h.1.left h.1.places))

-- ---- what a name declares

abbrev AreOthers : Declares → Type 0
AreOthers d = (d.locals ≡ []) × (d.fills ≡ []) × EachIs HasTexts d.objects

declares_other : (s : State) (line place : ℕ) (of : CType) (n : Naming) (i : Option InitialiserTree) (f : Option Filled) → is_local n.class n.linkage ≡ false → EachNameStored IfText (places_of f) → AreOthers (declares s line place of n i f)
declares_other s line place of n i f e h =
    chosen_by AreOthers (is_linked n.linkage) (linked_declares s line of n f) (alone_declares s line place n i f)
    (λ l. (refl, refl, chosen_by (EachIs HasTexts) (is_some f) (object (or_zero (symbol_named s.links n.name)) (line_at s line (symbol_named s.links n.name)) n f ∷ []) [] (λ g. (h, tt)) (λ g. tt)))
    (λ l. chosen_by AreOthers (is_typedef n.class || is_function n.of) nothing _ (λ g. (refl, refl, tt))
    (λ g. chosen_by AreOthers (is_static n.class) (one_object (object (or_zero (place_here s n.name)) line n f)) (local place n.of i f) (λ k. (refl, refl, (h, tt)))
    (λ k. never (sym (local_is n.class n.linkage l (or_left (is_typedef n.class) (is_function n.of) g) k) ∙ e))))
  where
    local_is : (c : Option StorageClass) (l : Linkage) → is_linked l ≡ false → is_typedef c ≡ false → is_static c ≡ false → is_local c l ≡ true
    local_is c l a b d = rw (a, b, d)

declares_local : (s : State) (line place : ℕ) (of final : CType) (c : Option StorageClass) (name : List ℕ) (i : Option InitialiserTree) (f : Option Filled) → is_local c Alone ≡ true → is_function final ≡ false
    → declares s line place of (record { class = c; name = name; of = final; linkage = Alone }) i f ≡ local place final i f
declares_local s line place of final (Some class.Typedef) name i f e g = never (sym e)
declares_local s line place of final (Some class.Static) name i f e g = never (sym e)
declares_local s line place of final (Some class.Extern) name i f e g = ap (λ b. if b then nothing else local place final i f) g
declares_local s line place of final (Some class.Auto) name i f e g = ap (λ b. if b then nothing else local place final i f) g
declares_local s line place of final (Some class.Register) name i f e g = ap (λ b. if b then nothing else local place final i f) g
declares_local s line place of final None name i f e g = ap (λ b. if b then nothing else local place final i f) g

defines_by : (f i : Bool) → f ≡ false → (not f && (i || true)) ≡ true
defines_by true i e = never e
defines_by false true e = refl
defines_by false false e = refl

local_defines : (c : Option StorageClass) (name : List ℕ) (final : CType) (initialised : Bool) → is_local c Alone ≡ true → is_function final ≡ false → defines (record { class = c; name = name; of = final; linkage = Alone }) initialised ≡ true
local_defines (Some class.Typedef) name final initialised e g = never (sym e)
local_defines (Some class.Static) name final initialised e g = never (sym e)
local_defines (Some class.Extern) name final initialised e g = defines_by (is_function final) initialised g
local_defines (Some class.Auto) name final initialised e g = defines_by (is_function final) initialised g
local_defines (Some class.Register) name final initialised e g = defines_by (is_function final) initialised g
local_defines None name final initialised e g = defines_by (is_function final) initialised g

-- ---- a name and its initialiser

abbrev naming_as : Option StorageClass → Linkage → List ℕ → CType → Naming
naming_as c l name of = record { class = c; name = name; of = of; linkage = l }

-- what stands behind a name's declarator
abbrev InitRest : ℕ → ℕ → InitTree → State → Naming → State → Declares → Type 0
InitRest place line i t n =
    Then (TypesMaybeInitialiser t (initialised t (with_type_here t n)) i.initialiser) (λ u f.
    IsDecl u i.line (Whole (with_type n (type_filled (with_type_here t n).of f)) (is_some f)) (with_whole u (with_type n (type_filled (with_type_here t n).of f)) (is_some f)) (declares u line place n.of (with_type n (type_filled (with_type_here t n).of f)) i.initialiser f))

-- where what is known is sound
abbrev SoundRest : ℕ → ℕ → InitTree → State → Naming → State → Declares → Type 0
SoundRest place line i t n u x = IsSound t × (has_elements t.tags (with_type_here t n).of ≡ true) × InitRest place line i t n u x

retyped_tags : (s : State) (of : CType) (p : Option ℕ) → (retyped s of p).tags ≡ s.tags
retyped_tags s of None = refl
retyped_tags s of (Some id) = refl

-- what its declarator makes of it
named_as : (s : State) (line : ℕ) (b : Specified) (p : Declared) (t : State) (n : Naming)
    → Then (IsDecl s p.line (Name (naming s (first_class b.classes) (name_or_empty p.name) (formed b.of p.steps))) s p) (λ s p.
    IsAt s p.line (Typing (node.Declarator b.of p.steps)) (with_name s line (first_class b.classes) (name_or_empty p.name) (formed b.of p.steps)) (naming s (first_class b.classes) (name_or_empty p.name) (formed b.of p.steps))) t n
    → (decl_fault s p.line (Name (naming s (first_class b.classes) (name_or_empty p.name) (formed b.of p.steps))) ≡ None)
    × (with_name s line (first_class b.classes) (name_or_empty p.name) (formed b.of p.steps) ≡ t) × (naming s (first_class b.classes) (name_or_empty p.name) (formed b.of p.steps) ≡ n)
named_as s line b p t n h = (
  h.2.0,
  subst (λ (s : State). with_name s line (first_class b.classes) (name_or_empty p.name) (formed b.of p.steps) ≡ t) (sym h.2.1.0)
      (subst (λ (p : Declared). with_name h.0 line (first_class b.classes) (name_or_empty p.name) (formed b.of p.steps) ≡ t) (sym h.2.1.1) h.3.1.0),
  subst (λ (s : State). naming s (first_class b.classes) (name_or_empty p.name) (formed b.of p.steps) ≡ n) (sym h.2.1.0)
      (subst (λ (p : Declared). naming h.0 (first_class b.classes) (name_or_empty p.name) (formed b.of p.steps) ≡ n) (sym h.2.1.1) h.3.1.1),
)

again_of : (s : State) (line : ℕ) (n : Naming) → decl_fault s line (Name n) ≡ None → is_again s n.linkage (place_here s n.name) ≡ false
again_of s line n h = or_left (is_again s n.linkage (place_here s n.name)) (has_other_linkage s n.linkage (symbol_named s.links n.name)) (decl_unbroken s line (Name n) h 5)

then_in : (c : ℕ) (locals : List CType) (s t u : State) (x : Declares) → Adds (Some c) s t → DeclaresIn c locals t u x → DeclaresIn c locals s u x
then_in c locals s t u x f d =
    record {
      knows = d.knows;
      outer = d.outer ∙ f.keeps.outer;
      symbols = le_trans f.keeps.symbols d.symbols;
      others = others_then s t u f.keeps.symbols (adds_others (Some c) s t f) d.others;
      fills = d.fills;
      objects = d.objects;
    }

pub nothing_other : (o : Option ℕ) (s : State) → Counted o s → DeclaresOther o s s nothing
nothing_other o s c = record { adds = same_adds o s c; locals = refl; fills = refl; objects = tt }

pub together_other : (o : Option ℕ) (s t u : State) (a b : Declares) → DeclaresOther o s t a → DeclaresOther o t u b → DeclaresOther o s u (together a b)
together_other o s t u a b h k =
    record {
      adds = then_adds o s t u h.adds k.adds;
      locals = ap (λ (ls : List CType). ls ++ b.locals) h.locals ∙ k.locals;
      fills = ap (λ (fs : List (StmtOf CType)). fs ++ b.fills) h.fills ∙ k.fills;
      objects = each_join HasTexts a.objects b.objects h.objects k.objects;
    }

pub nothing_in : (c : ℕ) (locals : List CType) (s : State) → Knows (Some c) locals s → DeclaresIn c locals s s nothing
nothing_in c locals s k = other_in c locals s s nothing (nothing_other (Some c) s k.counted) k

pub together_in : (c : ℕ) (locals : List CType) (s t u : State) (a b : Declares) → Grows t.tags u.tags → DeclaresIn c locals s t a → DeclaresIn c (locals ++ a.locals) t u b → DeclaresIn c locals s u (together a b)
together_in c locals s t u a b g h k =
    record {
      knows = subst (λ ls. Knows (Some c) ls u) same k.knows;
      outer = k.outer ∙ h.outer;
      symbols = le_trans h.symbols k.symbols;
      others = others_then s t u h.symbols h.others k.others;
      fills =
          each_join (FillOwn u.tags (locals ++ (a.locals ++ b.locals))) a.fills b.fills
          (fills_later t.tags u.tags (locals ++ (a.locals ++ b.locals)) (locals ++ a.locals) a.fills g (b.locals, sym same) h.fills)
          (subst (λ ls. EachIs (FillOwn u.tags ls) b.fills) same k.fills);
      objects = each_join HasTexts a.objects b.objects h.objects k.objects;
    }
  where
    same : (locals ++ a.locals) ++ b.locals ≡ locals ++ (a.locals ++ b.locals)
    same = append_assoc locals a.locals b.locals

pub outside_classes : (s : State) (line : ℕ) (b d : Specified) (u : State) → IsOutside true s line b u d → is_inner_class d.classes ≡ false
outside_classes s line b d u h = subst (λ (d : Specified). is_inner_class d.classes ≡ false) h.1.1 (decl_unbroken s line (Outside b.classes) h.0 3)

module _ (laws : StepLaws) where
  other_rest : (o : Option ℕ) (s : State) (place line : ℕ) (i : InitTree) (c : Option StorageClass) (l : Linkage) (name : List ℕ) (of : CType) (u : State) (x : Declares)
      → is_local c l ≡ false → is_again s l (place_here s name) ≡ false → Counted o s → IsSome name → MaybeInitialiserNames i.initialiser → InitRest place line i (with_name_of s line c l name of) (naming_as c l name of) u x → DeclaresOther o s u x
  other_rest o s place line i c l name of u x e a h n m r =
      let t : State = with_name_of s line c l name of in
      let w : Initialised = initialised t (with_type_here t (naming_as c l name of)) in
      let v : Naming = naming_as c l name (type_filled w.of r.1) in
      let f = name_adds o s line c l name of e a h n in
      let g = steps_add o t r.0 (laws.initialisers t r.0 w i.initialiser r.1 m r.2) f.0.keeps.counted in
      let k = f.1 in
      let at : IsOtherAt r.0 name = (k.0, g.here name k.0 k.1, other_stays (known_at t k.0) (known_at r.0 k.0) (g.keeps.known k.0 (f.0.keeps.counted.below name k.0 (inr (named_has t.inner name k.0 k.1)))) k.2) in
      let z = whole_adds o r.0 v (is_some r.1) g.keeps.counted n at in
      let y = declares_other r.0 line place of v i.initialiser r.1 e (some_texts t r.0 r.1 (laws.stored t r.0 w i.initialiser r.1 m r.2)) in
      let d : DeclaresOther o s (with_whole r.0 v (is_some r.1)) (declares r.0 line place of v i.initialiser r.1) =
      record { adds = then_adds o s r.0 (with_whole r.0 v (is_some r.1)) (then_adds o s t r.0 f.0 g) z; locals = y.0; fills = y.1; objects = y.2 } in
      subst (λ u. DeclaresOther o s u x) r.3.1.0 (subst (DeclaresOther o s (with_whole r.0 v (is_some r.1))) r.3.1.1 d)

  -- what is stored in a local lies in it
  fills_own : (c : ℕ) (all : List CType) (t u : State) (place : ℕ) (o : Initialised) (i : Option InitialiserTree) (f : Option Filled)
      → TypesMaybeInitialiser t o i u f → IsSound t → has_elements t.tags o.of ≡ true → FitsOption i → MaybeInitialiserNames i → has_size u.tags (type_filled o.of f) ≡ true → Knows (Some c) all t → slice_get all place ≡ Some (type_filled o.of f)
      → EachIs (FillOwn u.tags all) (fills_of place (type_filled o.of f) i f)
  fills_own c all t u place o None f h k z g m e w a = subst (λ f. EachIs (FillOwn u.tags all) (fills_of place (type_filled o.of f) None f)) h.1 tt
  fills_own c all t u place o (Some i) f h k z g0 m e w a = by f h.3.1 (laws.stored t u o (Some i) f m h) e a
    where
      by : (f : Option Filled) → Some h.1 ≡ f → IfSome f (λ g. EachNameStored (StandsFor t u) g.places) → has_size u.tags (type_filled o.of f) ≡ true → slice_get all place ≡ Some (type_filled o.of f) → EachIs (FillOwn u.tags all) (fills_of place (type_filled o.of f) (Some i) f)
      by None q n e a = absurd (let none : ⊥ = cc in none)
      by (Some g) q n e a =
          let same : h.1 ≡ g = cc in
          let y : AreOpenOf u.tags g.of g.places =
          subst (λ (g : Filled). has_size u.tags g.of ≡ true → AreOpenOf u.tags g.of g.places) same (subst (λ (u : State). has_size u.tags h.1.of ≡ true → AreOpenOf u.tags h.1.of h.1.places) h.3.0 (initialiser_stores t o i h.0 h.1 h.2 k g0 z)) e in
          (((g.of, a, y), each_name_stored (StandsFor t u) (IfLocal all) (name_local (Some c) all all t u w (begins_itself all)) g.places n), tt)

  local_rest : (c : ℕ) (locals : List CType) (s : State) (place line : ℕ) (i : InitTree) (cl : Option StorageClass) (name : List ℕ) (of : CType) (u : State) (x : Declares)
      → is_local cl Alone ≡ true → is_function of ≡ false → place_here s name ≡ None → place ≡ length locals → Knows (Some c) locals s → IsSome name → MaybeInitialiserNames i.initialiser → FitsOption i.initialiser
      → SoundRest place line i (with_alone s line cl name of) (naming_as cl Alone name of) u x → DeclaresIn c locals s u x
  local_rest c locals s place line i cl name of u x e b p q h n m y r =
      let a = local_class cl e in
      local_as a.0 (subst (λ t. SoundRest place line i t (naming_as cl Alone name of) u x) (a.1 s line name of) r)
    where
      local_as : (k : Storage) → SoundRest place line i (with_local s line name k of) (naming_as cl Alone name of) u x → DeclaresIn c locals s u x
      local_as k r =
          let t : State = with_local s line name k of in
          let known : Known = plain s line k of (Some (pos (local_count s))) in
          let w : Initialised = initialised t (with_type_here t (naming_as cl Alone name of)) in
          let z = r.2 in
          let final : CType = type_filled w.of z.1 in
          let v : Naming = naming_as cl Alone name final in
          let id = length s.symbols in
          let first = local_next c locals of s line name k of h n p (compatible_itself of) in
          let here : w.of ≡ of = ap (λ o. type_here t o of) first.here ∙ ap (λ (k : Known). k.of) first.known in
          let fits : compatible of final ≡ true = subst (λ t. compatible t final ≡ true) here (filled_compatible t w i.initialiser z.0 z.1 z.2) in
          let object : is_function final ≡ false = filled_function t w i.initialiser z.0 z.1 z.2 ∙ (ap is_function here ∙ b) in
          let all : List CType = locals ++ final ∷ [] in
          let next = local_next c locals final s line name k of h n p fits in
          let g = steps_add (Some c) t z.0 (laws.initialisers t z.0 w i.initialiser z.1 m z.2) next.knows.counted in
          let knows = adds_know (Some c) all t z.0 g next.knows in
          let stays : Stays known (known_at z.0 id) = subst (λ k. Stays k (known_at z.0 id)) next.known (g.keeps.known id (next.knows.counted.below name id (inr (named_has t.inner name id next.here)))) in
          let placed : IsPlaced all (linkage.with_type (known_at z.0 id) final) = retyped_placed k all final (known_at z.0 id) stays (ap (slice_get all) (local_count_is c locals s h) ∙ get_next locals final []) in
          let last = local_retyped c all final z.0 name id knows n (g.here name id next.here) placed in
          let behind : State = retyped z.0 final (place_here z.0 name) in
          let is : declares z.0 line place of v i.initialiser z.1 ≡ local place final i.initialiser z.1 = declares_local z.0 line place of final cl name i.initialiser z.1 e object in
          let size : has_size z.0.tags final ≡ true = not_false (has_size z.0.tags final) (and_beside (defines v (is_some z.1)) (not (has_size z.0.tags final)) (local_defines cl name final (is_some z.1) e object) (decl_unbroken z.0 i.line (Whole v (is_some z.1)) z.3.0 16)) in
          let fills = fills_own c all t z.0 place w i.initialiser z.1 z.2 r.0 r.1 y m size next.knows (ap (slice_get all) q ∙ get_next locals final []) in
          let d : DeclaresIn c locals s behind (local place final i.initialiser z.1) =
          record {
            knows = last.0;
            outer = last.1 ∙ (g.keeps.outer ∙ next.outer);
            symbols = le_trans next.symbols (le_trans g.keeps.symbols last.3);
            others = others_then s t behind next.symbols next.others (others_then t z.0 behind g.keeps.symbols (adds_others (Some c) t z.0 g) last.2);
            fills = subst (λ tags. EachIs (FillOwn tags all) (fills_of place final i.initialiser z.1)) (sym (retyped_tags z.0 final (place_here z.0 name))) fills;
            objects = tt;
          } in
          subst (λ u. DeclaresIn c locals s u x) z.3.1.0 (subst (DeclaresIn c locals s behind) (sym is ∙ z.3.1.1) d)
        where
          retyped_placed : (k : Storage) (all : List CType) (final : CType) (new : Known) → Stays (plain s line k of (Some (pos (local_count s)))) new → slice_get all (local_count s) ≡ Some final → IsPlaced all (linkage.with_type new final)
          retyped_placed k all final new (inl e) g = subst (λ (k : Known). IsPlaced all (linkage.with_type k final)) (sym e) (named_by all k (Some (pos (local_count s))) final final g (compatible_itself final))
          retyped_placed k all final new (inr e) g = other_placed all (linkage.with_type new final) e

  -- ---- one name

  init_other : (o : Option ℕ) (s : State) (line : ℕ) (b : Specified) (i : InitTree) (u : State) (x : Declares) → TypesInit s line b i u x → is_named i.declarator ≡ true → InitNames i → Counted o s
      → ((t : State) → t.outer ≡ s.outer → (name : List ℕ) (f : Bool) → is_local (first_class b.classes) (linkage t (first_class b.classes) name f) ≡ false) → DeclaresOther o s u x
  init_other o s line b i u x h e n c l =
      let t = h.2.0 in
      let p = h.2.1 in
      let f = steps_add o s t (laws.declarators s t i.declarator p n.0 h.2.2) c in
      let a = named_as t line b p h.0 h.1 h.2.3 in
      let cl = first_class b.classes in
      let name = name_or_empty p.name in
      let of = formed b.of p.steps in
      let k = linkage t cl name (is_function of) in
      let m = declarator_name s i.declarator t p h.2.2 e n.0 in
      let r = subst (λ (v : State). InitRest (local_count s) line i v (naming t cl name of) u x) (sym a.1) (subst (λ (n : Naming). InitRest (local_count s) line i h.0 n u x) (sym a.2) h.3) in
      let d = other_rest o t (local_count s) line i cl k name of u x (l t f.keeps.outer name (is_function of)) (again_of t p.line (naming t cl name of) a.0) f.keeps.counted m n.1 r in
      record { adds = then_adds o s t u f d.adds; locals = d.locals; fills = d.fills; objects = d.objects }

  init_in : (c : ℕ) (locals : List CType) (s : State) (line : ℕ) (b : Specified) (i : InitTree) (u : State) (x : Declares) → TypesInit s line b i u x → IsSound s → IsOld s b.of → FitsInit i → InitNames i → Knows (Some c) locals s → is_outside s ≡ false → DeclaresIn c locals s u x
  init_in c locals s line b i u x h z old g n k d = by (is_local cl l) refl
    where
      t : State
      t = h.2.0

      p : Declared
      p = h.2.1

      cl : Option StorageClass
      cl = first_class b.classes

      name : List ℕ
      name = name_or_empty p.name

      of : CType
      of = formed b.of p.steps

      l : Linkage
      l = linkage t cl name (is_function of)

      f : Adds (Some c) s t
      f = steps_add (Some c) s t (laws.declarators s t i.declarator p n.0 h.2.2) k.counted

      m : HasName p
      m = declarator_name s i.declarator t p h.2.2 g.0 n.0

      by : (q : Bool) → is_local cl l ≡ q → DeclaresIn c locals s u x
      by false e =
          let a = named_as t line b p h.0 h.1 h.2.3 in
          let r = subst (λ (v : State). InitRest (local_count s) line i v (naming t cl name of) u x) (sym a.1) (subst (λ (n : Naming). InitRest (local_count s) line i h.0 n u x) (sym a.2) h.3) in
          let y = other_rest (Some c) t (local_count s) line i cl l name of u x e (again_of t p.line (naming t cl name of) a.0) f.keeps.counted m n.1 r in
          then_in c locals s t u x f (other_in c locals t u x y (adds_know (Some c) locals s t f k))
      by true e =
          let a = named_as t line b p h.0 h.1 h.2.3 in
          let j = name_goes s line b i h.0 h.1 h.2 z old in
          let w = here_old h.0 (place_here h.0 h.1.name) h.1.of j.0.sound j.1.1 in
          let rest : SoundRest (local_count s) line i h.0 h.1 u x = (j.0.sound, w.1, h.3) in
          let r = subst (λ (v : State). SoundRest (local_count s) line i v (naming t cl name of) u x) (sym a.1) (subst (λ (n : Naming). SoundRest (local_count s) line i h.0 n u x) (sym a.2) rest) in
          let alone = alone_linkage cl l e in
          let again = again_of t p.line (naming t cl name of) a.0 in
          let outside : is_outside t ≡ false = ap (λ ss. nat_eq (length ss) 0) f.keeps.outer ∙ d in
          let object = local_object t cl name (is_function of) e (decl_unbroken t p.line (Name (naming t cl name of)) a.0 3) outside in
          then_in c locals s t u x f
          (local_rest c locals t (local_count s) line i cl name of u x (subst (λ l. is_local cl l ≡ true) alone e) object
          (none_again t (place_here t name) (subst (λ l. is_again t l (place_here t name) ≡ false) alone again)) (local_count_is c locals s k) (adds_know (Some c) locals s t f k) m n.1 g.2
          (subst (λ l. SoundRest (local_count s) line i (with_name_of t line cl l name of) (naming_as cl l name of) u x) alone r))

  -- ---- declarators, one behind the other

  inits_other : (o : Option ℕ) (s : State) (line : ℕ) (b : Specified) (is : List InitTree) (u : State) (x : Declares) → TypesInits s line b is u x → FitsInits is → AllInitNames is → Counted o s
      → ((t : State) → t.outer ≡ s.outer → (name : List ℕ) (f : Bool) → is_local (first_class b.classes) (linkage t (first_class b.classes) name f) ≡ false) → DeclaresOther o s u x
  inits_other o s line b [] u x h g n c l = subst (λ u. DeclaresOther o s u x) h.0 (subst (DeclaresOther o s s) h.1 (nothing_other o s c))
  inits_other o s line b (i ∷ is) u x h g n c l =
      let f = init_other o s line b i h.0 h.1 h.2 g.0.0 n.0 c l in
      let k = inits_other o h.0 line b is h.3.0 h.3.1 h.3.2 g.1 n.1 f.adds.keeps.counted (λ t e. l t (e ∙ f.adds.keeps.outer)) in
      subst (λ u. DeclaresOther o s u x) h.3.3.0 (subst (DeclaresOther o s h.3.0) h.3.3.1 (together_other o s h.0 h.3.0 h.1 h.3.1 f k))

  inits_in : (c : ℕ) (locals : List CType) (s : State) (line : ℕ) (b : Specified) (is : List InitTree) (u : State) (x : Declares) → TypesInits s line b is u x → IsSound s → IsOld s b.of → FitsInits is → AllInitNames is → Knows (Some c) locals s → is_outside s ≡ false → DeclaresIn c locals s u x
  inits_in c locals s line b [] u x h z old g n k d = subst (λ u. DeclaresIn c locals s u x) h.0 (subst (DeclaresIn c locals s s) h.1 (nothing_in c locals s k))
  inits_in c locals s line b (i ∷ is) u x h z old g n k d =
      let f = init_in c locals s line b i h.0 h.1 h.2 z old g.0 n.0 k d in
      let a = init_leads s line b i h.0 h.1 h.2 z old in
      let e = old_stays s h.0 b.of a.count a.tags old in
      let m = inits_lead h.0 line b is h.3.0 h.3.1 h.3.2 a.sound e in
      let y = inits_in c (locals ++ h.1.locals) h.0 line b is h.3.0 h.3.1 h.3.2 a.sound e g.1 n.1 f.knows (ap (λ ss. nat_eq (length ss) 0) f.outer ∙ d) in
      subst (λ u. DeclaresIn c locals s u x) h.3.3.0 (subst (DeclaresIn c locals s h.3.0) h.3.3.1 (together_in c locals s h.0 h.3.0 h.1 h.3.1 m.tags f y))

  -- ---- declarations

  -- at file scope
  pub declaration_other : (s : State) (d : DeclarationTree) (u : State) (x : Declares) → TypesDeclaration s d u x → FitsDeclaration d → DeclarationNames d → Counted None s → is_outside s ≡ true → DeclaresOther None s u x
  declaration_other s d u x h g n c out =
      let f = steps_add None s h.0 (laws.own s h.0 d.specifiers d.declarators h.1 n.0 h.2) c in
      let z = h.2 in
      let t = z.0 in
      let inside = steps_add None s t (laws.inside s t d.specifiers d.declarators z.1 n.0 z.2) c in
      let at : is_outside t ≡ true = ap (λ ss. nat_eq (length ss) 0) inside.keeps.outer ∙ out in
      let e = outside_classes t (line_of d.specifiers) z.1 h.1 h.0 (subst (λ b. IsOutside b t (line_of d.specifiers) z.1 h.0 h.1) at z.3) in
      let k = inits_other None h.0 d.line h.1 d.declarators h.3.0 h.3.1 h.3.2 g.1 n.1 f.keeps.counted
      (λ v o name i. outside_other v h.1.classes name i (ap (λ ss. nat_eq (length ss) 0) (o ∙ f.keeps.outer) ∙ out) e) in
      let all : DeclaresOther None s h.3.0 h.3.1 = record { adds = then_adds None s h.0 h.3.0 f k.adds; locals = k.locals; fills = k.fills; objects = k.objects } in
      subst (λ u. DeclaresOther None s u x) h.3.3.1.0 (subst (DeclaresOther None s h.3.0) h.3.3.1.1 all)

  -- in a function
  pub declaration_in : (c : ℕ) (locals : List CType) (s : State) (d : DeclarationTree) (u : State) (x : Declares) → TypesDeclaration s d u x → IsSound s → FitsDeclaration d → DeclarationNames d → Knows (Some c) locals s → is_outside s ≡ false → DeclaresIn c locals s u x
  declaration_in c locals s d u x h z g n k out =
      let f = steps_add (Some c) s h.0 (laws.own s h.0 d.specifiers d.declarators h.1 n.0 h.2) k.counted in
      let a = own_specifies s d.specifiers d.declarators h.0 h.1 h.2 z in
      let old : IsOld h.0 h.1.of = (λ m l. let u = a.0.sound.fresh m l in a.1.0 m u, a.1.1) in
      let y = inits_in c locals h.0 d.line h.1 d.declarators h.3.0 h.3.1 h.3.2 a.0.sound old g.1 n.1 (adds_know (Some c) locals s h.0 f k) (ap (λ ss. nat_eq (length ss) 0) f.keeps.outer ∙ out) in
      subst (λ u. DeclaresIn c locals s u x) h.3.3.1.0 (subst (DeclaresIn c locals s h.3.0) h.3.3.1.1 (then_in c locals s h.0 h.3.0 h.3.1 f y))
