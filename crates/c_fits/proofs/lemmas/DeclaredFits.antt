-- What a declaration gives fits: its objects and locals are whole, and what they begin with lies in them.
use Rattle.std.proofs.Common.{◌≡◌, ℕ, true, false, not, ◌&&◌, ◌||◌, List, [], ◌∷◌, ◌++◌, refl, sym, ap, subst, ◌∙◌, inl, inr}
use Rattle.std.specs.Prelude.{Option, Some, None, is_some}
use Rattle.c_ast.specs.Levels.{FitsDeclaration, FitsInit, FitsInits, FitsOption}
use Rattle.c_ast.specs.Trees.{InitialiserTree, ByExpr, Braced, InitTree, DeclarationTree}
use Rattle.c_symbols.specs.Scoping.{symbol_named}
use Rattle.c_types.specs.CType.{CType, Plain, Array, Simple, Pointer, Function, Structure, Union, Enumeration}
use Rattle.c_types.specs.Layout.{Tag, extent}
use Rattle.c_meaning.specs.Declarations.{Declares, Defined, Naming, Whole, alone_declares, declares, decl_fault, defines, is_extern, is_static, is_typedef, linked_declares, linked_objects, local, nothing, object, one_object, or_zero, line_at, places_of, together, with_whole}
use Rattle.c_meaning.specs.Declaring.{initialised, type_filled, with_type, with_type_here}
use Rattle.c_meaning.specs.DeclaringRelation.{TypesDeclaration, TypesInit, TypesInitialiser, TypesInits, TypesMaybeInitialiser}
use Rattle.c_meaning.specs.Each.{EachIs}
use Rattle.c_meaning.specs.Filling.{sized}
use Rattle.c_meaning.specs.Initialising.{Filled, Initialised, Items, Value, can_be_initialised, init_fault, list_of, place_in, stored_elements, text_elements, value_of, whole, whole_node}
use Rattle.c_meaning.specs.Linkage.{is_linked, is_outside, local_count}
use Rattle.c_meaning.specs.State.{State, place_here}
use Rattle.c_meaning.specs.StmtTrees.{FilledOf, StmtOf, Initialise}
use Rattle.c_meaning.specs.TypeRows.{Specified}
use Rattle.c_meaning.specs.Types.{has_size, is_function}
use Rattle.c_fits.specs.Growing.{Grows}
use Rattle.c_fits.specs.OpenDeclares.{DeclaresFit, IsOpenFill, IsOpenLocal, IsOpenObject}
use Rattle.c_fits.specs.OpenPlaces.{AreOpenFilled, AreOpenOf}
use Rattle.c_fits.specs.Sound.{IsOld, IsSound, has_elements}
use Rattle.c_fits.proofs.lemmas.Booleans.{never, and_beside, not_false, negated, or_left, or_right, or_true}
use Rattle.c_fits.proofs.lemmas.Constraints.{decl_unbroken, init_unbroken}
use Rattle.c_fits.proofs.lemmas.Declared.{here_old, init_leads, inits_lead, maybe_initialiser_goes, maybe_old, name_goes, own_specifies}
use Rattle.c_fits.proofs.lemmas.Growing.{size_stays, sized_stays}
use Rattle.c_fits.proofs.lemmas.Initialisers.{initialiser_stores}
use Rattle.c_fits.proofs.lemmas.Items.{AllFilled, filled_open, filled_stays}
use Rattle.c_fits.proofs.lemmas.Leading.{old_stays, other_follows, with_whole_leads}
use Rattle.c_fits.proofs.lemmas.Values.{chosen_by}

-- ---- more definitions

open_filled : (tags : List Tag) (size : ℕ) (ps : List (FilledOf CType)) → AreOpenFilled tags size ps → AllFilled tags (Some (size, 0)) ps
open_filled tags size [] h = tt
open_filled tags size (p ∷ ps) h = (h.0, open_filled tags size ps h.1)

pub of_stays : (old new : List Tag) (of : CType) (ps : List (FilledOf CType)) → Grows old new → AreOpenOf old of ps → AreOpenOf new of ps
of_stays old new of ps g h = (h.0, size_stays old new g of h.0 h.1, filled_open new h.0 0 ps (filled_stays old new (Some (h.0, 0)) ps g (open_filled old h.0 ps h.2)))

pub objects_stay : (old new : List Tag) (os : List Defined) → Grows old new → EachIs (IsOpenObject old) os → EachIs (IsOpenObject new) os
objects_stay old new [] g h = tt
objects_stay old new (o ∷ os) g h = ((h.0.0, of_stays old new o.object.of o.object.places g h.0.1), objects_stay old new os g h.1)

pub locals_stay : (old new : List Tag) (ts : List CType) → Grows old new → EachIs (IsOpenLocal old) ts → EachIs (IsOpenLocal new) ts
locals_stay old new [] g h = tt
locals_stay old new (t ∷ ts) g h = (sized_stays old new g t h.0, locals_stay old new ts g h.1)

fill_stays : (old new : List Tag) (s : StmtOf CType) → Grows old new → IsOpenFill old s → IsOpenFill new s
fill_stays old new (Initialise place zero ps) g h = (h.0, of_stays old new h.0 ps g h.1)
fill_stays old new s g h = absurd h

pub fills_stay : (old new : List Tag) (ss : List (StmtOf CType)) → Grows old new → EachIs (IsOpenFill old) ss → EachIs (IsOpenFill new) ss
fills_stay old new [] g h = tt
fills_stay old new (s ∷ ss) g h = (fill_stays old new s g h.0, fills_stay old new ss g h.1)

pub declares_stay : (old new : List Tag) (d : Declares) → Grows old new → DeclaresFit old d → DeclaresFit new d
declares_stay old new d g h = record { objects = objects_stay old new d.objects g h.objects; locals = locals_stay old new d.locals g h.locals; fills = fills_stay old new d.fills g h.fills }

pub each_join : {A : Type 0} (P : A → Type 0) (xs ys : List A) → EachIs P xs → EachIs P ys → EachIs P (xs ++ ys)
each_join P [] ys h k = k
each_join P (x ∷ xs) ys h k = (h.0, each_join P xs ys h.1 k)

pub together_fit : (tags : List Tag) (a b : Declares) → DeclaresFit tags a → DeclaresFit tags b → DeclaresFit tags (together a b)
together_fit tags a b h k =
    record {
      objects = each_join (IsOpenObject tags) a.objects b.objects h.objects k.objects;
      locals = each_join (IsOpenLocal tags) a.locals b.locals h.locals k.locals;
      fills = each_join (IsOpenFill tags) a.fills b.fills h.fills k.fills;
    }

pub nothing_fits : (tags : List Tag) → DeclaresFit tags nothing
nothing_fits tags = record { objects = tt; locals = tt; fills = tt }

-- ---- what is initialised is an object

sized_function : (t : CType) (n : ℕ) → is_function (sized t n) ≡ is_function t
sized_function (Array of None) n = refl
sized_function (Array of (Some m)) n = refl
sized_function (Plain q k) n = refl

-- a function has no size
fit_function : (tags : List Tag) (t : CType) → can_be_initialised tags t ≡ true → is_function t ≡ false
fit_function tags (Plain q (Function r ps)) h = never (sym h)
fit_function tags (Plain q (Simple b)) h = refl
fit_function tags (Plain q (Pointer to)) h = refl
fit_function tags (Plain q (Structure n)) h = refl
fit_function tags (Plain q (Union n)) h = refl
fit_function tags (Plain q (Enumeration n)) h = refl
fit_function tags (Array of n) h = refl

-- it isn't barred, and no function
abbrev IsInitialised : Initialised → Filled → Type 0
IsInitialised o f = (o.barred ≡ false) × (is_function f.of ≡ false)

whole_initialised : (s u : State) (l : ℕ) (o : Initialised) (form : _) (f : Filled) (n : ℕ) → init_fault u l (whole_node s o form f.of) ≡ None → f.of ≡ sized o.of n → IsInitialised o f
whole_initialised s u l o form f n h e = (
  init_unbroken u l (whole_node s o form f.of) h 22,
  ap is_function e ∙ sized_function o.of n ∙ fit_function s.tags o.of (not_false (can_be_initialised s.tags o.of) (init_unbroken u l (whole_node s o form f.of) h 27)),
)

initialiser_is : (s : State) (o : Initialised) (i : InitialiserTree) (u : State) (f : Filled) → TypesInitialiser s o i u f → IsInitialised o f
initialiser_is s o (ByExpr l e) u f h = subst (IsInitialised o) h.3.1.1 (whole_initialised s h.0 l o (Value (place_in (whole s.tags o.of)) h.1) (value_of s o h.1) (text_elements o.of h.1) h.3.0 refl)
initialiser_is s o (Braced l items comma) u f h = subst (IsInitialised o) h.3.1.1 (whole_initialised s h.0 l o (Items h.1.excess false) (list_of o h.1) (stored_elements h.1.left h.1.places) h.3.0 refl)

-- ---- one name

-- where it is an object that is defined here, it has a size, and its places lie in it
abbrev IsWhole : List Tag → Naming → Option Filled → Type 0
IsWhole tags n f = is_typedef n.class ≡ false → is_function n.of ≡ false → (is_some f || not (is_linked n.linkage)) ≡ true → AreOpenOf tags n.of (places_of f)

abbrev StoresIn : State → Naming → Option Filled → Type 0
StoresIn u n f = has_size u.tags n.of ≡ true → AreOpenOf u.tags n.of (places_of f)

object_whole : (u : State) (l : ℕ) (n : Naming) (f : Option Filled) → decl_fault u l (Whole n (is_some f)) ≡ None → StoresIn u n f → IsWhole u.tags n f
object_whole u l n f h k t c d =
    k (not_false (has_size u.tags n.of) (and_beside (defines n (is_some f)) (not (has_size u.tags n.of)) (rw (t, c, d)) (decl_unbroken u l (Whole n (is_some f)) h 16)))

pub size_of_nothing : (tags : List Tag) (t : CType) → has_size tags t ≡ true → AreOpenOf tags t []
size_of_nothing tags t h = by (extent tags t).size refl h
  where
    by : (o : Option ℕ) → (extent tags t).size ≡ o → is_some o ≡ true → AreOpenOf tags t []
    by (Some n) e h = (n, e, tt)
    by None e h = never (sym h)

-- what its initialiser stores, if it has one
maybe_stores : (s : State) (o : Initialised) (i : Option InitialiserTree) (u : State) (f : Option Filled) → TypesMaybeInitialiser s o i u f → IsSound s → FitsOption i → has_elements s.tags o.of ≡ true → has_size u.tags (type_filled o.of f) ≡ true → AreOpenOf u.tags (type_filled o.of f) (places_of f)
maybe_stores s o None u f h k g e z =
    subst (λ f. has_size u.tags (type_filled o.of f) ≡ true → AreOpenOf u.tags (type_filled o.of f) (places_of f)) h.1 (size_of_nothing u.tags o.of) z
maybe_stores s o (Some i) u f h k g e z =
    subst (λ f. has_size u.tags (type_filled o.of f) ≡ true → AreOpenOf u.tags (type_filled o.of f) (places_of f)) h.3.1
    (subst (λ (u : State). has_size u.tags h.1.of ≡ true → AreOpenOf u.tags h.1.of h.1.places) h.3.0 (initialiser_stores s o i h.0 h.1 h.2 k g e)) z

-- an initialiser stands on an object that is no typedef
abbrev IsObject : Initialised → Option Filled → CType → Type 0
IsObject o f of = is_some f ≡ true → (o.barred ≡ false) × (is_function of ≡ false)

maybe_is : (s : State) (o : Initialised) (i : Option InitialiserTree) (u : State) (f : Option Filled) → TypesMaybeInitialiser s o i u f → IsObject o f (type_filled o.of f)
maybe_is s o None u f h = subst (λ f. IsObject o f (type_filled o.of f)) h.1 (λ e. never (sym e))
maybe_is s o (Some i) u f h = subst (λ f. IsObject o f (type_filled o.of f)) h.3.1 (λ e. initialiser_is s o i h.0 h.1 h.2)

object_fits : (tags : List Tag) (id line : ℕ) (n : Naming) (f : Option Filled) → AreOpenOf tags n.of (places_of f) → EachIs (IsOpenObject tags) (object id line n f ∷ [])
object_fits tags id line n f h = ((refl, h), tt)

local_fits : (tags : List Tag) (place : ℕ) (of : CType) (i : Option InitialiserTree) (f : Option Filled) → AreOpenOf tags of (places_of f) → DeclaresFit tags (local place of i f)
local_fits tags place of i None h = record { objects = tt; locals = (rw h.1, tt); fills = tt }
local_fits tags place of i (Some f) h = record { objects = tt; locals = (rw h.1, tt); fills = ((of, h), tt) }

alone_fits : (s : State) (tags : List Tag) (line place : ℕ) (n : Naming) (i : Option InitialiserTree) (f : Option Filled) → IsWhole tags n f → is_linked n.linkage ≡ false → DeclaresFit tags (alone_declares s line place n i f)
alone_fits s tags line place n i f w l =
    chosen_by (DeclaresFit tags) (is_typedef n.class || is_function n.of) nothing _ (λ e. nothing_fits tags)
    (λ e.
    let h = w (or_left (is_typedef n.class) (is_function n.of) e) (or_right (is_typedef n.class) (is_function n.of) e) (or_true (is_some f) (not (is_linked n.linkage)) (inr (negated (is_linked n.linkage) l))) in
    chosen_by (DeclaresFit tags) (is_static n.class) (one_object (object (or_zero (place_here s n.name)) line n f)) (local place n.of i f)
    (λ k. record { objects = object_fits tags (or_zero (place_here s n.name)) line n f h; locals = tt; fills = tt }) (λ k. local_fits tags place n.of i f h))

linked_fit : (s : State) (tags : List Tag) (line : ℕ) (n : Naming) (f : Option Filled) → IsWhole tags n f → (is_some f ≡ true → (is_typedef n.class ≡ false) × (is_function n.of ≡ false)) → EachIs (IsOpenObject tags) (linked_objects s line n f)
linked_fit s tags line n f w o =
    chosen_by (EachIs (IsOpenObject tags)) (is_some f) (object (or_zero (symbol_named s.links n.name)) (line_at s line (symbol_named s.links n.name)) n f ∷ []) []
    (λ e. let k = o e in object_fits tags (or_zero (symbol_named s.links n.name)) (line_at s line (symbol_named s.links n.name)) n f (w k.0 k.1 (or_true (is_some f) (not (is_linked n.linkage)) (inl e)))) (λ e. tt)

name_fits : (s : State) (tags : List Tag) (line place : ℕ) (of : CType) (n : Naming) (i : Option InitialiserTree) (f : Option Filled) → IsWhole tags n f → (is_some f ≡ true → (is_typedef n.class ≡ false) × (is_function n.of ≡ false)) → DeclaresFit tags (declares s line place of n i f)
name_fits s tags line place of n i f w o =
    chosen_by (DeclaresFit tags) (is_linked n.linkage) (linked_declares s line of n f) (alone_declares s line place n i f)
    (λ e. record { objects = linked_fit s tags line n f w o; locals = tt; fills = tt }) (λ e. alone_fits s tags line place n i f w e)

pub init_fits : (s : State) (line : ℕ) (b : Specified) (i : InitTree) (u : State) (x : Declares) → TypesInit s line b i u x → IsSound s → IsOld s b.of → FitsInit i → DeclaresFit u.tags x
init_fits s line b i u x h k o g =
    let n = name_goes s line b i h.0 h.1 h.2 k o in
    let w : Initialised = initialised h.0 (with_type_here h.0 h.1) in
    let f = maybe_initialiser_goes h.0 w i.initialiser h.3.0 h.3.1 h.3.2 n.0.sound in
    let old : IsOld h.0 w.of = here_old h.0 (place_here h.0 h.1.name) h.1.of n.0.sound n.1.1 in
    let v : Naming = with_type h.1 (type_filled w.of h.3.1) in
    let last = with_whole_leads h.3.0 v (is_some h.3.1) n.1.0.0 f.sound (maybe_old h.0 w i.initialiser h.3.0 h.3.1 h.3.2 (old_stays h.0 h.3.0 w.of f.count f.tags old)) (other_follows h.0 h.3.0 h.1.name n.1.0.0 f n.1.0.1) in
    let whole = object_whole h.3.0 i.line v h.3.1 h.3.3.0 (maybe_stores h.0 w i.initialiser h.3.0 h.3.1 h.3.2 n.0.sound g.2 old.1) in
    let objects = maybe_is h.0 w i.initialiser h.3.0 h.3.1 h.3.2 in
    let all = name_fits h.3.0 h.3.0.tags line (local_count s) h.1.of v i.initialiser h.3.1 whole (λ e. let k = objects e in (or_left (is_typedef v.class) (is_extern v.class && not (is_outside h.0)) k.0, k.1)) in
    subst (λ (u : State). DeclaresFit u.tags x) h.3.3.1.0 (subst (DeclaresFit (with_whole h.3.0 v (is_some h.3.1)).tags) h.3.3.1.1
    (declares_stay h.3.0.tags (with_whole h.3.0 v (is_some h.3.1)).tags (declares h.3.0 line (local_count s) h.1.of v i.initialiser h.3.1) last.tags all))

pub inits_fit : (s : State) (line : ℕ) (b : Specified) (is : List InitTree) (u : State) (x : Declares) → TypesInits s line b is u x → IsSound s → IsOld s b.of → FitsInits is → DeclaresFit u.tags x
inits_fit s line b [] u x h k o g = subst (DeclaresFit u.tags) h.1 (nothing_fits u.tags)
inits_fit s line b (i ∷ is) u x h k o g =
    let f = init_leads s line b i h.0 h.1 h.2 k o in
    let d = old_stays s h.0 b.of f.count f.tags o in
    let m = inits_lead h.0 line b is h.3.0 h.3.1 h.3.2 f.sound d in
    let a = init_fits s line b i h.0 h.1 h.2 k o g.0 in
    let c = inits_fit h.0 line b is h.3.0 h.3.1 h.3.2 f.sound d g.1 in
    subst (λ (u : State). DeclaresFit u.tags x) h.3.3.0 (subst (DeclaresFit h.3.0.tags) h.3.3.1 (together_fit h.3.0.tags h.1 h.3.1 (declares_stay h.0.tags h.3.0.tags h.1 m.tags a) c))

pub declaration_fits : (s : State) (d : DeclarationTree) (u : State) (x : Declares) → TypesDeclaration s d u x → IsSound s → FitsDeclaration d → DeclaresFit u.tags x
declaration_fits s d u x h k g =
    let f = own_specifies s d.specifiers d.declarators h.0 h.1 h.2 k in
    let c = inits_fit h.0 d.line h.1 d.declarators h.3.0 h.3.1 h.3.2 f.0.sound (λ n l. let u = f.0.sound.fresh n l in f.1.0 n u, f.1.1) g.1 in
    subst (λ (u : State). DeclaresFit u.tags x) h.3.3.1.0 (subst (DeclaresFit h.3.0.tags) h.3.3.1.1 c)
