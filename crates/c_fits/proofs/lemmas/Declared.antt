-- What is known behind an initialiser follows what was known before it, and what is known behind a declaration leads on from it.
use Rattle.std.proofs.Common.{◌≡◌, ℕ, Bool, true, false, List, [], ◌∷◌, refl, sym, subst, ◌∙◌}
use Rattle.std.specs.Prelude.{Option, Some, None, is_some}
use Rattle.c_ast.specs.declared.specifier.RecordKind.{RecordKind}
use Rattle.c_ast.specs.Trees.{SpecifiersTree, Specified as SpecifiersOf, NoSpecifiers, Specifiers, RecordTag, InitialiserTree, ByExpr, Braced, InitialiserTrees, NoInitialisers, Initialisers, InitTree, DeclarationTree}
use Rattle.c_types.specs.CType.{CType, Plain, Array}
use Rattle.c_meaning.specs.Declarations.{Declares as Declared, Naming}
use Rattle.c_meaning.specs.Declaring.{alone, alone_at, first_class, initialised, line_of, naming, type_filled, type_here, with_type, with_type_here}
use Rattle.c_meaning.specs.DeclaringRelation.{IsOutside, TypesAlone, TypesDeclaration, TypesInit, TypesInitialiser, TypesInits, TypesInside, TypesItem, TypesItems, TypesLone, TypesMaybeInitialiser, TypesName, TypesOwnSpecifiers}
use Rattle.c_meaning.specs.Filling.{Waiting, begun_in, next, sized}
use Rattle.c_meaning.specs.Initialising.{Filled, Initialised, Stored, is_scalar_at, stored_elements, text_elements, whole}
use Rattle.c_meaning.specs.Linkage.{is_outside, with_name}
use Rattle.c_meaning.specs.Constraints.{fault_at}
use Rattle.c_meaning.specs.Nodes.{Whole as WholeType, Typing}
use Rattle.c_meaning.specs.Nodes as node
use Rattle.c_meaning.specs.TypingRelation.{TypesSpecifiers}
use Rattle.c_types.specs.Layout.{Tag}
use Rattle.c_meaning.specs.State.{State, place_here}
use Rattle.c_meaning.specs.TypeRows.{Specified, formed, name_or_empty, record_type, specified, tag_key}
use Rattle.c_meaning.specs.Types.{is_scalar}
use Rattle.c_meaning.specs.Typing as typing
use Rattle.c_fits.specs.Sound.{Follows, IsNamed, IsOld, IsSound, Leads, has_elements, is_of}
use Rattle.c_fits.proofs.lemmas.Constraints.{unbroken}
use Rattle.c_fits.proofs.lemmas.Elements.{alone_elements, formed_elements, specifiers_elements, whole_elements}
use Rattle.c_fits.proofs.lemmas.Following.{same_follows, tag_follows}
use Rattle.c_fits.proofs.lemmas.Kinds.{elements_of_record, is_of_record}
use Rattle.c_fits.proofs.lemmas.Leading.{IsOther, follows_leads, known_old, old_stays, other_follows, same_leads, then_leads, with_name_declares, with_whole_leads}
use Rattle.c_fits.proofs.lemmas.Types.{formed_apart, specified_apart, tag_named}
use Rattle.c_fits.proofs.lemmas.Walk.{Goes, declarator_goes, expr_goes, go, specifiers_go, stay}

-- ---- initialisers

mutual
  pub items_go : (s : State) (static scalar : Bool) (ws : List Waiting) (is : InitialiserTrees) (u : State) (x : Stored) → TypesItems s static scalar ws is u x → Goes s u
  items_go s static scalar ws NoInitialisers u x h = stay h.0
  items_go s static scalar ws (Initialisers i is) u x h = go (item_goes s static scalar ws i h.0 h.1 h.2) (go (items_go h.0 static scalar h.1.left is h.3.0 h.3.1 h.3.2) (stay h.3.3.0))

  pub item_goes : (s : State) (static scalar : Bool) (ws : List Waiting) (i : InitialiserTree) (u : State) (x : Stored) → TypesItem s static scalar ws i u x → Goes s u
  item_goes s static scalar ws (ByExpr l e) u x h = go (expr_goes s e h.0 h.1 h.2) (stay h.3.1.0)
  item_goes s static scalar ws (Braced l items comma) u x h =
      go (items_go s static (is_scalar_at (next s.tags ws)) (begun_in s.tags items (next s.tags ws)) items h.0 h.1 h.2) (stay h.3.1.0)

pub initialiser_goes : (s : State) (o : Initialised) (i : InitialiserTree) (u : State) (f : Filled) → TypesInitialiser s o i u f → Goes s u
initialiser_goes s o (ByExpr l e) u f h = go (expr_goes s e h.0 h.1 h.2) (stay h.3.1.0)
initialiser_goes s o (Braced l items comma) u f h = go (items_go s o.static (is_scalar o.of) (begun_in s.tags items (whole s.tags o.of)) items h.0 h.1 h.2) (stay h.3.1.0)

pub maybe_initialiser_goes : (s : State) (o : Initialised) (i : Option InitialiserTree) (u : State) (f : Option Filled) → TypesMaybeInitialiser s o i u f → Goes s u
maybe_initialiser_goes s o None u f h = stay h.0
maybe_initialiser_goes s o (Some i) u f h = go (initialiser_goes s o i h.0 h.1 h.2) (stay h.3.0)

-- an initialiser completes a type at most
sized_apart : (n k : ℕ) (t : CType) → is_of n t ≡ false → is_of n (sized t k) ≡ false
sized_apart n k (Array of None) h = refl
sized_apart n k (Array of (Some m)) h = h
sized_apart n k (Plain q t) h = h

initialiser_apart : (s : State) (o : Initialised) (i : InitialiserTree) (u : State) (f : Filled) (n : ℕ) → TypesInitialiser s o i u f → is_of n o.of ≡ false → is_of n f.of ≡ false
initialiser_apart s o (ByExpr l e) u f n h k = subst (λ (f : Filled). is_of n f.of ≡ false) h.3.1.1 (sized_apart n (text_elements o.of h.1) o.of k)
initialiser_apart s o (Braced l items comma) u f n h k = subst (λ (f : Filled). is_of n f.of ≡ false) h.3.1.1 (sized_apart n (stored_elements h.1.left h.1.places) o.of k)

maybe_apart : (s : State) (o : Initialised) (i : Option InitialiserTree) (u : State) (f : Option Filled) (n : ℕ) → TypesMaybeInitialiser s o i u f → is_of n o.of ≡ false → is_of n (type_filled o.of f) ≡ false
maybe_apart s o None u f n h k = subst (λ f. is_of n (type_filled o.of f) ≡ false) h.1 k
maybe_apart s o (Some i) u f n h k = subst (λ f. is_of n (type_filled o.of f) ≡ false) h.3.1 (initialiser_apart s o i h.0 h.1 n h.2 k)

-- its elements stay what they are
sized_elements : (tags : List Tag) (k : ℕ) (t : CType) → has_elements tags t ≡ true → has_elements tags (sized t k) ≡ true
sized_elements tags k (Array of None) h = h
sized_elements tags k (Array of (Some m)) h = h
sized_elements tags k (Plain q t) h = h

initialiser_elements : (s : State) (tags : List Tag) (o : Initialised) (i : InitialiserTree) (u : State) (f : Filled) → TypesInitialiser s o i u f → has_elements tags o.of ≡ true → has_elements tags f.of ≡ true
initialiser_elements s tags o (ByExpr l e) u f h k = subst (λ (f : Filled). has_elements tags f.of ≡ true) h.3.1.1 (sized_elements tags (text_elements o.of h.1) o.of k)
initialiser_elements s tags o (Braced l items comma) u f h k = subst (λ (f : Filled). has_elements tags f.of ≡ true) h.3.1.1 (sized_elements tags (stored_elements h.1.left h.1.places) o.of k)

maybe_elements : (s : State) (tags : List Tag) (o : Initialised) (i : Option InitialiserTree) (u : State) (f : Option Filled) → TypesMaybeInitialiser s o i u f → has_elements tags o.of ≡ true → has_elements tags (type_filled o.of f) ≡ true
maybe_elements s tags o None u f h k = subst (λ f. has_elements tags (type_filled o.of f) ≡ true) h.1 k
maybe_elements s tags o (Some i) u f h k = subst (λ f. has_elements tags (type_filled o.of f) ≡ true) h.3.1 (initialiser_elements s tags o i h.0 h.1 h.2 k)

-- ---- specifiers

abbrev pub Specifies : State → State → Specified → Type 0
Specifies s u b = Follows s u × (IsNamed u b.of × (has_elements u.tags b.of ≡ true))

alone_follows : (s : State) (l : ℕ) (k : RecordKind) (tag : List ℕ) → IsSound s → Follows s (alone s l k tag).state × IsNamed (alone s l k tag).state (alone s l k tag).of
alone_follows s l k tag h = by (place_here s (tag_key tag))
  where
    by : (o : Option ℕ) → Follows s (alone_at s l k tag o).state × IsNamed (alone_at s l k tag o).state (alone_at s l k tag o).of
    by (Some id) = (same_follows s h, λ n u. u.unmentioned id)
    by None = (tag_follows s l tag (record_type k s.count) None h (λ n e. is_of_record k n s.count ∙ e) (elements_of_record s.tags k s.count), tag_named s l tag (record_type k s.count) None)

whole_named : (s : State) (t : CType) → IsNamed s t → IsNamed s (specified (WholeType t ∷ [])).of
whole_named s t h n u = specified_apart n (WholeType t ∷ []) (h n u, tt)

alone_specifies : (s : State) (line l : ℕ) (k : RecordKind) (tag : List ℕ) (u : State) (b : Specified) → TypesAlone s line l k tag u b → IsSound s → Specifies s u b
alone_specifies s line l k tag u b h g =
    let a = alone_follows s l k tag g in
    let c : Follows s h.0 × (IsNamed h.0 h.1 × (has_elements h.0.tags h.1 ≡ true)) =
    subst (λ (t : State). Follows s t × (IsNamed t h.1 × (has_elements t.tags h.1 ≡ true))) h.2.1.0
    (a.0, subst (λ t. IsNamed (alone s l k tag).state t × (has_elements (alone s l k tag).state.tags t ≡ true)) h.2.1.1 (a.1, alone_elements s l k tag g)) in
    subst (λ u. Specifies s u b) h.3.1.0 (subst (λ b. Specifies s h.0 b) h.3.1.1 (c.0, (whole_named h.0 h.1 c.1.0, whole_elements h.0.tags h.1 c.1.1)))

pub list_specifies : (s : State) (specs : SpecifiersTree) (u : State) (b : Specified) → TypesSpecifiers s specs u b → IsSound s → Specifies s u b
list_specifies s specs u b h g = let f = specifiers_go s specs u b h g in (f.0, (f.1, specifiers_elements s specs u b h g))

lone_specifies : (s : State) (specs : SpecifiersTree) (u : State) (b : Specified) → TypesLone s specs u b → IsSound s → Specifies s u b
lone_specifies s (SpecifiersOf line (Specifiers (RecordTag l k tag) NoSpecifiers)) u b h g = alone_specifies s line l k tag u b h g
lone_specifies s specs u b h g = list_specifies s specs u b h g

pub inside_specifies : (s : State) (specs : SpecifiersTree) (is : List InitTree) (u : State) (b : Specified) → TypesInside s specs is u b → IsSound s → Specifies s u b
inside_specifies s specs [] u b h g = lone_specifies s specs u b h g
inside_specifies s specs (i ∷ is) u b h g = list_specifies s specs u b h g

pub outside_is : (o : Bool) (s : State) (line : ℕ) (b : Specified) (u : State) (c : Specified) → IsOutside o s line b u c → (s ≡ u) × (b ≡ c)
outside_is true s line b u c h = h.1
outside_is false s line b u c h = h

pub own_specifies : (s : State) (specs : SpecifiersTree) (is : List InitTree) (u : State) (b : Specified) → TypesOwnSpecifiers s specs is u b → IsSound s → Specifies s u b
own_specifies s specs is u b h g =
    let e = outside_is (is_outside h.0) h.0 (line_of specs) h.1 u b h.3 in
    subst (λ u. Specifies s u b) e.0 (subst (λ b. Specifies s h.0 b) e.1 (inside_specifies s specs is h.0 h.1 h.2 g))

-- ---- declared names

-- a name is declared with a type that is no later structure
abbrev pub Names : State → State → Naming → Type 0
Names s t n = Leads s t × (((id : ℕ) × IsOther t n.name id) × IsOld t n.of)

-- the arrays of a declarator whose node breaks nothing
formed_checked : (s t : State) (p q : typing.Declared) (of : CType) → s ≡ t → p ≡ q → fault_at t q.line (Typing (node.Declarator of q.steps)) ≡ None → has_elements s.tags of ≡ true → has_elements s.tags (formed of p.steps) ≡ true
formed_checked s t p q of e g h k =
    let f : fault_at s p.line (Typing (node.Declarator of p.steps)) ≡ None =
    subst (λ (s : State). fault_at s p.line (Typing (node.Declarator of p.steps)) ≡ None) (sym e) (subst (λ (p : typing.Declared). fault_at t p.line (Typing (node.Declarator of p.steps)) ≡ None) (sym g) h) in
    formed_elements s.tags p.steps of k (unbroken s p.line (Typing (node.Declarator of p.steps)) f 14)

pub name_goes : (s : State) (line : ℕ) (b : Specified) (i : InitTree) (t : State) (n : Naming) → TypesName s line b i t n → IsSound s → IsOld s b.of → Names s t n
name_goes s line b i t n h k o =
    let f = declarator_goes s i.declarator h.0 h.1 h.2 k in
    let base = old_stays s h.0 b.of f.count f.tags o in
    let steps = formed_checked h.0 h.3.0 h.1 h.3.1 b.of h.3.2.1.0 h.3.2.1.1 h.3.3.0 base.1 in
    let old : IsOld h.0 (formed b.of h.1.steps) = (λ m l. formed_apart m h.1.steps b.of (base.0 m l), steps) in
    let d = with_name_declares h.0 line h.1.line (first_class b.classes) (name_or_empty h.1.name) (formed b.of h.1.steps) f.sound old h.3.2.0 in
    let v : State = with_name h.0 line (first_class b.classes) (name_or_empty h.1.name) (formed b.of h.1.steps) in
    let base : Names s v (naming h.0 (first_class b.classes) (name_or_empty h.1.name) (formed b.of h.1.steps)) =
    (then_leads s h.0 v (follows_leads s h.0 f) d.0, (d.1, old_stays h.0 v (formed b.of h.1.steps) d.0.count d.0.tags old)) in
    subst (λ t. Names s t n) h.3.3.1.0
    (subst (λ n. Names s (with_name h.3.0 line (first_class b.classes) (name_or_empty h.3.1.name) (formed b.of h.3.1.steps)) n) h.3.3.1.1
    (subst (λ (v : State). Names s (with_name v line (first_class b.classes) (name_or_empty h.3.1.name) (formed b.of h.3.1.steps)) (naming v (first_class b.classes) (name_or_empty h.3.1.name) (formed b.of h.3.1.steps))) h.3.2.1.0
    (subst (λ (p : typing.Declared). Names s (with_name h.0 line (first_class b.classes) (name_or_empty p.name) (formed b.of p.steps)) (naming h.0 (first_class b.classes) (name_or_empty p.name) (formed b.of p.steps))) h.3.2.1.1 base)))

pub here_old : (t : State) (o : Option ℕ) (of : CType) → IsSound t → IsOld t of → IsOld t (type_here t o of)
here_old t None of h e = e
here_old t (Some id) of h e = known_old t id h

pub maybe_old : (s : State) (o : Initialised) (i : Option InitialiserTree) (u : State) (f : Option Filled) → TypesMaybeInitialiser s o i u f → IsOld u o.of → IsOld u (type_filled o.of f)
maybe_old s o i u f h k = (λ m l. maybe_apart s o i u f m h (k.0 m l), maybe_elements s u.tags o i u f h k.1)

pub init_leads : (s : State) (line : ℕ) (b : Specified) (i : InitTree) (u : State) (x : Declared) → TypesInit s line b i u x → IsSound s → IsOld s b.of → Leads s u
init_leads s line b i u x h k o =
    let n = name_goes s line b i h.0 h.1 h.2 k o in
    let w : Initialised = initialised h.0 (with_type_here h.0 h.1) in
    let f = maybe_initialiser_goes h.0 w i.initialiser h.3.0 h.3.1 h.3.2 n.0.sound in
    let old : IsOld h.0 w.of = here_old h.0 (place_here h.0 h.1.name) h.1.of n.0.sound n.1.1 in
    let last = with_whole_leads h.3.0 (with_type h.1 (type_filled w.of h.3.1)) (is_some h.3.1) n.1.0.0 f.sound (maybe_old h.0 w i.initialiser h.3.0 h.3.1 h.3.2 (old_stays h.0 h.3.0 w.of f.count f.tags old)) (other_follows h.0 h.3.0 h.1.name n.1.0.0 f n.1.0.1) in
    subst (Leads s) h.3.3.1.0 (then_leads s h.0 _ n.0 (then_leads h.0 h.3.0 _ (follows_leads h.0 h.3.0 f) last))

pub inits_lead : (s : State) (line : ℕ) (b : Specified) (is : List InitTree) (u : State) (x : Declared) → TypesInits s line b is u x → IsSound s → IsOld s b.of → Leads s u
inits_lead s line b [] u x h k o = subst (Leads s) h.0 (same_leads s k)
inits_lead s line b (i ∷ is) u x h k o =
    let f = init_leads s line b i h.0 h.1 h.2 k o in
    let g = inits_lead h.0 line b is h.3.0 h.3.1 h.3.2 f.sound (old_stays s h.0 b.of f.count f.tags o) in
    subst (Leads s) h.3.3.0 (then_leads s h.0 h.3.0 f g)

pub declaration_leads : (s : State) (d : DeclarationTree) (u : State) (x : Declared) → TypesDeclaration s d u x → IsSound s → Leads s u
declaration_leads s d u x h k =
    let f = own_specifies s d.specifiers d.declarators h.0 h.1 h.2 k in
    let g = inits_lead h.0 d.line h.1 d.declarators h.3.0 h.3.1 h.3.2 f.0.sound (λ n l. let u = f.0.sound.fresh n l in f.1.0 n u, f.1.1) in
    subst (Leads s) h.3.3.1.0 (then_leads s h.0 h.3.0 (follows_leads s h.0 f.0) g)
