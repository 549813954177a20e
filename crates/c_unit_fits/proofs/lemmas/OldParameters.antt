-- The parameters of an old-style definition have sizes: each listed name stands for one that was declared with a size, or is an int.
use Rattle.std.proofs.Common.{◌≡◌, ◌⊎◌, ℕ, suc, Bool, true, false, List, [], ◌∷◌, length, refl, sym, subst, inl, inr}
use Rattle.std.specs.Prelude.{Option, Some, None, is_some}
use Rattle.c_ast.specs.Trees.{DeclarationTree, InitTree}
use Rattle.c_types.specs.CType.{CType, Int, basic}
use Rattle.c_types.specs.Layout.{Tag}
use Rattle.c_meaning.specs.Constraints.{broken_or}
use Rattle.c_meaning.specs.Declarations.{or_zero}
use Rattle.c_meaning.specs.Declaring.{declares_something}
use Rattle.c_meaning.specs.Fits.{is_whole}
use Rattle.c_meaning.specs.Nodes.{Step, ToPointer, ToArray, ToFunction, ToNamed, ToOpen}
use Rattle.c_meaning.specs.State.{Known, State, declared, known_at, nothing_known, place_here}
use Rattle.c_meaning.specs.TypeRows.{Specified, adjusted, formed, parameter_known}
use Rattle.c_units.specs.Definitions.{OldParameter, names_of, parameter_constraints, parameter_fault, parameter_limit}
use Rattle.c_units.specs.Functions.{has_other, is_object_class, is_other, is_some_init, listed_types, old_declaration_constraint, old_parameter, reopened, scope_of, type_at, with_all_listed, with_listed, with_old}
use Rattle.c_units.specs.UnitsRelation.{TypesOld, TypesOldDeclaration, TypesOldDeclarations, TypesOlds}
use Rattle.c_fits.specs.Growing.{Grows}
use Rattle.c_fits.specs.OpenDeclares.{IsOpenLocal}
use Rattle.c_fits.specs.Sound.{Follows, IsOld, IsSound}
use Rattle.c_fits.proofs.lemmas.Booleans.{not_false, or_left, or_right}
use Rattle.c_fits.proofs.lemmas.Constraints.{test_in, unbroken_on}
use Rattle.c_fits.proofs.lemmas.Declared.{inside_specifies}
use Rattle.c_fits.proofs.lemmas.Following.{local_before, pushed}
use Rattle.c_fits.proofs.lemmas.Growing.{sized_stays, whole_stays}
use Rattle.c_fits.proofs.lemmas.Leading.{old_stays}
use Rattle.c_fits.proofs.lemmas.Lists.{named_below, named_pushed, seam}
use Rattle.c_fits.proofs.lemmas.Walk.{declarator_goes}
use Rattle.c_unit_fits.specs.Functions.{AreSized}
use Rattle.c_unit_fits.proofs.lemmas.Defining.{listed_leads, old_declaration_leads, old_leads}
use Rattle.c_unit_fits.proofs.lemmas.Scopes.{adjusted_object}
use Rattle.c_unit_fits.proofs.lemmas.Signatures.{whole_object}

-- it has a size, and is a scalar or a whole structure
abbrev IsParameter : List Tag → CType → Type 0
IsParameter tags t = IsOpenLocal tags t × (is_whole tags t ≡ true)

parameter_stays : (old new : List Tag) (t : CType) → Grows old new → IsParameter old t → IsParameter new t
parameter_stays old new t g h = (sized_stays old new g t h.0, whole_stays old new g t h.1)

-- what a name of the innermost scope stands for is such, where it is there
abbrev IsFound : (Known → Type 0) → State → Option ℕ → Type 0
IsFound P s None = Unit {0}
IsFound P s (Some id) = P (known_at s id)

abbrev AreFound : (Known → Type 0) → State → List (List ℕ) → Type 0
AreFound P s [] = Unit {0}
AreFound P s (n ∷ ns) = IsFound P s (place_here s n) × AreFound P s ns

found_by : (P Q : Known → Type 0) (s t : State) (names : List (List ℕ)) → ((n : List ℕ) → IsFound P s (place_here s n) → IsFound Q t (place_here t n)) → AreFound P s names → AreFound Q t names
found_by P Q s t [] f h = tt
found_by P Q s t (n ∷ ns) f h = (f n h.0, found_by P Q s t ns f h.1)

-- a parameter, if it is one
abbrev IsKept : List Tag → Known → Type 0
IsKept tags k = is_object_class k.class ≡ true → IsParameter tags k.of

abbrev IsTyped : List Tag → Known → Type 0
IsTyped tags k = IsParameter tags k.of

-- ---- further symbols

declared_found : (P : Known → Type 0) (s : State) (name : List ℕ) (k : Known) → P k → IsSound s → (n : List ℕ) → IsFound P s (place_here s n) → IsFound P (declared s name k) (place_here (declared s name k) n)
declared_found P s name k p h n f = by (place_here (declared s name k) n) refl
  where
    one : (id : ℕ) → (place_here s n ≡ Some id) ⊎ (length s.symbols ≡ id) → P (known_at (declared s name k) id)
    one id (inl e) = subst P (sym (pushed s.symbols k id (named_below (length s.symbols) s.inner n id h.names e))) (subst (IsFound P s) e f)
    one id (inr e) = subst (λ i. P (known_at (declared s name k) i)) e (subst P (sym (seam s.symbols k nothing_known)) p)

    by : (o : Option ℕ) → place_here (declared s name k) n ≡ o → IsFound P (declared s name k) o
    by None e = tt
    by (Some id) e = one id (named_pushed s.inner name n (length s.symbols) id e)

-- typing a part declares no parameter, and leaves those that are there as they were
part_found : (s u : State) → Follows s u → IsSound s → (n : List ℕ) → IsFound (IsKept s.tags) s (place_here s n) → IsFound (IsKept u.tags) u (place_here u n)
part_found s u f k n h = by (place_here u n) refl
  where
    one : (id : ℕ) → place_here u n ≡ Some id → is_object_class (known_at u id).class ≡ true → IsParameter u.tags (known_at u id).of
    one id e c =
        let b = local_before s u f k n id e c in
        let was : IsKept s.tags (known_at s id) = subst (IsFound (IsKept s.tags) s) b.0 h in
        let is : is_object_class (known_at s id).class ≡ true = subst (λ (x : Known). is_object_class x.class ≡ true) b.1 c in
        subst (λ (x : Known). IsParameter u.tags x.of) (sym b.1) (parameter_stays s.tags u.tags (known_at s id).of f.tags (was is))

    by : (o : Option ℕ) → place_here u n ≡ o → IsFound (IsKept u.tags) u o
    by None e = tt
    by (Some id) e = one id e

-- ---- old-style declarations

parameter_unbroken : (s : State) (line : ℕ) (n : OldParameter) → parameter_fault s line n ≡ None → (number : ℕ) → test_in parameter_constraints number s n ≡ false
unfolding parameter_fault
parameter_unbroken s line n h number = unbroken_on parameter_constraints s line n (parameter_limit s n) h number

old_is : (s : State) (line : ℕ) (n : OldParameter) → parameter_fault s line n ≡ None → IsParameter s.tags (adjusted (formed n.base n.steps))
old_is s line n h =
    let sized = not_false _ (parameter_unbroken s line n h 20) in
    (sized, whole_object s.tags (adjusted (formed n.base n.steps)) sized (adjusted_object (formed n.base n.steps)))

old_found : (s : State) (line : ℕ) (names : List (List ℕ)) (b : Specified) (i : InitTree) (u : State) (x : Unit {0}) → TypesOld s line names b i u x → IsSound s → (all : List (List ℕ)) → AreFound (IsKept s.tags) s all → AreFound (IsKept u.tags) u all
old_found s line names b i u x h k all f =
    let p = declarator_goes s i.declarator h.0 h.1 h.2 k in
    let n : OldParameter = old_parameter names b h.1 (is_some i.initialiser) in
    let t : CType = adjusted (formed b.of h.1.steps) in
    let is : Known = parameter_known h.0 line (or_zero n.place) n.classes t in
    let a = found_by (IsKept s.tags) (IsKept h.0.tags) s h.0 all (part_found s h.0 p k) f in
    let c = found_by (IsKept h.0.tags) (IsKept h.0.tags) h.0 (with_old h.0 line n) all (declared_found (IsKept h.0.tags) h.0 n.name is (λ e. old_is h.0 h.1.line n h.3.0) p.sound) a in
    subst (λ (u : State). AreFound (IsKept u.tags) u all) h.3.1.0 c

olds_found : (s : State) (line : ℕ) (names : List (List ℕ)) (b : Specified) (is : List InitTree) (u : State) (x : Unit {0}) → TypesOlds s line names b is u x → IsSound s → IsOld s b.of → (all : List (List ℕ)) → AreFound (IsKept s.tags) s all
    → AreFound (IsKept u.tags) u all
olds_found s line names b [] u x h k o all f = subst (λ (u : State). AreFound (IsKept u.tags) u all) h.0 f
olds_found s line names b (i ∷ is) u x h k o all f =
    let l = old_leads s line names b i h.0 h.1 h.2 k o in
    olds_found h.0 line names b is u x h.3 l.sound (old_stays s h.0 b.of l.count l.tags o) all (old_found s line names b i h.0 h.1 h.2 k all f)

-- a listed name of another meaning is told
none_other : (line : ℕ) (something other parameters : Bool) → broken_or line (old_declaration_constraint something other parameters) None ≡ None → other ≡ false
none_other line true true parameters h = absurd (let none : ⊥ = cc in none)
none_other line true false parameters h = refl
none_other line false other parameters h = absurd (let none : ⊥ = cc in none)

-- the listed names that are declared so far
abbrev pub AreDeclared : State → List (List ℕ) → Type 0
AreDeclared s names = AreFound (IsKept s.tags) s names × (has_other s names ≡ false)

old_declaration_found : (s : State) (names : List (List ℕ)) (d : DeclarationTree) (u : State) (x : Unit {0}) → TypesOldDeclaration s names d u x → IsSound s → AreDeclared s names → AreDeclared u names
old_declaration_found s names d u x h k f =
    let p = inside_specifies s d.specifiers d.declarators h.0 h.1 h.2 k in
    let a = found_by (IsKept s.tags) (IsKept h.0.tags) s h.0 names (part_found s h.0 p.0 k) f.0 in
    let b = olds_found h.0 d.line names h.1 d.declarators h.3.0 h.3.1 h.3.2 p.0.sound (λ n l. let u = p.0.sound.fresh n l in p.1.0 n u, p.1.1) names a in
    subst (λ u. AreDeclared u names) h.3.3.1.0 (b, none_other d.line (declares_something d) (has_other h.3.0 names) (is_some_init d.declarators) h.3.3.0)

pub old_declarations_found : (s : State) (names : List (List ℕ)) (ds : List DeclarationTree) (u : State) (x : Unit {0}) → TypesOldDeclarations s names ds u x → IsSound s → AreDeclared s names → AreDeclared u names
old_declarations_found s names [] u x h k f = subst (λ u. AreDeclared u names) h.0 f
old_declarations_found s names (d ∷ ds) u x h k f =
    let l = old_declaration_leads s names d h.0 h.1 h.2 k in
    old_declarations_found h.0 names ds u x h.3 l.sound (old_declaration_found s names d h.0 h.1 h.2 k f)

-- ---- names that are declared nowhere

typed_of : (s : State) (names : List (List ℕ)) → AreDeclared s names → AreFound (IsTyped s.tags) s names
typed_of s [] h = tt
typed_of s (n ∷ ns) h = (one (place_here s n) h.0.0 (or_left (is_other s (place_here s n)) (has_other s ns) h.1), typed_of s ns (h.0.1, or_right (is_other s (place_here s n)) (has_other s ns) h.1))
  where
    one : (o : Option ℕ) → IsFound (IsKept s.tags) s o → is_other s o ≡ false → IsFound (IsTyped s.tags) s o
    one None f e = tt
    one (Some id) f e = f (not_false (is_object_class (known_at s id).class) e)

listed_found : (s : State) (line place : ℕ) (name : List ℕ) (o : Option ℕ) (all : List (List ℕ)) → IsSound s → AreFound (IsTyped s.tags) s all → AreFound (IsTyped (with_listed s line place name o).tags) (with_listed s line place name o) all
listed_found s line place name (Some id) all k f = f
listed_found s line place name None all k f =
    let is : Known = parameter_known s line place [] (basic Int) in
    found_by (IsTyped s.tags) (IsTyped s.tags) s (with_listed s line place name None) all (declared_found (IsTyped s.tags) s name is (refl, refl) k) f

all_listed_found : (s : State) (line place : ℕ) (names all : List (List ℕ)) → IsSound s → AreFound (IsTyped s.tags) s all → AreFound (IsTyped (with_all_listed s line place names).tags) (with_all_listed s line place names) all
all_listed_found s line place [] all k f = f
all_listed_found s line place (n ∷ ns) all k f =
    let l = listed_leads s line place n (place_here s n) k in
    all_listed_found (with_listed s line place n (place_here s n)) line (suc place) ns all l.sound (listed_found s line place n (place_here s n) all k f)

types_found : (s : State) (names : List (List ℕ)) → AreFound (IsTyped s.tags) s names → AreSized s.tags (listed_types s names)
types_found s [] h = (tt, tt)
types_found s (n ∷ ns) h =
    let a = one (place_here s n) h.0 in
    let b = types_found s ns h.1 in
    ((a.0, b.0), (a.1, b.1))
  where
    one : (o : Option ℕ) → IsFound (IsTyped s.tags) s o → IsParameter s.tags (type_at s o)
    one None f = (refl, refl)
    one (Some id) f = f

-- the types of all listed names behind the declarations
pub listed_sized : (s : State) (line : ℕ) (names : List (List ℕ)) → IsSound s → AreDeclared s names → AreSized (with_all_listed s line 0 names).tags (listed_types (with_all_listed s line 0 names) names)
listed_sized s line names k h = types_found (with_all_listed s line 0 names) names (all_listed_found s line 0 names names k (typed_of s names h))

-- ---- where the declarations begin

none_declared : (s : State) (names : List (List ℕ)) → AreDeclared (reopened s []) names
none_declared s [] = (tt, refl)
none_declared s (n ∷ ns) = let h = none_declared s ns in ((tt, h.0), h.1)

pub first_declared : (s : State) (o : Option Step) → AreDeclared (reopened s (scope_of o)) (names_of o)
first_declared s (Some (ToFunction ps more scope)) = (tt, refl)
first_declared s (Some (ToPointer q)) = (tt, refl)
first_declared s (Some (ToArray size)) = (tt, refl)
first_declared s (Some (ToNamed names)) = none_declared s names
first_declared s (Some ToOpen) = (tt, refl)
first_declared s None = (tt, refl)
