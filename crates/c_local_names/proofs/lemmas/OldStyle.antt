-- Old-style parameters: the names in the scope of a definition with a list of names, and their places in the list.
use Rattle.c_meaning.specs.Rows.{nat_of}
use Rattle.c_meaning.specs.TypeConstraints.{some_step, is_name_list}
use Rattle.std.proofs.Common.{◌≡◌, ◌⊎◌, ℕ, suc, ◌+◌, Bool, true, false, ◌||◌, List, [], ◌∷◌, ◌++◌, length, refl, sym, ap, subst, ◌∙◌, inl, inr, arith}
use Rattle.std.specs.Prelude.{pos, Option, Some, None, is_none, is_some, slice_get, if◌then◌else◌}
use Rattle.std.specs.Str.{bytes_eq}
use Rattle.std.proofs.lemmas.List.{append_assoc, length-append}
use Rattle.std.proofs.lemmas.Slice.Eq.{bytes_eq-Decides}
use Rattle.c_ast.specs.Levels.{FitsDeclarations, FitsInits, FitsDeclaration, is_named}
use Rattle.c_ast.specs.Trees.{InitTree, DeclarationTree}
use Rattle.c_types.specs.CType.{CType, Int, basic}
use Rattle.c_meaning.specs.Nodes.{Step, ToPointer, ToArray, ToFunction, ToNamed, ToOpen}
use Rattle.c_meaning.specs.State.{Known, State, declared, known_at, nothing_known, place_here}
use Rattle.c_meaning.specs.TypeRows.{Specified, adjusted, formed, parameter_known}
use Rattle.c_tree_names.specs.Names.{AllDeclarationNames, AllInitNames, AreNames, DeclarationNames, DeclaratorNames}
use Rattle.c_typing_steps.specs.Laws.{StepLaws}
use Rattle.c_units.specs.Definitions.{OldParameter, names_of, parameter_constraints, parameter_fault, parameter_limit}
use Rattle.c_meaning.specs.Declarations.{or_zero}
use Rattle.c_units.specs.Functions.{is_object_class, listed_types, old_parameter, parameter_types, place_from, place_in, type_at, with_all_listed, with_listed, with_old, types_of}
use Rattle.c_units.specs.UnitsRelation.{TypesOld, TypesOldDeclaration, TypesOldDeclarations, TypesOlds}
use Rattle.c_fits.proofs.lemmas.Booleans.{never, or_left}
use Rattle.c_fits.proofs.lemmas.Constraints.{test_in, unbroken_on}
use Rattle.c_fits.proofs.lemmas.Following.{pushed}
use Rattle.c_fits.proofs.lemmas.Lists.{named_append, named_last, seam}
use Rattle.c_local_names.proofs.lemmas.Declaring.{declarator_name}
use Rattle.c_local_names.proofs.lemmas.Itself.{compatible_itself}
use Rattle.c_local_names.proofs.lemmas.Keeping.{Adds, Counted, Keeps, Stays, declared_keeps, same_keeps, then_keeps}
use Rattle.c_local_names.proofs.lemmas.Knowing.{IsPlaced, begun_placed, other_placed, stays_placed}
use Rattle.c_local_names.proofs.lemmas.Naming.{named_by}
use Rattle.c_local_names.proofs.lemmas.Parameters.{InnerPlaced, step_types}
use Rattle.c_local_names.proofs.lemmas.Scopes.{Has, has_append, name_some}
use Rattle.c_local_names.proofs.lemmas.Stepping.{steps_add}

-- ---- places in a list of names

place_behind : (k : ℕ) (before : List (List ℕ)) (n : List ℕ) (ns : List (List ℕ)) (m : List ℕ) → place_from k before m ≡ None → bytes_eq m n ≡ true → place_from k (before ++ n ∷ ns) m ≡ Some (k + length before)
place_behind k [] n ns m h e = ap (λ b. if b then Some k else place_from (suc k) ns m) e ∙ ap Some (let z : k ≡ k + 0 = omega arith in z)
place_behind k (b ∷ bs) n ns m h e = by (bytes_eq m b) h (place_behind (suc k) bs n ns m)
  where
    by : (t : Bool) → (if t then Some k else place_from (suc k) bs m) ≡ None → (place_from (suc k) bs m ≡ None → bytes_eq m n ≡ true → place_from (suc k) (bs ++ n ∷ ns) m ≡ Some (suc k + length bs))
        → (if t then Some k else place_from (suc k) (bs ++ n ∷ ns) m) ≡ Some (k + suc (length bs))
    by true h i = absurd (let none : ⊥ = cc in none)
    by false h i = i h e ∙ ap Some (let z : suc k + length bs ≡ k + suc (length bs) = omega arith in z)

place_none : (k : ℕ) (before : List (List ℕ)) (n m : List ℕ) → place_from k before m ≡ None → bytes_eq m n ≡ false → place_from k (before ++ n ∷ []) m ≡ None
place_none k [] n m h e = ap (λ b. if b then Some k else None) e
place_none k (b ∷ bs) n m h e = by (bytes_eq m b) h (place_none (suc k) bs n m)
  where
    by : (t : Bool) → (if t then Some k else place_from (suc k) bs m) ≡ None → (place_from (suc k) bs m ≡ None → bytes_eq m n ≡ false → place_from (suc k) (bs ++ n ∷ []) m ≡ None) → (if t then Some k else place_from (suc k) (bs ++ n ∷ []) m) ≡ None
    by true h i = absurd (let none : ⊥ = cc in none)
    by false h i = i h e

-- the type that is listed there
listed_at : (s : State) (j k : ℕ) (names : List (List ℕ)) (name : List ℕ) → place_from j names name ≡ Some k → (i : ℕ) × (k ≡ j + i) × (slice_get (listed_types s names) i ≡ Some (type_at s (place_here s name)))
listed_at s j k [] name e = absurd (let none : ⊥ = cc in none)
listed_at s j k (n ∷ ns) name e = by (bytes_eq name n) refl e (listed_at s (suc j) k ns name)
  where
    some : Some j ≡ Some k → k ≡ j + 0
    some e = let same : j ≡ k = cc in omega (arith, same)

    by : (t : Bool) → bytes_eq name n ≡ t → (if t then Some j else place_from (suc j) ns name) ≡ Some k → (place_from (suc j) ns name ≡ Some k → (i : ℕ) × (k ≡ suc j + i) × (slice_get (listed_types s ns) i ≡ Some (type_at s (place_here s name))))
        → (i : ℕ) × (k ≡ j + i) × (slice_get (listed_types s (n ∷ ns)) i ≡ Some (type_at s (place_here s name)))
    by true g e f = (0, some e, ap (λ n. Some (type_at s (place_here s n))) (sym ((bytes_eq-Decides name n).0 g)))
    by false g e f = let r = f e in (suc r.0, (let q = r.1 in omega (arith, q)), r.2)

-- ---- names of the scope

-- a listed parameter's name, with its place
abbrev pub Listed : List (List ℕ) → State → List ℕ → ℕ → Type 0
Listed names s name id = (k : ℕ) × (place_in names name ≡ Some k) × ((known_at s id).value ≡ Some (pos k)) × (place_here s name ≡ Some id)

-- each local's among the names is such, or has its place among these types
abbrev pub InnerListed : List (List ℕ) → List CType → State → Type 0
InnerListed names locals s = (name : List ℕ) (id : ℕ) → Has s.inner name id → IsPlaced locals (known_at s id) ⊎ Listed names s name id

pub record Lists (names : List (List ℕ)) (locals : List CType) (s u : State) : Type 0 where
  pub keeps : Keeps None s u
  pub listed : InnerListed names locals u

then_lists : (names : List (List ℕ)) (locals : List CType) (s t u : State) → Keeps None s t → Lists names locals t u → Lists names locals s u
then_lists names locals s t u f g = record { keeps = then_keeps None s t u f g.keeps; listed = g.listed }

adds_listed : (names : List (List ℕ)) (locals : List CType) (s u : State) → Adds None s u → Counted None s → InnerListed names locals s → InnerListed names locals u
adds_listed names locals s u f c h name id k = by (f.inner name id k)
  where
    stay : Stays (known_at s id) (known_at u id) → Listed names s name id → IsPlaced locals (known_at u id) ⊎ Listed names u name id
    stay (inl e) l = inr (l.0, l.1, ap (λ (k : Known). k.value) e ∙ l.2, f.here name id l.3)
    stay (inr e) l = inl (other_placed locals (known_at u id) e)

    old : Stays (known_at s id) (known_at u id) → IsPlaced locals (known_at s id) ⊎ Listed names s name id → IsPlaced locals (known_at u id) ⊎ Listed names u name id
    old t (inl p) = inl (stays_placed locals (known_at s id) (known_at u id) t p)
    old t (inr l) = stay t l

    by : Has s.inner name id ⊎ (is_object_class (known_at u id).class ≡ false) → IsPlaced locals (known_at u id) ⊎ Listed names u name id
    by (inl g) = old (f.keeps.known id (c.below name id (inr g))) (h name id g)
    by (inr e) = inl (other_placed locals (known_at u id) e)

declared_listed : (names : List (List ℕ)) (locals : List CType) (s : State) (name : List ℕ) (known : Known) (m : ℕ) → Counted None s → place_here s name ≡ None → place_in names name ≡ Some m → known.value ≡ Some (pos m) → InnerListed names locals s → InnerListed names locals (declared s name known)
declared_listed names locals s name known m c e p v h x id k = by (has_append s.inner (name, length s.symbols) x id k)
  where
    new : Listed names (declared s name known) name (length s.symbols)
    new = (m, p, ap (λ (k : Known). k.value) (seam s.symbols known nothing_known) ∙ v, named_last s.inner name (length s.symbols) e)

    old : (x : List ℕ) (id : ℕ) → Has s.inner x id → IsPlaced locals (known_at s id) ⊎ Listed names s x id → IsPlaced locals (known_at (declared s name known) id) ⊎ Listed names (declared s name known) x id
    old x id g (inl p) = inl (subst (IsPlaced locals) (sym (pushed s.symbols known id (c.below x id (inr g)))) p)
    old x id g (inr l) = inr (l.0, l.1, ap (λ (k : Known). k.value) (pushed s.symbols known id (c.below x id (inr g))) ∙ l.2, named_append s.inner (name, length s.symbols) x id l.3)

    by : Has s.inner x id ⊎ ((name ≡ x) × (length s.symbols ≡ id)) → IsPlaced locals (known_at (declared s name known) id) ⊎ Listed names (declared s name known) x id
    by (inl g) = old x id g (h x id g)
    by (inr g) = inr (subst (Listed names (declared s name known) x) g.1 (subst (λ x. Listed names (declared s name known) x (length s.symbols)) g.0 new))

pub parameter_unbroken : (s : State) (line : ℕ) (n : OldParameter) → parameter_fault s line n ≡ None → (number : ℕ) → test_in parameter_constraints number s n ≡ false
unfolding parameter_fault
parameter_unbroken s line n h number = unbroken_on parameter_constraints s line n (parameter_limit s n) h number

none_of : (p : Option ℕ) → is_some p ≡ false → p ≡ None
none_of None e = refl
none_of (Some id) e = never e

some_of : (p : Option ℕ) → is_none p ≡ false → p ≡ Some (or_zero p)
some_of (Some id) e = refl
some_of None e = never e

-- ---- those that are declared

module _ (laws : StepLaws) (names : List (List ℕ)) (locals : List CType) where
  old_lists : (s : State) (line : ℕ) (b : Specified) (i : InitTree) (u : State) (x : Unit {0}) → TypesOld s line names b i u x → is_named i.declarator ≡ true → DeclaratorNames i.declarator → Counted None s → InnerListed names locals s → Lists names locals s u
  old_lists s line b i u x h g n c k =
      let t = h.0 in
      let f = steps_add None s t (laws.declarators s t i.declarator h.1 n h.2) c in
      let o : OldParameter = old_parameter names b h.1 (is_some i.initialiser) in
      let free = none_of (place_here t o.name) (parameter_unbroken t h.1.line o h.3.0 5) in
      let place = some_of o.place (or_left (is_none o.place) (o.initialised || some_step is_name_list o.base o.steps) (parameter_unbroken t h.1.line o h.3.0 19)) in
      let known : Known = parameter_known t line (or_zero o.place) o.classes (adjusted (formed o.base o.steps)) in
      let some = declarator_name s i.declarator t h.1 h.2 g n in
      let d : Lists names locals t (with_old t line o) =
      record { keeps = declared_keeps None t o.name known f.keeps.counted some; listed = declared_listed names locals t o.name known (or_zero o.place) f.keeps.counted free place refl (adds_listed names locals s t f c k) } in
      subst (Lists names locals s) h.3.1.0 (then_lists names locals s t (with_old t line o) f.keeps d)

  olds_list : (s : State) (line : ℕ) (b : Specified) (is : List InitTree) (u : State) (x : Unit {0}) → TypesOlds s line names b is u x → FitsInits is → AllInitNames is → Counted None s → InnerListed names locals s → Lists names locals s u
  olds_list s line b [] u x h g n c k = subst (Lists names locals s) h.0 (record { keeps = same_keeps None s c; listed = k })
  olds_list s line b (i ∷ is) u x h g n c k =
      let f = old_lists s line b i h.0 h.1 h.2 g.0.0 n.0.0 c k in
      then_lists names locals s h.0 u f.keeps (olds_list h.0 line b is u x h.3 g.1 n.1 f.keeps.counted f.listed)

  old_declaration_lists : (s : State) (d : DeclarationTree) (u : State) (x : Unit {0}) → TypesOldDeclaration s names d u x → FitsDeclaration d → DeclarationNames d → Counted None s → InnerListed names locals s → Lists names locals s u
  old_declaration_lists s d u x h g n c k =
      let f = steps_add None s h.0 (laws.inside s h.0 d.specifiers d.declarators h.1 n.0 h.2) c in
      let r = olds_list h.0 d.line h.1 d.declarators h.3.0 h.3.1 h.3.2 g.1 n.1 f.keeps.counted (adds_listed names locals s h.0 f c k) in
      subst (Lists names locals s) h.3.3.1.0 (then_lists names locals s h.0 h.3.0 f.keeps r)

  pub old_declarations_list : (s : State) (ds : List DeclarationTree) (u : State) (x : Unit {0}) → TypesOldDeclarations s names ds u x → FitsDeclarations ds → AllDeclarationNames ds → Counted None s → InnerListed names locals s → Lists names locals s u
  old_declarations_list s [] u x h g n c k = subst (Lists names locals s) h.0 (record { keeps = same_keeps None s c; listed = k })
  old_declarations_list s (d ∷ ds) u x h g n c k =
      let f = old_declaration_lists s d h.0 h.1 h.2 g.0 n.0 c k in
      then_lists names locals s h.0 u f.keeps (old_declarations_list h.0 ds u x h.3 g.1 n.1 f.keeps.counted f.listed)

-- ---- those that aren't

-- a name that the scope lacks is none of these
abbrev Stand : State → List (List ℕ) → Type 0
Stand s before = (m : List ℕ) → place_here s m ≡ None → place_in before m ≡ None

-- another name than one that the scope has
differs : (s : State) (n m : List ℕ) (id : ℕ) → place_here s n ≡ Some id → place_here s m ≡ None → bytes_eq m n ≡ false
differs s n m id e g = by (bytes_eq m n) refl
  where
    by : (b : Bool) → bytes_eq m n ≡ b → b ≡ false
    by false h = refl
    by true h = absurd (let same : m ≡ n = (bytes_eq-Decides m n).0 h in let none : place_here s n ≡ None = subst (λ m. place_here s m ≡ None) same g in let no : ⊥ = cc in no)

stand_more : (s : State) (before : List (List ℕ)) (n : List ℕ) (id : ℕ) → place_here s n ≡ Some id → Stand s before → Stand s (before ++ n ∷ [])
stand_more s before n id e h m g = place_none 0 before n m (h m g) (differs s n m id e g)

stand_declared : (s : State) (before : List (List ℕ)) (n : List ℕ) (known : Known) → Stand s before → Stand (declared s n known) before
stand_declared s before n known h m g = h m (by (place_here s m) refl)
  where
    by : (o : Option ℕ) → place_here s m ≡ o → place_here s m ≡ None
    by None e = e
    by (Some id) e = absurd (let k : place_here (declared s n known) m ≡ Some id = named_append s.inner (n, length s.symbols) m id e in let no : ⊥ = cc in no)

module _ (names : List (List ℕ)) (locals : List CType) where
  pub all_list : (s : State) (line place : ℕ) (rest before : List (List ℕ)) → names ≡ before ++ rest → place ≡ length before → Stand s before → AreNames rest → Counted None s → InnerListed names locals s → Lists names locals s (with_all_listed s line place rest)
  all_list s line place [] before e p h n c k = record { keeps = same_keeps None s c; listed = k }
  all_list s line place (x ∷ xs) before e p h n c k = by (place_here s x) refl (λ t. all_list t line (suc place) xs (before ++ x ∷ []) (e ∙ sym (append_assoc before (x ∷ []) xs)) next)
    where
      next : suc place ≡ length (before ++ x ∷ [])
      next = let l = length-append before (x ∷ []) in omega (arith, l, p)

      by : (o : Option ℕ) → place_here s x ≡ o → ((t : State) → Stand t (before ++ x ∷ []) → AreNames xs → Counted None t → InnerListed names locals t → Lists names locals t (with_all_listed t line (suc place) xs))
          → Lists names locals s (with_all_listed (with_listed s line place x o) line (suc place) xs)
      by (Some id) g i = i s (stand_more s before x id g h) n.1 c k
      by None g i =
          let known : Known = parameter_known s line place [] (basic Int) in
          let t : State = declared s x known in
          let f = declared_keeps None s x known c (name_some x n.0) in
          let at : place_in names x ≡ Some place = ap (λ ns. place_in ns x) e ∙ (place_behind 0 before x xs x (h x g) ((bytes_eq-Decides x x).1 refl) ∙ ap Some (let z : 0 + length before ≡ place = omega (arith, p) in z)) in
          then_lists names locals s t (with_all_listed t line (suc place) xs) f
          (i t (stand_more t before x (length s.symbols) (named_last s.inner x (length s.symbols) g) (stand_declared s before x known h)) n.1 f.counted (declared_listed names locals s x known place c g at refl k))

-- ---- all parameters have places among their types

listed_placed : (names : List (List ℕ)) (s : State) (name : List ℕ) (id : ℕ) → Listed names s name id → IsPlaced (listed_types s names) (known_at s id)
listed_placed names s name id l =
    let r = listed_at s 0 l.0 names name l.1 in
    let k : CType = (known_at s id).of in
    let at : slice_get (listed_types s names) l.0 ≡ Some k = ap (slice_get (listed_types s names)) (let q = r.1 in let z : l.0 ≡ r.0 = omega (arith, q) in z) ∙ (r.2 ∙ ap (λ o. Some (type_at s o)) l.3) in
    named_by (listed_types s names) (known_at s id).class (known_at s id).value k k (ap (λ v. slice_get (listed_types s names) (nat_of v 0)) l.2 ∙ at) (compatible_itself k)

-- without types so far
listed_by : (names : List (List ℕ)) (s : State) → InnerListed names [] s → InnerPlaced (listed_types s names) s
listed_by names s h name id k = by (h name id k)
  where
    by : IsPlaced [] (known_at s id) ⊎ Listed names s name id → IsPlaced (listed_types s names) (known_at s id)
    by (inl p) = begun_placed (listed_types s names) [] (known_at s id) (listed_types s names, refl) p
    by (inr l) = listed_placed names s name id l

-- with the types of a prototype's
prototype_by : (s : State) (locals : List CType) → InnerListed [] locals s → InnerPlaced locals s
prototype_by s locals h name id k = by (h name id k)
  where
    by : IsPlaced locals (known_at s id) ⊎ Listed [] s name id → IsPlaced locals (known_at s id)
    by (inl p) = p
    by (inr l) = absurd (let e = l.1 in let none : ⊥ = cc in none)

pub parameters_placed : (own : Option Step) (s : State) → InnerListed (names_of own) (step_types own) s → InnerPlaced (parameter_types s own) s
parameters_placed (Some (ToFunction ps more scope)) s h = prototype_by s (types_of ps) h
parameters_placed (Some (ToNamed names)) s h = listed_by names s h
parameters_placed (Some ToOpen) s h = listed_by [] s h
parameters_placed (Some (ToPointer q)) s h = listed_by [] s h
parameters_placed (Some (ToArray size)) s h = listed_by [] s h
parameters_placed None s h = listed_by [] s h
