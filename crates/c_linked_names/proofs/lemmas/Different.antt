-- The functions and objects of a unit without a fault have names of their own when it is made whole.
use Rattle.std.proofs.Common.{◌≡◌, ℕ, zero, suc, ◌+◌, ◌<◌, ◌≤◌, ◌^◌, Bool, true, false, not, ◌||◌, List, [], ◌∷◌, ◌++◌, length, map, refl, sym, ap, subst, ◌∙◌, arith, append_assoc}
use Rattle.std.specs.Prelude.{◌==◌, ℤ, pos, negsuc, Option, Some, None, codes, decimal, if◌then◌else◌}
use Rattle.std.specs.Str.{bytes_eq}
use Rattle.std.proofs.lemmas.Bool.{eq-eqb, eqb-true}
use Rattle.std.proofs.lemmas.Fmt.{decimal_injective}
use Rattle.c_symbols.specs.Scoping.{symbol_named}
use Rattle.c_meaning.specs.declared.core_expr.CoreKind.{CoreKind}
use Rattle.c_meaning.specs.Declarations.{Defined, is_definition}
use Rattle.c_meaning.specs.Each.{EachIs}
use Rattle.c_meaning.specs.State.{State, known_at}
use Rattle.c_meaning.specs.Units.{FunctionTree, ObjectTree, are_different, is_same_among}
use Rattle.c_tree_names.specs.Names.{IsName, are_name_bytes, is_name_byte}
use Rattle.c_units.specs.Ends.{is_link, is_tentative, tentative, tentative_objects, with_tentative}
use Rattle.c_units.specs.Externals.{Parts}
use Rattle.c_units.specs.Functions.{DefinedFunction}
use Rattle.c_units.specs.Typing.{at_first}
use Rattle.c_units.specs.Wholes.{stands_for, texts_of, whole_functions, whole_name, whole_objects, whole_unit}
use Rattle.c_fits.proofs.lemmas.DeclaredFits.{each_join}
use Rattle.c_fits.proofs.lemmas.Booleans.{and_left, and_right, and_true, negated, never, or_false}
use Rattle.c_fits.proofs.lemmas.Lists.{some_id}
use Rattle.c_typing_steps.specs.Laws.{StepLaws}
use Rattle.c_linked_names.specs.Laws.{UnitNamesDiffer}
use Rattle.c_linked_names.proofs.lemmas.Absorbing.{TypeLaws}
use Rattle.c_linked_names.proofs.lemmas.Externals.{unit_goes}
use Rattle.c_linked_names.proofs.lemmas.Going.{Goes, IsDefinedFunction, IsObject, defined_at, times_among, times_of, times_of_append}
use Rattle.c_linked_names.proofs.lemmas.Keeping.{IsLinked, IsRegular}
use Rattle.c_linked_names.proofs.lemmas.Lists.{each_map, each_named, named_link, one_if, same_name, times_in}

-- ---- names with a dot, and without

are_bytes : (n : List ℕ) → IsName n → are_name_bytes n ≡ true
are_bytes [] h = never (sym h)
are_bytes (b ∷ bs) h = h

dotted_not : (a x : List ℕ) → are_name_bytes (a ++ 46 ∷ x) ≡ true → ⊥
dotted_not [] x h = never (sym h)
dotted_not (b ∷ a) x h = dotted_not a x (and_right (is_name_byte b) (are_name_bytes (a ++ 46 ∷ x)) h)

dotted_same : (a b x y : List ℕ) → are_name_bytes a ≡ true → are_name_bytes b ≡ true → a ++ 46 ∷ x ≡ b ++ 46 ∷ y → x ≡ y
dotted_same [] [] x y h k e = let q : x ≡ y = cc in q
dotted_same [] (c ∷ b) x y h k e = let q : 46 ≡ c = cc in never (sym (ap is_name_byte q ∙ and_left (is_name_byte c) (are_name_bytes b) k))
dotted_same (c ∷ a) [] x y h k e = let q : 46 ≡ c = cc in never (sym (ap is_name_byte q ∙ and_left (is_name_byte c) (are_name_bytes a) h))
dotted_same (c ∷ a) (d ∷ b) x y h k e = dotted_same a b x y (and_right (is_name_byte c) (are_name_bytes a) h) (and_right (is_name_byte d) (are_name_bytes b) k) (let q : a ++ 46 ∷ x ≡ b ++ 46 ∷ y = cc in q)

-- the name of a static object of a block
abbrev dotted : List ℕ → ℕ → List ℕ
dotted name k = name ++ 46 ∷ decimal k

static_name : (name : List ℕ) (k : ℕ) → whole_name false k name ≡ dotted name k
static_name name k = append_assoc name (codes ".") (decimal k)

-- two texts are the same, or a test tells it
differ : (a b : List ℕ) → (a ≡ b → ⊥) → bytes_eq a b ≡ false
differ a b h = by (bytes_eq a b) refl
  where
    by : (q : Bool) → bytes_eq a b ≡ q → q ≡ false
    by true e = absurd (h (same_name a b e))
    by false e = refl

undotted_differs : (a b : List ℕ) (k : ℕ) → IsName a → bytes_eq a (dotted b k) ≡ false
undotted_differs a b k h = differ a (dotted b k) (λ e. dotted_not b (decimal k) (ap are_name_bytes (sym e) ∙ are_bytes a h))

dotted_differs : (a b : List ℕ) (k : ℕ) → IsName a → bytes_eq (dotted b k) a ≡ false
dotted_differs a b k h = differ (dotted b k) a (λ e. dotted_not b (decimal k) (ap are_name_bytes e ∙ are_bytes a h))

both_dotted_differ : (a b : List ℕ) (k j : ℕ) → IsName a → IsName b → k < 2 ^ 64 → j < 2 ^ 64 → k < j → bytes_eq (dotted a k) (dotted b j) ≡ false
both_dotted_differ a b k j h g l m p = differ (dotted a k) (dotted b j) (λ e. let q = decimal_injective k j l m (dotted_same a b (decimal k) (decimal j) (are_bytes a h) (are_bytes b g) e) in let z : ⊥ = omega (arith, q, p) in z)

-- names of different symbols
linked_differ : (ns : List (List ℕ × ℕ)) (a b : List ℕ) (i j : ℕ) → symbol_named ns a ≡ Some i → symbol_named ns b ≡ Some j → (j == i) ≡ false → bytes_eq a b ≡ false
linked_differ ns a b i j e f n = differ a b (λ q. let p = some_id j i (sym f ∙ (ap (symbol_named ns) (sym q) ∙ e)) in never (sym (eq-eqb j i p) ∙ n))

-- ---- names of functions and objects

abbrev function_names : List DefinedFunction → List (List ℕ)
function_names [] = []
function_names (f ∷ fs) = f.function.name ∷ function_names fs

abbrev object_names : State → ℕ → List Defined → List (List ℕ)
object_names s k [] = []
object_names s k (o ∷ os) = whole_name (is_link s.links o.symbol) k o.object.name ∷ object_names s (suc k) os

functions_named : (meant : ℕ → CoreKind) (texts : List (List ℕ)) (fs : List DefinedFunction) → map (λ (f : FunctionTree). f.name) (whole_functions meant texts fs) ≡ function_names fs
functions_named meant texts [] = refl
functions_named meant texts (f ∷ fs) = ap (λ ns. f.function.name ∷ ns) (functions_named meant texts fs)

objects_named : (s : State) (meant : ℕ → CoreKind) (texts : List (List ℕ)) (k : ℕ) (os : List Defined) → map (λ (o : ObjectTree). o.name) (whole_objects s meant texts k os) ≡ object_names s k os
objects_named s meant texts k [] = refl
objects_named s meant texts k (o ∷ os) = ap (λ ns. whole_name (is_link s.links o.symbol) k o.object.name ∷ ns) (objects_named s meant texts (suc k) os)

-- an object's name, which is its symbol's where it has linkage
abbrev IsNamedObject : State → Defined → Type 0
IsNamedObject s o = IsName o.object.name × (is_link s.links o.symbol ≡ true → symbol_named s.links o.object.name ≡ Some o.symbol)

abbrev IsNamedFunction : State → DefinedFunction → Type 0
IsNamedFunction s f = symbol_named s.links f.function.name ≡ Some f.symbol

zero_one : (b : Bool) → one_if b ≡ 0 → b ≡ false
zero_one true e = let z : ⊥ = omega (arith, e) in absurd z
zero_one false e = refl

one_self : (id : ℕ) → one_if (id == id) ≡ 1
one_self id = ap one_if (eq-eqb id id refl)

-- ---- none is another's

linked_among_objects : (s : State) (name : List ℕ) (id k : ℕ) (os : List Defined) → IsName name → symbol_named s.links name ≡ Some id → EachIs (IsNamedObject s) os → times_of os id ≡ 0 → is_same_among name (object_names s k os) ≡ false
linked_among_objects s name id k [] n e h z = refl
linked_among_objects s name id k (o ∷ os) n e h z =
    or_false (bytes_eq name (whole_name (is_link s.links o.symbol) k o.object.name)) (is_same_among name (object_names s (suc k) os)) (by (is_link s.links o.symbol) refl)
    (linked_among_objects s name id (suc k) os n e h.1 (omega (arith, z)))
  where
    apart : (o.symbol == id) ≡ false
    apart = zero_one (o.symbol == id) (omega (arith, z))

    by : (b : Bool) → is_link s.links o.symbol ≡ b → bytes_eq name (whole_name b k o.object.name) ≡ false
    by true q = linked_differ s.links name o.object.name id o.symbol e (h.0.1 q) apart
    by false q = ap (bytes_eq name) (static_name o.object.name k) ∙ undotted_differs name o.object.name k n

static_among_objects : (s : State) (name : List ℕ) (k j : ℕ) (os : List Defined) → IsName name → EachIs (IsNamedObject s) os → k < j → j + length os ≤ 2 ^ 64 → is_same_among (dotted name k) (object_names s j os) ≡ false
static_among_objects s name k j [] n h l m = refl
static_among_objects s name k j (o ∷ os) n h l m =
    or_false (bytes_eq (dotted name k) (whole_name (is_link s.links o.symbol) j o.object.name)) (is_same_among (dotted name k) (object_names s (suc j) os)) (by (is_link s.links o.symbol))
    (static_among_objects s name k (suc j) os n h.1 (omega (arith, l)) (omega (arith, m)))
  where
    by : (b : Bool) → bytes_eq (dotted name k) (whole_name b j o.object.name) ≡ false
    by true = dotted_differs o.object.name name k h.0.0
    by false = ap (bytes_eq (dotted name k)) (static_name o.object.name j) ∙ both_dotted_differ name o.object.name k j n h.0.0 (omega (arith, l, m)) (omega (arith, m)) l

linked_among_functions : (s : State) (name : List ℕ) (id : ℕ) (fs : List DefinedFunction) → symbol_named s.links name ≡ Some id → EachIs (IsNamedFunction s) fs → times_among fs id ≡ 0 → is_same_among name (function_names fs) ≡ false
linked_among_functions s name id [] e h z = refl
linked_among_functions s name id (f ∷ fs) e h z =
    or_false (bytes_eq name f.function.name) (is_same_among name (function_names fs)) (linked_differ s.links name f.function.name id f.symbol e h.0 (zero_one (f.symbol == id) (omega (arith, z)))) (linked_among_functions s name id fs e h.1 (omega (arith, z)))

same_append : (n : List ℕ) (xs ys : List (List ℕ)) → is_same_among n xs ≡ false → is_same_among n ys ≡ false → is_same_among n (xs ++ ys) ≡ false
same_append n [] ys h k = k
same_append n (x ∷ xs) ys h k = by (bytes_eq n x) h (same_append n xs ys)
  where
    by : (b : Bool) → (b || is_same_among n xs) ≡ false → (is_same_among n xs ≡ false → is_same_among n ys ≡ false → is_same_among n (xs ++ ys) ≡ false) → (b || is_same_among n (xs ++ ys)) ≡ false
    by true h r = never h
    by false h r = r h k

objects_different : (s : State) (k : ℕ) (os : List Defined) → EachIs (IsNamedObject s) os → ((id : ℕ) → is_link s.links id ≡ true → times_of os id ≤ 1) → k + length os ≤ 2 ^ 64 → are_different (object_names s k os) ≡ true
objects_different s k [] h t m = refl
objects_different s k (o ∷ os) h t m =
    and_true (not (is_same_among (whole_name (is_link s.links o.symbol) k o.object.name) (object_names s (suc k) os))) (are_different (object_names s (suc k) os))
    (negated (is_same_among (whole_name (is_link s.links o.symbol) k o.object.name) (object_names s (suc k) os)) (by (is_link s.links o.symbol) refl))
    (objects_different s (suc k) os h.1 (λ id l. let x = t id l in omega (arith, x)) (omega (arith, m)))
  where
    by : (b : Bool) → is_link s.links o.symbol ≡ b → is_same_among (whole_name b k o.object.name) (object_names s (suc k) os) ≡ false
    by true q = linked_among_objects s o.object.name o.symbol (suc k) os h.0.0 (h.0.1 q) h.1 (let x = t o.symbol q in let y = one_self o.symbol in omega (arith, x, y))
    by false q = ap (λ n. is_same_among n (object_names s (suc k) os)) (static_name o.object.name k) ∙ static_among_objects s o.object.name k (suc k) os h.0.0 h.1 (omega arith) (omega (arith, m))

all_different : (s : State) (fs : List DefinedFunction) (os : List Defined) → IsRegular s → EachIs (IsNamedFunction s) fs → EachIs (IsNamedObject s) os → ((id : ℕ) → is_link s.links id ≡ true → times_among fs id + times_of os id ≤ 1) → length os ≤ 2 ^ 64 → are_different (function_names fs ++ object_names s 0 os) ≡ true
all_different s [] os k h g t m = objects_different s 0 os g (λ id l. let x = t id l in omega (arith, x)) (omega (arith, m))
all_different s (f ∷ fs) os k h g t m =
    let name = f.function.name in
    let link = named_link s.links name f.symbol h.0 in
    let once = t f.symbol link in
    let this = one_self f.symbol in
    let is = (each_named (IsLinked s) s.links name f.symbol k.links h.0).name in
    and_true (not (is_same_among name (function_names fs ++ object_names s 0 os))) (are_different (function_names fs ++ object_names s 0 os))
    (negated (is_same_among name (function_names fs ++ object_names s 0 os))
    (same_append name (function_names fs) (object_names s 0 os) (linked_among_functions s name f.symbol fs h.0 h.1 (omega (arith, once, this))) (linked_among_objects s name f.symbol 0 os is h.0 g (omega (arith, once, this)))))
    (all_different s fs os k h.1 g (λ id l. let x = t id l in omega (arith, x)) m)

-- ---- tentative definitions

tentative_times : (s : State) (ns : List (List ℕ × ℕ)) (id : ℕ) → times_of (tentative_objects s (tentative s ns)) id ≤ times_in ns id
tentative_times s [] id = omega arith
tentative_times s (n ∷ ns) id = by (is_tentative (known_at s n.1).value) (tentative_times s ns id)
  where
    by : (b : Bool) → times_of (tentative_objects s (tentative s ns)) id ≤ times_in ns id → times_of (tentative_objects s (if b then n ∷ tentative s ns else tentative s ns)) id ≤ one_if (n.1 == id) + times_in ns id
    by true h = omega (arith, h)
    by false h = omega (arith, h)

tentative_none : (s : State) (ns : List (List ℕ × ℕ)) (id : ℕ) → is_tentative (known_at s id).value ≡ false → times_of (tentative_objects s (tentative s ns)) id ≡ 0
tentative_none s [] id e = refl
tentative_none s (n ∷ ns) id e = by (is_tentative (known_at s n.1).value) refl (tentative_none s ns id e)
  where
    apart : (q : Bool) → (n.1 == id) ≡ q → is_tentative (known_at s n.1).value ≡ true → one_if q ≡ 0
    apart true p t = never (sym t ∙ (ap (λ i. is_tentative (known_at s i).value) (eqb-true n.1 id p) ∙ e))
    apart false p t = refl

    by : (b : Bool) → is_tentative (known_at s n.1).value ≡ b → times_of (tentative_objects s (tentative s ns)) id ≡ 0 → times_of (tentative_objects s (if b then n ∷ tentative s ns else tentative s ns)) id ≡ 0
    by true t h = let x = apart (n.1 == id) refl t in omega (arith, x, h)
    by false t h = h

-- what is defined isn't tentative
tentative_undefined : (v : Option ℤ) → is_tentative v ≡ true → one_if (is_definition v) ≡ 0
tentative_undefined (Some (pos zero)) e = refl
tentative_undefined (Some (pos (suc n))) e = never (sym e)
tentative_undefined (Some (negsuc n)) e = never (sym e)
tentative_undefined None e = never (sym e)

at_most_one : (b : Bool) → one_if b ≤ 1
at_most_one true = omega arith
at_most_one false = omega arith

tentatives_linked : (s : State) (ns : List (List ℕ × ℕ)) → EachIs (IsLinked s) ns → EachIs (IsNamedObject s) (tentative_objects s (tentative s ns))
tentatives_linked s [] h = tt
tentatives_linked s (n ∷ ns) h = by (is_tentative (known_at s n.1).value) (tentatives_linked s ns h.1)
  where
    by : (b : Bool) → EachIs (IsNamedObject s) (tentative_objects s (tentative s ns)) → EachIs (IsNamedObject s) (tentative_objects s (if b then n ∷ tentative s ns else tentative s ns))
    by true k = ((h.0.name, λ e. h.0.named), k)
    by false k = k

-- ---- a whole unit

unit_times : (s : State) (q : Parts) → Goes at_first s q → (id : ℕ) → is_link s.links id ≡ true → times_among q.functions id + times_of (with_tentative s q).objects id ≤ 1
unit_times s q g id l = by (is_tentative (known_at s id).value) refl
  where
    all : times_of (with_tentative s q).objects id ≡ times_of q.objects id + times_of (tentative_objects s (tentative s s.links)) id
    all = times_of_append q.objects (tentative_objects s (tentative s s.links)) id

    by : (b : Bool) → is_tentative (known_at s id).value ≡ b → times_among q.functions id + times_of (with_tentative s q).objects id ≤ 1
    by true t =
        let x = g.once id (λ b. l) in
        let y : defined_at s id ≡ 0 = tentative_undefined (known_at s id).value t in
        let z = tentative_times s s.links id in
        let w = g.regular.once id in
        omega (arith, all, x, y, z, w)
    by false t =
        let x = g.once id (λ b. l) in
        let y = at_most_one (is_definition (known_at s id).value) in
        let z = tentative_none s s.links id t in
        omega (arith, all, x, y, z)

module _ (types : TypeLaws) where
  pub unit_names_differ : StepLaws → UnitNamesDiffer
  unit_names_differ laws s q xs f n h e few =
      let g = unit_goes types laws s q xs f n h in
      let p : Parts = with_tentative s q in
      let os = each_join (IsNamedObject s) q.objects (tentative_objects s (tentative s s.links)) (each_map (IsObject s) (IsNamedObject s) (λ o x. (x.name, x.named)) q.objects g.objects) (tentatives_linked s s.links g.regular.links) in
      let fs = each_map (IsDefinedFunction s) (IsNamedFunction s) (λ x y. y.named) q.functions g.functions in
      let d = all_different s q.functions p.objects g.regular fs os (unit_times s q g) (omega (arith, few)) in
      subst (λ ns. are_different (ns ++ map (λ (o : ObjectTree). o.name) (whole_unit s p).objects) ≡ true) (sym (functions_named (stands_for s p) (texts_of p) q.functions))
      (subst (λ ns. are_different (function_names q.functions ++ ns) ≡ true) (sym (objects_named s (stands_for s p) (texts_of p) 0 p.objects)) d)
