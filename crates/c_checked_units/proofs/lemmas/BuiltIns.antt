-- A name that stands for a built-in function is no function's and no object's of the unit, so its number stands for it.
use Rattle.std.proofs.Common.{◌≡◌, ℕ, suc, ◌+◌, ◌-◌, Bool, true, false, ◌||◌, List, [], ◌∷◌, ◌++◌, refl, sym, ap, subst, ◌∙◌, arith, append_assoc, eqb-true}
use Rattle.std.specs.Prelude.{◌==◌, Some, None, codes, decimal, nat_lt, slice_get, if◌then◌else◌}
use Rattle.std.specs.Str.{bytes_eq}
use Rattle.std.proofs.lemmas.Bool.{eq-eqb, le-ltb}
use Rattle.c_symbols.specs.Scoping.{symbol_named}
use Rattle.c_meaning.specs.declared.built_in.BuiltIn.{BuiltIn}
use Rattle.c_meaning.specs.declared.built_in.BuiltIn.TheVariants.{Putchar, Getchar, Exit}
use Rattle.c_meaning.specs.declared.core_expr.CoreKind.{CoreKind}
use Rattle.c_meaning.specs.Declarations.{Defined}
use Rattle.c_meaning.specs.Each.{EachIs}
use Rattle.c_meaning.specs.State.{State}
use Rattle.c_meaning.specs.Units.{UnitTree}
use Rattle.c_tree_names.specs.Names.{are_name_bytes, is_name_byte}
use Rattle.c_units.specs.Ends.{built_in_named, built_in_of, is_function_of, is_link, is_object_of, name_of}
use Rattle.c_units.specs.Functions.{DefinedFunction}
use Rattle.c_units.specs.Wholes.{whole_functions, whole_name, whole_objects}
use Rattle.c_fits.proofs.lemmas.Booleans.{and_right, never, or_false, or_left, or_right}
use Rattle.c_fits.proofs.lemmas.Lists.{some_id}
use Rattle.c_linked_names.proofs.lemmas.Going.{IsDefinedFunction}
use Rattle.c_linked_names.proofs.lemmas.Keeping.{IsLinked}
use Rattle.c_linked_names.proofs.lemmas.Lists.{same_name}
use Rattle.c_runs.specs.Calls.{built_in_at, built_in_number, built_ins, first_built_in, has_function, has_object, place_among}

-- ---- by name

abbrev pub spelled : BuiltIn → List ℕ
spelled Putchar = codes "putchar"
spelled Getchar = codes "getchar"
spelled Exit = codes "exit"

-- a text by its spelling alone
is_spelled : (name : List ℕ) (b : BuiltIn) → built_in_named name ≡ Some b → name ≡ spelled b
is_spelled name b h = first (bytes_eq name (codes "putchar")) refl h
  where
    third : (q : Bool) → bytes_eq name (codes "exit") ≡ q → (if q then Some Exit else None) ≡ Some b → name ≡ spelled b
    third true e g = let k : Exit ≡ b = cc in subst (λ b. name ≡ spelled b) k (same_name name (codes "exit") e)
    third false e g = absurd (let none : ⊥ = cc in none)

    second : (q : Bool) → bytes_eq name (codes "getchar") ≡ q → (if q then Some Getchar else if bytes_eq name (codes "exit") then Some Exit else None) ≡ Some b → name ≡ spelled b
    second true e g = let k : Getchar ≡ b = cc in subst (λ b. name ≡ spelled b) k (same_name name (codes "getchar") e)
    second false e g = third (bytes_eq name (codes "exit")) refl g

    first : (q : Bool) → bytes_eq name (codes "putchar") ≡ q → (if q then Some Putchar else if bytes_eq name (codes "getchar") then Some Getchar else if bytes_eq name (codes "exit") then Some Exit else None) ≡ Some b → name ≡ spelled b
    first true e g = let k : Putchar ≡ b = cc in subst (λ b. name ≡ spelled b) k (same_name name (codes "putchar") e)
    first false e g = second (bytes_eq name (codes "getchar")) refl g

-- it is a name with linkage, of this symbol
link_named : (s : State) (ns : List (List ℕ × ℕ)) (id : ℕ) (b : BuiltIn) → EachIs (IsLinked s) ns → built_in_named (name_of ns id) ≡ Some b → symbol_named s.links (spelled b) ≡ Some id
link_named s [] id b h e = absurd (let none : ⊥ = cc in none)
link_named s (n ∷ ns) id b h e = by (n.1 == id) refl e (link_named s ns id b h.1)
  where
    by : (q : Bool) → (n.1 == id) ≡ q → built_in_named (if q then n.0 else name_of ns id) ≡ Some b → (built_in_named (name_of ns id) ≡ Some b → symbol_named s.links (spelled b) ≡ Some id) → symbol_named s.links (spelled b) ≡ Some id
    by true q g k = ap (symbol_named s.links) (sym (is_spelled n.0 b g)) ∙ (h.0.named ∙ ap Some (eqb-true n.1 id q))
    by false q g k = k g

-- ---- no function and no object has the name

differ : (a b : List ℕ) → (a ≡ b → ⊥) → bytes_eq a b ≡ false
differ a b h = by (bytes_eq a b) refl
  where
    by : (q : Bool) → bytes_eq a b ≡ q → q ≡ false
    by true e = absurd (h (same_name a b e))
    by false e = refl

other_symbol : (ns : List (List ℕ × ℕ)) (name other : List ℕ) (id symbol : ℕ) → symbol_named ns name ≡ Some id → symbol_named ns other ≡ Some symbol → (symbol == id) ≡ false → bytes_eq other name ≡ false
other_symbol ns name other id symbol e g n = differ other name (λ q. let p = some_id symbol id (sym g ∙ (ap (symbol_named ns) q ∙ e)) in never (sym (eq-eqb symbol id p) ∙ n))

no_dot : (a x : List ℕ) → are_name_bytes (a ++ 46 ∷ x) ≡ true → ⊥
no_dot [] x h = never (sym h)
no_dot (b ∷ a) x h = no_dot a x (and_right (is_name_byte b) (are_name_bytes (a ++ 46 ∷ x)) h)

spelled_bytes : (b : BuiltIn) → are_name_bytes (spelled b) ≡ true
spelled_bytes Putchar = refl
spelled_bytes Getchar = refl
spelled_bytes Exit = refl

static_differs : (name : List ℕ) (k : ℕ) (b : BuiltIn) → bytes_eq (whole_name false k name) (spelled b) ≡ false
static_differs name k b = differ (whole_name false k name) (spelled b) (λ e. no_dot name (decimal k) (ap are_name_bytes (sym (append_assoc name (codes ".") (decimal k)) ∙ e) ∙ spelled_bytes b))

no_function_named : (s : State) (meant : ℕ → CoreKind) (texts : List (List ℕ)) (name : List ℕ) (id : ℕ) → symbol_named s.links name ≡ Some id → (fs : List DefinedFunction) → EachIs (IsDefinedFunction s) fs → is_function_of fs id ≡ false
    → has_function (whole_functions meant texts fs) name ≡ false
no_function_named s meant texts name id e [] h z = refl
no_function_named s meant texts name id e (f ∷ fs) h z =
    or_false (bytes_eq f.function.name name) (has_function (whole_functions meant texts fs) name)
    (other_symbol s.links name f.function.name id f.symbol e h.0.named (or_left (f.symbol == id) (is_function_of fs id) z))
    (no_function_named s meant texts name id e fs h.1 (or_right (f.symbol == id) (is_function_of fs id) z))

-- an object with linkage has its name with linkage, and one of a block a dot in its name
abbrev pub IsNamedObject : State → Defined → Type 0
IsNamedObject s o = is_link s.links o.symbol ≡ true → symbol_named s.links o.object.name ≡ Some o.symbol

no_object_named : (s : State) (meant : ℕ → CoreKind) (texts : List (List ℕ)) (b : BuiltIn) (id : ℕ) → symbol_named s.links (spelled b) ≡ Some id → (k : ℕ) (os : List Defined) → EachIs (IsNamedObject s) os → is_object_of os id ≡ false
    → has_object (whole_objects s meant texts k os) (spelled b) ≡ false
no_object_named s meant texts b id e k [] h z = refl
no_object_named s meant texts b id e k (o ∷ os) h z =
    or_false (bytes_eq (whole_name (is_link s.links o.symbol) k o.object.name) (spelled b)) (has_object (whole_objects s meant texts (suc k) os) (spelled b))
    (by (is_link s.links o.symbol) refl) (no_object_named s meant texts b id e (suc k) os h.1 (or_right (o.symbol == id) (is_object_of os id) z))
  where
    by : (q : Bool) → is_link s.links o.symbol ≡ q → bytes_eq (whole_name q k o.object.name) (spelled b) ≡ false
    by true q = other_symbol s.links (spelled b) o.object.name id o.symbol e (h.0 q) (or_left (o.symbol == id) (is_object_of os id) z)
    by false q = static_differs o.object.name k b

-- ---- then its number stands for it

abbrev listed : Bool → BuiltIn → List BuiltIn
listed defined b = if defined then [] else b ∷ []

abbrev all_listed : Bool → Bool → Bool → List BuiltIn
all_listed p q r = listed p Putchar ++ (listed q Getchar ++ listed r Exit)

abbrev IsAtPlace : BuiltIn → List BuiltIn → Type 0
IsAtPlace b bs = slice_get bs (place_among b bs) ≡ Some b

putchar_at : (q r : Bool) → IsAtPlace Putchar (all_listed false q r)
putchar_at q r = refl

getchar_at : (p r : Bool) → IsAtPlace Getchar (all_listed p false r)
getchar_at true r = refl
getchar_at false r = refl

exit_at : (p q : Bool) → IsAtPlace Exit (all_listed p q false)
exit_at true true = refl
exit_at true false = refl
exit_at false true = refl
exit_at false false = refl

abbrev defined_in : UnitTree → BuiltIn → Bool
defined_in u b = has_function u.functions (spelled b) || has_object u.objects (spelled b)

at_place : (u : UnitTree) (b : BuiltIn) → defined_in u b ≡ false → IsAtPlace b (built_ins u)
at_place u Putchar h = subst (λ p. IsAtPlace Putchar (all_listed p (defined_in u Getchar) (defined_in u Exit))) (sym h) (putchar_at (defined_in u Getchar) (defined_in u Exit))
at_place u Getchar h = subst (λ q. IsAtPlace Getchar (all_listed (defined_in u Putchar) q (defined_in u Exit))) (sym h) (getchar_at (defined_in u Putchar) (defined_in u Exit))
at_place u Exit h = subst (λ r. IsAtPlace Exit (all_listed (defined_in u Putchar) (defined_in u Getchar) r)) (sym h) (exit_at (defined_in u Putchar) (defined_in u Getchar))

not_below : (a n : ℕ) → nat_lt (a + n) a ≡ false
not_below a n = le-ltb (a + n) a (omega arith)

number_stands : (u : UnitTree) (b : BuiltIn) → defined_in u b ≡ false → built_in_at u (built_in_number u b) ≡ Some b
number_stands u b h =
    let first = first_built_in u in
    let place = place_among b (built_ins u) in
    let e : (first + place) - first ≡ place = omega arith in
    ap (λ q. if q then None else slice_get (built_ins u) ((first + place) - first)) (not_below first place) ∙ (ap (slice_get (built_ins u)) e ∙ at_place u b h)

-- ---- of a whole unit

pub built_in_stands : (s : State) (meant : ℕ → CoreKind) (texts : List (List ℕ)) (u : UnitTree) (fs : List DefinedFunction) (os : List Defined) → u.functions ≡ whole_functions meant texts fs → u.objects ≡ whole_objects s meant texts 0 os
    → EachIs (IsLinked s) s.links → EachIs (IsDefinedFunction s) fs → EachIs (IsNamedObject s) os → (id : ℕ) (b : BuiltIn) → is_function_of fs id ≡ false → is_object_of os id ≡ false → built_in_of s id ≡ Some b
    → built_in_at u (built_in_number u b) ≡ Some b
built_in_stands s meant texts u fs os fe oe links functions objects id b free apart e =
    let named = link_named s s.links id b links e in
    number_stands u b
    (or_false (has_function u.functions (spelled b)) (has_object u.objects (spelled b))
    (ap (λ fs. has_function fs (spelled b)) fe ∙ no_function_named s meant texts (spelled b) id named fs functions free)
    (ap (λ os. has_object os (spelled b)) oe ∙ no_object_named s meant texts b id named 0 os objects apart))
