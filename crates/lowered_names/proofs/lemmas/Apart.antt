-- No name of a lowered unit is another's.
use Rattle.std.specs.Prelude.{◌≡◌, ◌<◌, ◌^◌, ℕ, zero, suc, ◌+◌, codes, decimal, ◌||◌, Bool, true, false, Some, All, List, [], ◌∷◌, ◌++◌, length, map, slice_get, if◌then◌else◌}
use Rattle.std.specs.List.{AllByRecursion}
use Rattle.std.specs.Str.{bytes_eq}
use Rattle.std.proofs.Common.{true≢false, ⊎_elim, refl, sym, ap, subst, ◌∙◌, arith, length-append}
use Rattle.std.proofs.lemmas.Fmt.{decimal_injective, decimal_nonempty}
use Rattle.lcc_text.specs.declared.class.Class.TheVariants.{Digit}
use Rattle.lcc_text.specs.Classes.{AllIn, in_class}
use Rattle.lburg_model.specs.Description.{AreDistinct}
use Rattle.op_forest.specs.Lowered.{IsUnitName}
use Rattle.c_meaning.specs.declared.built_in.BuiltIn.{BuiltIn}
use Rattle.c_meaning.specs.declared.built_in.BuiltIn.TheVariants.{Putchar, Getchar, Exit}
use Rattle.c_meaning.specs.Units.{FunctionTree, ObjectTree, UnitTree, IsUnit, names}
use Rattle.c_runs.specs.Calls.{has_function, has_object, built_ins}
use Rattle.lowered_names.specs.UnitNames.{IsIdentifier, IsStatic, IsNameOf, AreNamesOf, numbered, built_in_name, further_names, AreUnitNames}
use Rattle.lowered_names.proofs.lemmas.Lists.{either_list, distinct_append, all_of, same_bytes, different_names}
use Rattle.lowered_names.proofs.lemmas.Spelling.{IsWord, dotless, cut, decimal_in, word_of_digits, no_s, identifier_is_name, dotted_is_name}

-- ---- own names

word_of : (n : List ℕ) → IsIdentifier n → IsWord n
word_of [] h = absurd h
word_of (b ∷ bs) h = h.1

-- two names that are lowered to one are one
same_static : (n m x : List ℕ) → IsStatic n x → IsStatic m x → n ≡ m
same_static n m x h g =
    let r = cut h.front g.front (115 ∷ h.digits) (115 ∷ g.digits) (word_of h.front h.identifier) (word_of g.front g.identifier) (sym h.becomes ∙ g.becomes) in
    let d : h.digits ≡ g.digits = (let q = r.1 in cc) in
    h.is ∙ (λ i. r.0 i ++ 46 ∷ d i) ∙ sym g.is

not_static : (n x : List ℕ) → IsIdentifier n → x ≡ n → (m : List ℕ) → IsStatic m x → ⊥
not_static n x h e m g = dotless g.front (115 ∷ g.digits) (subst IsWord (sym e ∙ g.becomes) (word_of n h))

pub same_own : (n m x : List ℕ) → IsNameOf n x → IsNameOf m x → n ≡ m
same_own n m x h g =
    ⊎_elim
    (λ a. ⊎_elim (λ b. sym a.1 ∙ b.1) (λ b. absurd (not_static n x a.0 a.1 m b)) g)
    (λ a. ⊎_elim (λ b. absurd (not_static m x b.0 b.1 n a)) (λ b. same_static n m x a b) g)
    h

pub record Own (ns : List (List ℕ)) (i : ℕ) (x : List ℕ) : Type 0 where
  pub name : List ℕ
  pub there : slice_get ns i ≡ Some name
  pub is : IsNameOf name x

pub own_at : (ns ms : List (List ℕ)) (i : ℕ) (x : List ℕ) → AreNamesOf ns ms → slice_get ms i ≡ Some x → Own ns i x
own_at [] [] i x h e = absurd (let never : ⊥ = cc in never)
own_at [] (m ∷ ms) i x h e = absurd h
own_at (n ∷ ns) [] i x h e = absurd h
own_at (n ∷ ns) (m ∷ ms) zero x h e = let q : m ≡ x = cc in record { name = n; there = refl; is = subst (IsNameOf n) q h.0 }
own_at (n ∷ ns) (m ∷ ms) (suc i) x h e = let r = own_at ns ms i x h.1 e in record { name = r.name; there = r.there; is = r.is }

own_distinct : (ns ms : List (List ℕ)) → AreDistinct ns → AreNamesOf ns ms → AreDistinct ms
own_distinct ns ms d h = λ i j x e f.
    let a = own_at ns ms i x h e in
    let b = own_at ns ms j x h f in
    d i j a.name a.there (subst (λ (n : List ℕ). slice_get ns j ≡ Some n) (sym (same_own a.name b.name x a.is b.is)) b.there)

-- ---- numbered names

pub record Numbered (front : List ℕ) (count i : ℕ) (x : List ℕ) : Type 0 where
  pub below : i < count
  pub is : x ≡ front ++ decimal i

numbered_length : (front : List ℕ) (n : ℕ) → length (numbered front n) ≡ n
numbered_length front zero = refl
numbered_length front (suc n) = let e = numbered_length front n in let d = length-append (numbered front n) ((front ++ decimal n) ∷ []) in omega (arith, e, d)

pub numbered_at : (front : List ℕ) (n i : ℕ) (x : List ℕ) → slice_get (numbered front n) i ≡ Some x → Numbered front n i x
numbered_at front zero i x e = absurd (let never : ⊥ = cc in never)
numbered_at front (suc n) i x e =
    ⊎_elim
    (λ a. let r = numbered_at front n i x a in let lt = r.below in record { below = omega (arith, lt); is = r.is })
    (λ b. last b.0 b.1 b.2)
    (either_list (numbered front n) ((front ++ decimal n) ∷ []) i x e)
  where
    last : (k : ℕ) → i ≡ length (numbered front n) + k → slice_get ((front ++ decimal n) ∷ []) k ≡ Some x → Numbered front (suc n) i x
    last zero p q =
        let l = numbered_length front n in
        let here : i ≡ n = omega (arith, p, l) in
        let is : front ++ decimal n ≡ x = cc in
        record { below = omega (arith, here); is = sym is ∙ ap (λ (k : ℕ). front ++ decimal k) (sym here) }
    last (suc k) p q = absurd (let never : ⊥ = cc in never)

-- their fronts end with a dot
numbered_distinct : (front : List ℕ) (n : ℕ) → IsWord front → n < 2 ^ 64 → AreDistinct (numbered (front ++ 46 ∷ []) n)
numbered_distinct front n w h = λ i j x e f.
    let a = numbered_at (front ++ 46 ∷ []) n i x e in
    let b = numbered_at (front ++ 46 ∷ []) n j x f in
    let p = a.below in
    let q = b.below in
    decimal_injective i j (omega (arith, p, h)) (omega (arith, q, h))
    (cut front front (decimal i) (decimal j) w w (sym (behind_dot front (decimal i)) ∙ sym a.is ∙ b.is ∙ behind_dot front (decimal j))).1
  where
    behind_dot : (a d : List ℕ) → (a ++ 46 ∷ []) ++ d ≡ a ++ 46 ∷ d
    behind_dot [] d = refl
    behind_dot (c ∷ a) d = ap (λ (z : List ℕ). c ∷ z) (behind_dot a d)

-- they have a dot, and digits behind it
dotted_number : (front : List ℕ) (i : ℕ) → IsWord front → i < 2 ^ 64 → (x : List ℕ) → x ≡ front ++ 46 ∷ decimal i → (n : List ℕ) → IsNameOf n x → ⊥
dotted_number front i w lt x e n h =
    ⊎_elim
    (λ a. dotless front (decimal i) (subst IsWord (sym a.1 ∙ e) (word_of n a.0)))
    (λ a.
    let r = cut a.front front (115 ∷ a.digits) (decimal i) (word_of a.front a.identifier) w (sym a.becomes ∙ e) in
    no_s a.digits (subst (AllIn (in_class Digit)) (sym r.1) (decimal_in i lt)))
    h

-- ---- built-in functions

-- the name of one that the unit doesn't define
record Built (u : UnitTree) (x : List ℕ) : Type 0 where
  identifier : IsIdentifier x
  not_own : (has_function u.functions x || has_object u.objects x) ≡ false

item : {A : Type 0} (P : A → Type 0) (xs : List A) (i : ℕ) (x : A) → AllByRecursion P xs → slice_get xs i ≡ Some x → P x
item P [] i x h e = absurd (let never : ⊥ = cc in never)
item P (y ∷ xs) zero x h e = let q : y ≡ x = cc in subst P q h.0
item P (y ∷ xs) (suc i) x h e = item P xs i x h.1 e

abbrev listed : Bool → BuiltIn → List BuiltIn
listed p b = if p then [] else b ∷ []

putchar_is : IsIdentifier (codes "putchar")
putchar_is = (refl, (refl, (refl, (refl, (refl, (refl, (refl, (refl, tt))))))))

getchar_is : IsIdentifier (codes "getchar")
getchar_is = (refl, (refl, (refl, (refl, (refl, (refl, (refl, (refl, tt))))))))

exit_is : IsIdentifier (codes "exit")
exit_is = (refl, (refl, (refl, (refl, (refl, tt)))))

each_built : (u : UnitTree) (p q r : Bool) → (has_function u.functions (codes "putchar") || has_object u.objects (codes "putchar")) ≡ p → (has_function u.functions (codes "getchar") || has_object u.objects (codes "getchar")) ≡ q
    → (has_function u.functions (codes "exit") || has_object u.objects (codes "exit")) ≡ r → AllByRecursion (Built u) (map built_in_name (listed p Putchar ++ (listed q Getchar ++ listed r Exit)))
each_built u true true true e f g = tt
each_built u true true false e f g = (record { identifier = exit_is; not_own = g }, tt)
each_built u true false true e f g = (record { identifier = getchar_is; not_own = f }, tt)
each_built u true false false e f g = (record { identifier = getchar_is; not_own = f }, (record { identifier = exit_is; not_own = g }, tt))
each_built u false true true e f g = (record { identifier = putchar_is; not_own = e }, tt)
each_built u false true false e f g = (record { identifier = putchar_is; not_own = e }, (record { identifier = exit_is; not_own = g }, tt))
each_built u false false true e f g = (record { identifier = putchar_is; not_own = e }, (record { identifier = getchar_is; not_own = f }, tt))
each_built u false false false e f g = (record { identifier = putchar_is; not_own = e }, (record { identifier = getchar_is; not_own = f }, (record { identifier = exit_is; not_own = g }, tt)))

built_at : (u : UnitTree) (i : ℕ) (x : List ℕ) → slice_get (map built_in_name (built_ins u)) i ≡ Some x → Built u x
built_at u i x e = item (Built u) (map built_in_name (built_ins u)) i x (each_built u _ _ _ refl refl refl) e

listed_distinct : (p q r : Bool) → AreDistinct (map built_in_name (listed p Putchar ++ (listed q Getchar ++ listed r Exit)))
listed_distinct true true true = different_names ([]) refl
listed_distinct true true false = different_names (codes "exit" ∷ []) refl
listed_distinct true false true = different_names (codes "getchar" ∷ []) refl
listed_distinct true false false = different_names (codes "getchar" ∷ codes "exit" ∷ []) refl
listed_distinct false true true = different_names (codes "putchar" ∷ []) refl
listed_distinct false true false = different_names (codes "putchar" ∷ codes "exit" ∷ []) refl
listed_distinct false false true = different_names (codes "putchar" ∷ codes "getchar" ∷ []) refl
listed_distinct false false false = different_names (codes "putchar" ∷ codes "getchar" ∷ codes "exit" ∷ []) refl

built_distinct : (u : UnitTree) → AreDistinct (map built_in_name (built_ins u))
built_distinct u = listed_distinct (has_function u.functions (codes "putchar") || has_object u.objects (codes "putchar")) (has_function u.functions (codes "getchar") || has_object u.objects (codes "getchar")) (has_function u.functions (codes "exit") || has_object u.objects (codes "exit"))

or_first : (a b : Bool) → a ≡ true → (a || b) ≡ true
or_first true b e = refl
or_first false b e = absurd (true≢false (sym e))

or_second : (a b : Bool) → b ≡ true → (a || b) ≡ true
or_second true b e = refl
or_second false b e = e

function_named : (fs : List FunctionTree) (i : ℕ) (n : List ℕ) → slice_get (map (λ (f : FunctionTree). f.name) fs) i ≡ Some n → has_function fs n ≡ true
function_named [] i n e = absurd (let never : ⊥ = cc in never)
function_named (f ∷ fs) zero n e = let q : f.name ≡ n = cc in or_first (bytes_eq f.name n) (has_function fs n) (subst (λ (x : List ℕ). bytes_eq f.name x ≡ true) q (same_bytes f.name))
function_named (f ∷ fs) (suc i) n e = or_second (bytes_eq f.name n) (has_function fs n) (function_named fs i n e)

object_named : (os : List ObjectTree) (i : ℕ) (n : List ℕ) → slice_get (map (λ (o : ObjectTree). o.name) os) i ≡ Some n → has_object os n ≡ true
object_named [] i n e = absurd (let never : ⊥ = cc in never)
object_named (o ∷ os) zero n e = let q : o.name ≡ n = cc in or_first (bytes_eq o.name n) (has_object os n) (subst (λ (x : List ℕ). bytes_eq o.name x ≡ true) q (same_bytes o.name))
object_named (o ∷ os) (suc i) n e = or_second (bytes_eq o.name n) (has_object os n) (object_named os i n e)

own_named : (u : UnitTree) (i : ℕ) (n : List ℕ) → slice_get (names u) i ≡ Some n → (has_function u.functions n || has_object u.objects n) ≡ true
own_named u i n e =
    ⊎_elim
    (λ a. or_first (has_function u.functions n) (has_object u.objects n) (function_named u.functions i n a))
    (λ b. or_second (has_function u.functions n) (has_object u.objects n) (object_named u.objects b.0 n b.2))
    (either_list (map (λ (f : FunctionTree). f.name) u.functions) (map (λ (o : ObjectTree). o.name) u.objects) i n e)

own_not_built : (u : UnitTree) (i : ℕ) (x : List ℕ) → Own (names u) i x → Built u x → ⊥
own_not_built u i x a b =
    ⊎_elim
    (λ c. true≢false (sym (own_named u i a.name a.there) ∙ ap (λ (n : List ℕ). has_function u.functions n || has_object u.objects n) (sym c.1) ∙ b.not_own))
    (λ c. dotless c.front (115 ∷ c.digits) (subst IsWord c.becomes (word_of x b.identifier)))
    a.is

-- ---- all of them

abbrev text_front : List ℕ
text_front = codes "text"

abbrev table_front : List ℕ
table_front = codes "table"

text_word : IsWord text_front
text_word = (refl, (refl, (refl, (refl, tt))))

table_word : IsWord table_front
table_word = (refl, (refl, (refl, (refl, (refl, tt)))))

module _ (u : UnitTree) (tables : ℕ) (few : length u.texts < 2 ^ 64) (fits : tables < 2 ^ 64) where
  below_texts : (i : ℕ) (x : List ℕ) → Numbered (codes "text.") (length u.texts) i x → i < 2 ^ 64
  below_texts i x h = let l = h.below in omega (arith, l, few)

  below_tables : (i : ℕ) (x : List ℕ) → Numbered (codes "table.") tables i x → i < 2 ^ 64
  below_tables i x h = let l = h.below in omega (arith, l, fits)

  text_no_table : (i j : ℕ) (x : List ℕ) → Numbered (codes "text.") (length u.texts) i x → Numbered (codes "table.") tables j x → ⊥
  text_no_table i j x a b = let r = cut text_front table_front (decimal i) (decimal j) text_word table_word (sym a.is ∙ b.is) in let never : ⊥ = (let q = r.0 in cc) in never

  text_not_built : (i : ℕ) (x : List ℕ) → Numbered (codes "text.") (length u.texts) i x → Built u x → ⊥
  text_not_built i x a b = dotless text_front (decimal i) (subst IsWord a.is (word_of x b.identifier))

  built_no_table : (j : ℕ) (x : List ℕ) → Built u x → Numbered (codes "table.") tables j x → ⊥
  built_no_table j x b a = dotless table_front (decimal j) (subst IsWord a.is (word_of x b.identifier))

  behind_distinct : AreDistinct (map built_in_name (built_ins u) ++ numbered (codes "table.") tables)
  behind_distinct = distinct_append (map built_in_name (built_ins u)) (numbered (codes "table.") tables) (built_distinct u) (numbered_distinct table_front tables table_word fits)
      (λ i j x e f. built_no_table j x (built_at u i x e) (numbered_at (codes "table.") tables j x f))

  further_distinct : AreDistinct (further_names u tables)
  further_distinct =
      distinct_append (numbered (codes "text.") (length u.texts)) (map built_in_name (built_ins u) ++ numbered (codes "table.") tables) (numbered_distinct text_front (length u.texts) text_word few) behind_distinct
      (λ i j x e f.
      let a = numbered_at (codes "text.") (length u.texts) i x e in
      ⊎_elim
      (λ b. text_not_built i x a (built_at u j x b))
      (λ b. text_no_table i b.0 x a (numbered_at (codes "table.") tables b.0 x b.2))
      (either_list (map built_in_name (built_ins u)) (numbered (codes "table.") tables) j x f))

  own_no_further : (ns : List (List ℕ)) → AreNamesOf (names u) ns → (i j : ℕ) (x : List ℕ) → slice_get ns i ≡ Some x → slice_get (further_names u tables) j ≡ Some x → ⊥
  own_no_further ns h i j x e f =
      let a = own_at (names u) ns i x h e in
      ⊎_elim
      (λ b. let n = numbered_at (codes "text.") (length u.texts) j x b in dotted_number text_front j text_word (below_texts j x n) x n.is a.name a.is)
      (λ b. ⊎_elim
      (λ d. own_not_built u i x a (built_at u b.0 x d))
      (λ d. let n = numbered_at (codes "table.") tables d.0 x d.2 in dotted_number table_front d.0 table_word (below_tables d.0 x n) x n.is a.name a.is)
      (either_list (map built_in_name (built_ins u)) (numbered (codes "table.") tables) b.0 x b.2))
      (either_list (numbered (codes "text.") (length u.texts)) (map built_in_name (built_ins u) ++ numbered (codes "table.") tables) j x f)

  -- ---- each is a name of assembly text

  number_is_name : (front : List ℕ) → IsIdentifier front → (front ≡ codes "L" → ⊥) → (i : ℕ) → i < 2 ^ 64 → (d : List ℕ) → decimal i ≡ d → IsUnitName (front ++ 46 ∷ d)
  number_is_name front h apart i lt [] e = absurd (let l = decimal_nonempty i lt in let z : length (decimal i) ≡ 0 = ap (λ (x : List ℕ). length x) e in omega (arith, l, z))
  number_is_name front h apart i lt (c ∷ d) e = dotted_is_name front c d h (word_of_digits (c ∷ d) (subst (AllIn (in_class Digit)) e (decimal_in i lt))) (λ q digits. apart q)

  own_is_name : (i : ℕ) (x : List ℕ) → Own (names u) i x → IsUnitName x
  own_is_name i x a =
      ⊎_elim
      (λ b. subst IsUnitName (sym b.1) (identifier_is_name a.name b.0))
      (λ b. subst IsUnitName (sym b.becomes) (dotted_is_name b.front 115 b.digits b.identifier (refl, word_of_digits b.digits b.each) (λ q digits. no_s b.digits digits)))
      a.is

  further_is_name : (j : ℕ) (x : List ℕ) → slice_get (further_names u tables) j ≡ Some x → IsUnitName x
  further_is_name j x f =
      ⊎_elim
      (λ b. let n = numbered_at (codes "text.") (length u.texts) j x b in subst IsUnitName (sym n.is) (number_is_name text_front (refl, text_word) (λ q. let never : ⊥ = cc in never) j (below_texts j x n) (decimal j) refl))
      (λ b. ⊎_elim
      (λ d. identifier_is_name x (built_at u b.0 x d).identifier)
      (λ d. let n = numbered_at (codes "table.") tables d.0 x d.2 in subst IsUnitName (sym n.is) (number_is_name table_front (refl, table_word) (λ q. let never : ⊥ = cc in never) d.0 (below_tables d.0 x n) (decimal d.0) refl))
      (either_list (map built_in_name (built_ins u)) (numbered (codes "table.") tables) b.0 x b.2))
      (either_list (numbered (codes "text.") (length u.texts)) (map built_in_name (built_ins u) ++ numbered (codes "table.") tables) j x f)

few_texts : (u : UnitTree) → IsUnit u → length u.texts < 2 ^ 64
few_texts u h = let f = h.few in omega (arith, f)

pub unit_names_distinct : (u : UnitTree) (tables : ℕ) (all : List (List ℕ)) → IsUnit u → tables < 2 ^ 64 → AreUnitNames u tables all → AreDistinct all
unit_names_distinct u tables all h fits n =
    let few = few_texts u h in
    subst (λ (xs : List (List ℕ)). AreDistinct xs) (sym n.is)
    (distinct_append n.own (further_names u tables) (own_distinct (names u) n.own (different_names (names u) h.names) n.each) (further_distinct u tables few fits) (own_no_further u tables few fits n.own n.each))

pub unit_names_are_names : (u : UnitTree) (tables : ℕ) (all : List (List ℕ)) → IsUnit u → tables < 2 ^ 64 → AreUnitNames u tables all → All IsUnitName all
unit_names_are_names u tables all h fits n =
    let few = few_texts u h in
    subst (λ (xs : List (List ℕ)). All IsUnitName xs) (sym n.is)
    (all_of IsUnitName (n.own ++ further_names u tables) (λ i x e.
    ⊎_elim
    (λ a. own_is_name u tables few fits i x (own_at (names u) n.own i x n.each a))
    (λ b. further_is_name u tables few fits b.0 x b.2)
    (either_list n.own (further_names u tables) i x e)))
