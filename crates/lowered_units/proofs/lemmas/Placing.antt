-- Functions and tables of a lowered unit by their places.
use Rattle.std.specs.Prelude.{◌≡◌, ◌<◌, ◌≤◌, ℕ, zero, suc, ◌+◌, ◌-◌, nat_lt, Bool, true, false, Some, List, [], ◌∷◌, ◌++◌, length, slice_get, take}
use Rattle.std.proofs.Common.{refl, sym, ap, ◌∙◌, subst, arith}
use Rattle.std.proofs.lemmas.Bool.Decides.{nat_tests}
use Rattle.lcc_base.specs.declared.order.Order.{Order}
use Rattle.op_forest.specs.declared.lowered.LoweredFunction.{LoweredFunction}
use Rattle.op_forest.specs.declared.lowered.LoweredObject.{LoweredObject}
use Rattle.c_meaning.specs.Units.{FunctionTree, UnitTree}
use Rattle.lowered_statements.specs.Bodies.{Body}
use Rattle.lowered_statements.specs.FunctionBodies.{low_f}
use Rattle.lowered_units.specs.LoweredUnits.{AreLoweredFunctions, IsLoweredFunction}
use Rattle.lowered_units.specs.Tables.{all_tables, bodies_from, table_count, table_object, table_objects}

-- ---- bodies

pub body_there : (u : UnitTree) (order : Order) (number name : ℕ) (fs : List FunctionTree) (n m k : ℕ) (f : FunctionTree) → slice_get fs n ≡ Some f
    → m ≡ number + n → k ≡ name + table_count (take n (bodies_from u order number name fs))
    → slice_get (bodies_from u order number name fs) n ≡ Some (low_f u order m k f)
body_there u order number name [] n m k f e i j = absurd (let never : ⊥ = cc in never)
body_there u order number name (x ∷ fs) zero m k f e i j =
    let same : x ≡ f = cc in
    let p : number ≡ m = omega (arith, i) in
    let q : name ≡ k = omega (arith, j) in
    λ w. Some (low_f u order (p w) (q w) (same w))
body_there u order number name (x ∷ fs) (suc n) m k f e i j =
    body_there u order (suc number) (name + length (low_f u order number name x).tables) fs n m k f e (omega (arith, i)) (omega (arith, j))

-- ---- functions

pub record Found (gs : List LoweredFunction) (n m : ℕ) (f : FunctionTree) (b : Body) : Type 0 where
  pub function : LoweredFunction
  pub there : slice_get gs n ≡ Some function
  pub is : IsLoweredFunction m f b function

pub function_there : (number : ℕ) (fs : List FunctionTree) (bs : List Body) (gs : List LoweredFunction) (n m : ℕ) (f : FunctionTree) (b : Body)
    → AreLoweredFunctions number fs bs gs → slice_get fs n ≡ Some f → slice_get bs n ≡ Some b → m ≡ number + n → Found gs n m f b
function_there number [] bs gs n m f b h e i j = absurd (let never : ⊥ = cc in never)
function_there number (x ∷ fs) [] gs n m f b h e i j = absurd (let never : ⊥ = cc in never)
function_there number (x ∷ fs) (y ∷ bs) [] n m f b h e i j = absurd h
function_there number (x ∷ fs) (y ∷ bs) (z ∷ gs) zero m f b h e i j =
    let same : x ≡ f = cc in
    let alike : y ≡ b = cc in
    let p : number ≡ m = omega (arith, j) in
    record { function = z; there = refl; is = subst (λ k. IsLoweredFunction k f b z) p (subst (λ w. IsLoweredFunction number w b z) same (subst (λ w. IsLoweredFunction number x w z) alike h.0)) }
function_there number (x ∷ fs) (y ∷ bs) (z ∷ gs) (suc n) m f b h e i j =
    let r = function_there (suc number) fs bs gs n m f b h.1 e i (omega (arith, j)) in
    record { function = r.function; there = r.there; is = r.is }

pub functions_many : (number : ℕ) (fs : List FunctionTree) (bs : List Body) (gs : List LoweredFunction) → AreLoweredFunctions number fs bs gs → length gs ≡ length fs
functions_many number [] [] [] h = refl
functions_many number [] [] (z ∷ gs) h = absurd h
functions_many number [] (y ∷ bs) gs h = absurd h
functions_many number (x ∷ fs) [] gs h = absurd h
functions_many number (x ∷ fs) (y ∷ bs) [] h = absurd h
functions_many number (x ∷ fs) (y ∷ bs) (z ∷ gs) h = ap suc (functions_many (suc number) fs bs gs h.1)

pub function_named : (number : ℕ) (fs : List FunctionTree) (bs : List Body) (gs : List LoweredFunction) (n : ℕ) (g : LoweredFunction) → AreLoweredFunctions number fs bs gs → slice_get gs n ≡ Some g → g.name ≡ number + n
function_named number fs bs [] n g h e = absurd (let never : ⊥ = cc in never)
function_named number [] [] (z ∷ gs) n g h e = absurd h
function_named number [] (y ∷ bs) (z ∷ gs) n g h e = absurd h
function_named number (x ∷ fs) [] (z ∷ gs) n g h e = absurd h
function_named number (x ∷ fs) (y ∷ bs) (z ∷ gs) zero g h e =
    let same : z ≡ g = cc in ap (λ (o : LoweredFunction). o.name) (sym same) ∙ h.0.name ∙ omega arith
function_named number (x ∷ fs) (y ∷ bs) (z ∷ gs) (suc n) g h e = let r = function_named (suc number) fs bs gs n g h.1 e in omega (arith, r)

-- ---- lists

pub one_there : {A : Type 0} (xs : List A) (n : ℕ) → n < length xs → (x : A) × (slice_get xs n ≡ Some x)
one_there [] n h = absurd (let never : ⊥ = omega arith in never)
one_there (x ∷ xs) zero h = (x, refl)
one_there (x ∷ xs) (suc n) h = one_there xs n (omega (arith, h))

pub get_left : {A : Type 0} (xs ys : List A) (i : ℕ) (x : A) → slice_get xs i ≡ Some x → slice_get (xs ++ ys) i ≡ Some x
get_left [] ys i x e = absurd (let never : ⊥ = cc in never)
get_left (y ∷ xs) ys zero x e = e
get_left (y ∷ xs) ys (suc i) x e = get_left xs ys i x e

pub get_right : {A : Type 0} (xs ys : List A) (i j : ℕ) → j ≡ length xs + i → slice_get (xs ++ ys) j ≡ slice_get ys i
get_right [] ys i j e = ap (λ k. slice_get ys k) (let p : j ≡ i = omega (arith, e) in p)
get_right (x ∷ xs) ys i zero e = absurd (let never : ⊥ = omega (arith, e) in never)
get_right (x ∷ xs) ys i (suc j) e = get_right xs ys i j (omega (arith, e))

-- ---- tables

pub objects_many : (number name : ℕ) (ts : List (List ℕ)) → length (table_objects number name ts) ≡ length ts
objects_many number name [] = refl
objects_many number name (t ∷ ts) = ap suc (objects_many number (suc name) ts)

object_there : (number name : ℕ) (ts : List (List ℕ)) (k j : ℕ) (labels : List ℕ) → slice_get ts k ≡ Some labels → j ≡ name + k
    → slice_get (table_objects number name ts) k ≡ Some (table_object number j labels)
object_there number name [] k j labels e i = absurd (let never : ⊥ = cc in never)
object_there number name (t ∷ ts) zero j labels e i =
    let same : t ≡ labels = cc in let p : name ≡ j = omega (arith, i) in λ w. Some (table_object number (p w) (same w))
object_there number name (t ∷ ts) (suc k) j labels e i = object_there number (suc name) ts k j labels e (omega (arith, i))

pub table_there : (number name : ℕ) (bs : List Body) (n k m j place : ℕ) (b : Body) (labels : List ℕ) → slice_get bs n ≡ Some b → slice_get b.tables k ≡ Some labels
    → m ≡ number + n → j ≡ name + table_count (take n bs) + k → place ≡ table_count (take n bs) + k
    → slice_get (all_tables number name bs) place ≡ Some (table_object m j labels)
table_there number name [] n k m j place b labels e t i p q = absurd (let never : ⊥ = cc in never)
table_there number name (x ∷ bs) zero k m j place b labels e t i p q =
    let same : x ≡ b = cc in
    let own : slice_get x.tables k ≡ Some labels = ap (λ (y : Body). slice_get y.tables k) same ∙ t in
    let here = object_there number name x.tables k j labels own (omega (arith, p)) in
    let r : number ≡ m = omega (arith, i) in
    let s : place ≡ k = omega (arith, q) in
    ap (λ w. slice_get (all_tables number name (x ∷ bs)) w) s
    ∙ get_left (table_objects number name x.tables) (all_tables (suc number) (name + length x.tables) bs) k (table_object number j labels) here
    ∙ ap (λ w. Some (table_object w j labels)) r
table_there number name (x ∷ bs) (suc n) k m j place b labels e t i p q =
    let many = objects_many number name x.tables in
    get_right (table_objects number name x.tables) (all_tables (suc number) (name + length x.tables) bs) (table_count (take n bs) + k) place (omega (arith, q, many))
    ∙ table_there (suc number) (name + length x.tables) bs n k m j (table_count (take n bs) + k) b labels e t (omega (arith, i)) (omega (arith, p)) refl

-- each is named from the first name on
named_from : (number name : ℕ) (ts : List (List ℕ)) (k : ℕ) (o : LoweredObject) → slice_get (table_objects number name ts) k ≡ Some o → o.name ≡ name + k
named_from number name [] k o e = absurd (let never : ⊥ = cc in never)
named_from number name (t ∷ ts) zero o e = let same : table_object number name t ≡ o = cc in ap (λ (x : LoweredObject). x.name) (sym same) ∙ omega arith
named_from number name (t ∷ ts) (suc k) o e = let r = named_from number (suc name) ts k o e in omega (arith, r)

pub tables_named : (number name : ℕ) (bs : List Body) (k : ℕ) (o : LoweredObject) → slice_get (all_tables number name bs) k ≡ Some o → o.name ≡ name + k
tables_named number name [] k o e = absurd (let never : ⊥ = cc in never)
tables_named number name (b ∷ bs) k o e = by (λ i f. tables_named (suc number) (name + length b.tables) bs i o f) (nat_lt k (length b.tables)) refl
  where
    by : ((i : ℕ) → slice_get (all_tables (suc number) (name + length b.tables) bs) i ≡ Some o → o.name ≡ name + length b.tables + i) → (c : Bool) → nat_lt k (length b.tables) ≡ c → o.name ≡ name + k
    by others true t =
        let front = table_objects number name b.tables in
        let behind = all_tables (suc number) (name + length b.tables) bs in
        let many = objects_many number name b.tables in
        let less : k < length b.tables = search (nat_tests, arith) in
        let x = one_there front k (omega (arith, less, many)) in
        let same : Some x.0 ≡ Some o = sym (get_left front behind k x.0 x.1) ∙ e in
        let alike : x.0 ≡ o = cc in
        named_from number name b.tables k o (x.1 ∙ ap (λ (y : LoweredObject). Some y) alike)
    by others false t =
        let front = table_objects number name b.tables in
        let behind = all_tables (suc number) (name + length b.tables) bs in
        let many = objects_many number name b.tables in
        let more : length b.tables ≤ k = search (nat_tests, arith) in
        let i : ℕ = k - length b.tables in
        let at : k ≡ length front + i = omega (arith, more, many) in
        let r = others i (sym (get_right front behind i k at) ∙ e) in
        omega (arith, r, more)
