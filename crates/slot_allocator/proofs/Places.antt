-- Loads, stores and names from a place of the operands on.
use Rattle.std.proofs.Common.{◌≡◌, ℕ, zero, suc, ◌+◌, ◌<◌, ◌≤◌, List, [], ◌∷◌, ◌++◌, length, get_or, drop, max, Bool, true, false, refl, sym, ap, ◌∙◌, subst, arith, append_assoc, append-nil, take, None}
use Rattle.std.specs.Prelude.{if◌then◌else◌, slice_get}
use Rattle.std.proofs.lemmas.Bool.{true≢false, false≢true, cond-true, cond-false}
use Rattle.std.proofs.lemmas.List.{drop_more, drop_all, take_all}
use Rattle.std.proofs.lemmas.Option.{none-some}
use Rattle.vcode.specs.declared.operand.Operand.{Operand}
use Rattle.vcode.specs.Machines.{Machine, with_register}
use Rattle.vcode.specs.VirtualCode.{AreBelow, is_virtual}
use Rattle.slot_allocator.specs.Slots.{slot_of, is_loaded, is_stored, loads, stores, renamed, allotted}
use Rattle.slot_allocator.specs.SlotCounts.{slots_needed}

-- a register that is below the limit, by its place
pub below_at : (limit : ℕ) (os : List Operand) (n : ℕ) (d : Operand) → AreBelow limit os → n < length os → (get_or os n d).reg < limit
below_at limit [] n d h w = absurd (omega (arith, w))
below_at limit (o ∷ os) zero d h w = h.0
below_at limit (o ∷ os) (suc n) d h w = below_at limit os n d h.1 (omega (arith, w))

-- one is pushed, or none
pushed : {A : Type 0} (b : Bool) (x : A) (into new rest more all : List A) → b ≡ true → new ≡ into ++ x ∷ [] → rest ≡ (if b then x ∷ more else more) → into ++ rest ≡ all → new ++ more ≡ all
pushed true x into new rest more all b h e inv = ap (λ xs. xs ++ more) h ∙ append_assoc into (x ∷ []) more ∙ ap (λ xs. into ++ xs) (sym e) ∙ inv
pushed false x into new rest more all b h e inv = absurd (false≢true b)

passed : {A : Type 0} (b : Bool) (x : A) (into new rest more all : List A) → b ≡ false → new ≡ into → rest ≡ (if b then x ∷ more else more) → into ++ rest ≡ all → new ++ more ≡ all
passed true x into new rest more all b h e inv = absurd (true≢false b)
passed false x into new rest more all b h e inv = ap (λ xs. xs ++ more) h ∙ ap (λ xs. into ++ xs) (sym e) ∙ inv

loads_from : {I : Type 0} (m : Machine I) (ts : List ℕ) (os : List Operand) (n t : ℕ) (d : Operand) → n < length ts → n < length os → loads m (drop n ts) (drop n os) ≡ (if is_loaded (get_or os n d) then m.load (get_or ts n t) (slot_of (get_or os n d).reg) ∷ loads m (drop (n + 1) ts) (drop (n + 1) os) else loads m (drop (n + 1) ts) (drop (n + 1) os))
loads_from m ts os n t d ht ho = rw (drop_more ts n t ht, drop_more os n d ho) refl

pub load_pushed : {I : Type 0} (m : Machine I) (ts : List ℕ) (os : List Operand) (n t : ℕ) (d : Operand) (into new all : List I) (x : I) → n < length ts → n < length os → is_loaded (get_or os n d) ≡ true → x ≡ m.load (get_or ts n t) (slot_of (get_or os n d).reg) → new ≡ into ++ x ∷ [] → into ++ loads m (drop n ts) (drop n os) ≡ all → new ++ loads m (drop (n + 1) ts) (drop (n + 1) os) ≡ all
load_pushed m ts os n t d into new all x ht ho b e h inv =
    pushed (is_loaded (get_or os n d)) (m.load (get_or ts n t) (slot_of (get_or os n d).reg)) into new (loads m (drop n ts) (drop n os)) (loads m (drop (n + 1) ts) (drop (n + 1) os)) all b (h ∙ ap (λ y. into ++ y ∷ []) e) (loads_from m ts os n t d ht ho) inv

pub load_passed : {I : Type 0} (m : Machine I) (ts : List ℕ) (os : List Operand) (n t : ℕ) (d : Operand) (into new all : List I) → n < length ts → n < length os → is_loaded (get_or os n d) ≡ false → new ≡ into → into ++ loads m (drop n ts) (drop n os) ≡ all → new ++ loads m (drop (n + 1) ts) (drop (n + 1) os) ≡ all
load_passed m ts os n t d into new all ht ho b h inv =
    passed (is_loaded (get_or os n d)) (m.load (get_or ts n t) (slot_of (get_or os n d).reg)) into new (loads m (drop n ts) (drop n os)) (loads m (drop (n + 1) ts) (drop (n + 1) os)) all b h (loads_from m ts os n t d ht ho) inv

stores_from : {I : Type 0} (m : Machine I) (ts : List ℕ) (os : List Operand) (n t : ℕ) (d : Operand) → n < length ts → n < length os → stores m (drop n ts) (drop n os) ≡ (if is_stored (get_or os n d) then m.store (get_or ts n t) (slot_of (get_or os n d).reg) ∷ stores m (drop (n + 1) ts) (drop (n + 1) os) else stores m (drop (n + 1) ts) (drop (n + 1) os))
stores_from m ts os n t d ht ho = rw (drop_more ts n t ht, drop_more os n d ho) refl

pub store_pushed : {I : Type 0} (m : Machine I) (ts : List ℕ) (os : List Operand) (n t : ℕ) (d : Operand) (into new all : List I) (x : I) → n < length ts → n < length os → is_stored (get_or os n d) ≡ true → x ≡ m.store (get_or ts n t) (slot_of (get_or os n d).reg) → new ≡ into ++ x ∷ [] → into ++ stores m (drop n ts) (drop n os) ≡ all → new ++ stores m (drop (n + 1) ts) (drop (n + 1) os) ≡ all
store_pushed m ts os n t d into new all x ht ho b e h inv =
    pushed (is_stored (get_or os n d)) (m.store (get_or ts n t) (slot_of (get_or os n d).reg)) into new (stores m (drop n ts) (drop n os)) (stores m (drop (n + 1) ts) (drop (n + 1) os)) all b (h ∙ ap (λ y. into ++ y ∷ []) e) (stores_from m ts os n t d ht ho) inv

pub store_passed : {I : Type 0} (m : Machine I) (ts : List ℕ) (os : List Operand) (n t : ℕ) (d : Operand) (into new all : List I) → n < length ts → n < length os → is_stored (get_or os n d) ≡ false → new ≡ into → into ++ stores m (drop n ts) (drop n os) ≡ all → new ++ stores m (drop (n + 1) ts) (drop (n + 1) os) ≡ all
store_passed m ts os n t d into new all ht ho b h inv =
    passed (is_stored (get_or os n d)) (m.store (get_or ts n t) (slot_of (get_or os n d).reg)) into new (stores m (drop n ts) (drop n os)) (stores m (drop (n + 1) ts) (drop (n + 1) os)) all b h (stores_from m ts os n t d ht ho) inv

renamed_from : {I : Type 0} (m : Machine I) (ts : List ℕ) (os : List Operand) (i : I) (n t : ℕ) (o : Operand) → n < length ts → n < length os → renamed m n (drop n ts) (drop n os) i ≡ renamed m (n + 1) (drop (n + 1) ts) (drop (n + 1) os) (if is_virtual (get_or os n o).reg then m.rename i n (get_or ts n t) else i)
renamed_from m ts os i n t o ht ho = rw (drop_more ts n t ht, drop_more os n o ho) (ap (λ k. renamed m k (drop (n + 1) ts) (drop (n + 1) os) (if is_virtual (get_or os n o).reg then m.rename i n (get_or ts n t) else i)) (let e : suc n ≡ n + 1 = omega arith in e))

-- an operand has its name, and the others are left
pub named : {I : Type 0} (m : Machine I) (ts : List ℕ) (os : List Operand) (i j all : I) (n t : ℕ) (o : Operand) → n < length ts → n < length os → is_virtual (get_or os n o).reg ≡ true → j ≡ m.rename i n (get_or ts n t) → renamed m n (drop n ts) (drop n os) i ≡ all → renamed m (n + 1) (drop (n + 1) ts) (drop (n + 1) os) j ≡ all
named m ts os i j all n t o ht ho b e h =
    let chosen = cond-true (is_virtual (get_or os n o).reg) (m.rename i n (get_or ts n t)) i b in
    ap (λ x. renamed m (n + 1) (drop (n + 1) ts) (drop (n + 1) os) x) (e ∙ sym chosen) ∙ sym (renamed_from m ts os i n t o ht ho) ∙ h

pub not_named : {I : Type 0} (m : Machine I) (ts : List ℕ) (os : List Operand) (i j all : I) (n t : ℕ) (o : Operand) → n < length ts → n < length os → is_virtual (get_or os n o).reg ≡ false → j ≡ i → renamed m n (drop n ts) (drop n os) i ≡ all → renamed m (n + 1) (drop (n + 1) ts) (drop (n + 1) os) j ≡ all
not_named m ts os i j all n t o ht ho b e h =
    let chosen = cond-false (is_virtual (get_or os n o).reg) (m.rename i n (get_or ts n t)) i b in
    ap (λ x. renamed m (n + 1) (drop (n + 1) ts) (drop (n + 1) os) x) (e ∙ sym chosen) ∙ sym (renamed_from m ts os i n t o ht ho) ∙ h

no_loads : {I : Type 0} (m : Machine I) (ts : List ℕ) → loads m ts [] ≡ []
no_loads m [] = refl
no_loads m (t ∷ ts) = refl

no_stores : {I : Type 0} (m : Machine I) (ts : List ℕ) → stores m ts [] ≡ []
no_stores m [] = refl
no_stores m (t ∷ ts) = refl

no_names : {I : Type 0} (m : Machine I) (n : ℕ) (ts : List ℕ) (i : I) → renamed m n ts [] i ≡ i
no_names m n [] i = refl
no_names m n (t ∷ ts) i = refl

-- behind the last operand there are none
pub loads_end : {I : Type 0} (m : Machine I) (ts : List ℕ) (os : List Operand) (n : ℕ) (into all : List I) → length os ≤ n → into ++ loads m (drop n ts) (drop n os) ≡ all → into ≡ all
loads_end m ts os n into all h e = sym (append-nil into) ∙ ap (λ xs. into ++ xs) (sym (ap (λ xs. loads m (drop n ts) xs) (drop_all n os h) ∙ no_loads m (drop n ts))) ∙ e

pub stores_end : {I : Type 0} (m : Machine I) (ts : List ℕ) (os : List Operand) (n : ℕ) (into all : List I) → length os ≤ n → into ++ stores m (drop n ts) (drop n os) ≡ all → into ≡ all
stores_end m ts os n into all h e = sym (append-nil into) ∙ ap (λ xs. into ++ xs) (sym (ap (λ xs. stores m (drop n ts) xs) (drop_all n os h) ∙ no_stores m (drop n ts))) ∙ e

pub renamed_end : {I : Type 0} (m : Machine I) (ts : List ℕ) (os : List Operand) (n : ℕ) (i all : I) → length os ≤ n → renamed m n (drop n ts) (drop n os) i ≡ all → i ≡ all
renamed_end m ts os n i all h e = sym (ap (λ xs. renamed m n (drop n ts) xs i) (drop_all n os h) ∙ no_names m n (drop n ts) i) ∙ e

long_with : (os : List Operand) (n r : ℕ) → length (with_register os n r) ≡ length os
long_with [] n r = refl
long_with (o ∷ os) zero r = refl
long_with (o ∷ os) (suc n) r = ap suc (long_with os n r)

pub rename_long : {I : Type 0} (m : Machine I) (i : I) (n r l : ℕ) → length (m.operands i) ≡ l → n < l → length (m.operands (m.rename i n r)) ≡ l
rename_long m i n r l e w = ap length (m.rename-operands i n r (subst (λ k. n < k) (sym e) w)) ∙ long_with (m.operands i) n r ∙ e

-- no instruction is left
pub all_pushed : {I : Type 0} (m : Machine I) (ts : List ℕ) (into rest all : List I) → into ++ allotted m ts rest ≡ all → length rest ≡ 0 → into ≡ all
all_pushed m ts into [] all e z = sym (append-nil into) ∙ e
all_pushed m ts into (i ∷ is) all e z = absurd (omega (arith, z))

pub all_counted : {I : Type 0} (m : Machine I) (slots all : ℕ) (rest : List I) → max slots (slots_needed m rest) ≡ all → length rest ≡ 0 → slots ≡ all
all_counted m slots all [] e z = omega (arith, e)
all_counted m slots all (i ∷ is) e z = absurd (omega (arith, z))

-- a front of the operands is all of them where there is none behind it
pub front_is_all : {A : Type 0} (xs ys : List A) (n : ℕ) → ys ≡ take n xs → slice_get xs n ≡ None → ys ≡ xs
front_is_all xs ys n e h = e ∙ take_all n xs (past xs n h)
  where
    past : {A : Type 0} (zs : List A) (k : ℕ) → slice_get zs k ≡ None → length zs ≤ k
    past [] k h = omega arith
    past (z ∷ zs) zero h = absurd (none-some z (sym h))
    past (z ∷ zs) (suc k) h = let p = past zs k h in omega (arith, p)
