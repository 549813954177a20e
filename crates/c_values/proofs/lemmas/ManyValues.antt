-- Lists of expressions, and of their values.
use Rattle.std.proofs.Common.{◌≡◌, ℕ, zero, suc, ◌+◌, ◌<◌, ◌≤◌, Bool, true, false, List, [], ◌∷◌, ◌++◌, get_or, length, refl, sym, ap, ◌∙◌, subst, arith}
use Rattle.std.specs.Prelude.{nat_eq, nat_le, nat_lt, ◌||◌}
use Rattle.std.proofs.lemmas.Bool.Decides.{nat_tests}
use Rattle.c_types.specs.CType.{CType, CTypes, NoType, And, depth, unqualified}
use Rattle.c_types.specs.Layout.{Tag}
use Rattle.c_types.specs.Table.{Table, AreBelow, Extends, type_at, types, types_in}
use Rattle.c_meaning.specs.Constraints.{count_of, some_deep, value_types}
use Rattle.c_meaning.specs.CoreTrees.{CoreOf, CoresOf, NoCore, Cores, AreIn, IsIn, all_seen, cores_of, seen, type_of}
use Rattle.c_meaning.specs.ExprConstraints.{all_assignable, as_many, is_last_open, is_open_record}
use Rattle.c_meaning.specs.Rows.{last_type}
use Rattle.c_meaning.specs.Values.{CoreTrees, all_passed, value, value_type, values}
use Rattle.c_values.specs.Passing.{behind}
use Rattle.c_values.specs.Stays.{all_in_more, all_stay}

-- the ones, and the others behind them
abbrev pub before : {T : Type 0} → CoresOf T → CoresOf T → CoresOf T
before NoCore ds = ds
before (Cores c cs) ds = Cores c (before cs ds)

pub before_none : {T : Type 0} (cs : CoresOf T) → before cs NoCore ≡ cs
before_none NoCore = refl
before_none (Cores c cs) = ap (Cores c) (before_none cs)

pub pushed_seen : (k : ℕ → CType) (vs : List (CoreOf ℕ)) (v : CoreOf ℕ) (rest : CoreTrees) → before (all_seen k (cores_of (vs ++ v ∷ []))) rest ≡ before (all_seen k (cores_of vs)) (Cores (seen k v) rest)
pushed_seen k [] v rest = refl
pushed_seen k (x ∷ xs) v rest = ap (Cores (seen k x)) (pushed_seen k xs v rest)

pub pushed_in : (n : ℕ) (vs : List (CoreOf ℕ)) (v : CoreOf ℕ) → AreIn n (cores_of vs) → IsIn n v → AreIn n (cores_of (vs ++ v ∷ []))
pushed_in n [] v h i = (i, tt)
pushed_in n (x ∷ xs) v h i = (h.0, pushed_in n xs v h.1 i)

-- ---- the last of them

-- the last is the one behind all others
pub open_at : (tags : List Tag) (k : ℕ → CType) (xs : List (CoreOf ℕ)) (n : ℕ) (d : CoreOf ℕ) → suc n ≡ length xs → is_last_open tags (values (all_seen k (cores_of xs))) ≡ is_open_record tags (value_type (seen k (get_or xs n d)))
open_at tags k [] n d e = absurd (omega arith)
open_at tags k (x ∷ []) zero d e = refl
open_at tags k (x ∷ []) (suc n) d e = absurd (omega arith)
open_at tags k (x ∷ y ∷ ys) zero d e = absurd (omega arith)
open_at tags k (x ∷ y ∷ ys) (suc n) d e = open_at tags k (y ∷ ys) n d (omega arith)

pub last_type_at : (k : ℕ → CType) (xs : List (CoreOf ℕ)) (n : ℕ) (d : CoreOf ℕ) → suc n ≡ length xs → last_type (all_seen k (cores_of xs)) ≡ unqualified (type_of (seen k (get_or xs n d)))
last_type_at k [] n d e = absurd (omega arith)
last_type_at k (x ∷ []) zero d e = refl
last_type_at k (x ∷ []) (suc n) d e = absurd (omega arith)
last_type_at k (x ∷ y ∷ ys) zero d e = absurd (omega arith)
last_type_at k (x ∷ y ∷ ys) (suc n) d e = last_type_at k (y ∷ ys) n d (omega arith)

pub in_at : (m : ℕ) (xs : List (CoreOf ℕ)) (n : ℕ) (d : CoreOf ℕ) → n < length xs → AreIn m (cores_of xs) → IsIn m (get_or xs n d)
in_at m [] n d l h = absurd (omega arith)
in_at m (x ∷ xs) zero d l h = h.0
in_at m (x ∷ xs) (suc n) d l h = in_at m xs n d (omega arith) h.1

-- ---- one more value is formed: v of p, before the others that are left

pub turn_means : (t u : Table) (vs : List (CoreOf ℕ)) (v p : CoreOf ℕ) (rest items : List (CoreOf ℕ)) (all : CoreTrees) → Extends t u → items ≡ p ∷ rest →
    AreIn (length t.forms) (cores_of vs) → AreIn (length t.forms) (cores_of items) → seen (type_at u) v ≡ value (seen (type_at t) p) →
    before (all_seen (type_at t) (cores_of vs)) (values (all_seen (type_at t) (cores_of items))) ≡ all →
    before (all_seen (type_at u) (cores_of (vs ++ v ∷ []))) (values (all_seen (type_at u) (cores_of rest))) ≡ all
turn_means t u vs v p rest items all x s i j e h =
    let j' : AreIn (length t.forms) (cores_of (p ∷ rest)) = subst (λ (l : List (CoreOf ℕ)). AreIn (length t.forms) (cores_of l)) s j in
    let h' : before (all_seen (type_at t) (cores_of vs)) (values (all_seen (type_at t) (cores_of (p ∷ rest)))) ≡ all = subst (λ (l : List (CoreOf ℕ)). before (all_seen (type_at t) (cores_of vs)) (values (all_seen (type_at t) (cores_of l))) ≡ all) s h in
    pushed_seen (type_at u) vs v (values (all_seen (type_at u) (cores_of rest)))
    ∙ ap (λ z. before z (Cores (seen (type_at u) v) (values (all_seen (type_at u) (cores_of rest))))) (all_stay t u x (cores_of vs) i)
    ∙ ap (λ z. before (all_seen (type_at t) (cores_of vs)) (Cores z (values (all_seen (type_at u) (cores_of rest))))) e
    ∙ ap (λ z. before (all_seen (type_at t) (cores_of vs)) (Cores (value (seen (type_at t) p)) (values z))) (all_stay t u x (cores_of rest) j'.1)
    ∙ h'

pub turn_left : (n m : ℕ) (p : CoreOf ℕ) (rest items : List (CoreOf ℕ)) → n ≤ m → items ≡ p ∷ rest → AreIn n (cores_of items) → AreIn m (cores_of rest)
turn_left n m p rest items l s j =
    let j' : AreIn n (cores_of (p ∷ rest)) = subst (λ (l : List (CoreOf ℕ)). AreIn n (cores_of l)) s j in
    all_in_more n m l (cores_of rest) j'.1

pub turn_deep : (t u : Table) (p : CoreOf ℕ) (rest items : List (CoreOf ℕ)) (deep : Bool) → Extends t u → items ≡ p ∷ rest →
    AreIn (length t.forms) (cores_of items) → nat_lt 500 (depth (value_type (seen (type_at t) p))) ≡ false →
    some_deep (value_types (all_seen (type_at t) (cores_of items))) ≡ deep → some_deep (value_types (all_seen (type_at u) (cores_of rest))) ≡ deep
turn_deep t u p rest items deep x s j d h =
    let j' : AreIn (length t.forms) (cores_of (p ∷ rest)) = subst (λ (l : List (CoreOf ℕ)). AreIn (length t.forms) (cores_of l)) s j in
    ap (λ z. some_deep (value_types z)) (all_stay t u x (cores_of rest) j'.1)
    ∙ sym (ap (λ b. b || some_deep (value_types (all_seen (type_at t) (cores_of rest)))) d)
    ∙ subst (λ (l : List (CoreOf ℕ)). some_deep (value_types (all_seen (type_at t) (cores_of l))) ≡ deep) s h

pub no_items : {A : Type 0} (xs : List A) → length xs ≡ 0 → xs ≡ []
no_items [] e = refl
no_items (x ∷ xs) e = absurd (omega arith)

pub turn_end : (t : Table) (vs items : List (CoreOf ℕ)) (all : CoreTrees) → length items ≡ 0 → before (all_seen (type_at t) (cores_of vs)) (values (all_seen (type_at t) (cores_of items))) ≡ all → all_seen (type_at t) (cores_of vs) ≡ all
turn_end t vs items all e h =
    sym (before_none (all_seen (type_at t) (cores_of vs)))
    ∙ subst (λ (l : List (CoreOf ℕ)). before (all_seen (type_at t) (cores_of vs)) (values (all_seen (type_at t) (cores_of l))) ≡ all) (no_items items e) h

-- ---- one more argument is passed

none_passed : (ps : CTypes) → all_passed ps NoCore ≡ NoCore
none_passed NoType = refl
none_passed (And p ps) = refl

pub turn_passed : (t : Table) (kids : List (CoreOf ℕ)) (x v : CoreOf ℕ) (left : List ℕ) (rest items : List (CoreOf ℕ)) (all : CoreTrees) → items ≡ v ∷ rest →
    ((rest : CoreTrees) → all_passed (types_in (types t) left) (Cores (seen (type_at t) v) rest) ≡ Cores (seen (type_at t) x) (all_passed (types_in (types t) (behind left)) rest)) →
    before (all_seen (type_at t) (cores_of kids)) (all_passed (types_in (types t) left) (all_seen (type_at t) (cores_of items))) ≡ all →
    before (all_seen (type_at t) (cores_of (kids ++ x ∷ []))) (all_passed (types_in (types t) (behind left)) (all_seen (type_at t) (cores_of rest))) ≡ all
turn_passed t kids x v left rest items all s e h =
    let k = type_at t in
    pushed_seen k kids x (all_passed (types_in (types t) (behind left)) (all_seen k (cores_of rest)))
    ∙ ap (before (all_seen k (cores_of kids))) (sym (e (all_seen k (cores_of rest))))
    ∙ subst (λ (l : List (CoreOf ℕ)). before (all_seen k (cores_of kids)) (all_passed (types_in (types t) left) (all_seen k (cores_of l))) ≡ all) s h

pub passed_end : (t : Table) (kids : List (CoreOf ℕ)) (left : List ℕ) (items : List (CoreOf ℕ)) (all : CoreTrees) → length items ≡ 0 →
    before (all_seen (type_at t) (cores_of kids)) (all_passed (types_in (types t) left) (all_seen (type_at t) (cores_of items))) ≡ all → all_seen (type_at t) (cores_of kids) ≡ all
passed_end t kids left items all e h =
    let k = type_at t in
    sym (before_none (all_seen k (cores_of kids))) ∙ ap (before (all_seen k (cores_of kids))) (sym (none_passed (types_in (types t) left)))
    ∙ subst (λ (l : List (CoreOf ℕ)). before (all_seen k (cores_of kids)) (all_passed (types_in (types t) left) (all_seen k (cores_of l))) ≡ all) (no_items items e) h

pub behind_below : (n : ℕ) (ids : List ℕ) → AreBelow n ids → AreBelow n (behind ids)
behind_below n [] h = h
behind_below n (i ∷ is) h = h.1

-- ---- how many there are

pub count_seen : (k : ℕ → CType) (xs : List (CoreOf ℕ)) → count_of (all_seen k (cores_of xs)) ≡ length xs
count_seen k [] = refl
count_seen k (x ∷ xs) = let h = count_seen k xs in omega (arith, h)

pub count_values : (cs : CoreTrees) → count_of (values cs) ≡ count_of cs
count_values NoCore = refl
count_values (Cores c cs) = ap (λ n. 1 + n) (count_values cs)

-- ---- do they fit their parameters

next_le : (n m : ℕ) → nat_le (suc n) (1 + m) ≡ nat_le n m
next_le n m = grind (arith, nat_tests)

next_eq : (n m : ℕ) → nat_eq (suc n) (1 + m) ≡ nat_eq n m
next_eq n m = grind (arith, nat_tests)

pub as_many_open : (ts : List CType) (ids : List ℕ) (vs : CoreTrees) → nat_le (length ids) (count_of vs) ≡ as_many (types_in ts ids) true vs
as_many_open ts [] NoCore = refl
as_many_open ts [] (Cores v vs) = grind (arith, nat_tests)
as_many_open ts (i ∷ is) NoCore = grind (arith, nat_tests)
as_many_open ts (i ∷ is) (Cores v vs) = let h = as_many_open ts is vs in next_le (length is) (count_of vs) ∙ h

pub as_many_closed : (ts : List CType) (ids : List ℕ) (vs : CoreTrees) → nat_eq (length ids) (count_of vs) ≡ as_many (types_in ts ids) false vs
as_many_closed ts [] NoCore = refl
as_many_closed ts [] (Cores v vs) = grind (arith, nat_tests)
as_many_closed ts (i ∷ is) NoCore = grind (arith, nat_tests)
as_many_closed ts (i ∷ is) (Cores v vs) = let h = as_many_closed ts is vs in next_eq (length is) (count_of vs) ∙ h

pub none_assignable : (ps : CTypes) → all_assignable ps NoCore ≡ true
none_assignable NoType = refl
none_assignable (And p ps) = refl
