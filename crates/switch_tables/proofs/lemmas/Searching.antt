-- Searches by halves: what they search, how deep they are, and where they lead.
use Rattle.std.proofs.Common.{◌≡◌, ℕ, zero, suc, ◌*◌, ◌/◌, ◌^◌, ◌<◌, ◌≤◌, Bool, true, List, [], ◌∷◌, ◌++◌, length, map, take, drop, get_or, refl, sym, ap, ◌∙◌, subst, arith, append_assoc}
use Rattle.std.proofs.Math.Nat.{pow-succ'}
use Rattle.std.proofs.Math.Seq.{split_at}
use Rattle.std.proofs.lemmas.List.{length-take, length-drop, length-map, take-map, get_or_default}
use Rattle.std.specs.Prelude.{if◌then◌else◌}
use Rattle.std.specs.List.{AllByRecursion}
use Rattle.objects.specs.Arithmetic.{is_less}
use Rattle.c_meaning.specs.declared.core_stmt.CoreCase.{CoreCase}
use Rattle.c_meaning.specs.Units.{are_apart, numbers}
use Rattle.switch_tables.specs.declared.table.Table.{Table}
use Rattle.switch_tables.specs.Cases.{label_of, AreWords}
use Rattle.switch_tables.specs.Order.{rising, IsRising}
use Rattle.switch_tables.specs.Cuts.{offset, cut, joined}
use Rattle.switch_tables.specs.Tables.{table_of, tables_of}
use Rattle.switch_tables.specs.Searches.{Search, Nowhere, At, by_halves, search_over, last_in, found, in_order, depth}
use Rattle.switch_tables.proofs.lemmas.Sorting.{rising_all, rising_rises, label_of_rising}
use Rattle.switch_tables.proofs.lemmas.Cutting.{HasFirst, joined_cut, cut_has_firsts}
use Rattle.switch_tables.proofs.lemmas.Leading.{all_front, all_back, rising_front, rising_back, leads_among}

-- ---- the middle

middle_within : (t : Table) (ts : List Table) → length (t ∷ ts) / 2 < length (t ∷ ts)
middle_within t ts = omega arith

front_length : (t : Table) (ts : List Table) → length (take (length (t ∷ ts) / 2) (t ∷ ts)) ≡ length (t ∷ ts) / 2
front_length t ts = length-take (length (t ∷ ts) / 2) (t ∷ ts) ∙ omega arith

-- how many tables there can be makes no difference
pub enough : (m k : ℕ) (ts : List Table) → length ts ≤ m → length ts ≤ k → by_halves m ts ≡ by_halves k ts
enough zero zero ts p q = refl
enough zero (suc k) [] p q = refl
enough (suc m) zero [] p q = refl
enough zero (suc k) (t ∷ ts) p q = absurd (omega arith)
enough (suc m) zero (t ∷ ts) p q = absurd (omega arith)
enough (suc m) (suc k) [] p q = refl
enough (suc m) (suc k) (t ∷ ts) p q =
    let all = t ∷ ts in
    let middle = length (t ∷ ts) / 2 in
    let front = length-take (length (t ∷ ts) / 2) (t ∷ ts) in
    let back = length-drop (suc (length (t ∷ ts) / 2)) (t ∷ ts) in
    ap (λ s. At (get_or all middle t) s (by_halves m (drop (suc middle) all))) (enough m k (take middle all) (omega arith) (omega arith))
    ∙ ap (λ s. At (get_or all middle t) (by_halves k (take middle all)) s) (enough m k (drop (suc middle) all) (omega arith) (omega arith))

pub search_splits : (ts : List Table) (x : Table) → 0 < length ts → x ≡ get_or ts (length ts / 2) x
    → search_over ts ≡ At x (search_over (take (length ts / 2) ts)) (search_over (drop (suc (length ts / 2)) ts))
search_splits [] x l e = absurd (omega arith)
search_splits (t ∷ ts) x l e =
    let all = t ∷ ts in
    let middle = length (t ∷ ts) / 2 in
    let most = length ts in
    let front = length-take (length (t ∷ ts) / 2) (t ∷ ts) in
    let back = length-drop (suc (length (t ∷ ts) / 2)) (t ∷ ts) in
    ap (λ y. At y (by_halves most (take middle all)) (by_halves most (drop (suc middle) all))) (sym (e ∙ get_or_default all middle x t (middle_within t ts)))
    ∙ (ap (λ s. At x s (by_halves most (drop (suc middle) all))) (enough most (length (take middle all)) (take middle all) (omega arith) (omega arith))
    ∙ ap (λ s. At x (search_over (take middle all)) s) (enough most (length (drop (suc middle) all)) (drop (suc middle) all) (omega arith) (omega arith)))

-- ---- each table once, in order

searched : (most : ℕ) (ts : List Table) → length ts ≤ most → in_order (by_halves most ts) ≡ ts
searched zero [] l = refl
searched zero (t ∷ ts) l = absurd (omega arith)
searched (suc most) [] l = refl
searched (suc most) (t ∷ ts) l =
    let all = t ∷ ts in
    let middle = length (t ∷ ts) / 2 in
    let front = length-take (length (t ∷ ts) / 2) (t ∷ ts) in
    let back = length-drop (suc (length (t ∷ ts) / 2)) (t ∷ ts) in
    ap (λ s. s ++ get_or all middle t ∷ in_order (by_halves most (drop (suc middle) all))) (searched most (take middle all) (omega arith))
    ∙ (ap (λ s. take middle all ++ get_or all middle t ∷ s) (searched most (drop (suc middle) all) (omega arith))
    ∙ sym (split_at all middle t (middle_within t ts)))

pub tables_are_searched : (ts : List Table) → in_order (search_over ts) ≡ ts
tables_are_searched ts = searched (length ts) ts (omega arith)

-- ---- what each of them has

-- each table that it searches
abbrev pub EachTable : (Table → Type 0) → Search → Type 0
EachTable P Nowhere = Unit {0}
EachTable P (At t less greater) = P t × (EachTable P less × EachTable P greater)

tables_front : (P : Table → Type 0) (k : ℕ) (ts : List Table) → AllByRecursion P ts → AllByRecursion P (take k ts)
tables_front P zero ts h = tt
tables_front P (suc k) [] h = tt
tables_front P (suc k) (t ∷ ts) h = (h.0, tables_front P k ts h.1)

tables_back : (P : Table → Type 0) (k : ℕ) (ts : List Table) → AllByRecursion P ts → AllByRecursion P (drop k ts)
tables_back P zero ts h = h
tables_back P (suc k) [] h = tt
tables_back P (suc k) (t ∷ ts) h = tables_back P k ts h.1

table_at : (P : Table → Type 0) (ts : List Table) (k : ℕ) (t : Table) → P t → AllByRecursion P ts → P (get_or ts k t)
table_at P [] k t p h = p
table_at P (x ∷ xs) zero t p h = h.0
table_at P (x ∷ xs) (suc k) t p h = table_at P xs k t p h.1

each_of : (P : Table → Type 0) (most : ℕ) (ts : List Table) → AllByRecursion P ts → EachTable P (by_halves most ts)
each_of P zero ts h = tt
each_of P (suc most) [] h = tt
each_of P (suc most) (t ∷ ts) h = (
  table_at P (t ∷ ts) (length (t ∷ ts) / 2) t h.0 h,
  (
    each_of P most (take (length (t ∷ ts) / 2) (t ∷ ts)) (tables_front P (length (t ∷ ts) / 2) (t ∷ ts) h),
    each_of P most (drop (suc (length (t ∷ ts) / 2)) (t ∷ ts)) (tables_back P (suc (length (t ∷ ts) / 2)) (t ∷ ts) h),
  ),
)

-- what each of the tables has, each table of the search has
pub each_is_searched : (P : Table → Type 0) (ts : List Table) → AllByRecursion P ts → EachTable P (search_over ts)
each_is_searched P ts h = each_of P (length ts) ts h

-- ---- how deep

shallow : (most : ℕ) (ts : List Table) (k : ℕ) → length ts < 2 ^ k → depth (by_halves most ts) ≤ k
shallow zero ts k l = omega arith
shallow (suc most) [] k l = omega arith
shallow (suc most) (t ∷ ts) zero l = absurd (omega arith)
shallow (suc most) (t ∷ ts) (suc k) l =
    let all = t ∷ ts in
    let middle = length (t ∷ ts) / 2 in
    let front = length-take (length (t ∷ ts) / 2) (t ∷ ts) in
    let back = length-drop (suc (length (t ∷ ts) / 2)) (t ∷ ts) in
    let twice : length (t ∷ ts) < 2 * 2 ^ k = subst (λ n. length (t ∷ ts) < n) (pow-succ' 2 k) l in
    let less = shallow most (take middle all) k (omega arith) in
    let greater = shallow most (drop (suc middle) all) k (omega arith) in
    omega arith

pub searches_are_shallow : (ts : List Table) (k : ℕ) → length ts < 2 ^ k → depth (search_over ts) ≤ k
searches_are_shallow ts k l = shallow (length ts) ts k l

-- ---- where a number leads

joined_append : (gs hs : List (List CoreCase)) → joined (gs ++ hs) ≡ joined gs ++ joined hs
joined_append [] hs = refl
joined_append (g ∷ gs) hs = ap (λ l. g ++ l) (joined_append gs hs) ∙ sym (append_assoc g (joined gs) (joined hs))

groups_front : (P : List CoreCase → Type 0) (k : ℕ) (gs : List (List CoreCase)) → AllByRecursion P gs → AllByRecursion P (take k gs)
groups_front P zero gs h = tt
groups_front P (suc k) [] h = tt
groups_front P (suc k) (g ∷ gs) h = (h.0, groups_front P k gs h.1)

groups_back : (P : List CoreCase → Type 0) (k : ℕ) (gs : List (List CoreCase)) → AllByRecursion P gs → AllByRecursion P (drop k gs)
groups_back P zero gs h = h
groups_back P (suc k) [] h = tt
groups_back P (suc k) (g ∷ gs) h = groups_back P k gs h.1

group_at : (P : List CoreCase → Type 0) (gs : List (List CoreCase)) (k : ℕ) (g : List CoreCase) → k < length gs → AllByRecursion P gs → P (get_or gs k g)
group_at P [] k g l h = absurd (omega arith)
group_at P (x ∷ xs) zero g l h = h.0
group_at P (x ∷ xs) (suc k) g l h = group_at P xs k g (omega arith) h.1

drop_map : (f : List CoreCase → Table) (k : ℕ) (gs : List (List CoreCase)) → drop k (map f gs) ≡ map f (drop k gs)
drop_map f zero gs = refl
drop_map f (suc k) [] = refl
drop_map f (suc k) (g ∷ gs) = drop_map f k gs

get_or_map : (f : List CoreCase → Table) (gs : List (List CoreCase)) (k : ℕ) (g : List CoreCase) → get_or (map f gs) k (f g) ≡ f (get_or gs k g)
get_or_map f [] k g = refl
get_or_map f (x ∷ xs) zero g = refl
get_or_map f (x ∷ xs) (suc k) g = get_or_map f xs k g

-- the halves of groups' tables are the tables of the groups' halves
halves_of_groups : (f : List CoreCase → Table) (most : ℕ) (g : List CoreCase) (gs : List (List CoreCase)) (k : ℕ) → length (g ∷ gs) / 2 ≡ k
    → by_halves (suc most) (map f (g ∷ gs)) ≡ At (f (get_or (g ∷ gs) k g)) (by_halves most (map f (take k (g ∷ gs)))) (by_halves most (map f (drop (suc k) (g ∷ gs))))
halves_of_groups f most g gs k e =
    let all = g ∷ gs in
    let same : length (map f (g ∷ gs)) / 2 ≡ k = ap (λ n. n / 2) (length-map (g ∷ gs) f) ∙ e in
    ap (λ j. At (get_or (map f all) j (f g)) (by_halves most (take j (map f all))) (by_halves most (drop (suc j) (map f all)))) same
    ∙ (ap (λ t. At t (by_halves most (take k (map f all))) (by_halves most (drop (suc k) (map f all)))) (get_or_map f all k g)
    ∙ (ap (λ ts. At (f (get_or all k g)) (by_halves most ts) (by_halves most (drop (suc k) (map f all)))) (take-map f k all)
    ∙ ap (λ ts. At (f (get_or all k g)) (by_halves most (map f (take k all))) (by_halves most ts)) (drop_map f (suc k) all)))

-- at a group, where the searches before it and behind it lead right
found_at : (signed : Bool) (default n : ℕ) → n < 2 ^ 32 → (xs g ys : List CoreCase) (less greater : Search) → HasFirst g → AreWords g → IsRising signed (xs ++ (g ++ ys))
    → found signed default n less ≡ label_of xs default n → found signed default n greater ≡ label_of ys default n
    → found signed default n (At (table_of default g) less greater) ≡ label_of (xs ++ (g ++ ys)) default n
found_at signed default n w xs g ys less greater first words up l r =
    subst
    (λ h. AreWords h → IsRising signed (xs ++ (h ++ ys)) → found signed default n (At (table_of default h) less greater) ≡ label_of (xs ++ (h ++ ys)) default n)
    (sym first.2) (at first.0 first.1) words up
  where
    at : (c : CoreCase) (cs : List CoreCase) → AreWords (c ∷ cs) → IsRising signed (xs ++ (c ∷ (cs ++ ys))) → found signed default n (At (table_of default (c ∷ cs)) less greater) ≡ label_of (xs ++ (c ∷ (cs ++ ys))) default n
    at c cs ws rise =
        ap (λ a. if is_less signed n c.number then a else if is_less signed (last_in (table_of default (c ∷ cs))) n then found signed default n greater else get_or (table_of default (c ∷ cs)).labels (offset c.number n) default) l
        ∙ (ap (λ b. if is_less signed n c.number then label_of xs default n else if is_less signed (last_in (table_of default (c ∷ cs))) n then b else get_or (table_of default (c ∷ cs)).labels (offset c.number n) default) r
        ∙ leads_among signed xs c cs ys default n rise ws w)

found_among : (signed : Bool) (default n : ℕ) → n < 2 ^ 32 → (most : ℕ) (gs : List (List CoreCase)) → length gs ≤ most → AllByRecursion HasFirst gs → AreWords (joined gs) → IsRising signed (joined gs)
    → found signed default n (by_halves most (map (table_of default) gs)) ≡ label_of (joined gs) default n
found_among signed default n w zero [] l firsts words up = refl
found_among signed default n w zero (g ∷ gs) l firsts words up = absurd (omega arith)
found_among signed default n w (suc most) [] l firsts words up = refl
found_among signed default n w (suc most) (g ∷ gs) l firsts words up =
    let all = g ∷ gs in
    let k = length (g ∷ gs) / 2 in
    let f = table_of default in
    let middle = get_or (g ∷ gs) (length (g ∷ gs) / 2) g in
    let before = joined (take (length (g ∷ gs) / 2) (g ∷ gs)) in
    let behind = joined (drop (suc (length (g ∷ gs) / 2)) (g ∷ gs)) in
    let within : length (g ∷ gs) / 2 < length (g ∷ gs) = omega arith in
    let whole : joined (g ∷ gs) ≡ before ++ (middle ++ behind) = ap joined (split_at all k g within) ∙ joined_append (take k all) (middle ∷ drop (suc k) all) in
    let words' : AreWords (before ++ (middle ++ behind)) = subst AreWords whole words in
    let up' : IsRising signed (before ++ (middle ++ behind)) = subst (IsRising signed) whole up in
    let is_word : CoreCase → Type 0 = λ c. c.number < 2 ^ 32 in
    let rest_words = all_back is_word before (middle ++ behind) words' in
    let rest_up = rising_back signed before (middle ++ behind) up' in
    let front = length-take (length (g ∷ gs) / 2) (g ∷ gs) in
    let back = length-drop (suc (length (g ∷ gs) / 2)) (g ∷ gs) in
    let less = found_among signed default n w most (take k all) (omega arith) (groups_front HasFirst k all firsts) (all_front is_word before (middle ++ behind) words') (rising_front signed before (middle ++ behind) up') in
    let greater = found_among signed default n w most (drop (suc k) all) (omega arith) (groups_back HasFirst (suc k) all firsts) (all_back is_word middle behind rest_words) (rising_back signed middle behind rest_up) in
    ap (found signed default n) (halves_of_groups f most g gs k refl)
    ∙ (found_at signed default n w before middle behind (by_halves most (map f (take k all))) (by_halves most (map f (drop (suc k) all))) (group_at HasFirst all k g within firsts) (all_front is_word middle behind rest_words) up' less greater
    ∙ ap (λ cs. label_of cs default n) (sym whole))

pub numbers_lead : (signed : Bool) (cases : List CoreCase) (default n : ℕ) → AreWords cases → are_apart (numbers cases) ≡ true → n < 2 ^ 32
    → found signed default n (search_over (tables_of signed default cases)) ≡ label_of cases default n
numbers_lead signed cases default n ws h w =
    let sorted = rising signed cases in
    let same = joined_cut sorted in
    let count = length-map (cut sorted) (table_of default) in
    found_among signed default n w (length (map (table_of default) (cut sorted))) (cut sorted) (omega arith) (cut_has_firsts sorted)
    (subst AreWords (sym same) (rising_all (λ c. c.number < 2 ^ 32) signed cases ws))
    (subst (IsRising signed) (sym same) (rising_rises signed cases ws h))
    ∙ (ap (λ cs. label_of cs default n) same ∙ label_of_rising signed cases default n h)
