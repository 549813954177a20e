-- Lists of names: whether two of them are equal, and the place of a name among them.
use Rattle.std.proofs.Common.{◌≡◌, ℕ, suc, ◌+◌, ◌<◌, ◌≤◌, Bool, true, false, List, [], ◌∷◌, ◌++◌, length, get_or, drop, refl, sym, ap, ◌∙◌, arith}
use Rattle.std.specs.Prelude.{◌&&◌, ◌||◌, not, Option, Some, None, is_none, is_some, if◌then◌else◌}
use Rattle.std.specs.Str.{bytes_eq}
use Rattle.std.proofs.lemmas.Bool.{false_from_ne_true}
use Rattle.std.proofs.lemmas.List.{at_drop_all, at_drop_more}
use Rattle.std.proofs.lemmas.Slice.Eq.{bytes_eq-Decides}
use Rattle.c_symbols.specs.Scoping.{symbol_named}
use Rattle.c_meaning.specs.Units.{are_different, is_same_among}
use Rattle.c_units.specs.Functions.{place_from}

-- ---- equal names

turned_false : (a b : List ℕ) → bytes_eq a b ≡ false → bytes_eq b a ≡ false
turned_false a b h = false_from_ne_true (bytes_eq b a) (λ t. (let e : b ≡ a = (bytes_eq-Decides b a).0 t in let u : bytes_eq a b ≡ true = (bytes_eq-Decides a b).1 (sym e) in cc))

turned : (a b : List ℕ) → bytes_eq a b ≡ bytes_eq b a
turned a b = by (bytes_eq a b) refl
  where
    by : (x : Bool) → bytes_eq a b ≡ x → x ≡ bytes_eq b a
    by true h = sym ((bytes_eq-Decides b a).1 (sym ((bytes_eq-Decides a b).0 h)))
    by false h = sym (turned_false a b h)

-- ---- names behind others

-- no name stands among those before it, of which these are the first
abbrev pub differ_behind : List (List ℕ × ℕ) → List (List ℕ) → Bool
differ_behind before [] = true
differ_behind before (n ∷ ns) = is_none (symbol_named before n) && differ_behind (before ++ (n, 0) ∷ []) ns

abbrev are_new : List (List ℕ × ℕ) → List (List ℕ) → Bool
are_new before [] = true
are_new before (n ∷ ns) = is_none (symbol_named before n) && are_new before ns

named_behind : (before : List (List ℕ × ℕ)) (n m : List ℕ) → is_none (symbol_named (before ++ (n, 0) ∷ []) m) ≡ (is_none (symbol_named before m) && not (bytes_eq n m))
named_behind [] n m = by (bytes_eq m n) ∙ ap not (turned m n)
  where
    by : (b : Bool) → is_none {T = ℕ} (if b then Some 0 else None) ≡ not b
    by true = refl
    by false = refl
named_behind (x ∷ before) n m = by (bytes_eq m x.0) (named_behind before n m)
  where
    by : (b : Bool) → is_none (symbol_named (before ++ (n, 0) ∷ []) m) ≡ (is_none (symbol_named before m) && not (bytes_eq n m))
        → is_none (if b then Some x.1 else symbol_named (before ++ (n, 0) ∷ []) m) ≡ (is_none (if b then Some x.1 else symbol_named before m) && not (bytes_eq n m))
    by true h = refl
    by false h = h

all_joined : (a b c d : Bool) → ((a && not b) && (c && not d)) ≡ ((a && c) && not (b || d))
all_joined true true true d = refl
all_joined true true false d = refl
all_joined true false true d = refl
all_joined true false false d = refl
all_joined false b c d = refl

new_behind : (before : List (List ℕ × ℕ)) (n : List ℕ) (ns : List (List ℕ)) → are_new (before ++ (n, 0) ∷ []) ns ≡ (are_new before ns && not (is_same_among n ns))
new_behind before n [] = refl
new_behind before n (m ∷ ns) =
    ap (λ b. b && are_new (before ++ (n, 0) ∷ []) ns) (named_behind before n m)
    ∙ ap (λ b. (is_none (symbol_named before m) && not (bytes_eq n m)) && b) (new_behind before n ns)
    ∙ all_joined (is_none (symbol_named before m)) (bytes_eq n m) (are_new before ns) (is_same_among n ns)

regrouped : (a b c d : Bool) → (a && ((b && c) && d)) ≡ ((a && b) && (c && d))
regrouped true true c d = refl
regrouped true false c d = refl
regrouped false b c d = refl

differ_is : (before : List (List ℕ × ℕ)) (ns : List (List ℕ)) → differ_behind before ns ≡ (are_new before ns && are_different ns)
differ_is before [] = refl
differ_is before (n ∷ ns) =
    ap (λ b. is_none (symbol_named before n) && b) (differ_is (before ++ (n, 0) ∷ []) ns ∙ ap (λ b. b && are_different ns) (new_behind before n ns))
    ∙ regrouped (is_none (symbol_named before n)) (are_new before ns) (not (is_same_among n ns)) (are_different ns)

all_new : (ns : List (List ℕ)) → are_new [] ns ≡ true
all_new [] = refl
all_new (n ∷ ns) = all_new ns

pub differ_at_first : (ns : List (List ℕ)) → differ_behind [] ns ≡ are_different ns
differ_at_first ns = differ_is [] ns ∙ ap (λ b. b && are_different ns) (all_new ns)

-- ---- the loop over them

module _ (before : List (List ℕ × ℕ)) (ns : List (List ℕ)) (i : ℕ) (n : List ℕ) (l : i < length ns) (is : n ≡ get_or ns i n) where
  next_differs : differ_behind before (drop i ns) ≡ (is_none (symbol_named before n) && differ_behind (before ++ (n, 0) ∷ []) (drop (i + 1) ns))
  next_differs = at_drop_more (differ_behind before) ns i n l ∙ ap (λ x. differ_behind before (x ∷ drop (i + 1) ns)) (sym is)

  pub stands_again : is_some (symbol_named before n) ≡ true → differ_behind before (drop i ns) ≡ false
  stands_again h = next_differs ∙ by (symbol_named before n) h
    where
      by : (o : Option ℕ) → is_some o ≡ true → (is_none o && differ_behind (before ++ (n, 0) ∷ []) (drop (i + 1) ns)) ≡ false
      by (Some x) h = refl
      by None h = absurd (cc)

  pub stands_first : symbol_named before n ≡ None → differ_behind (before ++ (n, 0) ∷ []) (drop (i + 1) ns) ≡ differ_behind before (drop i ns)
  stands_first h = sym (next_differs ∙ ap (λ (o : Option ℕ). is_none o && differ_behind (before ++ (n, 0) ∷ []) (drop (i + 1) ns)) h)

pub none_left : (before : List (List ℕ × ℕ)) (ns : List (List ℕ)) (i : ℕ) → length ns ≤ i → differ_behind before (drop i ns) ≡ true
none_left before ns i l = at_drop_all (differ_behind before) ns i l

pub no_name : (o : Option ℕ) → is_some o ≡ false → o ≡ None
no_name None h = refl
no_name (Some x) h = absurd (cc)

-- ---- the place of a name

pub one_more : (i : ℕ) → suc i ≡ i + 1
one_more i = omega arith

module _ (ns : List (List ℕ)) (name : List ℕ) (i : ℕ) (n : List ℕ) (l : i < length ns) (is : n ≡ get_or ns i n) where
  next_place : place_from i (drop i ns) name ≡ (if bytes_eq name n then Some i else place_from (i + 1) (drop (i + 1) ns) name)
  next_place =
      at_drop_more (λ xs. place_from i xs name) ns i n l ∙ ap (λ x. place_from i (x ∷ drop (i + 1) ns) name) (sym is)
      ∙ ap (λ k. if bytes_eq name n then Some i else place_from k (drop (i + 1) ns) name) (one_more i)

  pub place_met : bytes_eq name n ≡ true → place_from i (drop i ns) name ≡ Some i
  place_met h = next_place ∙ ap (λ (b : Bool). if b then Some i else place_from (i + 1) (drop (i + 1) ns) name) h

  pub place_behind : bytes_eq name n ≡ false → place_from (i + 1) (drop (i + 1) ns) name ≡ place_from i (drop i ns) name
  place_behind h = sym (next_place ∙ ap (λ (b : Bool). if b then Some i else place_from (i + 1) (drop (i + 1) ns) name) h)

pub no_place : (ns : List (List ℕ)) (name : List ℕ) (i : ℕ) → length ns ≤ i → place_from i (drop i ns) name ≡ None
no_place ns name i l = at_drop_all (λ xs. place_from i xs name) ns i l
