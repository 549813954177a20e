-- Marks of expressions, and of several.
use Rattle.std.specs.Prelude.{◌&&◌, set}
use Rattle.std.proofs.Common.{◌≡◌, ℕ, suc, ◌+◌, ◌<◌, ◌≤◌, zero, Bool, true, List, [], ◌∷◌, ◌++◌, length, drop, get_or, drop-cons, refl, ap, sym, ◌∙◌, subst, arith}
use Rattle.std.proofs.lemmas.List.{append_assoc, length-append, set_at}
use Rattle.c_types.specs.CType.{CType}
use Rattle.c_meaning.specs.CoreTrees.{CoreOf, Core, CoresOf, Cores, kids_of, cores_of, what_of, seen, all_seen, parts, all_parts}
use Rattle.c_meaning.specs.Values.{CoreTree}
use Rattle.lowered_forms.specs.Straight.{goes_on, straight, all_straight}
use Rattle.c_lower_expr.specs.Marks.{marks, all_marks}

pub straight_is : (k : ℕ → CType) (e : CoreOf ℕ) → straight (seen k e) ≡ (goes_on (what_of e) && all_straight (all_seen k (kids_of e)))
straight_is k (Core what of line kids) = refl

pub marks_are : (k : ℕ → CType) (e : CoreOf ℕ) → marks (seen k e) ≡ straight (seen k e) ∷ all_marks (all_seen k (kids_of e))
marks_are k (Core what of line kids) = refl

-- the first mark is the expression's own
pub head_is : (e : CoreTree) (b : Bool) (ms rest : List Bool) → b ∷ ms ≡ marks e ++ rest → b ≡ straight e
head_is (Core what of line kids) b ms rest e = cc

pub tail_is : (k : ℕ → CType) (e : CoreOf ℕ) (b : Bool) (ms rest : List Bool) → b ∷ ms ≡ marks (seen k e) ++ rest → ms ≡ all_marks (all_seen k (kids_of e)) ++ rest
tail_is k (Core what of line kids) b ms rest e = cc

-- ---- the element at a place of a list, and those behind it

pub left_is : {A : Type 0} (list : List A) (i : ℕ) (e : A) → i < length list → e ≡ get_or list i e → drop i list ≡ e ∷ drop (i + 1) list
left_is list i e lt is =
    drop-cons list i e lt ∙ ap (λ x. x ∷ drop (suc i) list) (sym is) ∙ ap (λ n. e ∷ drop n list) (let q : suc i ≡ i + 1 = omega arith in q)

-- ---- marks that are made

-- an expression's own mark is put before those of its parts
pub own_mark : (k : ℕ → CType) (e : CoreOf ℕ) (kids : CoresOf ℕ) (old pushed all : List Bool) (b : Bool)
    → kids_of e ≡ kids → pushed ≡ old ++ true ∷ [] → all ≡ pushed ++ all_marks (all_seen k kids) → b ≡ straight (seen k e) → set all (length old) b ≡ old ++ marks (seen k e)
own_mark k e kids old pushed all b q p a is =
    let more = all_marks (all_seen k kids) in
    let there : all ≡ old ++ true ∷ more = a ∙ ap (λ xs. xs ++ more) p ∙ append_assoc old (true ∷ []) more in
    ap (λ xs. set xs (length old) b) there ∙ set_at old true more b (length old) refl
    ∙ (λ i. old ++ is i ∷ all_marks (all_seen k (sym q i))) ∙ ap (λ xs. old ++ xs) (sym (marks_are k e))

pub straight_by : (k : ℕ → CType) (e : CoreOf ℕ) (kids : CoresOf ℕ) (b are : Bool)
    → kids_of e ≡ kids → b ≡ (goes_on (what_of e) && are) → are ≡ all_straight (all_seen k kids) → b ≡ straight (seen k e)
straight_by k e kids b are q is all = is ∙ ap (λ x. goes_on (what_of e) && x) (all ∙ ap (λ cs. all_straight (all_seen k cs)) (sym q)) ∙ sym (straight_is k e)

-- there is a place for it
pub place_there : (old pushed all : List Bool) (more : List Bool) → pushed ≡ old ++ true ∷ [] → all ≡ pushed ++ more → length old < length all
place_there old pushed all more p a =
    let n : length all ≡ length old + 1 + length more = ap length a ∙ length-append pushed more ∙ ap (λ m. m + length more) (ap length p ∙ length-append old (true ∷ [])) in
    omega arith

abbrev pub MarksLeft : (ℕ → CType) → List (CoreOf ℕ) → List (CoreOf ℕ) → List Bool → List Bool → Type 0
MarksLeft k list left old all = all ++ all_marks (all_seen k (cores_of left)) ≡ old ++ all_marks (all_seen k (cores_of list))

abbrev pub StraightLeft : (ℕ → CType) → List (CoreOf ℕ) → List (CoreOf ℕ) → Bool → Type 0
StraightLeft k list left are = (are && all_straight (all_seen k (cores_of left))) ≡ all_straight (all_seen k (cores_of list))

-- ---- sizes

sizes : (e : CoreOf ℕ) (kids : CoresOf ℕ) → kids_of e ≡ kids → parts e ≡ suc (all_parts kids)
sizes (Core what of line ks) kids q = ap (λ x. suc (all_parts x)) q

pub first_smaller : (e a : CoreOf ℕ) (cs : CoresOf ℕ) → kids_of e ≡ Cores a cs → parts a < parts e
first_smaller e a cs q = omega (arith, sizes e (Cores a cs) q)

pub both_smaller : (e a b : CoreOf ℕ) (cs : CoresOf ℕ) → kids_of e ≡ Cores a (Cores b cs) → parts a + parts b < parts e
both_smaller e a b cs q = omega (arith, sizes e (Cores a (Cores b cs)) q)

pub second_smaller : (e a b : CoreOf ℕ) (cs : CoresOf ℕ) → kids_of e ≡ Cores a (Cores b cs) → parts b < parts e
second_smaller e a b cs q = omega (arith, sizes e (Cores a (Cores b cs)) q)

pub third_smaller : (e a b c : CoreOf ℕ) (cs : CoresOf ℕ) → kids_of e ≡ Cores a (Cores b (Cores c cs)) → parts c < parts e
third_smaller e a b c cs q = omega (arith, sizes e (Cores a (Cores b (Cores c cs))) q)

left_smaller : (xs : List (CoreOf ℕ)) (i : ℕ) → all_parts (cores_of (drop i xs)) ≤ all_parts (cores_of xs)
left_smaller xs zero = omega arith
left_smaller [] (suc i) = omega arith
left_smaller (x ∷ xs) (suc i) = omega (arith, left_smaller xs i)

pub item_smaller : (e a : CoreOf ℕ) (xs : List (CoreOf ℕ)) (i : ℕ) (x : CoreOf ℕ) → kids_of e ≡ Cores a (cores_of xs) → i < length xs → x ≡ get_or xs i x → parts x < parts e
item_smaller e a xs i x q lt is =
    let P : List (CoreOf ℕ) → Type 0 = λ ys. all_parts (cores_of ys) ≤ all_parts (cores_of xs) in
    let h : P (x ∷ drop (i + 1) xs) = subst P (left_is xs i x lt is) (left_smaller xs i) in
    omega (arith, sizes e (Cores a (cores_of xs)) q, h)
