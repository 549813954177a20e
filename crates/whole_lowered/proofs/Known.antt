-- What is known by places of labels and counts of names.
use Rattle.std.specs.Prelude.{◌≡◌, ℕ, zero, suc, ◌+◌, ◌-◌, ◌==◌, ◌<◌, ◌≤◌, nat_eq, Bool, true, false, Option, Some, None, IsSome, IsSomeAnd, List, [], ◌∷◌, ◌++◌, length, take, drop, get_or, slice_get, if◌then◌else◌}
use Rattle.std.proofs.Common.{refl, sym, ap, ◌∙◌, subst, arith}
use Rattle.std.proofs.lemmas.Bool.{eqb-true}
use Rattle.std.proofs.lemmas.Option.{slice_get_within, slice_get-get_or, get_or_from_slice_get}
use Rattle.indexmap.specs.IndexMap.{get}
use Rattle.op_forest.specs.declared.lowered.LoweredFunction.{LoweredFunction}
use Rattle.op_forest.specs.Labels.{label_of}
use Rattle.op_forest.specs.declared.sym.Sym.{Sym}
use Rattle.op_forest.specs.EachNode.{AtEachNode}
use Rattle.op_forest.specs.Lowered.{HasLabel, IsKnown, LoweredUnit}
use Rattle.op_forest.specs.Nodes.{Node, Leaf, One, Two, head_of}
use Rattle.whole_lowered.specs.declared.labels.Labels.{Labels}
use Rattle.whole_lowered.specs.Labels.{AreLabelsOf, HasLabels, KnowsSymbol, KnowsTree, noted}
use Rattle.whole_lowered.proofs.Each.{left_is, taken}

-- ---- labels

more_labels : (fs : List LoweredFunction) (ms : List Labels) (f : LoweredFunction) (m : Labels) → AreLabelsOf fs ms → HasLabels f.forest.roots (get nat_eq m.places) → AreLabelsOf (fs ++ f ∷ []) (ms ++ m ∷ [])
more_labels [] [] f m h k = (k, tt)
more_labels [] (x ∷ ms) f m h k = absurd h
more_labels (g ∷ fs) [] f m h k = absurd h
more_labels (g ∷ fs) (x ∷ ms) f m h k = (h.0, more_labels fs ms f m h.1 k)

-- ---- a root more

label_here : (t : Node) (ts : List Node) (l : ℕ) → label_of t ≡ Some l → HasLabel (t ∷ ts) l
label_here t ts l e = (0, t, slice_get_within (t ∷ ts) 0 t refl, get_or_from_slice_get (t ∷ ts) 0 t t refl, e)

label_behind : (t : Node) (ts : List Node) (l : ℕ) → HasLabel ts l → HasLabel (t ∷ ts) l
label_behind t ts l h =
    let there = slice_get-get_or ts h.0 h.1 h.2 in
    (suc h.0, h.1, slice_get_within (t ∷ ts) (suc h.0) (get_or ts h.0 h.1) there, h.3, h.4)

by_test : (b : Bool) (t : Node) (ts : List Node) (k l root : ℕ) (before : Option ℕ) → (k == l) ≡ b → label_of t ≡ Some k → (IsSome before → HasLabel ts l) → IsSome (if b then Some root else before) → HasLabel (t ∷ ts) l
by_test true t ts k l root before e is h s = label_here t ts l (is ∙ ap (λ (x : ℕ). Some x) (eqb-true k l e))
by_test false t ts k l root before e is h s = label_behind t ts l (h s)

by_label : (label : Option ℕ) (t : Node) (ts : List Node) (l root : ℕ) (before : Option ℕ) → label ≡ label_of t → (IsSome before → HasLabel ts l) → IsSome (noted label root before l) → HasLabel (t ∷ ts) l
by_label None t ts l root before is h s = label_behind t ts l (h s)
by_label (Some k) t ts l root before is h s = by_test (k == l) t ts k l root before refl (sym is) h s

-- the labels among the roots from a place on, where those behind it are noted
pub labels_more : (roots : List Node) (i : ℕ) (t : Node) (label : Option ℕ) (old new : ℕ → Option ℕ) → 0 < i → i ≤ length roots → t ≡ get_or roots (i - 1) t → label ≡ label_of t
    → HasLabels (drop i roots) old → ((l : ℕ) → new l ≡ noted label (i - 1) (old l) l) → HasLabels (drop (i - 1) roots) new
labels_more roots i t label old new some within is e h n = λ l s.
    let same : (i - 1) + 1 ≡ i = omega (arith, some) in
    subst (λ (ts : List Node). HasLabel ts l) (sym (left_is roots (i - 1) t (omega (arith, some, within)) is))
    (by_label label t (drop ((i - 1) + 1) roots) l (i - 1) (old l) e (λ k. subst (λ m. HasLabel (drop m roots) l) (sym same) (h l k)) (subst (λ (o : Option ℕ). IsSome o) (n l) s))

-- ---- the labels of the function at a place

pub record HasPlacesOf (fs : List LoweredFunction) (n : ℕ) (m : Labels) : Type 0 where
  pub function : LoweredFunction
  pub there : slice_get fs n ≡ Some function
  pub are : HasLabels function.forest.roots (get nat_eq m.places)

pub places_there : (fs : List LoweredFunction) (ms : List Labels) (n : ℕ) (m : Labels) → AreLabelsOf fs ms → slice_get ms n ≡ Some m → HasPlacesOf fs n m
places_there fs [] n m h e = absurd (let never : ⊥ = cc in never)
places_there [] (x ∷ ms) n m h e = absurd h
places_there (f ∷ fs) (x ∷ ms) zero m h e = let same : x ≡ m = cc in record { function = f; there = refl; are = subst (λ y. HasLabels f.forest.roots (get nat_eq y.places)) same h.0 }
places_there (f ∷ fs) (x ∷ ms) (suc n) m h e = let r = places_there fs ms n m h.1 e in record { function = r.function; there = r.there; are = r.are }

-- so its label is known
pub label_there : (fs : List LoweredFunction) (ms : List Labels) (n l : ℕ) (m : Labels) → AreLabelsOf fs ms → slice_get ms n ≡ Some m → IsSome (get nat_eq m.places l)
    → IsSomeAnd (slice_get fs n) (λ f. HasLabel f.forest.roots l)
label_there fs ms n l m h e s =
    let r = places_there fs ms n m h e in
    subst (λ (o : Option LoweredFunction). IsSomeAnd o (λ f. HasLabel f.forest.roots l)) (sym r.there) (r.are l s)

-- ---- one function more

pub functions_more : (fs : List LoweredFunction) (ms new : List Labels) (i : ℕ) (f : LoweredFunction) (m : Labels) → i < length fs → f ≡ get_or fs i f → new ≡ ms ++ m ∷ []
    → AreLabelsOf (take i fs) ms → HasLabels f.forest.roots (get nat_eq m.places) → AreLabelsOf (take (i + 1) fs) new
functions_more fs ms new i f m lt is e h k =
    subst (λ (xs : List LoweredFunction). AreLabelsOf xs new) (sym (taken fs i f lt is)) (subst (λ (ys : List Labels). AreLabelsOf (take i fs ++ f ∷ []) ys) (sym e) (more_labels (take i fs) ms f m h k))

-- ---- trees

abbrev known_at : LoweredUnit → List Node → Node → Type 0
known_at u roots t = AtEachNode (λ n. IsKnown u roots (head_of n).sym) t

pub leaf_known : (names : ℕ) (places : ℕ → Option ℕ) (t : Node) (x : Sym) → x ≡ (head_of t).sym → KnowsSymbol names places x → t ≡ Leaf (head_of t) → KnowsTree names places t
leaf_known names places t x is k e = λ u roots many are. subst (λ n. known_at u roots n) (sym e) (subst (λ y. IsKnown u roots y) is (k u roots many are))

pub one_known : (names : ℕ) (places : ℕ → Option ℕ) (t a : Node) (x : Sym) → x ≡ (head_of t).sym → KnowsSymbol names places x → t ≡ One (head_of t) a → KnowsTree names places a → KnowsTree names places t
one_known names places t a x is k e h = λ u roots many are. subst (λ n. known_at u roots n) (sym e) (subst (λ y. IsKnown u roots y) is (k u roots many are), h u roots many are)

pub two_known : (names : ℕ) (places : ℕ → Option ℕ) (t a b : Node) (x : Sym) → x ≡ (head_of t).sym → KnowsSymbol names places x → t ≡ Two (head_of t) a b → KnowsTree names places a → KnowsTree names places b → KnowsTree names places t
two_known names places t a b x is k e h g = λ u roots many are.
    subst (λ n. known_at u roots n) (sym e) (subst (λ y. IsKnown u roots y) is (k u roots many are), h u roots many are, g u roots many are)
