-- What is told of the roots from a place on, one root more at a time.
use Rattle.std.proofs.Common.{◌≡◌, ◌↔◌, ℕ, zero, suc, ◌<◌, ◌≤◌, ◌⊎◌, Bool, IsTrue, Option, Some, None, List, ◌∷◌, length, drop, slice_get, slice_index_or, IfNone, IfSome, sym, ap, ◌∙◌, subst, arith, drop-cons, inl, inr, ⊎_elim, false}
use Rattle.std.proofs.lemmas.Bool.{false≢true}
use Rattle.std.proofs.lemmas.Option.{slice_get_within}
use Rattle.std.proofs.Math.Seq.{drop-length}
use Rattle.std.specs.Option.{option_or}
use Rattle.op_forest.specs.declared.forest.Forest.{Forest}
use Rattle.op_forest.specs.Nodes.{Node}
use Rattle.forests.proofs.LabelPlaces.{labels_by_places}
use Rattle.forests.specs.declared.forest_fault.ForestFault.{ForestFault}
use Rattle.forests.specs.declared.forest_fault.ForestFault.TheVariants.{Arity, Kind, Label, Slot, Memory}
use Rattle.forests.specs.WellFormed.{IsTaken, IsTakenFrom, IsFit, IsGood, AreGood, IsWellFormed}
use Rattle.forests.specs.FirstPlaces.{AreFirst}
use Rattle.forests.specs.ForestFaults.{LacksArity, LacksKind, LacksLabel, LacksSlot, IsFirst, IsFaultOf, IsRootAnswer}

-- the root at a place, which isn't before another one, is bad in this way, and those between are good
pub record IsFirstFrom (f : Forest) (from : ℕ) (Bad : Forest → ℕ → Node → Type 0) (place : ℕ) : Type 0 where
  pub root : Node
  pub there : slice_get f.roots place ≡ Some root
  pub bad : Bad f place root
  pub behind : from ≤ place
  pub before : AreGood f from place

-- what is told of the roots from a place on
abbrev pub IsAnswerFrom : Forest → ℕ → Option ForestFault → Type 0
IsAnswerFrom f from None = AreGood f from (length f.roots)
IsAnswerFrom f from (Some (Arity root)) = IsFirstFrom f from LacksArity root
IsAnswerFrom f from (Some (Kind root)) = IsFirstFrom f from LacksKind root
IsAnswerFrom f from (Some (Label root)) = IsFirstFrom f from LacksLabel root
IsAnswerFrom f from (Some (Slot root)) = IsFirstFrom f from LacksSlot root
IsAnswerFrom f from (Some Memory) = ⊥

abbrev pub Same : Bool → List Node → Type 0
Same taken ts = IsTrue taken ↔ IsTaken ts

fit_behind : (t : Node) (ts : List Node) (taken : Bool) → Same taken ts → IsFit t (IsTrue taken) → IsFit t (IsTaken ts)
fit_behind t ts taken same f = record { kinds = f.kinds; argument = λ a. same.0 (f.argument a) }

fit_here : (t : Node) (ts : List Node) (taken : Bool) → Same taken ts → IsFit t (IsTaken ts) → IsFit t (IsTrue taken)
fit_here t ts taken same f = record { kinds = f.kinds; argument = λ a. same.1 (f.argument a) }

-- ---- one root more

first_or_behind : (from place : ℕ) → from ≤ place → (place ≡ from) ⊎ (suc from ≤ place)
first_or_behind zero zero h = inl (omega arith)
first_or_behind zero (suc place) h = inr (omega arith)
first_or_behind (suc from) zero h = absurd (let never : ⊥ = omega arith in never)
first_or_behind (suc from) (suc place) h = elim (first_or_behind from place (omega (arith, h))) [ inl e ↦ inl (omega (arith, e)) | inr l ↦ inr (omega (arith, l)) ]

good_here : (f : Forest) (from place : ℕ) (t u : Node) → slice_get f.roots from ≡ Some t → IsGood f from t → place ≡ from → slice_get f.roots place ≡ Some u → IsGood f place u
good_here f from place t u there good e at =
    let both : Some t ≡ Some u = sym there ∙ sym (ap (λ (n : ℕ). slice_get f.roots n) e) ∙ at in
    let same : t ≡ u = cc in
    subst (λ (n : ℕ). IsGood f n u) (sym e) (subst (λ (x : Node). IsGood f from x) same good)

good_more : (f : Forest) (from to : ℕ) (t : Node) → slice_get f.roots from ≡ Some t → IsGood f from t → AreGood f (suc from) to → AreGood f from to
good_more f from to t there good rest place u behind before at = elim (first_or_behind from place behind) [
  | inl e ↦ good_here f from place t u there good e at
  | inr l ↦ rest place u l before at
]

first_more : (f : Forest) (from : ℕ) (t : Node) (Bad : Forest → ℕ → Node → Type 0) (root : ℕ) → slice_get f.roots from ≡ Some t → IsGood f from t → IsFirstFrom f (suc from) Bad root → IsFirstFrom f from Bad root
first_more f from t Bad root there good x =
    record { root = x.root; there = x.there; bad = x.bad; behind = omega (arith, x.behind); before = good_more f from root t there good x.before }

-- the root is good, and what is told of those behind it stays
kept : (f : Forest) (from : ℕ) (t : Node) (fault : Option ForestFault) → slice_get f.roots from ≡ Some t → IsGood f from t → IsAnswerFrom f (suc from) fault → IsAnswerFrom f from fault
kept f from t None there good told = good_more f from (length f.roots) t there good told
kept f from t (Some (Arity root)) there good told = first_more f from t LacksArity root there good told
kept f from t (Some (Kind root)) there good told = first_more f from t LacksKind root there good told
kept f from t (Some (Label root)) there good told = first_more f from t LacksLabel root there good told
kept f from t (Some (Slot root)) there good told = first_more f from t LacksSlot root there good told
kept f from t (Some Memory) there good told = told

none_between : (f : Forest) (from : ℕ) → AreGood f from from
none_between f from place t behind before at = absurd (let never : ⊥ = omega (arith, behind, before) in never)

first_here : (f : Forest) (from : ℕ) (t : Node) (Bad : Forest → ℕ → Node → Type 0) (root : ℕ) → slice_get f.roots from ≡ Some t → root ≡ from → Bad f from t → IsFirstFrom f from Bad root
first_here f from t Bad root there e bad =
    subst (λ (n : ℕ). IsFirstFrom f from Bad n) (sym e) (record { root = t; there = there; bad = bad; behind = omega arith; before = none_between f from })

-- the root is bad
found : (f : Forest) (places : ℕ → Option ℕ) (from : ℕ) (t : Node) (taken : Bool) (fault : ForestFault) → AreFirst 0 f.roots places → slice_get f.roots from ≡ Some t → Same taken (drop (suc from) f.roots) → IsRootAnswer f.frame places from t (IsTrue taken) (Some fault) → IsAnswerFrom f from (Some fault)
found f places from t taken (Arity root) first there same told = first_here f from t LacksArity root there told.0 told.1
found f places from t taken (Kind root) first there same told =
    first_here f from t LacksKind root there told.0 (record { arities = told.1; unfit = λ g. told.2 (fit_here t (drop (suc from) f.roots) taken same g) })
found f places from t taken (Label root) first there same told =
    first_here f from t LacksLabel root there told.0 (record { arities = told.1; fit = fit_behind t (drop (suc from) f.roots) taken same told.2; astray = λ h. told.3 ((labels_by_places f.roots places from t first there).1 h) })
found f places from t taken (Slot root) first there same told =
    first_here f from t LacksSlot root there told.0 (record { arities = told.1; fit = fit_behind t (drop (suc from) f.roots) taken same told.2; labels = (labels_by_places f.roots places from t first there).0 told.3; outside = told.4 })
found f places from t taken Memory first there same told = told

one_more : (f : Forest) (places : ℕ → Option ℕ) (from : ℕ) (t : Node) (taken : Bool) (own later : Option ForestFault) → AreFirst 0 f.roots places → slice_get f.roots from ≡ Some t → Same taken (drop (suc from) f.roots) → IsRootAnswer f.frame places from t (IsTrue taken) own → IsAnswerFrom f (suc from) later → IsAnswerFrom f from (option_or own later)
one_more f places from t taken None later first there same own told =
    kept f from t later there (record { arities = own.0; fit = fit_behind t (drop (suc from) f.roots) taken same own.1; labels = (labels_by_places f.roots places from t first there).0 own.2; slots = own.3 }) told
one_more f places from t taken (Some fault) later first there same own told = found f places from t taken fault first there same own

moved : (t : Node) (P Q : Type 0) → (P → Q) → IsTakenFrom t P → IsTakenFrom t Q
moved t P Q go x = (x.0, ⊎_elim inl (λ y. inr (y.0, go y.1)) x.1)

-- arguments before one more root
same_more : (t : Node) (ts : List Node) (taken result : Bool) → Same taken ts → IsTrue result ↔ IsTakenFrom t (IsTrue taken) → Same result (t ∷ ts)
same_more t ts taken result same step =
    ((λ x. moved t (IsTrue taken) (IsTaken ts) same.0 (step.0 x)), (λ x. step.1 (moved t (IsTaken ts) (IsTrue taken) same.1 x)))

-- ---- all roots

pub all_well : (f : Forest) (fault : Option ForestFault) → IsAnswerFrom f 0 fault → IfNone fault (IsWellFormed f)
all_well f None told = record { good = λ place t at. told place t (omega arith) (slice_get_within f.roots place t at) at }
all_well f (Some fault) told = tt

first_of : (f : Forest) (Bad : Forest → ℕ → Node → Type 0) (root : ℕ) → IsFirstFrom f 0 Bad root → IsFirst f Bad root
first_of f Bad root x = record { root = x.root; there = x.there; bad = x.bad; before = x.before }

pub one_told : (f : Forest) (fault : Option ForestFault) → IsAnswerFrom f 0 fault → IfSome fault (IsFaultOf f)
one_told f None told = tt
one_told f (Some (Arity root)) told = first_of f LacksArity root told
one_told f (Some (Kind root)) told = first_of f LacksKind root told
one_told f (Some (Label root)) told = first_of f LacksLabel root told
one_told f (Some (Slot root)) told = first_of f LacksSlot root told
one_told f (Some Memory) told = tt

-- ---- the loop

-- the roots from a place on
front : (roots : List Node) (place : ℕ) (t : Node) → place < length roots → t ≡ slice_index_or roots place t → drop place roots ≡ t ∷ drop (suc place) roots
front roots place t within is = drop-cons roots place t within ∙ ap (λ x. x ∷ drop (suc place) roots) (sym is)

-- what the loop keeps
pub record IsKept (f : Forest) (place : ℕ) (taken : Bool) (fault : Option ForestFault) : Type 0 where
  pub same : Same taken (drop place f.roots)
  pub told : IsAnswerFrom f place fault

pub none_kept : (f : Forest) (roots : List Node) → roots ≡ f.roots → IsKept f (length roots) false None
none_kept f roots are =
    subst (λ ts. IsKept f (length ts) false None) (sym are)
    (record {
      same = subst (λ ts. Same false ts) (sym (drop-length f.roots)) ((λ x. absurd (false≢true x)), (λ x. absurd x));
      told = none_between f (length f.roots);
    })

pub one_kept : (f : Forest) (places : ℕ → Option ℕ) (roots : List Node) (place : ℕ) (t : Node) (taken result : Bool) (own later fault : Option ForestFault) → AreFirst 0 f.roots places → roots ≡ f.roots → slice_get f.roots place ≡ Some t → drop place f.roots ≡ t ∷ drop (suc place) f.roots → IsKept f (suc place) taken later → IsRootAnswer f.frame places place t (IsTrue taken) own → IsTrue result ↔ IsTakenFrom t (IsTrue taken) → fault ≡ option_or own later → IsKept f place result fault
one_kept f places roots place t taken result own later fault first are there here kept now then e =
    record {
      same = subst (λ ts. Same result ts) (sym here) (same_more t (drop (suc place) f.roots) taken result kept.same then);
      told = subst (λ x. IsAnswerFrom f place x) (sym e) (one_more f places place t taken own later first there kept.same now kept.told);
    }

pub front_of : (f : Forest) (roots : List Node) (place : ℕ) (t : Node) → roots ≡ f.roots → place < length roots → t ≡ slice_index_or roots place t → drop place f.roots ≡ t ∷ drop (suc place) f.roots
front_of f roots place t are within is = subst (λ ts. drop place ts ≡ t ∷ drop (suc place) ts) are (front roots place t within is)
