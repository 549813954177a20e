-- What one walk over the acts, from the last one on, tells of them.
use Rattle.std.proofs.Common.{◌≡◌, ⊎_elim, ℕ, zero, suc, ◌+◌, ◌<◌, ◌≤◌, Bool, true, false, true≢false, List, [], ◌∷◌, ◌++◌, length, get_or, reverse, replicate, refl, sym, ap, ◌∙◌, arith, subst, append_assoc, append-nil}
use Rattle.std.specs.Prelude.{nat_lt, ◌&&◌, if◌then◌else◌, All}
use Rattle.std.proofs.lemmas.Bool.{cases_eq}
use Rattle.std.proofs.lemmas.Bool.Decides.{nat_tests}
use Rattle.std.proofs.lemmas.Grind.{reverse_onto}
use Rattle.std.proofs.lemmas.List.{get_or-set_same, get_or-set_other, length-set, get_or-replicate, length-replicate, reverse-reverse}
use Rattle.dag_forest.specs.declared.kids.Kids.{Kids}
use Rattle.dag_forest.specs.declared.kids.Kids.TheVariants.{Zero, One, Two}
use Rattle.dag_forest.specs.declared.uses.Step.{Step}
use Rattle.dag_forest.specs.declared.uses.Use.{Use}
use Rattle.dag_forest.specs.Entries.{AreBelow}
use Rattle.dag_forest.specs.Schedules.{Act, Made, Acts, kids_of, used, reversed}
use Rattle.dag_forest.specs.Choice.{hits, in_kids, counts, times_of, is_above, ends_stretch, late, root_kids, next_kids, is_last, is_once, IsLow}
use Rattle.dag_forest.specs.Walks.{step_before, steps_of, no_use, step_of, is_never, unused, used_more, noted, noted_kids, ends_before, walk}
use Rattle.dag_forest.proofs.Ready.{AllLow, below_more, low_reversed, reversed_is}
use Rattle.dag_forest.proofs.Fits.{is_counted, hit, miss}

-- what is noted of a node that is used so often, and so late
abbrev IsUse : ℕ → Use → ℕ → Bool → Type 0
IsUse ends u c l = (u.times ≡ times_of c) × (u.ends ≤ ends) × (c ≡ 0 → l ≡ false) × (0 < c → l ≡ nat_lt u.ends ends)

abbrev AreNoted : List Use → ℕ → (ℕ → ℕ) → (ℕ → Bool) → Type 0
AreNoted uses ends c l = (m : ℕ) → m < length uses → IsUse ends (get_or uses m no_use) (c m) (l m)

less : (x y : ℕ) → x < y → nat_lt x y ≡ true
less x y l = search (nat_tests, arith)

not_less : (x : ℕ) → nat_lt x x ≡ false
not_less x = search (nat_tests, arith)

above_is : (c : ℕ) → 0 < c → is_above c ≡ true
above_is zero l = absurd (omega (arith, l))
above_is (suc c) l = refl

past_end : (b : Bool) (ends : ℕ) (u : Use) (c : ℕ) (l : Bool) → IsUse ends u c l → IsUse (if b then ends + 1 else ends) u c (if b then is_above c else l)
past_end true ends u c l h = (h.0, omega (arith, h.1), (λ e. ap is_above e), (λ q. above_is c q ∙ sym (less u.ends (ends + 1) (omega (arith, h.1)))))
past_end false ends u c l h = h

used_by : (e x c : ℕ) (l : Bool) → x ≤ e → (c ≡ 0 → l ≡ false) → (0 < c → l ≡ nat_lt x e) → IsUse e (used_more e (times_of c) x) (suc c) l
used_by e x zero l le none some = (refl, omega arith, (λ q. absurd (omega (arith, q))), (λ q. none refl ∙ sym (not_less e)))
used_by e x (suc zero) l le none some = (refl, le, (λ q. absurd (omega (arith, q))), (λ q. some (omega arith)))
used_by e x (suc (suc c)) l le none some = (refl, le, (λ q. absurd (omega (arith, q))), (λ q. some (omega arith)))

used_again : (e c d : ℕ) (u : Use) (l : Bool) → d ≡ suc c → IsUse e u c l → IsUse e (used_more e u.times u.ends) d l
used_again e c d u l is h = subst (λ z. IsUse e (used_more e u.times u.ends) z l) (sym is) (subst (λ z. IsUse e (used_more e z u.ends) (suc c) l) (sym h.0) (used_by e u.ends c l h.1 h.2 h.3))

one_noted : (e node : ℕ) (uses : List Use) (c : ℕ → ℕ) (l : ℕ → Bool) → node < length uses → AreNoted uses e c l → AreNoted (noted e node uses) e (λ m. hits m node + c m) l
one_noted e node uses c l low h m lt =
    let len = length-set uses node (used_more e (get_or uses node no_use).times (get_or uses node no_use).ends) in
    let old : m < length uses = omega (arith, lt, len) in
    ⊎_elim
    (λ q. subst (λ z. IsUse e z (hits m node + c m) (l m)) (sym (ap (λ i. get_or (noted e node uses) i no_use) q ∙ get_or-set_same uses node _ no_use low))
    (subst (λ z. IsUse e (used_more e (get_or uses z no_use).times (get_or uses z no_use).ends) (hits m node + c m) (l m)) q
    (used_again e (c m) (hits m node + c m) (get_or uses m no_use) (l m) (let y : hits m node ≡ 1 = ap (λ i. hits i node) q ∙ hit node in omega (arith, y)) (h m old))))
    (λ q. subst (λ z. IsUse e z (hits m node + c m) (l m)) (sym (get_or-set_other uses node m _ no_use q))
    (subst (λ z. IsUse e (get_or uses m no_use) z (l m)) (let y = miss m node q in let z : c m ≡ hits m node + c m = omega (arith, y) in z) (h m old)))
    (cases_eq m node)

kids_noted : (e : ℕ) (k : Kids) (uses : List Use) (c : ℕ → ℕ) (l : ℕ → Bool) → AreBelow (length uses) k → AreNoted uses e c l → AreNoted (noted_kids e k uses) e (λ m. in_kids k m + c m) l
kids_noted e Zero uses c l low h m lt = subst (λ z. IsUse e (get_or uses m no_use) z (l m)) (let z : c m ≡ 0 + c m = omega arith in z) (h m lt)
kids_noted e (One a) uses c l low h m lt = one_noted e a uses c l low h m lt
kids_noted e (Two a d) uses c l low h m lt =
    let len = length-set uses a (used_more e (get_or uses a no_use).times (get_or uses a no_use).ends) in
    subst (λ z. IsUse e (get_or (noted e d (noted e a uses)) m no_use) z (l m)) (let z : hits m d + (hits m a + c m) ≡ (hits m a + hits m d) + c m = omega arith in z)
    (one_noted e d (noted e a uses) (λ m. hits m a + c m) l (let lo = low.1 in omega (arith, lo, len)) (one_noted e a uses c l low.0 h) m lt)

pub kids_length : (e : ℕ) (k : Kids) (uses : List Use) → length (noted_kids e k uses) ≡ length uses
kids_length e Zero uses = refl
kids_length e (One a) uses = length-set uses a _
kids_length e (Two a d) uses = length-set (noted e a uses) d _ ∙ length-set uses a _

-- one act more
act_noted : (a : Act) (as' : List Act) (uses : List Use) (ends : ℕ) → AreBelow (length uses) (kids_of a) → AreNoted uses ends (counts as') (late as') → AreNoted (noted_kids (ends_before a ends) (kids_of a) uses) (ends_before a ends) (counts (a ∷ as')) (late (a ∷ as'))
act_noted a as' uses ends low h =
    kids_noted (ends_before a ends) (kids_of a) uses (counts as') (λ m. if ends_stretch a then is_above (counts as' m) else late as' m) low
    (λ m lt. past_end (ends_stretch a) ends (get_or uses m no_use) (counts as' m) (late as' m) (h m lt))

pub low_kids : (k : ℕ) (a : Act) → IsLow k a → AreBelow k (kids_of a)
low_kids k (Made n x) h = below_more n k x.kids (let z = h.0 in omega (arith, z)) h.1
low_kids k (Acts x) h = h

never_is : (c : ℕ) → is_never (times_of c) ≡ true → is_above c ≡ false
never_is zero e = refl
never_is (suc zero) e = absurd (true≢false (sym e))
never_is (suc (suc c)) e = absurd (true≢false (sym e))

ever_is : (c : ℕ) → is_never (times_of c) ≡ false → is_above c ≡ true
ever_is zero e = absurd (true≢false e)
ever_is (suc zero) e = refl
ever_is (suc (suc c)) e = refl

-- the step that is told is that of the act
pub step_is : (a : Act) (as' : List Act) (uses : List Use) (ends : ℕ) (next : Kids) → IsLow (length uses) a → AreNoted uses ends (counts as') (late as') → next ≡ next_kids as' → unused (step_of uses ends next a) ≡ false → step_of uses ends next a ≡ step_before a as'
step_is (Made n x) as' uses ends next low h follows some =
    let u = h n low.0 in
    let c : is_above (counts as' n) ≡ true = ever_is (counts as' n) (sym (ap is_never u.0) ∙ some) in
    λ i. record { act = Made n x; times = u.0 i; late = sym (u.3 (above_so (counts as' n) c)) i; handed = is_last n (follows i) && is_once (u.0 i) }
  where
    above_so : (c : ℕ) → is_above c ≡ true → 0 < c
    above_so zero e = absurd (true≢false (sym e))
    above_so (suc c) e = omega arith
step_is (Acts x) as' uses ends next low h follows some = refl

-- an act that isn't told is dropped, and any other is used
used_not : (a : Act) (as' : List Act) (uses : List Use) (ends : ℕ) (next : Kids) → IsLow (length uses) a → AreNoted uses ends (counts (used as')) (late (used as')) → unused (step_of uses ends next a) ≡ true → used (a ∷ as') ≡ used as'
used_not (Made n x) as' uses ends next low h none = ap (λ b. if b then Made n x ∷ used as' else used as') (is_counted n (used as') ∙ never_is (counts (used as') n) (sym (ap is_never (h n low.0).0) ∙ none))
used_not (Acts x) as' uses ends next low h none = absurd (true≢false (sym none))

used_so : (a : Act) (as' : List Act) (uses : List Use) (ends : ℕ) (next : Kids) → IsLow (length uses) a → AreNoted uses ends (counts (used as')) (late (used as')) → unused (step_of uses ends next a) ≡ false → used (a ∷ as') ≡ a ∷ used as'
used_so (Made n x) as' uses ends next low h some = ap (λ b. if b then Made n x ∷ used as' else used as') (is_counted n (used as') ∙ ever_is (counts (used as') n) (sym (ap is_never (h n low.0).0) ∙ some))
used_so (Acts x) as' uses ends next low h some = refl

abbrev pub back : List Step → List Step
back [] = []
back (s ∷ ss) = back ss ++ s ∷ []

reversed_more : (a : Act) (as' s : List Act) → reversed (a ∷ as') ++ s ≡ reversed as' ++ (a ∷ s)
reversed_more a as' s = append_assoc (reversed as') (a ∷ []) s

low_length : (k p : ℕ) (xs : List Act) → k ≡ p → AllLow k xs → AllLow p xs
low_length k p xs e h = subst (λ z. AllLow z xs) e h

walks : (r s : List Act) (uses : List Use) (ends : ℕ) (next : Kids) (done : List Step) → AllLow (length uses) r → AreNoted uses ends (counts (used s)) (late (used s)) → next ≡ next_kids (used s) → done ≡ back (steps_of (used s)) → walk r uses ends next done ≡ back (steps_of (used (reversed r ++ s)))
walks [] s uses ends next done low h follows is = is
walks (a ∷ as') s uses ends next done low h follows is =
    by (unused (step_of uses ends next a)) refl
    (λ none. walks as' (a ∷ s) uses ends next done low.1
    (subst (λ z. AreNoted uses ends (counts z) (late z)) (sym (used_not a s uses ends next low.0 h none)) h)
    (follows ∙ ap next_kids (sym (used_not a s uses ends next low.0 h none)))
    (is ∙ ap (λ z. back (steps_of z)) (sym (used_not a s uses ends next low.0 h none))))
    (λ some. walks as' (a ∷ s) (noted_kids (ends_before a ends) (kids_of a) uses) (ends_before a ends) (root_kids a) (done ++ step_of uses ends next a ∷ [])
    (low_length (length uses) (length (noted_kids (ends_before a ends) (kids_of a) uses)) as' (sym (kids_length (ends_before a ends) (kids_of a) uses)) low.1)
    (subst (λ z. AreNoted (noted_kids (ends_before a ends) (kids_of a) uses) (ends_before a ends) (counts z) (late z)) (sym (used_so a s uses ends next low.0 h some))
    (act_noted a (used s) uses ends (low_kids (length uses) a low.0) h))
    (ap next_kids (sym (used_so a s uses ends next low.0 h some)))
    ((λ i. is i ++ step_is a (used s) uses ends next low.0 h follows some i ∷ []) ∙ ap (λ z. back (steps_of z)) (sym (used_so a s uses ends next low.0 h some))))
  where
    by : (b : Bool) → unused (step_of uses ends next a) ≡ b
        → (unused (step_of uses ends next a) ≡ true → walk as' uses ends next done ≡ back (steps_of (used (reversed as' ++ (a ∷ s)))))
        → (unused (step_of uses ends next a) ≡ false → walk as' (noted_kids (ends_before a ends) (kids_of a) uses) (ends_before a ends) (root_kids a) (done ++ step_of uses ends next a ∷ []) ≡ back (steps_of (used (reversed as' ++ (a ∷ s)))))
        → (if b then walk as' uses ends next done else walk as' (noted_kids (ends_before a ends) (kids_of a) uses) (ends_before a ends) (root_kids a) (done ++ step_of uses ends next a ∷ [])) ≡ back (steps_of (used (reversed (a ∷ as') ++ s)))
    by true e g k = g e ∙ ap (λ z. back (steps_of (used z))) (sym (reversed_more a as' s))
    by false e g k = k e ∙ ap (λ z. back (steps_of (used z))) (sym (reversed_more a as' s))

-- ---- the whole walk

pub all_low : (k : ℕ) (xs : List Act) → All (λ a. IsLow k a) xs → AllLow k xs
all_low k [] h = tt
all_low k (a ∷ as') h = (h 0 a (omega arith), all_low k as' (λ j d l. h (suc j) d (omega (arith, l))))

pub low_all : (k : ℕ) (xs : List Act) → AllLow k xs → All (λ a. IsLow k a) xs
low_all k [] h j d l = absurd (omega (arith, l))
low_all k (a ∷ as') h zero d l = h.0
low_all k (a ∷ as') h (suc j) d l = low_all k as' h.1 j d (omega (arith, l))

back_append : (xs ys : List Step) → back (xs ++ ys) ≡ back ys ++ back xs
back_append [] ys = sym (append-nil (back ys))
back_append (x ∷ xs) ys = ap (λ z. z ++ x ∷ []) (back_append xs ys) ∙ append_assoc (back ys) (back xs) (x ∷ [])

back_back : (xs : List Step) → back (back xs) ≡ xs
back_back [] = refl
back_back (x ∷ xs) = back_append (back xs) (x ∷ []) ∙ ap (λ z. x ∷ z) (back_back xs)

back_is : (xs : List Step) → back xs ≡ reverse xs
back_is [] = refl
back_is (x ∷ xs) = ap (λ z. z ++ x ∷ []) (back_is xs) ∙ sym (reverse_onto xs x [])

none_noted : (nodes m : ℕ) → m < nodes → IsUse 0 (get_or (replicate nodes no_use) m no_use) 0 false
none_noted nodes m l = subst (λ u. IsUse 0 u 0 false) (sym (get_or-replicate nodes m no_use no_use l)) (refl, omega arith, (λ e. refl), (λ q. absurd (omega (arith, q))))

pub walked : (nodes : ℕ) (acts : List Act) (steps : List Step) → All (λ a. IsLow nodes a) acts → steps ≡ walk (reverse acts) (replicate nodes no_use) 0 Zero [] → reverse steps ≡ steps_of (used acts)
walked nodes acts steps low is =
    let len : length (replicate nodes no_use) ≡ nodes = length-replicate nodes no_use in
    let all : AllLow (length (replicate nodes no_use)) (reverse acts) = subst (λ k. AllLow k (reverse acts)) (sym len) (subst (λ z. AllLow nodes z) (reversed_is acts) (low_reversed nodes acts (all_low nodes acts low))) in
    let forth : reversed (reverse acts) ++ [] ≡ acts = append-nil (reversed (reverse acts)) ∙ reversed_is (reverse acts) ∙ reverse-reverse acts in
    sym (back_is steps)
    ∙ ap back (is ∙ walks (reverse acts) [] (replicate nodes no_use) 0 Zero [] all (λ m l. none_noted nodes m (omega (arith, l, len))) refl refl ∙ ap (λ z. back (steps_of (used z))) forth)
    ∙ back_back (steps_of (used acts))
