-- Calls in bodies pass copies of structures, which are of the parameters' types where the call fits.
use Rattle.std.specs.Prelude.{◌≡◌, ◌⊎◌, ℕ, ◌+◌, ◌&&◌, nat_eq, Bool, true, false, Option, Some, None, IfSome, List, [], ◌∷◌, ◌++◌, length, slice_get, Result as Checked, Ok, Err, refl, if◌then◌else◌}
use Rattle.std.proofs.Common.{ap, sym, ◌∙◌, arith, subst, inl, inr}
use Rattle.std.proofs.lemmas.Bool.Decides.{nat_tests}
use Rattle.lcc_base.specs.declared.cause.Cause.{Cause}
use Rattle.objects.specs.declared.purpose.Purpose.TheVariants.{Initialisation}
use Rattle.objects.specs.declared.value.Value.{Value}
use Rattle.c_types.specs.CType.{CType, Plain, Array, Kind, Simple, Structure, Union, Enumeration, unqualified}
use Rattle.c_types.specs.CType as type
use Rattle.c_types.specs.Compatible.{compatible, kinds_compatible}
use Rattle.c_types.specs.Layout.{Tag, known, size_or_zero}
use Rattle.c_meaning.specs.Copies.{locals_from, all_copied, copied}
use Rattle.c_meaning.specs.CoreTrees.{NoCore, Cores, type_of, line_of}
use Rattle.c_meaning.specs.Each.{EachIs}
use Rattle.c_meaning.specs.Laws.{IsLocalOf}
use Rattle.c_meaning.specs.Rows.{result_type, parameters_type}
use Rattle.c_meaning.specs.Types.{is_record, is_record_kind}
use Rattle.c_meaning.specs.Units.{UnitTree, IsFunction}
use Rattle.c_meaning.specs.Values.{CoreTree, CoreTrees}
use Rattle.c_runs.specs.Worlds.{World, objects, with_objects}
use Rattle.c_runs.specs.Outcomes.{Out, Next, Break, Continue, Return, Goto, Over, then_next, How, Result, Gives, GivesNone, Ends, then_give, if_fine, either}
use Rattle.c_runs.specs.Places.{size_of, source, assigned}
use Rattle.c_runs.specs.Calls.{Argument, Setting, expected, arguments_fit, result_fits, is_open, own_parameters}
use Rattle.c_runs.specs.Expressions.{eval, parts_of, copied_to, arguments}
use Rattle.c_runs.specs.Statements.{Start, exec}
use Rattle.c_runs.specs.Run.{context}
use Rattle.c_runs.specs.Soundness.{IsSoundValue, IsSound, Keeps, Outline, outlines, IsObjectOf, AreLocalsOf, AreTame, IsTameFunction, IsTameUnit, IsSoundOut}
use Rattle.c_runs.specs.Locals.{body_start, IfOpen, IsPassed, AreCopies, IsPassedCall, made_call, Hands, FittingIsPassed, CheckedCallsHaveLocals, BodiesKeepLocals, CallsPassCopies, CopiesAreKept}
use Rattle.c_runs.proofs.Each.{each_append, each_get}
use Rattle.c_runs.proofs.SoundValues.{IfOk, Changed}
use Rattle.c_runs.proofs.Sound.{part, Sound, CallsSound, IsSoundArgument, arguments_more, assigned_sound, changed_world, eval_act, keeps_refl, keeps_trans}
use Rattle.c_runs.proofs.lemmas.SoundCalls.{call_sound, exec_sound}
use Rattle.c_runs.proofs.Tame.{units_are_tame}
use Rattle.c_runs.proofs.Locals.{bodies_start, entries_make_locals, entries_stay_sound, local_is_object, locals_are_kept}

-- ---- structures of compatible types are of one size

same_number : (tags : List Tag) (n m : ℕ) → nat_eq n m ≡ true → size_or_zero (known tags m).size ≡ size_or_zero (known tags n).size
same_number tags n m e = let h : n ≡ m = grind (arith, nat_tests) in ap (λ i. size_or_zero (known tags i).size) (sym h)

same_record : (tags : List Tag) (p q : ℕ) (a b : Kind) → is_record_kind a ≡ true → kinds_compatible a b ≡ true → (is_record_kind b ≡ true) × (size_of tags (Plain q b) ≡ size_of tags (Plain p a))
same_record tags p q (Structure n) (Structure m) h e = (refl, same_number tags n m e)
same_record tags p q (Union n) (Union m) h e = (refl, same_number tags n m e)
same_record tags p q (Structure n) (Simple b) h e = absurd (let never : ⊥ = cc in never)
same_record tags p q (Structure n) (type.Pointer to) h e = absurd (let never : ⊥ = cc in never)
same_record tags p q (Structure n) (type.Function result parameters) h e = absurd (let never : ⊥ = cc in never)
same_record tags p q (Structure n) (Union m) h e = absurd (let never : ⊥ = cc in never)
same_record tags p q (Structure n) (Enumeration m) h e = absurd (let never : ⊥ = cc in never)
same_record tags p q (Union n) (Simple b) h e = absurd (let never : ⊥ = cc in never)
same_record tags p q (Union n) (type.Pointer to) h e = absurd (let never : ⊥ = cc in never)
same_record tags p q (Union n) (type.Function result parameters) h e = absurd (let never : ⊥ = cc in never)
same_record tags p q (Union n) (Structure m) h e = absurd (let never : ⊥ = cc in never)
same_record tags p q (Union n) (Enumeration m) h e = absurd (let never : ⊥ = cc in never)
same_record tags p q (Simple b) c h e = absurd (let never : ⊥ = cc in never)
same_record tags p q (type.Pointer to) c h e = absurd (let never : ⊥ = cc in never)
same_record tags p q (type.Function result parameters) c h e = absurd (let never : ⊥ = cc in never)
same_record tags p q (Enumeration n) c h e = absurd (let never : ⊥ = cc in never)

same_unqualified : (tags : List Tag) (t u : CType) → is_record t ≡ true → compatible (unqualified t) (unqualified u) ≡ true → (is_record u ≡ true) × (size_of tags u ≡ size_of tags t)
same_unqualified tags (Plain p a) (Plain q b) h e = same_record tags p q a b h e
same_unqualified tags (Plain p a) (Array of n) h e = absurd (let never : ⊥ = cc in never)
same_unqualified tags (Array of n) u h e = absurd (let never : ⊥ = cc in never)

-- promotion leaves structures as they are
expected_same : (old : Bool) (t : CType) → is_record t ≡ true → expected old t ≡ unqualified t
expected_same false t h = refl
expected_same true (Plain q (Structure n)) h = refl
expected_same true (Plain q (Union n)) h = refl
expected_same true (Plain q (Simple b)) h = absurd (let never : ⊥ = cc in never)
expected_same true (Plain q (type.Pointer to)) h = absurd (let never : ⊥ = cc in never)
expected_same true (Plain q (type.Function result parameters)) h = absurd (let never : ⊥ = cc in never)
expected_same true (Plain q (Enumeration n)) h = absurd (let never : ⊥ = cc in never)
expected_same true (Array of n) h = absurd (let never : ⊥ = cc in never)

and_left : (a b : Bool) → (a && b) ≡ true → a ≡ true
and_left true b e = refl
and_left false b e = absurd (let never : ⊥ = cc in never)

and_right : (a b : Bool) → (a && b) ≡ true → b ≡ true
and_right true b e = e
and_right false b e = absurd (let never : ⊥ = cc in never)

passed_as : (tags : List Tag) (lives : List Outline) (old : Bool) (t u : CType) (v : Value) → compatible (expected old t) (unqualified u) ≡ true → IsPassed tags lives u v → IsPassed tags lives t v
passed_as tags lives old t u v e h r =
    let same = same_unqualified tags t u r (ap (λ x. compatible x (unqualified u)) (sym (expected_same old t r)) ∙ e) in
    subst (λ n. IsObjectOf lives n v) same.1 (h same.0)

pub fitting_is_passed : FittingIsPassed
fitting_is_passed tags lives old [] xs e h = tt
fitting_is_passed tags lives old (t ∷ ts) [] e h = tt
fitting_is_passed tags lives old (t ∷ ts) (a ∷ xs) e h = (
  passed_as tags lives old t a.of a.value (and_left (compatible (expected old t) (unqualified a.of)) (arguments_fit old ts xs) e) h.0,
  fitting_is_passed tags lives old ts xs (and_right (compatible (expected old t) (unqualified a.of)) (arguments_fit old ts xs) e) h.1,
)

-- ---- a checked call's start

both_open : (P Q : World → Type 0) (o : Out) → IfOpen o P → IfOpen o Q → IfOpen o (λ w. P w × Q w)
both_open P Q (Next k w) h g = (h, g)
both_open P Q (Break k w) h g = (h, g)
both_open P Q (Continue k w) h g = (h, g)
both_open P Q (Return v line k w) h g = (h, g)
both_open P Q (Goto l k w) h g = (h, g)
both_open P Q (Over how w) h g = tt

pub checked_calls_have_locals : CheckedCallsHaveLocals
checked_calls_have_locals u order f a k h e c =
    both_open (IsSound u) (AreLocalsOf u.tags f.locals) (body_start u order f a.function a.arguments k a.world)
    (entries_stay_sound u order f a.function a.arguments k a.world c.world c.values)
    (entries_make_locals u order f a.function a.arguments k a.world h.parameters
    (fitting_is_passed u.tags (outlines (objects a.world)) (is_open (parameters_type f.of)) (own_parameters f) a.arguments
    (and_right (result_fits (result_type f.of) a.of) (arguments_fit (is_open (parameters_type f.of)) (own_parameters f) a.arguments) e) c.copies))

-- the body behind it
abbrev IsIn : UnitTree → List CType → World → Type 0
IsIn u locals w = IsSound u w × AreLocalsOf u.tags locals w

stays_in : (u : UnitTree) (locals : List CType) (old : World) (o : Out) → AreLocalsOf u.tags locals old → IsSoundOut u old o → IfOpen o (IsIn u locals)
stays_in u locals old (Next k w) l h = (h.0, locals_are_kept u.tags locals old w h.1 l)
stays_in u locals old (Break k w) l h = (h.0, locals_are_kept u.tags locals old w h.1 l)
stays_in u locals old (Continue k w) l h = (h.0, locals_are_kept u.tags locals old w h.1 l)
stays_in u locals old (Return v line k w) l h = (h.1.0, locals_are_kept u.tags locals old w h.1.1 l)
stays_in u locals old (Goto l1 k w) l h = (h.0, locals_are_kept u.tags locals old w h.1 l)
stays_in u locals old (Over how w) l h = tt

then_in : (u : UnitTree) (locals : List CType) (o : Out) (go : ℕ → World → Out) → IfOpen o (IsIn u locals) → ((k : ℕ) (w : World) → IsSound u w → IsSoundOut u w (go k w)) → IfOpen (then_next o go) (IsIn u locals)
then_in u locals (Next k w) go h g = stays_in u locals w (go k w) h.1 (g k w h.0)
then_in u locals (Break k w) go h g = h
then_in u locals (Continue k w) go h g = h
then_in u locals (Return v line k w) go h g = h
then_in u locals (Goto l k w) go h g = h
then_in u locals (Over how w) go h g = tt

some_of : {A : Type 0} (P : A → Type 0) (o : Option A) (a : A) → o ≡ Some a → IfSome o P → P a
some_of P o a e h = let g : IfSome (Some a) P = subst (λ x. IfSome x P) e h in g

pub bodies_keep_locals : BodiesKeepLocals
unfolding context
bodies_keep_locals u order f a k h e fit c =
    let s : Setting = context u order in
    let t : IsTameUnit u = units_are_tame u h in
    let checked : IsFunction u f = some_of (IsFunction u) (slice_get u.functions a.function) f e (each_get (IsFunction u) u.functions a.function h.functions) in
    let tame : IsTameFunction f = some_of IsTameFunction (slice_get u.functions a.function) f e (each_get IsTameFunction u.functions a.function t.functions) in
    subst (λ o. IfOpen o (IsIn u f.locals)) (sym (bodies_start s f a.function a.arguments k a.world))
    (then_in u f.locals (body_start u order f a.function a.arguments k a.world) (λ k1 w1. exec s f.body Start k1 w1) (checked_calls_have_locals u order f a k checked fit c) (λ k1 w1 q. exec_sound u order f.body Start k1 w1 t tame q))

-- ---- arguments

abbrev Goes : Type 0
Goes = ℕ → List Argument → ℕ → World → Result

-- arguments in a world that comes of another one
record Arrives (u : UnitTree) (old : World) (xs : List Argument) (w : World) : Type 0 where
  world : IsSound u w
  keeps : Keeps old w
  values : EachIs (IsSoundArgument w.storage.made) xs
  copies : AreCopies u.tags (outlines (objects w)) xs

-- the run ends before they are there, or something is done with them and the place behind the last copy
abbrev Comes : UnitTree → World → ℕ → (Goes → Result) → Type 0
Comes u old m act =
    ((how : How) × (w : World) × ((go : Goes) → act go ≡ Ends how w))
    ⊎ ((xs : List Argument) × (k : ℕ) × (w : World) × ((go : Goes) → act go ≡ go m xs k w) × Arrives u old xs w)

pub copies_are_kept : CopiesAreKept
copies_are_kept tags xs old w h g = subst (λ ls. AreCopies tags ls xs) (sym h.lives) g

arrives_on : (u : UnitTree) (old w x : World) (xs : List Argument) → Arrives u old xs w → IsSound u x → Keeps w x → Arrives u old xs x
arrives_on u old w x xs h s e = record { world = s; keeps = keeps_trans old w x h.keeps e; values = arguments_more w.storage.made x.storage.made xs e.made h.values; copies = copies_are_kept u.tags xs w x e h.copies }

arrives_then : (u : UnitTree) (old w : World) (xs : List Argument) (x : Argument) → Arrives u old xs w → IsSoundValue w.storage.made x.value → IsPassed u.tags (outlines (objects w)) x.of x.value → Arrives u old (xs ++ x ∷ []) w
arrives_then u old w xs x h v c = record {
  world = h.world;
  keeps = h.keeps;
  values = each_append (IsSoundArgument w.storage.made) xs (x ∷ []) h.values (v, tt);
  copies = each_append (λ (a : Argument). IsPassed u.tags (outlines (objects w)) a.of a.value) xs (x ∷ []) h.copies (c, tt);
}

unqualified_size : (tags : List Tag) (t : CType) → size_of tags (unqualified t) ≡ size_of tags t
unqualified_size tags (Plain q k) = refl
unqualified_size tags (Array of n) = refl

given_comes : (u : UnitTree) (old w : World) (m : ℕ) (r : Result) (act : Goes → Value → ℕ → World → Result) → Sound u w r → ((v : Value) (k : ℕ) (x : World) → IsSoundValue x.storage.made v → IsSound u x → Keeps w x → Comes u old m (λ go. act go v k x)) → Comes u old m (λ go. then_give r (act go))
given_comes u old w m (Gives v k x) act s g = g v k x s.by.0 s.by.1.0 s.by.1.1
given_comes u old w m (GivesNone line k x) act s g = inl (_, x, λ go. refl)
given_comes u old w m (Ends how x) act s g = inl (how, x, λ go. refl)

fine_comes : {A : Type 0} (u : UnitTree) (old : World) (m : ℕ) (P : A → Type 0) (c : Checked A Cause) (line : ℕ) (w : World) (act : Goes → A → Result) → IfOk P c → ((a : A) → P a → Comes u old m (λ go. act go a)) → Comes u old m (λ go. if_fine c line w (act go))
fine_comes u old m P (Ok a) line w act h g = g a h
fine_comes u old m P (Err cause) line w act h g = inl (_, w, λ go. refl)

any_fine : {A : Type 0} (c : Checked A Cause) → IfOk (λ a. Unit {0}) c
any_fine (Ok a) = tt
any_fine (Err cause) = tt

abbrev argument_of : CoreTree → Value → Argument
argument_of a v = record { value = v; of = type_of a; line = line_of a }

abbrev RestComes : Setting → List CType → CoreTrees → Type 0
RestComes s locals cs =
    (n : ℕ) → EachIs (IsLocalOf locals) (locals_from n (all_copied cs)) → (done : List Argument) (k : ℕ) (old w : World) → Arrives s.unit old done w → AreLocalsOf s.unit.tags locals w
    → Comes s.unit old (n + length (all_copied cs)) (λ go. arguments s n (parts_of s cs) done k w go)

copy_comes : (s : Setting) (locals : List CType) (a : CoreTree) (cs : CoreTrees) → RestComes s locals cs → (n : ℕ) → slice_get locals n ≡ Some (unqualified (type_of a)) → EachIs (IsLocalOf locals) (locals_from (n + 1) (all_copied cs)) → (done : List Argument) (v : Value) (k : ℕ) (old w : World) → Arrives s.unit old done w → AreLocalsOf s.unit.tags locals w
    → Comes s.unit old (n + 1 + length (all_copied cs)) (λ go. copied_to s (slice_get w.locals n) (part a (λ k1 w1. eval s a k1 w1)) v k w (λ x k1 w1. arguments s (n + 1) (parts_of s cs) (done ++ x ∷ []) k1 w1 go))
copy_comes s locals a cs rest n e h done v k old w d l =
    let tags : List Tag = s.unit.tags in
    let of : CType = type_of a in
    let m : ℕ = n + 1 + length (all_copied cs) in
    let local = local_is_object tags locals w n (unqualified of) l e in
    let x : Argument = argument_of a local.0 in
    let there : Arrives s.unit old (done ++ x ∷ []) w = arrives_then s.unit old w done x d
    (some_of (IsSoundValue w.storage.made) (slice_get w.locals n) local.0 local.1 (each_get (IsSoundValue w.storage.made) w.locals n d.world.locals))
    (λ r. subst (λ size. IsObjectOf (outlines (objects w)) size local.0) (unqualified_size tags of) local.2) in
    subst (λ (o : Option Value). Comes s.unit old m (λ go. copied_to s o (part a (λ k1 w1. eval s a k1 w1)) v k w (λ y k1 w1. arguments s (n + 1) (parts_of s cs) (done ++ y ∷ []) k1 w1 go))) (sym local.1)
    (fine_comes s.unit old m (λ y. Unit {0}) (source tags of (objects w) v) (line_of a) w _ (any_fine (source tags of (objects w) v))
    (λ from i. fine_comes s.unit old m (Changed w.storage.made (objects w)) (assigned Initialisation tags of (objects w) from local.0) (line_of a) w _ (assigned_sound w.storage.made Initialisation tags of (objects w) from local.0 d.world.objects)
    (λ os c. let z = changed_world s.unit w os d.world c in
    rest (n + 1) h (done ++ x ∷ []) k old (with_objects w os) (arrives_on s.unit old w (with_objects w os) (done ++ x ∷ []) there z.0 z.1) (locals_are_kept tags locals w (with_objects w os) z.1 l))))

abbrev copied_if : Bool → CType → List CType
copied_if b t = if b then unqualified t ∷ [] else []

one_comes : (s : Setting) (locals : List CType) (a : CoreTree) (cs : CoreTrees) → RestComes s locals cs → (n : ℕ) (b : Bool) → is_record (type_of a) ≡ b → EachIs (IsLocalOf locals) (locals_from n (copied_if b (type_of a) ++ all_copied cs)) → (done : List Argument) (v : Value) (k : ℕ) (old w : World) → IsSoundValue w.storage.made v → Arrives s.unit old done w → AreLocalsOf s.unit.tags locals w
    → Comes s.unit old (n + length (copied_if b (type_of a) ++ all_copied cs))
    (λ go. either b (λ k1 w1. copied_to s (slice_get w1.locals n) (part a (λ k2 w2. eval s a k2 w2)) v k1 w1 (λ x k2 w2. arguments s (n + 1) (parts_of s cs) (done ++ x ∷ []) k2 w2 go)) (λ k1 w1. arguments s n (parts_of s cs) (done ++ argument_of a v ∷ []) k1 w1 go) k w)
one_comes s locals a cs rest n false e h done v k old w g d l = rest n h (done ++ argument_of a v ∷ []) k old w (arrives_then s.unit old w done (argument_of a v) d g (λ r. absurd (let never : ⊥ = cc in never))) l
one_comes s locals a cs rest n true e h done v k old w g d l =
    subst (λ m. Comes s.unit old m (λ go. copied_to s (slice_get w.locals n) (part a (λ k1 w1. eval s a k1 w1)) v k w (λ x k1 w1. arguments s (n + 1) (parts_of s cs) (done ++ x ∷ []) k1 w1 go))) (omega arith)
    (copy_comes s locals a cs rest n h.0 h.1 done v k old w d l)

arguments_come : (s : Setting) → CallsSound s.unit s.calls → (locals : List CType) (cs : CoreTrees) → AreTame cs → RestComes s locals cs
arguments_come s C locals NoCore t n h done k old w d l = inr (done, k, w, (λ go. ap (λ m. go m done k w) (omega arith)), d)
arguments_come s C locals (Cores a cs) t n h done k old w d l =
    given_comes s.unit old w (n + length (all_copied (Cores a cs))) (eval s a k w) _ ((eval_act s C a t.0).by k w (omega arith) d.world)
    (λ v k1 w1 g q e. one_comes s locals a cs (arguments_come s C locals cs t.1) n (is_record (type_of a)) refl h done v k1 old w1 g (arrives_on s.unit old w w1 done d q e) (locals_are_kept s.unit.tags locals w w1 e l))

-- ---- calls

each_split : {A : Type 0} (P : A → Type 0) (xs ys : List A) → EachIs P (xs ++ ys) → EachIs P xs × EachIs P ys
each_split P [] ys h = (tt, h)
each_split P (x ∷ xs) ys h = let r = each_split P xs ys h.1 in ((h.0, r.0), r.1)

locals_append : (n : ℕ) (ts us : List CType) → locals_from n (ts ++ us) ≡ locals_from n ts ++ locals_from (n + length ts) us
locals_append n [] us = ap (λ m. locals_from m us) (omega arith)
locals_append n (t ∷ ts) us = ap (λ ls. record { place = n; of = t } ∷ ls) (locals_append (n + 1) ts us ∙ ap (λ m. locals_from (n + 1) ts ++ locals_from m us) (omega arith))

-- the place of a structure result is the local behind the arguments' copies
result_passed : (tags : List Tag) (locals : List CType) (of : CType) (b : Bool) → is_record of ≡ b → (n : ℕ) (w : World) → EachIs (IsLocalOf locals) (locals_from n (copied_if b of)) → AreLocalsOf tags locals w → is_record of ≡ true → (v : Value) × ((if b then slice_get w.locals n else None) ≡ Some v) × IsObjectOf (outlines (objects w)) (size_of tags of) v
result_passed tags locals of false e n w h l r = absurd (let never : ⊥ = cc in never)
result_passed tags locals of true e n w h l r =
    let local = local_is_object tags locals w n (unqualified of) l h.0 in
    (local.0, local.1, subst (λ size. IsObjectOf (outlines (objects w)) size local.0) (unqualified_size tags of) local.2)

handed_on : (s : Setting) (locals : List CType) (of : CType) (line m : ℕ) (old : World) (act : Goes → Result) → EachIs (IsLocalOf locals) (locals_from m (copied of)) → AreLocalsOf s.unit.tags locals old → Comes s.unit old m act → Hands act (λ n xs w. ((f : ℕ) → IsPassedCall s.unit (made_call of line n xs w f)) × Keeps old w)
handed_on s locals of line m old act h l (inl x) = inl x
handed_on s locals of line m old act h l (inr x) =
    let w : World = x.2 in
    let d = x.4 in
    inr (
      m,
      x.0,
      x.1,
      w,
      x.3,
      (
        (λ f. record { world = d.world; values = d.values; copies = d.copies; result = result_passed s.unit.tags locals of (is_record of) refl m w h (locals_are_kept s.unit.tags locals old w d.keeps l) }),
        d.keeps,
      ),
    )

pub calls_pass_copies : CallsPassCopies
unfolding context
calls_pass_copies u order locals copies of line cs k w t tcs h q l =
    let s : Setting = context u order in
    let C : CallsSound s.unit s.calls = call_sound u order t in
    let both = each_split (IsLocalOf locals) (locals_from copies (all_copied cs)) (locals_from (copies + length (all_copied cs)) (copied of)) (subst (λ ls. EachIs (IsLocalOf locals) ls) (locals_append copies (all_copied cs) (copied of)) h) in
    handed_on s locals of line (copies + length (all_copied cs)) w (λ go. arguments s copies (parts_of s cs) [] k w go) both.1 l
    (arguments_come s C locals cs tcs copies both.0 [] k w w (record { world = q; keeps = keeps_refl w; values = tt; copies = tt }) l)
