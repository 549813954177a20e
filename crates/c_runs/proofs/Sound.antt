-- Expressions keep worlds sound.
use Rattle.std.specs.Prelude.{◌≡◌, ◌≤◌, ◌<◌, ◌^◌, ◌%◌, ℕ, ◌+◌, zero, suc, pos, Bool, true, false, Option, Some, None, IfSome, List, [], ◌∷◌, ◌++◌, length, slice_get, Result as Checked, Ok, Err, refl, if◌then◌else◌}
use Rattle.std.proofs.Common.{◌∙◌, arith}
use Rattle.std.proofs.lemmas.Nat.{mod_below}
use Rattle.lcc_base.specs.declared.cause.Cause.{Cause}
use Rattle.lcc_base.specs.declared.cause.Cause.TheVariants.{PointerNumber}
use Rattle.lcc_base.specs.declared.order.Order.{Order}
use Rattle.lcc_base.specs.Traces.{Event, Wrote}
use Rattle.objects.specs.declared.purpose.Purpose.{Purpose}
use Rattle.objects.specs.declared.purpose.Purpose.TheVariants.{Assignment, Initialisation}
use Rattle.objects.specs.declared.value.Value.{Value}
use Rattle.objects.specs.declared.value.Value.TheVariants.{Number, Pointer, Function}
use Rattle.objects.specs.Objects.{Object}
use Rattle.objects.specs.Accesses.{read, written, field_read, field_written, read_cause, number_or_zero}
use Rattle.objects.specs.Arithmetic.{unary_value, binary_value, comparison_value}
use Rattle.objects.specs.Causes.{first_cause, is_no_number}
use Rattle.objects.specs.Conversions.{as_type, converted, extended}
use Rattle.objects.specs.Pointers.{moved, subtracted}
use Rattle.c_types.specs.CType.{CType}
use Rattle.c_types.specs.Layout.{Tag}
use Rattle.c_meaning.specs.declared.built_in.BuiltIn.{BuiltIn}
use Rattle.c_meaning.specs.declared.built_in.BuiltIn.TheVariants.{Putchar, Getchar, Exit}
use Rattle.c_meaning.specs.declared.core_expr.Change.{Change}
use Rattle.c_meaning.specs.declared.core_expr.Change.TheVariants as change
use Rattle.c_meaning.specs.declared.core_expr.CoreKind.TheVariants as kind
use Rattle.c_meaning.specs.declared.core_expr.Conversion.TheVariants as to
use Rattle.objects.specs.declared.operators.Comparison.{Comparison}
use Rattle.c_meaning.specs.CoreTrees.{Core, NoCore, Cores, type_of, line_of}
use Rattle.c_meaning.specs.Scalars.{scalar_of, is_signed}
use Rattle.c_meaning.specs.Types.{is_pointer, is_record}
use Rattle.c_meaning.specs.Each.{EachIs}
use Rattle.c_meaning.specs.Units.{FunctionTree, ObjectTree, UnitTree}
use Rattle.c_meaning.specs.Values.{CoreTree, CoreTrees}
use Rattle.c_runs.specs.Worlds.{World, objects, with_objects, with_event}
use Rattle.c_runs.specs.Outcomes.{Result, Gives, GivesNone, Ends, undefined, then_give, then_drop, if_fine, gives, stores, tells, truth, mapped, either, branch, is_true, spend}
use Rattle.c_runs.specs.Places.{Spot, spot_of, is_field, field_of, held, stored, kept, source, assigned, place_of_object, place_of_text, size_of, align_of}
use Rattle.c_runs.specs.Calls.{Argument, Call, Setting, number_of, get_character, fits, built_in_fits, provided, with_number, called_by, call_value, function_at, built_in_at}
use Rattle.c_runs.specs.Expressions.{Part, eval, parts_of, place, asked, holds, of_two, changed, changed_at, changing, assignment, comma_from, copied_to, arguments, compared_by, pointers_compared, moved_among, moved_by, by_elements, index, result_place, calling, new_value, old_value}
use Rattle.c_meaning.specs.Numbers.{IsByte}
use Rattle.c_runs.specs.Soundness.{IsSoundValue, IsSoundObject, IsSoundEvent, IsSound, IsSoundResult, Keeps, IsTame, AreTame}
use Rattle.c_runs.proofs.Each.{each_get, each_append, each_of}
use Rattle.c_runs.proofs.Words.{extended_below}
use Rattle.c_runs.proofs.SoundValues.{IfOk, Changed, if_none_ok, mapped_ok, if_ok, value_more, truth_sound, typed_sound, converted_sound, unary_sound, binary_sound, moved_sound, subtracted_sound, read_sound, field_sound, written_sound, field_written_sound, copied_sound}

-- from a sound world on
pub record Sound (u : UnitTree) (old : World) (r : Result) : Type 0 where
  pub by : IsSoundResult u old r

-- from every sound world on in which so many objects were made
pub record SoundAct (u : UnitTree) (m : ℕ) (act : ℕ → World → Result) : Type 0 where
  pub by : (k : ℕ) (w : World) → m ≤ w.storage.made → IsSound u w → Sound u w (act k w)

pub keeps_refl : (w : World) → Keeps w w
keeps_refl w = record { made = omega arith; lives = refl; locals = refl }

pub keeps_trans : (a b c : World) → Keeps a b → Keeps b c → Keeps a c
keeps_trans a b c h g = record { made = (let x = h.made in let y = g.made in omega (arith, x, y)); lives = g.lives ∙ h.lives; locals = g.locals ∙ h.locals }

pub further : (u : UnitTree) (old w : World) (r : Result) → Keeps old w → Sound u w r → Sound u old r
further u old w (Gives v k x) h s = record { by = (s.by.0, (s.by.1.0, keeps_trans old w x h s.by.1.1)) }
further u old w (GivesNone line k x) h s = record { by = (s.by.0, keeps_trans old w x h s.by.1) }
further u old w (Ends how x) h s = record { by = s.by }

pub act_more : (u : UnitTree) (m n : ℕ) (act : ℕ → World → Result) → m ≤ n → SoundAct u m act → SoundAct u n act
act_more u m n act l a = record { by = λ k w b s. a.by k w (omega (arith, l, b)) s }

-- ---- combinators

given : (u : UnitTree) (m : ℕ) (old : World) (r : Result) (go : Value → ℕ → World → Result) → m ≤ old.storage.made → Sound u old r → ((n : ℕ) (v : Value) → m ≤ n → IsSoundValue n v → SoundAct u n (go v)) → Sound u old (then_give r go)
given u m old (Gives v k w) go l s g = further u old w (go v k w) s.by.1.1 ((g w.storage.made v (let a = s.by.1.1.made in omega (arith, l, a)) s.by.0).by k w (omega arith) s.by.1.0)
given u m old (GivesNone line k w) go l s g = record { by = (tt, s.by.0) }
given u m old (Ends how w) go l s g = record { by = s.by }

pub give_act : (u : UnitTree) (m : ℕ) (act : ℕ → World → Result) (go : Value → ℕ → World → Result) → SoundAct u m act → ((n : ℕ) (v : Value) → m ≤ n → IsSoundValue n v → SoundAct u n (go v)) → SoundAct u m (λ k w. then_give (act k w) go)
give_act u m act go a g = record { by = λ k w l s. given u m w (act k w) go l (a.by k w l s) g }

drops : (u : UnitTree) (m : ℕ) (old : World) (r : Result) (go : ℕ → World → Result) → m ≤ old.storage.made → Sound u old r → SoundAct u m go → Sound u old (then_drop r go)
drops u m old (Gives v k w) go l s g = further u old w (go k w) s.by.1.1 (g.by k w (let a = s.by.1.1.made in omega (arith, l, a)) s.by.1.0)
drops u m old (GivesNone line k w) go l s g = further u old w (go k w) s.by.1 (g.by k w (let a = s.by.1.made in omega (arith, l, a)) s.by.0)
drops u m old (Ends how w) go l s g = record { by = s.by }

pub drop_act : (u : UnitTree) (m : ℕ) (act : ℕ → World → Result) (go : ℕ → World → Result) → SoundAct u m act → SoundAct u m go → SoundAct u m (λ k w. then_drop (act k w) go)
drop_act u m act go a g = record { by = λ k w l s. drops u m w (act k w) go l (a.by k w l s) g }

either_one : (u : UnitTree) (b : Bool) (go other : ℕ → World → Result) (k : ℕ) (old w : World) → Sound u old (go k w) → Sound u old (other k w) → Sound u old (either b go other k w)
either_one u true go other k old w a c = a
either_one u false go other k old w a c = c

either_act : (u : UnitTree) (m : ℕ) (b : Bool) (go other : ℕ → World → Result) → SoundAct u m go → SoundAct u m other → SoundAct u m (λ k w. either b go other k w)
either_act u m b go other a c = record { by = λ k w l s. either_one u b go other k w w (a.by k w l s) (c.by k w l s) }

branch_act : (u : UnitTree) (m : ℕ) (v : Value) (go other : ℕ → World → Result) → SoundAct u m go → SoundAct u m other → SoundAct u m (λ k w. branch v go other k w)
branch_act u m v go other a c = either_act u m (is_true v) go other a c

pub fine_one : {A : Type 0} (u : UnitTree) (P : A → Type 0) (c : Checked A Cause) (line : ℕ) (old w : World) (go : A → Result) → IsSound u w → IfOk P c → ((a : A) → P a → Sound u old (go a)) → Sound u old (if_fine c line w go)
fine_one u P (Ok a) line old w go s h g = g a h
fine_one u P (Err cause) line old w go s h g = record { by = (tt, s) }

value_act : (u : UnitTree) (m : ℕ) (v : Value) → IsSoundValue m v → SoundAct u m (λ k w. Gives v k w)
value_act u m v h = record { by = λ k w l s. record { by = (value_more m w.storage.made v l h, (s, keeps_refl w)) } }

pub gives_act : (u : UnitTree) (m : ℕ) (c : List Object → Checked Value Cause) (line : ℕ) → ((n : ℕ) (os : List Object) → m ≤ n → EachIs (IsSoundObject n) os → IfOk (IsSoundValue n) (c os)) → SoundAct u m (λ k w. gives (c (objects w)) line k w)
gives_act u m c line h = record { by = λ k w l s. fine_one u (IsSoundValue w.storage.made) (c (objects w)) line w w (λ v. Gives v k w) s (h w.storage.made (objects w) l s.objects) (λ v g. record { by = (g, (s, keeps_refl w)) }) }

any_ok : {A : Type 0} (c : Checked A Cause) → IfOk (λ a. Unit {0}) c
any_ok (Ok a) = tt
any_ok (Err cause) = tt

tells_act : (u : UnitTree) (m : ℕ) (c : List Object → Checked Bool Cause) (line : ℕ) → SoundAct u m (λ k w. tells (c (objects w)) line k w)
tells_act u m c line = record { by = λ k w l s. fine_one u (λ b. Unit {0}) (c (objects w)) line w w (λ b. Gives (truth b) k w) s (any_ok (c (objects w))) (λ b g. record { by = (truth_sound w.storage.made b, (s, keeps_refl w)) }) }

-- other objects
pub changed_world : (u : UnitTree) (w : World) (os : List Object) → IsSound u w → Changed w.storage.made (objects w) os → IsSound u (with_objects w os) × Keeps w (with_objects w os)
changed_world u w os s h = (record { own = s.own; others = s.others; live = h.1 ∙ s.live; objects = h.0; locals = s.locals; input = s.input; trace = s.trace }, record { made = omega arith; lives = h.1; locals = refl })

pub stores_act : (u : UnitTree) (m : ℕ) (c : List Object → Checked (List Object) Cause) (v : Value) (line : ℕ) → ((n : ℕ) (os : List Object) → m ≤ n → EachIs (IsSoundObject n) os → IfOk (Changed n os) (c os)) → IsSoundValue m v → SoundAct u m (λ k w. stores (c (objects w)) v line k w)
stores_act u m c v line h g = record {
  by = λ k w l s. fine_one u (Changed w.storage.made (objects w)) (c (objects w)) line w w (λ os. Gives v k (with_objects w os)) s (h w.storage.made (objects w) l s.objects)
      (λ os x. record { by = (value_more m w.storage.made v l g, changed_world u w os s x) });
}

none_act : (u : UnitTree) (m line : ℕ) → SoundAct u m (λ k w. GivesNone line k w)
none_act u m line = record { by = λ k w l s. record { by = (s, keeps_refl w) } }

undefined_act : (u : UnitTree) (m : ℕ) (cause : Cause) (line : ℕ) → SoundAct u m (λ k w. undefined cause line w)
undefined_act u m cause line = record { by = λ k w l s. record { by = (tt, s) } }

-- ---- places

place_one : (u : UnitTree) (p : Option Value) (line k : ℕ) (w : World) → IsSound u w → IfSome p (IsSoundValue w.storage.made) → Sound u w (place p line k w)
place_one u None line k w s h = record { by = (tt, s) }
place_one u (Some p) line k w s h = record { by = (h, (s, keeps_refl w)) }

get_below : {A : Type 0} (xs : List A) (n : ℕ) (x : A) → slice_get xs n ≡ Some x → n < length xs
get_below [] n x e = absurd (let never : ⊥ = cc in never)
get_below (y ∷ ys) zero x e = omega arith
get_below (y ∷ ys) (suc n) x e = let l = get_below ys n x e in omega (arith, l)

object_place : (u : UnitTree) (m n : ℕ) (o : Option ObjectTree) → length u.objects + length u.texts ≤ m → slice_get u.objects n ≡ o → IfSome (place_of_object u n o) (IsSoundValue m)
object_place u m n None l e = tt
object_place u m n (Some o) l e = let b = get_below u.objects n o e in (omega (arith, l, b), omega arith)

text_place : (u : UnitTree) (m n : ℕ) (o : Option (List ℕ)) → length u.objects + length u.texts ≤ m → slice_get u.texts n ≡ o → IfSome (place_of_text u n o) (IsSoundValue m)
text_place u m n None l e = tt
text_place u m n (Some o) l e = let b = get_below u.texts n o e in (omega (arith, l, b), omega arith)

local_act : (u : UnitTree) (n line : ℕ) → SoundAct u 0 (λ k w. place (slice_get w.locals n) line k w)
local_act u n line = record { by = λ k w l s. place_one u (slice_get w.locals n) line k w s (each_get (IsSoundValue w.storage.made) w.locals n s.locals) }

object_act : (u : UnitTree) (n line : ℕ) → SoundAct u 0 (λ k w. place (place_of_object u n (slice_get u.objects n)) line k w)
object_act u n line = record { by = λ k w l s. place_one u (place_of_object u n (slice_get u.objects n)) line k w s (object_place u w.storage.made n (slice_get u.objects n) s.own refl) }

text_act : (u : UnitTree) (n line : ℕ) → SoundAct u 0 (λ k w. place (place_of_text u n (slice_get u.texts n)) line k w)
text_act u n line = record { by = λ k w l s. place_one u (place_of_text u n (slice_get u.texts n)) line k w s (text_place u w.storage.made n (slice_get u.texts n) s.own refl) }

-- ---- what stands at a place

pub held_sound : (n : ℕ) (order : Order) (x : Spot) (os : List Object) (p : Value) → x.width ≤ 32 → EachIs (IsSoundObject n) os → IfOk (IsSoundValue n) (held order x os p)
held_sound n order x os p b h = if_ok (IsSoundValue n) (is_field x) (field_read order (field_of x) os p) (read order (scalar_of x.of) os p) (field_sound n order (field_of x) os p b) (read_sound n order (scalar_of x.of) os p h)

pub stored_spot : (n : ℕ) (purpose : Purpose) (order : Order) (x : Spot) (v : Value) (os : List Object) (p : Value) → EachIs (IsSoundObject n) os → IsSoundValue n v → IfOk (Changed n os) (stored purpose order x v os p)
stored_spot n purpose order x v os p h g = if_ok (Changed n os) (is_field x) (field_written purpose order (field_of x) v os p) (written purpose order (scalar_of x.of).width v os p) (field_written_sound n purpose order (field_of x) v os p h) (written_sound n purpose order (scalar_of x.of).width v os p h g)

kept_by : (n : ℕ) (b : Bool) (x : Spot) (v : Value) → x.width ≤ 32 → IsSoundValue n v → IsSoundValue n (if b then Number (extended (is_signed x.of) x.width (number_or_zero v)) else v)
kept_by n true x v b h = extended_below (is_signed x.of) x.width (number_or_zero v) b
kept_by n false x v b h = h

kept_sound : (n : ℕ) (x : Spot) (v : Value) → x.width ≤ 32 → IsSoundValue n v → IsSoundValue n (kept x v)
kept_sound n x v b h = kept_by n (is_field x) x v b h

pub spot_small : (c : CoreTree) → IsTame c → (spot_of c).width ≤ 32
spot_small (Core (kind.Member offset first width) of line kids) h = let a = h.0 in omega (arith, a)
spot_small (Core what of line kids) h = omega arith

pub source_sound : (n : ℕ) (tags : List Tag) (of : CType) (os : List Object) (p : Value) → IsSoundValue n p → IfOk (IsSoundValue n) (source tags of os p)
source_sound n tags of os p h = if_none_ok (IsSoundValue n) (read_cause os p (size_of tags of) (align_of tags of)) (Ok p) h

pub assigned_sound : (n : ℕ) (purpose : Purpose) (tags : List Tag) (of : CType) (os : List Object) (from to : Value) → EachIs (IsSoundObject n) os → IfOk (Changed n os) (assigned purpose tags of os from to)
assigned_sound n purpose tags of os from to h = copied_sound n purpose os from to (size_of tags of) (align_of tags of) h

-- ---- tests and changes

abbrev pub part : CoreTree → (ℕ → World → Result) → Part
part c act = record { tree = c; does = act }

pub asked_act : (u : UnitTree) (m : ℕ) (c : CoreTree) (act : ℕ → World → Result) (line : ℕ) → SoundAct u m act → SoundAct u m (λ k w. asked (part c act) line k w)
asked_act u m c act line a = give_act u m act _ a (λ n v l s. tells_act u n (λ os. holds (type_of c) os v) line)

abbrev Computes : (List Object → Value → Value → Checked Value Cause) → Type 0
Computes f = (n : ℕ) (os : List Object) (v x : Value) → EachIs (IsSoundObject n) os → IsSoundValue n v → IsSoundValue n x → IfOk (IsSoundValue n) (f os v x)

two_act : (u : UnitTree) (a b : CoreTree) (act act2 : ℕ → World → Result) (line : ℕ) (f : List Object → Value → Value → Checked Value Cause) → Computes f → SoundAct u 0 act → SoundAct u 0 act2 → SoundAct u 0 (λ k w. of_two (part a act) (part b act2) line f k w)
two_act u a b act act2 line f h i j =
    give_act u 0 act _ i (λ n v l s. give_act u n act2 _ (act_more u 0 n act2 l j) (λ n2 x l2 s2. gives_act u n2 (λ os. f os v x) line (λ n3 os l3 s3. h n3 os v x s3 (value_more n n3 v (omega (arith, l2, l3)) s) (value_more n2 n3 x l3 s2))))

truth_ok : (n : ℕ) (c : Checked Bool Cause) → IfOk (IsSoundValue n) (mapped truth c)
truth_ok n (Ok b) = truth_sound n b
truth_ok n (Err cause) = tt

compared_sound : (t : CType) (signed : Bool) (op : Comparison) → Computes (λ os v x. compared_by t signed op os v x)
compared_sound t signed op n os v x h i j = truth_ok n (if is_pointer t then pointers_compared op os v x else comparison_value signed op v x)

moved_by_sound : (n size : ℕ) (back : Bool) (t : CType) (os : List Object) (p i : Value) → IsSoundValue n p → IfOk (IsSoundValue n) (moved_by size back t os p i)
moved_by_sound n size back t os p i h = if_none_ok (IsSoundValue n) (first_cause ((is_no_number i, PointerNumber) ∷ [])) (moved os p (by_elements size back (index t i))) (moved_sound n os p (by_elements size back (index t i)) h)

moved_among_sound : (size : ℕ) (back : Bool) (t u : CType) → Computes (λ os v x. moved_among size back t u os v x)
moved_among_sound size back t u n os v x h i j = if_ok (IsSoundValue n) (is_pointer t) (moved_by size back u os v x) (moved_by size back t os x v) (moved_by_sound n size back u os v x i) (moved_by_sound n size back t os x v j)

changed_sound : (n : ℕ) (by : Change) (x : Spot) (t : CType) (os : List Object) (old v : Value) → IsSoundValue n old → IsSoundValue n v → IfOk (IsSoundValue n) (changed by x t os old v)
changed_sound n (change.Arithmetic op signed) x t os old v h g = mapped_ok (IsSoundValue n) (IsSoundValue n) (as_type (scalar_of x.of)) (binary_value signed op old v) (λ r. typed_sound n (scalar_of x.of) r) (binary_sound n signed op old v h g)
changed_sound n (change.Pointer size back) x t os old v h g = moved_by_sound n size back t os old v h

-- the old or the new value is given
abbrev IsGiving : (Spot → Value → Value → Value) → Type 0
IsGiving give = (n : ℕ) (x : Spot) (old new : Value) → x.width ≤ 32 → IsSoundValue n old → IsSoundValue n new → IsSoundValue n (give x old new)

new_given : IsGiving new_value
new_given n x old new b h g = kept_sound n x new b g

old_given : IsGiving old_value
old_given n x old new b h g = h

changed_one : (s : Setting) (by : Change) (x : Spot) (t : CType) (give : Spot → Value → Value → Value) → IsGiving give → (line : ℕ) (p v : Value) (k : ℕ) (w : World) → x.width ≤ 32 → IsSoundValue w.storage.made v → IsSound s.unit w → Sound s.unit w (changed_at s by x t give line p v k w)
changed_one s by x t give G line p v k w b h q =
    let n : ℕ = w.storage.made in
    fine_one s.unit (IsSoundValue n) (held s.order x (objects w) p) line w w _ q (held_sound n s.order x (objects w) p b q.objects)
    (λ old o. fine_one s.unit (IsSoundValue n) (changed by x t (objects w) old v) line w w _ q (changed_sound n by x t (objects w) old v o h)
    (λ new e. fine_one s.unit (Changed n (objects w)) (stored Assignment s.order x new (objects w) p) line w w (λ os. Gives (give x old new) k (with_objects w os)) q (stored_spot n Assignment s.order x new (objects w) p q.objects e)
    (λ os c. record { by = (G n x old new b o e, changed_world s.unit w os q c) })))

changing_act : (s : Setting) (by : Change) (give : Spot → Value → Value → Value) → IsGiving give → (line : ℕ) (a b : CoreTree) (act act2 : ℕ → World → Result) → (spot_of a).width ≤ 32 → SoundAct s.unit 0 act → SoundAct s.unit 0 act2 → SoundAct s.unit 0 (λ k w. changing s by give line (part a act) (part b act2) k w)
changing_act s by give G line a b act act2 small h i =
    give_act s.unit 0 act _ h (λ n p l sp. give_act s.unit n act2 _ (act_more s.unit 0 n act2 l i) (λ n2 v l2 sv. record { by = λ k w l3 q. changed_one s by (spot_of a) (type_of b) give G line p v k w small (value_more n2 w.storage.made v l3 sv) q }))

assign_act : (s : Setting) (of : CType) (line : ℕ) (a b : CoreTree) (act act2 : ℕ → World → Result) → (spot_of a).width ≤ 32 → SoundAct s.unit 0 act → SoundAct s.unit 0 act2 → SoundAct s.unit 0 (λ k w. assignment s of line (part a act) (part b act2) k w)
assign_act s of line a b act act2 small h i =
    give_act s.unit 0 act _ h (λ n p l sp. give_act s.unit n act2 _ (act_more s.unit 0 n act2 l i) (λ n2 v l2 sv.
    either_act s.unit n2 (is_record of) _ _
    (record {
      by = λ k w l3 q. fine_one s.unit (λ x. Unit {0}) (source s.unit.tags of (objects w) v) (line_of b) w w _ q (any_ok (source s.unit.tags of (objects w) v))
          (λ x e. (stores_act s.unit n2 (λ os. assigned Assignment s.unit.tags of os x p) p line (λ n3 os l4 so. assigned_sound n3 Assignment s.unit.tags of os x p so) (value_more n n2 p l2 sp)).by k w l3 q);
    })
    (stores_act s.unit n2 (λ os. stored Assignment s.order (spot_of a) v os p) (kept (spot_of a) v) line (λ n3 os l4 so. stored_spot n3 Assignment s.order (spot_of a) v os p so (value_more n2 n3 v l4 sv)) (kept_sound n2 (spot_of a) v small sv))))

-- ---- the comma

abbrev pub KidsSound : Setting → CoreTrees → Type 0
KidsSound s NoCore = Unit {0}
KidsSound s (Cores c cs) = SoundAct s.unit 0 (λ k w. eval s c k w) × KidsSound s cs

comma_act : (s : Setting) (cs : CoreTrees) (a : CoreTree) (act : ℕ → World → Result) → SoundAct s.unit 0 act → KidsSound s cs → SoundAct s.unit 0 (λ k w. comma_from (part a act) (parts_of s cs) k w)
comma_act s NoCore a act h hs = h
comma_act s (Cores b cs) a act h hs = drop_act s.unit 0 act _ h (comma_act s cs b (λ k w. eval s b k w) hs.0 hs.1)

-- ---- calls

abbrev pub IsSoundArgument : ℕ → Argument → Type 0
IsSoundArgument n a = IsSoundValue n a.value

pub record IsSoundCall (u : UnitTree) (a : Call) : Type 0 where
  pub arguments : EachIs (IsSoundArgument a.world.storage.made) a.arguments
  pub result : IfSome a.result (IsSoundValue a.world.storage.made)
  pub world : IsSound u a.world

abbrev pub CallsSound : UnitTree → (ℕ → Call → Result) → Type 0
CallsSound u c = (j : ℕ) (a : Call) → IsSoundCall u a → Sound u a.world (c j a)

number_one : (u : UnitTree) (v : Value) (line : ℕ) (w : World) (go : ℕ → Result) → IsSound u w → IsSoundValue w.storage.made v → ((n : ℕ) → n < 2 ^ 32 → Sound u w (go n)) → Sound u w (number_of v line w go)
number_one u (Number n) line w go s h g = g n h
number_one u (Pointer o x) line w go s h g = record { by = (tt, s) }
number_one u (Function f) line w go s h g = record { by = (tt, s) }

with_number_one : (u : UnitTree) (xs : List Argument) (line : ℕ) (w : World) (go : ℕ → Result) → IsSound u w → EachIs (IsSoundArgument w.storage.made) xs → ((n : ℕ) → n < 2 ^ 32 → Sound u w (go n)) → Sound u w (with_number xs line w go)
with_number_one u [] line w go s h g = record { by = (tt, s) }
with_number_one u (a ∷ xs) line w go s h g = number_one u a.value line w go s h.0 g

get_one : (u : UnitTree) (input : List ℕ) (k : ℕ) (w : World) → IsSound u w → EachIs IsByte input → Sound u w (get_character input k w)
get_one u [] k w s h = record { by = (omega arith, (s, keeps_refl w)) }
get_one u (byte ∷ rest) k w s h = record { by = ((let b = h.0 in omega (arith, b)), (record { own = s.own; others = s.others; live = s.live; objects = s.objects; locals = s.locals; input = h.1; trace = s.trace }, record { made = omega arith; lives = refl; locals = refl })) }

event_sound : (u : UnitTree) (w : World) (e : Event) → IsSound u w → IsSoundEvent e → IsSound u (with_event w e) × Keeps w (with_event w e)
event_sound u w e s h = (record { own = s.own; others = s.others; live = s.live; objects = s.objects; locals = s.locals; input = s.input; trace = each_append IsSoundEvent w.trace (e ∷ []) s.trace (h, tt) }, record { made = omega arith; lives = refl; locals = refl })

low_byte : (n : ℕ) → n % 256 < 256
low_byte n = mod_below n 256 (omega arith)

provided_sound : (u : UnitTree) (b : BuiltIn) (a : Call) (k : ℕ) → IsSoundCall u a → Sound u a.world (provided b a k)
provided_sound u Putchar a k s = with_number_one u a.arguments a.line a.world _ s.world s.arguments (λ n l. record { by = ((let c = low_byte n in omega (arith, c)), event_sound u a.world (Wrote (n % 256)) s.world (low_byte n)) })
provided_sound u Getchar a k s = get_one u a.world.input k a.world s.world s.world.input
provided_sound u Exit a k s = with_number_one u a.arguments a.line a.world _ s.world s.arguments (λ n l. record { by = (l, s.world) })

spend_one : (u : UnitTree) (k : ℕ) (w : World) (go : ℕ → Result) → IsSound u w → ((j : ℕ) → Sound u w (go j)) → Sound u w (spend k w go)
spend_one u zero w go s g = record { by = (tt, s) }
spend_one u (suc k) w go s g = g k

called_sound : (s : Setting) → CallsSound s.unit s.calls → (f : Option FunctionTree) (b : Option BuiltIn) (a : Call) (k : ℕ) → IsSoundCall s.unit a → Sound s.unit a.world (called_by s f b a k a.world)
called_sound s C (Some f) b a k q = either_one s.unit (fits f a) _ _ k a.world a.world (spend_one s.unit k a.world _ q.world (λ j. C j a q)) (record { by = (tt, q.world) })
called_sound s C None (Some b) a k q = either_one s.unit (built_in_fits b a.of a.arguments) _ _ k a.world a.world (spend_one s.unit k a.world _ q.world (λ j. provided_sound s.unit b a j q)) (record { by = (tt, q.world) })
called_sound s C None None a k q = record { by = (tt, q.world) }

abbrev call_of : List Argument → CType → Option Value → ℕ → World → ℕ → Call
call_of xs of result line w f = record { function = f; arguments = xs; of = of; result = result; line = line; world = w }

value_sound : (s : Setting) → CallsSound s.unit s.calls → (v : Value) (xs : List Argument) (of : CType) (result : Option Value) (line k : ℕ) (w : World) → IsSound s.unit w → EachIs (IsSoundArgument w.storage.made) xs → IfSome result (IsSoundValue w.storage.made) → Sound s.unit w (call_value s v (call_of xs of result line w) line k w)
value_sound s C (Function f) xs of result line k w q h g = called_sound s C (function_at s.unit f) (built_in_at s.unit f) (call_of xs of result line w f) k (record { arguments = h; result = g; world = q })
value_sound s C (Number m) xs of result line k w q h g = record { by = (tt, q) }
value_sound s C (Pointer o x) xs of result line k w q h g = record { by = (tt, q) }

result_sound : (n : ℕ) (b : Bool) (locals : List Value) (m : ℕ) → EachIs (IsSoundValue n) locals → IfSome (if b then slice_get locals m else None) (IsSoundValue n)
result_sound n true locals m h = each_get (IsSoundValue n) locals m h
result_sound n false locals m h = tt

pub arguments_more : (m n : ℕ) (xs : List Argument) → m ≤ n → EachIs (IsSoundArgument m) xs → EachIs (IsSoundArgument n) xs
arguments_more m n xs l h = each_of (IsSoundArgument m) (IsSoundArgument n) xs (λ a. value_more m n a.value l) h

value_calls : (s : Setting) → CallsSound s.unit s.calls → (n : ℕ) (v : Value) (xs : List Argument) (of : CType) (m line : ℕ) → EachIs (IsSoundArgument n) xs → SoundAct s.unit n (λ k w. call_value s v (call_of xs of (result_place of w.locals m) line w) line k w)
value_calls s C n v xs of m line h = record { by = λ k w l q. value_sound s C v xs of (result_place of w.locals m) line k w q (arguments_more n w.storage.made xs l h) (result_sound w.storage.made (is_record of) w.locals m q.locals) }

copied_one : (s : Setting) (copy : Option Value) (a : CoreTree) (act : ℕ → World → Result) (v : Value) (go : Argument → ℕ → World → Result) (k : ℕ) (w : World) → IsSound s.unit w → IfSome copy (IsSoundValue w.storage.made) → ((x : Argument) → IsSoundArgument w.storage.made x → SoundAct s.unit w.storage.made (go x)) → Sound s.unit w (copied_to s copy (part a act) v k w go)
copied_one s None a act v go k w q h g = record { by = (tt, q) }
copied_one s (Some copy) a act v go k w q h g =
    let n : ℕ = w.storage.made in
    fine_one s.unit (λ x. Unit {0}) (source s.unit.tags (type_of a) (objects w) v) (line_of a) w w _ q (any_ok (source s.unit.tags (type_of a) (objects w) v))
    (λ from e. fine_one s.unit (Changed n (objects w)) (assigned Initialisation s.unit.tags (type_of a) (objects w) from copy) (line_of a) w w _ q (assigned_sound n Initialisation s.unit.tags (type_of a) (objects w) from copy q.objects)
    (λ os c. let x : Argument = record { value = copy; of = type_of a; line = line_of a } in let z = changed_world s.unit w os q c in
    further s.unit w (with_objects w os) (go x k (with_objects w os)) z.1 ((g x h).by k (with_objects w os) (omega arith) z.0)))

arguments_act : (s : Setting) (cs : CoreTrees) (m n : ℕ) (done : List Argument) (go : ℕ → List Argument → ℕ → World → Result) → KidsSound s cs → EachIs (IsSoundArgument n) done → ((n2 m2 : ℕ) (xs : List Argument) → n ≤ n2 → EachIs (IsSoundArgument n2) xs → SoundAct s.unit n2 (go m2 xs)) → SoundAct s.unit n (λ k w. arguments s m (parts_of s cs) done k w go)
arguments_act s NoCore m n done go hs d g = g n m done (omega arith) d
arguments_act s (Cores a cs) m n done go hs d g =
    give_act s.unit n (λ k w. eval s a k w) _ (act_more s.unit 0 n (λ k w. eval s a k w) (omega arith) hs.0) (λ n2 v l sv.
    either_act s.unit n2 (is_record (type_of a)) _ _
    (record {
      by = λ k w l2 q. copied_one s (slice_get w.locals m) a (λ k1 w1. eval s a k1 w1) v _ k w q (each_get (IsSoundValue w.storage.made) w.locals m q.locals)
          (λ x sx. arguments_act s cs (m + 1) w.storage.made (done ++ x ∷ []) go hs.1 (each_append (IsSoundArgument w.storage.made) done (x ∷ []) (arguments_more n w.storage.made done (omega (arith, l, l2)) d) (sx, tt)) (λ n3 m2 xs l3. g n3 m2 xs (omega (arith, l, l2, l3))));
    })
    (arguments_act s cs m n2 (done ++ record { value = v; of = type_of a; line = line_of a } ∷ []) go hs.1 (each_append (IsSoundArgument n2) done (record { value = v; of = type_of a; line = line_of a } ∷ []) (arguments_more n n2 done l d) (sv, tt)) (λ n3 m2 xs l3. g n3 m2 xs (omega (arith, l, l3)))))

calling_act : (s : Setting) → CallsSound s.unit s.calls → (m : ℕ) (of : CType) (line : ℕ) (f : CoreTree) (cs : CoreTrees) → SoundAct s.unit 0 (λ k w. eval s f k w) → KidsSound s cs → SoundAct s.unit 0 (λ k w. calling s m of line (part f (λ k1 w1. eval s f k1 w1)) (parts_of s cs) k w)
calling_act s C m of line f cs h hs =
    give_act s.unit 0 (λ k w. eval s f k w) _ h (λ n callee l sv. arguments_act s cs m n [] _ hs tt (λ n2 m2 xs l2 sx. value_calls s C n2 callee xs of m2 line sx))

-- ---- all expressions

mutual
  pub eval_act : (s : Setting) → CallsSound s.unit s.calls → (e : CoreTree) → IsTame e → SoundAct s.unit 0 (λ k w. eval s e k w)
  eval_act s C (Core (kind.Local m register) of line NoCore) t = local_act s.unit m line
  eval_act s C (Core (kind.Object m) of line NoCore) t = object_act s.unit m line
  eval_act s C (Core (kind.Text m) of line NoCore) t = text_act s.unit m line
  eval_act s C (Core (kind.Function m) of line NoCore) t = value_act s.unit 0 (Function m) tt
  eval_act s C (Core (kind.BuiltIn b) of line NoCore) t = value_act s.unit 0 _ tt
  eval_act s C (Core (kind.Number m) of line NoCore) t = value_act s.unit 0 (Number m) t.0
  eval_act s C (Core kind.Pointed of line (Cores a NoCore)) t = give_act s.unit 0 _ _ (eval_act s C a t.1.0) (λ n p l h. value_act s.unit n p h)
  eval_act s C (Core (kind.Member offset first width) of line (Cores a NoCore)) t = give_act s.unit 0 _ _ (eval_act s C a t.1.0) (λ n p l h. gives_act s.unit n (λ os. moved os p (pos offset)) line (λ n2 os l2 so. moved_sound n2 os p (pos offset) (value_more n n2 p l2 h)))
  eval_act s C (Core kind.Read of line (Cores a NoCore)) t = give_act s.unit 0 _ _ (eval_act s C a t.1.0) (λ n p l h. gives_act s.unit n (λ os. held s.order (spot_of a) os p) line (λ n2 os l2 so. held_sound n2 s.order (spot_of a) os p (spot_small a t.1.0) so))
  eval_act s C (Core kind.Address of line (Cores a NoCore)) t = give_act s.unit 0 _ _ (eval_act s C a t.1.0) (λ n p l h. value_act s.unit n p h)
  eval_act s C (Core kind.First of line (Cores a NoCore)) t = give_act s.unit 0 _ _ (eval_act s C a t.1.0) (λ n p l h. value_act s.unit n p h)
  eval_act s C (Core (kind.Convert to.Void) of line (Cores a NoCore)) t = drop_act s.unit 0 _ _ (eval_act s C a t.1.0) (none_act s.unit 0 0)
  eval_act s C (Core (kind.Convert to.Pointer) of line (Cores a NoCore)) t = give_act s.unit 0 _ _ (eval_act s C a t.1.0) (λ n p l h. value_act s.unit n p h)
  eval_act s C (Core (kind.Convert (to.Integer x)) of line (Cores a NoCore)) t = give_act s.unit 0 _ _ (eval_act s C a t.1.0) (λ n v l h. gives_act s.unit n (λ os. converted x v) (line_of a) (λ n2 os l2 so. converted_sound n2 x v (value_more n n2 v l2 h)))
  eval_act s C (Core (kind.Unary op) of line (Cores a NoCore)) t = give_act s.unit 0 _ _ (eval_act s C a t.1.0) (λ n v l h. gives_act s.unit n (λ os. unary_value op v) line (λ n2 os l2 so. unary_sound n2 op v (value_more n n2 v l2 h)))
  eval_act s C (Core kind.Not of line (Cores a NoCore)) t = give_act s.unit 0 _ _ (asked_act s.unit 0 a _ line (eval_act s C a t.1.0)) (λ n v l h. branch_act s.unit n v _ _ (value_act s.unit n (truth false) (truth_sound n false)) (value_act s.unit n (truth true) (truth_sound n true)))
  eval_act s C (Core (kind.Binary op signed) of line (Cores a (Cores b NoCore))) t = two_act s.unit a b _ _ line (λ os v x. binary_value signed op v x) (λ n os v x so h g. binary_sound n signed op v x h g) (eval_act s C a t.1.0) (eval_act s C b t.1.1.0)
  eval_act s C (Core (kind.Compare op signed) of line (Cores a (Cores b NoCore))) t = two_act s.unit a b _ _ line (λ os v x. compared_by (type_of a) signed op os v x) (compared_sound (type_of a) signed op) (eval_act s C a t.1.0) (eval_act s C b t.1.1.0)
  eval_act s C (Core (kind.Move size back) of line (Cores a (Cores b NoCore))) t = two_act s.unit a b _ _ line (λ os v x. moved_among size back (type_of a) (type_of b) os v x) (moved_among_sound size back (type_of a) (type_of b)) (eval_act s C a t.1.0) (eval_act s C b t.1.1.0)
  eval_act s C (Core (kind.Difference size) of line (Cores a (Cores b NoCore))) t = two_act s.unit a b _ _ line (λ os v x. subtracted os size v x) (λ n os v x so h g. subtracted_sound n os size v x) (eval_act s C a t.1.0) (eval_act s C b t.1.1.0)
  eval_act s C (Core kind.And of line (Cores a (Cores b NoCore))) t = give_act s.unit 0 _ _ (asked_act s.unit 0 a _ line (eval_act s C a t.1.0)) (λ n v l h. branch_act s.unit n v _ _ (act_more s.unit 0 n _ l (asked_act s.unit 0 b _ line (eval_act s C b t.1.1.0))) (value_act s.unit n (truth false) (truth_sound n false)))
  eval_act s C (Core kind.Or of line (Cores a (Cores b NoCore))) t = give_act s.unit 0 _ _ (asked_act s.unit 0 a _ line (eval_act s C a t.1.0)) (λ n v l h. branch_act s.unit n v _ _ (value_act s.unit n (truth true) (truth_sound n true)) (act_more s.unit 0 n _ l (asked_act s.unit 0 b _ line (eval_act s C b t.1.1.0))))
  eval_act s C (Core kind.Conditional of line (Cores a (Cores b (Cores e NoCore)))) t = give_act s.unit 0 _ _ (asked_act s.unit 0 a _ (line_of a) (eval_act s C a t.1.0)) (λ n v l h. branch_act s.unit n v _ _ (act_more s.unit 0 n _ l (eval_act s C b t.1.1.0)) (act_more s.unit 0 n _ l (eval_act s C e t.1.1.1.0)))
  eval_act s C (Core kind.Comma of line (Cores a cs)) t = comma_act s cs a _ (eval_act s C a t.1.0) (kids_act s C cs t.1.1)
  eval_act s C (Core kind.Assign of line (Cores a (Cores b NoCore))) t = assign_act s of line a b _ _ (spot_small a t.1.0) (eval_act s C a t.1.0) (eval_act s C b t.1.1.0)
  eval_act s C (Core (kind.Change by) of line (Cores a (Cores b NoCore))) t = changing_act s by new_value new_given line a b _ _ (spot_small a t.1.0) (eval_act s C a t.1.0) (eval_act s C b t.1.1.0)
  eval_act s C (Core (kind.Postfix by) of line (Cores a (Cores b NoCore))) t = changing_act s by old_value old_given line a b _ _ (spot_small a t.1.0) (eval_act s C a t.1.0) (eval_act s C b t.1.1.0)
  eval_act s C (Core (kind.Call m) of line (Cores f cs)) t = calling_act s C m of line f cs (eval_act s C f t.1.0) (kids_act s C cs t.1.1)
  eval_act s C (Core what of line kids) t = undefined_act s.unit 0 _ line

  pub kids_act : (s : Setting) → CallsSound s.unit s.calls → (cs : CoreTrees) → AreTame cs → KidsSound s cs
  kids_act s C NoCore t = tt
  kids_act s C (Cores e cs) t = (eval_act s C e t.0, kids_act s C cs t.1)
