-- What each step keeps, the lowering of expressions and of tests keeps.
use Rattle.std.specs.Prelude.{◌≡◌, ℕ, ◌+◌, ◌*◌, nat_lt, not, Bool, true, false, ◌&&◌, length}
use Rattle.std.proofs.Common.{true≢false, refl, arith}
use Rattle.c_types.specs.CType.{CType}
use Rattle.c_meaning.specs.declared.core_expr.Conversion.TheVariants as to
use Rattle.c_meaning.specs.declared.core_expr.CoreKind.{CoreKind}
use Rattle.c_meaning.specs.declared.core_expr.CoreKind.TheVariants as kind
use Rattle.c_meaning.specs.CoreTrees.{Core, NoCore, Cores, type_of}
use Rattle.c_meaning.specs.Types.{is_pointer, is_record}
use Rattle.c_meaning.specs.Values.{CoreTree, CoreTrees}
use Rattle.c_runs.specs.Places.{spot_of}
use Rattle.c_rows_agree.specs.Typed.{Typed}
use Rattle.c_rows_agree.specs.Integers.{converted_to, as_pointer, unary_of, binary_of}
use Rattle.c_pointers_agree.specs.Pointers.{moved_among, difference}
use Rattle.lowered_forms.specs.Accesses.{read}
use Rattle.lowered_forms.specs.Calls.{Passed, with_argument, held_for, with_arguments, first_passed, made_with}
use Rattle.lowered_forms.specs.Changes.{assigned_by, changed_at, new_given, old_given}
use Rattle.lowered_forms.specs.Contexts.{Context}
use Rattle.lowered_forms.specs.Expressions.{comma_from, plain_row, tested_row, row_by, row, low_e, low_test, parts_of}
use Rattle.lowered_forms.specs.Lows.{Low}
use Rattle.lowered_forms.specs.Places.{local_place, room_of, further}
use Rattle.lowered_forms.specs.Steps.{Relation, Steps, Jumps}
use Rattle.lowered_forms.specs.Straight.{straight, all_straight, goes_on, count, roots_for, all_roots_for}
use Rattle.lowered_forms.specs.Values.{Lowered, Part, placed, of_two, then_low}
use Rattle.lowered_forms.proofs.lemmas.Stepping.{placed_steps, two_steps, truth_steps, value_test_steps}
use Rattle.lowered_forms.proofs.lemmas.Calling.{argument_steps, argument_length, made_steps}
use Rattle.lowered_forms.proofs.lemmas.Changing.{assigned_by_steps, new_steps, old_steps, changed_steps, comparison_steps, and_steps, or_steps, conditional_steps}

abbrev part : Context → CoreTree → Part
part s c = record { tree = c; value = λ l. low_e s c l; test = λ n when l. low_test s c n when l }

-- ---- which parts aren't straight

first_isnt : (a b : Bool) → a ≡ false → (a && b) ≡ false
first_isnt true b e = absurd (true≢false e)
first_isnt false b e = refl

second_isnt : (a b : Bool) → b ≡ false → (a && b) ≡ false
second_isnt true b e = e
second_isnt false b e = refl

-- what holds of a part, and of all
pub record PartGoes (R : Relation) (s : Context) (c : CoreTree) : Type 0 where
  pub value : (straight c ≡ false → Jumps R) → (l : Low) → R (roots_for c) l (low_e s c l).low
  pub test : Jumps R → (n : ℕ) (when : Bool) (l : Low) → R 0 l (low_test s c n when l)

abbrev PartsGo : Relation → Context → CoreTrees → Type 0
PartsGo R s NoCore = Unit {0}
PartsGo R s (Cores c cs) = PartGoes R s c × PartsGo R s cs

abbrev IfJumps : Relation → CoreTrees → Type 0
IfJumps R cs = all_straight cs ≡ false → Jumps R

first_jumps : (R : Relation) (c : CoreTree) (cs : CoreTrees) → IfJumps R (Cores c cs) → straight c ≡ false → Jumps R
first_jumps R c cs j e = j (first_isnt (straight c) (all_straight cs) e)

others_jump : (R : Relation) (c : CoreTree) (cs : CoreTrees) → IfJumps R (Cores c cs) → IfJumps R cs
others_jump R c cs j e = j (second_isnt (straight c) (all_straight cs) e)

-- with no root of its own
no_own : (R : Relation) → Steps R → (n : ℕ) (a b : Low) → R n a b → R (0 + n) a b
no_own R k n a b h = k.weakens n (0 + n) a b (omega arith) h

-- ---- one part, and an operation on it

one_steps : (R : Relation) → Steps R → (s : Context) (a : CoreTree) → PartGoes R s a → IfJumps R (Cores a NoCore) → (go : Typed → Typed) → (l : Low)
    → R (0 + (roots_for a + 0)) l (then_low (low_e s a l) (λ v l1. placed (go v) l1)).low
one_steps R k s a h j go l = no_own R k (roots_for a + 0) l _ (k.joins (roots_for a) 0 l (low_e s a l).low _ (h.value (first_jumps R a NoCore j) l) (placed_steps R k (go (low_e s a l).value) (low_e s a l).low))

alone_steps : (R : Relation) → Steps R → (s : Context) (a : CoreTree) → PartGoes R s a → IfJumps R (Cores a NoCore) → (l : Low) → R (roots_for a + 0) l (low_e s a l).low
alone_steps R k s a h j l = k.weakens (roots_for a) (roots_for a + 0) l (low_e s a l).low (omega arith) (h.value (first_jumps R a NoCore j) l)

none_steps : (R : Relation) → Steps R → (n : ℕ) (l : Low) → R n l l
none_steps R k n l = k.weakens 0 n l l (omega arith) (k.same l)

-- ---- many parts

comma_steps : (R : Relation) → Steps R → (s : Context) (a : CoreTree) (cs : CoreTrees) → IfJumps R (Cores a cs) → PartGoes R s a → PartsGo R s cs → (l : Low)
    → R (roots_for a + all_roots_for cs) l (comma_from (part s a) (parts_of s cs) l).low
comma_steps R k s a NoCore j f h l = alone_steps R k s a f j l
comma_steps R k s a (Cores b cs) j f h l =
    k.joins (roots_for a) (roots_for b + all_roots_for cs) l (low_e s a l).low _ (f.value (first_jumps R a (Cores b cs) j) l)
    (comma_steps R k s b cs (others_jump R a (Cores b cs) j) h.0 h.1 (low_e s a l).low)

arguments_step : (R : Relation) → Steps R → (s : Context) (cs : CoreTrees) → IfJumps R cs → PartsGo R s cs → (p : Passed) → R (all_roots_for cs + count cs) p.low (with_arguments s (parts_of s cs) p).low
arguments_step R k s NoCore j h p = k.same p.low
arguments_step R k s (Cores c cs) j h p =
    let q = with_argument s (part s c) (held_for (part s c) p) in
    k.weakens ((roots_for c + 1) + (all_roots_for cs + count cs)) (all_roots_for (Cores c cs) + count (Cores c cs)) p.low _ (omega arith)
    (k.joins (roots_for c + 1) (all_roots_for cs + count cs) p.low q.low _
    (argument_steps R k (roots_for c) s (part s c) (first_jumps R c cs j) (h.0.value (first_jumps R c cs j)) p)
    (arguments_step R k s cs (others_jump R c cs j) h.1 q))

arguments_length : (s : Context) (cs : CoreTrees) (p : Passed) → length (with_arguments s (parts_of s cs) p).values ≡ length p.values + count cs
arguments_length s NoCore p = omega arith
arguments_length s (Cores c cs) p =
    let e = arguments_length s cs (with_argument s (part s c) (held_for (part s c) p)) in
    let f = argument_length s (part s c) p in
    omega (arith, e, f)

call_steps : (R : Relation) → Steps R → (s : Context) (of : CType) (n : ℕ) (f : CoreTree) (cs : CoreTrees) → IfJumps R (Cores f cs) → PartGoes R s f → PartsGo R s cs → (l : Low)
    → R ((2 + 2 * count cs) + (roots_for f + all_roots_for cs)) l (made_with s of (with_arguments s (parts_of s cs) (first_passed n (low_e s f l)))).low
call_steps R k s of n f cs j g h l =
    let p = first_passed n (low_e s f l) in
    let q = with_arguments s (parts_of s cs) p in
    let e = arguments_length s cs p in
    k.weakens (roots_for f + ((all_roots_for cs + count cs) + (length q.values + 1))) ((2 + 2 * count cs) + (roots_for f + all_roots_for cs)) l _ (omega (arith, e))
    (k.joins (roots_for f) ((all_roots_for cs + count cs) + (length q.values + 1)) l p.low _ (g.value (first_jumps R f cs j) l)
    (k.joins (all_roots_for cs + count cs) (length q.values + 1) p.low q.low _ (arguments_step R k s cs (others_jump R f cs j) h p) (made_steps R k s of q.next q.values q.low)))

-- ---- two parts

binary_steps : (R : Relation) → Steps R → (o : ℕ) (s : Context) (a b : CoreTree) → IfJumps R (Cores a (Cores b NoCore)) → PartsGo R s (Cores a (Cores b NoCore))
    → (go : Typed → Typed → Low → Lowered) → ((v w : Typed) (l : Low) → R o l (go v w l).low) → (l : Low) → R (o + (roots_for a + (roots_for b + 0))) l (of_two (part s a) (part s b) l go).low
binary_steps R k o s a b j h go g l =
    let jb = first_jumps R b NoCore (others_jump R a (Cores b NoCore) j) in
    k.weakens (roots_for a + (roots_for b + o)) (o + (roots_for a + (roots_for b + 0))) l _ (omega arith)
    (two_steps R k (roots_for a) (roots_for b) o (part s a) (part s b) jb (h.0.value (first_jumps R a (Cores b NoCore) j)) (h.1.0.value jb) go g l)

-- ---- the rows

plain_steps : (R : Relation) → Steps R → (s : Context) (what : CoreKind) (of : CType) (line : ℕ) (kids : CoreTrees) → ((goes_on what && all_straight kids) ≡ false → Jumps R) → PartsGo R s kids → (l : Low)
    → R (roots_for (Core what of line kids)) l (plain_row s what of (parts_of s kids) l).low
plain_steps R k s (kind.Local n register) of line NoCore j h l = no_own R k 0 l _ (placed_steps R k (local_place s n of) l)
plain_steps R k s (kind.Object n) of line NoCore j h l = none_steps R k (0 + 0) l
plain_steps R k s (kind.Text n) of line NoCore j h l = none_steps R k (0 + 0) l
plain_steps R k s (kind.Function n) of line NoCore j h l = none_steps R k (0 + 0) l
plain_steps R k s (kind.BuiltIn b) of line NoCore j h l = none_steps R k (0 + 0) l
plain_steps R k s (kind.Number n) of line NoCore j h l = none_steps R k (0 + 0) l
plain_steps R k s (kind.Member offset first width) of line (Cores a NoCore) j h l = one_steps R k s a h.0 j (λ p. further (nat_lt offset (room_of s a)) offset p) l
plain_steps R k s kind.Pointed of line (Cores a NoCore) j h l = no_own R k (roots_for a + 0) l (low_e s a l).low (alone_steps R k s a h.0 j l)
plain_steps R k s kind.Read of line (Cores a NoCore) j h l = one_steps R k s a h.0 j (λ p. read s.order (spot_of a) p) l
plain_steps R k s kind.Address of line (Cores a NoCore) j h l = no_own R k (roots_for a + 0) l (low_e s a l).low (alone_steps R k s a h.0 j l)
plain_steps R k s kind.First of line (Cores a NoCore) j h l = no_own R k (roots_for a + 0) l (low_e s a l).low (alone_steps R k s a h.0 j l)
plain_steps R k s (kind.Convert to.Void) of line (Cores a NoCore) j h l = no_own R k (roots_for a + 0) l (low_e s a l).low (alone_steps R k s a h.0 j l)
plain_steps R k s (kind.Convert to.Pointer) of line (Cores a NoCore) j h l = one_steps R k s a h.0 j as_pointer l
plain_steps R k s (kind.Convert (to.Integer x)) of line (Cores a NoCore) j h l = one_steps R k s a h.0 j (λ v. converted_to x v) l
plain_steps R k s (kind.Unary o) of line (Cores a NoCore) j h l = one_steps R k s a h.0 j (λ v. unary_of o v) l
plain_steps R k s (kind.Binary o signed) of line (Cores a (Cores b NoCore)) j h l = binary_steps R k 0 s a b j h (λ v w l1. placed (binary_of o signed v w) l1) (λ v w l1. placed_steps R k (binary_of o signed v w) l1) l
plain_steps R k s (kind.Move size back) of line (Cores a (Cores b NoCore)) j h l =
    binary_steps R k 0 s a b j h (λ v w l1. placed (moved_among size back (is_pointer (type_of a)) v w) l1) (λ v w l1. placed_steps R k (moved_among size back (is_pointer (type_of a)) v w) l1) l
plain_steps R k s (kind.Difference size) of line (Cores a (Cores b NoCore)) j h l = binary_steps R k 0 s a b j h (λ v w l1. placed (difference size v w) l1) (λ v w l1. placed_steps R k (difference size v w) l1) l
plain_steps R k s kind.Conditional of line (Cores a (Cores b (Cores c NoCore))) j h l =
    (j refl).uncounted 0 (roots_for (Core kind.Conditional of line (Cores a (Cores b (Cores c NoCore))))) l _
    (conditional_steps R k (j refl) (roots_for b) (roots_for c) of (part s a) (part s b) (part s c) (h.0.test (j refl)) (h.1.0.value (λ e. j refl)) (h.1.1.0.value (λ e. j refl)) l)
plain_steps R k s kind.Comma of line (Cores a cs) j h l = no_own R k (roots_for a + all_roots_for cs) l _ (comma_steps R k s a cs j h.0 h.1 l)
plain_steps R k s kind.Assign of line (Cores a (Cores b NoCore)) j h l =
    binary_steps R k 1 s a b j h (λ p v l1. assigned_by (is_record of) s of (spot_of a) p v l1) (λ p v l1. assigned_by_steps R k (is_record of) s of (spot_of a) p v l1) l
plain_steps R k s (kind.Change by) of line (Cores a (Cores b NoCore)) j h l =
    binary_steps R k 1 s a b j h (λ p v l1. changed_at s.order by (spot_of a) new_given p v l1)
    (λ p v l1. changed_steps R k s.order by (spot_of a) new_given (λ q x y l2. new_steps R k s.order (spot_of a) q x y l2) p v l1) l
plain_steps R k s (kind.Postfix by) of line (Cores a (Cores b NoCore)) j h l =
    binary_steps R k 1 s a b j h (λ p v l1. changed_at s.order by (spot_of a) old_given p v l1)
    (λ p v l1. changed_steps R k s.order by (spot_of a) old_given (λ q x y l2. old_steps R k s.order (spot_of a) q x y l2) p v l1) l
plain_steps R k s (kind.Call n) of line (Cores f cs) j h l = call_steps R k s of n f cs j h.0 h.1 l
plain_steps R k s what of line kids j h l = none_steps R k (roots_for (Core what of line kids)) l

tested_steps : (R : Relation) → Steps R → Jumps R → (s : Context) (what : CoreKind) (of : CType) (line : ℕ) (kids : CoreTrees) → PartsGo R s kids → (n : ℕ) (when : Bool) (l : Low)
    → R 0 l (tested_row s what of (parts_of s kids) n when l)
tested_steps R k js s kind.Not of line (Cores a NoCore) h n when l = h.0.test js n (not when) l
tested_steps R k js s kind.And of line (Cores a (Cores b NoCore)) h n when l = and_steps R k js (part s a) (part s b) (h.0.test js) (h.1.0.test js) n when l
tested_steps R k js s kind.Or of line (Cores a (Cores b NoCore)) h n when l = or_steps R k js (part s a) (part s b) (h.0.test js) (h.1.0.test js) n when l
tested_steps R k js s (kind.Compare o signed) of line (Cores a (Cores b NoCore)) h n when l =
    comparison_steps R k js (roots_for a) (roots_for b) o signed (part s a) (part s b) (h.0.value (λ e. js)) (h.1.0.value (λ e. js)) n when l
tested_steps R k js s what of line kids h n when l =
    value_test_steps R k js (roots_for (Core what of line kids)) (λ l1. plain_row s what of (parts_of s kids) l1) (λ l1. plain_steps R k s what of line kids (λ e. js) h l1) n when l

test_value_steps : (R : Relation) → Steps R → Jumps R → (s : Context) (what : CoreKind) (of : CType) (line : ℕ) (kids : CoreTrees) → PartsGo R s kids → (l : Low)
    → R (roots_for (Core what of line kids)) l (row_by true s what of (parts_of s kids) l).low
test_value_steps R k js s what of line kids h l =
    js.uncounted 0 (roots_for (Core what of line kids)) l _ (truth_steps R k js (λ n when l1. tested_row s what of (parts_of s kids) n when l1) (λ n when l1. tested_steps R k js s what of line kids h n when l1) l)

row_steps : (R : Relation) → Steps R → (s : Context) (what : CoreKind) (of : CType) (line : ℕ) (kids : CoreTrees) → ((goes_on what && all_straight kids) ≡ false → Jumps R) → PartsGo R s kids → (l : Low)
    → R (roots_for (Core what of line kids)) l (row s what of (parts_of s kids) l).low
row_steps R k s kind.Not of line kids j h l = test_value_steps R k (j refl) s kind.Not of line kids h l
row_steps R k s kind.And of line kids j h l = test_value_steps R k (j refl) s kind.And of line kids h l
row_steps R k s kind.Or of line kids j h l = test_value_steps R k (j refl) s kind.Or of line kids h l
row_steps R k s (kind.Compare o signed) of line kids j h l = test_value_steps R k (j refl) s (kind.Compare o signed) of line kids h l
row_steps R k s what of line kids j h l = plain_steps R k s what of line kids j h l

-- ---- the induction

mutual
  pub value_steps : (R : Relation) → Steps R → (s : Context) (e : CoreTree) → (straight e ≡ false → Jumps R) → (l : Low) → R (roots_for e) l (low_e s e l).low
  value_steps R k s (Core what of line kids) j l = row_steps R k s what of line kids j (parts_go R k s kids) l

  pub test_steps : (R : Relation) → Steps R → Jumps R → (s : Context) (e : CoreTree) (n : ℕ) (when : Bool) (l : Low) → R 0 l (low_test s e n when l)
  test_steps R k js s (Core what of line kids) n when l = tested_steps R k js s what of line kids (parts_go R k s kids) n when l

  parts_go : (R : Relation) → Steps R → (s : Context) (cs : CoreTrees) → PartsGo R s cs
  parts_go R k s NoCore = tt
  parts_go R k s (Cores c cs) =
      (record { value = λ j l. value_steps R k s c j l; test = λ js n when l. test_steps R k js s c n when l }, parts_go R k s cs)
