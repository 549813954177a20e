-- Whole rows: an operator's value is the number that a machine computes; comparisons go to their labels.
use Rattle.std.specs.Prelude.{◌≡◌, ◌<◌, ℕ, ℤ, ◌==◌, not, Bool, true, false, Option, Some, None, List, if◌then◌else◌}
use Rattle.std.proofs.Common.{refl, sym, ap, subst, ◌∙◌, arith}
use Rattle.std.proofs.lemmas.Bool.{eqb-true, le-ltb}
use Rattle.lcc_base.specs.declared.cause.Cause.TheVariants.{ShiftCount}
use Rattle.objects.specs.declared.operators.Unary.TheVariants.{Negate}
use Rattle.objects.specs.declared.operators.Binary.TheVariants as binary
use Rattle.objects.specs.declared.operators.Comparison.TheVariants as comparison
use Rattle.objects.specs.declared.value.Value.TheVariants.{Function}
use Rattle.objects.specs.Arithmetic.{binary_word, word_cause, shift_cause, holds}
use Rattle.op_forest.specs.declared.op.Op.{Op}
use Rattle.op_forest.specs.declared.op.Op.TheVariants as op
use Rattle.op_forest.specs.declared.suffix.Suffix.{Suffix}
use Rattle.op_forest.specs.declared.suffix.Suffix.TheVariants.{C, S, I, U, P, B, V}
use Rattle.op_forest.specs.declared.sym.Sym.{Sym}
use Rattle.op_forest.specs.declared.sym.Sym.TheVariants as sym_is
use Rattle.op_forest.specs.Nodes.{Head}
use Rattle.forests.specs.Words.{Word, Plain, Label, number_of}
use Rattle.forests.specs.Objects.{Object}
use Rattle.forests.specs.Bits.{bits_and, bits_or, bits_xor, bits_left, bits_right, bits_right_signed, complemented, bitwise, shifted}
use Rattle.forests.specs.Worlds.{Move, Next, To, End}
use Rattle.forests.specs.Actions.{Gave, Passed, Called, Moved, Meaningless, gave, changed}
use Rattle.forests.specs.Accesses.{block_copied}
use Rattle.forests.specs.Numbers.{constant, narrow_constant, widened, narrowed, of_one, of_two, moved_on, moved_back, difference, equal, negated, signed_are, unsigned_are}
use Rattle.forests.specs.Rows.{called, jumped, branched, assigned}
use Rattle.memory_map.specs.Maps.{Map, IsWord}
use Rattle.word_rows.specs.Rows.{Operation, operation, Test, test_of, BinaryRowsGive, UnaryRowsGive, ConstantRowsGive, TestRowsMove, JumpsGo, CallsGo}
use Rattle.word_rows.proofs.lemmas.Numbers.{none_some, some_is, one_is, two_are, widened_is, kept_is, constant_is, narrow_constant_is}
use Rattle.word_rows.proofs.lemmas.Bits.{and_is, or_is, xor_is, complement_is, left_is, right_is, right_signed_is}
use Rattle.word_rows.proofs.lemmas.Pointers.{moves_on, moves_back, difference_is}
use Rattle.word_rows.proofs.lemmas.Comparisons.{equality_is, signed_is, unsigned_is}

-- ---- what an action is

some_gave : (x : Option Word) (u : Word) → gave x ≡ Gave u → x ≡ Some u
some_gave None u e = absurd (let never : ⊥ = cc in never)
some_gave (Some w) u e = let same : w ≡ u = cc in ap (λ (v : Word). Some v) same

one_gave : (w u : Word) → Gave w ≡ Gave u → w ≡ u
one_gave w u e = cc

nothing_gave : (u : Word) → Meaningless ≡ Gave u → ⊥
nothing_gave u e = cc

stored_gave : (x : Option (List Object)) (u : Word) → changed x ≡ Gave u → ⊥
stored_gave None u e = cc
stored_gave (Some objects) u e = cc

copied_gave : (x : Sym) (objects : List Object) (a b u : Word) → assigned x objects a b ≡ Gave u → ⊥
copied_gave (sym_is.Block size align) objects a b u e = stored_gave (block_copied size align objects b a) u e
copied_gave x objects a b u e = nothing_gave u e

branch_gave : (x : Sym) (b : Option Bool) (u : Word) → branched x b ≡ Gave u → ⊥
branch_gave (sym_is.Label l) (Some true) u e = cc
branch_gave (sym_is.Label l) (Some false) u e = cc
branch_gave (sym_is.Label l) None u e = cc
branch_gave x b u e = nothing_gave u e

call_gave : (valued : Bool) (a u : Word) → called valued a ≡ Gave u → ⊥
call_gave valued (Plain (Function f)) u e = cc
call_gave valued a u e = nothing_gave u e

jump_gave : (function : ℕ) (a u : Word) → jumped function a ≡ Gave u → ⊥
jump_gave function (Label f l) u e = by (f == function) e
  where
    by : (b : Bool) → (if b then Moved (To l) else Meaningless) ≡ Gave u → ⊥
    by true g = cc
    by false g = cc
jump_gave function a u e = nothing_gave u e

-- ---- two operands

abbrev Gives : Map → Op → Suffix → Word → ℕ → ℕ → Type 0
Gives map o x u m n = (t : Operation) × (operation o x ≡ Some t) × (word_cause t.signed t.by m n ≡ None) × IsWord map u (binary_word t.signed t.by m n)

fits : (n : ℕ) → n < 32 → shift_cause n ≡ None
fits n l = ap (λ (b : Bool). if b then Some ShiftCount else None) (le-ltb 31 n (omega (arith, l)))

pub two_rows : BinaryRowsGive
two_rows map e h objects op.Asgn C a b u m n has hm hn is it f = absurd (stored_gave _ u f)
two_rows map e h objects op.Asgn S a b u m n has hm hn is it f = absurd (stored_gave _ u f)
two_rows map e h objects op.Asgn I a b u m n has hm hn is it f = absurd (stored_gave _ u f)
two_rows map e h objects op.Asgn P a b u m n has hm hn is it f = absurd (stored_gave _ u f)
two_rows map e h objects op.Asgn B a b u m n has hm hn is it f = absurd (copied_gave h.sym objects a b u f)
two_rows map e h objects op.Add I a b u m n has hm hn is it f = let r = two_are map true binary.Add a b u m n is it (some_gave (of_two true binary.Add a b) u f) in (record { signed = true; by = binary.Add }, refl, r.0, r.1)
two_rows map e h objects op.Add U a b u m n has hm hn is it f = let r = two_are map false binary.Add a b u m n is it (some_gave (of_two false binary.Add a b) u f) in (record { signed = false; by = binary.Add }, refl, r.0, r.1)
two_rows map e h objects op.Add P a b u m n has hm hn is it f = (record { signed = false; by = binary.Add }, refl, refl, moves_on map objects a b u m n hm hn is it (some_gave (moved_on objects a b) u f))
two_rows map e h objects op.Sub I a b u m n has hm hn is it f = let r = two_are map true binary.Subtract a b u m n is it (some_gave (of_two true binary.Subtract a b) u f) in (record { signed = true; by = binary.Subtract }, refl, r.0, r.1)
two_rows map e h objects op.Sub U a b u m n has hm hn is it f = (record { signed = false; by = binary.Subtract }, refl, refl, difference_is map objects a b u m n hm hn is it (some_gave (difference objects a b) u f))
two_rows map e h objects op.Sub P a b u m n has hm hn is it f = (record { signed = false; by = binary.Subtract }, refl, refl, moves_back map objects a b u m n hm hn is it (some_gave (moved_back objects a b) u f))
two_rows map e h objects op.Mul I a b u m n has hm hn is it f = let r = two_are map true binary.Multiply a b u m n is it (some_gave (of_two true binary.Multiply a b) u f) in (record { signed = true; by = binary.Multiply }, refl, r.0, r.1)
two_rows map e h objects op.Mul U a b u m n has hm hn is it f = let r = two_are map false binary.Multiply a b u m n is it (some_gave (of_two false binary.Multiply a b) u f) in (record { signed = false; by = binary.Multiply }, refl, r.0, r.1)
two_rows map e h objects op.Div I a b u m n has hm hn is it f = let r = two_are map true binary.Divide a b u m n is it (some_gave (of_two true binary.Divide a b) u f) in (record { signed = true; by = binary.Divide }, refl, r.0, r.1)
two_rows map e h objects op.Div U a b u m n has hm hn is it f = let r = two_are map false binary.Divide a b u m n is it (some_gave (of_two false binary.Divide a b) u f) in (record { signed = false; by = binary.Divide }, refl, r.0, r.1)
two_rows map e h objects op.Mod I a b u m n has hm hn is it f = let r = two_are map true binary.Remainder a b u m n is it (some_gave (of_two true binary.Remainder a b) u f) in (record { signed = true; by = binary.Remainder }, refl, r.0, r.1)
two_rows map e h objects op.Mod U a b u m n has hm hn is it f = let r = two_are map false binary.Remainder a b u m n is it (some_gave (of_two false binary.Remainder a b) u f) in (record { signed = false; by = binary.Remainder }, refl, r.0, r.1)
two_rows map e h objects op.Lsh I a b u m n has hm hn is it f = let r = left_is true map a b u m n has hm is it (some_gave (shifted true binary.ShiftLeft bits_left a b) u f) in (record { signed = true; by = binary.ShiftLeft }, refl, fits n r.0, r.1)
two_rows map e h objects op.Lsh U a b u m n has hm hn is it f = let r = left_is false map a b u m n has hm is it (some_gave (shifted false binary.ShiftLeft bits_left a b) u f) in (record { signed = false; by = binary.ShiftLeft }, refl, fits n r.0, r.1)
two_rows map e h objects op.Rsh I a b u m n has hm hn is it f = let r = right_signed_is map a b u m n has hm is it (some_gave (shifted true binary.ShiftRight bits_right_signed a b) u f) in (record { signed = true; by = binary.ShiftRight }, refl, fits n r.0, r.1)
two_rows map e h objects op.Rsh U a b u m n has hm hn is it f = let r = right_is map a b u m n has hm is it (some_gave (shifted false binary.ShiftRight bits_right a b) u f) in (record { signed = false; by = binary.ShiftRight }, refl, fits n r.0, r.1)
two_rows map e h objects op.Band U a b u m n has hm hn is it f = (record { signed = false; by = binary.And }, refl, refl, and_is map a b u m n hm hn is it (some_gave (bitwise binary.And bits_and a b) u f))
two_rows map e h objects op.Bor U a b u m n has hm hn is it f = (record { signed = false; by = binary.Or }, refl, refl, or_is map a b u m n hm hn is it (some_gave (bitwise binary.Or bits_or a b) u f))
two_rows map e h objects op.Bxor U a b u m n has hm hn is it f = (record { signed = false; by = binary.Xor }, refl, refl, xor_is map a b u m n hm hn is it (some_gave (bitwise binary.Xor bits_xor a b) u f))
two_rows map e h objects op.Eq I a b u m n has hm hn is it f = absurd (branch_gave h.sym _ u f)
two_rows map e h objects op.Ne I a b u m n has hm hn is it f = absurd (branch_gave h.sym _ u f)
two_rows map e h objects op.Lt I a b u m n has hm hn is it f = absurd (branch_gave h.sym _ u f)
two_rows map e h objects op.Lt U a b u m n has hm hn is it f = absurd (branch_gave h.sym _ u f)
two_rows map e h objects op.Le I a b u m n has hm hn is it f = absurd (branch_gave h.sym _ u f)
two_rows map e h objects op.Le U a b u m n has hm hn is it f = absurd (branch_gave h.sym _ u f)
two_rows map e h objects op.Gt I a b u m n has hm hn is it f = absurd (branch_gave h.sym _ u f)
two_rows map e h objects op.Gt U a b u m n has hm hn is it f = absurd (branch_gave h.sym _ u f)
two_rows map e h objects op.Ge I a b u m n has hm hn is it f = absurd (branch_gave h.sym _ u f)
two_rows map e h objects op.Ge U a b u m n has hm hn is it f = absurd (branch_gave h.sym _ u f)
two_rows map e h objects o x a b u m n has hm hn is it f = absurd (nothing_gave u f)

-- ---- one operand

stays : (map : Map) (a u : Word) (m : ℕ) → IsWord map a m → Gave a ≡ Gave u → IsWord map u m
stays map a u m is e = subst (λ (w : Word). IsWord map w m) (one_gave a u e) is

loads : true ≡ false → ⊥
loads e = cc

passed_gave : (a u : Word) → Passed a ≡ Gave u → ⊥
passed_gave a u e = cc

moved_gave : (mv : Move) (u : Word) → Moved mv ≡ Gave u → ⊥
moved_gave mv u e = cc

pub one_rows : UnaryRowsGive
one_rows map e h objects op.Indir C a u m has hm is no_load f = absurd (loads no_load)
one_rows map e h objects op.Indir S a u m has hm is no_load f = absurd (loads no_load)
one_rows map e h objects op.Indir I a u m has hm is no_load f = absurd (loads no_load)
one_rows map e h objects op.Indir P a u m has hm is no_load f = absurd (loads no_load)
one_rows map e h objects op.Indir B a u m has hm is no_load f = stays map a u m is f
one_rows map e h objects op.Arg I a u m has hm is no_load f = absurd (passed_gave a u f)
one_rows map e h objects op.Arg P a u m has hm is no_load f = absurd (passed_gave a u f)
one_rows map e h objects op.Call I a u m has hm is no_load f = absurd (call_gave true a u f)
one_rows map e h objects op.Call V a u m has hm is no_load f = absurd (call_gave false a u f)
one_rows map e h objects op.Ret I a u m has hm is no_load f = absurd (moved_gave (End (Some a)) u f)
one_rows map e h objects op.Cvc I a u m has hm is no_load f = widened_is map true 8 a u m is (some_gave (widened true 8 a) u f)
one_rows map e h objects op.Cvc U a u m has hm is no_load f = widened_is map false 8 a u m is (some_gave (widened false 8 a) u f)
one_rows map e h objects op.Cvs I a u m has hm is no_load f = widened_is map true 16 a u m is (some_gave (widened true 16 a) u f)
one_rows map e h objects op.Cvs U a u m has hm is no_load f = widened_is map false 16 a u m is (some_gave (widened false 16 a) u f)
one_rows map e h objects op.Cvi C a u m has hm is no_load f = kept_is map 8 a u m m is (some_gave (narrowed 8 a) u f) refl
one_rows map e h objects op.Cvi S a u m has hm is no_load f = kept_is map 16 a u m m is (some_gave (narrowed 16 a) u f) refl
one_rows map e h objects op.Cvi U a u m has hm is no_load f = stays map a u m is f
one_rows map e h objects op.Cvu C a u m has hm is no_load f = kept_is map 8 a u m m is (some_gave (narrowed 8 a) u f) refl
one_rows map e h objects op.Cvu S a u m has hm is no_load f = kept_is map 16 a u m m is (some_gave (narrowed 16 a) u f) refl
one_rows map e h objects op.Cvu I a u m has hm is no_load f = stays map a u m is f
one_rows map e h objects op.Cvu P a u m has hm is no_load f = stays map a u m is f
one_rows map e h objects op.Cvp U a u m has hm is no_load f = stays map a u m is f
one_rows map e h objects op.Neg I a u m has hm is no_load f = one_is map Negate a u m is (some_gave (of_one Negate a) u f)
one_rows map e h objects op.Bcom U a u m has hm is no_load f = complement_is map a u m has hm is (some_gave (complemented a) u f)
one_rows map e h objects op.Jump V a u m has hm is no_load f = absurd (jump_gave e.home.function a u f)
one_rows map e h objects o x a u m has hm is no_load f = absurd (nothing_gave u f)

-- ---- constants

narrow_by : (map : Map) (bits : ℕ) (v : Option ℤ) (u : Word) → gave (narrow_constant bits v) ≡ Gave u → (z : ℤ) × (v ≡ Some z) × IsWord map u (number_of z)
narrow_by map bits None u e = absurd (nothing_gave u e)
narrow_by map bits (Some z) u e = (z, refl, narrow_constant_is map bits z u (number_of z) (some_gave (narrow_constant bits (Some z)) u e) refl)

constant_by : (map : Map) (v : Option ℤ) (u : Word) → gave (constant v) ≡ Gave u → (z : ℤ) × (v ≡ Some z) × IsWord map u (number_of z)
constant_by map None u e = absurd (nothing_gave u e)
constant_by map (Some z) u e = (z, refl, constant_is map z u (some_gave (constant (Some z)) u e))

pub constant_rows : ConstantRowsGive
constant_rows map e h objects C u f = narrow_by map 8 h.value u f
constant_rows map e h objects S u f = narrow_by map 16 h.value u f
constant_rows map e h objects I u f = constant_by map h.value u f
constant_rows map e h objects U u f = constant_by map h.value u f
constant_rows map e h objects P u f = constant_by map h.value u f
constant_rows map e h objects B u f = absurd (nothing_gave u f)
constant_rows map e h objects V u f = absurd (nothing_gave u f)

-- ---- comparisons

gave_moved : (x : Option Word) (mv : Move) → gave x ≡ Moved mv → ⊥
gave_moved None mv e = cc
gave_moved (Some w) mv e = cc

nothing_moved : (mv : Move) → Meaningless ≡ Moved mv → ⊥
nothing_moved mv e = cc

stored_moved : (x : Option (List Object)) (mv : Move) → changed x ≡ Moved mv → ⊥
stored_moved None mv e = cc
stored_moved (Some objects) mv e = cc

copied_moved : (x : Sym) (objects : List Object) (a b : Word) (mv : Move) → assigned x objects a b ≡ Moved mv → ⊥
copied_moved (sym_is.Block size align) objects a b mv e = stored_moved (block_copied size align objects b a) mv e
copied_moved x objects a b mv e = nothing_moved mv e

move_is : (p q : Move) → Moved p ≡ Moved q → p ≡ q
move_is p q e = cc

-- a branch goes by what was found
branch_is : (x : Sym) (t : Option Bool) (mv : Move) → branched x t ≡ Moved mv → (l : ℕ) × (b : Bool) × (x ≡ sym_is.Label l) × (t ≡ Some b) × (mv ≡ (if b then To l else Next))
branch_is (sym_is.Label l) (Some true) mv e = (l, true, refl, refl, sym (move_is (To l) mv e))
branch_is (sym_is.Label l) (Some false) mv e = (l, false, refl, refl, sym (move_is Next mv e))
branch_is (sym_is.Label l) None mv e = absurd (nothing_moved mv e)
branch_is x t mv e = absurd (nothing_moved mv e)

abbrev Goes : Head → Op → Suffix → ℕ → ℕ → Move → Type 0
Goes h o x m n mv = (t : Test) × (l : ℕ) × (test_of o x ≡ Some t) × (h.sym ≡ sym_is.Label l) × (mv ≡ (if holds t.signed t.by m n then To l else Next))

-- where the machine's comparison finds the same
by_test : (h : Head) (o : Op) (x : Suffix) (t : Test) (found : Option Bool) (m n : ℕ) (mv : Move) → test_of o x ≡ Some t → ((b : Bool) → found ≡ Some b → holds t.signed t.by m n ≡ b) → branched h.sym found ≡ Moved mv → Goes h o x m n mv
by_test h o x t found m n mv is finds e =
    let r = branch_is h.sym found mv e in
    (t, r.0, is, r.2, r.4 ∙ ap (λ (b : Bool). if b then To r.0 else Next) (sym (finds r.1 r.3)))

negated_is : (found : Option Bool) (b : Bool) → negated found ≡ Some b → (c : Bool) × (found ≡ Some c) × (not c ≡ b)
negated_is None b e = absurd (none_some b e)
negated_is (Some c) b e = (c, refl, some_is (not c) b e)

pub test_rows : TestRowsMove
test_rows map floor made functions e h objects op.Eq I a b m n mv laid apart k l is it f =
    by_test h op.Eq I (record { signed = false; by = comparison.Equal }) (equal objects a b) m n mv refl (λ t g. equality_is map floor made objects functions a b m n t laid apart k l is it g) f
test_rows map floor made functions e h objects op.Ne I a b m n mv laid apart k l is it f =
    by_test h op.Ne I (record { signed = false; by = comparison.NotEqual }) (negated (equal objects a b)) m n mv refl
    (λ t g. let r = negated_is (equal objects a b) t g in ap (λ (s : Bool). not s) (equality_is map floor made objects functions a b m n r.0 laid apart k l is it r.1) ∙ r.2) f
test_rows map floor made functions e h objects op.Lt I a b m n mv laid apart k l is it f =
    by_test h op.Lt I (record { signed = true; by = comparison.Less }) (signed_are comparison.Less a b) m n mv refl (λ t g. signed_is map comparison.Less a b m n t is it g) f
test_rows map floor made functions e h objects op.Lt U a b m n mv laid apart k l is it f =
    by_test h op.Lt U (record { signed = false; by = comparison.Less }) (unsigned_are objects comparison.Less a b) m n mv refl (λ t g. unsigned_is map floor made objects comparison.Less a b m n t laid is it g) f
test_rows map floor made functions e h objects op.Le I a b m n mv laid apart k l is it f =
    by_test h op.Le I (record { signed = true; by = comparison.LessEqual }) (signed_are comparison.LessEqual a b) m n mv refl (λ t g. signed_is map comparison.LessEqual a b m n t is it g) f
test_rows map floor made functions e h objects op.Le U a b m n mv laid apart k l is it f =
    by_test h op.Le U (record { signed = false; by = comparison.LessEqual }) (unsigned_are objects comparison.LessEqual a b) m n mv refl (λ t g. unsigned_is map floor made objects comparison.LessEqual a b m n t laid is it g) f
test_rows map floor made functions e h objects op.Gt I a b m n mv laid apart k l is it f =
    by_test h op.Gt I (record { signed = true; by = comparison.Greater }) (signed_are comparison.Greater a b) m n mv refl (λ t g. signed_is map comparison.Greater a b m n t is it g) f
test_rows map floor made functions e h objects op.Gt U a b m n mv laid apart k l is it f =
    by_test h op.Gt U (record { signed = false; by = comparison.Greater }) (unsigned_are objects comparison.Greater a b) m n mv refl (λ t g. unsigned_is map floor made objects comparison.Greater a b m n t laid is it g) f
test_rows map floor made functions e h objects op.Ge I a b m n mv laid apart k l is it f =
    by_test h op.Ge I (record { signed = true; by = comparison.GreaterEqual }) (signed_are comparison.GreaterEqual a b) m n mv refl (λ t g. signed_is map comparison.GreaterEqual a b m n t is it g) f
test_rows map floor made functions e h objects op.Ge U a b m n mv laid apart k l is it f =
    by_test h op.Ge U (record { signed = false; by = comparison.GreaterEqual }) (unsigned_are objects comparison.GreaterEqual a b) m n mv refl (λ t g. unsigned_is map floor made objects comparison.GreaterEqual a b m n t laid is it g) f
test_rows map floor made functions e h objects op.Asgn C a b m n mv laid apart k l is it f = absurd (stored_moved _ mv f)
test_rows map floor made functions e h objects op.Asgn S a b m n mv laid apart k l is it f = absurd (stored_moved _ mv f)
test_rows map floor made functions e h objects op.Asgn I a b m n mv laid apart k l is it f = absurd (stored_moved _ mv f)
test_rows map floor made functions e h objects op.Asgn P a b m n mv laid apart k l is it f = absurd (stored_moved _ mv f)
test_rows map floor made functions e h objects op.Asgn B a b m n mv laid apart k l is it f = absurd (copied_moved h.sym objects a b mv f)
test_rows map floor made functions e h objects op.Add I a b m n mv laid apart k l is it f = absurd (gave_moved _ mv f)
test_rows map floor made functions e h objects op.Add U a b m n mv laid apart k l is it f = absurd (gave_moved _ mv f)
test_rows map floor made functions e h objects op.Add P a b m n mv laid apart k l is it f = absurd (gave_moved _ mv f)
test_rows map floor made functions e h objects op.Sub I a b m n mv laid apart k l is it f = absurd (gave_moved _ mv f)
test_rows map floor made functions e h objects op.Sub U a b m n mv laid apart k l is it f = absurd (gave_moved _ mv f)
test_rows map floor made functions e h objects op.Sub P a b m n mv laid apart k l is it f = absurd (gave_moved _ mv f)
test_rows map floor made functions e h objects op.Mul I a b m n mv laid apart k l is it f = absurd (gave_moved _ mv f)
test_rows map floor made functions e h objects op.Mul U a b m n mv laid apart k l is it f = absurd (gave_moved _ mv f)
test_rows map floor made functions e h objects op.Div I a b m n mv laid apart k l is it f = absurd (gave_moved _ mv f)
test_rows map floor made functions e h objects op.Div U a b m n mv laid apart k l is it f = absurd (gave_moved _ mv f)
test_rows map floor made functions e h objects op.Mod I a b m n mv laid apart k l is it f = absurd (gave_moved _ mv f)
test_rows map floor made functions e h objects op.Mod U a b m n mv laid apart k l is it f = absurd (gave_moved _ mv f)
test_rows map floor made functions e h objects op.Lsh I a b m n mv laid apart k l is it f = absurd (gave_moved _ mv f)
test_rows map floor made functions e h objects op.Lsh U a b m n mv laid apart k l is it f = absurd (gave_moved _ mv f)
test_rows map floor made functions e h objects op.Rsh I a b m n mv laid apart k l is it f = absurd (gave_moved _ mv f)
test_rows map floor made functions e h objects op.Rsh U a b m n mv laid apart k l is it f = absurd (gave_moved _ mv f)
test_rows map floor made functions e h objects op.Band U a b m n mv laid apart k l is it f = absurd (gave_moved _ mv f)
test_rows map floor made functions e h objects op.Bor U a b m n mv laid apart k l is it f = absurd (gave_moved _ mv f)
test_rows map floor made functions e h objects op.Bxor U a b m n mv laid apart k l is it f = absurd (gave_moved _ mv f)
test_rows map floor made functions e h objects o x a b m n mv laid apart k l is it f = absurd (nothing_moved mv f)

-- ---- jumps and calls

jump_is : (map : Map) (function : ℕ) (a : Word) (m l : ℕ) → IsWord map a m → jumped function a ≡ Moved (To l) → m ≡ map.label function l
jump_is map function (Label f k) m l is e = by (f == function) refl e
  where
    by : (b : Bool) → (f == function) ≡ b → (if b then Moved (To k) else Meaningless) ≡ Moved (To l) → m ≡ map.label function l
    by true t g = let same : k ≡ l = cc in is ∙ ap (λ (n : ℕ). map.label n k) (eqb-true f function t) ∙ ap (map.label function) same
    by false t g = absurd (nothing_moved (To l) g)
jump_is map function a m l is e = absurd (nothing_moved (To l) e)

pub jumps : JumpsGo
jumps map e h objects a m l is f = jump_is map e.home.function a m l is f

nothing_called : (valued : Bool) (f : ℕ) → Meaningless ≡ Called valued f → ⊥
nothing_called valued f e = cc

call_is : (map : Map) (given : Bool) (a : Word) (m f : ℕ) (valued : Bool) → IsWord map a m → called given a ≡ Called valued f → m ≡ map.function f
call_is map given (Plain (Function g)) m f valued is e = let same : g ≡ f = cc in is ∙ ap map.function same
call_is map given a m f valued is e = absurd (nothing_called valued f e)

pub calls : CallsGo
calls map e h objects I a m f valued is g = call_is map true a m f valued is g
calls map e h objects V a m f valued is g = call_is map false a m f valued is g
calls map e h objects x a m f valued is g = absurd (nothing_called valued f g)
