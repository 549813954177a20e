-- `x = x + 1`, where x is an int in the only slot of a frame: what it is lowered to, and that this agrees with C.
use Rattle.std.specs.Prelude.{◌≡◌, ◌≤◌, ℕ, zero, suc, ◌+◌, ◌*◌, ℤ, ◌≤ℤ◌, neg_ℤ, pos, negsuc, true, false, Some, None, List, [], ◌∷◌, slice_get}
use Rattle.std.proofs.Common.{true≢false, refl, sym, ap, subst, inl, arith}
use Rattle.std.proofs.lemmas.Int.{ints}
use Rattle.lcc_base.specs.declared.order.Order.TheVariants.{Little}
use Rattle.objects.specs.declared.operators.Binary.TheVariants.{Add}
use Rattle.objects.specs.declared.value.Value.TheVariants.{Pointer}
use Rattle.op_forest.specs.declared.frame.Slot.{Slot}
use Rattle.op_forest.specs.declared.op.Op.{Op}
use Rattle.op_forest.specs.declared.op.Op.TheVariants as op
use Rattle.op_forest.specs.declared.suffix.Suffix.{Suffix}
use Rattle.op_forest.specs.declared.suffix.Suffix.TheVariants.{I, P}
use Rattle.op_forest.specs.declared.sym.Sym.TheVariants as sym
use Rattle.op_forest.specs.Callees.{Missing}
use Rattle.op_forest.specs.Frames.{end_of, IsFrame}
use Rattle.op_forest.specs.Lowered.{LoweredUnit}
use Rattle.forests.specs.Bodies.{Setting}
use Rattle.forests.specs.Functions.{Program}
use Rattle.forests.specs.Meaning.{call_of}
use Rattle.forests.specs.Words.{Word, Plain}
use Rattle.dag_forest.specs.declared.entry.Entry.{Entry}
use Rattle.dag_forest.specs.declared.entry.Entry.TheVariants.{Value, Root}
use Rattle.dag_forest.specs.declared.kids.Kids.{Kids}
use Rattle.dag_forest.specs.declared.kids.Kids.TheVariants.{Zero, One, Two}
use Rattle.dag_forest.specs.declared.parts.Parts.{Parts}
use Rattle.c_types.specs.CType.{CType}
use Rattle.c_meaning.specs.declared.core_expr.CoreKind.TheVariants as kind
use Rattle.c_meaning.specs.Each.{EachKind}
use Rattle.c_meaning.specs.Units.{UnitTree, IsExpr}
use Rattle.c_runs.specs.Places.{size_of}
use Rattle.c_meaning.specs.Values.{CoreTree}
use Rattle.c_runs.specs.Samples.{int, number, local, var, set, binary}
use Rattle.c_runs.specs.Soundness.{IsTame, EvalStaysSound}
use Rattle.piece_runs.specs.Laws.{IsSplit, AreSplit, FormedIsSplit}
use Rattle.piece_runs.specs.Pieces.{Piece, OfBlock, Mark}
use Rattle.c_expr_agreement.specs.Scenes.{Scene}
use Rattle.lowered_forms.specs.Expressions.{low_e}
use Rattle.lowered_forms.specs.Lows.{Low}
use Rattle.lowered_forms.specs.Places.{is_passed_whole}
use Rattle.c_straight_agree.specs.Agreement.{IsLowered}
use Rattle.c_straight_agree.specs.Checked.{IsModest}
use Rattle.c_straight_agree.specs.Layouts.{FrameLayout, context_in, address_of, IsInSlot, IsWordPlace, IsRoomAt, IsLaidOut}
use Rattle.c_straight_agree.specs.Narrow.{CharsAreNarrow, ShortsAreNarrow}
use Rattle.c_straight_agree.specs.Standing.{IsBody}
use Rattle.c_straight_agree.proofs.lemmas.StraightExpressions.{straight_expressions_agree}

-- ---- the expression, in a function with one local

abbrev pub increment : CoreTree
increment = set 1 (local 1 int 0) (binary 1 Add (var 1 0) (number 1 1))

abbrev pub slot : Slot
slot = record { offset = negsuc 3; size = 4 }

abbrev source : UnitTree
source = record { functions = []; objects = []; texts = []; tags = []; main = 0 }

abbrev pub layout : FrameLayout
layout = record { types = int ∷ []; parameters = 0; places = negsuc 3 ∷ [] }

abbrev parts : Op → Suffix → Kids → Parts
parts o x ks = record { operator = record { op = o; suffix = x }; kids = ks; sym = sym.Nothing; constant = None }

abbrev constant : Op → Suffix → ℤ → Parts
constant o x z = record { operator = record { op = o; suffix = x }; kids = Zero; sym = sym.Nothing; constant = Some z }

-- the local's address is one node, which the read and the store share
abbrev pub entries : List Entry
entries =
    Value (constant op.Addrl P (negsuc 3)) ∷ Value (parts op.Indir I (One 0)) ∷ Value (constant op.Cnst I (pos 1)) ∷ Value (parts op.Add I (Two 1 2)) ∷ Root (parts op.Asgn I (Two 0 3)) ∷ []

abbrev pub pieces : List Piece
pieces = OfBlock (slot ∷ []) entries ∷ []

abbrev target : LoweredUnit
target = record { functions = []; objects = []; names = []; order = Little }

abbrev program : Program
program = record { callee = λ name. Missing; global = λ name. None; order = Little }

abbrev setting : Setting
setting = record { call = call_of program; environment = record { global = program.global; order = Little; home = record { function = 0; place = 0; made = 0; slots = slot ∷ []; words = 0 } } }

abbrev pub scene : Scene
scene = record {
  unit = source;
  own = 0;
  lowered = target;
  body = record { program = program; setting = setting; pieces = pieces };
  frame = record { types = int ∷ []; addresses = Plain (Pointer (record { place = 0; made = 0; size = 4 }) 0) ∷ []; others = [] };
}

abbrev pub start : Low
start = record { pieces = []; entries = []; slots = slot ∷ []; labels = 0 }

lowered_so : (low_e (context_in scene layout) increment start).low.entries ≡ entries
lowered_so = refl

-- ---- the body

same_slot : {x y : Slot} → Some x ≡ Some y → x ≡ y
same_slot e = cc

one_slot : IsFrame (slot ∷ [])
one_slot = record {
  four = λ i s e. four i s e;
  ends = λ i s e. ends i s e;
  apart = λ i j s t e f. inl (first i s e j t f);
}
  where
    four : (i : ℕ) (s : Slot) → slice_get (slot ∷ []) i ≡ Some s → (k : ℕ) × (s.offset ≡ neg_ℤ (pos (4 * k)))
    four zero s e = (1, ap (λ (x : Slot). x.offset) (sym (same_slot e)))
    four (suc i) s e = absurd (let never : ⊥ = cc in never)

    ends : (i : ℕ) (s : Slot) → slice_get (slot ∷ []) i ≡ Some s → end_of s ≤ℤ pos 0
    ends zero s e = subst (λ (x : Slot). end_of x ≤ℤ pos 0) (same_slot e) (omega (arith, ints))
    ends (suc i) s e = absurd (let never : ⊥ = cc in never)

    first : (i : ℕ) (s : Slot) → slice_get (slot ∷ []) i ≡ Some s → (j : ℕ) (t : Slot) → slice_get (slot ∷ []) j ≡ Some t → i ≡ j
    first zero s e zero t f = refl
    first zero s e (suc j) t f = absurd (let never : ⊥ = cc in never)
    first (suc i) s e j t f = absurd (let never : ⊥ = cc in never)

one_block : FormedIsSplit → AreSplit scene.body
one_block law [] rest before es is =
    let before_is : slot ∷ [] ≡ before = ap (λ (ps : List Piece). before_of ps) is in
    let es_is : entries ≡ es = ap (λ (ps : List Piece). entries_of ps) is in
    subst (λ (b : List Slot). IsSplit scene.body b es) before_is
    (subst (λ (fs : List Entry). IsSplit scene.body (slot ∷ []) fs) es_is (law scene.body (slot ∷ []) [] entries one_slot (tt, (omega arith, (tt, ((omega arith, omega arith), ((omega arith, omega arith), tt))))) refl))
  where
    before_of : List Piece → List Slot
    before_of [] = []
    before_of (OfBlock before es ∷ ps) = before
    before_of (Mark l ∷ ps) = []

    entries_of : List Piece → List Entry
    entries_of [] = []
    entries_of (OfBlock before es ∷ ps) = es
    entries_of (Mark l ∷ ps) = []
one_block law (p ∷ []) rest before es is = absurd (let never : ⊥ = cc in never)
one_block law (p ∷ q ∷ ps) rest before es is = absurd (let never : ⊥ = cc in never)

is_body : FormedIsSplit → IsBody scene 1
is_body law = record {
  split = one_block law;
  tame = record { functions = tt; objects = tt; texts = tt };
  order = refl;
  words = λ name v e. absurd (let never : ⊥ = cc in never);
  above = omega arith;
  hidden = λ i le lt. absurd (omega (arith, le, lt));
}

-- ---- its locals

in_slot : IsInSlot scene (negsuc 3) 4
in_slot = record { number = 0; slot = slot; start = 0; there = refl; is = refl; fits = omega arith }

same_type : {x y : CType} → Some x ≡ Some y → x ≡ y
same_type e = cc

same_place : {x y : ℤ} → Some x ≡ Some y → x ≡ y
same_place e = cc

same_word : {x y : Word} → Some x ≡ Some y → x ≡ y
same_word e = cc

is_laid_out : IsLaidOut scene layout
is_laid_out = record {
  frame = one_slot;
  types = refl;
  places = λ n of e. places n of e;
  addresses = λ n of z w e whole f g. addresses n of z w f g;
  wholes = λ n of z e whole f. wholes n of z e whole;
  functions = λ n lt. absurd (omega (arith, lt));
  objects = λ n lt. absurd (omega (arith, lt));
  texts = λ n lt. absurd (omega (arith, lt));
}
  where
    places : (n : ℕ) (of : CType) → slice_get layout.types n ≡ Some of → (z : ℤ) × (slice_get layout.places n ≡ Some z) × IsRoomAt scene z (size_of [] of)
    places zero of e = (negsuc 3, refl, subst (λ (t : CType). IsInSlot scene (negsuc 3) (size_of [] t)) (same_type e) in_slot)
    places (suc n) of e = absurd (let never : ⊥ = cc in never)

    wholes : (n : ℕ) (of : CType) (z : ℤ) → slice_get layout.types n ≡ Some of → is_passed_whole (context_in scene layout) n of ≡ true → IsWordPlace scene z
    wholes zero of z e whole = absurd (true≢false (sym whole))
    wholes (suc n) of z e whole = absurd (let never : ⊥ = cc in never)

    addresses : (n : ℕ) (of : CType) (z : ℤ) (w : Word) → slice_get layout.places n ≡ Some z → slice_get scene.frame.addresses n ≡ Some w → address_of setting.environment.home z ≡ Some w
    addresses zero of z w f g = subst (λ (i : ℤ). address_of setting.environment.home i ≡ Some w) (same_place f) g
    addresses (suc n) of z w f g = absurd (let never : ⊥ = cc in never)

-- ---- it agrees

local_is_checked : IsExpr source layout.types (local 1 int 0)
local_is_checked = (tt, (refl, (int, refl, refl)))

sum_is_checked : IsExpr source layout.types (binary 1 Add (var 1 0) (number 1 1))
sum_is_checked = (((((local_is_checked, tt), (refl, (refl, (refl, refl))))), ((tt, (refl, refl)), tt)), (refl, (refl, ((refl, refl), (refl, refl)))))

is_checked : IsExpr source layout.types increment
is_checked = ((local_is_checked, (sum_is_checked, tt)), (refl, (refl, (refl, (refl, refl)))))

is_tame : IsTame increment
is_tame = (tt, ((tt, tt), ((tt, ((tt, ((tt, tt), tt)), ((omega arith, tt), tt))), tt)))

is_modest : EachKind (IsModest scene) increment
is_modest = (tt, ((tt, tt), ((tt, ((tt, ((tt, tt), tt)), ((tt, tt), tt))), tt)))

increment_agrees : CharsAreNarrow → ShortsAreNarrow → EvalStaysSound → FormedIsSplit → IsLowered scene layout increment start (low_e (context_in scene layout) increment start)
increment_agrees chars shorts evals law =
    straight_expressions_agree chars shorts evals scene 1 layout increment start (is_body law) is_laid_out refl is_checked is_tame is_modest (λ e. absurd (true≢false (sym e))) (omega arith)

-- ---- what is refused

-- the slot has no room for five bytes
too_far : IsInSlot scene (negsuc 3) 5 → ⊥
too_far h = far h.number h.slot h.start h.there h.fits
  where
    far : (number : ℕ) (s : Slot) (at : ℕ) → slice_get (slot ∷ []) number ≡ Some s → at + 5 ≤ s.size → ⊥
    far zero s at e fits = let four = ap (λ (x : Slot). x.size) (same_slot e) in omega (arith, four, fits)
    far (suc n) s at e fits = let never : ⊥ = cc in never

-- a pointer doesn't move by elements of 2^32 bytes
too_large : IsModest scene (kind.Move 4294967296 false) → ⊥
too_large h = omega (arith, h)
