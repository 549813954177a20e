-- Calls: the arguments from left to right, a structure as the address of a copy that is made at once; then the argument words in order,
-- before them the address for a structure result; and then the call, whose value is stored in a slot at once.
-- Source: ISO/IEC 9899:1990, 6.3.2.2; Fraser and Hanson, A Retargetable C Compiler, chapters 5 and 12 (ARG, CALL; calls listed as roots).
use Rattle.std.specs.Prelude.{ℕ, suc, Bool, true, false, ℤ, List, [], ◌∷◌, ◌++◌}
use Rattle.op_forest.specs.declared.op.Op.TheVariants as op
use Rattle.op_forest.specs.declared.suffix.Suffix.{Suffix}
use Rattle.op_forest.specs.declared.suffix.Suffix.TheVariants.{I, P}
use Rattle.c_types.specs.CType.{CType}
use Rattle.c_meaning.specs.CoreTrees.{type_of}
use Rattle.c_meaning.specs.Types.{is_void, is_pointer, is_record}
use Rattle.c_rows_agree.specs.Templates.{Template, One, Root}
use Rattle.c_rows_agree.specs.Typed.{Typed, head, as_i_from, as_p}
use Rattle.c_pointers_agree.specs.Pointers.{local, call_head}
use Rattle.lowered_forms.specs.Contexts.{Context}
use Rattle.lowered_forms.specs.Lows.{Low, acted, acted_one, slot_offset, with_slot}
use Rattle.lowered_forms.specs.Straight.{straight}
use Rattle.lowered_forms.specs.Values.{Lowered, Part, nothing, placed, held, slot_read}
use Rattle.lowered_forms.specs.Places.{local_place}
use Rattle.lowered_forms.specs.Accesses.{copied}

-- ---- arguments

-- operands in order, the local for the next copy, and how far the function is lowered
pub record Passed : Type 0 where
  pub values : List Typed
  pub next : ℕ
  pub low : Low

abbrev pub with_first : Typed → Passed → Passed
with_first v p = record { values = v ∷ p.values; next = p.next; low = p.low }

abbrev pub before : Lowered → (Low → Passed) → Passed
before r go = with_first r.value (go r.low)

-- operands that wait for another one, by whether that is straight
abbrev pub all_held : Bool → ℕ → List Typed → Low → Passed
all_held is_straight n [] l = record { values = []; next = n; low = l }
all_held is_straight n (v ∷ vs) l = before (held is_straight v l) (λ l1. all_held is_straight n vs l1)

-- an argument is passed behind others
abbrev pub behind : List Typed → Typed → ℕ → Low → Passed
behind vs v n l = record { values = vs ++ v ∷ []; next = n; low = l }

-- by whether it is a structure
abbrev pub passed_by : Bool → Context → CType → Passed → Lowered → Passed
passed_by true s of p r = behind p.values (local_place s p.next of) (suc p.next) (copied s.unit.tags of (local_place s p.next of) r.value r.low)
passed_by false s of p r = behind p.values r.value p.next r.low

abbrev pub with_argument : Context → Part → Passed → Passed
with_argument s a p = passed_by (is_record (type_of a.tree)) s (type_of a.tree) p (a.value p.low)

abbrev pub held_for : Part → Passed → Passed
held_for a p = all_held (straight a.tree) p.next p.values p.low

-- behind operands that are there
abbrev pub with_arguments : Context → List Part → Passed → Passed
with_arguments s [] p = p
with_arguments s (a ∷ as') p = with_arguments s as' (with_argument s a (held_for a p))

-- ---- argument words

abbrev pub word_passed : Suffix → Template → Low → Low
word_passed P t l = acted_one (head op.Arg P) t l
word_passed x t l = acted_one (head op.Arg I) (as_i_from x t) l

abbrev pub all_passed : List Typed → Low → Low
all_passed [] l = l
all_passed (v ∷ vs) l = all_passed vs (word_passed v.suffix v.tree l)

-- ---- the call

-- without a value
abbrev pub called : Typed → Low → Low
called f l = acted_one (call_head false) (as_p f) l

-- with one, in a slot
abbrev pub call_stored : ℤ → Typed → Root
call_stored z f = record { head = head op.Asgn I; left = (local z).tree; right = One (call_head true) (as_p f) }

abbrev pub result_suffix : Bool → Suffix
result_suffix true = P
result_suffix false = I

abbrev pub called_in : ℤ → Suffix → Typed → Low → Lowered
called_in z x f l = placed (slot_read x z) (acted (call_stored z f) l)

-- a scalar, nothing, or a structure at a place
abbrev pub scalar_given : CType → Typed → List Typed → Low → Lowered
scalar_given of f vs l = called_in (slot_offset l) (result_suffix (is_pointer of)) f (all_passed vs (with_slot l))

abbrev pub nothing_given : Typed → List Typed → Low → Lowered
nothing_given f vs l = nothing (called f (all_passed vs l))

abbrev pub whole_given : Typed → Typed → List Typed → Low → Lowered
whole_given place f vs l = placed place (called f (all_passed (place ∷ vs) l))

abbrev pub given_by : Bool → Bool → Context → CType → ℕ → Typed → List Typed → Low → Lowered
given_by true void s of n f vs l = whole_given (local_place s n of) f vs l
given_by false true s of n f vs l = nothing_given f vs l
given_by false false s of n f vs l = scalar_given of f vs l

-- the first operand is called with the others
abbrev pub made : Context → CType → ℕ → List Typed → Low → Lowered
made s of n [] l = nothing l
made s of n (f ∷ vs) l = given_by (is_record of) (is_void of) s of n f vs l

abbrev pub made_with : Context → CType → Passed → Lowered
made_with s of p = made s of p.next p.values p.low

abbrev pub first_passed : ℕ → Lowered → Passed
first_passed n r = record { values = r.value ∷ []; next = n; low = r.low }

-- a call whose copies of structures begin at this local
abbrev pub calling : Context → ℕ → CType → Part → List Part → Low → Lowered
calling s n of f ps l = made_with s of (with_arguments s ps (first_passed n (f.value l)))
