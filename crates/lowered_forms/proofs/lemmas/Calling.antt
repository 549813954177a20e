-- What each step keeps, calls keep: with a root for each argument word, each copy of a structure, and the call.
use Rattle.std.specs.Prelude.{◌≡◌, ℕ, suc, ◌+◌, Bool, true, false, List, [], ◌∷◌, ◌++◌, length}
use Rattle.std.proofs.Common.{refl, ap, ◌∙◌, arith}
use Rattle.op_forest.specs.declared.op.Op.TheVariants as op
use Rattle.op_forest.specs.declared.suffix.Suffix.{Suffix}
use Rattle.op_forest.specs.declared.suffix.Suffix.TheVariants.{C, S, I, U, P, B, V}
use Rattle.c_types.specs.CType.{CType}
use Rattle.c_meaning.specs.CoreTrees.{type_of}
use Rattle.c_meaning.specs.Types.{is_void, is_pointer, is_record}
use Rattle.c_runs.specs.Places.{size_of, align_of}
use Rattle.c_rows_agree.specs.Templates.{Template}
use Rattle.c_rows_agree.specs.Typed.{Typed, head, as_i_from, as_p}
use Rattle.c_pointers_agree.specs.Pointers.{call_head}
use Rattle.lowered_forms.specs.Accesses.{copy_root}
use Rattle.lowered_forms.specs.Calls.{Passed, all_held, passed_by, with_argument, held_for, word_passed, all_passed, called, call_stored, result_suffix, scalar_given, given_by, made}
use Rattle.lowered_forms.specs.Contexts.{Context}
use Rattle.lowered_forms.specs.Lows.{Low, acted, with_slot, slot_offset}
use Rattle.lowered_forms.specs.Places.{local_place}
use Rattle.lowered_forms.specs.Steps.{Relation, Steps, Jumps}
use Rattle.lowered_forms.specs.Straight.{straight}
use Rattle.lowered_forms.specs.Values.{Lowered, Part, held, slot_read}
use Rattle.lowered_forms.proofs.lemmas.Stepping.{ahead, behind, placed_steps, held_steps}

-- ---- arguments

all_held_steps : (R : Relation) → Steps R → (b : Bool) → (b ≡ false → Jumps R) → (n : ℕ) (vs : List Typed) (l : Low) → R 0 l (all_held b n vs l).low
all_held_steps R k b j n [] l = k.same l
all_held_steps R k b j n (v ∷ vs) l = ahead R k 0 l (held b v l).low _ (held_steps R k b j v l) (all_held_steps R k b j n vs (held b v l).low)

all_held_length : (b : Bool) (n : ℕ) (vs : List Typed) (l : Low) → length (all_held b n vs l).values ≡ length vs
all_held_length b n [] l = refl
all_held_length b n (v ∷ vs) l = ap suc (all_held_length b n vs (held b v l).low)

passed_steps : (R : Relation) → Steps R → (b : Bool) (s : Context) (of : CType) (p : Passed) (r : Lowered) → R 1 r.low (passed_by b s of p r).low
passed_steps R k true s of p r = k.acts (copy_root (size_of s.unit.tags of) (align_of s.unit.tags of) (local_place s p.next of) r.value) r.low
passed_steps R k false s of p r = k.weakens 0 1 r.low r.low (omega arith) (k.same r.low)

one_longer : (vs : List Typed) (v : Typed) → length (vs ++ v ∷ []) ≡ suc (length vs)
one_longer [] v = refl
one_longer (x ∷ vs) v = ap suc (one_longer vs v)

passed_length : (b : Bool) (s : Context) (of : CType) (p : Passed) (r : Lowered) → length (passed_by b s of p r).values ≡ suc (length p.values)
passed_length true s of p r = one_longer p.values (local_place s p.next of)
passed_length false s of p r = one_longer p.values r.value

-- an argument whose value has at most so many roots
pub argument_steps : (R : Relation) → Steps R → (m : ℕ) (s : Context) (a : Part) → (straight a.tree ≡ false → Jumps R) → ((l : Low) → R m l (a.value l).low) → (p : Passed)
    → R (m + 1) p.low (with_argument s a (held_for a p)).low
argument_steps R k m s a j f p =
    let q = held_for a p in
    ahead R k (m + 1) p.low q.low _ (all_held_steps R k (straight a.tree) j p.next p.values p.low)
    (k.joins m 1 q.low (a.value q.low).low _ (f q.low) (passed_steps R k (is_record (type_of a.tree)) s (type_of a.tree) q (a.value q.low)))

pub argument_length : (s : Context) (a : Part) (p : Passed) → length (with_argument s a (held_for a p)).values ≡ suc (length p.values)
argument_length s a p =
    passed_length (is_record (type_of a.tree)) s (type_of a.tree) (held_for a p) (a.value (held_for a p).low)
    ∙ ap suc (all_held_length (straight a.tree) p.next p.values p.low)

-- ---- the call

word_steps : (R : Relation) → Steps R → (x : Suffix) (t : Template) (l : Low) → R 1 l (word_passed x t l)
word_steps R k C t l = k.acts_one (head op.Arg I) (as_i_from C t) l
word_steps R k S t l = k.acts_one (head op.Arg I) (as_i_from S t) l
word_steps R k I t l = k.acts_one (head op.Arg I) (as_i_from I t) l
word_steps R k U t l = k.acts_one (head op.Arg I) (as_i_from U t) l
word_steps R k P t l = k.acts_one (head op.Arg P) t l
word_steps R k B t l = k.acts_one (head op.Arg I) (as_i_from B t) l
word_steps R k V t l = k.acts_one (head op.Arg I) (as_i_from V t) l

words_steps : (R : Relation) → Steps R → (vs : List Typed) (l : Low) → R (length vs) l (all_passed vs l)
words_steps R k [] l = k.same l
words_steps R k (v ∷ vs) l = k.weakens (1 + length vs) (suc (length vs)) l _ (omega arith) (k.joins 1 (length vs) l (word_passed v.suffix v.tree l) _ (word_steps R k v.suffix v.tree l) (words_steps R k vs (word_passed v.suffix v.tree l)))

scalar_steps : (R : Relation) → Steps R → (of : CType) (f : Typed) (vs : List Typed) (l : Low) → R (length vs + 1) l (scalar_given of f vs l).low
scalar_steps R k of f vs l =
    ahead R k (length vs + 1) l (with_slot l) _ (k.slot l)
    (k.joins (length vs) 1 (with_slot l) (all_passed vs (with_slot l)) _ (words_steps R k vs (with_slot l))
    (behind R k 1 (all_passed vs (with_slot l)) (acted (call_stored (slot_offset l) f) (all_passed vs (with_slot l))) _ (k.acts (call_stored (slot_offset l) f) (all_passed vs (with_slot l)))
    (placed_steps R k (slot_read (result_suffix (is_pointer of)) (slot_offset l)) (acted (call_stored (slot_offset l) f) (all_passed vs (with_slot l))))))

called_steps : (R : Relation) → Steps R → (f : Typed) (vs : List Typed) (l : Low) → R (length vs + 1) l (called f (all_passed vs l))
called_steps R k f vs l = k.joins (length vs) 1 l (all_passed vs l) _ (words_steps R k vs l) (k.acts_one (call_head false) (as_p f) (all_passed vs l))

given_steps : (R : Relation) → Steps R → (b void : Bool) (s : Context) (of : CType) (n : ℕ) (f : Typed) (vs : List Typed) (l : Low) → R (length vs + 2) l (given_by b void s of n f vs l).low
given_steps R k true void s of n f vs l =
    let ws = local_place s n of ∷ vs in
    k.weakens (length ws + 1) (length vs + 2) l _ (omega arith)
    (behind R k (length ws + 1) l (called f (all_passed ws l)) _ (called_steps R k f ws l) (placed_steps R k (local_place s n of) (called f (all_passed ws l))))
given_steps R k false true s of n f vs l = k.weakens (length vs + 1) (length vs + 2) l _ (omega arith) (called_steps R k f vs l)
given_steps R k false false s of n f vs l = k.weakens (length vs + 1) (length vs + 2) l _ (omega arith) (scalar_steps R k of f vs l)

-- of so many operands the first is called
pub made_steps : (R : Relation) → Steps R → (s : Context) (of : CType) (n : ℕ) (vs : List Typed) (l : Low) → R (length vs + 1) l (made s of n vs l).low
made_steps R k s of n [] l = k.weakens 0 1 l l (omega arith) (k.same l)
made_steps R k s of n (f ∷ vs) l = k.weakens (length vs + 2) (length (f ∷ vs) + 1) l _ (omega arith) (given_steps R k (is_record of) (is_void of) s of n f vs l)
