-- What calls come to finds nodes of the open block.
use Rattle.std.specs.Prelude.{◌≡◌, ◌≤◌, ℕ, Bool, true, false, ℤ, pos, negsuc, Option, Some, None, List, [], ◌∷◌, ◌++◌, slice_get}
use Rattle.std.proofs.Common.{refl, arith}
use Rattle.op_forest.specs.declared.op.Op.TheVariants as op
use Rattle.op_forest.specs.declared.suffix.Suffix.{Suffix}
use Rattle.op_forest.specs.declared.suffix.Suffix.TheVariants.{C, S, I, U, P, B, V}
use Rattle.c_types.specs.CType.{CType}
use Rattle.c_meaning.specs.CoreTrees.{type_of}
use Rattle.c_meaning.specs.Types.{is_void, is_pointer, is_record}
use Rattle.c_rows_agree.specs.Templates.{Template}
use Rattle.c_rows_agree.specs.Typed.{Typed, head, as_i_from, as_p}
use Rattle.c_pointers_agree.specs.Pointers.{call_head}
use Rattle.lowered_forms.specs.Accesses.{copied}
use Rattle.lowered_forms.specs.Blocks.{IsBlock, IsWithin}
use Rattle.lowered_forms.specs.Calls.{Passed, all_held, passed_by, with_argument, held_for, word_passed, all_passed, called, call_stored, result_suffix, given_by, made}
use Rattle.lowered_forms.specs.Contexts.{Context}
use Rattle.lowered_forms.specs.Lows.{Low, acted, with_slot, slot_offset}
use Rattle.lowered_forms.specs.Places.{local_place, local_by, is_passed_whole}
use Rattle.lowered_forms.specs.Straight.{straight}
use Rattle.lowered_forms.specs.Values.{Lowered, Part, held, slot_read}
use Rattle.lowered_forms.proofs.lemmas.WithinTemplates.{HasIn, as_p_in, local_in, slot_in}
use Rattle.lowered_forms.proofs.lemmas.Pending.{nodes, IsPending, pending_in, pending_more, Comes, placed_comes, Acted, acted_comes, acted_one_comes, held_comes, held_free, PartComes}
use Rattle.lowered_forms.proofs.lemmas.NodesOfChanges.{more_in, copied_comes}

-- ---- calls

abbrev pub AllPending : ℕ → List Typed → Type 0
AllPending n [] = Unit {0}
AllPending n (v ∷ vs) = IsPending n v.tree × AllPending n vs

all_more : (m n : ℕ) (vs : List Typed) → m ≤ n → AllPending m vs → AllPending n vs
all_more m n [] h f = tt
all_more m n (v ∷ vs) h f = (pending_more m n v.tree h f.0, all_more m n vs h f.1)

all_with : (n : ℕ) (vs : List Typed) (v : Typed) → AllPending n vs → IsPending n v.tree → AllPending n (vs ++ v ∷ [])
all_with n [] v f h = (h, tt)
all_with n (x ∷ vs) v f h = (f.0, all_with n vs v f.1 h)

all_held_acts : (st : Bool) (n : ℕ) (vs : List Typed) (l : Low) → IsBlock l.entries → AllPending (nodes l) vs → Acted l (all_held st n vs l).low
all_held_acts st n [] l b f = record { block = b; more = omega arith }
all_held_acts st n (v ∷ vs) l b f =
    let l1 = (held st v l).low in
    let a = held_comes st v l b (pending_in (nodes l) v.tree f.0) in
    let c = all_held_acts st n vs l1 a.block (all_more (nodes l) (nodes l1) vs a.more f.1) in
    record { block = c.block; more = (let x = a.more in let y = c.more in omega (arith, x, y)) }

all_held_free : (m n : ℕ) (vs : List Typed) (l : Low) → AllPending m vs → AllPending 0 (all_held false n vs l).values
all_held_free m n [] l f = tt
all_held_free m n (v ∷ vs) l f = (held_free m v l f.0, all_held_free m n vs (held false v l).low f.1)

all_held_same : (m n : ℕ) (vs : List Typed) (l : Low) → AllPending m vs → AllPending m (all_held true n vs l).values
all_held_same m n [] l f = tt
all_held_same m n (v ∷ vs) l f = (f.0, all_held_same m n vs l f.1)

pub record PassedComes (p : Passed) : Type 0 where
  pub block : IsBlock p.low.entries
  pub values : AllPending (nodes p.low) p.values

same_nodes : (n : ℕ) (vs : List Typed) (l : Low) → nodes (all_held true n vs l).low ≡ nodes l
same_nodes n [] l = refl
same_nodes n (v ∷ vs) l = same_nodes n vs l

-- operands that wait for a part, behind it
held_values : (st : Bool) (a : Part) → PartComes a → (st ≡ true → straight a.tree ≡ true) → (n : ℕ) (vs : List Typed) (l : Low) → AllPending (nodes l) vs
    → AllPending (nodes (a.value (all_held st n vs l).low).low) (all_held st n vs l).values
held_values true a p e n vs l f =
    let q = all_held true n vs l in
    let g : nodes q.low ≤ nodes (a.value q.low).low = p.grows (e refl) q.low in
    all_more (nodes l) (nodes (a.value q.low).low) q.values (let h = same_nodes n vs l in omega (arith, g, h)) (all_held_same (nodes l) n vs l f)
held_values false a p e n vs l f =
    let q = all_held false n vs l in
    all_more 0 (nodes (a.value q.low).low) q.values (omega arith) (all_held_free (nodes l) n vs l f)

local_pending : (n : ℕ) (b : Bool) (z : Option ℤ) → IsPending n (local_by b z).tree
local_pending n true None = tt
local_pending n false None = tt
local_pending n true (Some (pos m)) = tt
local_pending n true (Some (negsuc m)) = tt
local_pending n false (Some (pos m)) = tt
local_pending n false (Some (negsuc m)) = tt

passed_come : (b : Bool) (s : Context) (of : CType) (p : Passed) (r : Lowered) → Comes r → AllPending (nodes r.low) p.values → PassedComes (passed_by b s of p r)
passed_come true s of p r c f =
    let to = local_place s p.next of in
    let a = copied_comes s of to r.value r.low c.block (local_in (nodes r.low) (is_passed_whole s p.next of) (slice_get s.places p.next)) (pending_in (nodes r.low) r.value.tree c.value) in
    let n = nodes (copied s.unit.tags of to r.value r.low) in
    record { block = a.block; values = all_with n p.values to (all_more (nodes r.low) n p.values a.more f) (local_pending n (is_passed_whole s p.next of) (slice_get s.places p.next)) }
passed_come false s of p r c f = record { block = c.block; values = all_with (nodes r.low) p.values r.value f c.value }

pub argument_comes : (s : Context) (a : Part) → PartComes a → (p : Passed) → PassedComes p → PassedComes (with_argument s a (held_for a p))
argument_comes s a h p c =
    let q = held_for a p in
    let d = all_held_acts (straight a.tree) p.next p.values p.low c.block c.values in
    passed_come (is_record (type_of a.tree)) s (type_of a.tree) q (a.value q.low) (h.value q.low d.block) (held_values (straight a.tree) a h (λ e. e) p.next p.values p.low c.values)

word_comes : (x : Suffix) (t : Template) (l : Low) → IsBlock l.entries → IsWithin (nodes l) t → Acted l (word_passed x t l)
word_comes C t l b h = acted_one_comes (head op.Arg I) t l b h
word_comes S t l b h = acted_one_comes (head op.Arg I) t l b h
word_comes I t l b h = acted_one_comes (head op.Arg I) t l b h
word_comes U t l b h = acted_one_comes (head op.Arg I) (as_i_from U t) l b h
word_comes P t l b h = acted_one_comes (head op.Arg P) t l b h
word_comes B t l b h = acted_one_comes (head op.Arg I) t l b h
word_comes V t l b h = acted_one_comes (head op.Arg I) t l b h

words_come : (vs : List Typed) (l : Low) → IsBlock l.entries → AllPending (nodes l) vs → Acted l (all_passed vs l)
words_come [] l b f = record { block = b; more = omega arith }
words_come (v ∷ vs) l b f =
    let l1 = word_passed v.suffix v.tree l in
    let a = word_comes v.suffix v.tree l b (pending_in (nodes l) v.tree f.0) in
    let c = words_come vs l1 a.block (all_more (nodes l) (nodes l1) vs a.more f.1) in
    record { block = c.block; more = (let x = a.more in let y = c.more in omega (arith, x, y)) }

called_comes : (f : Typed) (vs : List Typed) (l : Low) → IsBlock l.entries → HasIn (nodes l) f → AllPending (nodes l) vs → IsBlock (called f (all_passed vs l)).entries
called_comes f vs l b h g =
    let a = words_come vs l b g in
    let n = nodes (all_passed vs l) in
    (acted_one_comes (call_head false) (as_p f) (all_passed vs l) a.block (as_p_in n f.suffix f.tree (more_in (nodes l) n f a.more h))).block

given_come : (b void : Bool) (s : Context) (of : CType) (n : ℕ) (f : Typed) (vs : List Typed) (l : Low) → IsBlock l.entries → HasIn (nodes l) f → AllPending (nodes l) vs → Comes (given_by b void s of n f vs l)
given_come true void s of n f vs l b h g =
    let to = local_place s n of in
    let l1 = called f (all_passed (to ∷ vs) l) in
    placed_comes to l1 (called_comes f (to ∷ vs) l b h (local_pending (nodes l) (is_passed_whole s n of) (slice_get s.places n), g)) (local_in (nodes l1) (is_passed_whole s n of) (slice_get s.places n))
given_come false true s of n f vs l b h g = record { block = called_comes f vs l b h g; value = tt }
given_come false false s of n f vs l b h g =
    let l1 = all_passed vs (with_slot l) in
    let a = words_come vs (with_slot l) b g in
    let l2 = acted (call_stored (slot_offset l) f) l1 in
    let c = acted_comes (call_stored (slot_offset l) f) l1 a.block tt (as_p_in (nodes l1) f.suffix f.tree (more_in (nodes l) (nodes l1) f a.more h)) in
    placed_comes (slot_read (result_suffix (is_pointer of)) (slot_offset l)) l2 c.block (slot_in (nodes l2) (result_suffix (is_pointer of)) (slot_offset l))

pub made_come : (s : Context) (of : CType) (n : ℕ) (vs : List Typed) (l : Low) → IsBlock l.entries → AllPending (nodes l) vs → Comes (made s of n vs l)
made_come s of n [] l b f = record { block = b; value = tt }
made_come s of n (f ∷ vs) l b g = given_come (is_record of) (is_void of) s of n f vs l b (pending_in (nodes l) f.tree g.0) g.1
