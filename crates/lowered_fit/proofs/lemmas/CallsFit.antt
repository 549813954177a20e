-- Calls over parts that fit.
use Rattle.std.specs.Prelude.{◌≡◌, ℕ, Bool, true, false, ℤ, List, [], ◌∷◌, ◌++◌}
use Rattle.std.proofs.Common.{refl, arith}
use Rattle.op_forest.specs.declared.frame.Slot.{Slot}
use Rattle.op_forest.specs.declared.op.Op.TheVariants as op
use Rattle.op_forest.specs.declared.suffix.Suffix.{Suffix}
use Rattle.op_forest.specs.declared.suffix.Suffix.TheVariants.{C, S, I, U, P, B, V}
use Rattle.forests.specs.WellFormed.{LiesInOne}
use Rattle.c_types.specs.CType.{CType}
use Rattle.c_meaning.specs.CoreTrees.{type_of}
use Rattle.c_meaning.specs.Types.{is_void, is_pointer, is_record}
use Rattle.c_pointers_agree.specs.Pointers.{call_head}
use Rattle.c_rows_agree.specs.Integers.{number}
use Rattle.c_rows_agree.specs.Templates.{Template}
use Rattle.c_rows_agree.specs.Typed.{Typed, head, as_i, as_p}
use Rattle.lowered_forms.specs.Accesses.{copied}
use Rattle.lowered_forms.specs.Calls.{Passed, all_held, passed_by, with_argument, held_for, word_passed, all_passed, called, call_stored, result_suffix, scalar_given, given_by, made}
use Rattle.lowered_forms.specs.Contexts.{Context}
use Rattle.lowered_forms.specs.Lows.{Low, acted, acted_one, slot_offset, with_slot}
use Rattle.lowered_forms.specs.Places.{local_place}
use Rattle.lowered_forms.specs.Straight.{straight}
use Rattle.lowered_forms.specs.Values.{Lowered, Part, held, slot_read}
use Rattle.lowered_fit.specs.Fitted.{Standing, FitsTyped, FitsRoot, KeepsKeys}
use Rattle.lowered_fit.specs.States.{IsFitState, IsWider, standing_in, bare, FitsOperand, IsFitResult, FitsContext}
use Rattle.lowered_fit.proofs.lemmas.AccessesFit.{p_fits, copied_goes}
use Rattle.lowered_fit.proofs.lemmas.Operands.{keys_in, Goes, goes_nowhere, goes_on, just_placed, acted_goes, lone_goes, slot_goes, slot_lies, slot_fits, local_fits, Waits, is_held, operand_typed, operand_still, typed_still, bare_operand}
use Rattle.lowered_fit.proofs.lemmas.PartsFit.{PartFits}
use Rattle.lowered_fit.proofs.lemmas.PlacesFit.{number_fits, place_fits}
use Rattle.lowered_fit.proofs.lemmas.RowsFit.{i_fits}

arg_no : op.Arg ≡ op.Addrl → ⊥
arg_no e = cc

call_no : op.Call ≡ op.Addrl → ⊥
call_no e = cc

asgn_no : op.Asgn ≡ op.Addrl → ⊥
asgn_no e = cc

-- ---- operands in order

abbrev pub AllFit : Standing → List Typed → Type 0
AllFit g [] = Unit {0}
AllFit g (v ∷ vs) = FitsOperand g v × AllFit g vs

all_still : (g m : Standing) (vs : List Typed) → KeepsKeys g.keys m.keys → IsWider g.slots m.slots → AllFit g vs → AllFit m vs
all_still g m [] k w h = tt
all_still g m (v ∷ vs) k w h = (operand_still g m v k w h.0, all_still g m vs k w h.1)

all_with : (g : Standing) (vs : List Typed) (v : Typed) → AllFit g vs → FitsOperand g v → AllFit g (vs ++ v ∷ [])
all_with g [] v h k = (k, tt)
all_with g (x ∷ vs) v h k = (h.0, all_with g vs v h.1 k)

-- those that wait
abbrev AllWait : Bool → Low → List Typed → Type 0
AllWait true l vs = AllFit (standing_in l) vs
AllWait false l vs = AllFit (bare l.slots) vs

record AreHeld (st : Bool) (l : Low) (p : Passed) : Type 0 where
  pub goes : Goes l p.low
  pub values : AllWait st p.low p.values

one_more : (st : Bool) (r : Lowered) (m : Low) (vs : List Typed) → Waits st r → Goes r.low m → AllWait st m vs → AllWait st m (r.value ∷ vs)
one_more true r m vs h g k = (operand_still (standing_in r.low) (standing_in m) r.value g.keeps g.wide h, k)
one_more false r m vs h g k = (bare_operand (bare m.slots) r.value (typed_still (bare r.low.slots) (bare m.slots) r.value (λ n x e. e) g.wide h), k)

no_more : (st : Bool) (l : Low) → AllWait st l []
no_more true l = tt
no_more false l = tt

are_held : (st : Bool) (n : ℕ) (vs : List Typed) (l : Low) → IsFitState l → AllFit (standing_in l) vs → AreHeld st l (all_held st n vs l)
are_held st n [] l b h = record { goes = goes_nowhere l b; values = no_more st l }
are_held st n (v ∷ vs) l b h =
    let r = held st v l in
    let c = is_held st v l b h.0 in
    let q = all_held st n vs r.low in
    let d = are_held st n vs r.low c.goes.state (all_still (standing_in l) (standing_in r.low) vs c.goes.keeps c.goes.wide h.1) in
    record { goes = goes_on l r.low q.low c.goes d.goes; values = one_more st r q.low q.values c.value d.goes d.values }

all_waited : (st : Bool) (l m : Low) (vs : List Typed) → AllWait st l vs → (st ≡ true → KeepsKeys (keys_in l) (keys_in m)) → IsWider l.slots m.slots → AllFit (standing_in m) vs
all_waited true l m vs h k w = all_still (standing_in l) (standing_in m) vs (k refl) w h
all_waited false l m vs h k w = all_bare vs h
  where
    all_bare : (vs : List Typed) → AllFit (bare l.slots) vs → AllFit (standing_in m) vs
    all_bare [] h = tt
    all_bare (v ∷ vs) h = (operand_still (bare l.slots) (standing_in m) v (λ n x e. let no : ⊥ = cc in absurd no) w h.0, all_bare vs h.1)

-- ---- arguments

pub record PassedFits (l : Low) (p : Passed) : Type 0 where
  pub state : IsFitState p.low
  pub wide : IsWider l.slots p.low.slots
  pub values : AllFit (standing_in p.low) p.values

module _ (s : Context) (slots : List Slot) (places : FitsContext s slots) where
  local_place_fits : (n : ℕ) (of : CType) (l : Low) → IsWider slots l.slots → FitsTyped (standing_in l) (local_place s n of)
  local_place_fits n of l w = place_fits s slots (standing_in l) n of places w

  local_operand : (n : ℕ) (of : CType) (l : Low) → IsWider slots l.slots → FitsOperand (standing_in l) (local_place s n of)
  local_operand n of l w = bare_operand (standing_in l) (local_place s n of) (place_fits s slots (bare l.slots) n of places w)

  by_passed : (m : ℕ) (b : Bool) (of : CType) (p : Passed) (l : Low) (r : Lowered) → IsWider slots l.slots → IsFitResult m l r → AllFit (standing_in r.low) p.values → PassedFits l (passed_by b s of p r)
  by_passed m true of p l r w c h =
      let to = local_place s p.next of in
      let w1 : IsWider slots r.low.slots = λ z e. c.wide z (w z e) in
      let last = copied s.unit.tags of to r.value r.low in
      let g = copied_goes s of to r.value r.low c.state (local_place_fits p.next of r.low w1) (operand_typed (standing_in r.low) r.value c.value) in
      record {
        state = g.state;
        wide = λ z e. g.wide z (c.wide z e);
        values = all_with (standing_in last) p.values to (all_still (standing_in r.low) (standing_in last) p.values g.keeps g.wide h)
            (local_operand p.next of last (λ z e. g.wide z (w1 z e)));
      }
  by_passed m false of p l r w c h = record { state = c.state; wide = c.wide; values = all_with (standing_in r.low) p.values r.value h c.value }

  pub argument_fits : (m : ℕ) (a : Part) → PartFits slots m a → (l : Low) (p : Passed) → IsWider slots l.slots → PassedFits l p → PassedFits l (with_argument s a (held_for a p))
  argument_fits m a f l p w c =
      let st = straight a.tree in
      let q = held_for a p in
      let d = are_held st p.next p.values p.low c.state c.values in
      let w1 : IsWider slots q.low.slots = λ z e. d.goes.wide z (c.wide z (w z e)) in
      let r = a.value q.low in
      let e = f.value q.low w1 d.goes.state in
      let x = by_passed m (is_record (type_of a.tree)) (type_of a.tree) q q.low r w1 e (all_waited st q.low r.low q.values d.values (λ i. f.keeps i q.low) e.wide) in
      record { state = x.state; wide = λ z i. x.wide z (d.goes.wide z (c.wide z i)); values = x.values }

  -- ---- argument words

  number_word : (a : Typed) (l : Low) → IsFitState l → FitsTyped (standing_in l) a → Goes l (acted_one (head op.Arg I) (as_i a) l)
  number_word a l b h = lone_goes (head op.Arg I) (as_i a) I l b (record { operator = omega arith; part = tt; operands = refl; local = λ e. absurd (arg_no e) }) (i_fits (standing_in l) a a h h)

  word_goes : (x : Suffix) (t : Template) (l : Low) → IsFitState l → FitsTyped (standing_in l) (record { tree = t; suffix = x }) → Goes l (word_passed x t l)
  word_goes I t l b h = number_word (record { tree = t; suffix = I }) l b h
  word_goes U t l b h = number_word (record { tree = t; suffix = U }) l b h
  word_goes P t l b h = lone_goes (head op.Arg P) t P l b (record { operator = omega arith; part = tt; operands = refl; local = λ e. absurd (arg_no e) }) h.fits
  word_goes C t l b h = absurd h.scalar
  word_goes S t l b h = absurd h.scalar
  word_goes B t l b h = absurd h.scalar
  word_goes V t l b h = absurd h.scalar

  words_go : (vs : List Typed) (l : Low) → IsFitState l → AllFit (standing_in l) vs → Goes l (all_passed vs l)
  words_go [] l b h = goes_nowhere l b
  words_go (v ∷ vs) l b h =
      let m = word_passed v.suffix v.tree l in
      let g = word_goes v.suffix v.tree l b (operand_typed (standing_in l) v h.0) in
      goes_on l m (all_passed vs m) g (words_go vs m g.state (all_still (standing_in l) (standing_in m) vs g.keeps g.wide h.1))

  -- ---- the call

  called_goes : (f : Typed) (vs : List Typed) (l : Low) → IsFitState l → FitsOperand (standing_in l) f → AllFit (standing_in l) vs → Goes l (called f (all_passed vs l))
  called_goes f vs l b h k =
      let m = all_passed vs l in
      let g = words_go vs l b k in
      let t = operand_typed (standing_in m) f (operand_still (standing_in l) (standing_in m) f g.keeps g.wide h) in
      goes_on l m (called f m) g
      (lone_goes (call_head false) (as_p f) P m g.state (record { operator = omega arith; part = tt; operands = refl; local = λ e. absurd (call_no e) }) (p_fits (standing_in m) f t))

  call_stored_fits : (z : ℤ) (f : Typed) (l : Low) → LiesInOne l.slots z → FitsTyped (standing_in l) f → FitsRoot (standing_in l) (call_stored z f)
  call_stored_fits z f l i h = record {
    first = P;
    second = I;
    fits = record { operator = omega arith; part = tt; operands = refl; local = λ e. absurd (asgn_no e) };
    left = (local_fits (standing_in l) z i).fits;
    right = (P, record { fits = record { operator = omega arith; part = tt; operands = refl; local = λ e. absurd (call_no e) }; value = refl; suffix = refl }, p_fits (standing_in l) f h);
  }

  scalar_given_fits : (of : CType) (f : Typed) (vs : List Typed) (l : Low) → IsFitState l → FitsOperand (standing_in l) f → AllFit (standing_in l) vs → IsFitResult 0 l (scalar_given of f vs l)
  scalar_given_fits of f vs l b h k =
      let l1 = with_slot l in
      let z = slot_offset l in
      let x = slot_goes l b in
      let l2 = all_passed vs l1 in
      let g = words_go vs l1 x.state (all_still (standing_in l) (standing_in l1) vs x.keeps x.wide k) in
      let y = goes_on l l1 l2 x g in
      let t = operand_typed (standing_in l2) f (operand_still (standing_in l) (standing_in l2) f y.keeps y.wide h) in
      let l3 = acted (call_stored z f) l2 in
      let i = g.wide z (slot_lies l) in
      let c = acted_goes (call_stored z f) l2 g.state (call_stored_fits z f l2 i t) in
      let d = just_placed (slot_read (result_suffix (is_pointer of)) z) l3 c.state (slot_fits (standing_in l3) (result_suffix (is_pointer of)) z (c.wide z i)) in
      record { state = d.result.state; wide = λ q e. d.result.wide q (c.wide q (y.wide q e)); value = d.result.value; room = d.result.room }

  given_fits : (b void : Bool) (of : CType) (n : ℕ) (f : Typed) (vs : List Typed) (l : Low) → IsWider slots l.slots → IsFitState l → FitsOperand (standing_in l) f → AllFit (standing_in l) vs
      → IsFitResult 0 l (given_by b void s of n f vs l)
  given_fits true void of n f vs l w b h k =
      let to = local_place s n of in
      let m = called f (all_passed (to ∷ vs) l) in
      let g = called_goes f (to ∷ vs) l b h (local_operand n of l w, k) in
      let d = just_placed to m g.state (local_place_fits n of m (λ z e. g.wide z (w z e))) in
      record { state = d.result.state; wide = λ q e. d.result.wide q (g.wide q e); value = d.result.value; room = d.result.room }
  given_fits false true of n f vs l w b h k =
      let m = called f (all_passed vs l) in
      let g = called_goes f vs l b h k in
      record { state = g.state; wide = g.wide; value = bare_operand (standing_in m) (number true 0) (number_fits (bare m.slots) true 0 (omega arith)); room = tt }
  given_fits false false of n f vs l w b h k = scalar_given_fits of f vs l b h k

  pub made_fits : (of : CType) (n : ℕ) (vs : List Typed) (l : Low) → IsWider slots l.slots → IsFitState l → AllFit (standing_in l) vs → IsFitResult 0 l (made s of n vs l)
  made_fits of n [] l w b h = record { state = b; wide = λ z e. e; value = bare_operand (standing_in l) (number true 0) (number_fits (bare l.slots) true 0 (omega arith)); room = tt }
  made_fits of n (f ∷ vs) l w b h = given_fits (is_record of) (is_void of) of n f vs l w b h.0 h.1
