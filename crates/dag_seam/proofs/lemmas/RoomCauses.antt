-- Why nodes have rooms.
use Rattle.std.proofs.Common.{◌≡◌, ⊎_elim, ℕ, zero, suc, ◌≤◌, Bool, true, false, true≢false, Option, Some, None, List, [], ◌∷◌, inl, inr, refl, sym, ap, ◌∙◌, subst, arith}
use Rattle.std.specs.Prelude.{◌⊎◌, ◌&&◌, ◌||◌, not, if◌then◌else◌, slice_get}
use Rattle.lcc_base.specs.declared.order.Order.{Order}
use Rattle.op_forest.specs.declared.frame.Slot.{Slot}
use Rattle.op_forest.specs.declared.op.Op.{Op}
use Rattle.op_forest.specs.declared.op.Op.TheVariants as op
use Rattle.forests.specs.Addresses.{Home}
use Rattle.dag_forest.specs.declared.act.Act.{Act}
use Rattle.dag_forest.specs.declared.act.Act.TheVariants.{Made, Acts}
use Rattle.dag_forest.specs.declared.entry.Entry.{Entry}
use Rattle.dag_forest.specs.declared.key.Key.{Key}
use Rattle.dag_forest.specs.declared.parts.Parts.{Parts}
use Rattle.dag_forest.specs.Choice.{Room, room_by, wants, is_computed, is_leaf, has_kids, is_needed, times_of, counts, late, is_handed, kind_of}
use Rattle.dag_forest.specs.Entries.{is_call}
use Rattle.dag_forest.specs.Meaning.{Temporary}
use Rattle.dag_forest.specs.Schedules.{acts_of}
use Rattle.dag_forest.specs.Split.{room_of, temporary_of, kept_by, keeps_of}
use Rattle.dag_forest.specs.Tally.{keys_of}
use Rattle.dag_seam.specs.Rooms.{IsMade, HasCause, AreActs}
use Rattle.dag_seam.specs.Turns.{Makes}
use Rattle.dag_seam.proofs.lemmas.Acts.{HasParts, acts_have_parts}
use Rattle.dag_forest.proofs.lemmas.Once.{acts_are_once}
use Rattle.std.proofs.lemmas.Option.{same_Some}
use Rattle.dag_seam.proofs.lemmas.Rooms.{IsRoomAt, room_is, room_made, is_made_makes}

-- the room of a node that is made
pub room_at : (es : List Entry) (n : ℕ) (x : Parts) (later : List Act) → IsMade (acts_of es) n x later → IsRoomAt (room_of es n) n x later
room_at es n x later h = room_is (acts_of es) (λ m. false) (λ m. false) 0 (acts_are_once es) n x later h

no_leaf : (o : Op) → is_call o ≡ true → is_leaf o ≡ false
no_leaf op.Call h = refl
no_leaf o h = absurd (true≢false (sym h))

or_not : (a b : Bool) → b ≡ false → (a || not b) ≡ true
or_not true b h = refl
or_not false b h = ap not h

call_computed : (x : Parts) → is_call x.operator.op ≡ true → is_computed x ≡ true
call_computed x h = or_not (has_kids x.kids) (is_leaf x.operator.op) (no_leaf x.operator.op h)

pub call_has_room : (es : List Entry) (n : ℕ) (x : Parts) (later : List Act) → IsMade (acts_of es) n x later → is_call x.operator.op ≡ true → is_handed later n ≡ false → (r : Room) × (room_of es n ≡ Some r)
call_has_room es n x later h calls handed =
    let z = room_at es n x later h in
    (record { number = z.0; kind = kind_of x.operator.suffix }, z.2 ∙ (λ i. room_by (call_computed x calls i && (if calls i then not (handed i) else is_needed (times_of (counts later n)) (late later n && z.1))) x z.0))

none_handed : (comp call handed a : Bool) → call ≡ true → handed ≡ true → (comp && (if call then not handed else a)) ≡ false
none_handed false call handed a c h = refl
none_handed true true true a c h = refl
none_handed true true false a c h = sym h
none_handed true false handed a c h = absurd (true≢false (sym c))

pub handed_has_none : (es : List Entry) (n : ℕ) (x : Parts) (later : List Act) → IsMade (acts_of es) n x later → is_call x.operator.op ≡ true → is_handed later n ≡ true → room_of es n ≡ None
handed_has_none es n x later h calls handed =
    let z = room_at es n x later h in
    z.2 ∙ ap (λ b. room_by b x z.0) (none_handed (is_computed x) (is_call x.operator.op) (is_handed later n) (is_needed (times_of (counts later n)) (late later n && z.1)) calls handed)

none_once : (comp call handed l r : Bool) (c : ℕ) → call ≡ false → c ≤ 1 → l ≡ false → (comp && (if call then not handed else is_needed (times_of c) (l && r))) ≡ false
none_once false call handed l r c e few now = refl
none_once true true handed l r c e few now = absurd (true≢false e)
none_once true false handed l r zero e few now = refl
none_once true false handed l r (suc zero) e few now = ap (λ b. b && r) now
none_once true false handed l r (suc (suc c)) e few now = absurd (omega (arith, few))

pub once_has_none : (es : List Entry) (n : ℕ) (x : Parts) (later : List Act) → IsMade (acts_of es) n x later → is_call x.operator.op ≡ false → counts later n ≤ 1 → late later n ≡ false → room_of es n ≡ None
once_has_none es n x later h plain few now =
    let z = room_at es n x later h in
    z.2 ∙ ap (λ b. room_by b x z.0) (none_once (is_computed x) (is_call x.operator.op) (is_handed later n) (late later n) z.1 (counts later n) plain few now)

and_true : (a b : Bool) → (a && b) ≡ true → a ≡ true
and_true true b h = refl
and_true false b h = h

needed_so : (comp call handed : Bool) (c : ℕ) (l r : Bool) → (comp && (if call then not handed else is_needed (times_of c) (l && r))) ≡ true → (comp ≡ true) × (((call ≡ true) × (handed ≡ false)) ⊎ (2 ≤ c) ⊎ (l ≡ true))
needed_so false call handed c l r e = absurd (true≢false (sym e))
needed_so true true true c l r e = absurd (true≢false (sym e))
needed_so true true false c l r e = (refl, inl (refl, refl))
needed_so true false handed zero l r e = absurd (true≢false (sym e))
needed_so true false handed (suc zero) l r e = (refl, inr (inr (and_true l r e)))
needed_so true false handed (suc (suc c)) l r e = (refl, inr (inl (omega arith)))

some_room : (w : Bool) (x : Parts) (t : ℕ) (r : Room) → room_by w x t ≡ Some r → (w ≡ true) × (r.kind ≡ kind_of x.operator.suffix)
some_room true x t r e = (refl, ap (λ (z : Room). z.kind) (sym (same_Some _ r e)))
some_room false x t r e = let no : ⊥ = cc in absurd no

pub room_has_cause : (es : List Entry) (n : ℕ) (r : Room) → room_of es n ≡ Some r → HasCause es n r
room_has_cause es n r e =
    let m = room_made (acts_of es) (λ k. false) 0 n r e in
    let x = m.0 in
    let later = m.1 in
    let z = room_at es n x later m.2 in
    let s = some_room (wants x (times_of (counts later n)) (late later n) (is_handed later n) z.1) x z.0 r (sym z.2 ∙ e) in
    let q = needed_so (is_computed x) (is_call x.operator.op) (is_handed later n) (counts later n) (late later n) z.1 s.0 in
    record { parts = x; later = later; made = m.2; needed = record { computed = q.0; cause = q.1 }; kind = s.1 }

pub made_is : (P : ℕ → Parts → Type 0) (Q : Parts → Type 0) (xs : List Act) (n : ℕ) (x : Parts) (later : List Act) → AreActs P Q xs → IsMade xs n x later → P n x
made_is P Q [] n x later are h = absurd h
made_is P Q (Made m y ∷ xs) n x later are h = ⊎_elim (λ e. subst (λ z. P z x) (sym e.0) (subst (λ z. P m z) e.1 are.0)) (λ e. made_is P Q xs n x later are.1 e) h
made_is P Q (Acts y ∷ xs) n x later are h = made_is P Q xs n x later are.1 h

pub room_has_kind : (es : List Entry) (n : ℕ) (r : Room) (k : Key) → room_of es n ≡ Some r → slice_get (keys_of es) n ≡ Some k → r.kind ≡ kind_of k.parts.operator.suffix
room_has_kind es n r k e is =
    let h = room_has_cause es n r e in
    let p = made_is (HasParts (keys_of es)) (λ x. Unit {0}) (acts_of es) n h.parts h.later (acts_have_parts es) h.made in
    h.kind ∙ ap (λ (z : Parts). kind_of z.operator.suffix) (sym p.2 ∙ ap (λ (z : Key). z.parts) (same_Some p.0 k (sym p.1 ∙ is)))

kept_room : (f : Room → Temporary) (o : Option Room) (t : Temporary) → kept_by f o ≡ Some t → (r : Room) × (o ≡ Some r)
kept_room f None t e = let no : ⊥ = cc in absurd no
kept_room f (Some r) t e = (r, refl)

pub kept_is_made : (order : Order) (home : Home) (before : List Slot) (es : List Entry) (m : ℕ) (t : Temporary) → keeps_of order home before es m ≡ Some t → Makes m (acts_of es)
kept_is_made order home before es m t e =
    let r = kept_room (temporary_of order home before) (room_of es m) t e in
    let h = room_has_cause es m r.0 r.1 in
    is_made_makes (acts_of es) m h.parts h.later h.made
