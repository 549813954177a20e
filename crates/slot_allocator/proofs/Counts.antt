-- How much is put in, which registers and slots it names.
use Rattle.std.proofs.Common.{◌≡◌, ℕ, ◌+◌, ◌-◌, ◌<◌, ◌≤◌, List, [], ◌∷◌, ◌++◌, length, Bool, true, false, not, ◌&&◌, refl, sym, subst, arith, length-append}
use Rattle.std.specs.Prelude.{if◌then◌else◌}
use Rattle.std.proofs.lemmas.Bool.{leb-true, leb-false, and_parts, not-true}
use Rattle.vcode.specs.declared.operand.Operand.{Operand}
use Rattle.vcode.specs.Machines.{Machine, Kind, Plain, Mark, Load, Store, Copy, reads_one, writes_one}
use Rattle.vcode.specs.VirtualCode.{is_virtual, among, AreBelow, NamesBelow, UsesSlot, UsesNoSlot}
use Rattle.slot_allocator.specs.Slots.{slot_of, is_loaded, is_stored, loads, stores, renamed, spilled, allotted, AreTemporaries}
use Rattle.vcode.specs.SlotsBelow.{HasSlotBelow, UsesSlotsBelow}
use Rattle.slot_allocator.specs.SlotCounts.{slots_for, slots_needed, virtual_in, virtual_operands}
use Rattle.slot_allocator.proofs.Stretches.{names_append}
use Rattle.slot_allocator.proofs.Renaming.{to_temporaries, renames}

-- ---- how many are put in
one_put_in : (v w : Bool) (a b c : ℕ) → a + b ≡ c → {A : Type 0} (x y : A) (xs ys : List A) → length xs ≡ a → length ys ≡ b → length (if v && not w then x ∷ xs else xs) + length (if v && w then y ∷ ys else ys) ≡ (if v then 1 else 0) + c
one_put_in true true a b c e x y xs ys l r = omega (arith, e, l, r)
one_put_in true false a b c e x y xs ys l r = omega (arith, e, l, r)
one_put_in false true a b c e x y xs ys l r = omega (arith, e, l, r)
one_put_in false false a b c e x y xs ys l r = omega (arith, e, l, r)

put_in : {I : Type 0} (m : Machine I) (ts : List ℕ) (os : List Operand) → length os ≤ length ts → length (loads m ts os) + length (stores m ts os) ≡ virtual_in os
put_in m [] [] le = refl
put_in m [] (o ∷ os) le = absurd (omega (arith, le))
put_in m (t ∷ ts) [] le = refl
put_in m (t ∷ ts) (o ∷ os) le =
    one_put_in (is_virtual o.reg) o.written (length (loads m ts os)) (length (stores m ts os)) (virtual_in os) (put_in m ts os (omega (arith, le))) (m.load t (slot_of o.reg)) (m.store t (slot_of o.reg)) (loads m ts os) (stores m ts os) refl refl

pub counted : {I : Type 0} (m : Machine I) (ts : List ℕ) (code : List I) → length ts ≡ 3 → length (allotted m ts code) ≡ length code + virtual_operands m code
counted m ts [] three = refl
counted m ts (i ∷ is) three =
    let os = m.operands i in
    let few : length os ≤ length ts = let f = m.few i in omega (arith, f, three) in
    let a = put_in m ts os few in
    let b = counted m ts is three in
    let c = length-append (spilled m ts i) (allotted m ts is) in
    let d = length-append (loads m ts os) (renamed m 0 ts os i ∷ stores m ts os) in
    omega (arith, a, b, c, d)

-- ---- registers
temporary : {I : Type 0} (m : Machine I) (t : ℕ) (ts : List ℕ) → AreTemporaries m (t ∷ ts) → t < 64
temporary m t ts h =
    let a = and_parts (not (is_virtual t) && not (m.scratch t)) (not (among t ts)) h.0 in
    let b = and_parts (not (is_virtual t)) (not (m.scratch t)) a.0 in
    leb-false 64 t (not-true (is_virtual t) b.0)

one_name : {I : Type 0} (m : Machine I) (b : Bool) (x : I) (xs : List I) (o : Operand) → m.operands x ≡ o ∷ [] → o.reg < 64 → NamesBelow m 64 xs → NamesBelow m 64 (if b then x ∷ xs else xs)
one_name m true x xs o e w h = (subst (AreBelow 64) (sym e) (w, tt), h)
one_name m false x xs o e w h = h

loads_below : {I : Type 0} (m : Machine I) (ts : List ℕ) (os : List Operand) → AreTemporaries m ts → NamesBelow m 64 (loads m ts os)
loads_below m [] os h = tt
loads_below m (t ∷ ts) [] h = tt
loads_below m (t ∷ ts) (o ∷ os) h = one_name m (is_loaded o) (m.load t (slot_of o.reg)) (loads m ts os) (writes_one t) (m.load-operands t (slot_of o.reg)) (temporary m t ts h) (loads_below m ts os h.1)

stores_below : {I : Type 0} (m : Machine I) (ts : List ℕ) (os : List Operand) → AreTemporaries m ts → NamesBelow m 64 (stores m ts os)
stores_below m [] os h = tt
stores_below m (t ∷ ts) [] h = tt
stores_below m (t ∷ ts) (o ∷ os) h = one_name m (is_stored o) (m.store t (slot_of o.reg)) (stores m ts os) (reads_one t) (m.store-operands t (slot_of o.reg)) (temporary m t ts h) (stores_below m ts os h.1)

one_below : (b : Bool) (t r : ℕ) → is_virtual r ≡ b → t < 64 → (if b then t else r) < 64
one_below true t r e h = h
one_below false t r e h = leb-false 64 r e

operands_below : {I : Type 0} (m : Machine I) (ts : List ℕ) (os : List Operand) → AreTemporaries m ts → length os ≤ length ts → AreBelow 64 (to_temporaries ts os)
operands_below m [] [] h le = tt
operands_below m [] (o ∷ os) h le = absurd (omega (arith, le))
operands_below m (t ∷ ts) [] h le = tt
operands_below m (t ∷ ts) (o ∷ os) h le =
    (one_below (is_virtual o.reg) t o.reg refl (temporary m t ts h), operands_below m ts os h.1 (omega (arith, le)))

pub machine_names : {I : Type 0} (m : Machine I) (ts : List ℕ) (code : List I) → AreTemporaries m ts → length ts ≡ 3 → NamesBelow m 64 (allotted m ts code)
machine_names m ts [] h three = tt
machine_names m ts (i ∷ is) h three =
    let os = m.operands i in
    let few : length os ≤ length ts = let f = m.few i in omega (arith, f, three) in
    let here = subst (AreBelow 64) (sym (renames m ts i).operands) (operands_below m ts os h few) in
    names_append m 64 (spilled m ts i) (allotted m ts is)
    (names_append m 64 (loads m ts os) (renamed m 0 ts os i ∷ stores m ts os) (loads_below m ts os h) (here, stores_below m ts os h))
    (machine_names m ts is h three)

-- ---- slots
fits_append : {I : Type 0} (m : Machine I) (limit : ℕ) (xs ys : List I) → UsesSlotsBelow m limit xs → UsesSlotsBelow m limit ys → UsesSlotsBelow m limit (xs ++ ys)
fits_append m limit [] ys a b = b
fits_append m limit (x ∷ xs) ys a b = (a.0, fits_append m limit xs ys a.1 b)

one_slot : {I : Type 0} (m : Machine I) (v b : Bool) (limit r : ℕ) (x : I) (xs : List I) → is_virtual r ≡ v → r - 63 ≤ limit → (r - 64 < limit → HasSlotBelow limit (m.kind x)) → UsesSlotsBelow m limit xs → UsesSlotsBelow m limit (if v && b then x ∷ xs else xs)
one_slot m true true limit r x xs v w f h = let k = leb-true 64 r v in (f (omega (arith, k, w)), h)
one_slot m true false limit r x xs v w f h = h
one_slot m false b limit r x xs v w f h = h

loads_fit : {I : Type 0} (m : Machine I) (limit : ℕ) (ts : List ℕ) (os : List Operand) → slots_for os ≤ limit → UsesSlotsBelow m limit (loads m ts os)
loads_fit m limit [] os le = tt
loads_fit m limit (t ∷ ts) [] le = tt
loads_fit m limit (t ∷ ts) (o ∷ os) le =
    one_slot m (is_virtual o.reg) (not o.written) limit o.reg (m.load t (slot_of o.reg)) (loads m ts os) refl (omega (arith, le)) (λ h. subst (HasSlotBelow limit) (sym (m.load-kind t (slot_of o.reg))) h) (loads_fit m limit ts os (omega (arith, le)))

stores_fit : {I : Type 0} (m : Machine I) (limit : ℕ) (ts : List ℕ) (os : List Operand) → slots_for os ≤ limit → UsesSlotsBelow m limit (stores m ts os)
stores_fit m limit [] os le = tt
stores_fit m limit (t ∷ ts) [] le = tt
stores_fit m limit (t ∷ ts) (o ∷ os) le =
    one_slot m (is_virtual o.reg) o.written limit o.reg (m.store t (slot_of o.reg)) (stores m ts os) refl (omega (arith, le)) (λ h. subst (HasSlotBelow limit) (sym (m.store-kind t (slot_of o.reg))) h) (stores_fit m limit ts os (omega (arith, le)))

no_slot : (limit : ℕ) (k : Kind) → (UsesSlot k → ⊥) → HasSlotBelow limit k
no_slot limit Plain h = tt
no_slot limit (Mark l) h = tt
no_slot limit (Load z) h = absurd (h tt)
no_slot limit (Store z) h = absurd (h tt)
no_slot limit Copy h = tt

pub fitting : {I : Type 0} (m : Machine I) (limit : ℕ) (ts : List ℕ) (code : List I) → UsesNoSlot m code → slots_needed m code ≤ limit → UsesSlotsBelow m limit (allotted m ts code)
fitting m limit ts [] h le = tt
fitting m limit ts (i ∷ is) h le =
    let os = m.operands i in
    let few : slots_for os ≤ limit = omega (arith, le) in
    let here = subst (HasSlotBelow limit) (sym (renames m ts i).kind) (no_slot limit (m.kind i) h.0) in
    fits_append m limit (spilled m ts i) (allotted m ts is)
    (fits_append m limit (loads m ts os) (renamed m 0 ts os i ∷ stores m ts os) (loads_fit m limit ts os few) (here, stores_fit m limit ts os few))
    (fitting m limit ts is h.1 (omega (arith, le)))

pub fitting_all : {I : Type 0} (m : Machine I) (ts : List ℕ) (code xs : List I) (limit : ℕ) → xs ≡ allotted m ts code → limit ≡ slots_needed m code → UsesNoSlot m code → UsesSlotsBelow m limit xs
fitting_all m ts code xs limit e l h = subst (UsesSlotsBelow m limit) (sym e) (fitting m limit ts code h (omega (arith, l)))
