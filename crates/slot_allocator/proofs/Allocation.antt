-- The allotted code is an allocation to the temporaries.
use Rattle.std.proofs.Common.{◌≡◌, ℕ, suc, ◌≤◌, ℤ, List, [], ◌∷◌, ◌++◌, length, Bool, true, false, refl, sym, subst, arith, append_assoc}
use Rattle.std.specs.Prelude.{◌==◌, if◌then◌else◌}
use Rattle.std.proofs.lemmas.Bool.{eq-eqb, or_left, or_right}
use Rattle.vcode.specs.declared.operand.Operand.{Operand}
use Rattle.vcode.specs.Machines.{Machine}
use Rattle.vcode.specs.VirtualCode.{is_virtual, among}
use Rattle.vcode.specs.Allocation.{IsRenaming, NoOperand, Kept, Renamed, IsAllocation, NoCode, PutsLoad, PutsStore, Renames}
use Rattle.slot_allocator.specs.Slots.{slot_of, is_loaded, is_stored, loads, stores, renamed, allotted}

module _ {I : Type 0} (m : Machine I) (all : List ℕ) where
  -- each of these is among all temporaries
  abbrev AreAmong : List ℕ → Type 0
  AreAmong ts = (r : ℕ) → among r ts ≡ true → among r all ≡ true

  first : (t : ℕ) (ts : List ℕ) → AreAmong (t ∷ ts) → among t all ≡ true
  first t ts h = h t (or_left (t == t) (among t ts) (eq-eqb t t refl))

  others : (t : ℕ) (ts : List ℕ) → AreAmong (t ∷ ts) → AreAmong ts
  others t ts h = λ r e. h r (or_right (r == t) (among r ts) e)

  one_load : (b : Bool) (r : ℕ) (z : ℤ) (code front more : List I) → among r all ≡ true → IsAllocation m all code (front ++ more) → IsAllocation m all code ((if b then m.load r z ∷ front else front) ++ more)
  one_load true r z code front more h is = PutsLoad h is
  one_load false r z code front more h is = is

  loads_put : (ts : List ℕ) (os : List Operand) (code more : List I) → AreAmong ts → IsAllocation m all code more → IsAllocation m all code (loads m ts os ++ more)
  loads_put [] os code more h is = is
  loads_put (t ∷ ts) [] code more h is = is
  loads_put (t ∷ ts) (o ∷ os) code more h is =
      one_load (is_loaded o) t (slot_of o.reg) code (loads m ts os) more (first t ts h) (loads_put ts os code more (others t ts h) is)

  one_store : (b : Bool) (r : ℕ) (z : ℤ) (code front more : List I) → among r all ≡ true → IsAllocation m all code (front ++ more) → IsAllocation m all code ((if b then m.store r z ∷ front else front) ++ more)
  one_store true r z code front more h is = PutsStore h is
  one_store false r z code front more h is = is

  stores_put : (ts : List ℕ) (os : List Operand) (code more : List I) → AreAmong ts → IsAllocation m all code more → IsAllocation m all code (stores m ts os ++ more)
  stores_put [] os code more h is = is
  stores_put (t ∷ ts) [] code more h is = is
  stores_put (t ∷ ts) (o ∷ os) code more h is =
      one_store (is_stored o) t (slot_of o.reg) code (stores m ts os) more (first t ts h) (stores_put ts os code more (others t ts h) is)

  one_renaming : (b : Bool) (n t : ℕ) (o : Operand) (os : List Operand) (i j : I) → is_virtual o.reg ≡ b → among t all ≡ true → IsRenaming m all (suc n) os (if b then m.rename i n t else i) j → IsRenaming m all n (o ∷ os) i j
  one_renaming true n t o os i j e h is = Renamed e h is
  one_renaming false n t o os i j e h is = Kept e is

  renaming : (n : ℕ) (ts : List ℕ) (os : List Operand) (i : I) → length os ≤ length ts → AreAmong ts → IsRenaming m all n os i (renamed m n ts os i)
  renaming n [] [] i le h = NoOperand
  renaming n [] (o ∷ os) i le h = absurd (omega (arith, le))
  renaming n (t ∷ ts) [] i le h = NoOperand
  renaming n (t ∷ ts) (o ∷ os) i le h =
      let j = if is_virtual o.reg then m.rename i n t else i in
      one_renaming (is_virtual o.reg) n t o os i (renamed m (suc n) ts os j) refl (first t ts h) (renaming (suc n) ts os j (omega (arith, le)) (others t ts h))

  pub allocation : (code : List I) → length all ≡ 3 → IsAllocation m all code (allotted m all code)
  allocation [] three = NoCode
  allocation (i ∷ is) three =
      let os = m.operands i in
      let few : length os ≤ length all = let f = m.few i in omega (arith, f, three) in
      let rest = allotted m all is in
      let j = renamed m 0 all os i in
      let whole : IsAllocation m all (i ∷ is) (loads m all os ++ (j ∷ (stores m all os ++ rest))) = loads_put all os (i ∷ is) (j ∷ (stores m all os ++ rest)) (λ r e. e) (Renames (renaming 0 all os i few (λ r e. e)) (stores_put all os is rest (λ r e. e) (allocation is three))) in
      subst (IsAllocation m all (i ∷ is)) (sym (append_assoc (loads m all os) (j ∷ stores m all os) rest)) whole
