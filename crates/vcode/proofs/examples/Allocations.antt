-- A small machine, and what is an allocation of its code and what isn't.
use Rattle.std.proofs.Common.{◌≡◌, ℕ, zero, suc, ◌<◌, ◌≤◌, ℤ, pos, List, [], ◌∷◌, length, Bool, true, false, not, ◌&&◌, refl, subst, arith}
use Rattle.std.specs.Prelude.{◌==◌}
use Rattle.std.proofs.lemmas.Bool.{false≢true, ne_eqb, not_from_false, and_from, and_parts}
use Rattle.forests.specs.Words.{Word}
use Rattle.forests.specs.Worlds.{Point, Move, Next, Went}
use Rattle.vcode.specs.declared.operand.Operand.{Operand}
use Rattle.vcode.specs.Machines.{Machine, Kind, Plain, Mark, Load, Store, Copy, reads_one, writes_one, with_register, nothing_lost}
use Rattle.vcode.specs.VirtualCode.{among}
use Rattle.vcode.specs.Allocation.{IsRenaming, NoOperand, Kept, Renamed, IsAllocation, NoCode, PutsLoad, PutsStore, PutsCopy, Renames}

-- An instruction puts what one register has into another; the others are put in by allocations.
data Small : Type 0 where
  Put : (to from : ℕ) → Small
  LoadFrom : (r : ℕ) (z : ℤ) → Small
  StoreTo : (r : ℕ) (z : ℤ) → Small
  Copied : (to from : ℕ) → Small

abbrev operands : Small → List Operand
operands (Put to from) = writes_one to ∷ reads_one from ∷ []
operands (LoadFrom r z) = writes_one r ∷ []
operands (StoreTo r z) = reads_one r ∷ []
operands (Copied to from) = writes_one to ∷ reads_one from ∷ []

abbrev kind : Small → Kind
kind (Put to from) = Plain
kind (LoadFrom r z) = Load z
kind (StoreTo r z) = Store z
kind (Copied to from) = Copy

abbrev rename : Small → ℕ → ℕ → Small
rename (Put to from) zero q = Put q from
rename (Put to from) (suc n) q = Put to q
rename (LoadFrom r z) n q = LoadFrom q z
rename (StoreTo r z) n q = StoreTo q z
rename (Copied to from) zero q = Copied q from
rename (Copied to from) (suc n) q = Copied to q

no_mark : (i : Small) (l : ℕ) → kind i ≡ Mark l → ⊥
no_mark (Put to from) l e = cc
no_mark (LoadFrom r z) l e = cc
no_mark (StoreTo r z) l e = cc
no_mark (Copied to from) l e = cc

few : (i : Small) → length (operands i) ≤ 3
few (Put to from) = omega arith
few (LoadFrom r z) = omega arith
few (StoreTo r z) = omega arith
few (Copied to from) = omega arith

renamed : (i : Small) (n r : ℕ) → n < length (operands i) → operands (rename i n r) ≡ with_register (operands i) n r
renamed (Put to from) zero q h = refl
renamed (Put to from) (suc zero) q h = refl
renamed (Put to from) (suc (suc n)) q h = absurd (omega (arith, h))
renamed (LoadFrom r z) zero q h = refl
renamed (LoadFrom r z) (suc n) q h = absurd (omega (arith, h))
renamed (StoreTo r z) zero q h = refl
renamed (StoreTo r z) (suc n) q h = absurd (omega (arith, h))
renamed (Copied to from) zero q h = refl
renamed (Copied to from) (suc zero) q h = refl
renamed (Copied to from) (suc (suc n)) q h = absurd (omega (arith, h))

same_kind : (i : Small) (n r : ℕ) → kind (rename i n r) ≡ kind i
same_kind (Put to from) zero q = refl
same_kind (Put to from) (suc n) q = refl
same_kind (LoadFrom r z) n q = refl
same_kind (StoreTo r z) n q = refl
same_kind (Copied to from) zero q = refl
same_kind (Copied to from) (suc n) q = refl

goes_on : (ws vs : List Word) (p q : Point) (mv : Move) → Went ws p Next ≡ Went vs q mv → mv ≡ Next
goes_on ws vs p q mv e = cc

abbrev small : Machine Small
small = record {
  operands = operands;
  loses = λ i. nothing_lost;
  kind = kind;
  moves = λ i. false;
  acts = λ s i reads p. Went reads p Next;
  rename = rename;
  load = λ r z. LoadFrom r z;
  store = λ r z. StoreTo r z;
  copy = λ to from. Copied to from;
  scratch = nothing_lost;
  stack_pointer = 29;
  few = few;
  loses-machine = λ i r h. refl;
  mark-bare = λ i l e. absurd (no_mark i l e);
  mark-loses = λ i l e. refl;
  moves-plain = λ i e. absurd (false≢true e);
  moves-writes = λ i e. absurd (false≢true e);
  stays = λ s i reads ws p q mv h e. goes_on reads ws p q mv e;
  rename-operands = renamed;
  rename-loses = λ i n r h. refl;
  rename-kind = λ i n r h. same_kind i n r;
  rename-moves = λ i n r h. refl;
  rename-acts = λ s i n r h. refl;
  load-operands = λ r z. refl;
  load-kind = λ r z. refl;
  load-loses = λ r z. refl;
  store-operands = λ r z. refl;
  store-kind = λ r z. refl;
  store-loses = λ r z. refl;
  copy-operands = λ to from. refl;
  copy-kind = λ to from. refl;
  copy-loses = λ to from. refl;
}

abbrev usable : List ℕ
usable = 8 ∷ 9 ∷ []

-- with a slot for each virtual register
in_slots : IsAllocation small usable (Put 64 65 ∷ []) (LoadFrom 9 (pos 1) ∷ Put 8 9 ∷ StoreTo 8 (pos 0) ∷ [])
in_slots = PutsLoad refl (Renames (Renamed refl refl (Renamed refl refl NoOperand)) (PutsStore refl NoCode))

-- with registers alone, where the second instruction's machine register is kept
in_registers : IsAllocation small usable (Put 64 65 ∷ Put 4 64 ∷ []) (Put 8 9 ∷ Copied 9 8 ∷ Put 4 9 ∷ [])
in_registers = Renames (Renamed refl refl (Renamed refl refl NoOperand)) (PutsCopy refl refl (Renames (Kept refl (Renamed refl refl NoOperand)) NoCode))

-- no instruction is left out
at_least : {code all : List Small} → IsAllocation small usable code all → length code ≤ length all
at_least NoCode = omega arith
at_least (PutsLoad {r} {z} {code} {more} h is) = let l = at_least is in omega (arith, l)
at_least (PutsStore {r} {z} {code} {more} h is) = let l = at_least is in omega (arith, l)
at_least (PutsCopy {to} {from} {code} {more} h k is) = let l = at_least is in omega (arith, l)
at_least (Renames {i} {j} {code} {more} r is) = let l = at_least is in omega (arith, l)

left_out : IsAllocation small usable (Put 64 65 ∷ Put 4 64 ∷ []) (Put 8 9 ∷ []) → ⊥
left_out h = let l = at_least h in omega (arith, l)

-- a register that isn't usable stays unwritten where the code doesn't write it
abbrev leaves_three : Small → Bool
leaves_three (Put to from) = not (to == 3)
leaves_three (LoadFrom r z) = not (r == 3)
leaves_three (StoreTo r z) = true
leaves_three (Copied to from) = not (to == 3)

not_three : (r : ℕ) → among r usable ≡ true → not (r == 3) ≡ true
not_three r h = not_from_false (r == 3) (ne_eqb r 3 (λ e. false≢true (subst (λ q. among q usable ≡ true) e h)))

leaves_still : (i : Small) (n r : ℕ) → among r usable ≡ true → leaves_three i ≡ true → leaves_three (rename i n r) ≡ true
leaves_still (Put to from) zero r h l = not_three r h
leaves_still (Put to from) (suc n) r h l = l
leaves_still (LoadFrom q z) n r h l = not_three r h
leaves_still (StoreTo q z) n r h l = refl
leaves_still (Copied to from) zero r h l = not_three r h
leaves_still (Copied to from) (suc n) r h l = l

renamed_leaves : {n : ℕ} {os : List Operand} {i j : Small} → IsRenaming small usable n os i j → leaves_three i ≡ true → leaves_three j ≡ true
renamed_leaves NoOperand l = l
renamed_leaves (Kept {n} {o} {os} {i} {j} e is) l = renamed_leaves is l
renamed_leaves (Renamed {n} {r} {o} {os} {i} {j} e h is) l = renamed_leaves is (leaves_still i n r h l)

abbrev all_leave : List Small → Bool
all_leave [] = true
all_leave (i ∷ is) = leaves_three i && all_leave is

allocated_leaves : {code all : List Small} → IsAllocation small usable code all → all_leave code ≡ true → all_leave all ≡ true
allocated_leaves NoCode l = l
allocated_leaves (PutsLoad {r} {z} {code} {more} h is) l = and_from (not (r == 3)) (all_leave more) (not_three r h) (allocated_leaves is l)
allocated_leaves (PutsStore {r} {z} {code} {more} h is) l = allocated_leaves is l
allocated_leaves (PutsCopy {to} {from} {code} {more} h k is) l = and_from (not (to == 3)) (all_leave more) (not_three to h) (allocated_leaves is l)
allocated_leaves (Renames {i} {j} {code} {more} r is) l =
    let each = and_parts (leaves_three i) (all_leave code) l in
    and_from (leaves_three j) (all_leave more) (renamed_leaves r each.0) (allocated_leaves is each.1)

-- $3 isn't usable
not_usable : IsAllocation small usable (Put 64 65 ∷ []) (Put 3 9 ∷ []) → ⊥
not_usable h = false≢true (allocated_leaves h refl)
