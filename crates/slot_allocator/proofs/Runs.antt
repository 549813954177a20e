-- The allotted code has the runs of the virtual code.
use Rattle.std.proofs.Common.{◌≡◌, ⊎_elim, ℕ, zero, suc, ◌≤◌, List, [], ◌∷◌, ◌++◌, length, All, Bool, true, false, not, ◌&&◌, ◌||◌, Option, Some, None, refl, sym, ap, ◌∙◌, subst, arith, append_assoc}
use Rattle.std.specs.Prelude.{◌==◌, if◌then◌else◌}
use Rattle.std.proofs.lemmas.Bool.{and_parts, and_from, or_cases, or_left, or_right, not-true, not_from_false, eq-eqb, both_ways}
use Rattle.std.proofs.lemmas.Option.{none-some, same_Some}
use Rattle.forests.specs.Words.{Word}
use Rattle.forests.specs.Worlds.{Point, Move, Next, To, End, Effect, Went, Exits, Unfinished, Stuck, goes, Outcome, Finished, Going}
use Rattle.forests.specs.Bodies.{Setting}
use Rattle.vcode.specs.declared.operand.Operand.{Operand}
use Rattle.vcode.specs.Machines.{Machine}
use Rattle.vcode.specs.Execution.{State, reads, effect, state_by, is_mark, code_behind, at_mark, moved, executed}
use Rattle.vcode.specs.VirtualCode.{is_virtual, among, results, UsesSlot, UsesNoSlot, IsStretch, joined, MCode, IsVirtualCode}
use Rattle.slot_allocator.specs.Slots.{slot_of, is_loaded, is_stored, loads, stores, renamed, allotted, AreTemporaries, AreKept, NamesKept}
use Rattle.vcode.specs.Following.{is_kept, Follows}
use Rattle.slot_allocator.proofs.Renaming.{renames}
use Rattle.slot_allocator.proofs.Stretches.{Rest, all_rest, step, mark_bare, rest_behind, no_slot_of_code}
use Rattle.slot_allocator.proofs.Spilling.{comes_loads, comes_stores, loaded, stored, Temporaries, Names, Agrees, loaded_agrees, effect_same, agrees_after, stored_nothing, writes_nothing}

to_next : (l : ℕ) → To l ≡ Next → ⊥
to_next l e = cc

module _ (I : Type 0) (m : Machine I) (ts : List ℕ) where
  -- slot instructions are no labels
  past_load : (b : Bool) (l t r : ℕ) (ls tail : List I) → code_behind m l (ls ++ tail) ≡ code_behind m l tail → code_behind m l ((if b then m.load t (slot_of r) ∷ ls else ls) ++ tail) ≡ code_behind m l tail
  past_load true l t r ls tail e = rw (m.load-kind t (slot_of r)) e
  past_load false l t r ls tail e = e

  past_store : (b : Bool) (l t r : ℕ) (ls tail : List I) → code_behind m l (ls ++ tail) ≡ code_behind m l tail → code_behind m l ((if b then m.store t (slot_of r) ∷ ls else ls) ++ tail) ≡ code_behind m l tail
  past_store true l t r ls tail e = rw (m.store-kind t (slot_of r)) e
  past_store false l t r ls tail e = e

  past_loads : (l : ℕ) (us : List ℕ) (os : List Operand) (tail : List I) → code_behind m l (loads m us os ++ tail) ≡ code_behind m l tail
  past_loads l [] os tail = refl
  past_loads l (t ∷ us) [] tail = refl
  past_loads l (t ∷ us) (o ∷ os) tail = past_load (is_loaded o) l t o.reg (loads m us os) tail (past_loads l us os tail)

  past_stores : (l : ℕ) (us : List ℕ) (os : List Operand) (tail : List I) → code_behind m l (stores m us os ++ tail) ≡ code_behind m l tail
  past_stores l [] os tail = refl
  past_stores l (t ∷ us) [] tail = refl
  past_stores l (t ∷ us) (o ∷ os) tail = past_store (is_stored o) l t o.reg (stores m us os) tail (past_stores l us os tail)

  abbrev allotted_of : Option (List I) → Option (List I)
  allotted_of None = None
  allotted_of (Some is) = Some (allotted m ts is)

  no_stores : (us : List ℕ) → stores m us [] ≡ []
  no_stores [] = refl
  no_stores (t ∷ us) = refl

  behind_one : (b : Bool) (l : ℕ) (i : I) (is : List I) → is_mark (m.kind i) l ≡ b → code_behind m l (allotted m ts is) ≡ allotted_of (code_behind m l is) → code_behind m l (renamed m 0 ts (m.operands i) i ∷ (stores m ts (m.operands i) ++ allotted m ts is)) ≡ allotted_of (if b then Some is else code_behind m l is)
  behind_one true l i is e h = rw ((renames m ts i).kind, e, mark_bare I m i (m.kind i) l refl e, no_stores ts) refl
  behind_one false l i is e h = rw ((renames m ts i).kind, e) (past_stores l ts (m.operands i) (allotted m ts is) ∙ h)

  -- the allotted code behind a label is the code behind it, allotted
  behind_allotted : (l : ℕ) (is : List I) → code_behind m l (allotted m ts is) ≡ allotted_of (code_behind m l is)
  behind_allotted l [] = refl
  behind_allotted l (i ∷ is) =
      let os = m.operands i in
      ap (λ x. code_behind m l x) (append_assoc (loads m ts os) (renamed m 0 ts os i ∷ stores m ts os) (allotted m ts is))
      ∙ past_loads l ts os (renamed m 0 ts os i ∷ (stores m ts os ++ allotted m ts is))
      ∙ behind_one (is_mark (m.kind i) l) l i is refl (behind_allotted l is)

  -- each instruction uses no slot, and its machine registers are kept
  abbrev CanSpill : List I → Type 0
  CanSpill [] = Unit {0}
  CanSpill (i ∷ is) = (UsesSlot (m.kind i) → ⊥) × AreKept m ts (m.operands i) × CanSpill is

  can_spill : (is : List I) → UsesNoSlot m is → NamesKept m ts is → CanSpill is
  can_spill [] n k = tt
  can_spill (i ∷ is) n k = (n.0, k.0, can_spill is n.1 k.1)

  can_if : (b : Bool) (is js : List I) (x : Option (List I)) → CanSpill is → ((js' : List I) → x ≡ Some js' → CanSpill js') → (if b then Some is else x) ≡ Some js → CanSpill js
  can_if true is js x h go e = subst CanSpill (same_Some is js e) h
  can_if false is js x h go e = go js e

  can_behind : (l : ℕ) (is js : List I) → CanSpill is → code_behind m l is ≡ Some js → CanSpill js
  can_behind l [] js h e = absurd (none-some js e)
  can_behind l (i ∷ is) js h e = can_if (is_mark (m.kind i) l) is js (code_behind m l is) h.2 (λ js' e'. can_behind l is js' h.2 e') e

  abbrev P : ℕ → Type 0
  P r = (is_virtual r ≡ false) × (m.scratch r ≡ false) × (among r ts ≡ false)

  machine : (r : ℕ) → P r → is_virtual r ≡ false
  machine r p = p.0

  unscratched : (r : ℕ) → P r → m.scratch r ≡ false
  unscratched r p = p.1

  kept_is : (r : ℕ) → is_kept m ts r ≡ true → P r
  kept_is r h =
      let a = and_parts (not (is_virtual r) && not (m.scratch r)) (not (among r ts)) h in
      let b = and_parts (not (is_virtual r)) (not (m.scratch r)) a.0 in
      (not-true (is_virtual r) b.0, not-true (m.scratch r) b.1, not-true (among r ts) a.1)

  kept_from : (r : ℕ) → P r → is_kept m ts r ≡ true
  kept_from r p =
      and_from (not (is_virtual r) && not (m.scratch r)) (not (among r ts))
      (and_from (not (is_virtual r)) (not (m.scratch r)) (not_from_false (is_virtual r) p.0) (not_from_false (m.scratch r) p.1))
      (not_from_false (among r ts) p.2)

  module _ (s : Setting) (code : List I) where
    temporaries_of : (us : List ℕ) → AreTemporaries m us → ((r : ℕ) → among r us ≡ true → among r ts ≡ true) → Temporaries I m s (allotted m ts code) P us
    temporaries_of [] h sub = tt
    temporaries_of (u ∷ us) h sub =
        let a = and_parts (not (is_virtual u) && not (m.scratch u)) (not (among u us)) h.0 in
        let b = and_parts (not (is_virtual u)) (not (m.scratch u)) a.0 in (
          λ p. both_ways (among u ts) p.2 (sub u (or_left (u == u) (among u us) (eq-eqb u u refl))),
          not-true (is_virtual u) b.0,
          not-true (m.scratch u) b.1,
          not-true (among u us) a.1,
          temporaries_of us h.1 (λ r e. sub r (or_right (r == u) (among r us) e)),
        )

    name_of : (r : ℕ) → (is_virtual r || is_kept m ts r) ≡ true → is_virtual r ≡ false → P r
    name_of r h v = ⊎_elim (λ e. absurd (both_ways (is_virtual r) v e)) (λ e. kept_is r e) (or_cases (is_virtual r) (is_kept m ts r) h)

    names_of : (os : List Operand) → AreKept m ts os → Names I m s (allotted m ts code) P os
    names_of [] h = tt
    names_of (o ∷ os) h = (λ v. name_of o.reg h.0 v, names_of os h.1)

    module _ (ss : List (List I)) (parts : code ≡ joined ss) (each : All (IsStretch m) ss) (temporaries : AreTemporaries m ts) (three : length ts ≡ 3) (can : CanSpill code) where
      abbrev Same : List ℕ → State → State → Type 0
      Same known v c = Agrees I m s (allotted m ts code) P known v c

      -- from these rests on the two codes come to one outcome
      abbrev Runs : ℕ → List I → State → State → Type 0
      Runs n is v c = (k : ℕ) × (n ≤ k) × (executed m s (allotted m ts code) k (allotted m ts is) c ≡ executed m s code n is v)

      abbrev Ahead : ℕ → Type 0
      Ahead n = (known : List ℕ) (js : List I) (v c : State) → Rest I m known js → CanSpill js → Same known v c → Runs n js v c

      same_fewer : (known used : List ℕ) (v c : State) → ((r : ℕ) → among r used ≡ true → among r known ≡ true) → Same known v c → Same used v c
      same_fewer known used v c fewer h = record { spilled = λ r e a. h.spilled r e (fewer r a); same = h.same; points = h.points }

      -- at a label
      at : (n l : ℕ) (x : Option (List I)) (known : List ℕ) (v c : State) → code_behind m l code ≡ x → Same known v c → Ahead n → (k : ℕ) × (n ≤ k) × (at_mark (allotted_of x) (λ js. executed m s (allotted m ts code) k js c) ≡ at_mark x (λ js. executed m s code n js v))
      at n l None known v c e h go = (n, omega arith, refl)
      at n l (Some js) known v c e h go =
          go [] js v c (rest_behind I m l code js ss parts each e) (can_behind l code js can e) (same_fewer known [] v c (λ r a. absurd (both_ways false refl a)) h)

      abbrev after : (n : ℕ) (i : I) (is : List I) (v : State) → Effect → Outcome
      after n i is v e = goes e (λ ws p mv. moved m code is mv p (λ js. executed m s code n js (state_by m i v ws p)))

      abbrev renamed_run : (k : ℕ) (i : I) (is : List I) (c : State) → Outcome
      renamed_run k i is c = executed m s (allotted m ts code) k (renamed m 0 ts (m.operands i) i ∷ (stores m ts (m.operands i) ++ allotted m ts is)) c

      -- the renamed instruction, once its effect is known
      renamed_by : (k : ℕ) (i : I) (is : List I) (c : State) (e : Effect) → effect m s (renamed m 0 ts (m.operands i) i) c ≡ e → renamed_run (suc k) i is c ≡ goes e (λ ws p mv. moved m (allotted m ts code) (stores m ts (m.operands i) ++ allotted m ts is) mv p (λ js. executed m s (allotted m ts code) k js (state_by m (renamed m 0 ts (m.operands i) i) c ws p)))
      renamed_by k i is c e h =
          ap (λ x. goes x (λ ws p mv. moved m (allotted m ts code) (stores m ts (m.operands i) ++ allotted m ts is) mv p (λ js. executed m s (allotted m ts code) k js (state_by m (renamed m 0 ts (m.operands i) i) c ws p)))) h

      move_on : (n : ℕ) (i : I) (is : List I) (known : List ℕ) (v c : State) (ws : List Word) (p : Point) (mv : Move) → effect m s i v ≡ Went ws p mv → effect m s (renamed m 0 ts (m.operands i) i) c ≡ Went ws p mv → Rest I m known is → CanSpill is → Same known (state_by m i v ws p) (stored I m s (allotted m ts code) ts (m.operands i) (state_by m (renamed m 0 ts (m.operands i) i) c ws p)) → Ahead n → (k : ℕ) × (suc n ≤ k) × (renamed_run k i is c ≡ after n i is v (Went ws p mv))
      move_on n i is known v c ws p Next ev ec rest can_rest h go =
          let d = state_by m (renamed m 0 ts (m.operands i) i) c ws p in
          let a = go known is (state_by m i v ws p) (stored I m s (allotted m ts code) ts (m.operands i) d) rest can_rest h in
          let b = (comes_stores I m s (allotted m ts code) ts (m.operands i) (allotted m ts is) d).by a.0 in
          (suc b.0, omega (arith, a.1, b.1), renamed_by b.0 i is c (Went ws p Next) ec ∙ b.2 ∙ a.2)
      move_on n i is known v c ws p (To l) ev ec rest can_rest h go =
          let d = state_by m (renamed m 0 ts (m.operands i) i) c ws p in
          let none = writes_nothing I m s (allotted m ts code) P machine unscratched i (m.kind i) v (reads (m.operands i) v.registers) ws p (To l) refl ev (to_next l) in
          let h' = subst (Same known (state_by m i v ws p)) (stored_nothing I m s (allotted m ts code) P machine unscratched ts (m.operands i) d none) h in
          let a = at n l (code_behind m l code) known (state_by m i v ws p) d refl h' go in
          (suc a.0, omega (arith, a.1), renamed_by a.0 i is c (Went ws p (To l)) ec ∙ ap (λ x. at_mark x (λ js. executed m s (allotted m ts code) a.0 js d)) (behind_allotted l code) ∙ a.2)
      move_on n i is known v c ws p (End x) ev ec rest can_rest h go = (suc n, omega arith, renamed_by n i is c (Went ws p (End x)) ec)

      one : (n : ℕ) (i : I) (is : List I) (known : List ℕ) (v c : State) (e : Effect) → effect m s i v ≡ e → effect m s (renamed m 0 ts (m.operands i) i) c ≡ e → Rest I m known is → CanSpill is → ((ws : List Word) (p : Point) → Same known (state_by m i v ws p) (stored I m s (allotted m ts code) ts (m.operands i) (state_by m (renamed m 0 ts (m.operands i) i) c ws p))) → Ahead n → (k : ℕ) × (suc n ≤ k) × (renamed_run k i is c ≡ after n i is v e)
      one n i is known v c (Went ws p mv) ev ec rest can_rest h go = move_on n i is known v c ws p mv ev ec rest can_rest (h ws p) go
      one n i is known v c (Exits status w) ev ec rest can_rest h go = (suc n, omega arith, renamed_by n i is c (Exits status w) ec)
      one n i is known v c (Unfinished w) ev ec rest can_rest h go = (suc n, omega arith, renamed_by n i is c (Unfinished w) ec)
      one n i is known v c Stuck ev ec rest can_rest h go = (suc n, omega arith, renamed_by n i is c Stuck ec)

      runs : (n : ℕ) → Ahead n
      runs zero known is v c rest can_is h = (0, omega arith, ap (λ p. Going p.world) (sym h.points))
      runs (suc n) known [] v c rest can_is h = (suc n, omega arith, ap (λ p. Finished None p) (sym h.points))
      runs (suc n) known (i ∷ is) v c rest can_is h =
          let all = allotted m ts code in
          let os = m.operands i in
          let c1 = loaded I m s all ts os c in
          let three_temporaries = temporaries_of ts temporaries (λ r e. e) in
          let names = names_of os can_is.1 in
          let few : length os ≤ length ts = let f = m.few i in omega (arith, f, three) in
          let st = step I m known i is rest in
          let known_used = same_fewer known st.used v c st.fewer h in
          let same_effect = effect_same I m s all P machine unscratched ts i (renamed m 0 ts os i) st.used v c (renames m ts i) can_is.0 three_temporaries names st.reads few known_used in
          let h1 = loaded_agrees I m s all P machine unscratched ts os st.used v c three_temporaries known_used in
          let a = one n i is (results os ++ st.used) v c1 (effect m s i v) refl same_effect st.rest can_is.2 (λ ws p. agrees_after I m s all P machine unscratched ts i (renamed m 0 ts os i) st.used v c1 ws p (renames m ts i) can_is.0 three_temporaries names few h1) (runs n) in
          let b = (comes_loads I m s all ts os (renamed m 0 ts os i ∷ (stores m ts os ++ allotted m ts is)) c).by a.0 in
          (b.0, omega (arith, a.1, b.1), ap (λ js. executed m s all b.0 js c) (append_assoc (loads m ts os) (renamed m 0 ts os i ∷ stores m ts os) (allotted m ts is)) ∙ b.2 ∙ a.2)

follows_joined : (I : Type 0) (m : Machine I) (ts : List ℕ) (code : List I) (ss : List (List I)) → code ≡ joined ss → All (IsStretch m) ss → AreTemporaries m ts → length ts ≡ 3 → UsesNoSlot m code → NamesKept m ts code → Follows m ts code (allotted m ts code)
follows_joined I m ts code ss parts each temporaries three no_slot names =
    let can = can_spill I m ts code no_slot names in
    record {
      runs = λ s n v c h. runs I m ts s code ss parts each temporaries three can n [] code v c (subst (Rest I m []) (sym parts) (all_rest I m ss each)) can (record {
        spilled = λ r e a. absurd (both_ways false refl a);
        same = λ r p. h.registers r (kept_from I m ts r p);
        points = h.points;
      });
    }

pub follows : (I : Type 0) (m : Machine I) (ts : List ℕ) (c : MCode I) → IsVirtualCode m c → AreTemporaries m ts → length ts ≡ 3 → NamesKept m ts c.code → Follows m ts c.code (allotted m ts c.code)
follows I m ts c is temporaries three names = follows_joined I m ts c.code is.stretches is.code is.each temporaries three (no_slot_of_code m c is) names
