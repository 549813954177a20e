-- An instruction between its loads and stores does what it does in virtual code.
use Rattle.std.proofs.Common.{◌≡◌, ⊎_elim, ℕ, suc, ◌≤◌, ℤ, List, [], ◌∷◌, ◌++◌, length, Bool, true, false, not, ◌&&◌, ◌||◌, refl, sym, ap, ◌∙◌, subst, arith}
use Rattle.std.specs.Prelude.{if◌then◌else◌}
use Rattle.std.proofs.lemmas.Bool.{leb-true, cases_Bool, cases_eq, both_ways, or_cases, true≢false, false≢true}
use Rattle.forests.specs.Words.{Word}
use Rattle.forests.specs.Worlds.{Point, Move, Next, Effect, Went}
use Rattle.forests.specs.Bodies.{Setting}
use Rattle.vcode.specs.declared.operand.Operand.{Operand}
use Rattle.vcode.specs.Machines.{Machine, Kind, Plain, Mark, Load, Store, Copy, WritesNothing}
use Rattle.vcode.specs.Execution.{State, with_value, with_slot, reads, first_of, rest_of, written, without, by_kind, slots_by, effect, state_by, executed}
use Rattle.vcode.specs.VirtualCode.{is_virtual, among, results, ReadsOnly, UsesSlot}
use Rattle.slot_allocator.specs.Slots.{slot_of, is_loaded, is_stored, loads, stores}
use Rattle.slot_allocator.proofs.Renaming.{to_temporaries, Renames}
use Rattle.vcode.proofs.lemmas.SlotValues.{slot_at, slot_off}
use Rattle.slot_allocator.proofs.Values.{value_at, value_off, value_same, kept_value, slots_differ, among_append, not_first, not_later, among_none, OthersThan, written_off, written_same}

read_same : (w : Bool) (x y : Word) (xs ys : List Word) → (w ≡ false → x ≡ y) → xs ≡ ys → (if w then xs else x ∷ xs) ≡ (if w then ys else y ∷ ys)
read_same true x y xs ys h e = e
read_same false x y xs ys h e = rw (h refl, e) refl

known_read : (w v a : Bool) → ((w || not v) || a) ≡ true → w ≡ false → v ≡ true → a ≡ true
known_read true v a h e f = absurd (true≢false e)
known_read false true a h e f = h
known_read false false a h e f = absurd (false≢true f)

move_of : (xs ys : List Word) (x y : Point) (p q : Move) → Went xs x p ≡ Went ys y q → q ≡ p
move_of xs ys x y p q h = cc

module _ (I : Type 0) (m : Machine I) (s : Setting) (code : List I) where
  -- the run from one rest of the code and state comes to another
  pub record Comes (is js : List I) (c d : State) : Type 0 where
    pub by : (k : ℕ) → (j : ℕ) × (k ≤ j) × (executed m s code j is c ≡ executed m s code k js d)

  abbrev pub after_load : ℕ → ℕ → State → State
  after_load t r c = record { registers = with_value (without m.scratch c.registers) t (c.slots (slot_of r)); slots = c.slots; point = c.point }

  abbrev pub after_store : ℕ → ℕ → State → State
  after_store t r c = record { registers = without m.scratch c.registers; slots = with_slot c.slots (slot_of r) (c.registers t); point = c.point }

  load_step : (k t r : ℕ) (is : List I) (c : State) → executed m s code (suc k) (m.load t (slot_of r) ∷ is) c ≡ executed m s code k is (after_load t r c)
  load_step k t r is c = rw (m.load-kind t (slot_of r), m.load-operands t (slot_of r), m.load-loses t (slot_of r)) refl

  store_step : (k t r : ℕ) (is : List I) (c : State) → executed m s code (suc k) (m.store t (slot_of r) ∷ is) c ≡ executed m s code k is (after_store t r c)
  store_step k t r is c = rw (m.store-kind t (slot_of r), m.store-operands t (slot_of r), m.store-loses t (slot_of r)) refl

  abbrev pub loaded : List ℕ → List Operand → State → State
  loaded [] os c = c
  loaded (t ∷ ts) [] c = c
  loaded (t ∷ ts) (o ∷ os) c = loaded ts os (if is_loaded o then after_load t o.reg c else c)

  abbrev pub stored : List ℕ → List Operand → State → State
  stored [] os c = c
  stored (t ∷ ts) [] c = c
  stored (t ∷ ts) (o ∷ os) c = stored ts os (if is_stored o then after_store t o.reg c else c)

  one_load : (b : Bool) (t r : ℕ) (ls tail : List I) (c : State) (go : State → State) → ((d : State) → Comes (ls ++ tail) tail d (go d)) → Comes ((if b then m.load t (slot_of r) ∷ ls else ls) ++ tail) tail c (go (if b then after_load t r c else c))
  one_load true t r ls tail c go h = record { by = λ k. let a = (h (after_load t r c)).by k in (suc a.0, omega (arith, a.1), load_step a.0 t r (ls ++ tail) c ∙ a.2) }
  one_load false t r ls tail c go h = h c

  one_store : (b : Bool) (t r : ℕ) (ls tail : List I) (c : State) (go : State → State) → ((d : State) → Comes (ls ++ tail) tail d (go d)) → Comes ((if b then m.store t (slot_of r) ∷ ls else ls) ++ tail) tail c (go (if b then after_store t r c else c))
  one_store true t r ls tail c go h = record { by = λ k. let a = (h (after_store t r c)).by k in (suc a.0, omega (arith, a.1), store_step a.0 t r (ls ++ tail) c ∙ a.2) }
  one_store false t r ls tail c go h = h c

  here : (is : List I) (c : State) → Comes is is c c
  here is c = record { by = λ k. (k, omega arith, refl) }

  pub comes_loads : (ts : List ℕ) (os : List Operand) (tail : List I) (c : State) → Comes (loads m ts os ++ tail) tail c (loaded ts os c)
  comes_loads [] os tail c = here tail c
  comes_loads (t ∷ ts) [] tail c = here tail c
  comes_loads (t ∷ ts) (o ∷ os) tail c = one_load (is_loaded o) t o.reg (loads m ts os) tail c (λ d. loaded ts os d) (λ d. comes_loads ts os tail d)

  pub comes_stores : (ts : List ℕ) (os : List Operand) (tail : List I) (c : State) → Comes (stores m ts os ++ tail) tail c (stored ts os c)
  comes_stores [] os tail c = here tail c
  comes_stores (t ∷ ts) [] tail c = here tail c
  comes_stores (t ∷ ts) (o ∷ os) tail c = one_store (is_stored o) t o.reg (stores m ts os) tail c (λ d. stored ts os d) (λ d. comes_stores ts os tail d)

  -- registers of the machine, all different, which the slot instructions keep, and outside P
  abbrev pub Temporaries : (ℕ → Type 0) → List ℕ → Type 0
  Temporaries P [] = Unit {0}
  Temporaries P (t ∷ ts) = (P t → ⊥) × (is_virtual t ≡ false) × (m.scratch t ≡ false) × (among t ts ≡ false) × Temporaries P ts

  abbrev pub Names : (ℕ → Type 0) → List Operand → Type 0
  Names P [] = Unit {0}
  Names P (o ∷ os) = (is_virtual o.reg ≡ false → P o.reg) × Names P os

  -- the virtual registers that are known are in their slots, and the states are alike in the registers of P
  pub record Agrees (P : ℕ → Type 0) (known : List ℕ) (v c : State) : Type 0 where
    pub spilled : (r : ℕ) → is_virtual r ≡ true → among r known ≡ true → v.registers r ≡ c.slots (slot_of r)
    pub same : (r : ℕ) → P r → v.registers r ≡ c.registers r
    pub points : v.point ≡ c.point

  load_keeps : (b : Bool) (t r : ℕ) (c : State) (q : ℕ) → m.scratch q ≡ false → (q ≡ t → ⊥) → (if b then after_load t r c else c).registers q ≡ c.registers q
  load_keeps true t r c q e ne = value_off (without m.scratch c.registers) t (c.slots (slot_of r)) q ne ∙ kept_value m.scratch c.registers q e
  load_keeps false t r c q e ne = refl

  load_slots : (b : Bool) (t r : ℕ) (c : State) → (if b then after_load t r c else c).slots ≡ c.slots
  load_slots true t r c = refl
  load_slots false t r c = refl

  load_point : (b : Bool) (t r : ℕ) (c : State) → (if b then after_load t r c else c).point ≡ c.point
  load_point true t r c = refl
  load_point false t r c = refl

  loaded-registers : (ts : List ℕ) (os : List Operand) (c : State) (q : ℕ) → m.scratch q ≡ false → among q ts ≡ false → (loaded ts os c).registers q ≡ c.registers q
  loaded-registers [] os c q e a = refl
  loaded-registers (t ∷ ts) [] c q e a = refl
  loaded-registers (t ∷ ts) (o ∷ os) c q e a =
      loaded-registers ts os (if is_loaded o then after_load t o.reg c else c) q e (not_later q t ts a) ∙ load_keeps (is_loaded o) t o.reg c q e (not_first q t ts a)

  loaded-point : (ts : List ℕ) (os : List Operand) (c : State) → (loaded ts os c).point ≡ c.point
  loaded-point [] os c = refl
  loaded-point (t ∷ ts) [] c = refl
  loaded-point (t ∷ ts) (o ∷ os) c =
      loaded-point ts os (if is_loaded o then after_load t o.reg c else c) ∙ load_point (is_loaded o) t o.reg c

  module _ (P : ℕ → Type 0) (machine : (r : ℕ) → P r → is_virtual r ≡ false) (unscratched : (r : ℕ) → P r → m.scratch r ≡ false) where
    not_virtual : (q r : ℕ) → P q → is_virtual r ≡ true → (q ≡ r → ⊥)
    not_virtual q r p e h = both_ways (is_virtual r) (subst (λ x. is_virtual x ≡ false) h (machine q p)) e

    write_same : (w virtual : Bool) (t r : ℕ) (os os' : List Operand) (ws : List Word) (f g : ℕ → Word) (q : ℕ) → is_virtual r ≡ virtual → (q ≡ t → ⊥) → P q → f q ≡ g q → ((us : List Word) (f' g' : ℕ → Word) → f' q ≡ g' q → written os us f' q ≡ written os' us g' q) → (if w then written os (rest_of ws) (with_value f r (first_of ws)) else written os ws f) q ≡ (if w then written os' (rest_of ws) (with_value g (if virtual then t else r) (first_of ws)) else written os' ws g) q
    write_same true true t r os os' ws f g q v ne p e h =
        h (rest_of ws) (with_value f r (first_of ws)) (with_value g t (first_of ws)) (value_off f r (first_of ws) q (not_virtual q r p v) ∙ e ∙ sym (value_off g t (first_of ws) q ne))
    write_same true false t r os os' ws f g q v ne p e h =
        h (rest_of ws) (with_value f r (first_of ws)) (with_value g r (first_of ws)) (value_same f g r (first_of ws) q e)
    write_same false virtual t r os os' ws f g q v ne p e h = h ws f g e

    apart : (ts : List ℕ) → Temporaries P ts → (r : ℕ) → P r → among r ts ≡ false
    apart [] h r p = refl
    apart (t ∷ ts) h r p = among_none r t ts (λ e. h.0 (subst P e p)) (apart ts h.4 r p)

    load_agrees : (b : Bool) (t r : ℕ) (known : List ℕ) (v c : State) → (P t → ⊥) → Agrees P known v c → Agrees P known v (if b then after_load t r c else c)
    load_agrees b t r known v c not_p h = record {
      spilled = λ q e a. h.spilled q e a ∙ sym (ap (λ f. f (slot_of q)) (load_slots b t r c));
      same = λ q p. h.same q p ∙ sym (load_keeps b t r c q (unscratched q p) (λ e. not_p (subst P e p)));
      points = h.points ∙ sym (load_point b t r c);
    }

    pub loaded_agrees : (ts : List ℕ) (os : List Operand) (known : List ℕ) (v c : State) → Temporaries P ts → Agrees P known v c → Agrees P known v (loaded ts os c)
    loaded_agrees [] os known v c temporaries h = h
    loaded_agrees (t ∷ ts) [] known v c temporaries h = h
    loaded_agrees (t ∷ ts) (o ∷ os) known v c temporaries h = loaded_agrees ts os known v (if is_loaded o then after_load t o.reg c else c) temporaries.4 (load_agrees (is_loaded o) t o.reg known v c temporaries.0 h)

    -- one operand's value
    one_value : (virtual : Bool) (t : ℕ) (ts : List ℕ) (o : Operand) (os : List Operand) (known : List ℕ) (v c : State) → is_virtual o.reg ≡ virtual → o.written ≡ false → Temporaries P (t ∷ ts) → (is_virtual o.reg ≡ false → P o.reg) → (is_virtual o.reg ≡ true → among o.reg known ≡ true) → Agrees P known v c → (loaded ts os (if is_virtual o.reg && not o.written then after_load t o.reg c else c)).registers (if virtual then t else o.reg) ≡ v.registers o.reg
    one_value true t ts o os known v c e w temporaries name is_known h =
        rw (e, w) (loaded-registers ts os (after_load t o.reg c) t temporaries.2 temporaries.3 ∙ value_at (without m.scratch c.registers) t (c.slots (slot_of o.reg)) ∙ sym (h.spilled o.reg e (is_known e)))
    one_value false t ts o os known v c e w temporaries name is_known h =
        let p = name e in
        rw e (loaded-registers ts os c o.reg (unscratched o.reg p) (apart ts temporaries.4 o.reg p) ∙ sym (h.same o.reg p))

    reads_same : (ts : List ℕ) (os : List Operand) (known : List ℕ) (v c : State) → length os ≤ length ts → Temporaries P ts → Names P os → ReadsOnly known os → Agrees P known v c → reads (to_temporaries ts os) (loaded ts os c).registers ≡ reads os v.registers
    reads_same [] [] known v c le temporaries names flows h = refl
    reads_same [] (o ∷ os) known v c le temporaries names flows h = absurd (omega (arith, le))
    reads_same (t ∷ ts) [] known v c le temporaries names flows h = refl
    reads_same (t ∷ ts) (o ∷ os) known v c le temporaries names flows h =
        let c1 = if is_loaded o then after_load t o.reg c else c in
        let rest = reads_same ts os known v c1 (omega (arith, le)) temporaries.4 names.1 flows.1 (load_agrees (is_loaded o) t o.reg known v c temporaries.0 h) in
        read_same o.written _ _ _ _ (λ w. one_value (is_virtual o.reg) t ts o os known v c refl w temporaries names.0 (λ e. known_read o.written (is_virtual o.reg) (among o.reg known) flows.0 w e) h) rest

    kind_same : (k : Kind) (x y : Effect) (rs rs' : List Word) (v c : State) → (UsesSlot k → ⊥) → x ≡ y → rs ≡ rs' → v.point ≡ c.point → by_kind k x rs v ≡ by_kind k y rs' c
    kind_same Plain x y rs rs' v c n e er ep = e
    kind_same (Mark l) x y rs rs' v c n e er ep = ap (λ p. Went [] p Next) ep
    kind_same (Load z) x y rs rs' v c n e er ep = absurd (n tt)
    kind_same (Store z) x y rs rs' v c n e er ep = absurd (n tt)
    kind_same Copy x y rs rs' v c n e er ep = rw (er, ep) refl

    pub effect_same : (ts : List ℕ) (i j : I) (known : List ℕ) (v c : State) → Renames m i j (to_temporaries ts (m.operands i)) → (UsesSlot (m.kind i) → ⊥) → Temporaries P ts → Names P (m.operands i) → ReadsOnly known (m.operands i) → length (m.operands i) ≤ length ts → Agrees P known v c → effect m s j (loaded ts (m.operands i) c) ≡ effect m s i v
    effect_same ts i j known v c r no_slot temporaries names flows le h =
        let os = m.operands i in
        let d = loaded ts os c in
        let rs = reads_same ts os known v c le temporaries names flows h in
        let ps : v.point ≡ d.point = h.points ∙ sym (loaded-point ts os c) in
        rw (r.operands, r.kind, r.acts s)
        (sym (kind_same (m.kind i) (m.acts s i (reads os v.registers) v.point) (m.acts s i (reads (to_temporaries ts os) d.registers) d.point) (reads os v.registers) (reads (to_temporaries ts os) d.registers) v d no_slot (rw (rs, ps) refl) (sym rs) ps))

    writes_same : (ts : List ℕ) (os : List Operand) (ws : List Word) (f g : ℕ → Word) (q : ℕ) → Temporaries P ts → P q → f q ≡ g q → written os ws f q ≡ written (to_temporaries ts os) ws g q
    writes_same [] os ws f g q temporaries p e = written_same os ws f g q e
    writes_same (t ∷ ts) [] ws f g q temporaries p e = e
    writes_same (t ∷ ts) (o ∷ os) ws f g q temporaries p e =
        write_same o.written (is_virtual o.reg) t o.reg os (to_temporaries ts os) ws f g q refl (λ h. temporaries.0 (subst P h p)) p e (λ us f' g' e'. writes_same ts os us f' g' q temporaries.4 p e')

    -- each temporary holds what its operand is given
    abbrev Holds : List ℕ → List Operand → List Word → (ℕ → Word) → Type 0
    Holds [] os ws g = Unit {0}
    Holds (t ∷ ts) [] ws g = Unit {0}
    Holds (t ∷ ts) (o ∷ os) ws g =
        (o.written ≡ true → is_virtual o.reg ≡ true → g t ≡ first_of ws) × Holds ts os (if o.written then rest_of ws else ws) g

    other_reg : (b : Bool) (q t r : ℕ) → is_virtual r ≡ b → (q ≡ t → ⊥) → (P q → ⊥) → (is_virtual r ≡ false → P r) → (q ≡ (if b then t else r) → ⊥)
    other_reg true q t r v ne np name e = ne e
    other_reg false q t r v ne np name e = np (subst P (sym e) (name v))

    others : (q : ℕ) (ts : List ℕ) (os : List Operand) → (P q → ⊥) → among q ts ≡ false → length os ≤ length ts → Names P os → OthersThan q (to_temporaries ts os)
    others q [] [] np a le names = tt
    others q [] (o ∷ os) np a le names = absurd (omega (arith, le))
    others q (t ∷ ts) [] np a le names = tt
    others q (t ∷ ts) (o ∷ os) np a le names =
        (other_reg (is_virtual o.reg) q t o.reg refl (not_first q t ts a) np names.0, others q ts os np (not_later q t ts a) (omega (arith, le)) names.1)

    holds_if : (w : Bool) (r : ℕ) (ts : List ℕ) (os os' : List Operand) (ws : List Word) (g : ℕ → Word) → ((us : List Word) (g' : ℕ → Word) → Holds ts os us (written os' us g')) → Holds ts os (if w then rest_of ws else ws) (if w then written os' (rest_of ws) (with_value g r (first_of ws)) else written os' ws g)
    holds_if true r ts os os' ws g h = h (rest_of ws) (with_value g r (first_of ws))
    holds_if false r ts os os' ws g h = h ws g

    held : (w virtual : Bool) (t r : ℕ) (os' : List Operand) (ws : List Word) (g : ℕ → Word) → OthersThan t os' → w ≡ true → virtual ≡ true → (if w then written os' (rest_of ws) (with_value g (if virtual then t else r) (first_of ws)) else written os' ws g) t ≡ first_of ws
    held true true t r os' ws g h ew ev = written_off os' (rest_of ws) (with_value g t (first_of ws)) t h ∙ value_at g t (first_of ws)
    held true false t r os' ws g h ew ev = absurd (false≢true ev)
    held false virtual t r os' ws g h ew ev = absurd (false≢true ew)

    holds_written : (ts : List ℕ) (os : List Operand) (ws : List Word) (g : ℕ → Word) → Temporaries P ts → length os ≤ length ts → Names P os → Holds ts os ws (written (to_temporaries ts os) ws g)
    holds_written [] os ws g temporaries le names = tt
    holds_written (t ∷ ts) [] ws g temporaries le names = tt
    holds_written (t ∷ ts) (o ∷ os) ws g temporaries le names = (
      λ ew ev. held o.written (is_virtual o.reg) t o.reg (to_temporaries ts os) ws g (others t ts os temporaries.0 temporaries.3 (omega (arith, le)) names.1) ew ev,
      holds_if o.written (if is_virtual o.reg then t else o.reg) ts os (to_temporaries ts os) ws g (λ us g'. holds_written ts os us g' temporaries.4 (omega (arith, le)) names.1),
    )

    abbrev Alike : List ℕ → (ℕ → Word) → (ℕ → Word) → Type 0
    Alike [] f g = Unit {0}
    Alike (t ∷ ts) f g = (f t ≡ g t) × Alike ts f g

    alike_refl : (ts : List ℕ) (f : ℕ → Word) → Alike ts f f
    alike_refl [] f = tt
    alike_refl (t ∷ ts) f = (refl, alike_refl ts f)

    store_keeps : (b : Bool) (t r : ℕ) (d : State) (q : ℕ) → m.scratch q ≡ false → (if b then after_store t r d else d).registers q ≡ d.registers q
    store_keeps true t r d q e = kept_value m.scratch d.registers q e
    store_keeps false t r d q e = refl

    store_point : (b : Bool) (t r : ℕ) (d : State) → (if b then after_store t r d else d).point ≡ d.point
    store_point true t r d = refl
    store_point false t r d = refl

    alike_after : (b : Bool) (t r : ℕ) (d : State) (g : ℕ → Word) (ts : List ℕ) → Temporaries P ts → Alike ts d.registers g → Alike ts (if b then after_store t r d else d).registers g
    alike_after b t r d g [] temporaries h = tt
    alike_after b t r d g (u ∷ ts) temporaries h = (store_keeps b t r d u temporaries.2 ∙ h.0, alike_after b t r d g ts temporaries.4 h.1)

    stored-registers : (ts : List ℕ) (os : List Operand) (d : State) (q : ℕ) → m.scratch q ≡ false → (stored ts os d).registers q ≡ d.registers q
    stored-registers [] os d q e = refl
    stored-registers (t ∷ ts) [] d q e = refl
    stored-registers (t ∷ ts) (o ∷ os) d q e =
        stored-registers ts os (if is_stored o then after_store t o.reg d else d) q e ∙ store_keeps (is_stored o) t o.reg d q e

    stored-point : (ts : List ℕ) (os : List Operand) (d : State) → (stored ts os d).point ≡ d.point
    stored-point [] os d = refl
    stored-point (t ∷ ts) [] d = refl
    stored-point (t ∷ ts) (o ∷ os) d =
        stored-point ts os (if is_stored o then after_store t o.reg d else d) ∙ store_point (is_stored o) t o.reg d

    -- a slot and its register, once the register is written and stored
    one_slot : (t r q : ℕ) (res : List ℕ) (w : Word) (d : State) (f : ℕ → Word) → is_virtual r ≡ true → is_virtual q ≡ true → d.registers t ≡ w → (among q (r ∷ res) ≡ false → d.slots (slot_of q) ≡ f q) → among q res ≡ false → with_slot d.slots (slot_of r) (d.registers t) (slot_of q) ≡ with_value f r w q
    one_slot t r q res w d f vr vq a e n =
        ⊎_elim
        (λ h. rw h (slot_at d.slots (slot_of r) (d.registers t) ∙ a ∙ sym (value_at f r w)))
        (λ h. slot_off d.slots (slot_of r) (d.registers t) (slot_of q) (slots_differ q r vq vr h) ∙ e (among_none q r res h n) ∙ sym (value_off f r w q h))
        (cases_eq q r)

    store_one : (w virtual : Bool) (t r : ℕ) (ts : List ℕ) (os : List Operand) (ws : List Word) (d : State) (f g : ℕ → Word) (q : ℕ) (res : List ℕ) → is_virtual r ≡ virtual → is_virtual q ≡ true → d.registers t ≡ g t → (w ≡ true → virtual ≡ true → g t ≡ first_of ws) → (among q (if w then r ∷ res else res) ≡ false → d.slots (slot_of q) ≡ f q) → ((us : List Word) (d' : State) (f' : ℕ → Word) → (among q res ≡ false → d'.slots (slot_of q) ≡ f' q) → us ≡ (if w then rest_of ws else ws) → d' ≡ (if virtual && w then after_store t r d else d) → (stored ts os d').slots (slot_of q) ≡ written os us f' q) → (stored ts os (if virtual && w then after_store t r d else d)).slots (slot_of q) ≡ (if w then written os (rest_of ws) (with_value f r (first_of ws)) else written os ws f) q
    store_one true true t r ts os ws d f g q res vr vq a h e go =
        go (rest_of ws) (after_store t r d) (with_value f r (first_of ws)) (λ n. one_slot t r q res (first_of ws) d f vr vq (a ∙ h refl refl) e n) refl refl
    store_one true false t r ts os ws d f g q res vr vq a h e go =
        let ne : q ≡ r → ⊥ = λ x. both_ways (is_virtual r) vr (subst (λ y. is_virtual y ≡ true) x vq) in
        go (rest_of ws) d (with_value f r (first_of ws)) (λ n. e (among_none q r res ne n) ∙ sym (value_off f r (first_of ws) q ne)) refl refl
    store_one false true t r ts os ws d f g q res vr vq a h e go = go ws d f e refl refl
    store_one false false t r ts os ws d f g q res vr vq a h e go = go ws d f e refl refl

    stored-slots : (ts : List ℕ) (os : List Operand) (ws : List Word) (d : State) (f g : ℕ → Word) (q : ℕ) → length os ≤ length ts → Temporaries P ts → is_virtual q ≡ true → Alike ts d.registers g → Holds ts os ws g → (among q (results os) ≡ false → d.slots (slot_of q) ≡ f q) → (stored ts os d).slots (slot_of q) ≡ written os ws f q
    stored-slots [] [] ws d f g q le temporaries v a h e = e refl
    stored-slots [] (o ∷ os) ws d f g q le temporaries v a h e = absurd (omega (arith, le))
    stored-slots (t ∷ ts) [] ws d f g q le temporaries v a h e = e refl
    stored-slots (t ∷ ts) (o ∷ os) ws d f g q le temporaries v a h e =
        store_one o.written (is_virtual o.reg) t o.reg ts os ws d f g q (results os) refl v a.0 h.0 e
        (λ us d' f' e' eu ed. stored-slots ts os us d' f' g q (omega (arith, le)) temporaries.4 v (subst (λ x. Alike ts x.registers g) (sym ed) (alike_after (is_virtual o.reg && o.written) t o.reg d g ts temporaries.4 a.1)) (subst (λ x. Holds ts os x g) (sym eu) h.1) e')

    slots_kept : (k : Kind) (rs : List Word) (f : ℤ → Word) → (UsesSlot k → ⊥) → slots_by k rs f ≡ f
    slots_kept Plain rs f n = refl
    slots_kept (Mark l) rs f n = refl
    slots_kept (Load z) rs f n = absurd (n tt)
    slots_kept (Store z) rs f n = absurd (n tt)
    slots_kept Copy rs f n = refl

    known_before : (q : ℕ) (res known : List ℕ) → among q (res ++ known) ≡ true → among q res ≡ false → among q known ≡ true
    known_before q res known a n =
        ⊎_elim (λ e. absurd (both_ways (among q res) n e)) (λ e. e) (or_cases (among q res) (among q known) (sym (among_append q res known) ∙ a))

    -- the states behind an instruction and its stores agree
    pub agrees_after : (ts : List ℕ) (i j : I) (known : List ℕ) (v c : State) (ws : List Word) (p : Point) → Renames m i j (to_temporaries ts (m.operands i)) → (UsesSlot (m.kind i) → ⊥) → Temporaries P ts → Names P (m.operands i) → length (m.operands i) ≤ length ts → Agrees P known v c → Agrees P (results (m.operands i) ++ known) (state_by m i v ws p) (stored ts (m.operands i) (state_by m j c ws p))
    agrees_after ts i j known v c ws p r no_slot temporaries names le h =
        let os = m.operands i in
        let lv = without (m.loses i) v.registers in
        let lc = without (m.loses i) c.registers in
        let d = state_by m j c ws p in
        let regs : d.registers ≡ written (to_temporaries ts os) ws lc = rw (r.operands, r.loses) refl in
        let slots : d.slots ≡ c.slots = rw r.kind (slots_kept (m.kind i) (reads (m.operands j) c.registers) c.slots no_slot) in
        record {
          spilled = λ q e a. sym (stored-slots ts os ws d lv d.registers q le temporaries e (alike_refl ts d.registers) (subst (λ g. Holds ts os ws g) (sym regs) (holds_written ts os ws lc temporaries le names)) (λ n. ap (λ f. f (slot_of q)) slots ∙ sym (h.spilled q e (known_before q (results os) known a n)) ∙ sym (kept_value (m.loses i) v.registers q (m.loses-machine i q (leb-true 64 q e)))));
          same = λ q x. writes_same ts os ws lv lc q temporaries x (ap (λ w. without (m.loses i) (λ y. w) q) (h.same q x)) ∙ sym (ap (λ f. f q) regs) ∙ sym (stored-registers ts os d q (unscratched q x));
          points = sym (stored-point ts os d);
        }

    pub stored_nothing : (ts : List ℕ) (os : List Operand) (d : State) → WritesNothing os → stored ts os d ≡ d
    stored_nothing [] os d h = refl
    stored_nothing (t ∷ ts) [] d h = refl
    stored_nothing (t ∷ ts) (o ∷ os) d h = nothing_if (is_virtual o.reg) o.written t o.reg d (λ x. stored ts os x) h.0 ∙ stored_nothing ts os d h.1
      where
        nothing_if : (b w : Bool) (t r : ℕ) (d : State) (go : State → State) → w ≡ false → go (if b && w then after_store t r d else d) ≡ go d
        nothing_if true true t r d go e = absurd (true≢false e)
        nothing_if true false t r d go e = refl
        nothing_if false w t r d go e = refl

    -- an instruction that goes on elsewhere than behind it writes nothing
    pub writes_nothing : (i : I) (k : Kind) (v : State) (rs ws : List Word) (p : Point) (mv : Move) → m.kind i ≡ k → by_kind k (m.acts s i rs v.point) rs v ≡ Went ws p mv → (mv ≡ Next → ⊥) → WritesNothing (m.operands i)
    writes_nothing i Plain v rs ws p mv k e ne =
        ⊎_elim (λ mo. m.moves-writes i mo) (λ st. absurd (ne (m.stays s i rs ws v.point p mv st e))) (cases_Bool (m.moves i))
    writes_nothing i (Mark l) v rs ws p mv k e ne = absurd (ne (move_of _ _ _ _ _ _ e))
    writes_nothing i (Load z) v rs ws p mv k e ne = absurd (ne (move_of _ _ _ _ _ _ e))
    writes_nothing i (Store z) v rs ws p mv k e ne = absurd (ne (move_of _ _ _ _ _ _ e))
    writes_nothing i Copy v rs ws p mv k e ne = absurd (ne (move_of _ _ _ _ _ _ e))
