-- The code that a rule adds does what the rule's pattern does.
use Rattle.std.specs.Prelude.{◌≡◌, ℕ, ℤ, ◌==◌, true, false, Option, Some, None, List, [], ◌∷◌, ◌++◌, refl}
use Rattle.std.proofs.Common.{ap, sym, ◌∙◌, subst}
use Rattle.std.proofs.lemmas.Bool.{ne_eqb, or_from}
use Rattle.lcc_base.specs.declared.cause.Cause.{Cause}
use Rattle.frame_code.specs.declared.arithmetic.Arithmetic.{Arithmetic}
use Rattle.frame_code.specs.declared.arithmetic.Arithmetic.TheVariants.{Add, Subtract, Multiply}
use Rattle.lburg_model.specs.Pattern.{MPattern, PHole, PLeaf, POne, PTwo}
use Rattle.objects.specs.declared.operators.Unary.TheVariants.{Negate}
use Rattle.objects.specs.declared.value.Value.{Value}
use Rattle.objects.specs.declared.value.Value.TheVariants.{Number, Pointer, Function}
use Rattle.objects.specs.Causes.{unless}
use Rattle.objects.specs.Pointers.{place_after}
use Rattle.op_forest.specs.declared.op.Op.TheVariants as op
use Rattle.op_forest.specs.declared.suffix.Suffix.TheVariants.{I, P}
use Rattle.op_forest.specs.declared.sym.Sym.{Sym}
use Rattle.op_forest.specs.declared.sym.Sym.TheVariants as symbol
use Rattle.op_forest.specs.Nodes.{Head, Node, Leaf, One, Two, number_of}
use Rattle.forests.specs.Words.{Word}
use Rattle.forests.specs.Words as word
use Rattle.forests.specs.Accesses.{defined}
use Rattle.forests.specs.Worlds.{Point, Move, Next, To, End, Effect, Went, Exits, Unfinished, Stuck, then_do}
use Rattle.forests.specs.Actions.{Calls as Callees, Passed, gave, handed, effect_of}
use Rattle.forests.specs.Addresses.{plain, named, moved_from}
use Rattle.forests.specs.Bodies.{Setting, does}
use Rattle.forests.specs.Numbers.{constant, of_one, of_two}
use Rattle.forests.specs.Rows.{called}
use Rattle.forests.specs.Units.{word_or_unknown}
use Rattle.vcode.specs.declared.operand.Operand.{Operand}
use Rattle.vcode.specs.Machines.{Machine, Plain, writes_one}
use Rattle.vcode.specs.Execution.{State, reads, written, without}
use Rattle.vcode.specs.VirtualCode.{among, results}
use Rattle.vcode.specs.Patterns.{Meeting, pattern_effect}
use Rattle.vcode.specs.RuleSets.{Rules, Gets, WhenWent, WhenNext, Stands, AllStand}
use Rattle.frame_rules.specs.declared.action.Action.{Action}
use Rattle.frame_rules.specs.declared.action.Action.TheVariants as action
use Rattle.frame_code.specs.declared.instr.Instr.{Instr}
use Rattle.frame_code.specs.declared.instr.Instr.TheVariants as instr
use Rattle.frame_code.specs.declared.instr.Source.{Source}
use Rattle.frame_code.specs.declared.instr.Source.TheVariants as source
use Rattle.frame_rules.specs.declared.part.Part.{Part}
use Rattle.frame_rules.specs.declared.part.Part.TheVariants.{Register, Constant, Name, Label}
use Rattle.frame_code.specs.Instructions.{source_operands, combined, operates}
use Rattle.frame_code.specs.FrameMachine.{Losses, frame_machine}
use Rattle.frame_rules.specs.Rows.{Line, con, rc, reg, addr, cnsti, addrgp, argi, calli, reti, negi}
use Rattle.frame_rules.specs.FrameRules.{word_behind, means, constant_of, name_of, code_by, part_by, frame_rules}
use Rattle.frame_rules.specs.OperatorNumbers.{is_cnsti, is_addrgp, is_argi, is_calli, is_reti, is_negi, is_addi, is_subi, is_muli, does_as}
use Rattle.frame_code.specs.OneInstruction.{written_first, nothing_gets, one_gets}
use Rattle.frame_rules.specs.AppliedRules.{operator_for, Applied, Discards, TakesConstant, PassesConstant, PassesRegister, LoadsConstant, TakesName, CombinesRegisters, CombinesConstant, Negates, HandsOver, Calls, CallsLabel, Returns}

-- where it goes on behind it, there is one value
abbrev IsOneValue : Effect → Type 0
IsOneValue e = WhenWent e (λ ws p mv. WhenNext mv ((w : Word) × (ws ≡ w ∷ [])))

one_gave : (call : Callees) (v : Option Word) (p : Point) → IsOneValue (effect_of call (gave v) p)
one_gave call None p = tt
one_gave call (Some w) p = (w, refl)

one_handed : (ws : List Word) (p : Point) → IsOneValue (handed true ws p)
one_handed [] p = tt
one_handed (w ∷ ws) p = (w, refl)

one_answer : (e : Effect) → IsOneValue (then_do e (λ ws p. handed true ws p))
one_answer (Went ws p Next) = one_handed ws p
one_answer (Went ws p (To l)) = tt
one_answer (Went ws p (End v)) = tt
one_answer (Exits status w) = tt
one_answer (Unfinished w) = tt
one_answer Stuck = tt

one_called : (call : Callees) (x : Word) (p : Point) → IsOneValue (effect_of call (called true x) p)
one_called call (word.Plain (Number n)) p = tt
one_called call (word.Plain (Pointer object offset)) p = tt
one_called call (word.Plain (Function f)) p = one_answer (call f p)
one_called call (word.Label f l) p = tt
one_called call (word.Partly mask bits) p = tt

-- what an addition, a subtraction and a multiplication do
combines_row : (s : Setting) (o : Arithmetic) (h : Head) (x y : Word) (p : Point) → operator_for o ≡ number_of h → does s h (x ∷ y ∷ []) p ≡ effect_of s.call (gave (of_two true (combined o) x y)) p
combines_row s Add h x y p e = does_as s h op.Add I (x ∷ y ∷ []) p (is_addi h e)
combines_row s Subtract h x y p e = does_as s h op.Sub I (x ∷ y ∷ []) p (is_subi h e)
combines_row s Multiply h x y p e = does_as s h op.Mul I (x ∷ y ∷ []) p (is_muli h e)

-- a function isn't moved by an offset, and nothing else is called
same_callee : (g : Option Value) (offset : ℤ) → called true (word_or_unknown g) ≡ called true (word_behind g offset)
same_callee None offset = refl
same_callee (Some (Number n)) offset = refl
same_callee (Some (Pointer object z)) offset = refl
same_callee (Some (Function f)) offset = refl

module _ (lost : Losses) (pointer : ℕ) (lines : List Line) (s : Setting) (whole rest : List Instr) (st : State) where
  abbrev machine : Machine Instr
  machine = frame_machine lost pointer

  abbrev rules : Rules Instr Part
  rules = frame_rules lines

  -- an instruction that writes one register gives it the value of the effect
  value_gets : (i : Instr) (to : ℕ) (os : List Operand) (e : Effect) → machine.kind i ≡ Plain → machine.operands i ≡ writes_one to ∷ os → results os ≡ [] → machine.acts s i (reads (machine.operands i) st.registers) st.point ≡ e → IsOneValue e → Gets machine s whole (i ∷ []) rest st e (λ f ws. ws ≡ f to ∷ []) (λ q. q ≡ to → ⊥)
  value_gets i to os e k o none act one =
      one_gets machine s whole rest st i e (λ f ws. ws ≡ f to ∷ []) (λ q. q ≡ to → ⊥) k act unwritten (stands e one)
    where
      unwritten : (q : ℕ) → (q ≡ to → ⊥) → among q (results (machine.operands i)) ≡ false
      unwritten q other = ap (λ l. among q (results l)) o ∙ ap (λ l. among q (to ∷ l)) none ∙ or_from (q == to) false (ne_eqb q to other) refl

      holds : (ws : List Word) (w : Word) → ws ≡ w ∷ [] → ws ≡ written (machine.operands i) ws (without (machine.loses i) st.registers) to ∷ []
      holds ws w h =
          h ∙ ap (λ v. v ∷ []) (sym (ap (λ l. written l ws (without (machine.loses i) st.registers) to) o ∙ ap (λ l. written (writes_one to ∷ os) l (without (machine.loses i) st.registers) to) h ∙ written_first to os w (without (machine.loses i) st.registers) none))

      next : (ws : List Word) (mv : Move) → WhenNext mv ((w : Word) × (ws ≡ w ∷ [])) → WhenNext mv (ws ≡ written (machine.operands i) ws (without (machine.loses i) st.registers) to ∷ [])
      next ws Next h = holds ws h.0 h.1
      next ws (To l) h = tt
      next ws (End v) h = tt

      stands : (x : Effect) → IsOneValue x → WhenWent x (λ ws p mv. WhenNext mv (ws ≡ written (machine.operands i) ws (without (machine.loses i) st.registers) to ∷ []))
      stands (Went ws p mv) h = next ws mv h
      stands (Exits status w) h = tt
      stands (Unfinished w) h = tt
      stands Stuck h = tt

  constant_gets : (v : Option ℤ) (kept : ℕ → Type 0) → (effect_of s.call (gave (constant v)) st.point ≡ Stuck → ⊥) → Gets machine s whole [] rest st (effect_of s.call (gave (constant v)) st.point) (λ f ws. ws ≡ word.Plain (Number (constant_of v)) ∷ []) kept
  constant_gets None kept ns = absurd (ns refl)
  constant_gets (Some z) kept ns = nothing_gets machine s whole rest st (word.Plain (Number (constant_of (Some z))) ∷ []) (λ f ws. ws ≡ word.Plain (Number (constant_of (Some z))) ∷ []) kept refl

  unless_gets : (cause : Option Cause) (v : Value) (kept : ℕ → Type 0) → (effect_of s.call (gave (plain (defined (unless cause v)))) st.point ≡ Stuck → ⊥) → Gets machine s whole [] rest st (effect_of s.call (gave (plain (defined (unless cause v)))) st.point) (λ f ws. ws ≡ word.Plain v ∷ []) kept
  unless_gets None v kept ns = nothing_gets machine s whole rest st (word.Plain v ∷ []) (λ f ws. ws ≡ word.Plain v ∷ []) kept refl
  unless_gets (Some cause) v kept ns = absurd (ns refl)

  moved_gets : (g : Option Value) (offset : ℤ) (kept : ℕ → Type 0) → (effect_of s.call (gave (moved_from st.point.world.objects g offset)) st.point ≡ Stuck → ⊥) → Gets machine s whole [] rest st (effect_of s.call (gave (moved_from st.point.world.objects g offset)) st.point) (λ f ws. ws ≡ word_behind g offset ∷ []) kept
  moved_gets None offset kept ns = absurd (ns refl)
  moved_gets (Some v) offset kept ns = unless_gets _ (place_after v offset) kept ns

  name_gets : (x : Sym) (kept : ℕ → Type 0) → (effect_of s.call (gave (named s.environment st.point.world.objects x)) st.point ≡ Stuck → ⊥) → Gets machine s whole [] rest st (effect_of s.call (gave (named s.environment st.point.world.objects x)) st.point) (λ f ws. Stands (means s (name_of x) f) ws) kept
  name_gets symbol.Nothing kept ns = absurd (ns refl)
  name_gets (symbol.Global name offset) kept ns = moved_gets (s.environment.global name) offset kept ns
  name_gets (symbol.Label l) kept ns = nothing_gets machine s whole rest st (word.Label s.environment.home.function l ∷ []) (λ f ws. ws ≡ word.Label s.environment.home.function l ∷ []) kept refl
  name_gets (symbol.Block size align) kept ns = absurd (ns refl)

  -- what an effect is equal to may stand for it
  abbrev GetsAs : List Instr → ((ℕ → Word) → List Word → Type 0) → ℕ → Effect → Type 0
  GetsAs code holds to e = Gets machine s whole code rest st e holds (λ q. q ≡ to → ⊥)

  combine_gets : (o : Arithmetic) (h : Head) (q to : ℕ) (xs ys : List Word) (y : Word) (operand : Source) → operator_for o ≡ number_of h → xs ≡ st.registers q ∷ [] → ys ≡ y ∷ [] → operates (combined o) operand (reads (machine.operands (instr.Binary o to q operand)) st.registers) ≡ gave (of_two true (combined o) (st.registers q) y) → results (source_operands operand) ≡ [] → GetsAs (instr.Binary o to q operand ∷ []) (λ f ws. ws ≡ f to ∷ []) to (does s h (xs ++ ys) st.point)
  combine_gets o h q to xs ys y operand e ex ey act none =
      subst (GetsAs (instr.Binary o to q operand ∷ []) (λ f ws. ws ≡ f to ∷ []) to) (sym same) (value_gets (instr.Binary o to q operand) to _ (effect_of s.call (gave combination) st.point) refl refl none (ap (λ a. effect_of s.call a st.point) act) (one_gave s.call combination st.point))
    where
      combination : Option Word
      combination = of_two true (combined o) (st.registers q) y

      same : does s h (xs ++ ys) st.point ≡ effect_of s.call (gave combination) st.point
      same =
          ap (λ l. does s h (l ++ ys) st.point) ex
          ∙ ap (λ l. does s h (st.registers q ∷ l) st.point) ey
          ∙ combines_row s o h (st.registers q) y st.point e

  load_gets : (n to : ℕ) (ws : List Word) → ws ≡ word.Plain (Number n) ∷ [] → GetsAs (instr.LoadNumber to n ∷ []) (λ f us. us ≡ f to ∷ []) to (Went ws st.point Next)
  load_gets n to ws h =
      value_gets (instr.LoadNumber to n) to [] (Went ws st.point Next) refl refl refl (ap (λ l. Went l st.point Next) (sym h)) (word.Plain (Number n), h)

  negate_gets : (h : Head) (r to : ℕ) (xs : List Word) → negi ≡ number_of h → xs ≡ st.registers r ∷ [] → GetsAs (instr.Negate to r ∷ []) (λ f ws. ws ≡ f to ∷ []) to (does s h xs st.point)
  negate_gets h r to xs e ex =
      subst (GetsAs (instr.Negate to r ∷ []) (λ f ws. ws ≡ f to ∷ []) to) (sym same) (value_gets (instr.Negate to r) to _ (effect_of s.call (gave negative) st.point) refl refl refl refl (one_gave s.call negative st.point))
    where
      negative : Option Word
      negative = of_one Negate (st.registers r)

      same : does s h xs st.point ≡ effect_of s.call (gave negative) st.point
      same = ap (λ l. does s h l st.point) ex ∙ does_as s h op.Neg I (st.registers r ∷ []) st.point (is_negi h e)

  hand_gets : (h : Head) (r to : ℕ) (xs : List Word) → argi ≡ number_of h → xs ≡ st.registers r ∷ [] → GetsAs (instr.Argument r ∷ []) (λ f ws. Unit {0}) to (does s h xs st.point)
  hand_gets h r to xs e ex =
      subst (GetsAs (instr.Argument r ∷ []) (λ f ws. Unit {0}) to) (sym same) (one_gets machine s whole rest st (instr.Argument r) (effect_of s.call (Passed (st.registers r)) st.point) (λ f ws. Unit {0}) (λ q. q ≡ to → ⊥) refl refl (λ q other. refl) tt)
    where
      same : does s h xs st.point ≡ effect_of s.call (Passed (st.registers r)) st.point
      same = ap (λ l. does s h l st.point) ex ∙ does_as s h op.Arg I (st.registers r ∷ []) st.point (is_argi h e)

  return_gets : (h : Head) (r to : ℕ) (xs : List Word) → reti ≡ number_of h → xs ≡ st.registers r ∷ [] → GetsAs (instr.Return r ∷ []) (λ f ws. Unit {0}) to (does s h xs st.point)
  return_gets h r to xs e ex =
      subst (GetsAs (instr.Return r ∷ []) (λ f ws. Unit {0}) to) (sym same) (one_gets machine s whole rest st (instr.Return r) (Went [] st.point (End (Some (st.registers r)))) (λ f ws. Unit {0}) (λ q. q ≡ to → ⊥) refl refl (λ q other. refl) tt)
    where
      same : does s h xs st.point ≡ Went [] st.point (End (Some (st.registers r)))
      same = ap (λ l. does s h l st.point) ex ∙ does_as s h op.Ret I (st.registers r ∷ []) st.point (is_reti h e)

  call_gets : (h : Head) (name to : ℕ) (offset : ℤ) (xs : List Word) → calli ≡ number_of h → xs ≡ word_behind (s.environment.global name) offset ∷ [] → GetsAs (instr.Call to name ∷ []) (λ f ws. ws ≡ f to ∷ []) to (does s h xs st.point)
  call_gets h name to offset xs e ex =
      subst (GetsAs (instr.Call to name ∷ []) (λ f ws. ws ≡ f to ∷ []) to) (sym same) (value_gets (instr.Call to name) to [] (effect_of s.call (called true callee) st.point) refl refl refl (ap (λ a. effect_of s.call a st.point) (same_callee (s.environment.global name) offset)) (one_called s.call callee st.point))
    where
      callee : Word
      callee = word_behind (s.environment.global name) offset

      same : does s h xs st.point ≡ effect_of s.call (called true callee) st.point
      same = ap (λ l. does s h l st.point) ex ∙ does_as s h op.Call I (callee ∷ []) st.point (is_calli h e)

  -- a label isn't called
  call_label_stuck : (h : Head) (l : ℕ) (xs : List Word) → calli ≡ number_of h → xs ≡ word.Label s.environment.home.function l ∷ [] → does s h xs st.point ≡ Stuck
  call_label_stuck h l xs e ex =
      ap (λ v. does s h v st.point) ex ∙ does_as s h op.Call I (word.Label s.environment.home.function l ∷ []) st.point (is_calli h e)

  take_constant_gets : (h : Head) (to : ℕ) → cnsti ≡ number_of h → (does s h [] st.point ≡ Stuck → ⊥) → GetsAs [] (λ f ws. ws ≡ word.Plain (Number (constant_of h.value)) ∷ []) to (does s h [] st.point)
  take_constant_gets h to e ns =
      let same = does_as s h op.Cnst I [] st.point (is_cnsti h e) in
      subst (GetsAs [] (λ f ws. ws ≡ word.Plain (Number (constant_of h.value)) ∷ []) to) (sym same) (constant_gets h.value _ (λ stuck. ns (same ∙ stuck)))

  take_name_gets : (h : Head) (to : ℕ) → addrgp ≡ number_of h → (does s h [] st.point ≡ Stuck → ⊥) → GetsAs [] (λ f ws. Stands (means s (name_of h.sym) f) ws) to (does s h [] st.point)
  take_name_gets h to e ns =
      let same = does_as s h op.Addrg P [] st.point (is_addrgp h e) in
      subst (GetsAs [] (λ f ws. Stands (means s (name_of h.sym) f) ws) to) (sym same) (name_gets h.sym _ (λ stuck. ns (same ∙ stuck)))

  -- a rule with one part hands on, or acts on, its value
  one_value : (A : List (List Word) → Type 0) (p : Part) (vs : List (List Word)) → AllStand rules s (p ∷ []) st.registers vs → ((ws : List Word) → Stands (means s p st.registers) ws → A (ws ∷ [])) → A vs
  one_value A p [] h go = absurd h
  one_value A p (ws ∷ []) h go = go ws h.0
  one_value A p (ws ∷ v ∷ vs) h go = absurd h.1

  two_values : (A : List (List Word) → Type 0) (p q : Part) (vs : List (List Word)) → AllStand rules s (p ∷ q ∷ []) st.registers vs → ((ws us : List Word) → Stands (means s p st.registers) ws → Stands (means s q st.registers) us → A (ws ∷ us ∷ [])) → A vs
  two_values A p q [] h go = absurd h
  two_values A p q (ws ∷ []) h go = absurd h.1
  two_values A p q (ws ∷ us ∷ []) h go = go ws us h.0 h.1.0
  two_values A p q (ws ∷ us ∷ v ∷ vs) h go = absurd h.1.1

  no_values : (A : List (List Word) → Type 0) (vs : List (List Word)) → AllStand rules s [] st.registers vs → A [] → A vs
  no_values A [] h go = go
  no_values A (ws ∷ vs) h go = absurd h

  abbrev Acts : Action → MPattern → Node → List Part → ℕ → List (List Word) → Type 0
  Acts d pattern t ps to vs = (pattern_effect s pattern t vs st.point ≡ Stuck → ⊥) → GetsAs (code_by d ps to) (λ f ws. Stands (means s (part_by d t ps to) f) ws) to (pattern_effect s pattern t vs st.point)

  pub acts_by : {d : Action} {left : ℕ} {pattern : MPattern} {t : Node} {ps : List Part} {ms : List Meeting} (to : ℕ) (vs : List (List Word)) → Applied d left pattern t ps ms → AllStand rules s ps st.registers vs → Acts d pattern t ps to vs
  acts_by to vs (Discards t r low) a = one_value (λ us. Acts action.Discard (PHole reg) t (Register r ∷ []) to us) (Register r) vs a (λ ws h ns. nothing_gets machine s whole rest st ws _ _ tt)
  acts_by to vs (TakesConstant h e) a = no_values (λ us. Acts action.TakeConstant (PLeaf cnsti) (Leaf h) [] to us) vs a (λ ns. take_constant_gets h to e ns)
  acts_by to vs (PassesConstant t n) a = one_value (λ us. Acts action.Pass (PHole con) t (Constant n ∷ []) to us) (Constant n) vs a (λ ws h ns. nothing_gets machine s whole rest st ws _ _ h)
  acts_by to vs (PassesRegister t r low) a = one_value (λ us. Acts action.Pass (PHole reg) t (Register r ∷ []) to us) (Register r) vs a (λ ws h ns. nothing_gets machine s whole rest st ws _ _ h)
  acts_by to vs (LoadsConstant t n e) a = one_value (λ us. Acts action.LoadConstant (PHole con) t (Constant n ∷ []) to us) (Constant n) vs a (λ ws h ns. load_gets n to ws h)
  acts_by to vs (TakesName h e) a = no_values (λ us. Acts action.TakeName (PLeaf addrgp) (Leaf h) [] to us) vs a (λ ns. take_name_gets h to e ns)
  acts_by to vs (CombinesRegisters o h x y q r low_q low_r e) a = two_values (λ us. Acts (action.Combine o) (PTwo (operator_for o) (PHole reg) (PHole rc)) (Two h x y) (Register q ∷ Register r ∷ []) to us) (Register q) (Register r) vs a (λ ws us hw hu ns. combine_gets o h q to ws us (st.registers r) (source.Register r) e hw hu refl refl)
  acts_by to vs (CombinesConstant o h x y q n low e) a = two_values (λ us. Acts (action.Combine o) (PTwo (operator_for o) (PHole reg) (PHole rc)) (Two h x y) (Register q ∷ Constant n ∷ []) to us) (Register q) (Constant n) vs a (λ ws us hw hu ns. combine_gets o h q to ws us (word.Plain (Number n)) (source.Number n) e hw hu refl refl)
  acts_by to vs (Negates h x r low e) a = one_value (λ us. Acts action.Negate (POne negi (PHole reg)) (One h x) (Register r ∷ []) to us) (Register r) vs a (λ ws k ns. negate_gets h r to ws e k)
  acts_by to vs (HandsOver h x r low e) a = one_value (λ us. Acts action.HandOver (POne argi (PHole reg)) (One h x) (Register r ∷ []) to us) (Register r) vs a (λ ws k ns. hand_gets h r to ws e k)
  acts_by to vs (Calls h x name offset e) a = one_value (λ us. Acts action.Call (POne calli (PHole addr)) (One h x) (Name name offset ∷ []) to us) (Name name offset) vs a (λ ws k ns. call_gets h name to offset ws e k)
  acts_by to vs (CallsLabel h x l e) a = one_value (λ us. Acts action.Call (POne calli (PHole addr)) (One h x) (Label l ∷ []) to us) (Label l) vs a (λ ws k ns. absurd (ns (call_label_stuck h l ws e k)))
  acts_by to vs (Returns h x r low e) a = one_value (λ us. Acts action.Return (POne reti (PHole reg)) (One h x) (Register r ∷ []) to us) (Register r) vs a (λ ws k ns. return_gets h r to ws e k)
