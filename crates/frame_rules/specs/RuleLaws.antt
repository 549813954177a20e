-- Rules keep the laws of a rule set on a machine, by their actions.
use Rattle.std.specs.Prelude.{◌≡◌, ℕ, ◌≤◌, ◌==◌, ◌||◌, not, ◌⊎◌, Bool, true, false, Some, List, [], ◌∷◌, ◌++◌, map, length, slice_get, refl}
use Rattle.std.specs.List.{AllByRecursion}
use Rattle.std.proofs.Common.{arith, ap, sym, ◌∙◌, subst, inl, inr, ⊎_elim}
use Rattle.std.proofs.lemmas.Bool.{both_ways, eqb-true, eq-eqb, or_cases, or_left, or_right, le-leb}
use Rattle.lburg_model.specs.Pattern.{MPattern}
use Rattle.op_forest.specs.declared.sym.Sym.{Sym}
use Rattle.op_forest.specs.declared.sym.Sym.TheVariants as symbol
use Rattle.frame_code.specs.declared.arithmetic.Arithmetic.{Arithmetic}
use Rattle.frame_code.specs.declared.arithmetic.Arithmetic.TheVariants as binary
use Rattle.op_forest.specs.declared.op.Op.{Op}
use Rattle.op_forest.specs.declared.op.Op.TheVariants as op
use Rattle.op_forest.specs.declared.suffix.Suffix.{Suffix}
use Rattle.op_forest.specs.declared.suffix.Suffix.TheVariants.{I, P}
use Rattle.op_forest.specs.Signature.{gives_value}
use Rattle.op_forest.specs.Nodes.{Head, Node, head_of, gives, number_of}
use Rattle.forests.specs.Words.{Word}
use Rattle.forests.specs.Bodies.{Setting}
use Rattle.vcode.specs.VirtualCode.{is_virtual, among, Flows, UsesNoSlot, HasNoMark, MarkedFirst, MovesNot, MovesLast}
use Rattle.vcode.specs.Patterns.{Meeting, is_chain, is_ordered}
use Rattle.vcode.specs.RuleSets.{Row, SameAt, CodeNames, Settles, one_register, own_register, code_results, is_move, is_label, op_at, all_registers, SomeBusy}
use Rattle.frame_rules.specs.declared.action.Action.{Action}
use Rattle.frame_code.specs.declared.instr.Instr.{Instr}
use Rattle.frame_code.specs.declared.instr.Instr.TheVariants as instr
use Rattle.frame_code.specs.declared.instr.Source.TheVariants as source
use Rattle.frame_rules.specs.declared.part.Part.{Part}
use Rattle.frame_rules.specs.declared.part.Part.TheVariants.{Register, Constant, Name, Label, Nothing}
use Rattle.vcode.specs.Machines.{Machine}
use Rattle.vcode.specs.RuleSets.{Rules}
use Rattle.frame_code.specs.FrameMachine.{Losses, frame_machine}
use Rattle.frame_rules.specs.Rows.{Line, cnsti, argi, calli, reti, negi}
use Rattle.frame_rules.specs.FrameRules.{means, registers, is_place, hands, busy, name_of, code_by, part_by, frame_rules}
use Rattle.frame_rules.specs.OperatorNumbers.{is_cnsti, is_addrgp, is_argi, is_calli, is_reti, is_negi, is_addi, is_subi, is_muli}
use Rattle.frame_rules.specs.AppliedRules.{operator_for, Applied, Discards, TakesConstant, PassesConstant, PassesRegister, LoadsConstant, TakesName, CombinesRegisters, CombinesConstant, Negates, HandsOver, Calls, CallsLabel, Returns, at_row}

-- where no pattern has an operator below its root
pub ordered : (lines : List Line) → AllByRecursion (λ l. is_ordered l.row.pattern ≡ true) lines → (place : ℕ) (row : Row) → slice_get (map (λ l. l.row) lines) place ≡ Some row → is_ordered row.pattern ≡ true
ordered lines all place row e =
    let found = at_row (λ l. is_ordered l.row.pattern ≡ true) lines place row all e in
    subst (λ r. is_ordered r.pattern ≡ true) found.2 found.3

pub local : (s : Setting) (p : Part) (f g : ℕ → Word) → SameAt (registers p) f g → means s p f ≡ means s p g
local s (Register r) f g h = ap Some h.0
local s (Constant n) f g h = refl
local s (Name name offset) f g h = refl
local s (Label l) f g h = refl
local s Nothing f g h = refl

-- the part of a symbol is a name or a label, and names no register
place_handed : (x : Sym) → is_place (name_of x) ≡ true
place_handed symbol.Nothing = refl
place_handed (symbol.Global name offset) = refl
place_handed (symbol.Label l) = refl
place_handed (symbol.Block size align) = refl

nameless : (x : Sym) → registers (name_of x) ≡ []
nameless symbol.Nothing = refl
nameless (symbol.Global name offset) = refl
nameless (symbol.Label l) = refl
nameless (symbol.Block size align) = refl

no : {A : Type 0} → false ≡ true → A
no e = absurd (both_ways false refl e)

-- a register is among those that begin with it, and among those that go on with some that it is among
here : (r : ℕ) (rs : List ℕ) → among r (r ∷ rs) ≡ true
here r rs = or_left (r == r) (among r rs) (eq-eqb r r refl)

later : (r q : ℕ) (rs : List ℕ) → among r rs ≡ true → among r (q ∷ rs) ≡ true
later r q rs h = or_right (r == q) (among r rs) h

alone : (r q : ℕ) → among r (q ∷ []) ≡ true → r ≡ q
alone r q h = ⊎_elim (λ e. eqb-true r q e) (λ e. no e) (or_cases (r == q) false h)

low_virtual : (r : ℕ) → 64 ≤ r → is_virtual r ≡ true
low_virtual r h = le-leb 64 r h

-- the new part is one that the left side may hand up
pub hands_by : {d : Action} {left : ℕ} {pattern : MPattern} {t : Node} {ps : List Part} {ms : List Meeting} (to : ℕ) → Applied d left pattern t ps ms → hands left t (part_by d t ps to) ≡ true
hands_by to (Discards t r low) = refl
hands_by to (TakesConstant h e) = eq-eqb cnsti (number_of h) e
hands_by to (PassesConstant t n) = refl
hands_by to (PassesRegister t r low) = refl
hands_by to (LoadsConstant t n e) = refl
hands_by to (TakesName h e) = place_handed h.sym
hands_by to (CombinesRegisters op h a b q r low_q low_r e) = refl
hands_by to (CombinesConstant op h a b q n low e) = refl
hands_by to (Negates h a r low e) = refl
hands_by to (HandsOver h a r low e) = refl
hands_by to (Calls h a name offset e) = refl
hands_by to (CallsLabel h a l e) = refl
hands_by to (Returns h a r low e) = refl

-- which operators give a value
gives_as : (h : Head) (o : Op) (x : Suffix) (b : Bool) → (h.operator.op ≡ o) × (h.operator.suffix ≡ x) → gives_value o x ≡ b → gives h ≡ b
gives_as h o x b e g = ap (λ q. gives_value q h.operator.suffix) e.0 ∙ ap (λ y. gives_value o y) e.1 ∙ g

constant_gives : (h : Head) → cnsti ≡ number_of h → gives h ≡ true
constant_gives h e = gives_as h op.Cnst I true (is_cnsti h e) refl

combined_gives : (o : Arithmetic) (h : Head) → operator_for o ≡ number_of h → gives h ≡ true
combined_gives binary.Add h e = gives_as h op.Add I true (is_addi h e) refl
combined_gives binary.Subtract h e = gives_as h op.Sub I true (is_subi h e) refl
combined_gives binary.Multiply h e = gives_as h op.Mul I true (is_muli h e) refl

negation_gives : (h : Head) → negi ≡ number_of h → gives h ≡ true
negation_gives h e = gives_as h op.Neg I true (is_negi h e) refl

call_gives : (h : Head) → calli ≡ number_of h → gives h ≡ true
call_gives h e = gives_as h op.Call I true (is_calli h e) refl

argument_gives : (h : Head) → argi ≡ number_of h → gives h ≡ false
argument_gives h e = gives_as h op.Arg I false (is_argi h e) refl

return_gives : (h : Head) → reti ≡ number_of h → gives h ≡ false
return_gives h e = gives_as h op.Ret I false (is_reti h e) refl

-- the node's register alone is named, and the code writes it
own : (r to : ℕ) (rs : List ℕ) (takes : Bool) → takes ≡ true → among r (to ∷ []) ≡ true → (among r rs ≡ true) ⊎ ((among r (one_register takes to) ≡ true) × (among r (to ∷ []) ≡ true))
own r to rs takes g h = inr (subst (λ b. among r (one_register b to) ≡ true) (sym g) h, h)

module _ (lost : Losses) (pointer : ℕ) (lines : List Line) where
  abbrev machine : Machine Instr
  machine = frame_machine lost pointer

  abbrev rules : Rules Instr Part
  rules = frame_rules lines

  -- the new part's registers
  pub part_registers_by : {d : Action} {left : ℕ} {pattern : MPattern} {t : Node} {ps : List Part} {ms : List Meeting} (to q : ℕ) → Applied d left pattern t ps ms → among q (registers (part_by d t ps to)) ≡ true → (among q (all_registers rules ps) ≡ true) ⊎ ((among q (own_register t to) ≡ true) × (among q (code_results machine (code_by d ps to)) ≡ true))
  part_registers_by to q (Discards t r low) k = no k
  part_registers_by to q (TakesConstant h e) k = no k
  part_registers_by to q (PassesConstant t n) k = no k
  part_registers_by to q (PassesRegister t r low) k = inl k
  part_registers_by to q (LoadsConstant t n e) k = own q to [] (gives (head_of t)) (constant_gives (head_of t) e) k
  part_registers_by to q (TakesName h e) k = no (ap (among q) (sym (nameless h.sym)) ∙ k)
  part_registers_by to q (CombinesRegisters op h a b x y low_x low_y e) k = own q to (x ∷ y ∷ []) (gives h) (combined_gives op h e) k
  part_registers_by to q (CombinesConstant op h a b x n low e) k = own q to (x ∷ []) (gives h) (combined_gives op h e) k
  part_registers_by to q (Negates h a r low e) k = own q to (r ∷ []) (gives h) (negation_gives h e) k
  part_registers_by to q (HandsOver h a r low e) k = no k
  part_registers_by to q (Calls h a name offset e) k = own q to [] (gives h) (call_gives h e) k
  part_registers_by to q (CallsLabel h a l e) k = own q to [] (gives h) (call_gives h e) k
  part_registers_by to q (Returns h a r low e) k = no k

  -- the test of a register that an instruction names, where it is among these
  named : (b : Bool) (r : ℕ) (known : List ℕ) → among r known ≡ true → (b || among r known) ≡ true
  named b r known h = or_right b (among r known) h

  named_here : (b : Bool) (r : ℕ) (rs : List ℕ) → (b || among r (r ∷ rs)) ≡ true
  named_here b r rs = named b r (r ∷ rs) (here r rs)

  named_later : (b : Bool) (r q : ℕ) (rs : List ℕ) → (b || among r (q ∷ (r ∷ rs))) ≡ true
  named_later b r q rs = named b r (q ∷ (r ∷ rs)) (later r q (r ∷ rs) (here r rs))

  -- the registers that code names, where its node gives a value, and where it gives none
  with_own : (takes : Bool) (to : ℕ) (rs : List ℕ) (code : List Instr) → takes ≡ true → CodeNames machine (to ∷ rs) code → CodeNames machine (one_register takes to ++ rs) code
  with_own takes to rs code g h = subst (λ b. CodeNames machine (one_register b to ++ rs) code) (sym g) h

  without_own : (takes : Bool) (to : ℕ) (rs : List ℕ) (code : List Instr) → takes ≡ false → CodeNames machine rs code → CodeNames machine (one_register takes to ++ rs) code
  without_own takes to rs code g h = subst (λ b. CodeNames machine (one_register b to ++ rs) code) (sym g) h

  -- the registers that the code names
  pub names_by : {d : Action} {left : ℕ} {pattern : MPattern} {t : Node} {ps : List Part} {ms : List Meeting} (to : ℕ) → Applied d left pattern t ps ms → CodeNames machine (own_register t to ++ all_registers rules ps) (code_by d ps to)
  names_by to (Discards t r low) = tt
  names_by to (TakesConstant h e) = tt
  names_by to (PassesConstant t n) = tt
  names_by to (PassesRegister t r low) = tt
  names_by to (LoadsConstant t n e) = with_own (gives (head_of t)) to [] (instr.LoadNumber to n ∷ []) (constant_gives (head_of t) e) ((named_here _ to [], tt), tt)
  names_by to (TakesName h e) = tt
  names_by to (CombinesRegisters op h a b q r low_q low_r e) =
      with_own (gives h) to (q ∷ r ∷ []) (instr.Binary op to q (source.Register r) ∷ []) (combined_gives op h e)
      ((named_here _ to (q ∷ r ∷ []), (named_later _ q to (r ∷ []), (named _ r (to ∷ q ∷ r ∷ []) (later r to (q ∷ r ∷ []) (later r q (r ∷ []) (here r []))), tt))), tt)
  names_by to (CombinesConstant op h a b q n low e) =
      with_own (gives h) to (q ∷ []) (instr.Binary op to q (source.Number n) ∷ []) (combined_gives op h e) ((named_here _ to (q ∷ []), (named_later _ q to [], tt)), tt)
  names_by to (Negates h a r low e) = with_own (gives h) to (r ∷ []) (instr.Negate to r ∷ []) (negation_gives h e) ((named_here _ to (r ∷ []), (named_later _ r to [], tt)), tt)
  names_by to (HandsOver h a r low e) = without_own (gives h) to (r ∷ []) (instr.Argument r ∷ []) (argument_gives h e) ((named_here _ r [], tt), tt)
  names_by to (Calls h a name offset e) = with_own (gives h) to [] (instr.Call to name ∷ []) (call_gives h e) ((named_here _ to [], tt), tt)
  names_by to (CallsLabel h a l e) = with_own (gives h) to [] (instr.Call to 0 ∷ []) (call_gives h e) ((named_here _ to [], tt), tt)
  names_by to (Returns h a r low e) = without_own (gives h) to (r ∷ []) (instr.Return r ∷ []) (return_gives h e) ((named_here _ r [], tt), tt)

  -- the registers that the code reads
  pub flows_by : {d : Action} {left : ℕ} {pattern : MPattern} {t : Node} {ps : List Part} {ms : List Meeting} (to : ℕ) → Applied d left pattern t ps ms → Flows machine (all_registers rules ps) (code_by d ps to)
  flows_by to (Discards t r low) = tt
  flows_by to (TakesConstant h e) = tt
  flows_by to (PassesConstant t n) = tt
  flows_by to (PassesRegister t r low) = tt
  flows_by to (LoadsConstant t n e) = ((refl, tt), tt)
  flows_by to (TakesName h e) = tt
  flows_by to (CombinesRegisters op h a b q r low_q low_r e) = ((refl, (named_here _ q (r ∷ []), (named_later _ r q [], tt))), tt)
  flows_by to (CombinesConstant op h a b q n low e) = ((refl, (named_here _ q [], tt)), tt)
  flows_by to (Negates h a r low e) = ((refl, (named_here _ r [], tt)), tt)
  flows_by to (HandsOver h a r low e) = ((named_here _ r [], tt), tt)
  flows_by to (Calls h a name offset e) = ((refl, tt), tt)
  flows_by to (CallsLabel h a l e) = ((refl, tt), tt)
  flows_by to (Returns h a r low e) = ((named_here _ r [], tt), tt)

  -- a virtual register may be read at once
  settled : (r : ℕ) (b : Bool) → 64 ≤ r → (is_virtual r || b) ≡ true
  settled r b h = or_left (is_virtual r) b (low_virtual r h)

  -- the machine's registers that the code reads: none
  pub settles_by : {d : Action} {left : ℕ} {pattern : MPattern} {t : Node} {ps : List Part} {ms : List Meeting} (to : ℕ) → Applied d left pattern t ps ms → Settles machine (code_results machine (code_by d ps to)) [] (code_by d ps to)
  settles_by to (Discards t r low) = tt
  settles_by to (TakesConstant h e) = tt
  settles_by to (PassesConstant t n) = tt
  settles_by to (PassesRegister t r low) = tt
  settles_by to (LoadsConstant t n e) = ((refl, tt), tt)
  settles_by to (TakesName h e) = tt
  settles_by to (CombinesRegisters op h a b q r low_q low_r e) = ((refl, (settled q _ low_q, (settled r _ low_r, tt))), tt)
  settles_by to (CombinesConstant op h a b q n low e) = ((refl, (settled q _ low, tt)), tt)
  settles_by to (Negates h a r low e) = ((refl, (settled r _ low, tt)), tt)
  settles_by to (HandsOver h a r low e) = ((settled r _ low, tt), tt)
  settles_by to (Calls h a name offset e) = ((refl, tt), tt)
  settles_by to (CallsLabel h a l e) = ((refl, tt), tt)
  settles_by to (Returns h a r low e) = ((settled r _ low, tt), tt)

  -- the code uses no spill slot, and has no label
  pub slots_by : {d : Action} {left : ℕ} {pattern : MPattern} {t : Node} {ps : List Part} {ms : List Meeting} (to : ℕ) → Applied d left pattern t ps ms → UsesNoSlot machine (code_by d ps to)
  slots_by to (Discards t r low) = tt
  slots_by to (TakesConstant h e) = tt
  slots_by to (PassesConstant t n) = tt
  slots_by to (PassesRegister t r low) = tt
  slots_by to (LoadsConstant t n e) = ((λ x. x), tt)
  slots_by to (TakesName h e) = tt
  slots_by to (CombinesRegisters op h a b q r low_q low_r e) = ((λ x. x), tt)
  slots_by to (CombinesConstant op h a b q n low e) = ((λ x. x), tt)
  slots_by to (Negates h a r low e) = ((λ x. x), tt)
  slots_by to (HandsOver h a r low e) = ((λ x. x), tt)
  slots_by to (Calls h a name offset e) = ((λ x. x), tt)
  slots_by to (CallsLabel h a l e) = ((λ x. x), tt)
  slots_by to (Returns h a r low e) = ((λ x. x), tt)

  pub marks_by : {d : Action} {left : ℕ} {pattern : MPattern} {t : Node} {ps : List Part} {ms : List Meeting} (to : ℕ) → Applied d left pattern t ps ms → MarkedFirst machine (code_by d ps to)
  marks_by to (Discards t r low) = tt
  marks_by to (TakesConstant h e) = tt
  marks_by to (PassesConstant t n) = tt
  marks_by to (PassesRegister t r low) = tt
  marks_by to (LoadsConstant t n e) = tt
  marks_by to (TakesName h e) = tt
  marks_by to (CombinesRegisters op h a b q r low_q low_r e) = tt
  marks_by to (CombinesConstant op h a b q n low e) = tt
  marks_by to (Negates h a r low e) = tt
  marks_by to (HandsOver h a r low e) = tt
  marks_by to (Calls h a name offset e) = tt
  marks_by to (CallsLabel h a l e) = tt
  marks_by to (Returns h a r low e) = tt

  pub no_mark_by : {d : Action} {left : ℕ} {pattern : MPattern} {t : Node} {ps : List Part} {ms : List Meeting} (to : ℕ) → Applied d left pattern t ps ms → HasNoMark machine (code_by d ps to)
  no_mark_by to (Discards t r low) = tt
  no_mark_by to (TakesConstant h e) = tt
  no_mark_by to (PassesConstant t n) = tt
  no_mark_by to (PassesRegister t r low) = tt
  no_mark_by to (LoadsConstant t n e) = ((λ x. x), tt)
  no_mark_by to (TakesName h e) = tt
  no_mark_by to (CombinesRegisters op h a b q r low_q low_r e) = ((λ x. x), tt)
  no_mark_by to (CombinesConstant op h a b q n low e) = ((λ x. x), tt)
  no_mark_by to (Negates h a r low e) = ((λ x. x), tt)
  no_mark_by to (HandsOver h a r low e) = ((λ x. x), tt)
  no_mark_by to (Calls h a name offset e) = ((λ x. x), tt)
  no_mark_by to (CallsLabel h a l e) = ((λ x. x), tt)
  no_mark_by to (Returns h a r low e) = ((λ x. x), tt)

  -- no rule but a chain rule meets a label yet
  not_label : (h : Head) (o : Op) (x : Suffix) → (h.operator.op ≡ o) × (h.operator.suffix ≡ x) → is_label o ≡ false → h.operator.op ≡ op.Label → ⊥
  not_label h o x e other at = both_ways (is_label o) other (ap is_label (sym e.0 ∙ at))

  combined_no_label : (o : Arithmetic) (h : Head) → operator_for o ≡ number_of h → h.operator.op ≡ op.Label → ⊥
  combined_no_label binary.Add h e at = not_label h op.Add I (is_addi h e) refl at
  combined_no_label binary.Subtract h e at = not_label h op.Sub I (is_subi h e) refl at
  combined_no_label binary.Multiply h e at = not_label h op.Mul I (is_muli h e) refl at

  pub no_label_by : {d : Action} {left : ℕ} {pattern : MPattern} {t : Node} {ps : List Part} {ms : List Meeting} → Applied d left pattern t ps ms → is_chain pattern ≡ false → op_at t ≡ op.Label → ⊥
  no_label_by (Discards t r low) k at = no (sym k)
  no_label_by (TakesConstant h e) k at = not_label h op.Cnst I (is_cnsti h e) refl at
  no_label_by (PassesConstant t n) k at = no (sym k)
  no_label_by (PassesRegister t r low) k at = no (sym k)
  no_label_by (LoadsConstant t n e) k at = no (sym k)
  no_label_by (TakesName h e) k at = not_label h op.Addrg P (is_addrgp h e) refl at
  no_label_by (CombinesRegisters o h a b q r low_q low_r e) k at = combined_no_label o h e at
  no_label_by (CombinesConstant o h a b q n low e) k at = combined_no_label o h e at
  no_label_by (Negates h a r low e) k at = not_label h op.Neg I (is_negi h e) refl at
  no_label_by (HandsOver h a r low e) k at = not_label h op.Arg I (is_argi h e) refl at
  no_label_by (Calls h a name offset e) k at = not_label h op.Call I (is_calli h e) refl at
  no_label_by (CallsLabel h a l e) k at = not_label h op.Call I (is_calli h e) refl at
  no_label_by (Returns h a r low e) k at = not_label h op.Ret I (is_reti h e) refl at

  -- what moves control stands last, and only a return does
  pub moves_by : {d : Action} {left : ℕ} {pattern : MPattern} {t : Node} {ps : List Part} {ms : List Meeting} (to : ℕ) → Applied d left pattern t ps ms → MovesLast machine (code_by d ps to)
  moves_by to (Discards t r low) = tt
  moves_by to (TakesConstant h e) = tt
  moves_by to (PassesConstant t n) = tt
  moves_by to (PassesRegister t r low) = tt
  moves_by to (LoadsConstant t n e) = tt
  moves_by to (TakesName h e) = tt
  moves_by to (CombinesRegisters op h a b q r low_q low_r e) = tt
  moves_by to (CombinesConstant op h a b q n low e) = tt
  moves_by to (Negates h a r low e) = tt
  moves_by to (HandsOver h a r low e) = tt
  moves_by to (Calls h a name offset e) = tt
  moves_by to (CallsLabel h a l e) = tt
  moves_by to (Returns h a r low e) = tt

  -- a RETI moves control; a CNSTI doesn't, and is no label
  return_moves : (h : Head) → reti ≡ number_of h → not (is_move h.operator.op) ≡ true → ⊥
  return_moves h e k = both_ways false refl (ap (λ o. not (is_move o)) (sym ((is_reti h e).0)) ∙ k)

  constant_stays : (h : Head) → cnsti ≡ number_of h → (is_label h.operator.op || is_move h.operator.op) ≡ true → ⊥
  constant_stays h e k = both_ways false refl (ap (λ o. is_label o || is_move o) (sym ((is_cnsti h e).0)) ∙ k)

  pub moves_only_by : {d : Action} {left : ℕ} {pattern : MPattern} {t : Node} {ps : List Part} {ms : List Meeting} (to : ℕ) → Applied d left pattern t ps ms → (is_chain pattern || not (is_move (op_at t))) ≡ true → MovesNot machine (code_by d ps to)
  moves_only_by to (Discards t r low) k = tt
  moves_only_by to (TakesConstant h e) k = tt
  moves_only_by to (PassesConstant t n) k = tt
  moves_only_by to (PassesRegister t r low) k = tt
  moves_only_by to (LoadsConstant t n e) k = (refl, tt)
  moves_only_by to (TakesName h e) k = tt
  moves_only_by to (CombinesRegisters op h a b q r low_q low_r e) k = (refl, tt)
  moves_only_by to (CombinesConstant op h a b q n low e) k = (refl, tt)
  moves_only_by to (Negates h a r low e) k = (refl, tt)
  moves_only_by to (HandsOver h a r low e) k = (refl, tt)
  moves_only_by to (Calls h a name offset e) k = (refl, tt)
  moves_only_by to (CallsLabel h a l e) k = (refl, tt)
  moves_only_by to (Returns h a r low e) k = absurd (return_moves h e k)

  -- where control moves, or at a label, no chain rule adds code
  pub silent_by : {d : Action} {left : ℕ} {pattern : MPattern} {t : Node} {ps : List Part} {ms : List Meeting} (to : ℕ) → Applied d left pattern t ps ms → is_chain pattern ≡ true → (is_label (op_at t) || is_move (op_at t)) ≡ true → code_by d ps to ≡ []
  silent_by to (Discards t r low) k moving = refl
  silent_by to (TakesConstant h e) k moving = no k
  silent_by to (PassesConstant t n) k moving = refl
  silent_by to (PassesRegister t r low) k moving = refl
  silent_by to (LoadsConstant t n e) k moving = absurd (constant_stays (head_of t) e moving)
  silent_by to (TakesName h e) k moving = no k
  silent_by to (CombinesRegisters op h a b q r low_q low_r e) k moving = no k
  silent_by to (CombinesConstant op h a b q n low e) k moving = no k
  silent_by to (Negates h a r low e) k moving = no k
  silent_by to (HandsOver h a r low e) k moving = no k
  silent_by to (Calls h a name offset e) k moving = no k
  silent_by to (CallsLabel h a l e) k moving = no k
  silent_by to (Returns h a r low e) k moving = no k

  -- a statement and a register add code, or a part of theirs does
  pub busy_by : {d : Action} {left : ℕ} {pattern : MPattern} {t : Node} {ps : List Part} {ms : List Meeting} (to : ℕ) → Applied d left pattern t ps ms → busy left ≡ true → (1 ≤ length (code_by d ps to)) ⊎ SomeBusy rules ms
  busy_by to (Discards t r low) k = inr (inl refl)
  busy_by to (TakesConstant h e) k = no k
  busy_by to (PassesConstant t n) k = no k
  busy_by to (PassesRegister t r low) k = no k
  busy_by to (LoadsConstant t n e) k = inl (omega arith)
  busy_by to (TakesName h e) k = no k
  busy_by to (CombinesRegisters op h a b q r low_q low_r e) k = inl (omega arith)
  busy_by to (CombinesConstant op h a b q n low e) k = inl (omega arith)
  busy_by to (Negates h a r low e) k = inl (omega arith)
  busy_by to (HandsOver h a r low e) k = inl (omega arith)
  busy_by to (Calls h a name offset e) k = inl (omega arith)
  busy_by to (CallsLabel h a l e) k = inl (omega arith)
  busy_by to (Returns h a r low e) k = inl (omega arith)
