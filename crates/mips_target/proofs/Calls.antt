-- The names that a function's code calls are those of globals in its forest.
use Rattle.std.proofs.Common.{◌≡◌, ℕ, zero, suc, Bool, true, false, Some, List, [], ◌∷◌, ◌++◌, sym, ◌∙◌, subst}
use Rattle.std.specs.Prelude.{All, if◌then◌else◌}
use Rattle.std.specs.List.{AllByRecursion}
use Rattle.std.proofs.lemmas.List.Elements.{recursion_from_All}
use Rattle.std.proofs.lemmas.Option.{same_Some}
use Rattle.lburg_model.specs.Derivation.{MDerivation}
use Rattle.lburg_model.specs.Pattern.{MPattern}
use Rattle.op_forest.specs.declared.sym.Sym.{Sym}
use Rattle.op_forest.specs.declared.sym.Sym.TheVariants as symbol
use Rattle.op_forest.specs.Nodes.{Head, Node, Leaf, One, Two, head_of, number_of}
use Rattle.op_forest.specs.EachNode.{AtEachNode}
use Rattle.op_forest.specs.Lowered.{LoweredUnit}
use Rattle.forests.specs.HasRules.{IsGlobal}
use Rattle.vcode.specs.declared.operand.Operand.{Operand}
use Rattle.vcode.specs.Patterns.{Meeting, leaves_at}
use Rattle.vcode.specs.RuleSets.{Row, Applies}
use Rattle.vcode.specs.VirtualCode.{MCode, is_virtual, joined}
use Rattle.vcode.specs.Emission.{Emitted, EmittedAll, Emits, EmitsAll, EmitsRoots, ByChain, ByRule, Nothing, OneMore, NoRoot, OneRoot}
use Rattle.slot_allocator.specs.Slots.{slot_of, is_loaded, is_stored, loads, stores, renamed, spilled, allotted}
use Rattle.frame_rules.specs.declared.action.Action.{Action}
use Rattle.frame_code.specs.declared.instr.Instr.{Instr}
use Rattle.frame_code.specs.declared.instr.Instr.TheVariants as instr
use Rattle.frame_rules.specs.declared.part.Part.{Part}
use Rattle.frame_rules.specs.declared.part.Part.TheVariants as part
use Rattle.frame_code.specs.Instructions.{rename}
use Rattle.mips_rules.specs.Mips.{mips}
use Rattle.frame_rules.specs.Rows.{addrgp}
use Rattle.frame_rules.specs.FrameRules.{code_by, part_by, name_of}
use Rattle.mips_rules.specs.MipsRules.{mips_rules}
use Rattle.frame_rules.specs.OperatorNumbers.{is_addrgp}
use Rattle.frame_rules.specs.AppliedRules.{Applied, Discards, TakesConstant, PassesConstant, PassesRegister, LoadsConstant, TakesName, CombinesRegisters, CombinesConstant, Negates, HandsOver, Calls, CallsLabel, Returns}
use Rattle.mips_rules.specs.AppliedRules.{applied}
use Rattle.unit_text.specs.Callable.{IsCallable, HasCallable}
use Rattle.mips_target.specs.Generated.{IsSelected, temporaries}
use Rattle.frame_code.specs.CalledNames.{CallIs, CallsAre}
use Rattle.mips_target.proofs.Allotted.{allotted_code}
use Rattle.mips_target.proofs.CoveredRoots.{each_both, each_root, IsCovered, AreCovered}
use Rattle.frame_rules.proofs.lemmas.AddedRoots.{roots_front, roots_last}

calls_append : (Q : ℕ → Type 0) (xs ys : List Instr) → CallsAre Q xs → CallsAre Q ys → CallsAre Q (xs ++ ys)
calls_append Q [] ys a b = b
calls_append Q (x ∷ xs) ys a b = (a.0, calls_append Q xs ys a.1 b)

-- ---- what rules add

-- Q holds of the name of the symbol, where it is a global's
abbrev pub SymbolHas : (ℕ → Type 0) → Sym → Type 0
SymbolHas Q (symbol.Global name offset) = Q name
SymbolHas Q x = Unit {0}

-- Q holds of the name that the part hands up, which is no label
abbrev PartHas : (ℕ → Type 0) → Part → Type 0
PartHas Q (part.Name name offset) = Q name
PartHas Q (part.Label l) = ⊥
PartHas Q p = Unit {0}

abbrev PartsHave : (ℕ → Type 0) → List Part → Type 0
PartsHave Q [] = Unit {0}
PartsHave Q (p ∷ ps) = PartHas Q p × PartsHave Q ps

parts_more : (Q : ℕ → Type 0) (ps : List Part) (p : Part) → PartsHave Q ps → PartHas Q p → PartsHave Q (ps ++ p ∷ [])
parts_more Q [] p a b = (b, tt)
parts_more Q (q ∷ ps) p a b = (a.0, parts_more Q ps p a.1 b)

-- a node with what its operator needs and with a rule, and Q holds of its global's name
abbrev pub Names : (ℕ → Type 0) → Node → Type 0
Names Q t = IsCovered t × SymbolHas Q (head_of t).sym

-- the same at each node of the trees that nonterminals meet
abbrev MeetingsName : (ℕ → Type 0) → List Meeting → Type 0
MeetingsName Q [] = Unit {0}
MeetingsName Q (m ∷ ms) = AtEachNode (Names Q) m.1 × MeetingsName Q ms

meetings_front : (Q : ℕ → Type 0) (ms : List Meeting) (m : Meeting) → MeetingsName Q (ms ++ m ∷ []) → MeetingsName Q ms
meetings_front Q [] m h = tt
meetings_front Q (l ∷ ms) m h = (h.0, meetings_front Q ms m h.1)

meetings_last : (Q : ℕ → Type 0) (ms : List Meeting) (m : Meeting) → MeetingsName Q (ms ++ m ∷ []) → AtEachNode (Names Q) m.1
meetings_last Q [] m h = h.0
meetings_last Q (l ∷ ms) m h = meetings_last Q ms m h.1

global_name : (Q : ℕ → Type 0) (x : Sym) → IsGlobal x → SymbolHas Q x → PartHas Q (name_of x)
global_name Q symbol.Nothing g h = absurd g
global_name Q (symbol.Global name offset) g h = h
global_name Q (symbol.Label l) g h = absurd g
global_name Q (symbol.Block size align) g h = absurd g

taken_name : (Q : ℕ → Type 0) (h : Head) → addrgp ≡ number_of h → Names Q (Leaf h) → PartHas Q (name_of h.sym)
taken_name Q h e k = global_name Q h.sym (k.0.rule.1 (is_addrgp h e).0) k.1

-- the trees that the nonterminals of an applied rule meet stand at its node or below
met_names : (Q : ℕ → Type 0) {a : Action} {left : ℕ} {pattern : MPattern} {t : Node} {ps : List Part} {ms : List Meeting} → Applied a left pattern t ps ms → AtEachNode (Names Q) t → MeetingsName Q ms
met_names Q (Discards t r low) k = (k, tt)
met_names Q (TakesConstant h e) k = tt
met_names Q (PassesConstant t n) k = (k, tt)
met_names Q (PassesRegister t r low) k = (k, tt)
met_names Q (LoadsConstant t n e) k = (k, tt)
met_names Q (TakesName h e) k = tt
met_names Q (CombinesRegisters op h a b q r low_q low_r e) k = (k.1, (k.2, tt))
met_names Q (CombinesConstant op h a b q n low e) k = (k.1, (k.2, tt))
met_names Q (Negates h a r low e) k = (k.1, tt)
met_names Q (HandsOver h a r low e) k = (k.1, tt)
met_names Q (Calls h a name offset e) k = (k.1, tt)
met_names Q (CallsLabel h a l e) k = (k.1, tt)
met_names Q (Returns h a r low e) k = (k.1, tt)

-- a rule calls, and hands up, only names that its parts or its node have
rule_names : (Q : ℕ → Type 0) {a : Action} {left : ℕ} {pattern : MPattern} {t : Node} {ps : List Part} {ms : List Meeting} (to : ℕ) → Applied a left pattern t ps ms → AtEachNode (Names Q) t → PartsHave Q ps → CallsAre Q (code_by a ps to) × PartHas Q (part_by a t ps to)
rule_names Q to (Discards t r low) k h = (tt, tt)
rule_names Q to (TakesConstant x e) k h = (tt, tt)
rule_names Q to (PassesConstant t n) k h = (tt, tt)
rule_names Q to (PassesRegister t r low) k h = (tt, tt)
rule_names Q to (LoadsConstant t n e) k h = ((tt, tt), tt)
rule_names Q to (TakesName x e) k h = (tt, taken_name Q x e k)
rule_names Q to (CombinesRegisters op x a b q r low_q low_r e) k h = ((tt, tt), tt)
rule_names Q to (CombinesConstant op x a b q n low e) k h = ((tt, tt), tt)
rule_names Q to (Negates x a r low e) k h = ((tt, tt), tt)
rule_names Q to (HandsOver x a r low e) k h = ((tt, tt), tt)
rule_names Q to (Calls x a name offset e) k h = ((h.0, tt), tt)
rule_names Q to (CallsLabel x a l e) k h = absurd h.0
rule_names Q to (Returns x a r low e) k h = ((tt, tt), tt)

applied_names : (Q : ℕ → Type 0) (number : ℕ) (row : Row) (t : Node) (ps : List Part) (to : ℕ) → Applies mips_rules number row t ps to → AtEachNode (Names Q) t → PartsHave Q ps → CallsAre Q (mips_rules.code number t ps to) × PartHas Q (mips_rules.part number t ps to)
applied_names Q number row t ps to a k h = rule_names Q to (applied number row t ps to a) k h

leaves_name : (Q : ℕ → Type 0) (number : ℕ) (row : Row) (t : Node) (ps : List Part) (to : ℕ) (ms : List Meeting) → Applies mips_rules number row t ps to → leaves_at row.pattern t ≡ Some ms → AtEachNode (Names Q) t → MeetingsName Q ms
leaves_name Q number row t ps to ms a fits k =
    let met = met_names Q (applied number row t ps to a) k in
    subst (MeetingsName Q) (same_Some a.meetings ms (sym a.fits ∙ fits)) met

-- Q holds of the names that the code calls, and of that which is handed up
abbrev pub OneNames : (ℕ → Type 0) → Emitted Instr Part → Type 0
OneNames Q e = CallsAre Q e.code × PartHas Q e.part

abbrev AllName : (ℕ → Type 0) → EmittedAll Instr Part → Type 0
AllName Q es = CallsAre Q es.code × PartsHave Q es.parts

with_code : (Q : ℕ → Type 0) (old new : List Instr) (p : Part) → CallsAre Q old → CallsAre Q new × PartHas Q p → CallsAre Q (old ++ new) × PartHas Q p
with_code Q old new p h k = (calls_append Q old new h k.0, k.1)

mutual
  emitted_names : (Q : ℕ → Type 0) {x : MDerivation} {t : Node} {n : ℕ} {e : Emitted Instr Part} → Emits mips_rules x t n e → AtEachNode (Names Q) t → OneNames Q e
  emitted_names Q (ByChain {number} {row} {x} {t} {n} {e} one chain a) k =
      let inner = emitted_names Q one k in
      with_code Q e.code (mips_rules.code number t (e.part ∷ []) e.to) _ inner.0 (applied_names Q number row t (e.part ∷ []) e.to a k (inner.1, tt))
  emitted_names Q (ByRule {number} {row} {xs} {meetings} {t} {n} {es} all fits chain a) k =
      let inner = all_emitted_names Q all (leaves_name Q number row t es.parts es.next meetings a fits k) in
      with_code Q es.code (mips_rules.code number t es.parts es.next) _ inner.0 (applied_names Q number row t es.parts es.next a k inner.1)

  all_emitted_names : (Q : ℕ → Type 0) {xs : List MDerivation} {ms : List Meeting} {n : ℕ} {es : EmittedAll Instr Part} → EmitsAll mips_rules xs ms n es → MeetingsName Q ms → AllName Q es
  all_emitted_names Q (Nothing {n}) k = (tt, tt)
  all_emitted_names Q (OneMore {xs} {meetings} {x} meeting {n} {es} {e} all one) k =
      let front = all_emitted_names Q all (meetings_front Q meetings meeting k) in
      let last = emitted_names Q one (meetings_last Q meetings meeting k) in
      (calls_append Q es.code e.code front.0 last.0, parts_more Q es.parts e.part front.1 last.1)

-- ---- roots

joined_names : (Q : ℕ → Type 0) (ss : List (List Instr)) (s : List Instr) → CallsAre Q (joined ss) → CallsAre Q s → CallsAre Q (joined (ss ++ s ∷ []))
joined_names Q [] s a b = calls_append Q s [] b tt
joined_names Q (r ∷ ss) s a b = split Q r (joined ss) (joined (ss ++ s ∷ [])) a (λ h. joined_names Q ss s h b)
  where
    split : (Q : ℕ → Type 0) (xs ys zs : List Instr) → CallsAre Q (xs ++ ys) → (CallsAre Q ys → CallsAre Q zs) → CallsAre Q (xs ++ zs)
    split Q [] ys zs h go = go h
    split Q (x ∷ xs) ys zs h go = (h.0, split Q xs ys zs h.1 go)

pub roots_name : (Q : ℕ → Type 0) {xs : List MDerivation} {ts : List Node} {n next : ℕ} {stretches : List (List Instr)} → EmitsRoots mips_rules xs ts n stretches next → AllByRecursion (AtEachNode (Names Q)) ts → CallsAre Q (joined stretches)
roots_name Q (NoRoot {n}) k = tt
roots_name Q (OneRoot {xs} {ts} {x} {t} {n} {n'} {stretches} {e} front one) k =
    joined_names Q stretches e.code (roots_name Q front (roots_front (AtEachNode (Names Q)) ts t k)) (emitted_names Q one (roots_last (AtEachNode (Names Q)) ts t k)).0

-- ---- spill slots

renamed_one : (Q : ℕ → Type 0) (i : Instr) (k r : ℕ) → CallIs Q i → CallIs Q (rename i k r)
renamed_one Q (instr.LoadNumber to n) k r h = tt
renamed_one Q (instr.Binary op to from operand) zero r h = tt
renamed_one Q (instr.Binary op to from operand) (suc zero) r h = tt
renamed_one Q (instr.Binary op to from operand) (suc (suc k)) r h = tt
renamed_one Q (instr.Negate to from) zero r h = tt
renamed_one Q (instr.Negate to from) (suc k) r h = tt
renamed_one Q (instr.Argument from) k r h = tt
renamed_one Q (instr.Call to name) k r h = h
renamed_one Q (instr.Return from) k r h = tt
renamed_one Q (instr.Copy to from) zero r h = tt
renamed_one Q (instr.Copy to from) (suc k) r h = tt
renamed_one Q (instr.LoadSlot to slot) k r h = tt
renamed_one Q (instr.StoreSlot from slot) k r h = tt

renamed_if : (Q : ℕ → Type 0) (b : Bool) (i j : Instr) → CallIs Q i → CallIs Q j → CallIs Q (if b then j else i)
renamed_if Q true i j h k = k
renamed_if Q false i j h k = h

renamed_calls : (Q : ℕ → Type 0) (n : ℕ) (ts : List ℕ) (os : List Operand) (i : Instr) → CallIs Q i → CallIs Q (renamed mips n ts os i)
renamed_calls Q n [] os i h = h
renamed_calls Q n (t ∷ ts) [] i h = h
renamed_calls Q n (t ∷ ts) (o ∷ os) i h =
    renamed_calls Q (suc n) ts os (if is_virtual o.reg then rename i n t else i) (renamed_if Q (is_virtual o.reg) i (rename i n t) h (renamed_one Q i n t h))

-- code with an instruction in front, or without
put_if : (Q : ℕ → Type 0) (b : Bool) (i : Instr) (is : List Instr) → CallIs Q i → CallsAre Q is → CallsAre Q (if b then i ∷ is else is)
put_if Q true i is h k = (h, k)
put_if Q false i is h k = k

loads_calls : (Q : ℕ → Type 0) (ts : List ℕ) (os : List Operand) → CallsAre Q (loads mips ts os)
loads_calls Q [] os = tt
loads_calls Q (t ∷ ts) [] = tt
loads_calls Q (t ∷ ts) (o ∷ os) = put_if Q (is_loaded o) (instr.LoadSlot t (slot_of o.reg)) (loads mips ts os) tt (loads_calls Q ts os)

stores_calls : (Q : ℕ → Type 0) (ts : List ℕ) (os : List Operand) → CallsAre Q (stores mips ts os)
stores_calls Q [] os = tt
stores_calls Q (t ∷ ts) [] = tt
stores_calls Q (t ∷ ts) (o ∷ os) = put_if Q (is_stored o) (instr.StoreSlot t (slot_of o.reg)) (stores mips ts os) tt (stores_calls Q ts os)

pub allotted_calls : (Q : ℕ → Type 0) (ts : List ℕ) (code : List Instr) → CallsAre Q code → CallsAre Q (allotted mips ts code)
allotted_calls Q ts [] h = tt
allotted_calls Q ts (i ∷ is) h =
    let os = mips.operands i in
    calls_append Q (spilled mips ts i) (allotted mips ts is)
    (calls_append Q (loads mips ts os) (renamed mips 0 ts os i ∷ stores mips ts os) (loads_calls Q ts os) (renamed_calls Q 0 ts os i h.0, stores_calls Q ts os))
    (allotted_calls Q ts is h.1)

-- ---- functions

covered_name : (Q : ℕ → Type 0) (ts : List Node) → AreCovered ts → AllByRecursion (AtEachNode (λ t. SymbolHas Q (head_of t).sym)) ts → AllByRecursion (AtEachNode (Names Q)) ts
covered_name Q ts w h =
    let Has : Node → Type 0 = λ t. SymbolHas Q (head_of t).sym in
    each_root (AtEachNode IsCovered) (AtEachNode Has) (AtEachNode (Names Q)) (each_both IsCovered Has (Names Q) (λ t c s. (c, s))) ts w h

-- each name that the code of these roots calls is that of a global at a node of them
pub calls_have : (Q : ℕ → Type 0) (roots : List Node) (virtual : MCode Instr) → IsSelected roots virtual → AreCovered roots → All (AtEachNode (λ t. SymbolHas Q (head_of t).sym)) roots → CallsAre Q (allotted_code virtual)
calls_have Q roots virtual selected w h =
    let l = selected.linearised in
    let each = covered_name Q roots w (recursion_from_All (AtEachNode (λ t. SymbolHas Q (head_of t).sym)) roots h) in
    allotted_calls Q temporaries virtual.code (subst (CallsAre Q) (sym l.code) (roots_name Q l.emits each))

callable_symbol : (u : LoweredUnit) (x : Sym) → HasCallable u x → SymbolHas (IsCallable u) x
callable_symbol u symbol.Nothing h = tt
callable_symbol u (symbol.Global name offset) h = h
callable_symbol u (symbol.Label l) h = tt
callable_symbol u (symbol.Block size align) h = tt

callable_at : (u : LoweredUnit) (t : Node) → AtEachNode (λ x. HasCallable u (head_of x).sym) t → AtEachNode (λ x. SymbolHas (IsCallable u) (head_of x).sym) t
callable_at u (Leaf h) k = callable_symbol u h.sym k
callable_at u (One h a) k = (callable_symbol u h.sym k.0, callable_at u a k.1)
callable_at u (Two h a b) k = (callable_symbol u h.sym k.0, callable_at u a k.1, callable_at u b k.2)

-- where each global at a node can be called, so can each name that the code calls
pub calls_callable : (u : LoweredUnit) (roots : List Node) (virtual : MCode Instr) → IsSelected roots virtual → AreCovered roots → All (AtEachNode (λ t. HasCallable u (head_of t).sym)) roots → CallsAre (IsCallable u) (allotted_code virtual)
calls_callable u roots virtual selected w h = calls_have (IsCallable u) roots virtual selected w (λ k d below. callable_at u _ (h k d below))
