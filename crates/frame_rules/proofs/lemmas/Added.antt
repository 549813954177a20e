-- What rules add: instructions over virtual registers, at each node at most one, and an argument word only
-- where a node gives no value.
use Rattle.std.proofs.Common.{◌≡◌, ℕ, ◌+◌, ◌≤◌, ◌<◌, List, [], ◌∷◌, ◌++◌, Bool, true, false, Option, Some, None, length, length-append, refl, sym, ap, ◌∙◌, subst, arith}
use Rattle.std.specs.Prelude.{ℤ, pos, negsuc, ◌^◌, not, if◌then◌else◌, sum_by}
use Rattle.std.proofs.lemmas.List.Sums.{sum_by-cons}
use Rattle.std.proofs.lemmas.Option.{same_Some}
use Rattle.lburg_model.specs.Derivation.{MDerivation}
use Rattle.lburg_model.specs.Pattern.{MPattern}
use Rattle.op_forest.specs.declared.op.Op.TheVariants as op
use Rattle.op_forest.specs.declared.sym.Sym.{Sym}
use Rattle.op_forest.specs.declared.sym.Sym.TheVariants as symbol
use Rattle.op_forest.specs.Signature.{gives_value}
use Rattle.op_forest.specs.Nodes.{Head, Node, Leaf, One, Two, head_of, nodes, gives, one_where, value_nodes, number_of}
use Rattle.op_forest.specs.EachNode.{AtEachNode}
use Rattle.forests.specs.Words.{number_of as word_number}
use Rattle.vcode.specs.Patterns.{Meeting, leaves_at, is_chain}
use Rattle.vcode.specs.RuleSets.{Row, Applies}
use Rattle.vcode.specs.Emission.{Emitted, EmittedAll, with_chain, with_rule, and_one, Emits, EmitsAll, ByChain, ByRule, Nothing, OneMore}
use Rattle.vcode.specs.Leaves.{met_by, met, IsSum}
use Rattle.vcode.proofs.lemmas.Leaves.{met_by_append, met_append, fewer_met_by, fewer_met}
use Rattle.frame_code.specs.declared.arithmetic.Arithmetic.{Arithmetic}
use Rattle.frame_rules.specs.declared.action.Action.{Action}
use Rattle.frame_code.specs.declared.instr.Instr.{Instr}
use Rattle.frame_code.specs.declared.instr.Instr.TheVariants as instr
use Rattle.frame_code.specs.declared.instr.Source.TheVariants as source
use Rattle.frame_rules.specs.declared.part.Part.{Part}
use Rattle.frame_rules.specs.declared.part.Part.TheVariants as part
use Rattle.std.specs.List.{AllByRecursion}
use Rattle.frame_rules.specs.Rows.{Line, addrgp, argi}
use Rattle.frame_rules.specs.OperatorNumbers.{is_argi}
use Rattle.frame_rules.specs.FrameRules.{action_of, code_by, part_by, constant_of, name_of, name_in, frame_rules}
use Rattle.frame_rules.specs.AppliedRules.{Applied, Inverts, applied, Discards, TakesConstant, PassesConstant, PassesRegister, LoadsConstant, TakesName, CombinesRegisters, CombinesConstant, Negates, HandsOver, Calls, CallsLabel, Returns}

-- an instruction as a rule adds it: its registers are virtual, a number is a word, and what it calls is named
pub data IsAdded (named : ℕ → Type 0) : Instr → Type 0 where
  AddsNumber : (to n : ℕ) → 64 ≤ to → n < 2 ^ 32 → IsAdded named (instr.LoadNumber to n)
  AddsRegisters : (op : Arithmetic) (to from r : ℕ) → 64 ≤ to → 64 ≤ from → 64 ≤ r → IsAdded named (instr.Binary op to from (source.Register r))
  AddsWithNumber : (op : Arithmetic) (to from n : ℕ) → 64 ≤ to → 64 ≤ from → IsAdded named (instr.Binary op to from (source.Number n))
  AddsNegate : (to from : ℕ) → 64 ≤ to → 64 ≤ from → IsAdded named (instr.Negate to from)
  AddsArgument : (from : ℕ) → 64 ≤ from → IsAdded named (instr.Argument from)
  AddsCall : (to name : ℕ) → 64 ≤ to → named name → IsAdded named (instr.Call to name)
  AddsReturn : (from : ℕ) → 64 ≤ from → IsAdded named (instr.Return from)

abbrev pub AreAdded : (ℕ → Type 0) → List Instr → Type 0
AreAdded named [] = Unit {0}
AreAdded named (i ∷ is) = IsAdded named i × AreAdded named is

pub added_append : (named : ℕ → Type 0) (a b : List Instr) → AreAdded named a → AreAdded named b → AreAdded named (a ++ b)
added_append named [] b h k = k
added_append named (i ∷ a) b h k = (h.0, added_append named a b h.1 k)

-- how many argument words an instruction hands over
abbrev pub hands_over : Instr → ℕ
hands_over (instr.Argument from) = 1
hands_over i = 0

abbrev pub handed_over : List Instr → ℕ
handed_over [] = 0
handed_over (i ∷ is) = hands_over i + handed_over is

pub handed_append : (xs ys : List Instr) → handed_over (xs ++ ys) ≡ handed_over xs + handed_over ys
handed_append [] ys = omega arith
handed_append (x ∷ xs) ys = let e : handed_over (xs ++ ys) ≡ handed_over xs + handed_over ys = handed_append xs ys in omega (arith, e)

-- ---- nodes that give no value

abbrev other_own : Head → ℕ
other_own h = one_where (not (gives h))

abbrev pub other_nodes : Node → ℕ
other_nodes (Leaf h) = other_own h
other_nodes (One h a) = other_nodes a + other_own h
other_nodes (Two h a b) = other_nodes a + other_nodes b + other_own h

others_sum : IsSum other_nodes other_own
others_sum = record { leaf = λ h. refl; one = λ h a. refl; two = λ h a b. refl }

either_own : (b : Bool) → one_where b + one_where (not b) ≡ 1
either_own true = refl
either_own false = refl

either : (t : Node) → value_nodes t + other_nodes t ≡ nodes t
either (Leaf h) = either_own (gives h)
either (One h a) = let e = either_own (gives h) in let f = either a in omega (arith, e, f)
either (Two h a b) = let e = either_own (gives h) in let f = either a in let g = either b in omega (arith, e, f, g)

pub either_in : (ts : List Node) → sum_by value_nodes ts + sum_by other_nodes ts ≡ sum_by nodes ts
either_in [] = omega arith
either_in (t ∷ ts) =
    let i : sum_by value_nodes ts + sum_by other_nodes ts ≡ sum_by nodes ts = either_in ts in
    let a : sum_by value_nodes (t ∷ ts) ≡ value_nodes t + sum_by value_nodes ts = sum_by-cons value_nodes t ts in
    let b : sum_by other_nodes (t ∷ ts) ≡ other_nodes t + sum_by other_nodes ts = sum_by-cons other_nodes t ts in
    let c : sum_by nodes (t ∷ ts) ≡ nodes t + sum_by nodes ts = sum_by-cons nodes t ts in
    let own = either t in
    omega (arith, i, a, b, c, own)

-- how many instructions the nodes of a part leave for a rule to add
abbrev pub room : Part → ℕ
room (part.Register r) = 0
room (part.Constant n) = 1
room (part.Name name offset) = 1
room (part.Label l) = 1
room part.Nothing = 0

abbrev pub rooms : List Part → ℕ
rooms [] = 0
rooms (p ∷ ps) = room p + rooms ps

rooms_append : (ps qs : List Part) → rooms (ps ++ qs) ≡ rooms ps + rooms qs
rooms_append [] qs = omega arith
rooms_append (p ∷ ps) qs = let e : rooms (ps ++ qs) ≡ rooms ps + rooms qs = rooms_append ps qs in omega (arith, e)

name_room : (x : Sym) → room (name_of x) ≡ 1
name_room symbol.Nothing = refl
name_room (symbol.Global name offset) = refl
name_room (symbol.Label l) = refl
name_room (symbol.Block size align) = refl

abbrev pub one_unless : Bool → ℕ
one_unless true = 0
one_unless false = 1

-- what holds at each node that is met
abbrev pub EachMet : (Node → Type 0) → List Meeting → Type 0
EachMet P [] = Unit {0}
EachMet P (m ∷ ms) = AtEachNode P m.1 × EachMet P ms

pub each_front : (P : Node → Type 0) (ms : List Meeting) (m : Meeting) → EachMet P (ms ++ m ∷ []) → EachMet P ms
each_front P [] m h = tt
each_front P (l ∷ ms) m h = (h.0, each_front P ms m h.1)

pub each_last : (P : Node → Type 0) (ms : List Meeting) (m : Meeting) → EachMet P (ms ++ m ∷ []) → AtEachNode P m.1
each_last P [] m h = h.0
each_last P (l ∷ ms) m h = each_last P ms m h.1

pub at_root : (P : Node → Type 0) (t : Node) → AtEachNode P t → P t
at_root P (Leaf h) k = k
at_root P (One h a) k = k.0
at_root P (Two h a b) k = k.0

pub at_met : (P : Node → Type 0) {d : Action} {left : ℕ} {pattern : MPattern} {t : Node} {ps : List Part} {ms : List Meeting} → Applied d left pattern t ps ms → AtEachNode P t → EachMet P ms
at_met P (Discards t r low) k = (k, tt)
at_met P (TakesConstant h e) k = tt
at_met P (PassesConstant t n) k = (k, tt)
at_met P (PassesRegister t r low) k = (k, tt)
at_met P (LoadsConstant t n e) k = (k, tt)
at_met P (TakesName h e) k = tt
at_met P (CombinesRegisters op h a b q r low_q low_r e) k = (k.1, (k.2, tt))
at_met P (CombinesConstant op h a b q n low e) k = (k.1, (k.2, tt))
at_met P (Negates h a r low e) k = (k.1, tt)
at_met P (HandsOver h a r low e) k = (k.1, tt)
at_met P (Calls h a name offset e) k = (k.1, tt)
at_met P (CallsLabel h a l e) k = (k.1, tt)
at_met P (Returns h a r low e) k = (k.1, tt)

-- it adds no more than its node and the parts leave
counted_by : {d : Action} {left : ℕ} {pattern : MPattern} {t : Node} {ps : List Part} {ms : List Meeting} (to : ℕ) → Applied d left pattern t ps ms → length (code_by d ps to) + room (part_by d t ps to) ≤ rooms ps + one_unless (is_chain pattern)
counted_by to (Discards t r low) = omega arith
counted_by to (TakesConstant h e) = omega arith
counted_by to (PassesConstant t n) = omega arith
counted_by to (PassesRegister t r low) = omega arith
counted_by to (LoadsConstant t n e) = omega arith
counted_by to (TakesName h e) = let k = name_room h.sym in omega (arith, k)
counted_by to (CombinesRegisters op h a b q r low_q low_r e) = omega arith
counted_by to (CombinesConstant op h a b q n low e) = omega arith
counted_by to (Negates h a r low e) = omega arith
counted_by to (HandsOver h a r low e) = omega arith
counted_by to (Calls h a name offset e) = omega arith
counted_by to (CallsLabel h a l e) = omega arith
counted_by to (Returns h a r low e) = omega arith

argument_other : (h : Head) → argi ≡ number_of h → other_own h ≡ 1
argument_other h e =
    let o = is_argi h e in
    ap (λ b. one_where (not b)) (ap (λ q. gives_value q h.operator.suffix) o.0 ∙ ap (λ x. gives_value op.Arg x) o.1)

-- an argument word is handed over only where a node gives no value
handed_by : {d : Action} {left : ℕ} {pattern : MPattern} {t : Node} {ps : List Part} {ms : List Meeting} (to : ℕ) → Applied d left pattern t ps ms → handed_over (code_by d ps to) ≤ (if is_chain pattern then 0 else other_own (head_of t))
handed_by to (Discards t r low) = omega arith
handed_by to (TakesConstant h e) = omega arith
handed_by to (PassesConstant t n) = omega arith
handed_by to (PassesRegister t r low) = omega arith
handed_by to (LoadsConstant t n e) = omega arith
handed_by to (TakesName h e) = omega arith
handed_by to (CombinesRegisters op h a b q r low_q low_r e) = omega arith
handed_by to (CombinesConstant op h a b q n low e) = omega arith
handed_by to (Negates h a r low e) = omega arith
handed_by to (HandsOver h a r low e) = let o = argument_other h e in omega (arith, o)
handed_by to (Calls h a name offset e) = omega arith
handed_by to (CallsLabel h a l e) = omega arith
handed_by to (Returns h a r low e) = omega arith

-- so many instructions are added, and argument words handed over
pub record Takes (t : Node) (e : Emitted Instr Part) : Type 0 where
  pub count : length e.code + room e.part ≤ nodes t
  pub hands : handed_over e.code ≤ other_nodes t

pub record TakesAll (ms : List Meeting) (es : EmittedAll Instr Part) : Type 0 where
  pub count : length es.code + rooms es.parts ≤ met ms
  pub hands : handed_over es.code ≤ met_by other_nodes ms

-- ---- a table whose lines' rules apply as their actions say
module _ (lines : List Line) (invert : AllByRecursion (Inverts lines) lines) where
  -- how a rule is applied where its pattern meets these
  pub applied_at : (number : ℕ) (row : Row) (t : Node) (ps : List Part) (to : ℕ) (ms : List Meeting) (a : Applies (frame_rules lines) number row t ps to) → leaves_at row.pattern t ≡ Some ms → Applied (action_of lines number) row.left row.pattern t ps ms
  applied_at number row t ps to ms a fits =
      subst (λ l. Applied (action_of lines number) row.left row.pattern t ps l) (same_Some a.meetings ms (sym a.fits ∙ fits)) (applied lines invert number row t ps to a)

  chain_takes : (t : Node) (e : Emitted Instr Part) (number : ℕ) (row : Row) → Takes t e → is_chain row.pattern ≡ true → Applies (frame_rules lines) number row t (e.part ∷ []) e.to → Takes t (with_chain (frame_rules lines) number t e)
  chain_takes t e number row k chain a =
      let by = applied lines invert number row t (e.part ∷ []) e.to a in
      let code : List Instr = code_by (action_of lines number) (e.part ∷ []) e.to in
      let c : length code + room (part_by (action_of lines number) t (e.part ∷ []) e.to) ≤ rooms (e.part ∷ []) + one_unless (is_chain row.pattern) = counted_by e.to by in
      let o : one_unless (is_chain row.pattern) ≡ 0 = ap one_unless chain in
      let l = length-append e.code code in
      let f = k.count in
      let w : handed_over code ≤ 0 = subst (λ b. handed_over code ≤ (if b then 0 else other_own (head_of t))) chain (handed_by e.to by) in
      let x = handed_append e.code code in
      let g = k.hands in
      record { count = omega (arith, c, o, l, f); hands = omega (arith, w, x, g) }

  rule_takes : (t : Node) (ms : List Meeting) (es : EmittedAll Instr Part) (number : ℕ) (row : Row) → TakesAll ms es → leaves_at row.pattern t ≡ Some ms → is_chain row.pattern ≡ false → Applies (frame_rules lines) number row t es.parts es.next → Takes t (with_rule (frame_rules lines) number t es)
  rule_takes t ms es number row k fits chain a =
      let by = applied_at number row t es.parts es.next ms a fits in
      let code : List Instr = code_by (action_of lines number) es.parts es.next in
      let c : length code + room (part_by (action_of lines number) t es.parts es.next) ≤ rooms es.parts + one_unless (is_chain row.pattern) = counted_by es.next by in
      let o : one_unless (is_chain row.pattern) ≡ 1 = ap one_unless chain in
      let m : met ms + 1 ≤ nodes t = fewer_met row.pattern t ms chain fits in
      let n : met_by other_nodes ms + other_own (head_of t) ≤ other_nodes t = fewer_met_by other_nodes other_own others_sum row.pattern t ms chain fits in
      let l = length-append es.code code in
      let f = k.count in
      let w : handed_over code ≤ other_own (head_of t) = subst (λ b. handed_over code ≤ (if b then 0 else other_own (head_of t))) chain (handed_by es.next by) in
      let x = handed_append es.code code in
      let g = k.hands in
      record { count = omega (arith, c, o, l, f, m); hands = omega (arith, w, x, g, n) }

  more_takes : (ms : List Meeting) (meeting : Meeting) (es : EmittedAll Instr Part) (e : Emitted Instr Part) → TakesAll ms es → Takes meeting.1 e → TakesAll (ms ++ meeting ∷ []) (and_one es e)
  more_takes ms meeting es e k l =
      let s : met (ms ++ meeting ∷ []) ≡ met ms + (nodes meeting.1 + 0) = met_append ms (meeting ∷ []) in
      let o : met_by other_nodes (ms ++ meeting ∷ []) ≡ met_by other_nodes ms + (other_nodes meeting.1 + 0) = met_by_append other_nodes ms (meeting ∷ []) in
      let r : rooms (es.parts ++ e.part ∷ []) ≡ rooms es.parts + (room e.part + 0) = rooms_append es.parts (e.part ∷ []) in
      let x = k.count in
      let y = l.count in
      let z = length-append es.code e.code in
      let u = handed_append es.code e.code in
      let v = k.hands in
      let w = l.hands in
      record { count = omega (arith, s, r, x, y, z); hands = omega (arith, o, u, v, w) }

  mutual
    pub takes : {x : MDerivation} {t : Node} {n : ℕ} {e : Emitted Instr Part} → Emits (frame_rules lines) x t n e → Takes t e
    takes (ByChain {number} {row} {x} {t} {n} {e} one chain a) = chain_takes t e number row (takes one) chain a
    takes (ByRule {number} {row} {xs} {meetings} {t} {n} {es} all fits chain a) = rule_takes t meetings es number row (take_all all) fits chain a

    pub take_all : {xs : List MDerivation} {ms : List Meeting} {n : ℕ} {es : EmittedAll Instr Part} → EmitsAll (frame_rules lines) xs ms n es → TakesAll ms es
    take_all (Nothing {n}) = record { count = omega arith; hands = omega arith }
    take_all (OneMore {xs} {meetings} {x} meeting {n} {es} {e} all one) = more_takes meetings meeting es e (take_all all) (takes one)

-- the address at a node is that of a name
abbrev pub NamesOne : (ℕ → Type 0) → Node → Type 0
NamesOne named t = addrgp ≡ number_of (head_of t) → named (name_in (name_of (head_of t).sym))

-- a constant is a word
bits_small : (z : ℤ) → word_number z < 2 ^ 32
bits_small (pos n) = omega arith
bits_small (negsuc n) = omega arith

constant_small : (z : Option ℤ) → constant_of z < 2 ^ 32
constant_small None = omega arith
constant_small (Some z) = bits_small z

module _ (named : ℕ → Type 0) where
  -- what a part names is virtual, a word, or named
  abbrev pub IsWithin : Part → Type 0
  IsWithin (part.Register r) = 64 ≤ r
  IsWithin (part.Constant n) = n < 2 ^ 32
  IsWithin (part.Name name offset) = named name
  IsWithin (part.Label l) = named (name_in (part.Label l))
  IsWithin part.Nothing = Unit {0}

  abbrev pub AreWithin : List Part → Type 0
  AreWithin [] = Unit {0}
  AreWithin (p ∷ ps) = IsWithin p × AreWithin ps

  within_more : (ps : List Part) (p : Part) → AreWithin ps → IsWithin p → AreWithin (ps ++ p ∷ [])
  within_more [] p h k = (k, tt)
  within_more (q ∷ ps) p h k = (h.0, within_more ps p h.1 k)

  name_within : (x : Sym) → named (name_in (name_of x)) → IsWithin (name_of x)
  name_within symbol.Nothing h = h
  name_within (symbol.Global name offset) h = h
  name_within (symbol.Label l) h = h
  name_within (symbol.Block size align) h = h

  added_by : {d : Action} {left : ℕ} {pattern : MPattern} {t : Node} {ps : List Part} {ms : List Meeting} (to : ℕ) → Applied d left pattern t ps ms → 64 ≤ to → AreWithin ps → NamesOne named t → AreAdded named (code_by d ps to) × IsWithin (part_by d t ps to)
  added_by to (Discards t r low) b w n = (tt, tt)
  added_by to (TakesConstant h e) b w n = (tt, constant_small h.value)
  added_by to (PassesConstant t m) b w n = (tt, w.0)
  added_by to (PassesRegister t r low) b w n = (tt, w.0)
  added_by to (LoadsConstant t m e) b w n = ((AddsNumber to m b w.0, tt), b)
  added_by to (TakesName h e) b w n = (tt, name_within h.sym (n e))
  added_by to (CombinesRegisters op h x y q r low_q low_r e) b w n = ((AddsRegisters op to q r b w.0 w.1.0, tt), b)
  added_by to (CombinesConstant op h x y q m low e) b w n = ((AddsWithNumber op to q m b w.0, tt), b)
  added_by to (Negates h x r low e) b w n = ((AddsNegate to r b w.0, tt), b)
  added_by to (HandsOver h x r low e) b w n = ((AddsArgument r w.0, tt), tt)
  added_by to (Calls h x name offset e) b w n = ((AddsCall to name b w.0, tt), b)
  added_by to (CallsLabel h x l e) b w n = ((AddsCall to (name_in (part.Label l)) b w.0, tt), b)
  added_by to (Returns h x r low e) b w n = ((AddsReturn r w.0, tt), tt)

module _ (lines : List Line) (invert : AllByRecursion (Inverts lines) lines) (named : ℕ → Type 0) where
  mutual
    pub added : {x : MDerivation} {t : Node} {n : ℕ} {e : Emitted Instr Part} → Emits (frame_rules lines) x t n e → AtEachNode (NamesOne named) t → AreAdded named e.code × IsWithin named e.part
    added (ByChain {number} {row} {x} {t} {n} {e} one chain a) k =
        let h = added one k in
        let s = added_by named e.to (applied lines invert number row t (e.part ∷ []) e.to a) a.to_virtual (h.1, tt) (at_root (NamesOne named) t k) in
        (added_append named e.code (code_by (action_of lines number) (e.part ∷ []) e.to) h.0 s.0, s.1)
    added (ByRule {number} {row} {xs} {meetings} {t} {n} {es} all fits chain a) k =
        let by = applied_at lines invert number row t es.parts es.next meetings a fits in
        let h = added_all all (at_met (NamesOne named) by k) in
        let s = added_by named es.next by a.to_virtual h.1 (at_root (NamesOne named) t k) in
        (added_append named es.code (code_by (action_of lines number) es.parts es.next) h.0 s.0, s.1)

    pub added_all : {xs : List MDerivation} {ms : List Meeting} {n : ℕ} {es : EmittedAll Instr Part} → EmitsAll (frame_rules lines) xs ms n es → EachMet (NamesOne named) ms → AreAdded named es.code × AreWithin named es.parts
    added_all (Nothing {n}) k = (tt, tt)
    added_all (OneMore {xs} {meetings} {x} meeting {n} {es} {e} all one) k =
        let h = added_all all (each_front (NamesOne named) meetings meeting k) in
        let s = added one (each_last (NamesOne named) meetings meeting k) in
        (added_append named es.code e.code h.0 s.0, within_more named es.parts e.part h.1 s.1)
