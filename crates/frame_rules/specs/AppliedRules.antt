-- Where each rule applies, by its action: at which nodes, with which parts.
use Rattle.std.specs.Prelude.{◌≡◌, ℕ, zero, suc, ℤ, ◌+◌, ◌≤◌, ◌==◌, ◌&&◌, ◌||◌, Bool, true, false, Some, None, List, [], ◌∷◌, ◌++◌, map, slice_get, if◌then◌else◌, refl}
use Rattle.std.specs.List.{AllByRecursion}
use Rattle.std.proofs.Common.{arith, ap, sym, ◌∙◌, subst}
use Rattle.std.proofs.lemmas.Bool.{both_ways, eqb-true}
use Rattle.frame_code.specs.declared.arithmetic.Arithmetic.{Arithmetic}
use Rattle.frame_code.specs.declared.arithmetic.Arithmetic.TheVariants.{Add, Subtract, Multiply}
use Rattle.lburg_model.specs.Pattern.{MPattern, PHole, PLeaf, POne, PTwo}
use Rattle.op_forest.specs.Nodes.{Head, Node, Leaf, One, Two, head_of, number_of}
use Rattle.vcode.specs.Patterns.{Meeting, leaves_at}
use Rattle.vcode.specs.RuleSets.{Row, InRange, all_registers, AllHand, Applies}
use Rattle.frame_rules.specs.declared.action.Action.{Action}
use Rattle.frame_rules.specs.declared.action.Action.TheVariants as action
use Rattle.frame_rules.specs.declared.part.Part.{Part}
use Rattle.frame_rules.specs.declared.part.Part.TheVariants.{Register, Constant, Name, Label}
use Rattle.frame_rules.specs.Rows.{stmt, con, rc, reg, addr, cnsti, addrgp, argi, calli, reti, negi, addi, subi, muli, Line, rule}
use Rattle.frame_rules.specs.FrameRules.{registers, is_register, is_constant, is_place, hands, action_in, action_of, frame_rules}

-- the number of the operator that an operation is for
abbrev pub operator_for : Arithmetic → ℕ
operator_for Add = addi
operator_for Subtract = subi
operator_for Multiply = muli

-- an action with its rule's left side and pattern, at a node with parts, and what the pattern's nonterminals meet
pub data Applied : Action → ℕ → MPattern → Node → List Part → List Meeting → Type 0 where
  Discards : (t : Node) (r : ℕ) → 64 ≤ r → Applied action.Discard stmt (PHole reg) t (Register r ∷ []) ((reg, t) ∷ [])
  TakesConstant : (h : Head) → cnsti ≡ number_of h → Applied action.TakeConstant con (PLeaf cnsti) (Leaf h) [] []
  PassesConstant : (t : Node) (n : ℕ) → Applied action.Pass rc (PHole con) t (Constant n ∷ []) ((con, t) ∷ [])
  PassesRegister : (t : Node) (r : ℕ) → 64 ≤ r → Applied action.Pass rc (PHole reg) t (Register r ∷ []) ((reg, t) ∷ [])
  LoadsConstant : (t : Node) (n : ℕ) → cnsti ≡ number_of (head_of t) → Applied action.LoadConstant reg (PHole con) t (Constant n ∷ []) ((con, t) ∷ [])
  TakesName : (h : Head) → addrgp ≡ number_of h → Applied action.TakeName addr (PLeaf addrgp) (Leaf h) [] []
  CombinesRegisters : (op : Arithmetic) (h : Head) (a b : Node) (q r : ℕ) → 64 ≤ q → 64 ≤ r → operator_for op ≡ number_of h → Applied (action.Combine op) reg (PTwo (operator_for op) (PHole reg) (PHole rc)) (Two h a b) (Register q ∷ Register r ∷ []) ((reg, a) ∷ (rc, b) ∷ [])
  CombinesConstant : (op : Arithmetic) (h : Head) (a b : Node) (q n : ℕ) → 64 ≤ q → operator_for op ≡ number_of h → Applied (action.Combine op) reg (PTwo (operator_for op) (PHole reg) (PHole rc)) (Two h a b) (Register q ∷ Constant n ∷ []) ((reg, a) ∷ (rc, b) ∷ [])
  Negates : (h : Head) (a : Node) (r : ℕ) → 64 ≤ r → negi ≡ number_of h → Applied action.Negate reg (POne negi (PHole reg)) (One h a) (Register r ∷ []) ((reg, a) ∷ [])
  HandsOver : (h : Head) (a : Node) (r : ℕ) → 64 ≤ r → argi ≡ number_of h → Applied action.HandOver stmt (POne argi (PHole reg)) (One h a) (Register r ∷ []) ((reg, a) ∷ [])
  Calls : (h : Head) (a : Node) (name : ℕ) (offset : ℤ) → calli ≡ number_of h → Applied action.Call reg (POne calli (PHole addr)) (One h a) (Name name offset ∷ []) ((addr, a) ∷ [])
  CallsLabel : (h : Head) (a : Node) (l : ℕ) → calli ≡ number_of h → Applied action.Call reg (POne calli (PHole addr)) (One h a) (Label l ∷ []) ((addr, a) ∷ [])
  Returns : (h : Head) (a : Node) (r : ℕ) → 64 ≤ r → reti ≡ number_of h → Applied action.Return stmt (POne reti (PHole reg)) (One h a) (Register r ∷ []) ((reg, a) ∷ [])

same_some : {A : Type 0} {x y : A} → Some x ≡ Some y → x ≡ y
same_some e = cc

none_some : {A : Type 0} {y : A} → None ≡ Some y → ⊥
none_some e = cc

if_some : {A : Type 0} (b : Bool) (x y : A) → (if b then Some x else None) ≡ Some y → (b ≡ true) × (x ≡ y)
if_some true x y e = (refl, same_some e)
if_some false x y e = absurd (none_some e)

no : {A : Type 0} → false ≡ true → A
no e = absurd (both_ways false refl e)

discards : (limit : ℕ) (t : Node) (p : Part) → is_register p ≡ true → InRange limit (registers p ++ []) → Applied action.Discard stmt (PHole reg) t (p ∷ []) ((reg, t) ∷ [])
discards limit t (Register r) h g = Discards t r g.0
discards limit t p h g = no h

passes_constant : (t : Node) (p : Part) → (is_constant p && (cnsti == number_of (head_of t))) ≡ true → Applied action.Pass rc (PHole con) t (p ∷ []) ((con, t) ∷ [])
passes_constant t (Constant n) h = PassesConstant t n
passes_constant t p h = no h

passes_register : (limit : ℕ) (t : Node) (p : Part) → is_register p ≡ true → InRange limit (registers p ++ []) → Applied action.Pass rc (PHole reg) t (p ∷ []) ((reg, t) ∷ [])
passes_register limit t (Register r) h g = PassesRegister t r g.0
passes_register limit t p h g = no h

loads : (t : Node) (p : Part) → (is_constant p && (cnsti == number_of (head_of t))) ≡ true → Applied action.LoadConstant reg (PHole con) t (p ∷ []) ((con, t) ∷ [])
loads t (Constant n) h = LoadsConstant t n (eqb-true cnsti (number_of (head_of t)) h)
loads t p h = no h

combines_with : (limit : ℕ) (op : Arithmetic) (h : Head) (a b : Node) (q : ℕ) (p : Part) → 64 ≤ q → operator_for op ≡ number_of h → (is_register p || is_constant p) ≡ true → InRange limit (registers p ++ []) → Applied (action.Combine op) reg (PTwo (operator_for op) (PHole reg) (PHole rc)) (Two h a b) (Register q ∷ p ∷ []) ((reg, a) ∷ (rc, b) ∷ [])
combines_with limit op h a b q (Register r) low e k g = CombinesRegisters op h a b q r low g.0 e
combines_with limit op h a b q (Constant n) low e k g = CombinesConstant op h a b q n low e
combines_with limit op h a b q p low e k g = no k

combines : (limit : ℕ) (op : Arithmetic) (h : Head) (a b : Node) (p q : Part) → operator_for op ≡ number_of h → is_register p ≡ true → (is_register q || is_constant q) ≡ true → InRange limit (registers p ++ (registers q ++ [])) → Applied (action.Combine op) reg (PTwo (operator_for op) (PHole reg) (PHole rc)) (Two h a b) (p ∷ q ∷ []) ((reg, a) ∷ (rc, b) ∷ [])
combines limit op h a b (Register r) q e k l g = combines_with limit op h a b r q g.0 e l g.2
combines limit op h a b p q e k l g = no k

negates : (limit : ℕ) (h : Head) (a : Node) (p : Part) → negi ≡ number_of h → is_register p ≡ true → InRange limit (registers p ++ []) → Applied action.Negate reg (POne negi (PHole reg)) (One h a) (p ∷ []) ((reg, a) ∷ [])
negates limit h a (Register r) e k g = Negates h a r g.0 e
negates limit h a p e k g = no k

hands_over : (limit : ℕ) (h : Head) (a : Node) (p : Part) → argi ≡ number_of h → is_register p ≡ true → InRange limit (registers p ++ []) → Applied action.HandOver stmt (POne argi (PHole reg)) (One h a) (p ∷ []) ((reg, a) ∷ [])
hands_over limit h a (Register r) e k g = HandsOver h a r g.0 e
hands_over limit h a p e k g = no k

calls : (h : Head) (a : Node) (p : Part) → calli ≡ number_of h → is_place p ≡ true → Applied action.Call reg (POne calli (PHole addr)) (One h a) (p ∷ []) ((addr, a) ∷ [])
calls h a (Name name offset) e k = Calls h a name offset e
calls h a (Label l) e k = CallsLabel h a l e
calls h a p e k = no k

returns_by : (limit : ℕ) (h : Head) (a : Node) (p : Part) → reti ≡ number_of h → is_register p ≡ true → InRange limit (registers p ++ []) → Applied action.Return stmt (POne reti (PHole reg)) (One h a) (p ∷ []) ((reg, a) ∷ [])
returns_by limit h a (Register r) e k g = Returns h a r g.0 e
returns_by limit h a p e k g = no k

-- what holds of each line holds of that which a row is of
pub at_row : (P : Line → Type 0) (ls : List Line) (place : ℕ) (row : Row) → AllByRecursion P ls → slice_get (map (λ l. l.row) ls) place ≡ Some row → (l : Line) × (slice_get ls place ≡ Some l) × (l.row ≡ row) × P l
at_row P [] place row all e = absurd (none_some e)
at_row P (l ∷ ls) zero row all e = (l, refl, same_some e, all.0)
at_row P (l ∷ ls) (suc place) row all e = at_row P ls place row all.1 e

module _ (lines : List Line) where
  -- what stands for any nonterminals, parts and meetings of a rule stands for those that its pattern allows
  chain_case : (P : List Part → List Meeting → Type 0) (n limit : ℕ) (t : Node) (ps : List Part) (ms : List Meeting) → leaves_at (PHole n) t ≡ Some ms → AllHand (frame_rules lines) ms ps → InRange limit (all_registers (frame_rules lines) ps) → ((p : Part) → hands n t p ≡ true → InRange limit (registers p ++ []) → P (p ∷ []) ((n, t) ∷ [])) → P ps ms
  chain_case P n limit t ps ms fits hand range go = subst (P ps) e (parts ps (subst (λ l. AllHand (frame_rules lines) l ps) (sym e) hand) range)
    where
      e : (n, t) ∷ [] ≡ ms
      e = same_some fits

      parts : (qs : List Part) → AllHand (frame_rules lines) ((n, t) ∷ []) qs → InRange limit (all_registers (frame_rules lines) qs) → P qs ((n, t) ∷ [])
      parts [] h r = absurd h
      parts (p ∷ []) h r = go p h.0 r
      parts (p ∷ q ∷ qs) h r = absurd h.1

  leaf_case : (P : Node → List Part → List Meeting → Type 0) (op : ℕ) (t : Node) (ps : List Part) (ms : List Meeting) → leaves_at (PLeaf op) t ≡ Some ms → AllHand (frame_rules lines) ms ps → ((h : Head) → op ≡ number_of h → P (Leaf h) [] []) → P t ps ms
  leaf_case P op (Leaf h) ps ms fits hand go =
      let f = if_some (op == number_of h) [] ms fits in
      subst (P (Leaf h) ps) f.1 (parts ps (subst (λ l. AllHand (frame_rules lines) l ps) (sym f.1) hand) (eqb-true op (number_of h) f.0))
    where
      parts : (qs : List Part) → AllHand (frame_rules lines) [] qs → op ≡ number_of h → P (Leaf h) qs []
      parts [] k e = go h e
      parts (q ∷ qs) k e = absurd k
  leaf_case P op (One h a) ps ms fits hand go = absurd (none_some fits)
  leaf_case P op (Two h a b) ps ms fits hand go = absurd (none_some fits)

  one_case : (P : Node → List Part → List Meeting → Type 0) (op n limit : ℕ) (t : Node) (ps : List Part) (ms : List Meeting) → leaves_at (POne op (PHole n)) t ≡ Some ms → AllHand (frame_rules lines) ms ps → InRange limit (all_registers (frame_rules lines) ps) → ((h : Head) (a : Node) (p : Part) → op ≡ number_of h → hands n a p ≡ true → InRange limit (registers p ++ []) → P (One h a) (p ∷ []) ((n, a) ∷ [])) → P t ps ms
  one_case P op n limit (Leaf h) ps ms fits hand range go = absurd (none_some fits)
  one_case P op n limit (One h a) ps ms fits hand range go =
      let f = if_some (op == number_of h) ((n, a) ∷ []) ms fits in
      chain_case (P (One h a)) n limit a ps ms (ap Some f.1) hand range (λ p k r. go h a p (eqb-true op (number_of h) f.0) k r)
  one_case P op n limit (Two h a b) ps ms fits hand range go = absurd (none_some fits)

  two_case : (P : Node → List Part → List Meeting → Type 0) (op n k limit : ℕ) (t : Node) (ps : List Part) (ms : List Meeting) → leaves_at (PTwo op (PHole n) (PHole k)) t ≡ Some ms → AllHand (frame_rules lines) ms ps → InRange limit (all_registers (frame_rules lines) ps) → ((h : Head) (a b : Node) (p q : Part) → op ≡ number_of h → hands n a p ≡ true → hands k b q ≡ true → InRange limit (registers p ++ (registers q ++ [])) → P (Two h a b) (p ∷ q ∷ []) ((n, a) ∷ (k, b) ∷ [])) → P t ps ms
  two_case P op n k limit (Leaf h) ps ms fits hand range go = absurd (none_some fits)
  two_case P op n k limit (One h a) ps ms fits hand range go = absurd (none_some fits)
  two_case P op n k limit (Two h a b) ps ms fits hand range go =
      let f = if_some (op == number_of h) ((n, a) ∷ (k, b) ∷ []) ms fits in
      subst (P (Two h a b) ps) f.1 (parts ps (subst (λ l. AllHand (frame_rules lines) l ps) (sym f.1) hand) range (eqb-true op (number_of h) f.0))
    where
      parts : (qs : List Part) → AllHand (frame_rules lines) ((n, a) ∷ (k, b) ∷ []) qs → InRange limit (all_registers (frame_rules lines) qs) → op ≡ number_of h → P (Two h a b) qs ((n, a) ∷ (k, b) ∷ [])
      parts [] g r e = absurd g
      parts (p ∷ []) g r e = absurd g.1
      parts (p ∷ q ∷ []) g r e = go h a b p q e g.0 g.1.0 r
      parts (p ∷ q ∷ x ∷ qs) g r e = absurd g.1.1

  -- a line's rule applies as its action says
  abbrev pub Inverts : Line → Type 0
  Inverts l = (limit : ℕ) (t : Node) (ps : List Part) (ms : List Meeting) → leaves_at l.row.pattern t ≡ Some ms → AllHand (frame_rules lines) ms ps → InRange limit (all_registers (frame_rules lines) ps) → Applied l.action l.row.left l.row.pattern t ps ms

  -- each kind of line, with any template and cost
  pub discards_so : (template : List ℕ) (cost : ℕ) → Inverts (rule stmt (PHole reg) template cost action.Discard)
  discards_so template cost limit t ps ms f h r = chain_case (λ qs ns. Applied action.Discard stmt (PHole reg) t qs ns) reg limit t ps ms f h r (λ p k g. discards limit t p k g)

  pub takes_constant_so : (template : List ℕ) (cost : ℕ) → Inverts (rule con (PLeaf cnsti) template cost action.TakeConstant)
  takes_constant_so template cost limit t ps ms f h r = leaf_case (λ u qs ns. Applied action.TakeConstant con (PLeaf cnsti) u qs ns) cnsti t ps ms f h (λ k e. TakesConstant k e)

  pub passes_constant_so : (template : List ℕ) (cost : ℕ) → Inverts (rule rc (PHole con) template cost action.Pass)
  passes_constant_so template cost limit t ps ms f h r = chain_case (λ qs ns. Applied action.Pass rc (PHole con) t qs ns) con limit t ps ms f h r (λ p k g. passes_constant t p k)

  pub passes_register_so : (template : List ℕ) (cost : ℕ) → Inverts (rule rc (PHole reg) template cost action.Pass)
  passes_register_so template cost limit t ps ms f h r = chain_case (λ qs ns. Applied action.Pass rc (PHole reg) t qs ns) reg limit t ps ms f h r (λ p k g. passes_register limit t p k g)

  pub loads_so : (template : List ℕ) (cost : ℕ) → Inverts (rule reg (PHole con) template cost action.LoadConstant)
  loads_so template cost limit t ps ms f h r = chain_case (λ qs ns. Applied action.LoadConstant reg (PHole con) t qs ns) con limit t ps ms f h r (λ p k g. loads t p k)

  pub takes_name_so : (template : List ℕ) (cost : ℕ) → Inverts (rule addr (PLeaf addrgp) template cost action.TakeName)
  takes_name_so template cost limit t ps ms f h r = leaf_case (λ u qs ns. Applied action.TakeName addr (PLeaf addrgp) u qs ns) addrgp t ps ms f h (λ k e. TakesName k e)

  pub adds_so : (template : List ℕ) (cost : ℕ) → Inverts (rule reg (PTwo addi (PHole reg) (PHole rc)) template cost (action.Combine Add))
  adds_so template cost limit t ps ms f h r = two_case (λ u qs ns. Applied (action.Combine Add) reg (PTwo addi (PHole reg) (PHole rc)) u qs ns) addi reg rc limit t ps ms f h r (λ k a b p q e i j g. combines limit Add k a b p q e i j g)

  pub subtracts_so : (template : List ℕ) (cost : ℕ) → Inverts (rule reg (PTwo subi (PHole reg) (PHole rc)) template cost (action.Combine Subtract))
  subtracts_so template cost limit t ps ms f h r = two_case (λ u qs ns. Applied (action.Combine Subtract) reg (PTwo subi (PHole reg) (PHole rc)) u qs ns) subi reg rc limit t ps ms f h r (λ k a b p q e i j g. combines limit Subtract k a b p q e i j g)

  pub multiplies_so : (template : List ℕ) (cost : ℕ) → Inverts (rule reg (PTwo muli (PHole reg) (PHole rc)) template cost (action.Combine Multiply))
  multiplies_so template cost limit t ps ms f h r = two_case (λ u qs ns. Applied (action.Combine Multiply) reg (PTwo muli (PHole reg) (PHole rc)) u qs ns) muli reg rc limit t ps ms f h r (λ k a b p q e i j g. combines limit Multiply k a b p q e i j g)

  pub negates_so : (template : List ℕ) (cost : ℕ) → Inverts (rule reg (POne negi (PHole reg)) template cost action.Negate)
  negates_so template cost limit t ps ms f h r = one_case (λ u qs ns. Applied action.Negate reg (POne negi (PHole reg)) u qs ns) negi reg limit t ps ms f h r (λ k a p e i g. negates limit k a p e i g)

  pub hands_over_so : (template : List ℕ) (cost : ℕ) → Inverts (rule stmt (POne argi (PHole reg)) template cost action.HandOver)
  hands_over_so template cost limit t ps ms f h r = one_case (λ u qs ns. Applied action.HandOver stmt (POne argi (PHole reg)) u qs ns) argi reg limit t ps ms f h r (λ k a p e i g. hands_over limit k a p e i g)

  pub calls_so : (template : List ℕ) (cost : ℕ) → Inverts (rule reg (POne calli (PHole addr)) template cost action.Call)
  calls_so template cost limit t ps ms f h r = one_case (λ u qs ns. Applied action.Call reg (POne calli (PHole addr)) u qs ns) calli addr limit t ps ms f h r (λ k a p e i g. calls k a p e i)

  pub returns_so : (template : List ℕ) (cost : ℕ) → Inverts (rule stmt (POne reti (PHole reg)) template cost action.Return)
  returns_so template cost limit t ps ms f h r = one_case (λ u qs ns. Applied action.Return stmt (POne reti (PHole reg)) u qs ns) reti reg limit t ps ms f h r (λ k a p e i g. returns_by limit k a p e i g)

  -- each rule of a table whose lines' rules apply as their actions say does so
  pub applied : AllByRecursion Inverts lines → (number : ℕ) (row : Row) (t : Node) (ps : List Part) (to : ℕ) (a : Applies (frame_rules lines) number row t ps to) → Applied (action_of lines number) row.left row.pattern t ps a.meetings
  applied all number row t ps to a =
      let found = at_row Inverts lines a.place row all a.row_is in
      let l = found.0 in
      let at : action_of lines number ≡ l.action = ap (λ (n : ℕ). action_of lines n) (numbered number a.place a.number_is) ∙ ap action_in found.1 in
      let fits : leaves_at l.row.pattern t ≡ Some a.meetings = ap (λ x. leaves_at x.pattern t) found.2 ∙ a.fits in
      let one = found.3 a.limit t ps a.meetings fits a.hand a.parts_virtual in
      subst (λ x. Applied x row.left row.pattern t ps a.meetings) (sym at) (subst (λ x. Applied l.action x.left x.pattern t ps a.meetings) found.2 one)
    where
      numbered : (n place : ℕ) → n ≡ place + 1 → n ≡ suc place
      numbered n place e = omega (arith, e)
