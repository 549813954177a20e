-- The shipped rules derive each tree whose operators have rules and what they need: a register derives a value of
-- suffix I, an address an address, and a statement each tree that is no address.
use Rattle.std.specs.Prelude.{◌≡◌, ◌≢◌, ℕ, ◌+◌, ℤ, false, Option, Some, List, [], ◌∷◌, map, get_or, slice_get, IsTrue, refl}
use Rattle.std.proofs.Common.{ap, sym, ◌∙◌, subst}
use Rattle.std.proofs.lemmas.Bool.{both_ways}
use Rattle.std.proofs.lemmas.Option.{slice_get-get_or}
use Rattle.lburg_model.specs.declared.rule.Rule.{Rule}
use Rattle.lburg_model.specs.declared.terminal.Terminal.{Terminal}
use Rattle.lburg_model.specs.Range.{IsMet}
use Rattle.lburg_model.specs.Tree.{MTree, TLeaf, TOne, TTwo, value_of}
use Rattle.lburg_model.specs.Pattern.{Goal, goals_at}
use Rattle.lburg_model.specs.Derivation.{MDerivation, MParts, Apply, NoPart, Part, Derives, DeriveEach}
use Rattle.lburg_model.specs.Description.{MDescription}
use Rattle.op_forest.specs.declared.op.Op.{Op}
use Rattle.op_forest.specs.declared.op.Op.TheVariants.{Cnst, Addrg, Arg, Call, Ret, Neg, Add, Sub, Mul}
use Rattle.op_forest.specs.declared.suffix.Suffix.{Suffix}
use Rattle.op_forest.specs.declared.suffix.Suffix.TheVariants.{I, P}
use Rattle.op_forest.specs.Operators.{number}
use Rattle.op_forest.specs.Nodes.{Node, Leaf, One, Two, tree_of}
use Rattle.op_forest.specs.EachNode.{AtEachNode}
use Rattle.op_forest.specs.Signature.{takes, gives_value}
use Rattle.forests.specs.HasRules.{has_rule, HasRule}
use Rattle.forests.specs.WellFormed.{HasKinds, AreOperands, op_of, suffix_of}
use Rattle.vcode.specs.RuleSets.{Row, row_of}
use Rattle.frame_rules.specs.Rows.{nonterminals, stmt, con, rc, reg, addr}
use Rattle.mips_rules.specs.MipsRows.{rows, costs, ranges}
use Rattle.mips_rules.specs.MipsTerminals.{terminals}
use Rattle.mips_rules.specs.Shipped.{IsShipped, DerivesStatements, CoversRoots}
use Rattle.mips_rules.proofs.ListTests.{mapped_at}
use Rattle.mips_rules.proofs.ShippedDescription.{no_range}

-- the operators that have a rule
data Ruled : Op → Suffix → Type 0 where
  Constant : Ruled Cnst I
  Address : Ruled Addrg P
  Argument : Ruled Arg I
  Calls : Ruled Call I
  Returns : Ruled Ret I
  Negates : Ruled Neg I
  Adds : Ruled Add I
  Subtracts : Ruled Sub I
  Multiplies : Ruled Mul I

ruled : (o : Op) (s : Suffix) → IsTrue (has_rule o s) → Ruled o s
ruled Cnst I h = Constant
ruled Addrg P h = Address
ruled Arg I h = Argument
ruled Call I h = Calls
ruled Ret I h = Returns
ruled Neg I h = Negates
ruled Add I h = Adds
ruled Sub I h = Subtracts
ruled Mul I h = Multiplies
ruled o s h = absurd (both_ways false refl h)

-- the nonterminal on the left side of the operator's first rule, a constant counting as a register
abbrev nonterminal_of : Op → ℕ
nonterminal_of Addrg = addr
nonterminal_of Arg = stmt
nonterminal_of Ret = stmt
nonterminal_of o = reg

derived_as_register : {o : Op} {s : Suffix} → Ruled o s → IsTrue (gives_value o s) → s ≡ I → nonterminal_of o ≡ reg
derived_as_register Constant v e = refl
derived_as_register Address v e = absurd cc
derived_as_register Argument v e = absurd (both_ways false refl v)
derived_as_register Calls v e = refl
derived_as_register Returns v e = absurd (both_ways false refl v)
derived_as_register Negates v e = refl
derived_as_register Adds v e = refl
derived_as_register Subtracts v e = refl
derived_as_register Multiplies v e = refl

derived_as_address : {o : Op} {s : Suffix} → Ruled o s → s ≡ P → nonterminal_of o ≡ addr
derived_as_address Constant e = absurd cc
derived_as_address Address e = refl
derived_as_address Argument e = absurd cc
derived_as_address Calls e = absurd cc
derived_as_address Returns e = absurd cc
derived_as_address Negates e = absurd cc
derived_as_address Adds e = absurd cc
derived_as_address Subtracts e = absurd cc
derived_as_address Multiplies e = absurd cc

ruled_at : (t : Node) → HasRule t → Ruled (op_of t) (suffix_of t)
ruled_at t rule = ruled (op_of t) (suffix_of t) rule.0

module _ (rules : List Rule) (same_rows : map row_of rules ≡ rows) (same_ranges : map (λ r. r.range) rules ≡ ranges) where
  abbrev Derived : ℕ → MTree → Type 0
  Derived n t = (x : MDerivation) × Derives rules n t x

  -- by the rule of this row, where its pattern fits and its nonterminals have derivations
  by_row : (i : ℕ) (row : Row) (t : MTree) (goals : List Goal) (parts : MParts) → slice_get rows i ≡ Some row → goals_at row.pattern t ≡ Some goals → DeriveEach rules goals parts → Derived row.left t
  by_row i row t goals parts at fits each =
      let r = mapped_at row_of rules i row (ap (λ l. slice_get l i) same_rows ∙ at) in
      let met = subst (λ o. IsMet o (value_of t)) (sym (no_range rules same_ranges i r.0 r.1)) tt in
      (Apply (i + 1) parts, (i, r.0, goals, refl, r.1, ap (λ q. q.left) r.2, met, ap (λ q. goals_at q.pattern t) r.2 ∙ fits, each))

  register_statement : (t : MTree) → Derived reg t → Derived stmt t
  register_statement t x = by_row 0 _ t _ (Part x.0 NoPart) refl refl (x.1, tt)

  register_either : (t : MTree) → Derived reg t → Derived rc t
  register_either t x = by_row 3 _ t _ (Part x.0 NoPart) refl refl (x.1, tt)

  constant : (v : Option ℤ) → Derived con (TLeaf (number Cnst I) v)
  constant v = by_row 1 _ (TLeaf (number Cnst I) v) _ NoPart refl refl tt

  loaded : (v : Option ℤ) → Derived reg (TLeaf (number Cnst I) v)
  loaded v =
      let x = constant v in
      by_row 4 _ (TLeaf (number Cnst I) v) _ (Part x.0 NoPart) refl refl (x.1, tt)

  address : (v : Option ℤ) → Derived addr (TLeaf (number Addrg P) v)
  address v = by_row 5 _ (TLeaf (number Addrg P) v) _ NoPart refl refl tt

  added : (v : Option ℤ) (a b : MTree) → Derived reg a → Derived rc b → Derived reg (TTwo (number Add I) v a b)
  added v a b x y = by_row 6 _ (TTwo (number Add I) v a b) _ (Part x.0 (Part y.0 NoPart)) refl refl (x.1, (y.1, tt))

  subtracted : (v : Option ℤ) (a b : MTree) → Derived reg a → Derived rc b → Derived reg (TTwo (number Sub I) v a b)
  subtracted v a b x y = by_row 7 _ (TTwo (number Sub I) v a b) _ (Part x.0 (Part y.0 NoPart)) refl refl (x.1, (y.1, tt))

  multiplied : (v : Option ℤ) (a b : MTree) → Derived reg a → Derived rc b → Derived reg (TTwo (number Mul I) v a b)
  multiplied v a b x y = by_row 8 _ (TTwo (number Mul I) v a b) _ (Part x.0 (Part y.0 NoPart)) refl refl (x.1, (y.1, tt))

  negated : (v : Option ℤ) (a : MTree) → Derived reg a → Derived reg (TOne (number Neg I) v a)
  negated v a x = by_row 9 _ (TOne (number Neg I) v a) _ (Part x.0 NoPart) refl refl (x.1, tt)

  handed_over : (v : Option ℤ) (a : MTree) → Derived reg a → Derived stmt (TOne (number Arg I) v a)
  handed_over v a x = by_row 10 _ (TOne (number Arg I) v a) _ (Part x.0 NoPart) refl refl (x.1, tt)

  called : (v : Option ℤ) (a : MTree) → Derived addr a → Derived reg (TOne (number Call I) v a)
  called v a x = by_row 11 _ (TOne (number Call I) v a) _ (Part x.0 NoPart) refl refl (x.1, tt)

  returned : (v : Option ℤ) (a : MTree) → Derived reg a → Derived stmt (TOne (number Ret I) v a)
  returned v a x = by_row 12 _ (TOne (number Ret I) v a) _ (Part x.0 NoPart) refl refl (x.1, tt)

  -- a tree whose nonterminal is known, and an operand that is a register or an address
  abbrev Own : Node → Type 0
  Own t = Ruled (op_of t) (suffix_of t) × Derived (nonterminal_of (op_of t)) (tree_of t)

  as_register : (a : Node) → Own a → IsTrue (gives_value (op_of a) (suffix_of a)) × (suffix_of a ≡ I) → Derived reg (tree_of a)
  as_register a own is = subst (λ n. Derived n (tree_of a)) (derived_as_register own.0 is.0 is.1) own.1

  as_address : (a : Node) → Own a → IsTrue (gives_value (op_of a) (suffix_of a)) × (suffix_of a ≡ P) → Derived addr (tree_of a)
  as_address a own is = subst (λ n. Derived n (tree_of a)) (derived_as_address own.0 is.1) own.1

  leaf : {o : Op} {s : Suffix} (v : Option ℤ) → Ruled o s → AreOperands (takes o s) [] → Derived (nonterminal_of o) (TLeaf (number o s) v)
  leaf v Constant fit = loaded v
  leaf v Address fit = address v
  leaf v Argument fit = absurd fit
  leaf v Calls fit = absurd fit
  leaf v Returns fit = absurd fit
  leaf v Negates fit = absurd fit
  leaf v Adds fit = absurd fit
  leaf v Subtracts fit = absurd fit
  leaf v Multiplies fit = absurd fit

  one : {o : Op} {s : Suffix} (v : Option ℤ) (a : Node) → Ruled o s → AreOperands (takes o s) (a ∷ []) → Own a → Derived (nonterminal_of o) (TOne (number o s) v (tree_of a))
  one v a Constant fit x = absurd fit
  one v a Address fit x = absurd fit
  one v a Argument fit x = handed_over v (tree_of a) (as_register a x fit.0)
  one v a Calls fit x = called v (tree_of a) (as_address a x fit.0)
  one v a Returns fit x = returned v (tree_of a) (as_register a x fit.0)
  one v a Negates fit x = negated v (tree_of a) (as_register a x fit.0)
  one v a Adds fit x = absurd fit.1
  one v a Subtracts fit x = absurd fit.1
  one v a Multiplies fit x = absurd fit.1

  two : {o : Op} {s : Suffix} (v : Option ℤ) (a b : Node) → Ruled o s → AreOperands (takes o s) (a ∷ b ∷ []) → Own a → Own b → Derived (nonterminal_of o) (TTwo (number o s) v (tree_of a) (tree_of b))
  two v a b Constant fit x y = absurd fit
  two v a b Address fit x y = absurd fit
  two v a b Argument fit x y = absurd fit.1
  two v a b Calls fit x y = absurd fit.1
  two v a b Returns fit x y = absurd fit.1
  two v a b Negates fit x y = absurd fit.1
  two v a b Adds fit x y = added v (tree_of a) (tree_of b) (as_register a x fit.0) (register_either (tree_of b) (as_register b y fit.1.0))
  two v a b Subtracts fit x y = subtracted v (tree_of a) (tree_of b) (as_register a x fit.0) (register_either (tree_of b) (as_register b y fit.1.0))
  two v a b Multiplies fit x y = multiplied v (tree_of a) (tree_of b) (as_register a x fit.0) (register_either (tree_of b) (as_register b y fit.1.0))

  own : (t : Node) → HasKinds t → AtEachNode HasRule t → Own t
  own (Leaf h) k each =
      let is = ruled_at (Leaf h) each in
      (is, leaf h.value is k.operands)
  own (One h a) k each =
      let is = ruled_at (One h a) each.0 in
      (is, one h.value a is k.0.operands (own a k.1 each.1))
  own (Two h a b) k each =
      let is = ruled_at (Two h a b) each.0 in
      (is, two h.value a b is k.0.operands (own a k.1 each.1) (own b k.2 each.2))

  statement : {o : Op} {s : Suffix} (t : MTree) → Ruled o s → o ≢ Addrg → Derived (nonterminal_of o) t → Derived stmt t
  statement t Constant other x = register_statement t x
  statement t Address other x = absurd (other refl)
  statement t Argument other x = x
  statement t Calls other x = register_statement t x
  statement t Returns other x = x
  statement t Negates other x = register_statement t x
  statement t Adds other x = register_statement t x
  statement t Subtracts other x = register_statement t x
  statement t Multiplies other x = register_statement t x

  derived : (t : Node) → HasKinds t → AtEachNode HasRule t → op_of t ≢ Addrg → Derived stmt (tree_of t)
  derived t k each other =
      let x = own t k each in
      statement (tree_of t) x.0 other x.1

-- the start symbol derives each tree that is no address alone and whose operators have rules and what they need
pub derives_statements : (d : MDescription) → IsShipped d → DerivesStatements d
derives_statements d is t kinds rules =
    subst (λ n. (x : MDerivation) × Derives d.rules n (tree_of t) x) (sym is.start) (derived d.rules is.rows is.ranges t kinds rules.each rules.statement)

-- and so each root of a well-formed forest whose operators have rules
pub covers_roots : (d : MDescription) → IsShipped d → CoversRoots d
covers_roots d is f well rules place first within none =
    let t = get_or f.roots place first in
    let good = well.good place t (slice_get-get_or f.roots place first within) in
    let x = derives_statements d is t good.fit.kinds (rules place first within) in
    none x.0 x.1

-- the description of lists that are those of the tables
pub is_shipped : (d : MDescription) (ts : List Terminal) (ns : List (List ℕ)) (rules : List Rule) → d ≡ record { terminals = ts; nonterminals = ns; start = stmt; rules = rules } → ts ≡ terminals → ns ≡ nonterminals → map row_of rules ≡ rows → map (λ r. r.cost) rules ≡ costs → map (λ r. r.range) rules ≡ ranges → IsShipped d
is_shipped d ts ns rules e f g h k l = record {
  terminals = ap (λ x. x.terminals) e ∙ f;
  nonterminals = ap (λ x. x.nonterminals) e ∙ g;
  start = ap (λ x. x.start) e;
  rows = ap (λ x. map row_of x.rules) e ∙ h;
  costs = ap (λ x. map (λ r. r.cost) x.rules) e ∙ k;
  ranges = ap (λ x. map (λ r. r.range) x.rules) e ∙ l;
}
