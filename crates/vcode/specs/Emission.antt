-- The code of derivations: each rule's code stands behind that of its nonterminals, from left to right. The register of
-- a node at which a rule that is no chain rule is applied is the next one that is free, and the chain rules there use the
-- same. A node that gives a value takes its register; a statement takes none.
-- Source: Fraser and Hanson, A Retargetable C Compiler, chapter 14.
use Rattle.std.specs.Prelude.{◌≡◌, ℕ, ◌+◌, ◌≤◌, List, [], ◌∷◌, ◌++◌, true, false, Some}
use Rattle.std.specs.List.{sum_by}
use Rattle.lburg_model.specs.Derivation.{MDerivation, Apply}
use Rattle.lburg_model.specs.DerivationOf.{parts_of}
use Rattle.op_forest.specs.Nodes.{Node, head_of, gives, one_where, value_nodes}
use Rattle.forests.specs.Worlds.{Failed}
use Rattle.forests.specs.Bodies.{Setting}
use Rattle.forests.specs.Bodies.{body_run}
use Rattle.vcode.specs.Machines.{Machine}
use Rattle.vcode.specs.Execution.{State, executed}
use Rattle.vcode.specs.VirtualCode.{MCode, NamesBelow, joined, ends_from}
use Rattle.vcode.specs.Patterns.{Meeting, leaves_at, is_chain}
use Rattle.vcode.specs.RuleSets.{Row, Rules, Applies}

-- what a derivation adds: its code, what it hands up, the node's register, and the next register that is free
pub record Emitted (I P : Type 0) : Type 0 where
  pub code : List I
  pub part : P
  pub to : ℕ
  pub next : ℕ

-- what derivations add, one behind the other
pub record EmittedAll (I P : Type 0) : Type 0 where
  pub code : List I
  pub parts : List P
  pub next : ℕ

module _ {I P : Type 0} (rules : Rules I P) where
  abbrev pub with_chain : ℕ → Node → Emitted I P → Emitted I P
  with_chain number t e = record {
    code = e.code ++ rules.code number t (e.part ∷ []) e.to;
    part = rules.part number t (e.part ∷ []) e.to;
    to = e.to;
    next = e.next;
  }

  abbrev pub with_rule : ℕ → Node → EmittedAll I P → Emitted I P
  with_rule number t es = record {
    code = es.code ++ rules.code number t es.parts es.next;
    part = rules.part number t es.parts es.next;
    to = es.next;
    next = es.next + one_where (gives (head_of t));
  }

abbrev pub no_code : {I P : Type 0} → ℕ → EmittedAll I P
no_code n = record { code = []; parts = []; next = n }

abbrev pub and_one : {I P : Type 0} → EmittedAll I P → Emitted I P → EmittedAll I P
and_one es e = record { code = es.code ++ e.code; parts = es.parts ++ e.part ∷ []; next = e.next }

-- a derivation at a node adds this, where registers are free from a number on
mutual
  pub data Emits {I P : Type 0} (rules : Rules I P) : MDerivation → Node → ℕ → Emitted I P → Type 0 where
    ByChain : {number : ℕ} {row : Row} {x : MDerivation} {t : Node} {n : ℕ} {e : Emitted I P} → Emits rules x t n e → is_chain row.pattern ≡ true → Applies rules number row t (e.part ∷ []) e.to → Emits rules (Apply number (parts_of (x ∷ []))) t n (with_chain rules number t e)
    ByRule : {number : ℕ} {row : Row} {xs : List MDerivation} {meetings : List Meeting} {t : Node} {n : ℕ} {es : EmittedAll I P} → EmitsAll rules xs meetings n es → leaves_at row.pattern t ≡ Some meetings → is_chain row.pattern ≡ false → Applies rules number row t es.parts es.next → Emits rules (Apply number (parts_of xs)) t n (with_rule rules number t es)

  pub data EmitsAll {I P : Type 0} (rules : Rules I P) : List MDerivation → List Meeting → ℕ → EmittedAll I P → Type 0 where
    Nothing : {n : ℕ} → EmitsAll rules [] [] n (no_code n)
    OneMore : {xs : List MDerivation} {meetings : List Meeting} {x : MDerivation} (meeting : Meeting) {n : ℕ} {es : EmittedAll I P} {e : Emitted I P} → EmitsAll rules xs meetings n es → Emits rules x meeting.1 es.next e → EmitsAll rules (xs ++ x ∷ []) (meetings ++ meeting ∷ []) n (and_one es e)

-- the derivations of roots, in order, add these stretches, and registers are free from the second number on
pub data EmitsRoots {I P : Type 0} (rules : Rules I P) : List MDerivation → List Node → ℕ → List (List I) → ℕ → Type 0 where
  NoRoot : {n : ℕ} → EmitsRoots rules [] [] n [] n
  OneRoot : {xs : List MDerivation} {ts : List Node} {x : MDerivation} {t : Node} {n n' : ℕ} {stretches : List (List I)} {e : Emitted I P} → EmitsRoots rules xs ts n stretches n' → Emits rules x t n' e → EmitsRoots rules (xs ++ x ∷ []) (ts ++ t ∷ []) n (stretches ++ e.code ∷ []) e.next

-- Virtual code of a forest's roots: it is what the derivations add, a stretch a root, and from each state it does what
-- the roots do, unless these have no meaning, in at least as many steps. It names no virtual register from the next one
-- on, and at most as many are taken as nodes give a value.
pub record IsLinearised {I P : Type 0} (m : Machine I) (rules : Rules I P) (roots : List Node) (derivations : List MDerivation) (c : MCode I) : Type 0 where
  pub stretches : List (List I)
  pub next : ℕ
  pub emits : EmitsRoots rules derivations roots 64 stretches next
  pub code : c.code ≡ joined stretches
  pub cuts : c.cuts ≡ ends_from 0 stretches
  pub few : next ≤ 64 + sum_by value_nodes roots
  pub names : NamesBelow m next c.code
  pub agrees : (s : Setting) (n : ℕ) (st : State) → (body_run s roots n roots st.point ≡ Failed → ⊥) → (k : ℕ) × (n ≤ k) × (executed m s c.code k c.code st ≡ body_run s roots n roots st.point)
