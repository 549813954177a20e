-- The forests that the rules of machines cover so far: each operator has a rule, an address is a function's name itself,
-- and no address stands alone.
-- Source: Fraser and Hanson, A Retargetable C Compiler, chapters 5 and 14.
use Rattle.std.specs.Prelude.{◌≡◌, ◌≢◌, ℤ, pos, Bool, true, false, IsTrue, List, All}
use Rattle.op_forest.specs.declared.op.Op.{Op}
use Rattle.op_forest.specs.declared.op.Op.TheVariants.{Cnst, Addrg, Arg, Call, Ret, Neg, Add, Sub, Mul}
use Rattle.op_forest.specs.declared.suffix.Suffix.{Suffix}
use Rattle.op_forest.specs.declared.suffix.Suffix.TheVariants.{I, P}
use Rattle.op_forest.specs.declared.sym.Sym.{Sym}
use Rattle.op_forest.specs.declared.sym.Sym.TheVariants as sym
use Rattle.op_forest.specs.Nodes.{Node, head_of}
use Rattle.op_forest.specs.EachNode.{AtEachNode}
use Rattle.forests.specs.WellFormed.{op_of, suffix_of}

-- the operators that have a rule so far
abbrev pub has_rule : Op → Suffix → Bool
has_rule Cnst I = true
has_rule Addrg P = true
has_rule Arg I = true
has_rule Call I = true
has_rule Ret I = true
has_rule Neg I = true
has_rule Add I = true
has_rule Sub I = true
has_rule Mul I = true
has_rule op s = false

-- a name itself: no instruction so far has a place behind a name
abbrev pub IsGlobal : Sym → Type 0
IsGlobal (sym.Global name offset) = offset ≡ pos 0
IsGlobal x = ⊥

abbrev pub HasRule : Node → Type 0
HasRule t = IsTrue (has_rule (op_of t) (suffix_of t)) × (op_of t ≡ Addrg → IsGlobal (head_of t).sym)

-- a root with rules at each node; no rule so far adds code for an address alone
pub record IsRuled (t : Node) : Type 0 where
  pub each : AtEachNode HasRule t
  pub statement : op_of t ≢ Addrg

abbrev pub HasRules : List Node → Type 0
HasRules = All IsRuled
