-- What the tables of rules of all targets share: nonterminals, operators by their numbers, and lines, which are rules with
-- what each adds to the code and hands up.
-- Source: Fraser and Hanson, A Retargetable C Compiler, chapters 5, 14 and 16.
use Rattle.std.specs.Prelude.{ℕ, List, [], ◌∷◌, codes}
use Rattle.lburg_model.specs.Pattern.{MPattern}
use Rattle.vcode.specs.RuleSets.{Row}
use Rattle.frame_rules.specs.declared.action.Action.{Action}

-- the nonterminals, in the order of their first rules: a statement; a constant; a register or a constant; a register;
-- an address
abbrev pub nonterminals : List (List ℕ)
nonterminals = codes "stmt" ∷ codes "con" ∷ codes "rc" ∷ codes "reg" ∷ codes "addr" ∷ []

abbrev pub stmt : ℕ
stmt = 0

abbrev pub con : ℕ
con = 1

abbrev pub rc : ℕ
rc = 2

abbrev pub reg : ℕ
reg = 3

abbrev pub addr : ℕ
addr = 4

-- the operators of the rules, by their numbers
abbrev pub cnsti : ℕ
cnsti = 3

abbrev pub addrgp : ℕ
addrgp = 6

abbrev pub argi : ℕ
argi = 19

abbrev pub calli : ℕ
calli = 21

abbrev pub reti : ℕ
reti = 23

abbrev pub negi : ℕ
negi = 37

abbrev pub addi : ℕ
addi = 39

abbrev pub subi : ℕ
subi = 42

abbrev pub muli : ℕ
muli = 45

-- a rule, its cost and its action
pub record Line : Type 0 where
  pub row : Row
  pub cost : ℕ
  pub action : Action

abbrev pub rule : ℕ → MPattern → List ℕ → ℕ → Action → Line
rule left pattern template cost action = record {
  row = record { left = left; pattern = pattern; template = template };
  cost = cost;
  action = action;
}
