-- The parts of a line as languages of tokens, and where a line stops being of one.
use Rattle.std.specs.Prelude.{◌≡◌, ◌≢◌, List, [], ◌++◌, length, Some}
use Rattle.lcc_text.specs.Stops.{next, StopsAt}
use Rattle.lburg_lines.specs.declared.token.Sign.TheVariants.{Open}
use Rattle.lburg_lines.specs.declared.section.Section.{Section}
use Rattle.lburg_lines.specs.declared.read_error.ReadError.{ReadError}
use Rattle.lburg_lines.specs.declared.read_error.ReadError.TheVariants.{Memory, Stuck}
use Rattle.lburg_lines.specs.Tokens.{Tok, Mark}
use Rattle.lburg_lines.specs.Numbers.{MNumber}
use Rattle.lburg_lines.specs.NamedTree.{MNamed, Alone, Over, Both, tree_then}
use Rattle.lburg_lines.specs.Grammar.{MCost, Between, IsCost, MRule, MDeclaration, MNumbered, cost_tokens, rule_tokens, terminal_tokens, declaration_tokens, AreLineOf}

-- what stands behind a tree isn't part of it
abbrev pub Ends : MNamed → List Tok → Type 0
Ends (Alone n) rest = next rest ≢ Some (Mark Open)
Ends (Over n a) rest = Unit {0}
Ends (Both n a b) rest = Unit {0}

-- The line is front and then rest. Some tree begins with front, and none goes on behind front as rest does.
pub record TreeStops (line rest : List Tok) : Type 0 where
  pub front : List Tok
  pub parts : line ≡ front ++ rest
  pub begun : (tree : MNamed) × (more : List Tok) × (front ++ more ≡ tree_then tree [])
  pub stuck : (tree : MNamed) (after more : List Tok) → Ends tree after → front ++ more ≡ tree_then tree after → next more ≡ next rest → ⊥

abbrev pub SpellsCost : List Tok → Type 0
SpellsCost tokens = (cost : MCost) × IsCost cost × (tokens ≡ cost_tokens cost)

abbrev pub SpellsRange : List Tok → Type 0
SpellsRange tokens = (low high : MNumber) × IsCost (Between low high) × (tokens ≡ cost_tokens (Between low high))

abbrev pub SpellsRule : List Tok → Type 0
SpellsRule tokens = (r : MRule) × IsCost r.cost × (tokens ≡ rule_tokens r)

abbrev pub SpellsTerminals : List Tok → Type 0
SpellsTerminals tokens = (ts : List MNumbered) × (tokens ≡ terminal_tokens ts)

abbrev pub SpellsDeclaration : List Tok → Type 0
SpellsDeclaration tokens = (d : MDeclaration) × (tokens ≡ declaration_tokens d)

-- the tokens stop where so many are left
abbrev pub Fault : (List Tok → List Tok → Type 0) → ReadError → List Tok → Type 0
Fault Stops Memory tokens = Unit {0}
Fault Stops (Stuck left) tokens = (rest : List Tok) × (length rest ≡ left) × Stops tokens rest

abbrev pub TreeFault : ReadError → List Tok → Type 0
TreeFault e tokens = Fault TreeStops e tokens

abbrev pub CostFault : ReadError → List Tok → Type 0
CostFault e tokens = Fault (StopsAt SpellsCost) e tokens

abbrev pub RangeFault : ReadError → List Tok → Type 0
RangeFault e tokens = Fault (StopsAt SpellsRange) e tokens

abbrev pub RuleFault : ReadError → List Tok → Type 0
RuleFault e tokens = Fault (StopsAt SpellsRule) e tokens

abbrev pub TerminalsFault : ReadError → List Tok → Type 0
TerminalsFault e tokens = Fault (StopsAt SpellsTerminals) e tokens

abbrev pub DeclarationFault : ReadError → List Tok → Type 0
DeclarationFault e tokens = Fault (StopsAt SpellsDeclaration) e tokens

abbrev pub LineFault : Section → ReadError → List Tok → Type 0
LineFault section e tokens = Fault (StopsAt (AreLineOf section)) e tokens
