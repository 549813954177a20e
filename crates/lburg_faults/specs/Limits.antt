-- Limit: a terminal, a nonterminal, a rule, a node of a pattern or a terminal's number passes its limit. It stands at the token
-- that passes it, for a rule at the rule's first token.
use Rattle.std.specs.Prelude.{◌≡◌, ◌≤◌, ◌<◌, ℕ, ◌+◌, Some, List, [], ◌∷◌, length, drop, take, slice_get}
use Rattle.lcc_text.specs.Decimal.{value_of}
use Rattle.lcc_base.specs.declared.which.Which.{Which}
use Rattle.lcc_base.specs.declared.which.Which.TheVariants as which
use Rattle.lburg_lines.specs.Tokens.{Tok, Word, Number}
use Rattle.lburg_lines.specs.Sections.{TokenLine}
use Rattle.lburg_faults.specs.Lines.{Terms, IsRuleLine, InPattern, words_in}
use Rattle.lburg_faults.specs.Terminals.{Among, declared_before}
use Rattle.lburg_faults.specs.Mentions.{MentionsAt, MentionedBefore}
use Rattle.lburg_faults.specs.Setting.{Setting}

-- no value stands at two places
abbrev pub AreDistinct : {A : Type 0} → List A → Type 0
AreDistinct {A} xs = (i j : ℕ) (x : A) → slice_get xs i ≡ Some x → slice_get xs j ≡ Some x → i ≡ j

-- the 1,024th terminal
abbrev pub IsTerminalLimit : Setting → TokenLine → ℕ → Type 0
IsTerminalLimit s l place =
    (tokens : List Tok) × (name : List ℕ) × Terms l tokens × (slice_get l.tokens place ≡ Some (Word name)) × (1023 ≤ length (declared_before s.before l place))

-- the 128th nonterminal: 127 others are mentioned before, and this one isn't
pub record IsNonterminalLimit (s : Setting) (l : TokenLine) (place : ℕ) : Type 0 where
  pub name : List ℕ
  pub here : MentionsAt s.terminals l place name
  pub new : MentionedBefore s l place name → ⊥
  pub others : List (List ℕ)
  pub many : 127 ≤ length others
  pub once : AreDistinct others
  pub before : (other : List ℕ) → Among other others → MentionedBefore s l place other

-- how many rules stand before
pub data RuleCount : List TokenLine → ℕ → Type 0 where
  NoLine : RuleCount [] 0
  OneRule : (l : TokenLine) (ls : List TokenLine) (n : ℕ) → IsRuleLine l → RuleCount ls n → RuleCount (l ∷ ls) (n + 1)
  OtherLine : (l : TokenLine) (ls : List TokenLine) (n : ℕ) → (IsRuleLine l → ⊥) → RuleCount ls n → RuleCount (l ∷ ls) n

-- the 4,096th rule
abbrev pub IsRuleLimit : Setting → TokenLine → ℕ → Type 0
IsRuleLimit s l place = (n : ℕ) × IsRuleLine l × RuleCount s.before n × (4095 ≤ n) × (place ≡ 0)

-- the 17th node of a pattern
abbrev pub IsPatternLimit : TokenLine → ℕ → Type 0
IsPatternLimit l place =
    (name : List ℕ) × InPattern l place × (slice_get l.tokens place ≡ Some (Word name)) × (16 ≤ words_in (drop 2 (take place l.tokens)))

-- a terminal's number above 2,147,483,647
abbrev pub IsNumberLimit : TokenLine → ℕ → Type 0
IsNumberLimit l place =
    (tokens : List Tok) × (digits : List ℕ) × Terms l tokens × (slice_get l.tokens place ≡ Some (Number digits)) × (2147483647 < value_of digits)

abbrev pub IsLimit : Which → Setting → TokenLine → ℕ → Type 0
IsLimit which.Terminals s l place = IsTerminalLimit s l place
IsLimit which.Nonterminals s l place = IsNonterminalLimit s l place
IsLimit which.Rules s l place = IsRuleLimit s l place
IsLimit which.Pattern s l place = IsPatternLimit l place
IsLimit which.Number s l place = IsNumberLimit l place
IsLimit other s l place = ⊥
