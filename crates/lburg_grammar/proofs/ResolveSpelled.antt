-- The tokens of a text's lines are spelled, and so are the names and the templates of what is written there.
use Rattle.std.proofs.Common.{◌≡◌, ℕ, zero, suc, List, [], ◌∷◌, ◌++◌, drop, Option, Some, None, sym, subst, inl, inr}
use Rattle.std.specs.Prelude.{slice_get}
use Rattle.std.proofs.lemmas.Option.{none-some, same_Some}
use Rattle.lburg_lines.specs.declared.section.Section.{Section}
use Rattle.lburg_lines.specs.declared.section.Section.TheVariants.{Head, Prologue, Declarations, Rules, Tail}
use Rattle.lburg_lines.specs.declared.token.Sign.TheVariants.{Close, Comma}
use Rattle.lburg_lines.specs.declared.token.Border.{Border}
use Rattle.lburg_lines.specs.declared.token.Border.TheVariants.{Divider, PrologueStart, PrologueEnd}
use Rattle.lburg_lines.specs.Tokens.{Tok, Word, Template, Mark, Bound, Wrong, IsToken}
use Rattle.lburg_lines.specs.Spelling.{Spells}
use Rattle.lburg_lines.specs.NamedTree.{MNamed, Alone, Over, Both, tree_then}
use Rattle.lburg_lines.specs.Grammar.{MLine, Declared, Ruled, MRule, Declares, MNumbered, rule_tokens, terminal_tokens}
use Rattle.lburg_lines.specs.Sections.{TokenLine, SpellsIn, AreLinesFrom, section_behind, spells_behind, spells_head, spells_prologue}
use Rattle.lburg_faults.specs.Terminals.{names_of}
use Rattle.lburg_faults.specs.Written.{AreWritten, rules_in, terminals_in}
use Rattle.lburg_model.specs.Description.{AreNames}

-- ---- tokens

-- a token that is neither a border nor a wrong one is spelled
abbrev IsMade : Tok → Type 0
IsMade (Bound b) = Unit {0}
IsMade Wrong = Unit {0}
IsMade t = IsToken t

abbrev AreMade : List Tok → Type 0
AreMade [] = Unit {0}
AreMade (t ∷ ts) = IsMade t × AreMade ts

token_made : (t : Tok) → IsToken t → IsMade t
token_made (Bound b) p = tt
token_made Wrong p = tt
token_made t p = p

spells_made : (ts : List Tok) (bytes : List ℕ) → Spells ts bytes → AreMade ts
spells_made [] bytes s = tt
spells_made (t ∷ ts) bytes s = elim s.5 [
  | inl n ↦ (token_made t n.1.token, spells_made ts n.0 n.2)
  | inr w ↦ (subst IsMade (sym w.0) tt, subst AreMade (sym w.1) tt)
]

behind_made : (border : Option Border) (ts : List Tok) (bytes : List ℕ) → spells_behind border ts bytes → AreMade ts
behind_made None ts bytes s = spells_made ts bytes s
behind_made (Some b) ts bytes s = subst AreMade (sym s.1) (tt, spells_made s.0 (drop 2 bytes) s.2)

head_made : (border : Option Border) (ts : List Tok) (bytes : List ℕ) → spells_head border ts bytes → AreMade ts
head_made None ts bytes s = behind_made None ts bytes s
head_made (Some PrologueStart) ts bytes s = subst AreMade (sym s) (tt, tt)
head_made (Some Divider) ts bytes s = behind_made (Some Divider) ts bytes s
head_made (Some PrologueEnd) ts bytes s = behind_made (Some PrologueEnd) ts bytes s

prologue_made : (border : Option Border) (ts : List Tok) (bytes : List ℕ) → spells_prologue border ts bytes → AreMade ts
prologue_made (Some PrologueEnd) ts bytes s = behind_made (Some PrologueEnd) ts bytes s
prologue_made (Some PrologueStart) ts bytes s = subst AreMade (sym s) tt
prologue_made (Some Divider) ts bytes s = subst AreMade (sym s) tt
prologue_made None ts bytes s = subst AreMade (sym s) tt

section_made : (section : Section) (ts : List Tok) (bytes : List ℕ) → SpellsIn section ts bytes → AreMade ts
section_made Head ts bytes s = head_made _ ts bytes s
section_made Prologue ts bytes s = prologue_made _ ts bytes s
section_made Declarations ts bytes s = behind_made _ ts bytes s
section_made Rules ts bytes s = behind_made _ ts bytes s
section_made Tail ts bytes s = behind_made _ ts bytes s

-- ---- lines

abbrev AllMade : List TokenLine → Type 0
AllMade [] = Unit {0}
AllMade (l ∷ ls) = AreMade l.tokens × AllMade ls

lines_made : (section : Section) (texts : List (List ℕ)) (lines : List TokenLine) → AreLinesFrom section texts lines → AllMade lines
lines_made Tail texts lines h = subst AllMade (sym h) tt
lines_made section [] lines h = subst AllMade (sym h) tt
lines_made section (bytes ∷ texts) lines h = subst AllMade (sym h.3) (section_made section h.0 bytes h.2, lines_made (section_behind section h.0) texts h.1 h.4)

-- ---- the names of terminals

abbrev AreWords : List (List ℕ) → Type 0
AreWords [] = Unit {0}
AreWords (n ∷ ns) = IsToken (Word n) × AreWords ns

word_at : (names : List (List ℕ)) → AreWords names → AreNames names
word_at [] h i name e = absurd (none-some name e)
word_at (n ∷ ns) h zero name e = let P : List ℕ → Type 0 = λ x. IsToken (Word x) in subst P (same_Some n name e) h.0
word_at (n ∷ ns) h (suc i) name e = word_at ns h.1 i name e

terminals_made : (ts more : List MNumbered) → AreMade (terminal_tokens ts) → AreWords (names_of more) → AreWords (names_of (ts ++ more))
terminals_made [] more h k = k
terminals_made (t ∷ ts) more h k = (h.0, terminals_made ts more h.1.1.1 k)

written_words : (ls : List TokenLine) (ws : List MLine) → AreWritten ls ws → AllMade ls → AreWords (names_of (terminals_in ws))
written_words [] [] p m = tt
written_words [] (w ∷ ws) p m = absurd p
written_words (l ∷ ls) [] p m = absurd p
written_words (l ∷ ls) (Declared (Declares ts) ∷ ws) p m = terminals_made ts (terminals_in ws) (subst AreMade p.0.1 m.0).1 (written_words ls ws p.1 m.1)
written_words (l ∷ ls) (w ∷ ws) p m = written_words ls ws p.1 m.1

-- ---- left sides and templates

pub record IsRuleSpelled (r : MRule) : Type 0 where
  pub left : IsToken (Word r.left)
  pub template : IsToken (Template r.template)

abbrev AreRulesSpelled : List MRule → Type 0
AreRulesSpelled [] = Unit {0}
AreRulesSpelled (r ∷ rs) = IsRuleSpelled r × AreRulesSpelled rs

rule_at : (rs : List MRule) → AreRulesSpelled rs → (i : ℕ) (r : MRule) → slice_get rs i ≡ Some r → IsRuleSpelled r
rule_at [] h i r e = absurd (none-some r e)
rule_at (x ∷ rs) h zero r e = subst IsRuleSpelled (same_Some x r e) h.0
rule_at (x ∷ rs) h (suc i) r e = rule_at rs h.1 i r e

behind_tree : (tree : MNamed) (rest : List Tok) → AreMade (tree_then tree rest) → AreMade rest
behind_tree (Alone n) rest h = h.1
behind_tree (Over n a) rest h = (behind_tree a (Mark Close ∷ rest) h.1.1).1
behind_tree (Both n a b) rest h = (behind_tree b (Mark Close ∷ rest) (behind_tree a (Mark Comma ∷ tree_then b (Mark Close ∷ rest)) h.1.1).1).1

rule_made : (r : MRule) → AreMade (rule_tokens r) → IsRuleSpelled r
rule_made r h = record { left = h.0; template = (behind_tree r.tree _ h.1.1).0 }

written_rules : (ls : List TokenLine) (ws : List MLine) → AreWritten ls ws → AllMade ls → AreRulesSpelled (rules_in ws)
written_rules [] [] p m = tt
written_rules [] (w ∷ ws) p m = absurd p
written_rules (l ∷ ls) [] p m = absurd p
written_rules (l ∷ ls) (Ruled r ∷ ws) p m = (rule_made r (subst AreMade p.0.1 m.0), written_rules ls ws p.1 m.1)
written_rules (l ∷ ls) (w ∷ ws) p m = written_rules ls ws p.1 m.1

-- ---- a text

module _ (texts : List (List ℕ)) (lines : List TokenLine) (ws : List MLine) (are : AreLinesFrom Head texts lines) (written : AreWritten lines ws) where
  pub names_spelled : AreNames (names_of (terminals_in ws))
  names_spelled = word_at (names_of (terminals_in ws)) (written_words lines ws written (lines_made Head texts lines are))

  pub rules_spelled : (i : ℕ) (r : MRule) → slice_get (rules_in ws) i ≡ Some r → IsRuleSpelled r
  rules_spelled = rule_at (rules_in ws) (written_rules lines ws written (lines_made Head texts lines are))
