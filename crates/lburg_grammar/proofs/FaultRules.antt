-- The faults of lines of rules stand in no description's text.
use Rattle.std.proofs.Common.{◌≡◌, ℕ, zero, suc, List, [], ◌∷◌, ◌++◌, length, Some, sym, ap, subst, ◌∙◌, inl, inr, arith, append_assoc}
use Rattle.std.specs.Prelude.{slice_get}
use Rattle.lcc_text.specs.Stops.{next}
use Rattle.lburg_lines.specs.declared.token.Sign.TheVariants.{Open}
use Rattle.lburg_lines.specs.declared.section.Section.{Section}
use Rattle.lburg_lines.specs.declared.section.Section.TheVariants.{Rules}
use Rattle.lburg_lines.specs.Tokens.{Tok, Word, Mark}
use Rattle.lburg_lines.specs.NamedTree.{MNamed, Alone, Over, Both, tree_then}
use Rattle.lburg_lines.specs.Readings.{Ends}
use Rattle.lburg_lines.specs.Grammar.{MLine, MCost, IsLine, Ruled}
use Rattle.lburg_lines.specs.Sections.{TokenLine}
use Rattle.lburg_faults.specs.Terminals.{Among}
use Rattle.lburg_faults.specs.Mentions.{MentionedBefore}
use Rattle.lburg_faults.specs.Uses.{root_of, operands_of}
use Rattle.lburg_faults.specs.BadRule.{IsTerminalLeft}
use Rattle.lburg_faults.specs.UnknownTerminal.{IsUnknownTerminal}
use Rattle.lburg_faults.specs.ArityDiffers.{IsArityDiffers}
use Rattle.lburg_faults.specs.CostTooLarge.{IsCostTooLarge}
use Rattle.lburg_faults.specs.Limits.{IsNonterminalLimit, IsRuleLimit, IsPatternLimit}
use Rattle.lburg_faults.specs.FirstFault.{setting_of}
use Rattle.lburg_faults.specs.Written.{AreWritten, rules_in}
use Rattle.lburg_model.specs.Description.{MDescription}
use Rattle.lburg_grammar.specs.DescriptionText.{CostMeans}
use Rattle.lburg_grammar.proofs.FaultLists.{at_front, no_longer, once_more}
use Rattle.lburg_grammar.proofs.FaultLines.{written_at, counted}
use Rattle.lburg_grammar.proofs.FaultMeans.{NameHas, as_many_rules, root_means, same_arity}
use Rattle.lburg_grammar.proofs.FaultTold.{Told, OneTree, get_drop, has_among, left_named, made, mentioned, not_both, place_means, used}
use Rattle.lburg_grammar.proofs.FaultDeclarations.{line_here}

-- a line's tokens are those of one line
abbrev pub OneLine : Type 0
OneLine = (section : Section) (tokens : List Tok) (a b : MLine) → IsLine section tokens a → IsLine section tokens b → a ≡ b

pub no_terminal_left : (d : MDescription) (lines : List TokenLine) (t : Told d lines) (before : List TokenLine) (i : ℕ) (l : TokenLine) (place : ℕ) → slice_get lines i ≡ Some l → IsTerminalLeft (setting_of lines before) l place → ⊥
no_terminal_left d lines t before i l place g b = not_both d lines t b.0 b.4 (left_named d lines t i l b.0 b.1 g b.2 b.3)

-- a tree with a parenthesis behind its name has operands
has_operands : (part : MNamed) (more rest : List Tok) (name : List ℕ) → Ends part more → tree_then part more ≡ Word name ∷ (Mark Open ∷ rest) → operands_of part ≡ 0 → ⊥
has_operands (Alone n) more rest name ends e z = let f : more ≡ Mark Open ∷ rest = cc in ends (ap next f)
has_operands (Over n a) more rest name ends e z = omega arith
has_operands (Both n a b) more rest name ends e z = omega arith

same_root : (part : MNamed) (more rest : List Tok) (name : List ℕ) (d : MDescription) (n : ℕ) → tree_then part more ≡ Word name ∷ rest → NameHas d (root_of part) n → NameHas d name n
same_root (Alone x) more rest name d n e h = let f : x ≡ name = cc in let P : List ℕ → Type 0 = λ y. NameHas d y n in subst P f h
same_root (Over x a) more rest name d n e h = let f : x ≡ name = cc in let P : List ℕ → Type 0 = λ y. NameHas d y n in subst P f h
same_root (Both x a b) more rest name d n e h = let f : x ≡ name = cc in let P : List ℕ → Type 0 = λ y. NameHas d y n in subst P f h

pub no_unknown : (d : MDescription) (lines : List TokenLine) (t : Told d lines) (before : List TokenLine) (i : ℕ) (l : TokenLine) (place : ℕ) → slice_get lines i ≡ Some l → IsUnknownTerminal (setting_of lines before) l place → ⊥
no_unknown d lines t before i l place g b =
    let m = place_means d lines t i l place b.0 g b.2 (get_drop l.tokens place (Word b.0) (Mark Open ∷ b.1) b.3) in
    let e = sym m.there ∙ b.3 in
    elim (root_means d m.part m.means.pattern m.means.means m.means.fits) [
      | inl x ↦ has_operands m.part m.more b.1 b.0 m.ends e x.1
      | inr x ↦ b.4 (has_among d lines t b.0 (operands_of m.part) (same_root m.part m.more (Mark Open ∷ b.1) b.0 d (operands_of m.part) e x))
    ]

-- the lines up to this one are lines of the text
up_to_here : (lines before behind : List TokenLine) (l k : TokenLine) (i : ℕ) → lines ≡ before ++ l ∷ behind → slice_get (before ++ l ∷ []) i ≡ Some k → slice_get lines i ≡ Some k
up_to_here lines before behind l k i e g =
    ap (λ (ls : List TokenLine). slice_get ls i) (e ∙ sym (append_assoc before (l ∷ []) behind)) ∙ at_front (before ++ l ∷ []) behind i k g

pub no_other_arity : (d : MDescription) (lines : List TokenLine) (t : Told d lines) (one : OneTree) (before behind : List TokenLine) (l : TokenLine) (place : ℕ) → lines ≡ before ++ l ∷ behind → IsArityDiffers (setting_of lines before) l place → ⊥
no_other_arity d lines t one before behind l place e b =
    let f = b.6 in
    let here = used d lines t one (length before) l b.1 place b.0 b.2 (line_here lines before behind l e) b.4 b.5 in
    let first = used d lines t one f.index f.line f.place f.last b.0 b.3 (up_to_here lines before behind l f.line f.index e f.there) b.4 f.is_use in
    b.7 (same_arity d b.0 b.2 b.3 t.means.is.names here first)

pub small_cost : (d : MDescription) (lines : List TokenLine) (t : Told d lines) (one : OneLine) (i : ℕ) (l : TokenLine) (place : ℕ) → slice_get lines i ≡ Some l → IsCostTooLarge l place → ⊥
small_cost d lines t one i l place g b =
    let w = written_at lines t.written i l t.are_written g in
    let P : Section → Type 0 = λ s. IsLine s l.tokens w.0 in
    let e = one Rules l.tokens w.0 (Ruled b.0) (subst P b.2 w.2) b.3 in
    let o = made d lines t i l w.0 b.0 w.1 w.2 e in
    let Q : MCost → Type 0 = λ c. CostMeans c o.made.cost o.made.range in
    let c = (subst Q b.4 o.means.cost).0 in
    let most = o.keeps.cost in
    let least = b.5 in
    omega arith

-- ---- limits

mentioned_before : (d : MDescription) (lines : List TokenLine) (t : Told d lines) (before behind : List TokenLine) (l : TokenLine) (place : ℕ) (name : List ℕ) → lines ≡ before ++ l ∷ behind → MentionedBefore (setting_of lines before) l place name → Among name d.nonterminals
mentioned_before d lines t before behind l place name e (inl m) =
    mentioned d lines t m.0 m.2 m.1 name (ap (λ (ls : List TokenLine). slice_get ls m.0) e ∙ at_front before (l ∷ behind) m.0 m.2 m.3) m.4
mentioned_before d lines t before behind l place name e (inr m) = mentioned d lines t (length before) l m.0 name (line_here lines before behind l e) m.2

all_among : (x : List ℕ) (xs ys : List (List ℕ)) → Among x ys → ((y : List ℕ) → Among y xs → Among y ys) → (y : List ℕ) → Among y (x ∷ xs) → Among y ys
all_among x xs ys a h y (zero, g) = let f : x ≡ y = cc in let P : List ℕ → Type 0 = λ z. Among z ys in subst P f a
all_among x xs ys a h y (suc i, g) = h y (i, g)

pub few_nonterminals : (d : MDescription) (lines : List TokenLine) (t : Told d lines) (before behind : List TokenLine) (l : TokenLine) (place : ℕ) → lines ≡ before ++ l ∷ behind → IsNonterminalLimit (setting_of lines before) l place → ⊥
few_nonterminals d lines t before behind l place e b =
    let here = mentioned d lines t (length before) l place b.name (line_here lines before behind l e) b.here in
    let once = once_more b.name b.others b.once (λ a. b.new (b.before b.name a)) in
    let n = no_longer (b.name ∷ b.others) d.nonterminals once (all_among b.name b.others d.nonterminals here (λ x a. mentioned_before d lines t before behind l place x e (b.before x a))) in
    let most = t.means.is.nonterminals in
    let least = b.many in
    omega arith

pub few_rules : (d : MDescription) (lines : List TokenLine) (t : Told d lines) (before behind : List TokenLine) (l : TokenLine) (place : ℕ) → lines ≡ before ++ l ∷ behind → IsRuleLimit (setting_of lines before) l place → ⊥
few_rules d lines t before behind l place e b =
    let P : List TokenLine → Type 0 = λ ls. AreWritten ls t.written in
    let n = counted l behind b.1 b.2 t.written (subst P e t.are_written) in
    let m = as_many_rules d (rules_in t.written) d.rules t.means.rules in
    let most = t.means.is.rule_limit in
    let least = b.3 in
    omega arith

pub few_nodes : (d : MDescription) (lines : List TokenLine) (t : Told d lines) (i : ℕ) (l : TokenLine) (place : ℕ) → slice_get lines i ≡ Some l → IsPatternLimit l place → ⊥
few_nodes d lines t i l place g b =
    let m = place_means d lines t i l place b.0 g b.1 b.2 in
    let most = m.few in
    let least = b.3 in
    omega arith
