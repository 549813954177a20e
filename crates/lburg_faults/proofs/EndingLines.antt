-- What lines of a section have and haven't: no foreign token, a template only in rules and in each of them.
use Rattle.std.proofs.Common.{◌≡◌, ◌≤◌, ◌<◌, ℕ, zero, suc, false, List, [], ◌∷◌, ◌++◌, length, take, drop, Some, refl, sym, ap, ◌∙◌, subst, arith}
use Rattle.std.specs.Prelude.{slice_get}
use Rattle.std.proofs.lemmas.Option.{none-some}
use Rattle.std.proofs.lemmas.List.{take-append-drop, length-take-le}
use Rattle.lcc_text.proofs.lemmas.Stopping.{stops_not, stop_behind}
use Rattle.lburg_lines.specs.declared.section.Section.{Section}
use Rattle.lburg_lines.specs.declared.section.Section.TheVariants.{Rules}
use Rattle.lburg_lines.specs.Tokens.{Tok}
use Rattle.lburg_lines.specs.Numbers.{MNumber, Plain, Minus, number_token}
use Rattle.lburg_lines.specs.NamedTree.{MNamed, Alone, Over, Both, tree_then}
use Rattle.lburg_lines.specs.Grammar.{MCost, Omitted, Fixed, Between, cost_tokens, MRule, MNumbered, terminal_tokens, MDeclaration, Starts, Declares, declaration_tokens, MLine, Blank, Divides, Opens, Closes, Declared, Ruled, line_tokens, MayStand, AreLineOf}
use Rattle.lburg_lines.specs.Sections.{TokenLine}
use Rattle.lburg_faults.specs.Lines.{has_template}
use Rattle.lburg_faults.specs.BadToken.{IsForeign, IsBadToken}
use Rattle.lburg_faults.specs.Breaks.{Breaks}
use Rattle.lburg_faults.specs.Grammatical.{IsBegun}
use Rattle.lburg_faults.proofs.EndingTokens.{get_take, get_append, template_front}

-- ---- foreign tokens

abbrev AreOurs : List Tok → Type 0
AreOurs [] = Unit {0}
AreOurs (t ∷ ts) = (IsForeign t → ⊥) × AreOurs ts

number_ours : (n : MNumber) → IsForeign (number_token n) → ⊥
number_ours (Plain d) h = h
number_ours (Minus d) h = h

cost_ours : (c : MCost) → AreOurs (cost_tokens c)
cost_ours Omitted = tt
cost_ours (Fixed d) = (λ h. h, tt)
cost_ours (Between low high) = (λ h. h, (λ h. h, (λ h. h, (λ h. h, (number_ours low, (λ h. h, (number_ours high, (λ h. h, tt))))))))

tree_ours : (t : MNamed) (rest : List Tok) → AreOurs rest → AreOurs (tree_then t rest)
tree_ours (Alone n) rest h = (λ k. k, h)
tree_ours (Over n a) rest h = (λ k. k, (λ k. k, tree_ours a _ (λ k. k, h)))
tree_ours (Both n a b) rest h = (λ k. k, (λ k. k, tree_ours a _ (λ k. k, tree_ours b _ (λ k. k, h))))

terminals_ours : (ts : List MNumbered) → AreOurs (terminal_tokens ts)
terminals_ours [] = tt
terminals_ours (t ∷ ts) = (λ h. h, (λ h. h, (λ h. h, terminals_ours ts)))

declaration_ours : (d : MDeclaration) → AreOurs (declaration_tokens d)
declaration_ours (Starts n) = (λ h. h.0 refl, (λ h. h, tt))
declaration_ours (Declares ts) = (λ h. h.1 refl, terminals_ours ts)

line_ours : (line : MLine) → AreOurs (line_tokens line)
line_ours Blank = tt
line_ours Divides = (λ h. h, tt)
line_ours Opens = (λ h. h, tt)
line_ours Closes = (λ h. h, tt)
line_ours (Declared d) = declaration_ours d
line_ours (Ruled r) = (λ h. h, (λ h. h, tree_ours r.tree _ (λ h. h, cost_ours r.cost)))

ours_at : (ts : List Tok) (i : ℕ) (t : Tok) → AreOurs ts → slice_get ts i ≡ Some t → IsForeign t → ⊥
ours_at [] i t h e f = absurd (none-some t e)
ours_at (u ∷ ts) zero t h e f = let k : u ≡ t = cc in h.0 (subst IsForeign (sym k) f)
ours_at (u ∷ ts) (suc i) t h e f = ours_at ts i t h.1 e f

-- a foreign token isn't in a front with which a line begins
pub foreign_behind : (l : TokenLine) (bound q : ℕ) → IsBegun l bound → IsBadToken l q → q < bound → ⊥
foreign_behind l bound q b f h =
    let is = b.1 in
    let g : slice_get (take bound l.tokens ++ b.0) q ≡ Some f.0 = get_append (take bound l.tokens) b.0 q f.0 (get_take l.tokens bound q h ∙ f.1) in
    let k : AreOurs (take bound l.tokens ++ b.0) = subst AreOurs (sym is.1.1) (line_ours is.0) in
    ours_at _ q f.0 k g f.2

-- ---- breaks

-- a line doesn't break before a front with which a line begins ends
pub break_behind : (l : TokenLine) (bound q : ℕ) → IsBegun l bound → bound ≤ length l.tokens → Breaks l q → bound ≤ q
break_behind l bound q b h k =
    let a = stop_behind (AreLineOf l.section) l.tokens (take bound l.tokens) (drop bound l.tokens) b.0 k.0 (sym (take-append-drop bound l.tokens)) b.1 k.1 in
    let c = k.2 in
    omega (arith, length-take-le bound l.tokens h)

pub whole_breaks_not : (l : TokenLine) (q : ℕ) → AreLineOf l.section l.tokens → Breaks l q → ⊥
whole_breaks_not l q is k = stops_not (AreLineOf l.section) l.tokens k.0 k.1 is

-- ---- templates

terminals_plain : (ts : List MNumbered) → has_template (terminal_tokens ts) ≡ false
terminals_plain [] = refl
terminals_plain (t ∷ ts) = terminals_plain ts

declaration_plain : (d : MDeclaration) → has_template (declaration_tokens d) ≡ false
declaration_plain (Starts n) = refl
declaration_plain (Declares ts) = terminals_plain ts

only_rules : (section : Section) (r : MRule) → MayStand section (Ruled r) → section ≡ Rules
only_rules Rules r h = refl
only_rules section r h = absurd h

line_plain : (section : Section) (line : MLine) → MayStand section line → (section ≡ Rules → ⊥) → has_template (line_tokens line) ≡ false
line_plain section Blank m h = refl
line_plain section Divides m h = refl
line_plain section Opens m h = refl
line_plain section Closes m h = refl
line_plain section (Declared d) m h = declaration_plain d
line_plain section (Ruled r) m h = absurd (h (only_rules section r m))

-- where a line isn't of the rules, no template is in a front with which one begins
pub plain_front : (l : TokenLine) (bound : ℕ) → IsBegun l bound → (l.section ≡ Rules → ⊥) → has_template (take bound l.tokens) ≡ false
plain_front l bound b h =
    let is = b.1 in
    template_front (take bound l.tokens) b.0 (ap has_template is.1.1 ∙ line_plain l.section is.0 is.1.0 h)
