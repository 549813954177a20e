-- The lines of a printed description spell what is written on them.
use Rattle.std.proofs.Common.{◌≡◌, ◌≤◌, ◌<◌, ℕ, zero, suc, ℤ, pos, negsuc, true, false, ◌==◌, Option, Some, None, List, [], ◌∷◌, ◌++◌, length, codes, decimal, refl, sym, ap, subst, ◌∙◌, append_assoc, arith}
use Rattle.std.specs.Prelude.{slice_get, option_map}
use Rattle.std.specs.Fmt.{signed_decimal}
use Rattle.std.proofs.lemmas.Bool.Decides.{nat_tests}
use Rattle.std.proofs.lemmas.Option.{none-some, slice_get-map, slice_get-get_or}
use Rattle.lcc_text.specs.declared.class.Class.TheVariants.{Letter, Digit, Name}
use Rattle.lcc_text.specs.Classes.{in_class, StartsIn, StopsIn}
use Rattle.lcc_text.specs.Lines.{lines_of}
use Rattle.lburg_lines.specs.declared.section.Section.{Section}
use Rattle.lburg_lines.specs.declared.section.Section.TheVariants.{Head, Declarations, Rules, Tail}
use Rattle.lburg_lines.specs.declared.token.Sign.TheVariants.{Open, Close, Comma, Colon, Equals}
use Rattle.lburg_lines.specs.declared.token.Border.{Border}
use Rattle.lburg_lines.specs.Tokens.{Tok, Word, Number, Negative, Keyword, Mark, IsToken}
use Rattle.lburg_lines.specs.Numbers.{number_token}
use Rattle.lburg_lines.specs.NamedTree.{tree_then}
use Rattle.lburg_lines.specs.Grammar.{MLine, Divides, Declared, Ruled, Starts, Declares, IsCost, MayStand, cost_tokens, rule_tokens, line_tokens}
use Rattle.lburg_lines.specs.Sections.{TokenLine, SpellsIn, AreLinesFrom, section_behind, border_at, spells_behind}
use Rattle.lburg_faults.specs.Written.{AreWritten}
use Rattle.lburg_model.specs.declared.range.Range.{Range}
use Rattle.lburg_model.specs.declared.rule.Rule.{Rule}
use Rattle.lburg_model.specs.declared.terminal.Terminal.{Terminal}
use Rattle.lburg_model.specs.Range.{IsEnd, IsRangeFor}
use Rattle.lburg_model.specs.Pattern.{MPattern, PHole, PLeaf, POne, PTwo, pattern_of}
use Rattle.lburg_model.specs.Description.{MDescription, IsDescription, IsRuleOf, HasArity, FitsIn, terminal_at}
use Rattle.lburg_model.specs.NamesOf.{operator_name, nonterminal_name}
use Rattle.lburg_grammar.specs.Printed.{start_line, terminal_line, terminal_lines, pattern_text, cost_text, rule_line, rule_lines, printed}
use Rattle.lburg_grammar.proofs.PrintedNumbers.{digits_decimal, end_number, end_token}
use Rattle.lburg_grammar.proofs.PrintedTokens.{Writes, nothing, token_then, blank_then, template_then, last_token, line_break}
use Rattle.lburg_grammar.proofs.PrintedParts.{tree_in, number_in, cost_in, rule_in, terminal_in, rules_written, terminals_then, written_in}

-- ---- costs

number_then : (z : ℤ) (ts : List Tok) (rest : List ℕ) → IsEnd z → StopsIn (in_class Digit) rest → Writes ts rest → Writes (number_token (number_in z) ∷ ts) (signed_decimal z ++ rest)
number_then (pos n) ts rest h e w = token_then (Number (decimal n)) ts rest (end_token (pos n) h) e w
number_then (negsuc n) ts rest h e w = token_then (Negative (decimal (suc n))) ts rest (end_token (negsuc n) h) e w

word_range : IsToken (Word (codes "range"))
word_range = (refl, (refl, (refl, (refl, (refl, (refl, tt))))))

word_a : IsToken (Word (codes "a"))
word_a = (refl, (refl, tt))

writes_cost : (cost : ℕ) (range : Option Range) → cost ≤ 32766 → IsRangeFor cost range → Writes (cost_tokens (cost_in cost range)) (cost_text cost range)
writes_cost cost None h k = last_token (Number (decimal cost)) (digits_decimal cost (omega (arith, h))) tt
writes_cost cost (Some range) h k =
    let a = token_then (Mark Close) [] [] tt tt nothing in
    let b = number_then range.high (Mark Close ∷ []) (codes ")") k.2 refl a in
    let c = token_then (Mark Comma) _ _ tt tt b in
    let e = number_then range.low _ _ k.1 refl c in
    let f = token_then (Word (codes "range")) _ _ word_range refl (token_then (Mark Open) _ _ tt tt (token_then (Word (codes "a")) _ _ word_a refl (token_then (Mark Comma) _ _ tt tt e))) in
    let same : codes "range(a," ++ (signed_decimal range.low ++ (codes "," ++ (signed_decimal range.high ++ codes ")"))) ≡ cost_text cost (Some range) = simp append_assoc in
    let P : List ℕ → Type 0 = λ l. Writes (cost_tokens (cost_in cost (Some range))) l in
    subst P same f

may_cost : (cost : ℕ) (range : Option Range) → IsRangeFor cost range → IsCost (cost_in cost range)
may_cost cost None k = tt
may_cost cost (Some range) k = (end_number range.low k.1, end_number range.high k.2)

-- ---- names and patterns

-- the operator's terminal has its name
pub name_of : (d : MDescription) (op : ℕ) (t : Terminal) → terminal_at d op ≡ Some t → t.name ≡ operator_name d op
name_of d zero t e = absurd (none-some t e)
name_of d (suc place) t e = rw e refl

pub nonterminal_there : (d : MDescription) (n : ℕ) → n < length d.nonterminals → slice_get d.nonterminals n ≡ Some (nonterminal_name d n)
nonterminal_there d n h = slice_get-get_or d.nonterminals n [] h

module _ (d : MDescription) (is : IsDescription d) where
  nonterminal_token : (n : ℕ) → n < length d.nonterminals → IsToken (Word (nonterminal_name d n))
  nonterminal_token n h = is.nonterminals_spelled n (nonterminal_name d n) (nonterminal_there d n h)

  terminal_token : (i : ℕ) (t : Terminal) → slice_get d.terminals i ≡ Some t → IsToken (Word t.name)
  terminal_token i t e = is.names_spelled i t.name (slice_get-map (λ (x : Terminal). x.name) d.terminals i ∙ ap (option_map (λ (x : Terminal). x.name)) e)

  operator_token : (op n : ℕ) → HasArity d op n → IsToken (Word (operator_name d op))
  operator_token zero n h = absurd (none-some h.0 h.1)
  operator_token (suc place) n h = let P : List ℕ → Type 0 = λ l. IsToken (Word l) in subst P (name_of d (suc place) h.0 h.1) (terminal_token place h.0 h.1)

  pattern_then : (p : MPattern) (ts : List Tok) (rest : List ℕ) → FitsIn d p → StopsIn (in_class Name) rest → Writes ts rest → Writes (tree_then (tree_in d p) ts) (pattern_text d p ++ rest)
  pattern_then (PHole n) ts rest h e w = token_then (Word (nonterminal_name d n)) ts rest (nonterminal_token n h) e w
  pattern_then (PLeaf op) ts rest h e w = token_then (Word (operator_name d op)) ts rest (operator_token op 0 h) e w
  pattern_then (POne op p) ts rest h e w =
      let name = operator_name d op in
      let a = token_then (Mark Close) ts rest tt tt w in
      let b = pattern_then p (Mark Close ∷ ts) (41 ∷ rest) h.1 refl a in
      let c = token_then (Word name) _ _ (operator_token op 1 h.0) refl (token_then (Mark Open) _ _ tt tt b) in
      let same : name ++ (40 ∷ (pattern_text d p ++ 41 ∷ rest)) ≡ (name ++ codes "(" ++ pattern_text d p ++ codes ")") ++ rest = simp append_assoc in
      let P : List ℕ → Type 0 = λ l. Writes (tree_then (tree_in d (POne op p)) ts) l in
      subst P same c
  pattern_then (PTwo op p q) ts rest h e w =
      let name = operator_name d op in
      let a = token_then (Mark Close) ts rest tt tt w in
      let b = pattern_then q (Mark Close ∷ ts) (41 ∷ rest) h.1.1 refl a in
      let c = token_then (Mark Comma) _ _ tt tt b in
      let f = pattern_then p _ (44 ∷ (pattern_text d q ++ 41 ∷ rest)) h.1.0 refl c in
      let g = token_then (Word name) _ _ (operator_token op 2 h.0) refl (token_then (Mark Open) _ _ tt tt f) in
      let same : name ++ (40 ∷ (pattern_text d p ++ 44 ∷ (pattern_text d q ++ 41 ∷ rest))) ≡ (name ++ codes "(" ++ pattern_text d p ++ codes "," ++ pattern_text d q ++ codes ")") ++ rest = simp append_assoc in
      let P : List ℕ → Type 0 = λ l. Writes (tree_then (tree_in d (PTwo op p q)) ts) l in
      subst P same g

-- ---- lines

-- a line without its line feed
abbrev start_body : MDescription → List ℕ
start_body d = codes "%start " ++ nonterminal_name d d.start

abbrev terminal_body : Terminal → List ℕ
terminal_body t = codes "%term " ++ (t.name ++ (codes "=" ++ decimal t.number))

abbrev behind_left : MDescription → Rule → List ℕ
behind_left d r = codes ": " ++ (pattern_text d (pattern_of r.pattern) ++ (codes " \"" ++ (r.template ++ (codes "\" " ++ cost_text r.cost r.range))))

abbrev rule_body : MDescription → Rule → List ℕ
rule_body d r = nonterminal_name d r.left ++ behind_left d r

start_parts : (d : MDescription) (rest : List ℕ) → start_body d ++ 10 ∷ rest ≡ start_line d ++ rest
start_parts d rest = simp append_assoc

terminal_parts : (t : Terminal) (rest : List ℕ) → terminal_body t ++ 10 ∷ rest ≡ terminal_line t ++ rest
terminal_parts t rest = simp append_assoc

rule_parts : (d : MDescription) (r : Rule) (rest : List ℕ) → rule_body d r ++ 10 ∷ rest ≡ rule_line d r ++ rest
rule_parts d r rest = simp append_assoc

word_start : IsToken (Keyword (codes "start"))
word_start = (refl, (refl, (refl, (refl, (refl, (refl, tt))))))

word_term : IsToken (Keyword (codes "term"))
word_term = (refl, (refl, (refl, (refl, (refl, tt)))))

module _ (d : MDescription) (is : IsDescription d) where
  writes_start : Writes (line_tokens (Declared (Starts (nonterminal_name d d.start)))) (start_body d)
  writes_start = token_then (Keyword (codes "start")) _ _ word_start refl (blank_then _ _ (last_token (Word (nonterminal_name d d.start)) (nonterminal_token d is d.start is.start) tt))

  writes_terminal : (i : ℕ) (t : Terminal) → slice_get d.terminals i ≡ Some t → t.number ≤ 2147483647 → Writes (line_tokens (Declared (Declares (terminal_in t ∷ [])))) (terminal_body t)
  writes_terminal i t e h =
      let a = last_token (Number (decimal t.number)) (digits_decimal t.number (omega (arith, h))) tt in
      let b = token_then (Mark Equals) _ _ tt tt a in
      token_then (Keyword (codes "term")) _ _ word_term refl (blank_then _ _ (token_then (Word t.name) _ _ (terminal_token d is i t e) refl b))

  writes_rule : (r : Rule) → IsRuleOf d r → Writes (rule_tokens (rule_in d r)) (rule_body d r)
  writes_rule r h =
      let a = blank_then _ _ (writes_cost r.cost r.range h.cost h.range) in
      let b = blank_then _ _ (template_then r.template _ _ h.template a) in
      let c = blank_then _ _ (pattern_then d is (pattern_of r.pattern) _ _ h.fits refl b) in
      token_then (Word (nonterminal_name d r.left)) _ _ (nonterminal_token d is r.left h.left) refl (token_then (Mark Colon) _ _ tt tt c)

-- ---- lines one behind another

-- from this section on the lines are written so
abbrev pub WrittenFrom : Section → List (List ℕ) → List MLine → Type 0
WrittenFrom section texts ws = (lines : List TokenLine) × AreLinesFrom section texts lines × AreWritten lines ws

line_then : (section : Section) (bytes : List ℕ) (texts : List (List ℕ)) (w : MLine) (ws : List MLine) → (section ≡ Tail → ⊥) → SpellsIn section (line_tokens w) bytes → MayStand section w → WrittenFrom (section_behind section (line_tokens w)) texts ws → WrittenFrom section (bytes ∷ texts) (w ∷ ws)
line_then Tail bytes texts w ws n s m r = absurd (n refl)
line_then section bytes texts w ws n s m r = (record { section = section; tokens = line_tokens w } ∷ r.0, (line_tokens w, r.0, s, refl, r.1), ((m, refl), r.2))

letter_percent : (b : ℕ) → in_class Letter b ≡ true → (b == 37) ≡ false
letter_percent b h = grind (arith, nat_tests)

-- what begins with a name begins with no border
no_border : (name rest : List ℕ) → StartsIn (in_class Letter) name → border_at (name ++ rest) ≡ None
no_border [] rest h = absurd h
no_border (b ∷ []) [] h = refl
no_border (b ∷ []) (c ∷ rest) h = rw (letter_percent b h) refl
no_border (b ∷ c ∷ name) rest h = rw (letter_percent b h) refl

module _ (d : MDescription) (is : IsDescription d) where
  rules_from : (rs : List Rule) → ((i : ℕ) (r : Rule) → slice_get rs i ≡ Some r → IsRuleOf d r) → WrittenFrom Rules (lines_of (rule_lines d rs)) (rules_written d rs)
  rules_from [] h = ([], refl, tt)
  rules_from (r ∷ rs) h =
      let k = h 0 r refl in
      let w = writes_rule d is r k in
      let ts = rule_tokens (rule_in d r) in
      let B : Option Border → Type 0 = λ o. spells_behind o ts (rule_body d r) in
      let n = no_border (nonterminal_name d r.left) (behind_left d r) (nonterminal_token d is r.left k.left).0 in
      let s = subst B (sym n) w.spells in
      let P : List (List ℕ) → Type 0 = λ ls. WrittenFrom Rules ls (rules_written d (r ∷ rs)) in
      let e = sym (line_break (rule_body d r) (rule_lines d rs) w.inline) ∙ ap lines_of (rule_parts d r (rule_lines d rs)) in
      subst P e (line_then Rules (rule_body d r) (lines_of (rule_lines d rs)) (Ruled (rule_in d r)) (rules_written d rs) (λ e. cc) s (may_cost r.cost r.range k.range) (rules_from rs (λ i x g. h (suc i) x g)))

  terminals_from : (ts : List Terminal) (rest : List ℕ) (ws : List MLine) → ((i : ℕ) (t : Terminal) → slice_get ts i ≡ Some t → Writes (line_tokens (Declared (Declares (terminal_in t ∷ [])))) (terminal_body t)) → WrittenFrom Declarations (lines_of rest) ws → WrittenFrom Declarations (lines_of (terminal_lines ts ++ rest)) (terminals_then ts ws)
  terminals_from [] rest ws h r = r
  terminals_from (t ∷ ts) rest ws h r =
      let w = h 0 t refl in
      let more = terminal_lines ts ++ rest in
      let P : List (List ℕ) → Type 0 = λ ls. WrittenFrom Declarations ls (terminals_then (t ∷ ts) ws) in
      let e = sym (line_break (terminal_body t) more w.inline) ∙ ap lines_of (terminal_parts t more ∙ sym (append_assoc (terminal_line t) (terminal_lines ts) rest)) in
      subst P e (line_then Declarations (terminal_body t) (lines_of more) (Declared (Declares (terminal_in t ∷ []))) (terminals_then ts ws) (λ e. cc) w.spells tt (terminals_from ts rest ws (λ i x g. h (suc i) x g) r))

  pub written_from : WrittenFrom Head (lines_of (printed d)) (written_in d)
  written_from =
      let rules = rules_from d.rules is.rules in
      let ws = Divides ∷ rules_written d d.rules in
      let rest = codes "%%\n" ++ rule_lines d d.rules in
      let behind : WrittenFrom Declarations (lines_of rest) ws = line_then Declarations (codes "%%") (lines_of (rule_lines d d.rules)) Divides (rules_written d d.rules) (λ e. cc) ([], refl, tt) tt rules in
      let limit = λ (i : ℕ) (t : Terminal) (e : slice_get d.terminals i ≡ Some t). is.number_limit i t.number (slice_get-map (λ (x : Terminal). x.number) d.terminals i ∙ ap (option_map (λ (x : Terminal). x.number)) e) in
      let terminals = terminals_from d.terminals rest ws (λ i t e. writes_terminal d is i t e (limit i t e)) behind in
      let more = terminal_lines d.terminals ++ rest in
      let w = writes_start d is in
      let P : List (List ℕ) → Type 0 = λ ls. WrittenFrom Head ls (written_in d) in
      let same : start_line d ++ more ≡ printed d = simp append_assoc in
      let e = sym (line_break (start_body d) more w.inline) ∙ ap lines_of (start_parts d more ∙ same) in
      subst P e (line_then Head (start_body d) (lines_of more) (Declared (Starts (nonterminal_name d d.start))) (terminals_then d.terminals ws) (λ e. cc) w.spells tt terminals)
