-- What is known when all lines of a text were read.
use Rattle.std.proofs.Common.{◌≡◌, ℕ, ◌⊎◌, max, List, [], ◌∷◌, length, map, Some, refl, sym, ap, subst, ◌∙◌, inl, inr}
use Rattle.std.specs.Prelude.{slice_get, option_map, option_to_list}
use Rattle.std.specs.Borrow.{Bor}
use Rattle.std.proofs.lemmas.List.{length-map}
use Rattle.lcc_text.specs.Lines.{lines_of}
use Rattle.lcc_text.specs.Names.{bytes_of}
use Rattle.lburg_lines.specs.declared.section.Section.TheVariants.{Head}
use Rattle.lburg_lines.specs.declared.rule_line.RuleLine.{RuleLine}
use Rattle.lburg_lines.specs.Grammar.{MRule, rule_of}
use Rattle.lburg_lines.specs.Sections.{TokenLine, AreLinesFrom}
use Rattle.lburg_faults.specs.declared.known.Known.{Known}
use Rattle.lburg_faults.specs.declared.known.StartSymbol.{StartSymbol}
use Rattle.lburg_faults.specs.declared.numbered_rules.NumberedRules.{NumberedRules}
use Rattle.lburg_faults.specs.declared.checked_text.CheckedText.{CheckedText}
use Rattle.lburg_faults.specs.declared.desc_fault.DescFault.{DescFault}
use Rattle.lburg_faults.specs.declared.desc_fault.DescFault.TheVariants as desc
use Rattle.lburg_faults.specs.Terminals.{Among, declared_in, names_of, numbers_of}
use Rattle.lburg_faults.specs.UnknownNonterminal.{IsUnruledStart}
use Rattle.lburg_faults.specs.Written.{rules_in}
use Rattle.lburg_faults.specs.FirstFault.{NoRule, InPatterns, AllRuled, AtStart, FirstFault}
use Rattle.lburg_faults.specs.CheckedText.{IsChecked}
use Rattle.lburg_faults.specs.Reads.{AreRead}
use Rattle.lburg_faults.specs.Ruling.{lefts_of, IsFirstUnnamed, AreAllNamed}
use Rattle.lburg_faults.proofs.TextNames.{SameNames}
use Rattle.lburg_faults.proofs.TextWritten.{as_many, same_terminals}
use Rattle.lburg_faults.proofs.TextRuled.{is_left, left_is, all_ruled, in_patterns, no_rule, some_rule}
use Rattle.lburg_faults.proofs.TextStart.{at_start, start_ruled, start_written}

-- each rule has its line's number
pub same_length : (lines : List TokenLine) (rules : NumberedRules) (known : Known) → AreRead lines rules known → length rules.numbers.items ≡ length rules.lines.items
same_length lines rules known a =
    let w = a.rules_of in
    ap length w.numbers_are ∙ as_many 1 w.written ∙ sym (ap length w.rules_are) ∙ length-map rules.lines.items rule_of

-- the left sides are those that are written
same_lefts : (lines : List TokenLine) (rules : NumberedRules) (known : Known) (lefts : List (List ℕ)) (items : List RuleLine) → (a : AreRead lines rules known) → items ≡ rules.lines.items → SameNames lefts (lefts_of (map rule_of items)) → SameNames lefts (lefts_of (rules_in a.rules_of.written))
same_lefts lines rules known lefts items a e s = let P : List MRule → Type 0 = λ rs. SameNames lefts (lefts_of rs) in subst P (ap (map rule_of) e ∙ a.rules_of.rules_are) s

-- a leaf without a rule is told at the line of its rule
pub read_pattern : (lines : List TokenLine) (rules : NumberedRules) (known : Known) (lefts : List (List ℕ)) (items others : List RuleLine) (i n : ℕ) → AreRead lines rules known → items ≡ rules.lines.items → SameNames lefts (lefts_of (map rule_of items)) → others ≡ rules.lines.items → IsFirstUnnamed (bytes_of known.terminals) lefts (map rule_of others) i → slice_get rules.numbers.items i ≡ Some n → InPatterns lines (desc.UnknownNonterminal n)
read_pattern lines rules known lefts items others i n a e s f u g =
    let w = a.rules_of in
    let P : List (List ℕ) → Type 0 = λ ts. IsFirstUnnamed ts lefts (map rule_of others) i in
    let Q : List MRule → Type 0 = λ rs. IsFirstUnnamed (names_of (declared_in lines)) lefts rs i in
    let R : List ℕ → Type 0 = λ ns. slice_get ns i ≡ Some n in
    in_patterns lines w.written lefts i n a.none w.are_written (same_lefts lines rules known lefts items a e s) (subst Q (ap (map rule_of) f ∙ w.rules_are) (subst P a.knows.names u)) (subst R w.numbers_are g)

pub read_ruled : (lines : List TokenLine) (rules : NumberedRules) (known : Known) (lefts : List (List ℕ)) (items others : List RuleLine) → AreRead lines rules known → items ≡ rules.lines.items → SameNames lefts (lefts_of (map rule_of items)) → others ≡ rules.lines.items → AreAllNamed (bytes_of known.terminals) lefts (map rule_of others) → AllRuled lines
read_ruled lines rules known lefts items others a e s f u =
    let w = a.rules_of in
    let P : List (List ℕ) → Type 0 = λ ts. AreAllNamed ts lefts (map rule_of others) in
    let Q : List MRule → Type 0 = λ rs. AreAllNamed (names_of (declared_in lines)) lefts rs in
    all_ruled lines w.written lefts a.none w.are_written (same_lefts lines rules known lefts items a e s) (subst Q (ap (map rule_of) f ∙ w.rules_are) (subst P a.knows.names u))

pub read_start : (lines : List TokenLine) (rules : NumberedRules) (known : Known) (lefts : List (List ℕ)) (items others : List RuleLine) (n : ℕ) (t : StartSymbol) → AreRead lines rules known → items ≡ rules.lines.items → SameNames lefts (lefts_of (map rule_of items)) → others ≡ rules.lines.items → AreAllNamed (bytes_of known.terminals) lefts (map rule_of others) → known.start ≡ Some t → t.line ≡ n → (Among t.name.now lefts → ⊥) → AtStart lines (desc.UnknownNonterminal n)
read_start lines rules known lefts items others n t a e s f u g h k =
    let w = a.rules_of in
    let l = same_lefts lines rules known lefts items a e s in
    at_start lines lefts t known.start n (read_ruled lines rules known lefts items others a e s f u) a.knows.start g (λ x m. l.all x (left_is lines w.written x w.are_written m)) k h

pub read_no_start : (lines : List TokenLine) (rules : NumberedRules) (known : Known) (lefts : List (List ℕ)) (items : List RuleLine) → AreRead lines rules known → items ≡ rules.lines.items → SameNames lefts (lefts_of (map rule_of items)) → ((t : StartSymbol) → known.start ≡ Some t → Among t.name.now lefts) → (i : ℕ) → IsUnruledStart lines i → ⊥
read_no_start lines rules known lefts items a e s f i u =
    let w = a.rules_of in
    let l = same_lefts lines rules known lefts items a e s in
    start_ruled lines lefts known.start a.none a.knows.start (λ x m. is_left lines w.written x w.are_written (l.only x m)) f i u

-- ---- the answers for a whole text

pub no_rule_fault : (text : List ℕ) (lines : List TokenLine) (rules : NumberedRules) (known : Known) (n : ℕ) → AreLinesFrom Head (lines_of text) lines → AreRead lines rules known → rules.lines.items ≡ [] → n ≡ max 1 (length (lines_of text)) → FirstFault text (desc.BadRule n)
no_rule_fault text lines rules known n p a e f =
    let w = a.rules_of in
    record { lines = lines; are = p; first = inr (inl (a.none, no_rule lines w.written w.are_written (sym w.rules_are ∙ ap (map rule_of) e), ap desc.BadRule f)) }

not_none : (items : List RuleLine) → map rule_of items ≡ [] → items ≡ []
not_none [] e = refl
not_none (r ∷ items) e = absurd cc

pub has_rule : (lines : List TokenLine) (rules : NumberedRules) (known : Known) → AreRead lines rules known → (rules.lines.items ≡ [] → ⊥) → NoRule lines → ⊥
has_rule lines rules known a h none =
    let w = a.rules_of in
    some_rule lines w.written w.are_written (λ e. h (not_none rules.lines.items (w.rules_are ∙ e))) none

pub unruled_fault : (text : List ℕ) (lines : List TokenLine) (rules : NumberedRules) (known : Known) (f : DescFault) → AreLinesFrom Head (lines_of text) lines → AreRead lines rules known → (rules.lines.items ≡ [] → ⊥) → InPatterns lines f ⊎ AtStart lines f → FirstFault text f
unruled_fault text lines rules known f p a h u =
    record { lines = lines; are = p; first = inr (inr (a.none, has_rule lines rules known a h, u)) }

pub is_checked : (text : List ℕ) (lines : List TokenLine) (rules : NumberedRules) (known : Known) (c : CheckedText) → AreLinesFrom Head (lines_of text) lines → AreRead lines rules known → (rules.lines.items ≡ [] → ⊥) → AllRuled lines × ((i : ℕ) → IsUnruledStart lines i → ⊥) → c.terminals ≡ known.terminals → c.numbers ≡ known.numbers → c.arities ≡ known.arities → option_map (λ (n : Bor (List ℕ)). n.now) c.start ≡ option_map (λ (s : StartSymbol). s.name.now) known.start → c.rules ≡ rules.lines → IsChecked c text
is_checked text lines rules known c p a h u e1 e2 e3 e4 e5 =
    let w = a.rules_of in
    let k = a.knows in
    let t = same_terminals lines w.written w.are_written in
    let n : bytes_of c.terminals ≡ bytes_of known.terminals = cc in
    let m : c.arities.items ≡ known.arities.items = cc in
    record {
      lines = lines;
      are = p;
      faultless = record { none = a.none; some_rule = has_rule lines rules known a h; patterns = u.0; start = u.1 };
      written = w.written;
      are_written = w.are_written;
      names = n ∙ k.names ∙ ap names_of t;
      numbers = (let f : c.numbers.keys ≡ known.numbers.keys = cc in f ∙ k.numbers ∙ ap numbers_of t);
      start = ap option_to_list e4 ∙ start_written lines w.written known.start a.none w.are_written k.start;
      rules = (let f : map rule_of c.rules.items ≡ map rule_of rules.lines.items = cc in f ∙ w.rules_are);
      known = ap length m ∙ k.noted ∙ ap length (sym n);
      arities = λ i j name g o. k.arities i j name (ap (λ (x : List (List ℕ)). slice_get x i) (sym n) ∙ g) (ap (λ x. slice_get x i) (sym m) ∙ o);
      noted = λ i j name g o. ap (λ x. slice_get x i) m ∙ k.used i j name (ap (λ (x : List (List ℕ)). slice_get x i) (sym n) ∙ g) o;
    }
