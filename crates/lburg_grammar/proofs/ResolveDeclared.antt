-- Terminals of a text without a fault: the token at which each is declared, and what the limits say.
use Rattle.std.proofs.Common.{◌≡◌, ◌≤◌, ◌<◌, ℕ, ◌+◌, zero, suc, List, [], ◌∷◌, ◌++◌, length, map, take, Option, Some, refl, sym, ap, ◌∙◌, subst, inl, inr, append_assoc, arith}
use Rattle.std.specs.Prelude.{slice_get, option_map, codes}
use Rattle.std.proofs.lemmas.Option.{none-some, same_Some, slice_get-map, slice_get_within}
use Rattle.std.proofs.lemmas.List.{length-map, length-take-le}
use Rattle.std.proofs.lemmas.Bool.{cases_lt}
use Rattle.lcc_base.specs.declared.which.Which.TheVariants as which
use Rattle.lcc_text.specs.Decimal.{value_of}
use Rattle.lburg_lines.specs.declared.section.Section.{Section}
use Rattle.lburg_lines.specs.declared.section.Section.TheVariants.{Head, Prologue, Declarations, Rules, Tail}
use Rattle.lburg_lines.specs.Tokens.{Tok, Word, Number, Keyword}
use Rattle.lburg_lines.specs.Grammar.{MLine, Blank, Divides, Opens, Closes, Declared, Ruled, MDeclaration, Starts, Declares, MNumbered, IsLine, terminal_tokens}
use Rattle.lburg_lines.specs.Sections.{TokenLine}
use Rattle.lburg_faults.specs.declared.line_fault.LineFault.TheVariants.{DoubleTerminal, Limit}
use Rattle.lburg_faults.specs.Lines.{InDeclarations, Terms}
use Rattle.lburg_faults.specs.Terminals.{Among, numbered, declared_by, declared_in, declared_before, names_of, numbers_of}
use Rattle.lburg_faults.specs.FirstFault.{NoneStands}
use Rattle.lburg_faults.specs.Written.{AreWritten}
use Rattle.lburg_model.specs.Description.{AreDistinct}
use Rattle.lburg_grammar.specs.DeclaredTerminals.{AreTerminals}
use Rattle.lburg_grammar.proofs.ResolveNames.{compare, take_get, take_front, take_short, some_at, front_or_back}
use Rattle.lburg_grammar.proofs.ResolveWritten.{none_at, among_declarations, numbered_is, declared_not}
use Rattle.lburg_grammar.proofs.ResolvePatternPlaces.{element_at}

-- ---- one line

-- the tokens of the terminal with this place
record TermAt (ts : List MNumbered) (k : ℕ) (t : MNumbered) : Type 0 where
  place : ℕ
  name : slice_get (terminal_tokens ts) place ≡ Some (Word t.0)
  number : slice_get (terminal_tokens ts) (suc (suc place)) ≡ Some (Number t.1)
  before : numbered (take place (terminal_tokens ts)) ≡ take k ts
  between : numbered (take (suc (suc place)) (terminal_tokens ts)) ≡ take k ts

term_at : (ts : List MNumbered) (k : ℕ) (t : MNumbered) → slice_get ts k ≡ Some t → TermAt ts k t
term_at [] k t e = absurd (none-some t e)
term_at (x ∷ ts) zero t e =
    let f : x ≡ t = same_Some x t e in
    record { place = zero; name = ap (λ (y : MNumbered). Some (Word y.0)) f; number = ap (λ (y : MNumbered). Some (Number y.1)) f; before = refl; between = refl }
term_at (x ∷ ts) (suc k) t e =
    let m = term_at ts k t e in
    record { place = suc (suc (suc m.place)); name = m.name; number = m.number; before = ap (λ (ys : List MNumbered). x ∷ ys) m.before; between = ap (λ (ys : List MNumbered). x ∷ ys) m.between }

declared_there : (s : Section) (ts : List Tok) → InDeclarations s → declared_by s (Keyword (codes "term") ∷ ts) ≡ numbered ts
declared_there Head ts h = refl
declared_there Declarations ts h = refl
declared_there Prologue ts h = absurd h
declared_there Rules ts h = absurd h
declared_there Tail ts h = absurd h

-- ---- all lines

-- where the terminal with this place is declared
pub record DeclaredAt (lines : List TokenLine) (k : ℕ) (t : MNumbered) : Type 0 where
  pub index : ℕ
  pub line : TokenLine
  pub there : slice_get lines index ≡ Some line
  pub tokens : List Tok
  pub terms : Terms line tokens
  pub place : ℕ
  pub name : slice_get line.tokens place ≡ Some (Word t.0)
  pub number : slice_get line.tokens (suc (suc place)) ≡ Some (Number t.1)
  pub before : declared_before (take index lines) line place ≡ take k (declared_in lines)
  pub between : declared_before (take index lines) line (suc (suc place)) ≡ take k (declared_in lines)

declared_first : (l : TokenLine) (ls : List TokenLine) (ts : List MNumbered) (k : ℕ) (t : MNumbered) → IsLine l.section l.tokens (Declared (Declares ts)) → slice_get ts k ≡ Some t → DeclaredAt (l ∷ ls) k t
declared_first l ls ts k t p e =
    let d = among_declarations l.section (Declares ts) p.0 in
    let m = term_at ts k t e in
    let w = slice_get_within ts k t e in
    let all : declared_by l.section l.tokens ≡ ts = ap (declared_by l.section) p.1 ∙ declared_there l.section (terminal_tokens ts) d ∙ numbered_is ts in
    let front : take k (declared_in (l ∷ ls)) ≡ take k ts = ap (λ (ys : List MNumbered). take k (ys ++ declared_in ls)) all ∙ take_short ts (declared_in ls) k (omega arith) in
    let at : (q : ℕ) → declared_by l.section (take (suc q) l.tokens) ≡ numbered (take q (terminal_tokens ts)) = λ q. ap (λ (ys : List Tok). declared_by l.section (take (suc q) ys)) p.1 ∙ declared_there l.section (take q (terminal_tokens ts)) d in
    record {
      index = zero;
      line = l;
      there = refl;
      tokens = terminal_tokens ts;
      terms = (d, p.1);
      place = suc m.place;
      name = ap (λ (ys : List Tok). slice_get ys (suc m.place)) p.1 ∙ m.name;
      number = ap (λ (ys : List Tok). slice_get ys (suc (suc (suc m.place)))) p.1 ∙ m.number;
      before = at m.place ∙ m.before ∙ sym front;
      between = at (suc (suc m.place)) ∙ m.between ∙ sym front;
    }

declared_later : (l : TokenLine) (ls : List TokenLine) (j k : ℕ) (t : MNumbered) → k ≡ length (declared_by l.section l.tokens) + j → DeclaredAt ls j t → DeclaredAt (l ∷ ls) k t
declared_later l ls j k t e a =
    let front = declared_by l.section l.tokens in
    let more : front ++ take j (declared_in ls) ≡ take k (front ++ declared_in ls) = sym (take_front front (declared_in ls) j) ∙ ap (λ (n : ℕ). take n (front ++ declared_in ls)) (sym e) in
    record {
      index = suc a.index;
      line = a.line;
      there = a.there;
      tokens = a.tokens;
      terms = a.terms;
      place = a.place;
      name = a.name;
      number = a.number;
      before = append_assoc front (declared_in (take a.index ls)) (declared_by a.line.section (take a.place a.line.tokens)) ∙ ap (λ (ys : List MNumbered). front ++ ys) a.before ∙ more;
      between = append_assoc front (declared_in (take a.index ls)) (declared_by a.line.section (take (suc (suc a.place)) a.line.tokens)) ∙ ap (λ (ys : List MNumbered). front ++ ys) a.between ∙ more;
    }

declares_nothing : (l : TokenLine) (w : MLine) (k : ℕ) (t : MNumbered) → IsLine l.section l.tokens w → ((d : MDeclaration) → w ≡ Declared d → ⊥) → slice_get (declared_by l.section l.tokens) k ≡ Some t → ⊥
declares_nothing l w k t p not_it e = none-some t (sym (ap (λ (ys : List MNumbered). slice_get ys k) (ap (declared_by l.section) p.1 ∙ declared_not l.section w p.0 not_it)) ∙ e)

starts_nothing : (s : Section) (n : List ℕ) → InDeclarations s → declared_by s (Keyword (codes "start") ∷ (Word n ∷ [])) ≡ []
starts_nothing Head n h = refl
starts_nothing Declarations n h = refl
starts_nothing Prologue n h = absurd h
starts_nothing Rules n h = absurd h
starts_nothing Tail n h = absurd h

declared_front : (l : TokenLine) (ls : List TokenLine) (w : MLine) (k : ℕ) (t : MNumbered) → IsLine l.section l.tokens w → slice_get (declared_by l.section l.tokens) k ≡ Some t → DeclaredAt (l ∷ ls) k t
declared_front l ls Blank k t p e = absurd (declares_nothing l Blank k t p (λ d f. cc) e)
declared_front l ls Divides k t p e = absurd (declares_nothing l Divides k t p (λ d f. cc) e)
declared_front l ls Opens k t p e = absurd (declares_nothing l Opens k t p (λ d f. cc) e)
declared_front l ls Closes k t p e = absurd (declares_nothing l Closes k t p (λ d f. cc) e)
declared_front l ls (Ruled r) k t p e = absurd (declares_nothing l (Ruled r) k t p (λ d f. cc) e)
declared_front l ls (Declared (Starts n)) k t p e =
    let h : declared_by l.section l.tokens ≡ [] = ap (declared_by l.section) p.1 ∙ starts_nothing l.section n (among_declarations l.section (Starts n) p.0) in
    absurd (none-some t (sym (ap (λ (ys : List MNumbered). slice_get ys k) h) ∙ e))
declared_front l ls (Declared (Declares ts)) k t p e =
    let h : declared_by l.section l.tokens ≡ ts = ap (declared_by l.section) p.1 ∙ declared_there l.section (terminal_tokens ts) (among_declarations l.section (Declares ts) p.0) ∙ numbered_is ts in
    declared_first l ls ts k t p (sym (ap (λ (ys : List MNumbered). slice_get ys k) h) ∙ e)

pub declared_at : (ls : List TokenLine) (ws : List MLine) (k : ℕ) (t : MNumbered) → AreWritten ls ws → slice_get (declared_in ls) k ≡ Some t → DeclaredAt ls k t
declared_at [] ws k t p e = absurd (none-some t e)
declared_at (l ∷ ls) [] k t p e = absurd p
declared_at (l ∷ ls) (w ∷ ws) k t p e = elim (front_or_back (declared_by l.section l.tokens) (declared_in ls) k t e) [
  | inl f ↦ declared_front l ls w k t p.0 f.1
  | inr f ↦ declared_later l ls f.0 k t f.1 (declared_at ls ws f.0 t p.1 f.2)
]

-- ---- what no fault says

-- values that are found at none before them stand once
distinct_by : {A : Type 0} (f : MNumbered → A) (ts : List MNumbered) → ((j : ℕ) (t : MNumbered) → slice_get ts j ≡ Some t → Among (f t) (map f (take j ts)) → ⊥) → AreDistinct (map f ts)
distinct_by {A} f ts h = λ i j x e g. elim (compare i j) [
  | inl l ↦ absurd (clash i j x e g l)
  | inr l ↦ elim l [
    | inl s ↦ s
    | inr l ↦ absurd (clash j i x g e l)
  ]
] where
  clash : (i j : ℕ) (x : A) → slice_get (map f ts) i ≡ Some x → slice_get (map f ts) j ≡ Some x → i < j → ⊥
  clash i j x e g l =
      let t = element_at f ts j x g in
      let u = element_at f ts i x e in
      let at : slice_get (take j ts) i ≡ Some u.0 = take_get ts i j l ∙ u.1 in
      h j t.0 t.1 (i, slice_get-map f (take j ts) i ∙ ap (λ (o : Option MNumbered). option_map f o) at ∙ ap (λ (y : A). Some y) (u.2 ∙ sym t.2))

module _ (lines : List TokenLine) (ws : List MLine) (none : NoneStands lines) (written : AreWritten lines ws) where
  names_once : AreDistinct (names_of (declared_in lines))
  names_once = distinct_by (λ t. t.0) (declared_in lines) (λ j t e a. (
      let d = declared_at lines ws j t written e in
      let P : List MNumbered → Type 0 = λ ys. Among t.0 (names_of ys) in
      none_at lines none d.index d.line d.place DoubleTerminal d.there (d.tokens, d.terms, inl (t.0, d.name, subst P (sym d.before) a))))

  numbers_once : AreDistinct (numbers_of (declared_in lines))
  numbers_once = distinct_by (λ t. value_of t.1) (declared_in lines) (λ j t e a. (
      let d = declared_at lines ws j t written e in
      let P : List MNumbered → Type 0 = λ ys. Among (value_of t.1) (numbers_of ys) in
      none_at lines none d.index d.line (suc (suc d.place)) DoubleTerminal d.there (d.tokens, d.terms, inr (t.1, d.number, subst P (sym d.between) a))))

  few_names : length (declared_in lines) ≤ 1023
  few_names = elim (cases_lt 1023 (length (declared_in lines))) [
    | inl l ↦
        let t = some_at (declared_in lines) 1023 l in
        let d = declared_at lines ws 1023 t.0 written t.1 in
        let n : length (take 1023 (declared_in lines)) ≡ 1023 = length-take-le 1023 (declared_in lines) (omega arith) in
        let m = ap length d.before in
        absurd (none_at lines none d.index d.line d.place (Limit which.Terminals) d.there (d.tokens, t.0.0, d.terms, d.name, omega arith))
    | inr l ↦ l
  ]

  small_numbers : (i n : ℕ) → slice_get (numbers_of (declared_in lines)) i ≡ Some n → n ≤ 2147483647
  small_numbers i n e =
      let t = element_at (λ (x : MNumbered). value_of x.1) (declared_in lines) i n e in
      let d = declared_at lines ws i t.0 written t.1 in
      elim (cases_lt 2147483647 n) [
        | inl l ↦
            let P : ℕ → Type 0 = λ m. 2147483647 < m in
            absurd (none_at lines none d.index d.line (suc (suc d.place)) (Limit which.Number) d.there (d.tokens, t.0.1, d.terms, d.number, subst P (sym t.2) l))
        | inr l ↦ l
      ]

  pub are_terminals : AreTerminals (names_of (declared_in lines)) (numbers_of (declared_in lines))
  are_terminals = record {
    few = (let l = few_names in let e = length-map (declared_in lines) (λ (t : MNumbered). t.0) in omega arith);
    names_once = names_once;
    numbers_once = numbers_once;
    small = small_numbers;
  }
