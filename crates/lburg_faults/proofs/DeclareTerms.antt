-- A line of terminals: what its rows say, and what it declares.
use Rattle.std.proofs.Common.{◌≡◌, ◌<◌, ◌≤◌, ◌⊎◌, inl, inr, ℕ, zero, suc, List, [], ◌∷◌, ◌++◌, take, Some, refl, sym, ap, ◌∙◌, subst, length, arith}
use Rattle.std.specs.Prelude.{slice_get, codes}
use Rattle.std.proofs.lemmas.Option.{none-some, same_Some}
use Rattle.std.proofs.lemmas.List.{map-append, length-map}
use Rattle.lcc_base.specs.declared.which.Which.TheVariants as which
use Rattle.lcc_text.specs.Decimal.{value_of}
use Rattle.lburg_lines.specs.declared.section.Section.{Section}
use Rattle.lburg_lines.specs.declared.section.Section.TheVariants.{Head, Prologue, Declarations, Rules, Tail}
use Rattle.lburg_lines.specs.Tokens.{Tok, Word, Number, Negative, Template, Keyword, Mark, Bound, Wrong}
use Rattle.lburg_lines.specs.Grammar.{MNumbered, AreLineOf, terminal_tokens}
use Rattle.lburg_lines.specs.Sections.{TokenLine}
use Rattle.lburg_faults.specs.declared.line_fault.LineFault.{LineFault}
use Rattle.lburg_faults.specs.declared.line_fault.LineFault.TheVariants as fault
use Rattle.lburg_faults.specs.declared.found.Found.{Found}
use Rattle.lburg_faults.specs.Lines.{InDeclarations}
use Rattle.lburg_faults.specs.Terminals.{Among, declared_by, declared_in, declared_before, names_of, numbers_of}
use Rattle.lburg_faults.specs.Mentions.{MentionsAt}
use Rattle.lburg_faults.specs.DoubleTerminal.{IsDoubleTerminal}
use Rattle.lburg_faults.specs.Setting.{Setting}
use Rattle.lburg_faults.specs.LineFaults.{row_of}
use Rattle.lburg_faults.specs.Grammatical.{IsBegun}
use Rattle.lburg_faults.specs.Scans.{DeclarationRows, IsFirstOf, NoneOf}
use Rattle.lburg_faults.specs.Declaring.{names_among, numbers_among, TokenFails, TokenFits, FitBefore, FailsFirst}
use Rattle.lburg_faults.proofs.RuleLists.{compare}
use Rattle.lburg_faults.proofs.DeclareFits.{Good, good_front}
use Rattle.lburg_faults.proofs.DeclareRows.{AllRows, all_rows, not_start, not_rules, line_terms, names_front, numbers_front}

-- ---- the tokens before the bound are those of a line of terminals

abbrev pub term_line : List MNumbered → List Tok
term_line xs = Keyword (codes "term") ∷ terminal_tokens xs

prefix_get : {A : Type 0} (xs more : List A) (bound q : ℕ) (x : A) → q < bound → slice_get xs q ≡ Some x → slice_get (take bound xs ++ more) q ≡ Some x
prefix_get [] more bound q x h e = absurd (none-some x e)
prefix_get (y ∷ xs) more zero q x h e = absurd (omega arith)
prefix_get (y ∷ xs) more (suc bound) zero x h e = e
prefix_get (y ∷ xs) more (suc bound) (suc q) x h e = prefix_get xs more bound q x (omega arith) e

prefix_take : {A : Type 0} (xs more : List A) (bound q : ℕ) (x : A) → q < bound → slice_get xs q ≡ Some x → take q (take bound xs ++ more) ≡ take q xs
prefix_take [] more bound q x h e = absurd (none-some x e)
prefix_take (y ∷ xs) more zero q x h e = absurd (omega arith)
prefix_take (y ∷ xs) more (suc bound) zero x h e = refl
prefix_take (y ∷ xs) more (suc bound) (suc q) x h e = ap (λ ys. y ∷ ys) (prefix_take xs more bound q x (omega arith) e)

begun_terms : (tokens rest more : List Tok) (bound : ℕ) (section : Section) → 0 < bound → tokens ≡ Keyword (codes "term") ∷ rest → AreLineOf section (take bound tokens ++ more) → (xs : List MNumbered) × (take bound tokens ++ more ≡ term_line xs)
begun_terms tokens rest more bound section h e (line, (stands, is)) =
    let c = one_off bound h in
    let f : take bound tokens ++ more ≡ Keyword (codes "term") ∷ (take c.0 rest ++ more) = ap (λ (ts : List Tok). take bound ts ++ more) e ∙ c.1 in
    let r = line_terms line (take c.0 rest ++ more) (sym is ∙ f) in
    (r.0, f ∙ ap (λ (ts : List Tok). Keyword (codes "term") ∷ ts) r.1) where
      one_off : (bound : ℕ) → 0 < bound → (n : ℕ) × (take bound (Keyword (codes "term") ∷ rest) ++ more ≡ Keyword (codes "term") ∷ (take n rest ++ more))
      one_off zero h = absurd (omega arith)
      one_off (suc n) h = (n, refl)

names_declared : (section : Section) (xs : List MNumbered) (q : ℕ) (name : List ℕ) → InDeclarations section → slice_get (term_line xs) q ≡ Some (Word name) → names_of (declared_by section (take q (term_line xs))) ≡ names_among (take q (term_line xs))
names_declared Head xs zero name d h = absurd (let e : Keyword (codes "term") ≡ Word name = same_Some (Keyword (codes "term")) (Word name) h in cc)
names_declared Head xs (suc q) name d h = names_front xs q name h
names_declared Declarations xs zero name d h = absurd (let e : Keyword (codes "term") ≡ Word name = same_Some (Keyword (codes "term")) (Word name) h in cc)
names_declared Declarations xs (suc q) name d h = names_front xs q name h
names_declared Prologue xs q name d h = absurd d
names_declared Rules xs q name d h = absurd d
names_declared Tail xs q name d h = absurd d

numbers_declared : (section : Section) (xs : List MNumbered) (q : ℕ) (digits : List ℕ) → InDeclarations section → slice_get (term_line xs) q ≡ Some (Number digits) → numbers_of (declared_by section (take q (term_line xs))) ≡ numbers_among (take q (term_line xs))
numbers_declared Head xs zero digits d h = absurd (let e : Keyword (codes "term") ≡ Number digits = same_Some (Keyword (codes "term")) (Number digits) h in cc)
numbers_declared Head xs (suc q) digits d h = numbers_front xs q digits h
numbers_declared Declarations xs zero digits d h = absurd (let e : Keyword (codes "term") ≡ Number digits = same_Some (Keyword (codes "term")) (Number digits) h in cc)
numbers_declared Declarations xs (suc q) digits d h = numbers_front xs q digits h
numbers_declared Prologue xs q digits d h = absurd d
numbers_declared Rules xs q digits d h = absurd d
numbers_declared Tail xs q digits d h = absurd d

-- what is known before the line, and that its tokens before the bound follow the grammar
pub record TermLine (s : Setting) (l : TokenLine) (names : List (List ℕ)) (numbers : List ℕ) (bound : ℕ) : Type 0 where
  pub rest : List Tok
  pub first : l.tokens ≡ Keyword (codes "term") ∷ rest
  pub declares : InDeclarations l.section
  pub begun : IsBegun l bound
  pub names_are : names ≡ names_of (declared_in s.before)
  pub numbers_are : numbers ≡ numbers_of (declared_in s.before)
  pub good : Good names numbers

pub names_before : (s : Setting) (l : TokenLine) (names : List (List ℕ)) (numbers : List ℕ) (bound q : ℕ) (name : List ℕ) → TermLine s l names numbers bound → q < bound → slice_get l.tokens q ≡ Some (Word name) → names_of (declared_before s.before l q) ≡ names ++ names_among (take q l.tokens)
names_before s l names numbers bound q name t h e =
    let b = begun_terms l.tokens t.rest t.begun.0 bound l.section (omega arith) t.first t.begun.1 in
    let same : take q (term_line b.0) ≡ take q l.tokens = ap (take q) (sym b.1) ∙ prefix_take l.tokens t.begun.0 bound q (Word name) h e in
    let get : slice_get (term_line b.0) q ≡ Some (Word name) = ap (λ (ts : List Tok). slice_get ts q) (sym b.1) ∙ prefix_get l.tokens t.begun.0 bound q (Word name) h e in
    let here : names_of (declared_by l.section (take q l.tokens)) ≡ names_among (take q l.tokens) = subst (λ (ts : List Tok). names_of (declared_by l.section ts) ≡ names_among ts) same (names_declared l.section b.0 q name t.declares get) in
    map-append (λ (x : MNumbered). x.0) (declared_in s.before) (declared_by l.section (take q l.tokens)) ∙ ap (λ (ns : List (List ℕ)). ns ++ names_of (declared_by l.section (take q l.tokens))) (sym t.names_are) ∙ ap (λ (ns : List (List ℕ)). names ++ ns) here

pub numbers_before : (s : Setting) (l : TokenLine) (names : List (List ℕ)) (numbers : List ℕ) (bound q : ℕ) (digits : List ℕ) → TermLine s l names numbers bound → q < bound → slice_get l.tokens q ≡ Some (Number digits) → numbers_of (declared_before s.before l q) ≡ numbers ++ numbers_among (take q l.tokens)
numbers_before s l names numbers bound q digits t h e =
    let b = begun_terms l.tokens t.rest t.begun.0 bound l.section (omega arith) t.first t.begun.1 in
    let same : take q (term_line b.0) ≡ take q l.tokens = ap (take q) (sym b.1) ∙ prefix_take l.tokens t.begun.0 bound q (Number digits) h e in
    let get : slice_get (term_line b.0) q ≡ Some (Number digits) = ap (λ (ts : List Tok). slice_get ts q) (sym b.1) ∙ prefix_get l.tokens t.begun.0 bound q (Number digits) h e in
    let here : numbers_of (declared_by l.section (take q l.tokens)) ≡ numbers_among (take q l.tokens) = subst (λ (ts : List Tok). numbers_of (declared_by l.section ts) ≡ numbers_among ts) same (numbers_declared l.section b.0 q digits t.declares get) in
    map-append (λ (x : MNumbered). value_of x.1) (declared_in s.before) (declared_by l.section (take q l.tokens)) ∙ ap (λ (ns : List ℕ). ns ++ numbers_of (declared_by l.section (take q l.tokens))) (sym t.numbers_are) ∙ ap (λ (ns : List ℕ). numbers ++ ns) here

-- ---- rows by tokens

-- as TokenFails, but for what goes before
abbrev pub TokenRow : List (List ℕ) → List ℕ → Tok → LineFault → Type 0
TokenRow names numbers (Word name) f = ((f ≡ fault.DoubleTerminal) × Among name names) ⊎ ((f ≡ fault.Limit which.Terminals) × (1023 ≤ length names))
TokenRow names numbers (Number digits) f = ((f ≡ fault.DoubleTerminal) × Among (value_of digits) numbers) ⊎ ((f ≡ fault.Limit which.Number) × (2147483647 < value_of digits))
TokenRow names numbers token f = ⊥

unfit : (names : List (List ℕ)) (numbers : List ℕ) (token : Tok) (f : LineFault) → TokenRow names numbers token f → TokenFits names numbers token → ⊥
unfit names numbers (Word n) f (inl h) fit = fit.0 h.1
unfit names numbers (Word n) f (inr h) fit = omega (arith, h.1, fit.1)
unfit names numbers (Number d) f (inl h) fit = fit.0 h.1
unfit names numbers (Number d) f (inr h) fit = omega (arith, h.1, fit.1)
unfit names numbers (Negative d) f h fit = h
unfit names numbers (Template b) f h fit = h
unfit names numbers (Keyword b) f h fit = h
unfit names numbers (Mark x) f h fit = h
unfit names numbers (Bound b) f h fit = h
unfit names numbers Wrong f h fit = h

in_order : (names : List (List ℕ)) (numbers : List ℕ) (token : Tok) (f g : LineFault) → Good names numbers → TokenFails names numbers token f → TokenRow names numbers token g → row_of f ≤ row_of g
in_order names numbers (Word n) f g good (inl h) (inl k) = rw (h.0, k.0) (omega arith)
in_order names numbers (Word n) f g good (inl h) (inr k) = rw (h.0, k.0) (omega arith)
in_order names numbers (Word n) f g good (inr h) (inl k) = absurd (h.1 k.1)
in_order names numbers (Word n) f g good (inr h) (inr k) = rw (h.0, k.0) (omega arith)
in_order names numbers (Number d) f g good (inl h) (inl k) = rw (h.0, k.0) (omega arith)
in_order names numbers (Number d) f g good (inl h) (inr k) = rw (h.0, k.0) (omega arith)
in_order names numbers (Number d) f g good (inr h) (inl k) = absurd (let few = good.small k.1.0 (value_of d) k.1.1 in omega (arith, few, h.1))
in_order names numbers (Number d) f g good (inr h) (inr k) = rw (h.0, k.0) (omega arith)
in_order names numbers (Negative d) f g good h k = absurd k
in_order names numbers (Template b) f g good h k = absurd k
in_order names numbers (Keyword b) f g good h k = absurd k
in_order names numbers (Mark x) f g good h k = absurd k
in_order names numbers (Bound b) f g good h k = absurd k
in_order names numbers Wrong f g good h k = absurd k

abbrev RowAt : List (List ℕ) → List ℕ → List Tok → ℕ → LineFault → Type 0
RowAt names numbers tokens q f = (token : Tok) × (slice_get tokens q ≡ Some token) × TokenRow (names ++ names_among (take q tokens)) (numbers ++ numbers_among (take q tokens)) token f

double_row : (s : Setting) (l : TokenLine) (names : List (List ℕ)) (numbers : List ℕ) (bound q : ℕ) (f : LineFault) → TermLine s l names numbers bound → q < bound → f ≡ fault.DoubleTerminal → IsDoubleTerminal s l q → RowAt names numbers l.tokens q f
double_row s l names numbers bound q f t h e (tokens, terms, inl n) = (Word n.0, n.1, inl (e, subst (Among n.0) (names_before s l names numbers bound q n.0 t h n.1) n.2))
double_row s l names numbers bound q f t h e (tokens, terms, inr n) = (Number n.0, n.1, inl (e, subst (Among (value_of n.0)) (numbers_before s l names numbers bound q n.0 t h n.1) n.2))

limit_length : (s : Setting) (l : TokenLine) (names : List (List ℕ)) (numbers : List ℕ) (bound q : ℕ) (name : List ℕ) → TermLine s l names numbers bound → q < bound → slice_get l.tokens q ≡ Some (Word name) → length (declared_before s.before l q) ≡ length (names ++ names_among (take q l.tokens))
limit_length s l names numbers bound q name t h e = sym (length-map (declared_before s.before l q) (λ (x : MNumbered). x.0)) ∙ ap (λ (ns : List (List ℕ)). length ns) (names_before s l names numbers bound q name t h e)

no_mention : (s : Setting) (l : TokenLine) (rest : List Tok) (q : ℕ) (name : List ℕ) → l.tokens ≡ Keyword (codes "term") ∷ rest → InDeclarations l.section → MentionsAt s.terminals l q name → ⊥
no_mention s l rest q name e d (inl h) = not_start l rest (Word name ∷ h.0) e h.1
no_mention s l rest q name e d (inr (inl h, k, new)) = not_rules l d h.0
no_mention s l rest q name e d (inr (inr h, k, new)) = not_rules l d h.0

row_at : (s : Setting) (l : TokenLine) (names : List (List ℕ)) (numbers : List ℕ) (bound q : ℕ) (f : LineFault) → TermLine s l names numbers bound → q < bound → AllRows s l q f → RowAt names numbers l.tokens q f
row_at s l names numbers bound q f t h (inl (e, inl k)) = absurd (not_start l t.rest k.0 t.first k.4)
row_at s l names numbers bound q f t h (inl (e, inr k)) = absurd (not_start l t.rest (Word k.0 ∷ k.1) t.first k.2)
row_at s l names numbers bound q f t h (inr (inl (e, k))) = double_row s l names numbers bound q f t h e k
row_at s l names numbers bound q f t h (inr (inr (inl (e, (tokens, name, terms, get, many))))) = (Word name, get, inr (e, rw (← limit_length s l names numbers bound q name t h get) many))
row_at s l names numbers bound q f t h (inr (inr (inr (inl (e, k))))) = absurd (no_mention s l t.rest q k.name t.first t.declares k.here)
row_at s l names numbers bound q f t h (inr (inr (inr (inr (e, (tokens, digits, terms, get, large)))))) = (Number digits, get, inr (e, large))

stands_at : (s : Setting) (l : TokenLine) (names : List (List ℕ)) (numbers : List ℕ) (bound q : ℕ) (f : LineFault) (token : Tok) → TermLine s l names numbers bound → q < bound → slice_get l.tokens q ≡ Some token → TokenFails (names ++ names_among (take q l.tokens)) (numbers ++ numbers_among (take q l.tokens)) token f → DeclarationRows f s l q
stands_at s l names numbers bound q f (Word n) t h e (inl k) = rw k.0 (t.rest, (t.declares, t.first), inl (n, e, subst (Among n) (sym (names_before s l names numbers bound q n t h e)) k.1))
stands_at s l names numbers bound q f (Word n) t h e (inr k) = rw k.0 (t.rest, n, (t.declares, t.first), e, rw (limit_length s l names numbers bound q n t h e) k.2)
stands_at s l names numbers bound q f (Number d) t h e (inl k) = rw k.0 (t.rest, (t.declares, t.first), inr (d, e, subst (Among (value_of d)) (sym (numbers_before s l names numbers bound q d t h e)) k.1))
stands_at s l names numbers bound q f (Number d) t h e (inr k) = rw k.0 (t.rest, d, (t.declares, t.first), e, k.1)
stands_at s l names numbers bound q f (Negative d) t h e k = absurd k
stands_at s l names numbers bound q f (Template b) t h e k = absurd k
stands_at s l names numbers bound q f (Keyword b) t h e k = absurd k
stands_at s l names numbers bound q f (Mark x) t h e k = absurd k
stands_at s l names numbers bound q f (Bound b) t h e k = absurd k
stands_at s l names numbers bound q f Wrong t h e k = absurd k

-- no row stands before a place before which each token fits
pub terms_none : (s : Setting) (l : TokenLine) (names : List (List ℕ)) (numbers : List ℕ) (bound p : ℕ) → TermLine s l names numbers bound → p ≤ bound → FitBefore names numbers l.tokens p → NoneOf DeclarationRows s l p
terms_none s l names numbers bound p t h fit f q k row =
    let r = row_at s l names numbers bound q f t (omega arith) (all_rows f s l q row) in
    unfit (names ++ names_among (take q l.tokens)) (numbers ++ numbers_among (take q l.tokens)) r.0 f r.2 (fit q r.0 k r.1)

pub terms_first : (s : Setting) (l : TokenLine) (names : List (List ℕ)) (numbers : List ℕ) (bound : ℕ) (found : Found) → TermLine s l names numbers bound → FailsFirst names numbers l.tokens bound found → IsFirstOf DeclarationRows s l bound found
terms_first s l names numbers bound found t first = record {
  within = first.within;
  stands = stands_at s l names numbers bound found.place found.fault first.stands.0 t first.within first.stands.1 first.stands.2;
  least = λ f q row. elim (compare found.place q) [
    | inl less ↦ inl less
    | inr (inl same) ↦ inr (same, same_place f (subst (λ (n : ℕ). DeclarationRows f s l n) (sym same) row))
    | inr (inr more) ↦ absurd (terms_none s l names numbers bound found.place t (omega (arith, first.within)) first.before f q more row)
  ];
} where
  same_place : (f : LineFault) → DeclarationRows f s l found.place → row_of found.fault ≤ row_of f
  same_place f row =
      let p = found.place in
      let r = row_at s l names numbers bound p f t first.within (all_rows f s l p row) in
      let same : r.0 ≡ first.stands.0 = same_Some r.0 first.stands.0 (sym r.1 ∙ first.stands.1) in
      in_order (names ++ names_among (take p l.tokens)) (numbers ++ numbers_among (take p l.tokens)) first.stands.0 found.fault f (good_front names numbers l.tokens p t.good first.before) first.stands.2 (subst (λ (token : Tok). TokenRow (names ++ names_among (take p l.tokens)) (numbers ++ numbers_among (take p l.tokens)) token f) same r.2)
