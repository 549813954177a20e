-- The terminals that lines declare, and those before a place of a line.
use Rattle.std.proofs.Common.{◌≡◌, ℕ, zero, suc, codes, List, [], ◌∷◌, ◌++◌, take, Some, refl, sym, ap, ◌∙◌, append_assoc}
use Rattle.std.specs.Prelude.{slice_get}
use Rattle.std.proofs.lemmas.List.{append-nil}
use Rattle.std.proofs.lemmas.Option.{none-some}
use Rattle.lburg_lines.specs.declared.section.Section.{Section}
use Rattle.lburg_lines.specs.declared.section.Section.TheVariants.{Head, Prologue, Declarations, Rules, Tail}
use Rattle.lburg_lines.specs.Tokens.{Tok, Word, Number, Keyword}
use Rattle.lburg_lines.specs.Grammar.{MLine, Blank, Divides, Opens, Closes, Declared, Ruled, MDeclaration, Starts, Declares, MNumbered, IsLine, MayStand, line_tokens, declaration_tokens, terminal_tokens}
use Rattle.lburg_lines.specs.Sections.{TokenLine}
use Rattle.lburg_faults.specs.Lines.{InDeclarations}
use Rattle.lburg_faults.specs.Terminals.{numbered, declared_by, declared_in, declared_before}
use Rattle.lburg_faults.specs.Written.{AreWritten, terminals_in}

-- ---- what lines declare is what is written

numbered_is : (ts : List MNumbered) → numbered (terminal_tokens ts) ≡ ts
numbered_is [] = refl
numbered_is (t ∷ ts) = ap (λ us. t ∷ us) (numbered_is ts)

declared_here : (s : Section) (d : MDeclaration) → MayStand s (Declared d) → declared_by s (declaration_tokens d) ≡ terminals_in (Declared d ∷ [])
declared_here Head (Starts n) m = refl
declared_here Head (Declares ts) m = numbered_is ts ∙ sym (append-nil ts)
declared_here Declarations (Starts n) m = refl
declared_here Declarations (Declares ts) m = numbered_is ts ∙ sym (append-nil ts)
declared_here Prologue d m = absurd m
declared_here Rules d m = absurd m
declared_here Tail d m = absurd m

declared_not : (s : Section) (w : MLine) → MayStand s w → ((d : MDeclaration) → w ≡ Declared d → ⊥) → declared_by s (line_tokens w) ≡ []
declared_not s (Declared d) m not_it = absurd (not_it d refl)
declared_not Head Blank m not_it = refl
declared_not Head Divides m not_it = refl
declared_not Head Opens m not_it = refl
declared_not Head Closes m not_it = refl
declared_not Head (Ruled r) m not_it = refl
declared_not Declarations Blank m not_it = refl
declared_not Declarations Divides m not_it = refl
declared_not Declarations Opens m not_it = refl
declared_not Declarations Closes m not_it = refl
declared_not Declarations (Ruled r) m not_it = refl
declared_not Prologue w m not_it = refl
declared_not Rules w m not_it = refl
declared_not Tail w m not_it = refl

terminals_more : (d : MDeclaration) (ws : List MLine) → terminals_in (Declared d ∷ ws) ≡ terminals_in (Declared d ∷ []) ++ terminals_in ws
terminals_more (Starts n) ws = refl
terminals_more (Declares ts) ws = ap (λ us. us ++ terminals_in ws) (sym (append-nil ts))

declared_line : (l : TokenLine) (w : MLine) (ls : List TokenLine) (ws : List MLine) → IsLine l.section l.tokens w → ((d : MDeclaration) → w ≡ Declared d → ⊥) → terminals_in (w ∷ ws) ≡ terminals_in ws → declared_in ls ≡ terminals_in ws → declared_in (l ∷ ls) ≡ terminals_in (w ∷ ws)
declared_line l w ls ws p not_it e f =
    ap (λ us. us ++ declared_in ls) (ap (declared_by l.section) p.1 ∙ declared_not l.section w p.0 not_it) ∙ f ∙ sym e

-- the terminals of the lines are those that are written
pub same_terminals : (ls : List TokenLine) (ws : List MLine) → AreWritten ls ws → declared_in ls ≡ terminals_in ws
same_terminals [] [] p = refl
same_terminals [] (w ∷ ws) p = absurd p
same_terminals (l ∷ ls) [] p = absurd p
same_terminals (l ∷ ls) (Declared d ∷ ws) p =
    ap (λ us. us ++ declared_in ls) (ap (declared_by l.section) p.0.1 ∙ declared_here l.section d p.0.0)
    ∙ ap (λ us. terminals_in (Declared d ∷ []) ++ us) (same_terminals ls ws p.1) ∙ sym (terminals_more d ws)
same_terminals (l ∷ ls) (Blank ∷ ws) p = declared_line l Blank ls ws p.0 (λ d e. cc) refl (same_terminals ls ws p.1)
same_terminals (l ∷ ls) (Divides ∷ ws) p = declared_line l Divides ls ws p.0 (λ d e. cc) refl (same_terminals ls ws p.1)
same_terminals (l ∷ ls) (Opens ∷ ws) p = declared_line l Opens ls ws p.0 (λ d e. cc) refl (same_terminals ls ws p.1)
same_terminals (l ∷ ls) (Closes ∷ ws) p = declared_line l Closes ls ws p.0 (λ d e. cc) refl (same_terminals ls ws p.1)
same_terminals (l ∷ ls) (Ruled r ∷ ws) p = declared_line l (Ruled r) ls ws p.0 (λ d e. cc) refl (same_terminals ls ws p.1)

-- ---- a terminal in its line

-- the terminal at this place of their tokens, and those before it
pub record DeclaredAt (ts : List MNumbered) (q : ℕ) : Type 0 where
  pub front : List MNumbered
  pub here : MNumbered
  pub back : List MNumbered
  pub parts : ts ≡ front ++ here ∷ back
  pub before : numbered (take q (terminal_tokens ts)) ≡ front

abbrev later : (t : MNumbered) (ts : List MNumbered) (q : ℕ) → DeclaredAt ts q → DeclaredAt (t ∷ ts) (suc (suc (suc q)))
later t ts q a = record { front = t ∷ a.front; here = a.here; back = a.back; parts = ap (λ us. t ∷ us) a.parts; before = ap (λ us. t ∷ us) a.before }

pub word_at : (ts : List MNumbered) (q : ℕ) (name : List ℕ) → slice_get (terminal_tokens ts) q ≡ Some (Word name) → (a : DeclaredAt ts q) × (a.here.0 ≡ name)
word_at [] q name g = absurd (none-some (Word name) g)
word_at (t ∷ ts) zero name g = (record { front = []; here = t; back = ts; parts = refl; before = refl }, cc)
word_at (t ∷ ts) (suc zero) name g = absurd cc
word_at (t ∷ ts) (suc (suc zero)) name g = absurd cc
word_at (t ∷ ts) (suc (suc (suc q))) name g = let a = word_at ts q name g in (later t ts q a.0, a.1)

pub number_at : (ts : List MNumbered) (q : ℕ) (digits : List ℕ) → slice_get (terminal_tokens ts) q ≡ Some (Number digits) → (a : DeclaredAt ts q) × (a.here.1 ≡ digits)
number_at [] q digits g = absurd (none-some (Number digits) g)
number_at (t ∷ ts) zero digits g = absurd cc
number_at (t ∷ ts) (suc zero) digits g = absurd cc
number_at (t ∷ ts) (suc (suc zero)) digits g = (record { front = []; here = t; back = ts; parts = refl; before = refl }, cc)
number_at (t ∷ ts) (suc (suc (suc q))) digits g = let a = number_at ts q digits g in (later t ts q a.0, a.1)

-- ---- in all lines

declared_append : (before ls : List TokenLine) → declared_in (before ++ ls) ≡ declared_in before ++ declared_in ls
declared_append [] ls = refl
declared_append (l ∷ before) ls =
    ap (λ us. declared_by l.section l.tokens ++ us) (declared_append before ls) ∙ sym (append_assoc (declared_by l.section l.tokens) (declared_in before) (declared_in ls))

by_term : (s : Section) (u : List Tok) → InDeclarations s → declared_by s (Keyword (codes "term") ∷ u) ≡ numbered u
by_term Head u d = refl
by_term Declarations u d = refl
by_term Prologue u d = absurd d
by_term Rules u d = absurd d
by_term Tail u d = absurd d

-- the terminals before one of a line, this one, and those behind it
pub record Split (lines before : List TokenLine) (l : TokenLine) (place : ℕ) (t : MNumbered) : Type 0 where
  pub back : List MNumbered
  pub parts : declared_in lines ≡ declared_before before l place ++ t ∷ back

pub split : (before behind : List TokenLine) (l : TokenLine) (q : ℕ) (ts : List MNumbered) → InDeclarations l.section → l.tokens ≡ Keyword (codes "term") ∷ terminal_tokens ts → (a : DeclaredAt ts q) → Split (before ++ l ∷ behind) before l (suc q) a.here
split before behind l q ts d e a =
    let here : declared_by l.section l.tokens ≡ a.front ++ a.here ∷ a.back = ap (declared_by l.section) e ∙ by_term l.section (terminal_tokens ts) d ∙ numbered_is ts ∙ a.parts in
    let front : declared_by l.section (take (suc q) l.tokens) ≡ a.front = ap (λ (us : List Tok). declared_by l.section (take (suc q) us)) e ∙ by_term l.section (take q (terminal_tokens ts)) d ∙ a.before in
    record {
      back = a.back ++ declared_in behind;
      parts =
          declared_append before (l ∷ behind)
          ∙ ap (λ (us : List MNumbered). declared_in before ++ (us ++ declared_in behind)) here
          ∙ ap (λ (us : List MNumbered). declared_in before ++ us) (append_assoc a.front (a.here ∷ a.back) (declared_in behind))
          ∙ sym (append_assoc (declared_in before) a.front (a.here ∷ (a.back ++ declared_in behind)))
          ∙ ap (λ (us : List MNumbered). (declared_in before ++ us) ++ (a.here ∷ (a.back ++ declared_in behind))) (sym front);
    }
