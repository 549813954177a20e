-- The faults of lines of declarations stand in no description's text.
use Rattle.std.proofs.Common.{◌≡◌, ℕ, zero, suc, codes, List, ◌∷◌, ◌++◌, length, Some, sym, ap, subst, ◌∙◌, inl, inr, arith}
use Rattle.std.specs.Prelude.{slice_get}
use Rattle.std.proofs.lemmas.List.{map-append}
use Rattle.std.proofs.lemmas.Option.{slice_get_within}
use Rattle.lcc_text.specs.Decimal.{value_of}
use Rattle.lcc_text.proofs.lemmas.Stopping.{stops_not}
use Rattle.lburg_lines.specs.Tokens.{Tok, Word, Number, Keyword}
use Rattle.lburg_lines.specs.Grammar.{MLine, MNumbered, AreLineOf, terminal_tokens}
use Rattle.lburg_lines.specs.Sections.{TokenLine}
use Rattle.lburg_faults.specs.Lines.{Terms}
use Rattle.lburg_faults.specs.Terminals.{declared_before, declared_in, names_of, numbers_of}
use Rattle.lburg_faults.specs.Breaks.{Breaks}
use Rattle.lburg_faults.specs.BadToken.{IsBadToken}
use Rattle.lburg_faults.specs.BadRule.{IsSecondStart, IsTerminalStart}
use Rattle.lburg_faults.specs.DoubleTerminal.{IsDoubleTerminal, IsDoubleName, IsDoubleNumber}
use Rattle.lburg_faults.specs.Limits.{AreDistinct, IsTerminalLimit, IsNumberLimit}
use Rattle.lburg_faults.specs.FirstFault.{setting_of}
use Rattle.lburg_faults.specs.Written.{starts_in}
use Rattle.lburg_model.specs.Description.{MDescription}
use Rattle.lburg_grammar.proofs.FaultLists.{at_front, at_middle, long_enough, not_in_front}
use Rattle.lburg_grammar.proofs.FaultLines.{written_at, start_by_tokens, terms_by_tokens, two_starts}
use Rattle.lburg_grammar.proofs.FaultTerminals.{Split, split, word_at, number_at}
use Rattle.lburg_grammar.proofs.FaultMeans.{names_are, numbers_are, as_many, one_start}
use Rattle.lburg_grammar.proofs.FaultTokens.{no_foreign}
use Rattle.lburg_grammar.proofs.FaultTold.{Told, not_both, start_named}

-- ---- lines of any kind

pub no_bad_token : (d : MDescription) (lines : List TokenLine) (t : Told d lines) (i : ℕ) (l : TokenLine) (place : ℕ) → slice_get lines i ≡ Some l → IsBadToken l place → ⊥
no_bad_token d lines t i l place g b =
    let w = written_at lines t.written i l t.are_written g in
    let P : List Tok → Type 0 = λ ts. slice_get ts place ≡ Some b.0 in
    no_foreign w.0 place b.0 (subst P w.2.1 b.1) b.2

pub no_break : (d : MDescription) (lines : List TokenLine) (t : Told d lines) (i : ℕ) (l : TokenLine) (place : ℕ) → slice_get lines i ≡ Some l → Breaks l place → ⊥
no_break d lines t i l place g b =
    let w = written_at lines t.written i l t.are_written g in
    stops_not (AreLineOf l.section) l.tokens b.0 b.1 (w.0, w.2)

pub line_here : (lines before behind : List TokenLine) (l : TokenLine) → lines ≡ before ++ l ∷ behind → slice_get lines (length before) ≡ Some l
line_here lines before behind l e = ap (λ (ls : List TokenLine). slice_get ls (length before)) e ∙ at_middle before behind l

-- ---- start symbols

pub no_second_start : (d : MDescription) (lines : List TokenLine) (t : Told d lines) (before behind : List TokenLine) (l : TokenLine) (place : ℕ) → lines ≡ before ++ l ∷ behind → IsSecondStart (setting_of lines before) l place → ⊥
no_second_start d lines t before behind l place e b =
    let x = written_at lines t.written b.2 b.3 t.are_written (ap (λ (ls : List TokenLine). slice_get ls b.2) e ∙ at_front before (l ∷ behind) b.2 b.3 b.5) in
    let y = written_at lines t.written (length before) l t.are_written (line_here lines before behind l e) in
    let u = start_by_tokens b.3 x.0 b.1 x.2 b.6 in
    let v = start_by_tokens l y.0 b.0 y.2 b.4 in
    let some : MLine → _ = λ (w : MLine). Some w in
    one_start d (starts_in t.written) t.means.start (two_starts t.written b.2 (length before) u.0 v.0 (slice_get_within before b.2 b.3 b.5) (x.1 ∙ ap some u.1) (y.1 ∙ ap some v.1))

pub no_terminal_start : (d : MDescription) (lines : List TokenLine) (t : Told d lines) (before : List TokenLine) (i : ℕ) (l : TokenLine) (place : ℕ) → slice_get lines i ≡ Some l → IsTerminalStart (setting_of lines before) l place → ⊥
no_terminal_start d lines t before i l place g b = not_both d lines t b.0 b.3 (start_named d lines t i l b.0 b.1 g b.2)

-- ---- terminals

-- the terminal at a place of a line, behind all that are declared before it
record NameSplit (lines before : List TokenLine) (l : TokenLine) (place : ℕ) (name : List ℕ) : Type 0 where
  pub terminal : MNumbered
  pub apart : Split lines before l place terminal
  pub is : terminal.0 ≡ name

record NumberSplit (lines before : List TokenLine) (l : TokenLine) (place : ℕ) (digits : List ℕ) : Type 0 where
  pub terminal : MNumbered
  pub apart : Split lines before l place terminal
  pub is : terminal.1 ≡ digits

in_lines : (lines before behind : List TokenLine) (l : TokenLine) (place : ℕ) (x : MNumbered) → lines ≡ before ++ l ∷ behind → Split (before ++ l ∷ behind) before l place x → Split lines before l place x
in_lines lines before behind l place x e s = let P : List TokenLine → Type 0 = λ ls. Split ls before l place x in subst P (sym e) s

split_name : (d : MDescription) (lines : List TokenLine) (t : Told d lines) (before behind : List TokenLine) (l : TokenLine) (place : ℕ) (name : List ℕ) (ts : List Tok) → lines ≡ before ++ l ∷ behind → Terms l ts → slice_get l.tokens place ≡ Some (Word name) → NameSplit lines before l place name
split_name d lines t before behind l zero name ts e h g =
    let P : List Tok → Type 0 = λ us. slice_get us zero ≡ Some (Word name) in
    let f = subst P h.1 g in
    absurd cc
split_name d lines t before behind l (suc q) name ts e h g =
    let w = written_at lines t.written (length before) l t.are_written (line_here lines before behind l e) in
    let x = terms_by_tokens l w.0 ts w.2 h in
    let f : l.tokens ≡ Keyword (codes "term") ∷ terminal_tokens x.0 = h.1 ∙ ap (λ (us : List Tok). Keyword (codes "term") ∷ us) x.2 in
    let P : List Tok → Type 0 = λ us. slice_get us (suc q) ≡ Some (Word name) in
    let a = word_at x.0 q name (subst P f g) in
    record { terminal = a.0.here; apart = in_lines lines before behind l (suc q) a.0.here e (split before behind l q x.0 h.0 f a.0); is = a.1 }

split_number : (d : MDescription) (lines : List TokenLine) (t : Told d lines) (before behind : List TokenLine) (l : TokenLine) (place : ℕ) (digits : List ℕ) (ts : List Tok) → lines ≡ before ++ l ∷ behind → Terms l ts → slice_get l.tokens place ≡ Some (Number digits) → NumberSplit lines before l place digits
split_number d lines t before behind l zero digits ts e h g =
    let P : List Tok → Type 0 = λ us. slice_get us zero ≡ Some (Number digits) in
    let f = subst P h.1 g in
    absurd cc
split_number d lines t before behind l (suc q) digits ts e h g =
    let w = written_at lines t.written (length before) l t.are_written (line_here lines before behind l e) in
    let x = terms_by_tokens l w.0 ts w.2 h in
    let f : l.tokens ≡ Keyword (codes "term") ∷ terminal_tokens x.0 = h.1 ∙ ap (λ (us : List Tok). Keyword (codes "term") ∷ us) x.2 in
    let P : List Tok → Type 0 = λ us. slice_get us (suc q) ≡ Some (Number digits) in
    let a = number_at x.0 q digits (subst P f g) in
    record { terminal = a.0.here; apart = in_lines lines before behind l (suc q) a.0.here e (split before behind l q x.0 h.0 f a.0); is = a.1 }

names_split : (lines before : List TokenLine) (l : TokenLine) (place : ℕ) (name : List ℕ) (s : NameSplit lines before l place name) → names_of (declared_in lines) ≡ names_of (declared_before before l place) ++ name ∷ names_of s.apart.back
names_split lines before l place name s =
    ap names_of s.apart.parts
    ∙ map-append (λ (x : MNumbered). x.0) (declared_before before l place) (s.terminal ∷ s.apart.back)
    ∙ ap (λ (n : List ℕ). names_of (declared_before before l place) ++ n ∷ names_of s.apart.back) s.is

numbers_split : (lines before : List TokenLine) (l : TokenLine) (place : ℕ) (digits : List ℕ) (s : NumberSplit lines before l place digits) → numbers_of (declared_in lines) ≡ numbers_of (declared_before before l place) ++ value_of digits ∷ numbers_of s.apart.back
numbers_split lines before l place digits s =
    ap numbers_of s.apart.parts
    ∙ map-append (λ (x : MNumbered). value_of x.1) (declared_before before l place) (s.terminal ∷ s.apart.back)
    ∙ ap (λ (n : List ℕ). numbers_of (declared_before before l place) ++ value_of n ∷ numbers_of s.apart.back) s.is

no_double_name : (d : MDescription) (lines : List TokenLine) (t : Told d lines) (before behind : List TokenLine) (l : TokenLine) (place : ℕ) (ts : List Tok) → lines ≡ before ++ l ∷ behind → Terms l ts → IsDoubleName (setting_of lines before) l place → ⊥
no_double_name d lines t before behind l place ts e h b =
    let s = split_name d lines t before behind l place b.0 ts e h b.1 in
    let P : List (List ℕ) → Type 0 = λ ns. AreDistinct ns in
    let once = subst P (names_are d lines t.written t.are_written t.means ∙ names_split lines before l place b.0 s) t.means.is.names in
    not_in_front (names_of (declared_before before l place)) (names_of s.apart.back) b.0 once b.2

no_double_number : (d : MDescription) (lines : List TokenLine) (t : Told d lines) (before behind : List TokenLine) (l : TokenLine) (place : ℕ) (ts : List Tok) → lines ≡ before ++ l ∷ behind → Terms l ts → IsDoubleNumber (setting_of lines before) l place → ⊥
no_double_number d lines t before behind l place ts e h b =
    let s = split_number d lines t before behind l place b.0 ts e h b.1 in
    let P : List ℕ → Type 0 = λ ns. AreDistinct ns in
    let once = subst P (numbers_are d lines t.written t.are_written t.means ∙ numbers_split lines before l place b.0 s) t.means.is.numbers in
    not_in_front (numbers_of (declared_before before l place)) (numbers_of s.apart.back) (value_of b.0) once b.2

pub no_double : (d : MDescription) (lines : List TokenLine) (t : Told d lines) (before behind : List TokenLine) (l : TokenLine) (place : ℕ) → lines ≡ before ++ l ∷ behind → IsDoubleTerminal (setting_of lines before) l place → ⊥
no_double d lines t before behind l place e b = elim b.2 [
  | inl n ↦ no_double_name d lines t before behind l place b.0 e b.1 n
  | inr n ↦ no_double_number d lines t before behind l place b.0 e b.1 n
]

pub few_terminals : (d : MDescription) (lines : List TokenLine) (t : Told d lines) (before behind : List TokenLine) (l : TokenLine) (place : ℕ) → lines ≡ before ++ l ∷ behind → IsTerminalLimit (setting_of lines before) l place → ⊥
few_terminals d lines t before behind l place e b =
    let s = split_name d lines t before behind l place b.1 b.0 e b.2 b.3 in
    let n = long_enough (declared_before before l place) s.apart.back s.terminal in
    let m = ap length s.apart.parts in
    let k = as_many d lines t.written t.are_written t.means in
    let most = t.means.is.terminals in
    let least = b.4 in
    omega arith

pub small_number : (d : MDescription) (lines : List TokenLine) (t : Told d lines) (before behind : List TokenLine) (l : TokenLine) (place : ℕ) → lines ≡ before ++ l ∷ behind → IsNumberLimit l place → ⊥
small_number d lines t before behind l place e b =
    let s = split_number d lines t before behind l place b.1 b.0 e b.2 b.3 in
    let front = numbers_of (declared_before before l place) in
    let same = numbers_are d lines t.written t.are_written t.means ∙ numbers_split lines before l place b.1 s in
    let most = t.means.is.number_limit (length front) (value_of b.1) (ap (λ (ns : List ℕ). slice_get ns (length front)) same ∙ at_middle front (numbers_of s.apart.back) (value_of b.1)) in
    let least = b.4 in
    omega arith
