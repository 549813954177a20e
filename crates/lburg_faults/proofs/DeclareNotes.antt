-- What is told of a line of declarations, and what is known behind it, for any line of these tokens.
use Rattle.std.proofs.Common.{◌≡◌, ◌≢◌, ◌<◌, ◌≤◌, inl, inr, ℕ, zero, suc, true, false, List, [], ◌∷◌, ◌++◌, take, Option, Some, None, refl, sym, ap, ◌∙◌, subst, length, true≢false, arith}
use Rattle.std.specs.Prelude.{slice_get, codes}
use Rattle.std.specs.Option.{is_some, IfSome, IfNone}
use Rattle.std.specs.Result.{IfOk}
use Rattle.std.specs.declared.result.Result.{Result}
use Rattle.std.specs.declared.result.Result.TheVariants.{Ok, Err}
use Rattle.std.proofs.lemmas.Option.{none-some, same_Some}
use Rattle.lcc_base.specs.declared.which.Which.TheVariants as which
use Rattle.lcc_text.specs.Names.{bytes_of}
use Rattle.lcc_text.specs.Stops.{next}
use Rattle.lburg_lines.specs.Tokens.{Tok, Word, Keyword}
use Rattle.lburg_lines.specs.Grammar.{MNumbered, terminal_tokens}
use Rattle.lburg_lines.specs.Sections.{TokenLine}
use Rattle.lburg_lines.specs.declared.section.Section.{Section}
use Rattle.lburg_lines.specs.declared.section.Section.TheVariants.{Head, Prologue, Declarations, Rules, Tail}
use Rattle.lburg_faults.specs.declared.known.Known.{Known}
use Rattle.lburg_faults.specs.declared.found.Found.{Found}
use Rattle.lburg_faults.specs.declared.line_fault.LineFault.{LineFault}
use Rattle.lburg_faults.specs.declared.line_fault.LineFault.TheVariants as fault
use Rattle.lburg_faults.specs.Lines.{InDeclarations, StartLine, Terms}
use Rattle.lburg_faults.specs.Terminals.{Among, declared_by, names_of, numbers_of}
use Rattle.lburg_faults.specs.Telling.{TextDeclares}
use Rattle.lburg_faults.specs.Grammatical.{IsBegun}
use Rattle.lburg_faults.specs.Setting.{Setting}
use Rattle.lburg_faults.specs.Knowing.{Knows}
use Rattle.lburg_faults.specs.Declaring.{names_among, numbers_among, FitBefore, FailsFirst, Adds, ScansLine, NotesWhole}
use Rattle.lburg_faults.proofs.DeclareText.{line_declares_none}
use Rattle.lburg_faults.proofs.DeclareLists.{adds_none}
use Rattle.lburg_faults.proofs.DeclareFits.{Good, good_more}
use Rattle.lburg_faults.proofs.DeclareRows.{AllRows, all_rows, start_or_term, not_start, line_terms, line_start, whole_terms, names_whole, numbers_whole}
use Rattle.lburg_faults.proofs.DeclareTerms.{TermLine, terms_none, terms_first}
use Rattle.lburg_faults.proofs.DeclareStart.{IsStart, Named, start_second, start_unnamed, start_terminal, start_full, start_fits}
use Rattle.lburg_faults.proofs.DeclareKnown.{Starts, not_mentioned, knows_plain, knows_start}

-- ---- the start symbol

start_of : (l : TokenLine) (tokens rest : List Tok) → InDeclarations l.section → l.tokens ≡ tokens → tokens ≡ Keyword (codes "start") ∷ rest → IsStart l rest
start_of l tokens rest d e f = record { first = e ∙ f; declares = d }

named_of : (l : TokenLine) (tokens rest : List Tok) (bound : ℕ) (name : List ℕ) → InDeclarations l.section → l.tokens ≡ tokens → tokens ≡ Keyword (codes "start") ∷ rest → (2 ≤ bound) × (slice_get tokens 1 ≡ Some (Word name)) → Named l rest bound name
named_of l tokens rest bound name d e f n = record { is = start_of l tokens rest d e f; within = n.0; get = ap (λ (ts : List Tok). slice_get ts 1) e ∙ n.1 }

pub scans_second : (old : Known) (text : List ℕ) (tokens rest : List Tok) (bound : ℕ) → 0 < bound → tokens ≡ Keyword (codes "start") ∷ rest → is_some old.start ≡ true → ScansLine old text tokens bound (Some (record { place = 0; fault = fault.BadRule }))
scans_second old text tokens rest bound h f o s l k t d e b = start_second s l rest old bound h k (start_of l tokens rest d e f) o

pub scans_unnamed : (old : Known) (text : List ℕ) (tokens rest : List Tok) (bound : ℕ) → tokens ≡ Keyword (codes "start") ∷ rest → is_some old.start ≡ false → ((name : List ℕ) → 2 ≤ bound → slice_get tokens 1 ≡ Some (Word name) → ⊥) → ScansLine old text tokens bound None
scans_unnamed old text tokens rest bound f o n s l k t d e b = start_unnamed s l rest old bound k (start_of l tokens rest d e f) o (λ name h g. n name h (ap (λ (ts : List Tok). slice_get ts 1) (sym e) ∙ g))

pub scans_terminal : (old : Known) (text : List ℕ) (tokens rest : List Tok) (bound : ℕ) (name : List ℕ) → tokens ≡ Keyword (codes "start") ∷ rest → is_some old.start ≡ false → (2 ≤ bound) × (slice_get tokens 1 ≡ Some (Word name))
    → ((terminals : List (List ℕ)) → TextDeclares text terminals → Among name terminals) → ScansLine old text tokens bound (Some (record { place = 1; fault = fault.BadRule }))
scans_terminal old text tokens rest bound name f o n a s l k t d e b = start_terminal s l rest old bound name k (named_of l tokens rest bound name d e f n) o (a s.terminals t)

pub scans_full : (old : Known) (text : List ℕ) (tokens rest : List Tok) (bound : ℕ) (name : List ℕ) (g : LineFault) → tokens ≡ Keyword (codes "start") ∷ rest → is_some old.start ≡ false → (2 ≤ bound) × (slice_get tokens 1 ≡ Some (Word name))
    → ((terminals : List (List ℕ)) → TextDeclares text terminals → Among name terminals → ⊥) → (g ≡ fault.Limit which.Nonterminals) × (127 ≤ length (bytes_of old.nonterminals)) × (Among name (bytes_of old.nonterminals) → ⊥) → ScansLine old text tokens bound (Some (record { place = 1; fault = g }))
scans_full old text tokens rest bound name g f o n a full s l k t d e b = start_full s l rest old bound name g k (named_of l tokens rest bound name d e f n) o (a s.terminals t) full

pub scans_fits : (old : Known) (text : List ℕ) (tokens rest : List Tok) (bound : ℕ) (name : List ℕ) → tokens ≡ Keyword (codes "start") ∷ rest → is_some old.start ≡ false → (2 ≤ bound) × (slice_get tokens 1 ≡ Some (Word name))
    → ((terminals : List (List ℕ)) → TextDeclares text terminals → Among name terminals → ⊥) → ((Among name (bytes_of old.nonterminals) → ⊥) → length (bytes_of old.nonterminals) < 127) → ScansLine old text tokens bound None
scans_fits old text tokens rest bound name f o n a room s l k t d e b = start_fits s l rest old bound name k (named_of l tokens rest bound name d e f n) o (a s.terminals t) room

no_term_next : (tokens rest : List Tok) → tokens ≡ Keyword (codes "start") ∷ rest → next tokens ≢ Some (Keyword (codes "term"))
no_term_next tokens rest f e = two_words (same_Some (Keyword (codes "start")) (Keyword (codes "term")) (sym (ap next f) ∙ e)) where
  two_words : Keyword (codes "start") ≡ Keyword (codes "term") → ⊥
  two_words h = start_or_term [] [] (ap (λ (t : Tok). t ∷ []) h)

-- a whole line has a name
pub notes_unnamed : (old new : Known) (text : List ℕ) (number : ℕ) (tokens rest : List Tok) (bound : ℕ) → tokens ≡ Keyword (codes "start") ∷ rest → ((name : List ℕ) → 2 ≤ bound → slice_get tokens 1 ≡ Some (Word name) → ⊥) → NotesWhole old new text number tokens bound
notes_unnamed old new text number tokens rest bound f n s l k t early at d e (line, (stands, is)) whole =
    let r = line_start line rest (sym is ∙ e ∙ f) in
    let all : l.tokens ≡ Keyword (codes "start") ∷ (Word r.0 ∷ []) = e ∙ f ∙ ap (λ (ts : List Tok). Keyword (codes "start") ∷ ts) r.1 in
    let two : length l.tokens ≡ 2 = ap (λ (ts : List Tok). length ts) all in
    absurd (n r.0 (omega (arith, whole, two)) (ap (λ (ts : List Tok). slice_get ts 1) (sym e ∙ all)))

pub notes_start : (old new : Known) (text : List ℕ) (number : ℕ) (tokens rest : List Tok) (bound : ℕ) (name : List ℕ) → tokens ≡ Keyword (codes "start") ∷ rest → (2 ≤ bound) × (slice_get tokens 1 ≡ Some (Word name))
    → ((Among name (bytes_of old.nonterminals) → ⊥) → length (bytes_of old.nonterminals) < 127) → Starts name number old new → NotesWhole old new text number tokens bound
notes_start old new text number tokens rest bound name f n room starts s l k t early at d e are whole =
    knows_start s.terminals s.before l rest bound name old new k early (named_of l tokens rest bound name d e f n) (line_declares_none l.section l.tokens (no_term_next l.tokens rest (e ∙ f))) room (subst (λ (m : ℕ). Starts name m old new) at starts)

-- ---- terminals

good_of : (terminals : List (List ℕ)) (before : List TokenLine) (k : Known) → Knows terminals before k → Good (bytes_of k.terminals) k.numbers.keys
good_of terminals before k knows = record { once = knows.names_once; few = knows.few; small = knows.small_numbers }

term_of : (s : Setting) (l : TokenLine) (old : Known) (tokens rest : List Tok) (bound : ℕ) → Knows s.terminals s.before old → InDeclarations l.section → l.tokens ≡ tokens → tokens ≡ Keyword (codes "term") ∷ rest → IsBegun l bound → TermLine s l (bytes_of old.terminals) old.numbers.keys bound
term_of s l old tokens rest bound k d e f b = record {
  rest = rest;
  first = e ∙ f;
  declares = d;
  begun = b;
  names_are = k.names;
  numbers_are = k.numbers;
  good = good_of s.terminals s.before old k;
}

pub scans_terms : {E : Type 0} (r : Result (Option Found) E) (old : Known) (text : List ℕ) (tokens rest : List Tok) (bound : ℕ) → tokens ≡ Keyword (codes "term") ∷ rest → IfOk r (λ f. IfSome f (FailsFirst (bytes_of old.terminals) old.numbers.keys tokens bound))
    → IfOk r (λ f. IfNone f (FitBefore (bytes_of old.terminals) old.numbers.keys tokens bound)) → IfOk r (λ f. ScansLine old text tokens bound f)
scans_terms (Ok (Some found)) old text tokens rest bound f fails fit = λ s l k t d e b. terms_first s l (bytes_of old.terminals) old.numbers.keys bound found (term_of s l old tokens rest bound k d e f b) (subst (λ (ts : List Tok). FailsFirst (bytes_of old.terminals) old.numbers.keys ts bound found) (sym e) fails)
scans_terms (Ok None) old text tokens rest bound f fails fit = λ s l k t d e b. terms_none s l (bytes_of old.terminals) old.numbers.keys bound bound (term_of s l old tokens rest bound k d e f b) (omega arith) (subst (λ (ts : List Tok). FitBefore (bytes_of old.terminals) old.numbers.keys ts bound) (sym e) fit)
scans_terms (Err e) old text tokens rest bound f fails fit = tt

take_all : {A : Type 0} (xs : List A) (n : ℕ) → n ≡ length xs → take n xs ≡ xs
take_all [] zero e = refl
take_all [] (suc n) e = refl
take_all (x ∷ xs) zero e = absurd (omega arith)
take_all (x ∷ xs) (suc n) e = ap (λ ys. x ∷ ys) (take_all xs n (omega arith))

declares_all : (section : Section) (xs : List MNumbered) → InDeclarations section → declared_by section (Keyword (codes "term") ∷ terminal_tokens xs) ≡ xs
declares_all Head xs d = whole_terms xs
declares_all Declarations xs d = whole_terms xs
declares_all Prologue xs d = absurd d
declares_all Rules xs d = absurd d
declares_all Tail xs d = absurd d

notes_terms_at : (old new : Known) (text : List ℕ) (number : ℕ) (tokens rest : List Tok) (bound : ℕ) → tokens ≡ Keyword (codes "term") ∷ rest → FitBefore (bytes_of old.terminals) old.numbers.keys tokens bound → Adds (take bound tokens) old new → NotesWhole old new text number tokens bound
notes_terms_at old new text number tokens rest bound f fit adds s l k t early at d e (line, (stands, is)) whole =
    let r = line_terms line rest (sym is ∙ e ∙ f) in
    let all : l.tokens ≡ Keyword (codes "term") ∷ terminal_tokens r.0 = e ∙ f ∙ ap (λ (ts : List Tok). Keyword (codes "term") ∷ ts) r.1 in
    let declared : declared_by l.section l.tokens ≡ r.0 = ap (λ (ts : List Tok). declared_by l.section ts) all ∙ declares_all l.section r.0 d in
    let size : bound ≡ length tokens = whole ∙ ap (λ (ts : List Tok). length ts) e in
    let added : Adds tokens old new = subst (λ (ts : List Tok). Adds ts old new) (take_all tokens bound size) adds in
    let good : Good (bytes_of old.terminals ++ names_among tokens) (old.numbers.keys ++ numbers_among tokens) = good_more (bytes_of old.terminals) old.numbers.keys tokens (good_of s.terminals s.before old k) (subst (λ (n : ℕ). FitBefore (bytes_of old.terminals) old.numbers.keys tokens n) size fit) in
    knows_plain s.terminals s.before l tokens old new k early d (λ ts line. not_start l rest ts (e ∙ f) line)
    (ap names_among (sym e ∙ all) ∙ names_whole r.0 ∙ ap names_of (sym declared))
    (ap numbers_among (sym e ∙ all) ∙ numbers_whole r.0 ∙ ap numbers_of (sym declared))
    (subst (λ (ns : List (List ℕ)). Good ns new.numbers.keys) (sym added.names) (subst (λ (ns : List ℕ). Good (bytes_of old.terminals ++ names_among tokens) ns) (sym added.numbers) good))
    added

pub notes_terms : {E : Type 0} (r : Result (Option Found) E) (old new : Known) (text : List ℕ) (number : ℕ) (tokens rest : List Tok) (bound : ℕ) → tokens ≡ Keyword (codes "term") ∷ rest → IfOk r (λ f. IfNone f (FitBefore (bytes_of old.terminals) old.numbers.keys tokens bound))
    → IfOk r (λ f. IfNone f (Adds (take bound tokens) old new)) → IfOk r (λ f. f ≡ None → NotesWhole old new text number tokens bound)
notes_terms (Ok (Some found)) old new text number tokens rest bound f fit adds = λ n. absurd (none-some found (sym n))
notes_terms (Ok None) old new text number tokens rest bound f fit adds = λ n. notes_terms_at old new text number tokens rest bound f fit adds
notes_terms (Err e) old new text number tokens rest bound f fit adds = tt

-- ---- any other line

pub scans_nothing : (old : Known) (text : List ℕ) (tokens : List Tok) → ScansLine old text tokens 0 None
scans_nothing old text tokens s l k t d e b f q h row = omega (arith, h)

-- neither keyword stands first
abbrev pub NoKeyword : List Tok → Type 0
NoKeyword tokens = (next tokens ≢ Some (Keyword (codes "term"))) × (next tokens ≢ Some (Keyword (codes "start")))

no_terms : (l : TokenLine) (tokens : List Tok) (ts : List Tok) → NoKeyword tokens → l.tokens ≡ tokens → Terms l ts → ⊥
no_terms l tokens ts n e line = n.0 (ap next (sym e ∙ line.1))

no_start : (l : TokenLine) (tokens : List Tok) (ts : List Tok) → NoKeyword tokens → l.tokens ≡ tokens → StartLine l ts → ⊥
no_start l tokens ts n e line = n.1 (ap next (sym e ∙ line.1))

no_row : (s : Setting) (l : TokenLine) (tokens : List Tok) (q : ℕ) (f : LineFault) → NoKeyword tokens → InDeclarations l.section → l.tokens ≡ tokens → AllRows s l q f → ⊥
no_row s l tokens q f n d e (inl (g, inl k)) = no_start l tokens k.0 n e k.4
no_row s l tokens q f n d e (inl (g, inr k)) = no_start l tokens (Word k.0 ∷ k.1) n e k.2
no_row s l tokens q f n d e (inr (inl (g, k))) = no_terms l tokens k.0 n e k.1
no_row s l tokens q f n d e (inr (inr (inl (g, k)))) = no_terms l tokens k.0 n e k.2
no_row s l tokens q f n d e (inr (inr (inr (inl (g, k))))) = not_mentioned s.terminals l q k.name d (λ ts line. no_start l tokens ts n e line) k.here
no_row s l tokens q f n d e (inr (inr (inr (inr (g, k))))) = no_terms l tokens k.0 n e k.2

pub scans_other : (old : Known) (text : List ℕ) (tokens : List Tok) (bound : ℕ) → NoKeyword tokens → ScansLine old text tokens bound None
scans_other old text tokens bound n s l k t d e b f q h row = no_row s l tokens q f n d e (all_rows f s l q row)

pub notes_other : (old : Known) (text : List ℕ) (number : ℕ) (tokens : List Tok) (bound : ℕ) → NoKeyword tokens → NotesWhole old old text number tokens bound
notes_other old text number tokens bound n s l k t early at d e are whole =
    let none : declared_by l.section l.tokens ≡ [] = line_declares_none l.section l.tokens (λ h. n.0 (ap next (sym e) ∙ h)) in
    knows_plain s.terminals s.before l [] old old k early d (λ ts line. no_start l tokens ts n e line) (ap names_of (sym none)) (ap numbers_of (sym none)) (good_of s.terminals s.before old k) (adds_none old)

pub notes_blank : (old : Known) (text : List ℕ) (number : ℕ) (tokens : List Tok) → NotesWhole old old text number tokens 0
notes_blank old text number tokens s l k t early at d e are whole =
    let empty : tokens ≡ [] = no_length tokens (whole ∙ ap (λ (ts : List Tok). length ts) e) in
    notes_other old text number tokens 0 ((λ h. none-some _ (ap next (sym empty) ∙ h)), (λ h. none-some _ (ap next (sym empty) ∙ h))) s l k t early at d e are whole where
      no_length : (ts : List Tok) → 0 ≡ length ts → ts ≡ []
      no_length [] h = refl
      no_length (t ∷ ts) h = absurd (omega arith)

-- ---- an answer that may be none

pub some_of : {A : Type 0} (o : Option A) (P : A → Type 0) → is_some o ≡ true → IfSome o P → (x : A) × P x
some_of (Some x) P h p = (x, p)
some_of None P h p = absurd (true≢false (sym h))

pub none_of : {A : Type 0} (o : Option A) (P : Type 0) → is_some o ≡ false → IfNone o P → P
none_of (Some x) P h p = absurd (true≢false h)
none_of None P h p = p

-- what the keyword's reader says of a word that is this one
pub keyword_first : {A : Type 0} (o : Option A) (behind : A → List Tok) (tokens : List Tok) (word wanted : List ℕ) → word ≡ wanted → is_some o ≡ true → IfSome o (λ x. tokens ≡ Keyword word ∷ behind x) → (rest : List Tok) × (tokens ≡ Keyword wanted ∷ rest)
keyword_first o behind tokens word wanted w h p =
    let r = some_of o (λ x. tokens ≡ Keyword word ∷ behind x) h p in
    (behind r.0, r.1 ∙ ap (λ (k : List ℕ). Keyword k ∷ behind r.0) w)

pub keyword_other : {A : Type 0} (o : Option A) (tokens : List Tok) (word wanted : List ℕ) → word ≡ wanted → is_some o ≡ false → IfNone o (next tokens ≢ Some (Keyword word)) → next tokens ≢ Some (Keyword wanted)
keyword_other o tokens word wanted w h p = subst (λ (k : List ℕ). next tokens ≢ Some (Keyword k)) w (none_of o (next tokens ≢ Some (Keyword word)) h p)
