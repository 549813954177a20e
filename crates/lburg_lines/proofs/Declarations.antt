-- Declarations as tokens: each line has one reading at most, and where a reading stops.
use Rattle.std.proofs.Common.{◌≡◌, ℕ, List, [], ◌∷◌, ◌++◌, length, drop, ◌+◌, ◌≤◌, Some, None, refl, sym, ap, ◌∙◌, arith}
use Rattle.std.proofs.lemmas.List.{drop-drop}
use Rattle.std.specs.Prelude.{◌≢◌, codes}
use Rattle.lburg_lines.specs.declared.token.Sign.TheVariants.{Equals}
use Rattle.lburg_lines.specs.declared.read_error.ReadError.{ReadError}
use Rattle.lburg_lines.specs.declared.read_error.ReadError.TheVariants.{Memory, Stuck}
use Rattle.lburg_lines.specs.Tokens.{Tok, Word, Number, Keyword, Mark, views}
use Rattle.lburg_lines.specs.declared.token.Token.{Token}
use Rattle.lburg_lines.specs.Grammar.{MNumbered, MDeclaration, Starts, Declares, terminal_tokens, declaration_tokens}
use Rattle.lcc_text.specs.Stops.{next, StopsAt}
use Rattle.lburg_lines.specs.Readings.{SpellsTerminals, SpellsDeclaration, TerminalsFault, DeclarationFault}

-- ---- one terminal

no_name : (line more : List Tok) → next line ≢ None → ((n : List ℕ) → next line ≢ Some (Word n)) → (ts : List MNumbered) → more ≡ terminal_tokens ts → next more ≡ next line → ⊥
no_name line more h k [] e f = h (sym f ∙ ap next e)
no_name line more h k (t ∷ ts) e f = k t.0 (sym f ∙ ap next e)

pub name_fault : (line : List Tok) (e : ReadError) → next line ≢ None → ((n : List ℕ) → next line ≢ Some (Word n)) → e ≡ Stuck (length line) → TerminalsFault e line
name_fault line e h k f = rw f (
  line,
  refl,
  record {
    front = [];
    parts = refl;
    begun = ([], ([], refl));
    stuck = λ more is g. no_name line more h k is.0 is.1 g;
  },
)

no_equals : (n : List ℕ) (rest more : List Tok) → next rest ≢ Some (Mark Equals) → (ts : List MNumbered) → Word n ∷ more ≡ terminal_tokens ts → next more ≡ next rest → ⊥
no_equals n rest more h [] e f = cc
no_equals n rest more h (t ∷ ts) e f =
    let g : more ≡ Mark Equals ∷ (Number t.1 ∷ terminal_tokens ts) = cc in
    h (sym f ∙ ap next g)

pub equals_fault : (n : List ℕ) (line rest : List Tok) (e : ReadError) → line ≡ Word n ∷ rest → next rest ≢ Some (Mark Equals) → e ≡ Stuck (length rest) → TerminalsFault e line
equals_fault n line rest e p h f = rw (f, p) (
  rest,
  refl,
  record {
    front = Word n ∷ [];
    parts = refl;
    begun = (Mark Equals ∷ (Number (48 ∷ []) ∷ []), ((n, 48 ∷ []) ∷ [], refl));
    stuck = λ more is g. no_equals n rest more h is.0 is.1 g;
  },
)

no_digits : (n : List ℕ) (rest more : List Tok) → ((d : List ℕ) → next rest ≢ Some (Number d)) → (ts : List MNumbered) → Word n ∷ (Mark Equals ∷ more) ≡ terminal_tokens ts → next more ≡ next rest → ⊥
no_digits n rest more h [] e f = cc
no_digits n rest more h (t ∷ ts) e f =
    let g : more ≡ Number t.1 ∷ terminal_tokens ts = cc in
    h t.1 (sym f ∙ ap next g)

pub digits_fault : (n : List ℕ) (line mid rest : List Tok) (e : ReadError) → line ≡ Word n ∷ mid → mid ≡ Mark Equals ∷ rest → ((d : List ℕ) → next rest ≢ Some (Number d)) → e ≡ Stuck (length rest) → TerminalsFault e line
digits_fault n line mid rest e p q h f = rw (f, p, q) (
  rest,
  refl,
  record {
    front = Word n ∷ (Mark Equals ∷ []);
    parts = refl;
    begun = (Number (48 ∷ []) ∷ [], ((n, 48 ∷ []) ∷ [], refl));
    stuck = λ more is g. no_digits n rest more h is.0 is.1 g;
  },
)

-- ---- terminals, one after another

abbrev one_then : MNumbered → List Tok → List Tok
one_then t rest = Word t.0 ∷ (Mark Equals ∷ (Number t.1 ∷ rest))

next_stuck : (t : MNumbered) (line rest : List Tok) (s : StopsAt SpellsTerminals line rest) (more : List Tok) (ts : List MNumbered) → one_then t (s.front ++ more) ≡ terminal_tokens ts → next more ≡ next rest → ⊥
next_stuck t line rest s more [] e f = cc
next_stuck t line rest s more (u ∷ ts) e f = s.stuck more (ts, cc) f

next_stops : (t : MNumbered) (line rest : List Tok) → StopsAt SpellsTerminals line rest → StopsAt SpellsTerminals (one_then t line) rest
next_stops t line rest s = record {
  front = one_then t s.front;
  parts = ap (one_then t) s.parts;
  begun = (s.begun.0, (t ∷ s.begun.1.0, ap (one_then t) s.begun.1.1));
  stuck = λ more is g. next_stuck t line rest s more is.0 is.1 g;
}

next_fault : (t : MNumbered) (line : List Tok) (e : ReadError) → TerminalsFault e line → TerminalsFault e (one_then t line)
next_fault t line Memory h = tt
next_fault t line (Stuck k) h = (h.0, h.1, next_stops t line h.0 h.2)

behind_fault : (ts : List MNumbered) (line rest : List Tok) (e : ReadError) → line ≡ terminal_tokens ts ++ rest → TerminalsFault e rest → TerminalsFault e line
behind_fault [] line rest e p h = rw p h
behind_fault (t ∷ ts) line rest e p h = rw p (next_fault t (terminal_tokens ts ++ rest) e (behind_fault ts (terminal_tokens ts ++ rest) rest e refl h))

one_more : (ts : List MNumbered) (t : MNumbered) (rest : List Tok) → terminal_tokens (ts ++ t ∷ []) ++ rest ≡ terminal_tokens ts ++ one_then t rest
one_more [] t rest = refl
one_more (u ∷ ts) t rest = ap (one_then u) (one_more ts t rest)

-- a line that goes on has something next
pub goes_on : (tokens : List Token) → 1 ≤ length tokens → next (views tokens) ≢ None
goes_on [] h e = absurd (omega arith)
goes_on (t ∷ ts) h e = cc

behind_three : (tokens rest : List Token) (a b c : Tok) → views tokens ≡ a ∷ (b ∷ (c ∷ views rest)) → (views tokens ≡ a ∷ (b ∷ (c ∷ views (drop 3 tokens)))) × (3 ≤ length tokens)
behind_three [] rest a b c e = absurd cc
behind_three (x ∷ []) rest a b c e = absurd cc
behind_three (x ∷ y ∷ []) rest a b c e = absurd cc
behind_three (x ∷ y ∷ z ∷ ts) rest a b c e = (cc, omega arith)

-- three tokens, read one by one
pub three_tokens : (tokens rest : List Token) (l m : List Tok) (a b c : Tok) → views tokens ≡ a ∷ l → l ≡ b ∷ m → m ≡ c ∷ views rest → (views tokens ≡ a ∷ (b ∷ (c ∷ views (drop 3 tokens)))) × (3 ≤ length tokens)
three_tokens tokens rest l m a b c e f g = behind_three tokens rest a b c (e ∙ ap (λ (k : List Tok). a ∷ k) (f ∙ ap (λ (k : List Tok). b ∷ k) g))

-- a terminal more, and what is left behind it
pub terminals_more : (found more : List MNumbered) (t : MNumbered) (tokens rest : List Token) (at : ℕ) → rest ≡ drop at tokens → more ≡ found ++ t ∷ [] → views rest ≡ one_then t (views (drop 3 rest)) → views tokens ≡ terminal_tokens found ++ views (drop at tokens) → views tokens ≡ terminal_tokens more ++ views (drop (at + 3) tokens)
terminals_more found more t tokens rest at r p q h =
    let e : drop 3 rest ≡ drop (at + 3) tokens = ap (λ (l : List Token). drop 3 l) r ∙ drop-drop 3 at tokens in
    h ∙ ap (λ (l : List Tok). terminal_tokens found ++ l) (ap views (sym r) ∙ q ∙ ap (λ (l : List Token). one_then t (views l)) e) ∙ sym (one_more found t (views (drop (at + 3) tokens))) ∙ ap (λ (l : List MNumbered). terminal_tokens l ++ views (drop (at + 3) tokens)) (sym p)

pub stuck_behind : (found : List MNumbered) (tokens rest : List Token) (at : ℕ) (e : ReadError) → rest ≡ drop at tokens → views tokens ≡ terminal_tokens found ++ views (drop at tokens) → TerminalsFault e (views rest) → TerminalsFault e (views tokens)
stuck_behind found tokens rest at e r h f = behind_fault found (views tokens) (views rest) e (h ∙ ap (λ (l : List Token). terminal_tokens found ++ views l) (sym r)) f

-- ---- declarations

keywordless : (line more : List Tok) → next line ≢ Some (Keyword (codes "start")) → next line ≢ Some (Keyword (codes "term")) → (d : MDeclaration) → more ≡ declaration_tokens d → next more ≡ next line → ⊥
keywordless line more h k (Starts n) e f = h (sym f ∙ ap next e)
keywordless line more h k (Declares ts) e f = k (sym f ∙ ap next e)

pub keyword_fault : (line : List Tok) (e : ReadError) → next line ≢ Some (Keyword (codes "start")) → next line ≢ Some (Keyword (codes "term")) → e ≡ Stuck (length line) → DeclarationFault e line
keyword_fault line e h k f = rw f (
  line,
  refl,
  record {
    front = [];
    parts = refl;
    begun = (Keyword (codes "term") ∷ [], (Declares [], refl));
    stuck = λ more is g. keywordless line more h k is.0 is.1 g;
  },
)

keywords_apart : codes "start" ≡ codes "term" → ⊥
keywords_apart e = let h = ap length e in omega arith

same_keyword : (a b : List ℕ) (x y : List Tok) → Keyword a ∷ x ≡ Keyword b ∷ y → a ≡ b
same_keyword a b x y e = cc

same_behind : (a b : Tok) (x y : List Tok) → a ∷ x ≡ b ∷ y → x ≡ y
same_behind a b x y e = cc

start_nameless : (rest more : List Tok) → ((n : List ℕ) → next rest ≢ Some (Word n)) → (d : MDeclaration) → Keyword (codes "start") ∷ more ≡ declaration_tokens d → next more ≡ next rest → ⊥
start_nameless rest more h (Starts n) e f = h n (sym f ∙ ap next (same_behind _ _ _ _ e))
start_nameless rest more h (Declares ts) e f = keywords_apart (same_keyword _ _ _ _ e)

pub start_name_fault : (line rest : List Tok) (e : ReadError) → line ≡ Keyword (codes "start") ∷ rest → ((n : List ℕ) → next rest ≢ Some (Word n)) → e ≡ Stuck (length rest) → DeclarationFault e line
start_name_fault line rest e p h f = rw (f, p) (
  rest,
  refl,
  record {
    front = Keyword (codes "start") ∷ [];
    parts = refl;
    begun = (Word (97 ∷ []) ∷ [], (Starts (97 ∷ []), refl));
    stuck = λ more is g. start_nameless rest more h is.0 is.1 g;
  },
)

start_endless : (n : List ℕ) (rest more : List Tok) → next rest ≢ None → (d : MDeclaration) → Keyword (codes "start") ∷ (Word n ∷ more) ≡ declaration_tokens d → next more ≡ next rest → ⊥
start_endless n rest more h (Starts m) e f = h (sym f ∙ ap next (same_behind _ _ _ _ (same_behind _ _ _ _ e)))
start_endless n rest more h (Declares ts) e f = keywords_apart (same_keyword _ _ _ _ e)

pub start_end_fault : (n : List ℕ) (line mid rest : List Tok) (e : ReadError) → line ≡ Keyword (codes "start") ∷ mid → mid ≡ Word n ∷ rest → next rest ≢ None → e ≡ Stuck (length rest) → DeclarationFault e line
start_end_fault n line mid rest e p q h f = rw (f, p, q) (
  rest,
  refl,
  record {
    front = Keyword (codes "start") ∷ (Word n ∷ []);
    parts = refl;
    begun = ([], (Starts n, refl));
    stuck = λ more is g. start_endless n rest more h is.0 is.1 g;
  },
)

term_stuck : (line rest : List Tok) (s : StopsAt SpellsTerminals line rest) (more : List Tok) (d : MDeclaration) → Keyword (codes "term") ∷ (s.front ++ more) ≡ declaration_tokens d → next more ≡ next rest → ⊥
term_stuck line rest s more (Starts n) e f = keywords_apart (sym (same_keyword _ _ _ _ e))
term_stuck line rest s more (Declares ts) e f = s.stuck more (ts, same_behind _ _ _ _ e) f

abbrev terms : List Tok → List Tok
terms rest = Keyword (codes "term") ∷ rest

term_stops : (line rest : List Tok) → StopsAt SpellsTerminals line rest → StopsAt SpellsDeclaration (terms line) rest
term_stops line rest s = record {
  front = terms s.front;
  parts = ap terms s.parts;
  begun = (s.begun.0, (Declares s.begun.1.0, ap terms s.begun.1.1));
  stuck = λ more is g. term_stuck line rest s more is.0 is.1 g;
}

term_fault_at : (line : List Tok) (e : ReadError) → TerminalsFault e line → DeclarationFault e (terms line)
term_fault_at line Memory h = tt
term_fault_at line (Stuck k) h = (h.0, h.1, term_stops line h.0 h.2)

pub term_fault : (line rest : List Tok) (e : ReadError) → line ≡ Keyword (codes "term") ∷ rest → TerminalsFault e rest → DeclarationFault e line
term_fault line rest e p h = rw p (term_fault_at rest e h)

-- ---- one reading

same_pair : (t u : MNumbered) → t.0 ≡ u.0 → t.1 ≡ u.1 → t ≡ u
same_pair t u e f = ap (λ (l : List ℕ). (l, t.1)) e ∙ ap (λ (l : List ℕ). (u.0, l)) f

same_terminals : (ts us : List MNumbered) → terminal_tokens ts ≡ terminal_tokens us → ts ≡ us
same_terminals [] [] e = refl
same_terminals [] (u ∷ us) e = absurd cc
same_terminals (t ∷ ts) [] e = absurd cc
same_terminals (t ∷ ts) (u ∷ us) e =
    let f : t.0 ≡ u.0 = cc in
    let g : t.1 ≡ u.1 = cc in
    let h = same_pair t u f g in
    let k = same_terminals ts us cc in
    cc

pub same_declaration : (d c : MDeclaration) → declaration_tokens d ≡ declaration_tokens c → d ≡ c
same_declaration (Starts n) (Starts m) e = let f : n ≡ m = cc in ap Starts f
same_declaration (Starts n) (Declares ts) e = absurd (keywords_apart (same_keyword _ _ _ _ e))
same_declaration (Declares ts) (Starts n) e = absurd (keywords_apart (sym (same_keyword _ _ _ _ e)))
same_declaration (Declares ts) (Declares us) e = ap Declares (same_terminals ts us (same_behind _ _ _ _ e))
