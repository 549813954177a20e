-- A line of the start symbol: what its rows say.
use Rattle.std.proofs.Common.{◌≡◌, ◌<◌, ◌≤◌, ◌⊎◌, inl, inr, ℕ, zero, suc, true, false, List, [], ◌∷◌, Option, Some, None, refl, sym, ap, ◌∙◌, subst, length, true≢false, arith}
use Rattle.std.specs.Prelude.{slice_get, codes}
use Rattle.std.specs.Option.{is_some}
use Rattle.std.proofs.lemmas.Option.{none-some, same_Some}
use Rattle.lcc_base.specs.declared.which.Which.TheVariants as which
use Rattle.lcc_text.specs.Names.{bytes_of}
use Rattle.lburg_lines.specs.Tokens.{Tok, Word, Keyword}
use Rattle.lburg_lines.specs.Sections.{TokenLine}
use Rattle.lburg_faults.specs.declared.known.Known.{Known}
use Rattle.lburg_faults.specs.declared.known.StartSymbol.{StartSymbol}
use Rattle.lburg_faults.specs.declared.line_fault.LineFault.{LineFault}
use Rattle.lburg_faults.specs.declared.line_fault.LineFault.TheVariants as fault
use Rattle.lburg_faults.specs.Lines.{InDeclarations, StartLine}
use Rattle.lburg_faults.specs.Terminals.{Among}
use Rattle.lburg_faults.specs.Mentions.{MentionsAt, MentionedBefore}
use Rattle.lburg_faults.specs.Limits.{IsNonterminalLimit}
use Rattle.lburg_faults.specs.BadRule.{IsSecondStart, IsTerminalStart}
use Rattle.lburg_faults.specs.Setting.{Setting}
use Rattle.lburg_faults.specs.LineFaults.{row_of}
use Rattle.lburg_faults.specs.Knowing.{Knows, IsStartIn, NotRight}
use Rattle.lburg_faults.specs.Scans.{DeclarationRows, IsFirstOf, NoneOf}
use Rattle.lburg_faults.proofs.RuleLists.{no_more}
use Rattle.lburg_faults.proofs.DeclareRows.{AllRows, all_rows, not_term, not_rules}

-- the line is `%start` and these tokens, in declarations
pub record IsStart (l : TokenLine) (rest : List Tok) : Type 0 where
  pub first : l.tokens ≡ Keyword (codes "start") ∷ rest
  pub declares : InDeclarations l.section

-- it has three kinds of rows
abbrev StartRows : Setting → TokenLine → ℕ → LineFault → Type 0
StartRows s l q f = ((f ≡ fault.BadRule) × IsSecondStart s l q) ⊎ (((f ≡ fault.BadRule) × IsTerminalStart s l q) ⊎ ((f ≡ fault.Limit which.Nonterminals) × IsNonterminalLimit s l q))

start_rows : (s : Setting) (l : TokenLine) (rest : List Tok) (q : ℕ) (f : LineFault) → IsStart l rest → AllRows s l q f → StartRows s l q f
start_rows s l rest q f is (inl (e, inl k)) = inl (e, k)
start_rows s l rest q f is (inl (e, inr k)) = inr (inl (e, k))
start_rows s l rest q f is (inr (inl (e, k))) = absurd (not_term l rest k.0 is.first k.1)
start_rows s l rest q f is (inr (inr (inl (e, k)))) = absurd (not_term l rest k.0 is.first k.2)
start_rows s l rest q f is (inr (inr (inr (inl (e, k))))) = inr (inr (e, k))
start_rows s l rest q f is (inr (inr (inr (inr (e, k))))) = absurd (not_term l rest k.0 is.first k.2)

-- ---- a second start

second_row : (s : Setting) (l : TokenLine) (q : ℕ) (f : LineFault) → AllRows s l q f → 2 ≤ row_of f
second_row s l q f (inl h) = rw h.0 (omega arith)
second_row s l q f (inr (inl h)) = rw h.0 (omega arith)
second_row s l q f (inr (inr (inl h))) = rw h.0 (omega arith)
second_row s l q f (inr (inr (inr (inl h)))) = rw h.0 (omega arith)
second_row s l q f (inr (inr (inr (inr h)))) = rw h.0 (omega arith)

declared_start : (lines : List TokenLine) (o : Option StartSymbol) → is_some o ≡ true → IsStartIn lines o → (i : ℕ) × (k : TokenLine) × (tokens : List Tok) × (slice_get lines i ≡ Some k) × StartLine k tokens
declared_start lines None h is = absurd (true≢false (sym h))
declared_start lines (Some x) h (i, k, tokens, get, line, number) = (i, k, Word x.name.now ∷ tokens, get, line)

pub start_second : (s : Setting) (l : TokenLine) (rest : List Tok) (old : Known) (bound : ℕ) → 0 < bound → Knows s.terminals s.before old → IsStart l rest → is_some old.start ≡ true → IsFirstOf DeclarationRows s l bound (record { place = 0; fault = fault.BadRule })
start_second s l rest old bound h k is o =
    let d = declared_start s.before old.start o k.start in
    record {
      within = h;
      stands = inl (rest, d.2, d.0, d.1, (is.declares, is.first), d.3, d.4, refl);
      least = λ f q row. from_zero q (row_of f) (second_row s l q f (all_rows f s l q row));
    } where
      from_zero : (q row : ℕ) → 2 ≤ row → NotRight 0 2 q row
      from_zero zero row h = inr (refl, h)
      from_zero (suc q) row h = inl (omega arith)

-- ---- the first start

no_start : (lines : List TokenLine) (o : Option StartSymbol) → is_some o ≡ false → IsStartIn lines o → (i : ℕ) (k : TokenLine) (tokens : List Tok) → slice_get lines i ≡ Some k → StartLine k tokens → ⊥
no_start lines None h is = is
no_start lines (Some x) h is = absurd (true≢false h)

not_second : (s : Setting) (l : TokenLine) (q : ℕ) (old : Known) → Knows s.terminals s.before old → is_some old.start ≡ false → IsSecondStart s l q → ⊥
not_second s l q old k o (tokens, earlier, i, line, here, get, there, e) = no_start s.before old.start o k.start i line earlier get there

-- a name that the line mentions stands behind the keyword
pub mentioned_at : (terminals : List (List ℕ)) (l : TokenLine) (rest : List Tok) (q : ℕ) (name : List ℕ) → IsStart l rest → MentionsAt terminals l q name → (q ≡ 1) × (slice_get l.tokens 1 ≡ Some (Word name))
mentioned_at terminals l rest q name is (inl (tokens, line, e)) = (e, ap (λ (ts : List Tok). slice_get ts 1) line.1)
mentioned_at terminals l rest q name is (inr (inl h, get, new)) = absurd (not_rules l is.declares h.0)
mentioned_at terminals l rest q name is (inr (inr h, get, new)) = absurd (not_rules l is.declares h.0)

-- no name before the bound
pub start_unnamed : (s : Setting) (l : TokenLine) (rest : List Tok) (old : Known) (bound : ℕ) → Knows s.terminals s.before old → IsStart l rest → is_some old.start ≡ false → ((name : List ℕ) → 2 ≤ bound → slice_get l.tokens 1 ≡ Some (Word name) → ⊥) → NoneOf DeclarationRows s l bound
start_unnamed s l rest old bound k is o unnamed f q less row = aside (start_rows s l rest q f is (all_rows f s l q row)) where
  aside : StartRows s l q f → ⊥
  aside (inl h) = not_second s l q old k o h.1
  aside (inr (inl (e, (name, tokens, line, among, at)))) = unnamed name (omega (arith, at)) (ap (λ (ts : List Tok). slice_get ts 1) line.1)
  aside (inr (inr (e, limit))) = let m = mentioned_at s.terminals l rest q limit.name is limit.here in unnamed limit.name (omega (arith, m.0)) m.1

-- the name that stands behind the keyword
pub record Named (l : TokenLine) (rest : List Tok) (bound : ℕ) (name : List ℕ) : Type 0 where
  pub is : IsStart l rest
  pub within : 2 ≤ bound
  pub get : slice_get l.tokens 1 ≡ Some (Word name)

begins : (tokens rest : List Tok) (t : Tok) → tokens ≡ Keyword (codes "start") ∷ rest → slice_get tokens 1 ≡ Some t → (behind : List Tok) × (tokens ≡ Keyword (codes "start") ∷ (t ∷ behind))
begins tokens rest t e h =
    let r = first_of rest (ap (λ (ts : List Tok). slice_get ts 1) (sym e) ∙ h) in
    (r.0, e ∙ ap (λ (ts : List Tok). Keyword (codes "start") ∷ ts) r.1) where
      first_of : (rest : List Tok) → slice_get rest 0 ≡ Some t → (behind : List Tok) × (rest ≡ t ∷ behind)
      first_of [] h = absurd (none-some t h)
      first_of (u ∷ us) h = (us, ap (λ (x : Tok). x ∷ us) (same_Some u t h))

pub start_line : (l : TokenLine) (rest : List Tok) (bound : ℕ) (name : List ℕ) → Named l rest bound name → (behind : List Tok) × StartLine l (Word name ∷ behind)
start_line l rest bound name n = let b = begins l.tokens rest (Word name) n.is.first n.get in (b.0, (n.is.declares, b.1))

pub same_word : (l : TokenLine) (name other : List ℕ) → slice_get l.tokens 1 ≡ Some (Word name) → slice_get l.tokens 1 ≡ Some (Word other) → other ≡ name
same_word l name other h g = let e : Word name ≡ Word other = same_Some (Word name) (Word other) (sym h ∙ g) in cc

-- rows stand at the name
name_rows : (s : Setting) (l : TokenLine) (rest : List Tok) (old : Known) (bound q : ℕ) (name : List ℕ) (f : LineFault) → Knows s.terminals s.before old → Named l rest bound name → is_some old.start ≡ false → DeclarationRows f s l q
    → (q ≡ 1) × (((f ≡ fault.BadRule) × Among name s.terminals) ⊎ ((f ≡ fault.Limit which.Nonterminals) × (limit : IsNonterminalLimit s l q) × (limit.name ≡ name)))
name_rows s l rest old bound q name f k n o row = aside (start_rows s l rest q f n.is (all_rows f s l q row)) where
  aside : StartRows s l q f → (q ≡ 1) × (((f ≡ fault.BadRule) × Among name s.terminals) ⊎ ((f ≡ fault.Limit which.Nonterminals) × (limit : IsNonterminalLimit s l q) × (limit.name ≡ name)))
  aside (inl h) = absurd (not_second s l q old k o h.1)
  aside (inr (inl (e, (other, tokens, line, among, at)))) = (at, inl (e, subst (λ (x : List ℕ). Among x s.terminals) (same_word l name other n.get (ap (λ (ts : List Tok). slice_get ts 1) line.1)) among))
  aside (inr (inr (e, limit))) = let m = mentioned_at s.terminals l rest q limit.name n.is limit.here in (m.0, inr (e, limit, same_word l name limit.name n.get m.1))

-- a terminal
pub start_terminal : (s : Setting) (l : TokenLine) (rest : List Tok) (old : Known) (bound : ℕ) (name : List ℕ) → Knows s.terminals s.before old → Named l rest bound name → is_some old.start ≡ false → Among name s.terminals → IsFirstOf DeclarationRows s l bound (record { place = 1; fault = fault.BadRule })
start_terminal s l rest old bound name k n o among =
    let line = start_line l rest bound name n in
    record {
      within = omega (arith, n.within);
      stands = inr (name, line.0, line.1, among, refl);
      least = λ f q row. (let r = name_rows s l rest old bound q name f k n o row in inr (sym r.0, second_row s l q f (all_rows f s l q row)));
    }

-- what another name mentioned before this place is known
known_before : (s : Setting) (l : TokenLine) (rest : List Tok) (old : Known) (q : ℕ) (other : List ℕ) → Knows s.terminals s.before old → IsStart l rest → q ≡ 1 → MentionedBefore s l q other → Among other (bytes_of old.nonterminals)
known_before s l rest old q other k is e (inl m) = k.mentioned other m
known_before s l rest old q other k is e (inr (p, less, m)) = absurd (let r = mentioned_at s.terminals l rest p other is m in omega (arith, r.0, less, e))

-- one name too many
pub start_full : (s : Setting) (l : TokenLine) (rest : List Tok) (old : Known) (bound : ℕ) (name : List ℕ) (f : LineFault) → Knows s.terminals s.before old → Named l rest bound name → is_some old.start ≡ false → (Among name s.terminals → ⊥)
    → (f ≡ fault.Limit which.Nonterminals) × (127 ≤ length (bytes_of old.nonterminals)) × (Among name (bytes_of old.nonterminals) → ⊥) → IsFirstOf DeclarationRows s l bound (record { place = 1; fault = f })
start_full s l rest old bound name f k n o free (e, many, new) =
    let line = start_line l rest bound name n in
    let limit : IsNonterminalLimit s l 1 = record {
      name = name;
      here = inl (line.0, line.1, refl);
      new = λ m. new (known_before s l rest old 1 name k n.is refl m);
      others = bytes_of old.nonterminals;
      many = many;
      once = k.mentioned_once;
      before = λ other a. inl (k.mentions other a);
    } in
    record {
      within = omega (arith, n.within);
      stands = rw e limit;
      least = λ g q row. (let r = name_rows s l rest old bound q name g k n o row in inr (sym r.0, settled g q r.1));
    } where
      settled : (g : LineFault) (q : ℕ) → ((g ≡ fault.BadRule) × Among name s.terminals) ⊎ ((g ≡ fault.Limit which.Nonterminals) × (limit : IsNonterminalLimit s l q) × (limit.name ≡ name)) → row_of f ≤ row_of g
      settled g q (inl h) = absurd (free h.1)
      settled g q (inr h) = rw (e, h.0) (omega arith)

-- a name that may be noted
pub start_fits : (s : Setting) (l : TokenLine) (rest : List Tok) (old : Known) (bound : ℕ) (name : List ℕ) → Knows s.terminals s.before old → Named l rest bound name → is_some old.start ≡ false → (Among name s.terminals → ⊥)
    → ((Among name (bytes_of old.nonterminals) → ⊥) → length (bytes_of old.nonterminals) < 127) → NoneOf DeclarationRows s l bound
start_fits s l rest old bound name k n o free room f q less row =
    let r = name_rows s l rest old bound q name f k n o row in
    elim r.1 [
      | inl h ↦ free h.1
      | inr h ↦ (
          let new : Among name (bytes_of old.nonterminals) → ⊥ = λ a. h.1.new (inl (k.mentions h.1.name (subst (λ (x : List ℕ). Among x (bytes_of old.nonterminals)) (sym h.2) a))) in
          let few = room new in
          let most = no_more h.1.others (bytes_of old.nonterminals) h.1.once (λ other a. known_before s l rest old q other k n.is r.0 (h.1.before other a)) in
          omega (arith, few, most, h.1.many)
          )
    ]
