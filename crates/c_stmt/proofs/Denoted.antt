-- What the reader of units gives before the first token is the unit that the source denotes.
use Rattle.std.proofs.Common.{◌≡◌, ◌≤◌, ◌↔◌, ℕ, Option, None, Some, List, Result, Ok, Err, IfOk, IfErr, inl, inr, sym, subst, ap, ◌∙◌}
use Rattle.c_ast.specs.declared.unit.Unit.{Unit as UnitValue}
use Rattle.c_ast.specs.Heights.{unit_height}
use Rattle.c_ast.specs.InForce.{nothing_in_force}
use Rattle.c_ast.specs.Lexemes.{Placed}
use Rattle.c_ast.specs.Levels.{FitsUnit}
use Rattle.c_ast.specs.Marks.{Runs}
use Rattle.c_ast.specs.Spell.{Denotes}
use Rattle.c_ast.specs.Trees.{UnitTree}
use Rattle.c_ast.specs.UnitMarks as marks
use Rattle.c_ast.specs.UnitViews.{unit_of}
use Rattle.c_lexer.specs.declared.lex_fault.LexFault.{LexFault}
use Rattle.c_lexer.specs.declared.token.Token.{Token}
use Rattle.c_lexer.specs.PlacedTokens.{placed}
use Rattle.c_lexer.specs.SourceUnits.{AreLexemes, DenotesUnit}
use Rattle.c_lexer.specs.Tokens.{first_place, AreTokens}
use Rattle.c_readings.specs.Exact.{RunsOn}
use Rattle.c_readings.specs.Reading.{State}
use Rattle.c_readings.specs.Readers.{readers}
use Rattle.c_readings.specs.UnitExact.{UnitsAreExact}
use Rattle.c_readings.specs.UnitReaders.{unit}
use Rattle.c_expr.specs.State.{MParser, ahead, line_at}
use Rattle.c_expr.specs.declared.syntax_fault.SyntaxFault.{SyntaxFault}
use Rattle.c_expr.specs.declared.syntax_fault.SyntaxFault.TheVariants.{NoParse, Memory, Lex}
use Rattle.c_decl.specs.Going.{Breaks, Fails}
use Rattle.c_stmt.specs.Seen.{unit_seen}
use Rattle.c_stmt.specs.Units.{Refuses}

abbrev start : List ℕ → List Token → State
start source ts = record { names = nothing_in_force; rest = placed source ts }

-- a parser before the first token
abbrev pub IsNew : List ℕ → MParser → Type 0
IsNew source p = p ≡ record { source = source; tokens = p.tokens; place = 0; names = nothing_in_force; fault = None }

begins : (source : List ℕ) (p : MParser) → IsNew source p → ahead p ≡ start source p.tokens
unfolding ahead
begins source p e = ap ahead e

no_memory : {line : ℕ} {C : Type 0} → NoParse line ≡ Memory → C
no_memory h = absurd cc

no_some : {A : Type 0} {a : A} {C : Type 0} → None ≡ Some a → C
no_some h = absurd cc

module _ (exact : UnitsAreExact readers 500) (runs : (ts : List Placed) (u : UnitTree) → Denotes ts u ↔ (FitsUnit u × (unit_height u ≤ 500) × Runs (marks.unit u) nothing_in_force ts)) (source : List ℕ) (p : MParser) (new : IsNew source p) (cut : AreTokens source first_place p.tokens None) (are : AreLexemes source p.tokens (placed source p.tokens)) (one : (ts us : List Token) (e f : Option LexFault) → AreTokens source first_place ts e → AreTokens source first_place us f → (ts ≡ us) × (e ≡ f)) (lexed : (ts : List Token) (ps qs : List Placed) → AreLexemes source ts ps → AreLexemes source ts qs → ps ≡ qs) where
  read_denotes : (u : UnitTree) (t : State) → unit readers 500 (ahead p) ≡ Some (u, t) → DenotesUnit source u
  read_denotes u t y =
      let f = exact.unit_fits (ahead p) u t y in
      record {
        tokens = p.tokens;
        placed = placed source p.tokens;
        cut = cut;
        are = are;
        denotes = (runs (placed source p.tokens) u).1 (f.0, f.1, subst (λ (s : State). RunsOn (marks.unit u) s) (begins source p new) f.2);
      }

  pub if_denoted : (behind : MParser) (r : Result UnitValue SyntaxFault) → IfOk r (λ u. unit readers 500 (ahead p) ≡ Some (unit_seen u, ahead behind)) → IfOk r (λ u. DenotesUnit source (unit_of u))
  unfolding unit_seen
  if_denoted behind (Ok u) y = read_denotes (unit_of u) (ahead behind) y
  if_denoted behind (Err e) y = tt

  denoted_read : (u : UnitTree) → DenotesUnit source u → unit readers 500 (ahead p) ≡ None → ⊥
  denoted_read u d y =
      let same : d.tokens ≡ p.tokens = (one d.tokens p.tokens None None d.cut cut).0 in
      let lexemes : d.placed ≡ placed source p.tokens = lexed p.tokens d.placed (placed source p.tokens) (subst (λ (ts : List Token). AreLexemes source ts d.placed) same d.are) are in
      let f = (runs (placed source p.tokens) u).0 (subst (λ (ps : List Placed). Denotes ps u) lexemes d.denotes) in
      let found = exact.unit_found (ahead p) u f.0 f.1 (subst (λ (s : State). RunsOn (marks.unit u) s) (sym (begins source p new)) f.2) in
      no_some (sym y ∙ found.1)

  pub if_refused : (behind : MParser) (r : Result UnitValue SyntaxFault) → IfErr r (λ e. Fails e (unit readers 500 (ahead p))) → IfErr r (λ e. Breaks p behind e) → IfErr r (λ e. Refuses source e)
  if_refused behind (Ok u) h b = tt
  if_refused behind (Err (NoParse line)) h b =
      let y : unit readers 500 (ahead p) ≡ None = elim h [ inl m ↦ no_memory m | inr n ↦ n ] in
      (p.tokens, cut, λ u d. denoted_read u d y, behind.place, b.4 ∙ ap (λ (ts : List Token). line_at ts behind.place) b.2)
  if_refused behind (Err Memory) h b = tt
  if_refused behind (Err (Lex fault)) h b = absurd b.4
