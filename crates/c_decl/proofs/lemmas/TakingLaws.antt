-- What an exact reader gives is taken, and where it gives nothing, nothing is, as lemmas for all calls of productions that are
-- made of several parts.
use Rattle.std.proofs.Common.{◌≡◌, ℕ, Option, None, Some, List, Result, Ok, Err, IfOk, IfErr, inl, inr, refl, sym, subst, ap, ◌∙◌}
use Rattle.c_lexer.specs.declared.token.Token.{Token}
use Rattle.c_readings.specs.Reading.{State, Read}
use Rattle.c_readings.specs.Exact.{Exact, Finds}
use Rattle.c_expr.specs.Productions.{Production, Stands}
use Rattle.c_expr.specs.State.{MParser, ahead, line_at, Took, Refused, Again, NoPiece, NoMemory}
use Rattle.c_expr.specs.declared.syntax_fault.SyntaxFault.{SyntaxFault}
use Rattle.c_expr.specs.declared.syntax_fault.SyntaxFault.TheVariants.{NoParse, Memory, Lex}
use Rattle.c_decl.specs.Going.{Goes, Breaks, Fails}

-- the reader of the production gives pieces alone, and each piece
abbrev pub IsExact : Production → Type 0
IsExact P = Exact P.spelled P.Fits P.goes_on P.high P.most P.least P.read

-- nothing but the place, the names and the fault changed
only_moved : (old new : MParser) (o : Option SyntaxFault) → new.source ≡ old.source → new.tokens ≡ old.tokens → new.fault ≡ o → new ≡ record old { place = new.place; names = new.names; fault = o }
only_moved old new o e f g =
    ap (λ (s : List ℕ). record { source = s; tokens = new.tokens; place = new.place; names = new.names; fault = new.fault }) e
    ∙ ap (λ (ts : List Token). record { source = old.source; tokens = ts; place = new.place; names = new.names; fault = new.fault }) f
    ∙ ap (λ (x : Option SyntaxFault). record { source = old.source; tokens = old.tokens; place = new.place; names = new.names; fault = x }) g

took : (P : Production) → IsExact P → (old new : MParser) (x : P.Tree) → old.fault ≡ None → P.read (ahead old) ≡ Some (x, ahead new) → Goes P.least old new → Took P (ahead old) old x new
took P e old new x f y g = record {
  taken = e.piece (ahead old) x (ahead new) y;
  reads = y;
  before = f;
  further = g.3;
  same = only_moved old new old.fault g.1 g.2 (g.0 ∙ sym f);
}

none_stands : (P : Production) → IsExact P → (s : State) → P.read s ≡ None → Stands P s → ⊥
none_stands P e s y st = subst (λ (o : Read P.Tree). Finds o st.tree st.others) y (e.found s st.tree st.others st.fits st.low st.stops st.runs)

no_memory : {line : ℕ} {C : Type 0} → NoParse line ≡ Memory → C
no_memory h = absurd cc

stopped : (P : Production) → IsExact P → (old new : MParser) (e : SyntaxFault) → old.fault ≡ None → Fails e (P.read (ahead old)) → Breaks old new e → Refused P (ahead old) old new e
stopped P x old new (NoParse line) f h b =
    let y : P.read (ahead old) ≡ None = elim h [ inl m ↦ no_memory m | inr n ↦ n ] in
    NoPiece line f (none_stands P x (ahead old) y) y b.3 (b.4 ∙ ap (λ (ts : List Token). line_at ts new.place) b.2) (only_moved old new (Some (NoParse line)) b.1 b.2 b.0)
stopped P x old new Memory f h b = NoMemory f b.3 (only_moved old new (Some Memory) b.1 b.2 b.0)
stopped P x old new (Lex fault) f h b = absurd b.4

-- ---- as a call answers

pub if_took : {V : Type 0} (P : Production) → IsExact P → (old new : MParser) (seen : V → P.Tree) (r : Result V SyntaxFault) → old.fault ≡ None → IfOk r (λ v. P.read (ahead old) ≡ Some (seen v, ahead new)) → IfOk r (λ v. Goes P.least old new) → IfOk r (λ v. Took P (ahead old) old (seen v) new)
if_took P e old new seen (Ok v) f y g = took P e old new (seen v) f y g
if_took P e old new seen (Err d) f y g = tt

pub if_stopped : {V : Type 0} (P : Production) → IsExact P → (old new : MParser) (r : Result V SyntaxFault) → old.fault ≡ None → IfErr r (λ e. Fails e (P.read (ahead old))) → IfErr r (λ e. Breaks old new e) → IfErr r (λ e. Refused P (ahead old) old new e)
if_stopped P x old new (Ok v) f h b = tt
if_stopped P x old new (Err e) f h b = stopped P x old new e f h b

-- ---- as a call for a production goes on or breaks off

pub took_goes : (P : Production) (old new : MParser) (x : P.Tree) → Took P (ahead old) old x new → Goes P.least old new
took_goes P old new x t = (ap (λ (q : MParser). q.fault) t.same ∙ t.before, ap (λ (q : MParser). q.source) t.same, ap (λ (q : MParser). q.tokens) t.same, t.further, t.taken.used)

no_fault : {fault : SyntaxFault} {C : Type 0} → Some fault ≡ None → C
no_fault h = absurd cc

pub refused_fails : (P : Production) (s : State) (old new : MParser) (e : SyntaxFault) → old.fault ≡ None → Refused P s old new e → Fails e (P.read s)
refused_fails P s old new e f (Again fault h k) = no_fault (sym h ∙ f)
refused_fails P s old new e f (NoPiece line a b c d i k) = inr c
refused_fails P s old new e f (NoMemory a b k) = inl refl

pub refused_breaks : (P : Production) (s : State) (old new : MParser) (e : SyntaxFault) → old.fault ≡ None → Refused P s old new e → Breaks old new e
refused_breaks P s old new e f (Again fault h k) = no_fault (sym h ∙ f)
refused_breaks P s old new e f (NoPiece line a b c d i k) =
    let same : new.tokens ≡ old.tokens = ap (λ (q : MParser). q.tokens) k in
    (ap (λ (q : MParser). q.fault) k, ap (λ (q : MParser). q.source) k, same, d, i ∙ ap (λ (ts : List Token). line_at ts new.place) (sym same))
refused_breaks P s old new e f (NoMemory a b k) = (ap (λ (q : MParser). q.fault) k, ap (λ (q : MParser). q.source) k, ap (λ (q : MParser). q.tokens) k, b, tt)
