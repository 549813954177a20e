-- How a line ends: whole, where it breaks, or as a front of it does.
use Rattle.std.proofs.Common.{◌≡◌, ◌≤◌, ◌<◌, ◌+◌, ◌-◌, inl, inr, ℕ, true, false, Bool, List, [], ◌∷◌, ◌++◌, length, take, drop, refl, sym, ap, ◌∙◌, subst, arith, append_assoc}
use Rattle.std.specs.declared.result.Result.{Result}
use Rattle.std.specs.declared.result.Result.TheVariants.{Ok, Err}
use Rattle.std.proofs.lemmas.Option.{slice_get_within}
use Rattle.std.proofs.lemmas.List.{take-append-drop, length-take-le, length-append, length-map, take-take, take_at, take_all, append-nil}
use Rattle.std.proofs.lemmas.Bool.{cases_lt}
use Rattle.lcc_base.specs.declared.which.Which.TheVariants as which
use Rattle.lcc_text.specs.Decimal.{value_of}
use Rattle.lcc_text.specs.Stops.{next}
use Rattle.lburg_lines.specs.declared.line.Line.{Line}
use Rattle.lburg_lines.specs.declared.section.Section.{Section}
use Rattle.lburg_lines.specs.declared.section.Section.TheVariants.{Rules}
use Rattle.lburg_lines.specs.declared.read_error.ReadError.TheVariants.{Stuck}
use Rattle.lburg_lines.specs.declared.token.Token.{Token}
use Rattle.lburg_lines.specs.Tokens.{Tok, view, views}
use Rattle.lburg_lines.specs.Grammar.{MLine, MRule, Fixed, Ruled, IsLine, line_of, AreLineOf}
use Rattle.lburg_lines.specs.Readings.{LineFault as LineFaults}
use Rattle.lburg_lines.specs.Sections.{TokenLine}
use Rattle.lburg_faults.specs.declared.line_fault.LineFault.{LineFault}
use Rattle.lburg_faults.specs.declared.line_fault.LineFault.TheVariants as fault
use Rattle.lburg_faults.specs.declared.ending.Ending.{Ending}
use Rattle.lburg_faults.specs.Lines.{has_template, words_in}
use Rattle.lburg_faults.specs.BadToken.{IsBadToken}
use Rattle.lburg_faults.specs.Breaks.{Breaks}
use Rattle.lburg_faults.specs.Limits.{IsPatternLimit}
use Rattle.lburg_faults.specs.Grammatical.{IsBegun, IsSmall, EndsAt, EndsAs, IsEnding}
use Rattle.lburg_faults.proofs.EndingTokens.{get_take}
use Rattle.lburg_faults.proofs.EndingNodes.{of_rules}

-- ---- whole lines

pub whole_ending : (section : Section) (ts : List Token) (line : Line) → IsLine section (views ts) (line_of line)
    → ((r : MRule) (digits : List ℕ) → line_of line ≡ Ruled r → r.cost ≡ Fixed digits → 32766 < value_of digits → ⊥)
    → ((a b : MLine) → IsLine section (views ts) a → IsLine section (views ts) b → a ≡ b)
    → IsEnding (record { section = section; tokens = views ts }) (record { bound = length ts; line = Ok line })
whole_ending section ts line is cheap one = record {
  bound = let e = length-map ts view in omega arith;
  ends = (sym (length-map ts view), is, λ place h. (let s : section ≡ Rules = h.2 in cheap h.0 h.1 (one (line_of line) (Ruled h.0) is (subst (λ (x : Section). IsLine x (views ts) (Ruled h.0)) (sym s) h.3)) h.4 h.5));
}

-- ---- breaks

pub left_within : (section : Section) (ts : List Token) (left : ℕ) → LineFaults section (Stuck left) (views ts) → left ≤ length ts
left_within section ts left h =
    let e = h.1 in
    let f = ap length h.2.parts in
    omega (arith, length-append h.2.front h.0, length-map ts view)

pub stuck_breaks : (section : Section) (ts : List Token) (left : ℕ) → LineFaults section (Stuck left) (views ts) → Breaks (record { section = section; tokens = views ts }) (length ts - left)
stuck_breaks section ts left h =
    let e = h.1 in
    let f = ap length h.2.parts in
    (h.0, h.2, omega (arith, length-append h.2.front h.0, length-map ts view))

pub stuck_ending : (section : Section) (ts : List Token) (left : ℕ) (f : LineFault) → EndsAt (record { section = section; tokens = views ts }) (length ts - left) f
    → IsEnding (record { section = section; tokens = views ts }) (record { bound = length ts - left; line = Err f })
stuck_ending section ts left f h = record {
  bound = let e = length-map ts view in omega arith;
  ends = h;
}

-- ---- fronts of lines

next_front : (xs ys : List Tok) → 0 < length xs → next (xs ++ ys) ≡ next xs
next_front [] ys h = absurd (omega arith)
next_front (x ∷ xs) ys h = refl

-- a break within a front is one of the whole line
front_breaks : (ts : List Tok) (n bound : ℕ) → n ≤ length ts → bound < n → Breaks (of_rules (take n ts)) bound → Breaks (of_rules ts) bound
front_breaks ts n bound h k b =
    let s = b.1 in
    let e = ap length s.parts in
    let p = b.2 in
    let m : 0 < length b.0 = omega (arith, length-append s.front b.0, length-take-le n ts h) in (
      b.0 ++ drop n ts,
      record {
        front = s.front;
        parts = sym (take-append-drop n ts) ∙ ap (λ (l : List Tok). l ++ drop n ts) s.parts ∙ append_assoc s.front b.0 (drop n ts);
        begun = s.begun;
        stuck = λ more is f. s.stuck more is (f ∙ next_front b.0 (drop n ts) m);
      },
      b.2,
    )

front_bad : (ts : List Tok) (n bound : ℕ) → bound < n → IsBadToken (of_rules (take n ts)) bound → IsBadToken (of_rules ts) bound
front_bad ts n bound k b = (b.0, sym (get_take ts n bound k) ∙ b.1, b.2)

front_good : (ts : List Tok) (n bound : ℕ) → bound < n → (IsBadToken (of_rules (take n ts)) bound → ⊥) → IsBadToken (of_rules ts) bound → ⊥
front_good ts n bound k h b = h (b.0, get_take ts n bound k ∙ b.1, b.2)

take_front : (ts : List Tok) (n m : ℕ) → m ≤ n → take m (take n ts) ≡ take m ts
take_front ts n m h = take-take m n ts h

front_template : (ts : List Tok) (n bound : ℕ) (b : Bool) → bound < n → has_template (take bound (take n ts)) ≡ b → has_template (take bound ts) ≡ b
front_template ts n bound b k h = ap has_template (sym (take_front ts n bound (omega arith))) ∙ h

front_begun : (ts : List Tok) (n bound : ℕ) → bound ≤ n → IsBegun (of_rules (take n ts)) bound → IsBegun (of_rules ts) bound
front_begun ts n bound h b = (b.0, subst (λ (l : List Tok). AreLineOf Rules (l ++ b.0)) (take_front ts n bound h) b.1)

front_limit : (ts : List Tok) (n place : ℕ) → place < n → IsPatternLimit (of_rules (take n ts)) place → IsPatternLimit (of_rules ts) place
front_limit ts n place h p =
    let e = take_front ts n place (omega arith) in
    let i = p.1 in
    (p.0, (i.0, i.1, ap has_template (sym e) ∙ i.2), sym (get_take ts n place h) ∙ p.2, subst (λ (l : List Tok). 16 ≤ words_in (drop 2 l)) e p.3)

front_ends : (ts : List Tok) (n bound : ℕ) (line : Result Line LineFault) → n ≤ length ts → bound < n → EndsAs (of_rules (take n ts)) bound line → EndsAs (of_rules ts) bound line
front_ends ts n bound (Ok line) h k e = absurd (let a = e.0 in omega (arith, length-take-le n ts h))
front_ends ts n bound (Err fault.BadToken) h k e = (front_breaks ts n bound h k e.0, front_bad ts n bound k e.1)
front_ends ts n bound (Err fault.BadRule) h k e = (front_breaks ts n bound h k e.0, front_good ts n bound k e.1, front_template ts n bound false k e.2)
front_ends ts n bound (Err fault.CostForm) h k e = (front_breaks ts n bound h k e.0, front_good ts n bound k e.1, front_template ts n bound true k e.2)
front_ends ts n bound (Err fault.CostTooLarge) h k e = absurd (let a = e.1.6 in omega (arith, length-take-le n ts h))
front_ends ts n bound (Err (fault.Limit which.Pattern)) h k e = (let a = e.1 in (e.0, e.1, front_begun ts n bound (omega arith) e.2, front_limit ts n e.0 (omega arith) e.3))
front_ends ts n bound (Err other) h k e = absurd e

-- ---- what ends begins

begun_at : (l : TokenLine) (bound : ℕ) → Breaks l bound → IsBegun l bound
begun_at l bound b =
    let s = b.1 in
    let e : take bound l.tokens ≡ s.front = ap (take bound) s.parts ∙ take_at s.front b.0 bound b.2 in
    (s.begun.0, subst (λ (f : List Tok). AreLineOf l.section (f ++ s.begun.0)) (sym e) s.begun.1)

begun_whole : (l : TokenLine) (bound : ℕ) → length l.tokens ≤ bound → AreLineOf l.section l.tokens → IsBegun l bound
begun_whole l bound h is = ([], subst (AreLineOf l.section) (sym (append-nil (take bound l.tokens) ∙ take_all bound l.tokens h)) is)

ends_begun : (l : TokenLine) (bound : ℕ) (line : Result Line LineFault) → EndsAs l bound line → IsBegun l bound
ends_begun l bound (Ok line) e = (let a = e.0 in begun_whole l bound (omega arith) (line_of line, e.1))
ends_begun l bound (Err fault.BadToken) e = begun_at l bound e.0
ends_begun l bound (Err fault.BadRule) e = begun_at l bound e.0
ends_begun l bound (Err fault.CostForm) e = begun_at l bound e.0
ends_begun l bound (Err fault.CostTooLarge) e = (let a = e.1.6 in begun_whole l bound (omega arith) e.0)
ends_begun l bound (Err (fault.Limit which.Pattern)) e = e.2
ends_begun l bound (Err other) e = absurd e

pub ending_begun : (l : TokenLine) (e : Ending) → IsEnding l e → IsBegun l e.bound
ending_begun l e h = ends_begun l e.bound e.line h.ends

-- ---- rules with a node too many

pub front_ending : (ts : List Tok) (place : ℕ) (e : Ending) → place < length ts → e.bound ≤ place → IsEnding (of_rules (take (place + 1) ts)) e → IsEnding (of_rules ts) e
front_ending ts place e h k is = record {
  bound = omega arith;
  ends = front_ends ts (place + 1) e.bound e.line (omega arith) (omega arith) is.ends;
}

pub limit_ending : (ts : List Tok) (place : ℕ) (e : Ending) → IsPatternLimit (of_rules ts) place → place < e.bound → IsEnding (of_rules (take (place + 1) ts)) e
    → IsEnding (of_rules ts) (record { bound = place + 1; line = Err (fault.Limit which.Pattern) })
limit_ending ts place e p h is =
    let w = slice_get_within ts place _ p.2 in
    let n : length (take (place + 1) ts) ≡ place + 1 = length-take-le (place + 1) ts (omega arith) in
    let m = is.bound in
    let b : e.bound ≡ place + 1 = omega arith in
    record {
      bound = omega arith;
      ends = (place, refl, front_begun ts (place + 1) (place + 1) (omega arith) (subst (λ (x : ℕ). IsBegun (of_rules (take (place + 1) ts)) x) b (ending_begun _ e is)), p);
    }

-- a node too many before the bound is the fault
abbrev pub Alone : TokenLine → Ending → Type 0
Alone l e = (place : ℕ) → place < e.bound → IsPatternLimit l place → (e.bound ≡ place + 1) × (e.line ≡ Err (fault.Limit which.Pattern))

pub alone_none : (ts : List Token) (e : Ending) → IsEnding (of_rules (views ts)) e → IsSmall (of_rules (views ts)) (length ts) → Alone (of_rules (views ts)) e
alone_none ts e is h = λ place l p. absurd (h place (let b = is.bound in let n = length-map ts view in omega arith) p)

pub alone_small : (l : TokenLine) (bound : ℕ) (e : Ending) → IsSmall l bound → e.bound ≤ bound → Alone l e
alone_small l bound e h k = λ place m p. absurd (h place (omega arith) p)

pub alone_limit : (l : TokenLine) (place : ℕ) → IsSmall l place → Alone l (record { bound = place + 1; line = Err (fault.Limit which.Pattern) })
alone_limit l place h = λ q m p. elim (cases_lt q place) [
  | inl k ↦ absurd (h q k p)
  | inr k ↦ (omega arith, refl)
]
