-- The start symbol of a text.
use Rattle.std.proofs.Common.{◌≡◌, ℕ, ◌+◌, ◌<◌, zero, suc, codes, List, [], ◌∷◌, take, Option, Some, None, refl, sym, ap, subst, ◌∙◌, inl, inr, arith}
use Rattle.std.specs.Prelude.{slice_get, option_map, option_to_list}
use Rattle.std.specs.Str.{bytes_eq}
use Rattle.std.proofs.lemmas.Bool.{cases_lt, false≢true}
use Rattle.std.proofs.lemmas.Option.{none-some, same_Some}
use Rattle.lburg_lines.specs.declared.token.Border.TheVariants.{Divider, PrologueStart, PrologueEnd}
use Rattle.lburg_lines.specs.Tokens.{Tok, Word, Keyword, Bound}
use Rattle.lburg_lines.specs.Grammar.{MLine, Blank, Divides, Opens, Closes, Declared, Ruled, Starts, Declares, IsLine, terminal_tokens, rule_tokens}
use Rattle.lburg_lines.specs.Sections.{TokenLine}
use Rattle.lburg_faults.specs.declared.known.StartSymbol.{StartSymbol}
use Rattle.lburg_faults.specs.declared.line_fault.LineFault.TheVariants.{BadRule}
use Rattle.lburg_faults.specs.declared.desc_fault.DescFault.TheVariants as desc
use Rattle.lburg_faults.specs.Lines.{StartLine}
use Rattle.lburg_faults.specs.Terminals.{Among}
use Rattle.lburg_faults.specs.UnknownNonterminal.{IsLeft, IsUnruledStart}
use Rattle.lburg_faults.specs.Written.{AreWritten, starts_in}
use Rattle.lburg_faults.specs.Knowing.{IsStartIn}
use Rattle.lburg_faults.specs.FirstFault.{NoneStands, AllRuled, AtStart}
use Rattle.lburg_faults.proofs.TextFirst.{stands_at}
use Rattle.lburg_faults.proofs.TextWritten.{among_declarations}

-- ---- one line %start

take_get : {A : Type 0} (xs : List A) (i j : ℕ) → i < j → slice_get (take j xs) i ≡ slice_get xs i
take_get xs i zero h = absurd (omega arith)
take_get [] i (suc j) h = refl
take_get (x ∷ xs) zero (suc j) h = refl
take_get (x ∷ xs) (suc i) (suc j) h = take_get xs i j (omega arith)

no_second : (lines : List TokenLine) (i j : ℕ) (k l : TokenLine) (t u : List Tok) → NoneStands lines → slice_get lines i ≡ Some k → StartLine k t → slice_get lines j ≡ Some l → StartLine l u → i < j → ⊥
no_second lines i j k l t u none g s h v b =
    none _ (stands_at lines j l 0 BadRule h (inr (inl (u, t, i, k, v, take_get lines i j b ∙ g, s, refl))))

pub one_start : (lines : List TokenLine) (i j : ℕ) (k l : TokenLine) (t u : List Tok) → NoneStands lines → slice_get lines i ≡ Some k → StartLine k t → slice_get lines j ≡ Some l → StartLine l u → i ≡ j
one_start lines i j k l t u none g s h v = elim (cases_lt i j) [
  | inl b ↦ absurd (no_second lines i j k l t u none g s h v b)
  | inr b ↦ elim (cases_lt j i) [
    | inl d ↦ absurd (no_second lines j i l k u t none h v g s d)
    | inr d ↦ omega arith
  ]
]

-- ---- a start symbol without a rule

pub at_start : (lines : List TokenLine) (lefts : List (List ℕ)) (s : StartSymbol) (o : Option StartSymbol) (n : ℕ) → AllRuled lines → IsStartIn lines o → o ≡ Some s → ((x : List ℕ) → IsLeft lines x → Among x lefts) → (Among s.name.now lefts → ⊥) → s.line ≡ n → AtStart lines (desc.UnknownNonterminal n)
at_start lines lefts s o n ruled h e left a f =
    let P : Option StartSymbol → Type 0 = λ x. IsStartIn lines x in
    let k = subst P e h in
    let m : n ≡ k.0 + 1 = sym f ∙ k.5 in
    (k.0, ruled, (k.1, s.name.now, k.2, k.3, k.4, λ l. a (left s.name.now l)), ap desc.UnknownNonterminal m)

same_name : (a b : List ℕ) (t u : List Tok) (l k : TokenLine) → l ≡ k → StartLine l (Word a ∷ t) → StartLine k (Word b ∷ u) → a ≡ b
same_name a b t u l k e p q = let f : Keyword (codes "start") ∷ (Word a ∷ t) ≡ Keyword (codes "start") ∷ (Word b ∷ u) = sym p.1 ∙ ap (λ (x : TokenLine). x.tokens) e ∙ q.1 in cc

pub start_ruled : (lines : List TokenLine) (lefts : List (List ℕ)) (o : Option StartSymbol) → NoneStands lines → IsStartIn lines o → ((x : List ℕ) → Among x lefts → IsLeft lines x) → ((s : StartSymbol) → o ≡ Some s → Among s.name.now lefts) → (i : ℕ) → IsUnruledStart lines i → ⊥
start_ruled lines lefts None none h left f i u = h i u.0 (Word u.1 ∷ u.2) u.3 u.4
start_ruled lines lefts (Some s) none h left f i u =
    let e : i ≡ h.0 = one_start lines i h.0 u.0 h.1 (Word u.1 ∷ u.2) (Word s.name.now ∷ h.2) none u.3 u.4 h.3 h.4 in
    let P : ℕ → Type 0 = λ n. slice_get lines n ≡ Some u.0 in
    let k : u.0 ≡ h.1 = same_Some u.0 h.1 (sym (subst P e u.3) ∙ h.3) in
    let m = same_name u.1 s.name.now u.2 h.2 u.0 h.1 k u.4 h.4 in
    let Q : List ℕ → Type 0 = λ x. IsLeft lines x in
    u.5 (subst Q (sym m) (left s.name.now (f s refl)))

-- ---- what is written

start_line : (l : TokenLine) (n : List ℕ) → IsLine l.section l.tokens (Declared (Starts n)) → StartLine l (Word n ∷ [])
start_line l n p = (among_declarations l.section (Starts n) p.0, p.1)

abbrev NoStart : List TokenLine → Type 0
NoStart ls = (i : ℕ) (k : TokenLine) (t : List Tok) → slice_get ls i ≡ Some k → StartLine k t → ⊥

none_written : (ls : List TokenLine) (ws : List MLine) → AreWritten ls ws → NoStart ls → starts_in ws ≡ []
none_written [] [] p h = refl
none_written [] (w ∷ ws) p h = absurd p
none_written (l ∷ ls) [] p h = absurd p
none_written (l ∷ ls) (Declared (Starts n) ∷ ws) p h = absurd (h zero l (Word n ∷ []) refl (start_line l n p.0))
none_written (l ∷ ls) (Declared (Declares ts) ∷ ws) p h = none_written ls ws p.1 (λ i k t g s. h (suc i) k t g s)
none_written (l ∷ ls) (Blank ∷ ws) p h = none_written ls ws p.1 (λ i k t g s. h (suc i) k t g s)
none_written (l ∷ ls) (Divides ∷ ws) p h = none_written ls ws p.1 (λ i k t g s. h (suc i) k t g s)
none_written (l ∷ ls) (Opens ∷ ws) p h = none_written ls ws p.1 (λ i k t g s. h (suc i) k t g s)
none_written (l ∷ ls) (Closes ∷ ws) p h = none_written ls ws p.1 (λ i k t g s. h (suc i) k t g s)
none_written (l ∷ ls) (Ruled r ∷ ws) p h = none_written ls ws p.1 (λ i k t g s. h (suc i) k t g s)

-- the line with this place is the only line %start
abbrev OneStart : List TokenLine → ℕ → Type 0
OneStart ls i = (j : ℕ) (k : TokenLine) (t : List Tok) → slice_get ls j ≡ Some k → StartLine k t → j ≡ i

other_keyword : (t u : List Tok) → Keyword (codes "term") ∷ t ≡ Keyword (codes "start") ∷ u → ⊥
other_keyword t u e =
    let f : codes "term" ≡ codes "start" = cc in
    false≢true (ap (λ x. bytes_eq x (codes "start")) f)

first_written : (l : TokenLine) (w : MLine) (ws : List MLine) (name : List ℕ) (t : List Tok) → IsLine l.section l.tokens w → StartLine l (Word name ∷ t) → starts_in ws ≡ [] → starts_in (w ∷ ws) ≡ name ∷ []
first_written l Blank ws name t p s e = let f : [] ≡ Keyword (codes "start") ∷ (Word name ∷ t) = sym p.1 ∙ s.1 in absurd cc
first_written l Divides ws name t p s e = let f : Bound Divider ∷ [] ≡ Keyword (codes "start") ∷ (Word name ∷ t) = sym p.1 ∙ s.1 in absurd cc
first_written l Opens ws name t p s e = let f : Bound PrologueStart ∷ [] ≡ Keyword (codes "start") ∷ (Word name ∷ t) = sym p.1 ∙ s.1 in absurd cc
first_written l Closes ws name t p s e = let f : Bound PrologueEnd ∷ [] ≡ Keyword (codes "start") ∷ (Word name ∷ t) = sym p.1 ∙ s.1 in absurd cc
first_written l (Ruled r) ws name t p s e = let f : rule_tokens r ≡ Keyword (codes "start") ∷ (Word name ∷ t) = sym p.1 ∙ s.1 in absurd cc
first_written l (Declared (Declares ts)) ws name t p s e = absurd (other_keyword (terminal_tokens ts) (Word name ∷ t) (sym p.1 ∙ s.1))
first_written l (Declared (Starts n)) ws name t p s e =
    let f : Keyword (codes "start") ∷ (Word n ∷ []) ≡ Keyword (codes "start") ∷ (Word name ∷ t) = sym p.1 ∙ s.1 in
    let g : n ≡ name = cc in
    ap (λ (x : List ℕ). x ∷ starts_in ws) g ∙ ap (λ (xs : List (List ℕ)). name ∷ xs) e

one_written : (ls : List TokenLine) (ws : List MLine) (i : ℕ) (k : TokenLine) (name : List ℕ) (t : List Tok) → AreWritten ls ws → slice_get ls i ≡ Some k → StartLine k (Word name ∷ t) → OneStart ls i → starts_in ws ≡ name ∷ []
one_written [] ws i k name t p g s h = absurd (none-some k g)
one_written (l ∷ ls) [] i k name t p g s h = absurd p
one_written (l ∷ ls) (w ∷ ws) zero k name t p g s h =
    let P : TokenLine → Type 0 = λ x. StartLine x (Word name ∷ t) in
    first_written l w ws name t p.0 (subst P (sym (same_Some l k g)) s) (none_written ls ws p.1 (λ j y u b v. (let e = h (suc j) y u b v in absurd (omega arith))))
one_written (l ∷ ls) (Declared (Starts n) ∷ ws) (suc i) k name t p g s h = (let e = h zero l (Word n ∷ []) refl (start_line l n p.0) in absurd (omega arith))
one_written (l ∷ ls) (Declared (Declares ts) ∷ ws) (suc i) k name t p g s h = one_written ls ws i k name t p.1 g s (λ j y u b v. (let e = h (suc j) y u b v in omega arith))
one_written (l ∷ ls) (Blank ∷ ws) (suc i) k name t p g s h = one_written ls ws i k name t p.1 g s (λ j y u b v. (let e = h (suc j) y u b v in omega arith))
one_written (l ∷ ls) (Divides ∷ ws) (suc i) k name t p g s h = one_written ls ws i k name t p.1 g s (λ j y u b v. (let e = h (suc j) y u b v in omega arith))
one_written (l ∷ ls) (Opens ∷ ws) (suc i) k name t p g s h = one_written ls ws i k name t p.1 g s (λ j y u b v. (let e = h (suc j) y u b v in omega arith))
one_written (l ∷ ls) (Closes ∷ ws) (suc i) k name t p g s h = one_written ls ws i k name t p.1 g s (λ j y u b v. (let e = h (suc j) y u b v in omega arith))
one_written (l ∷ ls) (Ruled r ∷ ws) (suc i) k name t p g s h = one_written ls ws i k name t p.1 g s (λ j y u b v. (let e = h (suc j) y u b v in omega arith))

-- the start symbol that is known is the one that is written
pub start_written : (lines : List TokenLine) (ws : List MLine) (o : Option StartSymbol) → NoneStands lines → AreWritten lines ws → IsStartIn lines o → option_to_list (option_map (λ (s : StartSymbol). s.name.now) o) ≡ starts_in ws
start_written lines ws None none p h = sym (none_written lines ws p h)
start_written lines ws (Some s) none p h = sym (one_written lines ws h.0 h.1 s.name.now h.2 p h.3 h.4 (λ j k t g v. one_start lines j h.0 k h.1 t (Word s.name.now ∷ h.2) none g v h.3 h.4))
