-- The names and numbers among the tokens of a line, token by token.
use Rattle.std.proofs.Common.{◌≡◌, ◌<◌, ◌⊎◌, inl, inr, ℕ, ◌+◌, zero, suc, List, [], ◌∷◌, ◌++◌, map, take, Option, Some, None, refl, sym, ap, ◌∙◌, subst, length, append_assoc, add-one, get_or, arith}
use Rattle.std.specs.Prelude.{slice_get, option_map}
use Rattle.std.specs.Option.{IfNone}
use Rattle.lburg_lines.specs.declared.token.Token.{Token}
use Rattle.lburg_faults.specs.declared.line_fault.LineFault.{LineFault}
use Rattle.std.proofs.lemmas.Option.{none-some, same_Some, slice_get-map, slice_get-get_or}
use Rattle.std.proofs.lemmas.List.{append-nil, map-append}
use Rattle.lcc_text.specs.Decimal.{value_of}
use Rattle.lcc_text.specs.Names.{bytes_of}
use Rattle.lburg_lines.specs.Tokens.{Tok, Word, Number, Negative, Template, Keyword, Mark, Bound, Wrong, view, views}
use Rattle.lburg_faults.specs.declared.known.Known.{Known}
use Rattle.lburg_faults.specs.Declaring.{names_among, numbers_among, TokenFits, FitBefore, Adds}

take_suc : {A : Type 0} (xs : List A) (p : ℕ) (x : A) → slice_get xs p ≡ Some x → take (suc p) xs ≡ take p xs ++ x ∷ []
take_suc [] p x h = absurd (none-some x h)
take_suc (y ∷ xs) zero x h = ap (λ z. z ∷ []) (same_Some y x h)
take_suc (y ∷ xs) (suc p) x h = ap (λ zs. y ∷ zs) (take_suc xs p x h)

-- one more
pub take_more : {A : Type 0} (xs : List A) (p : ℕ) (x : A) → slice_get xs p ≡ Some x → take (p + 1) xs ≡ take p xs ++ x ∷ []
take_more xs p x h = rw add-one (take_suc xs p x h)

pub names_append : (a b : List Tok) → names_among (a ++ b) ≡ names_among a ++ names_among b
names_append [] b = refl
names_append (Word n ∷ a) b = ap (λ (x : List (List ℕ)). n ∷ x) (names_append a b)
names_append (Number d ∷ a) b = names_append a b
names_append (Negative d ∷ a) b = names_append a b
names_append (Template t ∷ a) b = names_append a b
names_append (Keyword k ∷ a) b = names_append a b
names_append (Mark s ∷ a) b = names_append a b
names_append (Bound x ∷ a) b = names_append a b
names_append (Wrong ∷ a) b = names_append a b

pub numbers_append : (a b : List Tok) → numbers_among (a ++ b) ≡ numbers_among a ++ numbers_among b
numbers_append [] b = refl
numbers_append (Word n ∷ a) b = numbers_append a b
numbers_append (Number d ∷ a) b = ap (λ (x : List ℕ). value_of d ∷ x) (numbers_append a b)
numbers_append (Negative d ∷ a) b = numbers_append a b
numbers_append (Template t ∷ a) b = numbers_append a b
numbers_append (Keyword k ∷ a) b = numbers_append a b
numbers_append (Mark s ∷ a) b = numbers_append a b
numbers_append (Bound x ∷ a) b = numbers_append a b
numbers_append (Wrong ∷ a) b = numbers_append a b

pub adds_none : (k : Known) → Adds [] k k
adds_none k = record {
  names = sym (append-nil (bytes_of k.terminals));
  numbers = sym (append-nil k.numbers.keys);
  arities = sym (append-nil k.arities.items);
  nonterminals = refl;
  start = refl;
  rules = refl;
}

joined : {A : Type 0} (old mid new a b ab : List A) → mid ≡ old ++ a → new ≡ mid ++ b → ab ≡ a ++ b → new ≡ old ++ ab
joined old mid new a b ab e f g = f ∙ ap (λ xs. xs ++ b) e ∙ append_assoc old a b ∙ ap (λ xs. old ++ xs) (sym g)

pub adds_more : (a b : List Tok) (old mid new : Known) → Adds a old mid → Adds b mid new → Adds (a ++ b) old new
adds_more a b old mid new x y = record {
  names = joined (bytes_of old.terminals) (bytes_of mid.terminals) (bytes_of new.terminals) (names_among a) (names_among b) (names_among (a ++ b)) x.names y.names (names_append a b);
  numbers = joined old.numbers.keys mid.numbers.keys new.numbers.keys (numbers_among a) (numbers_among b) (numbers_among (a ++ b)) x.numbers y.numbers (numbers_append a b);
  arities = joined old.arities.items mid.arities.items new.arities.items (map (λ _. None) (names_among a)) (map (λ _. None) (names_among b)) (map (λ _. None) (names_among (a ++ b))) x.arities y.arities (ap (λ (ns : List (List ℕ)). map (λ _. None) ns) (names_append a b) ∙ map-append (λ _. None) (names_among a) (names_among b));
  nonterminals = y.nonterminals ∙ x.nonterminals;
  start = y.start ∙ x.start;
  rules = y.rules ∙ x.rules;
}

-- one more token that fits
pub fit_more : (names : List (List ℕ)) (numbers : List ℕ) (tokens : List Tok) (place : ℕ) (token : Tok) → slice_get tokens place ≡ Some token → FitBefore names numbers tokens place → TokenFits (names ++ names_among (take place tokens)) (numbers ++ numbers_among (take place tokens)) token → FitBefore names numbers tokens (place + 1)
fit_more names numbers tokens place token e before fits q other h g = elim (below q place h) [
  | inl l ↦ before q other l g
  | inr is ↦ subst (λ (x : Tok). TokenFits (names ++ names_among (take q tokens)) (numbers ++ numbers_among (take q tokens)) x) (same_Some token other (sym e ∙ ap (λ (n : ℕ). slice_get tokens n) (sym is) ∙ g)) (rw is fits)
] where
  below : (q place : ℕ) → q < place + 1 → (q < place) ⊎ (q ≡ place)
  below q place h = grind arith

at_none : {A : Type 0} (f : Option A) (P : Type 0) → f ≡ None → IfNone f P → P
at_none None P e h = h
at_none (Some x) P e h = absurd (none-some x (sym e))

-- a token that has no fault is added
pub terms_more : (tokens : List Token) (place : ℕ) (default : Token) (f : Option LineFault) (old mid new : Known) → place < length tokens → f ≡ None
    → IfNone f (TokenFits (bytes_of mid.terminals) mid.numbers.keys (view (get_or tokens place default))) → IfNone f (Adds (view (get_or tokens place default) ∷ []) mid new)
    → FitBefore (bytes_of old.terminals) old.numbers.keys (views tokens) place → Adds (take place (views tokens)) old mid
    → FitBefore (bytes_of old.terminals) old.numbers.keys (views tokens) (place + 1) × Adds (take (place + 1) (views tokens)) old new
terms_more tokens place default f old mid new h n fits adds before so_far =
    let token : Tok = view (get_or tokens place default) in
    let here : slice_get (views tokens) place ≡ Some token = slice_get-map view tokens place ∙ ap (option_map view) (slice_get-get_or tokens place default h) in
    let fit : TokenFits (bytes_of mid.terminals) mid.numbers.keys token = at_none f _ n fits in
    let add : Adds (token ∷ []) mid new = at_none f _ n adds in (
      fit_more (bytes_of old.terminals) old.numbers.keys (views tokens) place token here before (subst (λ (ns : List (List ℕ)). TokenFits ns (old.numbers.keys ++ numbers_among (take place (views tokens))) token) so_far.names (subst (λ (ks : List ℕ). TokenFits (bytes_of mid.terminals) ks token) so_far.numbers fit)),
      rw (take_more (views tokens) place token here) (adds_more (take place (views tokens)) (token ∷ []) old mid new so_far add),
    )
