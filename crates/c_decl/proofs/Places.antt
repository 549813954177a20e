-- The tokens at and behind a parser's place, as what is left ahead of it.
use Rattle.std.proofs.Common.{◌≡◌, ◌≤◌, ◌<◌, ◌+◌, ℕ, zero, Bool, true, false, Result, Ok, Err, OnOk, suc, Option, Some, None, List, [], ◌∷◌, length, drop, drop-drop, slice_get, IfSome, IfNone, refl, sym, subst, ap, ◌∙◌, arith}
use Rattle.std.proofs.lemmas.Option.{slice_get_within}
use Rattle.std.specs.Result.{is_err}
use Rattle.c_ast.specs.InForce.{InForce, put, opened, closed, reopened}
use Rattle.c_ast.specs.Lexemes.{Placed}
use Rattle.c_lexer.specs.declared.token.Token.{Token}
use Rattle.c_lexer.specs.PlacedTokens.{placed, placed_of}
use Rattle.c_readings.specs.Reading.{State, tail, beyond, open_state, close_state, reopen_state, put_state}
use Rattle.c_expr.specs.State.{MParser, ahead}
use Rattle.c_decl.specs.Going.{Goes}

-- ---- tokens behind a place

there : (source : List ℕ) (ts : List Token) (n : ℕ) (t : Token) → slice_get ts n ≡ Some t → placed source (drop n ts) ≡ placed_of source t ∷ tail (placed source (drop n ts))
there source [] n t h = absurd cc
there source (u ∷ ts) zero t h = let e : u ≡ t = some_same u t h in ap (λ x. placed_of source x ∷ placed source ts) e
  where
    some_same : (a b : Token) → Some a ≡ Some b → a ≡ b
    some_same a b e = cc
there source (u ∷ ts) (suc n) t h = there source ts n t h

nothing_there : (source : List ℕ) (ts : List Token) (n : ℕ) → slice_get ts n ≡ None → placed source (drop n ts) ≡ []
nothing_there source [] zero h = refl
nothing_there source [] (suc n) h = refl
nothing_there source (u ∷ ts) zero h = absurd cc
nothing_there source (u ∷ ts) (suc n) h = nothing_there source ts n h

tail_is : (source : List ℕ) (ts : List Token) → tail (placed source ts) ≡ placed source (drop 1 ts)
tail_is source [] = refl
tail_is source (t ∷ ts) = refl

one_on : (source : List ℕ) (ts : List Token) (n : ℕ) → placed source (drop (n + 1) ts) ≡ tail (placed source (drop n ts))
one_on source ts n = sym (tail_is source (drop n ts) ∙ ap (placed source) (drop-drop 1 n ts))

-- ---- the same ahead of a parser

pub first_there : (p : MParser) (t : Token) → slice_get p.tokens p.place ≡ Some t → (ahead p).rest ≡ placed_of p.source t ∷ (beyond (ahead p)).rest
unfolding ahead
first_there p t h = there p.source p.tokens p.place t h

pub none_there : (p : MParser) → slice_get p.tokens p.place ≡ None → (ahead p).rest ≡ []
unfolding ahead
none_there p h = nothing_there p.source p.tokens p.place h

pub second_there : (p : MParser) (t : Token) → slice_get p.tokens (p.place + 1) ≡ Some t → (beyond (ahead p)).rest ≡ placed_of p.source t ∷ (beyond (beyond (ahead p))).rest
unfolding ahead
second_there p t h =
    let e = one_on p.source p.tokens p.place in
    subst (λ (ts : List Placed). ts ≡ placed_of p.source t ∷ tail ts) e (there p.source p.tokens (p.place + 1) t h)

pub no_second : (p : MParser) → slice_get p.tokens (p.place + 1) ≡ None → (beyond (ahead p)).rest ≡ []
unfolding ahead
no_second p h = sym (one_on p.source p.tokens p.place) ∙ nothing_there p.source p.tokens (p.place + 1) h

-- as the calls that tell a token answer it

pub some_first : (p : MParser) (r : Option Token) → r ≡ slice_get p.tokens p.place → IfSome r (λ t. (ahead p).rest ≡ placed_of p.source t ∷ (beyond (ahead p)).rest)
some_first p None h = tt
some_first p (Some t) h = first_there p t (sym h)

pub no_first : (p : MParser) (r : Option Token) → r ≡ slice_get p.tokens p.place → IfNone r ((ahead p).rest ≡ [])
no_first p None h = none_there p (sym h)
no_first p (Some t) h = tt

pub first_left : (p : MParser) (r : Option Token) → r ≡ slice_get p.tokens p.place → IfSome r (λ t. p.place < length p.tokens)
first_left p None h = tt
first_left p (Some t) h = slice_get_within p.tokens p.place t (sym h)

pub some_second : (p : MParser) (r : Option Token) → r ≡ slice_get p.tokens (p.place + 1) → IfSome r (λ t. (beyond (ahead p)).rest ≡ placed_of p.source t ∷ (beyond (beyond (ahead p))).rest)
some_second p None h = tt
some_second p (Some t) h = second_there p t (sym h)

pub none_second : (p : MParser) (r : Option Token) → r ≡ slice_get p.tokens (p.place + 1) → IfNone r ((beyond (ahead p)).rest ≡ [])
none_second p None h = no_second p (sym h)
none_second p (Some t) h = tt

-- what holds where a call answered no error
pub where_ok : {E : Type 0} {C : Type 0} (r : Result (Unit {0}) E) (b : Bool) → b ≡ is_err r → b ≡ false → OnOk r C → C
where_ok (Ok u) b e f h = h
where_ok (Err x) b e f h = let g : false ≡ true = sym f ∙ e in absurd cc

-- ---- steps

pub passed : (p : MParser) → ahead record p { place = p.place + 1 } ≡ beyond (ahead p)
unfolding ahead
passed p = ap (λ ts. record { names = p.names; rest = ts }) (one_on p.source p.tokens p.place)

pub opened_ahead : (p : MParser) → ahead record p { names = opened p.names } ≡ open_state (ahead p)
unfolding ahead
opened_ahead p = refl

pub closed_ahead : (p : MParser) → ahead record p { names = closed p.names } ≡ close_state false (ahead p)
unfolding ahead
closed_ahead p = refl

pub reopened_ahead : (p : MParser) → ahead record p { names = reopened p.names } ≡ reopen_state (ahead p)
unfolding ahead
reopened_ahead p = refl

pub put_ahead : (p : MParser) (n : List ℕ) (typedef : _) → ahead record p { names = put p.names n typedef } ≡ put_state (Some n) typedef (ahead p)
unfolding ahead
put_ahead p n typedef = refl

-- ---- how many tokens are left

some_left : (source : List ℕ) (ts : List Token) (n : ℕ) → n < length ts → length (tail (placed source (drop n ts))) + 1 ≤ length (placed source (drop n ts))
some_left source [] n h = absurd (omega (arith, h))
some_left source (t ∷ ts) zero h = omega arith
some_left source (t ∷ ts) (suc n) h = some_left source ts n (omega (arith, h))

-- one less behind the next token
pub one_less : (p : MParser) → p.place < length p.tokens → length (beyond (ahead p)).rest + 1 ≤ length (ahead p).rest
unfolding ahead
one_less p h = some_left p.source p.tokens p.place h

-- ---- how a parser goes on by a step

pub goes_one : (old new : MParser) → old.fault ≡ None → old.place < length old.tokens → new ≡ record old { place = old.place + 1 } → Goes 1 old new
goes_one old new f h e = subst (λ (p : MParser). Goes 1 old p) (sym e) (f, refl, refl, omega arith, subst (λ (s : State). length s.rest + 1 ≤ length (ahead old).rest) (sym (passed old)) (one_less old h))

pub goes_named : (old new : MParser) (names : InForce) → old.fault ≡ None → new ≡ record old { names = names } → Goes 0 old new
unfolding ahead
goes_named old new names f e = subst (λ (p : MParser). Goes 0 old p) (sym e) (f, refl, refl, omega arith, omega arith)
