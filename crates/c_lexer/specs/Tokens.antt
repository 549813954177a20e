-- How a source is cut from the left into blanks, comments, control lines and tokens, each token the longest at its place;
-- and where no cut goes on, the fault that stands there.
-- Source: C89 2.1.1.2 and 3.1.
use Rattle.std.specs.Prelude.{◌≡◌, ◌+◌, ℕ, true, false, List, [], ◌∷◌, drop, Option, Some, None, Result, Ok, Err}
use Rattle.c_lexer.specs.declared.lex_fault.LexFault.{LexFault}
use Rattle.c_lexer.specs.declared.place.Place.{Place}
use Rattle.c_lexer.specs.declared.token.Token.{Token}
use Rattle.c_lexer.specs.Chains.{Chain}
use Rattle.c_lexer.specs.Gaps.{gap}
use Rattle.c_lexer.specs.Readings.{Reading, Reads}

-- a token, none at the end, or a fault
abbrev pub Answer : Type 0
Answer = Result (Option Token) LexFault

abbrev pub first_place : Place
first_place = record { offset = 0; line = 1; opens = true }

-- what a reading at a place means, in the source
abbrev pub answer_at : Place → Reading → Answer
answer_at p (Ok (Some x)) = Ok (Some (record { class = x.0; start = p.offset; end = p.offset + x.1; line = p.line }))
answer_at p (Ok None) = Ok None
answer_at p (Err kind) = Err (record { kind = kind; line = p.line })

-- behind a token; where there is none, the place stays that before the gaps
abbrev pub place_behind : Place → Place → Reading → Place
place_behind before p (Ok (Some x)) = record { offset = p.offset + x.1; line = p.line; opens = false }
place_behind before p (Ok None) = before
place_behind before p (Err kind) = before

-- all gaps are passed, and the reading is of what stands behind them
pub record Cuts (source : List ℕ) (before : Place) (answer : Answer) (after : Place) : Type 0 where
  pub count : ℕ
  pub here : Place
  pub reading : Reading
  pub gaps : Chain (gap source) count before here
  pub no_more : gap source here ≡ None
  pub reads : Reads (drop here.offset source) reading
  pub answers : answer ≡ answer_at here reading
  pub leads : after ≡ place_behind before here reading

-- the tokens of the source from a place on, in order, and the fault behind them, if there is one
abbrev pub AreTokens : List ℕ → Place → List Token → Option LexFault → Type 0
AreTokens source p [] None = (q : Place) × Cuts source p (Ok None) q
AreTokens source p [] (Some fault) = (q : Place) × Cuts source p (Err fault) q
AreTokens source p (t ∷ ts) end' = (q : Place) × Cuts source p (Ok (Some t)) q × AreTokens source q ts end'
