-- The characters up to a closing quote.
-- Source: C89 3.1.3.4 and 3.1.4.
use Rattle.std.specs.Prelude.{◌≡◌, ◌≤◌, ℕ, List, [], ◌∷◌, drop, Result, Ok, Err}
use Rattle.c_lexer.specs.declared.lex_fault.LexFaultKind.{LexFaultKind}
use Rattle.c_lexer.specs.declared.quoted.Quoted.{Quoted}
use Rattle.c_lexer.specs.declared.quoted.Quoted.TheVariants.{Close, Character, Fault}
use Rattle.c_lexer.specs.Quoted.{quoted, next_character}
use Rattle.c_lexer.specs.Chains.{Chain}

-- how many characters there are, and how many bytes write them, up to the quote; or the first fault
abbrev pub Characters : ℕ → List ℕ → Result (ℕ × ℕ) LexFaultKind → Type 0
Characters quote bytes (Ok x) = Chain (next_character quote bytes) x.0 0 x.1 × (quoted quote (drop x.1 bytes) ≡ Close)
Characters quote bytes (Err kind) = (count end' : ℕ) × Chain (next_character quote bytes) count 0 end' × (quoted quote (drop end' bytes) ≡ Fault kind)

-- the values of the characters, in order
abbrev pub Values : ℕ → List ℕ → List ℕ → Type 0
Values quote bytes [] = quoted quote bytes ≡ Close
Values quote bytes (v ∷ vs) = (len : ℕ) × (quoted quote bytes ≡ Character v len) × Values quote (drop len bytes) vs

-- a character is written by at least one byte, and by no more than are there
abbrev pub IsWithin : Quoted → ℕ → Type 0
IsWithin (Character value len) n = (1 ≤ len) × (len ≤ n)
IsWithin Close n = 1 ≤ n
IsWithin (Fault kind) n = Unit {0}
