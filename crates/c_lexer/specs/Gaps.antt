-- What may stand between tokens: blanks, comments and control lines. Each leads from its place to the place behind it.
-- Source: C89 3.1, 3.1.9 and 3.8.4.
use Rattle.std.specs.Prelude.{◌≤◌, ◌+◌, ◌-◌, ℕ, true, false, ◌&&◌, ◌==◌, nat_le, List, [], ◌∷◌, length, take, drop, Option, Some, None, if◌then◌else◌}
use Rattle.c_lexer.specs.declared.class.LexClass.TheVariants.{Space, Line}
use Rattle.c_lexer.specs.declared.place.Place.{Place}
use Rattle.c_lexer.specs.Classes.{in_lex}
use Rattle.c_lexer.specs.Runs.{run, behind}
use Rattle.c_lexer.specs.Starts.{starts_comment}
use Rattle.c_lexer.specs.Comments.{before_close, feeds}
use Rattle.c_lexer.specs.ControlLines.{said_line}

-- behind a line's `#`: the line's end is passed, and the line may have said the next one's number
abbrev pub next_line : Option ℕ → ℕ → ℕ
next_line (Some n) line = n
next_line None line = line + 1

abbrev pub behind_control : List ℕ → Place → Place
behind_control bytes p = record {
  offset = p.offset + 1 + length (run (in_lex Line) bytes) + length (take 1 (behind (in_lex Line) bytes));
  line = next_line (said_line (run (in_lex Line) bytes)) p.line;
  opens = true;
}

-- behind `/*` and what stands up to the first `*/`; nothing where there is none
abbrev pub behind_comment : List ℕ → Option ℕ → Place → Option Place
behind_comment bytes None p = None
behind_comment bytes (Some n) p = Some (record { offset = p.offset + 2 + n + 2; line = p.line + feeds (take n bytes); opens = false })

-- one byte of white space; behind a line feed a line opens, and spaces and tabs leave it so
abbrev pub behind_blank : ℕ → Place → Option Place
behind_blank b p =
    if b == 10 then Some (record { offset = p.offset + 1; line = p.line + 1; opens = true })
    else (if in_lex Space b then Some (record { offset = p.offset + 1; line = p.line; opens = p.opens })
    else (if nat_le 11 b && nat_le b 13 then Some (record { offset = p.offset + 1; line = p.line; opens = false }) else None))

abbrev pub behind_long : ℕ → List ℕ → Place → Option Place
behind_long b bs p =
    if b == 35 && p.opens then Some (behind_control bs p)
    else (if starts_comment b bs then behind_comment (drop 1 bs) (before_close (drop 1 bs)) p else None)

abbrev pub or_else : Option Place → Option Place → Option Place
or_else (Some p) q = Some p
or_else None q = q

-- a control line begins only where nothing but spaces and tabs stands before it on its line
abbrev pub behind_gap : List ℕ → Place → Option Place
behind_gap [] p = None
behind_gap (b ∷ bs) p = or_else (behind_blank b p) (behind_long b bs p)

-- the place behind the blank, the comment or the control line that begins at the place
abbrev pub gap : List ℕ → Place → Option Place
gap source p = behind_gap (drop p.offset source) p

-- a place of the source; lines are less than 2 ^ 30 and the bytes that are left
pub record IsPlace (source : List ℕ) (p : Place) : Type 0 where
  pub short : length source ≤ 16777216
  pub within : p.offset ≤ length source
  pub low : p.line + (length source - p.offset) ≤ 1016777216
