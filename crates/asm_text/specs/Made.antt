-- What lines make, one behind the other: the section in which the next line stands, and a program so far, with each name
-- that is used and the line of its first use. Code and data are told apart by their directives: text comes first.
use Rattle.std.specs.Prelude.{ℕ, ◌-◌, ◌%◌, ◌^◌, Bool, Option, Some, None, List, [], ◌∷◌, ◌++◌, map, length, if◌then◌else◌}
use Rattle.std.specs.List.{list_any}
use Rattle.std.specs.Str.{bytes_eq}
use Rattle.asm_lines.specs.declared.section.Section.{Section}
use Rattle.asm_lines.specs.declared.section.Section.TheVariants as section
use Rattle.asm_lines.specs.Statements.{MStatement, Nothing, Text, Data, Global, Align, Words, Halves, Bytes, Space, Does}
use Rattle.asm_text.specs.declared.datum.Datum.TheVariants as datum
use Rattle.asm_text.specs.declared.place.Place.{Place}
use Rattle.asm_text.specs.declared.place.Place.TheVariants as place
use Rattle.asm_text.specs.Lines.{MLine}
use Rattle.asm_text.specs.Names.{names_of}
use Rattle.asm_text.specs.Program.{MInstruction, MDatum, MLabel, data_size}

-- a name and the line of its first use
pub record Use : Type 0 where
  pub name : List ℕ
  pub line : ℕ

pub record Made : Type 0 where
  pub section : Section
  pub code : List MInstruction
  pub numbers : List ℕ
  pub datums : List MDatum
  pub labels : List MLabel
  pub uses : List Use

abbrev pub nothing : Made
nothing = record { section = section.Text; code = []; numbers = []; datums = []; labels = []; uses = [] }

-- ---- labels

-- the next place of a section
abbrev pub next_place : Section → List MInstruction → List MDatum → Place
next_place section.Text code datums = place.Code (length code)
next_place section.Data code datums = place.Data (data_size datums)

abbrev pub label_at : Place → List ℕ → MLabel
label_at place name = record { name = name; place = place }

abbrev pub with_labels : Made → List (List ℕ) → Made
with_labels m names = record m { labels = m.labels ++ map (label_at (next_place m.section m.code m.datums)) names }

-- ---- uses

abbrev pub is_used : List Use → List ℕ → Bool
is_used uses name = list_any (λ (u : Use). bytes_eq u.name name) uses

abbrev pub with_use : ℕ → List Use → List ℕ → List Use
with_use line uses name = if is_used uses name then uses else uses ++ record { name = name; line = line } ∷ []

abbrev pub with_uses : ℕ → List Use → List (List ℕ) → List Use
with_uses line uses [] = uses
with_uses line uses (name ∷ names) = with_uses line (with_use line uses name) names

-- ---- data

-- the bytes of padding behind so many, up to a multiple
abbrev pub padding : ℕ → ℕ → ℕ
padding size to = (to - size % to) % to

abbrev pub named_or : Option (List ℕ) → ℕ → MDatum
named_or None n = datum.Word n
named_or (Some name) n = datum.Named name n

abbrev pub word_datum : Option (List ℕ) × ℕ → MDatum
word_datum item = named_or item.0 item.1

-- the data that a statement adds behind so many bytes
abbrev pub data_of : ℕ → MStatement → List MDatum
data_of size (Align n) = datum.Zeros (padding size (2 ^ n)) ∷ []
data_of size (Words items) = map word_datum items
data_of size (Halves halves) = map (λ n. datum.Half n) halves
data_of size (Bytes bytes) = map (λ n. datum.Byte n) bytes
data_of size (Space n) = datum.Zeros n ∷ []
data_of size s = []

-- ---- code

abbrev pub code_of : MStatement → List MInstruction
code_of (Does i) = i ∷ []
code_of s = []

abbrev pub numbers_of : ℕ → MStatement → List ℕ
numbers_of line (Does i) = line ∷ []
numbers_of line s = []

-- ---- lines

-- the section behind a statement
abbrev pub section_behind : Section → MStatement → Section
section_behind x Text = section.Text
section_behind x Data = section.Data
section_behind x s = x

abbrev pub with_statement : Made → ℕ → MStatement → Made
with_statement m line s = record {
  section = section_behind m.section s;
  code = m.code ++ code_of s;
  numbers = m.numbers ++ numbers_of line s;
  datums = m.datums ++ data_of (data_size m.datums) s;
  labels = m.labels;
  uses = with_uses line m.uses (names_of s);
}

abbrev pub with_line : Made → MLine → Made
with_line m line = with_statement (with_labels m line.labels) line.number line.statement

-- what lines make behind others
abbrev pub made_behind : Made → List MLine → Made
made_behind m [] = m
made_behind m (line ∷ lines) = made_behind (with_line m line) lines

abbrev pub made_of : List MLine → Made
made_of lines = made_behind nothing lines
