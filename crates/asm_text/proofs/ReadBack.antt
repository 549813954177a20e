-- Lines that are read back from their text.
use Rattle.std.proofs.Common.{◌≡◌, ◌+◌, ℕ, List, [], ◌∷◌, ◌++◌, refl, sym, subst, append_assoc}
use Rattle.std.proofs.lemmas.List.Elements.{All-head, All-tail}
use Rattle.std.specs.Prelude.{All}
use Rattle.lcc_text.specs.Lines.{lines_of}
use Rattle.asm_lines.proofs.lemmas.LabelBack.{labelled_back}
use Rattle.asm_lines.specs.Printed.{printed_label, printed_statement}
use Rattle.asm_lines.specs.ReadBack.{ReadsBack}
use Rattle.asm_lines.specs.Statements.{IsStatement, IsLabelled}
use Rattle.asm_lines.specs.Tokens.{Spaced, IsName}
use Rattle.asm_text.specs.LineBack.{IsLabelBack, IsStatementBack, IsLineBack}
use Rattle.asm_text.specs.Lines.{MLine, AreLabels, AreTokens, AreLines}
use Rattle.asm_text.specs.Printable.{PrintableFrom}
use Rattle.asm_text.specs.Printed.{labels_text, line_text, lines_text}

-- the tokens are also of another kind
reads_as : (text : List ℕ) (Is Js : List Spaced → Type 0) → ((ts : List Spaced) → Is ts → Js ts) → ReadsBack text Is → ReadsBack text Js
reads_as text Is Js f r = record {
  line = r.line;
  ends = r.ends;
  no_feed = r.no_feed;
  first = r.first;
  tokens = r.tokens;
  spelled = r.spelled;
  is = f r.tokens r.is;
}

-- labels of these names stand before tokens of some kind
abbrev Behind : List (List ℕ) → (List Spaced → Type 0) → List Spaced → Type 0
Behind names Is ts = (rest : List Spaced) × AreLabels ts names rest × Is rest

labels_back : (names : List (List ℕ)) (text : List ℕ) (Is : List Spaced → Type 0) → All IsLabelBack names → All IsName names → ReadsBack text Is → ReadsBack (labels_text names ++ text) (Behind names Is)
labels_back [] text Is h k r = reads_as text Is (Behind [] Is) (λ ts i. (ts, refl, i)) r
labels_back (name ∷ names) text Is h k r =
    let behind = labels_back names text Is (All-tail IsLabelBack name names h) (All-tail IsName name names k) r in
    let back = All-head IsLabelBack name names h (All-head IsName name names k) (labels_text names ++ text) in
    let all = labelled_back name (labels_text names ++ text) (Behind names Is) back behind in
    let whole = reads_as (printed_label name ++ (labels_text names ++ text)) (λ ts. (rest : List Spaced) × IsLabelled ts name rest × Behind names Is rest) (Behind (name ∷ names) Is) (λ ts b. (b.2.0, (b.0, b.1, b.2.1), b.2.2)) all in
    subst (λ (l : List ℕ). ReadsBack l (Behind (name ∷ names) Is)) (sym (append_assoc (printed_label name) (labels_text names) text)) whole

pub line_back : (line : MLine) → All IsLabelBack line.labels → IsStatementBack line.statement → IsLineBack line
line_back line h k names printable =
    let r = labels_back line.labels (printed_statement line.statement) (λ ts. IsStatement ts line.statement) h names (k printable) in
    reads_as (line_text line) (Behind line.labels (λ ts. IsStatement ts line.statement)) (λ ts. AreTokens ts line) (λ ts b. record { rest = b.0; labels = b.1; statement = b.2 }) r

-- a text of such lines has these lines
pub lines_back : (number : ℕ) (lines : List MLine) → All IsLineBack lines → PrintableFrom number lines → AreLines (lines_of (lines_text lines)) number lines
lines_back number [] h p = tt
lines_back number (line ∷ lines) h p =
    let r = All-head IsLineBack line lines h p.0 p.1 in
    subst (λ (bs : List (List ℕ)). AreLines bs number (line ∷ lines)) (sym (r.first (lines_text lines))) (record { tokens = r.tokens; spelled = r.spelled; are = r.is; number_is = p.2 }, lines_back (number + 1) lines (All-tail IsLineBack line lines h) p.3)
