-- A text is one description's.
use Rattle.std.proofs.Common.{◌≡◌, List, [], ◌∷◌, ℕ, refl, ap, ◌∙◌, subst}
use Rattle.lcc_text.specs.Lines.{lines_of}
use Rattle.lburg_lines.specs.declared.section.Section.{Section}
use Rattle.lburg_lines.specs.declared.section.Section.TheVariants.{Head}
use Rattle.lburg_lines.specs.Tokens.{Tok}
use Rattle.lburg_lines.specs.Grammar.{MLine, IsLine}
use Rattle.lburg_lines.specs.Sections.{TokenLine, AreLinesFrom}
use Rattle.lburg_faults.specs.declared.checked_text.CheckedText.{CheckedText}
use Rattle.lburg_faults.specs.CheckedText.{IsChecked}
use Rattle.lburg_faults.specs.Written.{AreWritten}
use Rattle.lburg_model.specs.Description.{MDescription}
use Rattle.lburg_model.specs.SameParts.{SameParts}
use Rattle.lburg_grammar.specs.DescriptionText.{Means, IsText}
use Rattle.lburg_grammar.proofs.ResolveOneMeaning.{one_meaning}

-- a text has one list of lines
abbrev pub OneText : Type 0
OneText = (section : Section) (lines : List (List ℕ)) (a b : List TokenLine) → AreLinesFrom section lines a → AreLinesFrom section lines b → a ≡ b

-- tokens are one line of a section at most
abbrev pub OneLine : Type 0
OneLine = (section : Section) (tokens : List Tok) (a b : MLine) → IsLine section tokens a → IsLine section tokens b → a ≡ b

same_written : OneLine → (ls : List TokenLine) (ws vs : List MLine) → AreWritten ls ws → AreWritten ls vs → ws ≡ vs
same_written one [] [] [] p q = refl
same_written one [] [] (v ∷ vs) p q = absurd q
same_written one [] (w ∷ ws) vs p q = absurd p
same_written one (l ∷ ls) [] vs p q = absurd p
same_written one (l ∷ ls) (w ∷ ws) [] p q = absurd q
same_written one (l ∷ ls) (w ∷ ws) (v ∷ vs) p q =
    ap (λ (x : MLine). x ∷ ws) (one l.section l.tokens w v p.0 q.0) ∙ ap (λ (xs : List MLine). v ∷ xs) (same_written one ls ws vs p.1 q.1)

pub is_text : (c : CheckedText) (text : List ℕ) (d : MDescription) → IsChecked c text → ((other : List ℕ) (is : IsChecked c other) → Means is.written d) → IsText d text
is_text c text d is h = record { lines = is.lines; are = is.are; written = is.written; are_written = is.are_written; means = h text is }

pub one_description : OneText → OneLine → (text : List ℕ) (r d : MDescription) → IsText r text → IsText d text → SameParts r d
one_description text_is line_is text r d a b =
    let P : List TokenLine → Type 0 = λ ls. AreWritten ls a.written in
    let Q : List MLine → Type 0 = λ ws. Means ws r in
    let e = text_is Head (lines_of text) a.lines b.lines a.are b.are in
    let f = same_written line_is b.lines a.written b.written (subst P e a.are_written) b.are_written in
    one_meaning b.written r d (subst Q f a.means) b.means
