-- A label before a line that is read back as tokens of some kind is read back with them. The premise is what printing the
-- label ensures, which speaks of one list of tokens at a time.
use Rattle.std.specs.Prelude.{◌≡◌, ℕ, List, ◌++◌, refl}
use Rattle.asm_lines.specs.Tokens.{Spaced}
use Rattle.asm_lines.specs.Statements.{IsLabelled}
use Rattle.asm_lines.specs.Printed.{printed_label}
use Rattle.asm_lines.specs.ReadBack.{ReadsBack}

-- what is read back as tokens of some kind is read back as those that it spells
as_spelled : (text : List ℕ) (Is : List Spaced → Type 0) (r : ReadsBack text Is) → ReadsBack text (λ ts. ts ≡ r.tokens)
as_spelled text Is r = record {
  line = r.line;
  ends = r.ends;
  no_feed = r.no_feed;
  first = r.first;
  tokens = r.tokens;
  spelled = r.spelled;
  is = refl;
}

pub labelled_back : (name text : List ℕ) (Is : List Spaced → Type 0) → ((tokens : List Spaced) → ReadsBack text (λ ts. ts ≡ tokens) → ReadsBack (printed_label name ++ text) (λ ts. IsLabelled ts name tokens)) → ReadsBack text Is → ReadsBack (printed_label name ++ text) (λ ts. (rest : List Spaced) × IsLabelled ts name rest × Is rest)
labelled_back name text Is keeps r =
    let b = keeps r.tokens (as_spelled text Is r) in
    record {
      line = b.line;
      ends = b.ends;
      no_feed = b.no_feed;
      first = b.first;
      tokens = b.tokens;
      spelled = b.spelled;
      is = (r.tokens, b.is, r.is);
    }
