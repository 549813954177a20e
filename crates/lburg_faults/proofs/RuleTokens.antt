-- Tokens as they are read, and the tokens that they are.
use Rattle.std.proofs.Common.{◌≡◌, ◌<◌, ℕ, ◌+◌, true, false, List, length, get_or, take, Some, refl, ap, ◌∙◌, subst, add-one}
use Rattle.std.specs.Prelude.{slice_get, option_map}
use Rattle.std.specs.Borrow.{Bor}
use Rattle.std.proofs.lemmas.Option.{slice_get-map, slice_get-get_or}
use Rattle.lburg_lines.specs.declared.token.Token.{Token}
use Rattle.lburg_lines.specs.declared.token.Token.TheVariants as token
use Rattle.lburg_lines.specs.Tokens.{Tok, Word, view, views}
use Rattle.lburg_faults.specs.Lines.{has_template}
use Rattle.lburg_faults.proofs.RulePatterns.{IsOther, no_more_template, template_here}

-- the token at a place
pub view_at : (ts : List Token) (n : ℕ) (d t : Token) → n < length ts → get_or ts n d ≡ t → slice_get (views ts) n ≡ Some (view t)
view_at ts n d t l e = slice_get-map view ts n ∙ ap (option_map view) (slice_get-get_or ts n d l ∙ ap (λ (z : Token). Some z) e)

-- the token is no name
abbrev pub IsNoName : Tok → Type 0
IsNoName (Word n) = ⊥
IsNoName t = Unit {0}

pub other : (t : Token) → ((x : Bor (List ℕ)) → t ≡ token.Text x → ⊥) → IsOther (view t)
other (token.Text b) h = h b refl
other (token.Name b) h = tt
other (token.Digits b) h = tt
other (token.Negative b) h = tt
other (token.Directive b) h = tt
other (token.Sign s) h = tt
other (token.Border b) h = tt
other token.Bad h = tt

pub no_name : (t : Token) → ((x : Bor (List ℕ)) → t ≡ token.Name x → ⊥) → IsNoName (view t)
no_name (token.Name b) h = h b refl
no_name (token.Text b) h = tt
no_name (token.Digits b) h = tt
no_name (token.Negative b) h = tt
no_name (token.Directive b) h = tt
no_name (token.Sign s) h = tt
no_name (token.Border b) h = tt
no_name token.Bad h = tt

pub template_at : (ts : List Token) (n : ℕ) (d : Token) (b : Bor (List ℕ)) → n < length ts → get_or ts n d ≡ token.Text b → has_template (take (n + 1) (views ts)) ≡ true
template_at ts n d b l e = rw add-one (template_here (views ts) n b.now (view_at ts n d (token.Text b) l e))

pub no_template_at : (ts : List Token) (n : ℕ) (d : Token) → n < length ts → ((x : Bor (List ℕ)) → get_or ts n d ≡ token.Text x → ⊥) → has_template (take n (views ts)) ≡ false → has_template (take (n + 1) (views ts)) ≡ false
no_template_at ts n d l h k = rw add-one (no_more_template (views ts) n (view (get_or ts n d)) (view_at ts n d (get_or ts n d) l refl) (other (get_or ts n d) h) k)

-- a name where none is
pub no_word : (ts : List Tok) (n : ℕ) (t : Tok) (name : List ℕ) → slice_get ts n ≡ Some t → IsNoName t → slice_get ts n ≡ Some (Word name) → ⊥
no_word ts n t name e h f = subst IsNoName (let g : t ≡ Word name = cc in g) h
