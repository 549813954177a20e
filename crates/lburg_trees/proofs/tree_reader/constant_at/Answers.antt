use Rattle.std.proofs.Common.{◌≡◌, ◌∙◌, ℤ, List, ◌∷◌, Option, Some, None, ap}
use Rattle.std.specs.Prelude.{IfSome, IfNone}
use Rattle.lburg_lines.specs.declared.token.Sign.TheVariants.{OpenBracket}
use Rattle.lburg_lines.specs.Tokens.{Tok, Mark}
use Rattle.lburg_lines.specs.Numbers.{MNumber, IsNumber, number_token, number_value, written}
use Rattle.lburg_trees.proofs.tree_reader.constant_at.Goals as goal

known : (o : Option ℤ) (n : MNumber) → IfSome o (λ v. IsNumber n × (v ≡ number_value n)) → IfNone o (IsNumber n → ⊥) → IsNumber n → o ≡ Some (number_value n)
known None n h k is = absurd (k is)
known (Some v) n h k is = ap (λ (z : ℤ). Some z) h.1

pub returns-in_ok-rest-in-Ok-clause-found : goal.returns-in_ok-rest-in-Ok-clause-found
returns-in_ok-rest-in-Ok-clause-found c =
    let n = written c.in_ok-number-in-Ok.number in
    let is = c.in_ok-number-in-Ok.ensures.is in
    record {
      constant = Some n;
      numbers = is;
      value_is = known c.value.result n c.value.ensures.some c.value.ensures.none is;
      parts = c.in-Ok.ensures.ok ∙ ap (λ (l : List Tok). Mark OpenBracket ∷ l) (c.in_ok-number-in-Ok.ensures.ok ∙ ap (λ (l : List Tok). number_token n ∷ l) c.in_ok-rest-in-Ok.ensures.ok);
      ends = λ e. absurd cc;
    }
