use Rattle.std.proofs.Common.{refl}
use Rattle.std.proofs.lemmas.Result.{IfOk-weaker}
use Rattle.lcc_text.specs.Names.{bytes_of}
use Rattle.lburg_lines.specs.declared.token.Token.TheVariants as token
use Rattle.lburg_lines.specs.Tokens.{views}
use Rattle.lburg_faults.proofs.RuleArities.{of_name, of_other}
use Rattle.lburg_faults.proofs.RuleTokens.{view_at, no_name}
use Rattle.lburg_faults.proofs.known.Known.note_token_use.Goals as goal

pub returns-in-Name-clause-gives : goal.returns-in-Name-clause-gives
returns-in-Name-clause-gives c =
    IfOk-weaker _ _ _ (of_name (views c.args.tokens.now) c.args.place (bytes_of c.args.self.now.terminals) c.in-Name.name.now c.args.self.now.arities.items c.note_use_at.new.self.arities.items (view_at c.args.tokens.now c.args.place _ (token.Name c.in-Name.name) c.requires c.in-Name.is)) c.note_use_at.ensures.gives

pub returns-in_default : goal.returns-in_default
returns-in_default c = record {
  gives = of_other (views c.args.tokens.now) c.args.place (bytes_of c.args.self.now.terminals) c.args.self.now.arities.items _ (view_at c.args.tokens.now c.args.place _ _ c.requires refl) (no_name _ c.in_default.not-Name);
  terminals = refl;
  numbers = refl;
  nonterminals = refl;
  start = refl;
  rules = refl;
}
