use Rattle.std.proofs.Common.{refl}
use Rattle.std.proofs.lemmas.Result.{IfOk-weaker}
use Rattle.lcc_text.specs.Names.{bytes_of}
use Rattle.lburg_lines.specs.declared.token.Token.TheVariants as token
use Rattle.lburg_lines.specs.Tokens.{views}
use Rattle.lburg_faults.proofs.RuleNames.{first_name, first_other}
use Rattle.lburg_faults.proofs.RuleTokens.{view_at, no_name}
use Rattle.lburg_faults.proofs.known.Known.note_first.Goals as goal

pub returns-in-Name-clause-gives : goal.returns-in-Name-clause-gives
returns-in-Name-clause-gives c =
    IfOk-weaker _ _ _ (first_name (views c.args.tokens.now) c.args.self.now (bytes_of c.note_left.new.self.nonterminals) c.in-Name.name.now (view_at c.args.tokens.now 0 _ (token.Name c.in-Name.name) c.requires c.in-Name.is)) c.note_left.ensures.gives

pub returns-in_default : goal.returns-in_default
returns-in_default c = record {
  gives = first_other (views c.args.tokens.now) c.args.self.now _ (view_at c.args.tokens.now 0 _ _ c.requires refl) (no_name _ c.in_default.not-Name);
  terminals = refl;
  numbers = refl;
  arities = refl;
  start = refl;
  rules = refl;
}
