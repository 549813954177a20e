use Rattle.std.proofs.Common.{length, sym, ap, ◌∙◌}
use Rattle.c_types.specs.Table.{type_at, types}
use Rattle.c_meaning.specs.State.{counted}
use Rattle.c_meaning.specs.TypeConstraints.{is_enumeration}
use Rattle.c_check_expr.specs.Known.{state_of}
use Rattle.c_check_expr.proofs.lemmas.KnownSymbols.{state-replace, symbols_in-set}
use Rattle.c_check_expr.proofs.TagNodes.{enumeration_there, tag_replaced}
use Rattle.c_check_expr.specs.Kept.{keeps_later}
use Rattle.c_check_expr.proofs.tags.listed.Goals as goal

pub returns-in_err-of-clause-keeps : goal.returns-in_err-of-clause-keeps
returns-in_err-of-clause-keeps c = keeps_later c.args.scopes.now c.args.types.now c.add_tagged.new.types c.add_tagged.ensures.extends c.requires.symbols

pub replace-requires : goal.replace-requires
replace-requires c =
    enumeration_there (types c.args.types.now) c.args.scopes.now.symbols c.args.id (sym (ap is_enumeration c.symbol_type-before.ensures.means) ∙ sym c.is_enumeration.ensures ∙ c.if-not-is_enumeration.false)

pub returns-clause-state : goal.returns-clause-state
returns-clause-state c =
    let o = c.args.scopes.now in
    let t = c.add_tagged.new.types in
    let r = c.replace.ensures in
    tag_replaced (state_of o t) (counted (state_of o c.args.types.now)) (state_of c.replace.new.self t) c.args.id c.args.line c.in_ok-level.level (length o.outer) (type_at t c.in_ok-of.of)
    (state-replace o c.replace.new.self t c.args.id _ r.outer r.inner r.links r.symbols) (c.in_ok-of.ensures.state o c.requires.symbols) c.in_ok-level.ensures

pub returns-clause-keeps : goal.returns-clause-keeps
returns-clause-keeps c =
    let k = keeps_later c.args.scopes.now c.args.types.now c.add_tagged.new.types c.add_tagged.ensures.extends c.requires.symbols in
    record {
      outer = c.replace.ensures.outer;
      extends = c.add_tagged.ensures.extends;
      symbols = rw c.replace.ensures.symbols (symbols_in-set (length c.add_tagged.new.types.forms) c.args.scopes.now.symbols c.args.id _ k.symbols c.in_ok-of.ensures.within);
    }
