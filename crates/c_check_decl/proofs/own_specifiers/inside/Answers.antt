use Rattle.std.proofs.Common.{◌≡◌, ◌≢◌, length, sym, ap, ◌∙◌, arith}
use Rattle.std.specs.Prelude.{map}
use Rattle.std.proofs.lemmas.Bool.Decides.{nat_tests}
use Rattle.c_ast.specs.Seen.{specifier_seen}
use Rattle.c_ast.specs.Views.{specifier_list_of}
use Rattle.c_check_decl.specs.LoneTags.{is_lone_tag}
use Rattle.c_check_decl.proofs.DeclSpecifiers.{inside_alone, inside_more, inside_none, inside_other}
use Rattle.c_check_decl.proofs.own_specifiers.inside.Goals as goal

pub returns-then-not-is_empty : goal.returns-then-not-is_empty
returns-then-not-is_empty c =
    let e = sym c.is_empty.ensures ∙ c.if-not-is_empty.true in
    let h : length c.args.declarators.now ≢ 0 = grind (arith, nat_tests) in
    inside_more c.args.scopes.now c.specifiers.new.scopes c.args.types.now c.specifiers.new.types c.args.list.now c.specifiers.result c.args.declarators.now h c.specifiers.ensures

pub returns-in-Some : goal.returns-in-Some
returns-in-Some c =
    let e = sym c.is_empty.ensures ∙ c.if-not-is_empty.false in
    let h : length c.args.declarators.now ≡ 0 = grind (arith, nat_tests) in
    inside_none c.args.scopes.now c.alone.new.scopes c.args.types.now c.alone.new.types c.args.list.now c.alone.result c.args.declarators.now _ h
    (inside_alone c.args.scopes.now c.args.types.now c.args.list.now c.in-Some.line c.in-Some.kind c.in-Some.tag.now (sym (ap (λ xs. specifier_list_of (map specifier_seen xs)) c.as_slice.ensures) ∙ c.in-Some.ensures.some)) c.alone.ensures

pub returns-in-None : goal.returns-in-None
returns-in-None c =
    let e = sym c.is_empty.ensures ∙ c.if-not-is_empty.false in
    let h : length c.args.declarators.now ≡ 0 = grind (arith, nat_tests) in
    inside_none c.args.scopes.now c.specifiers-in-None.new.scopes c.args.types.now c.specifiers-in-None.new.types c.args.list.now c.specifiers-in-None.result c.args.declarators.now _ h
    (inside_other c.args.scopes.now c.args.types.now c.args.list.now (sym (ap (λ xs. is_lone_tag (specifier_list_of (map specifier_seen xs))) c.as_slice.ensures) ∙ c.in-None.ensures.none)) c.specifiers-in-None.ensures
