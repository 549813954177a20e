use Rattle.std.proofs.Common.{sym, ap, ◌∙◌}
use Rattle.c_ast.proofs.lemmas.SeenTypes.{specifiers_parts}
use Rattle.c_meaning.specs.Declaring.{declare_tag, list_of}
use Rattle.c_check_decl.proofs.TagSpecifiers.{tagged}
use Rattle.c_check_decl.proofs.walk.declares_tag.Goals as goal

pub returns : goal.returns
returns c = c.is_any_tag.ensures ∙ ap tagged c.as_slice.ensures ∙ sym (ap (λ x. declare_tag (list_of x)) (specifiers_parts c.args.list.now))
