use Rattle.std.specs.Prelude.{pos}
use Rattle.std.proofs.Common.{ap, ◌∙◌}
use Rattle.c_pointers_agree.specs.Pointers.{name}
use Rattle.lowered_forms.specs.Contexts.{text_name}
use Rattle.lowering_acts.specs.Sites.{context_of}
use Rattle.lowering_steps.specs.Operands.{typed_of}
use Rattle.statement_steps.proofs.lemmas.Filling.{copies_text}
use Rattle.statement_steps.proofs.filling.fill_text.Goals as goal

pub returns : goal.returns
returns c =
    copies_text c.zero.result (typed_of c.args.base) (name (text_name (context_of c.args.site.now).unit c.args.n) (pos 0)) c.args.offset c.text_bytes-bytes.result c.in_ok-behind.behind c.args.room c.in_ok-to.to (typed_of c.name.result) c.args.into.now c.part_at.new.block c.copy.new.self c.zero.new.into _
    (record {
      place = c.in_ok-to.ensures;
      text_is = c.name.ensures ∙ ap (λ n. name n (pos 0)) c.in_ok-name.ensures;
      copy = c.in_ok-copy.ensures;
      behind_is = c.in_ok-behind.ensures;
    }) c.text_bytes-bytes.ensures.is c.zero.ensures
