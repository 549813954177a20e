use Rattle.std.proofs.Common.{refl, ap, ◌∙◌, length}
use Rattle.std.proofs.lemmas.Option.{slice_get_read}
use Rattle.lburg_trees.specs.Words.{word_of}
use Rattle.lburg_trees.proofs.KnownNames.{mask_of}
use Rattle.lburg_trees.proofs.name_table.known_at.Goals as goal

pub returns : goal.returns
returns c =
    let t = c.index-terminals-place.result in
    let name = c.as_slice-name.ensures in
    record {
      terminal = t;
      place = c.args.place;
      there = slice_get_read c.args.terminals.now (length c.args.terminals.now) c.args.place t refl c.requires.within c.index-terminals-place.is;
      op_is = refl;
      arity_is = c.in_ok-arity.was;
      length_is = ap length name;
      short = c.if-name-ge8.false;
      word_is = c.word_of.ensures.word ∙ ap word_of name;
      mask_is = mask_of _ c.if-name-ge8.false;
    }
