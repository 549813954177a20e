use Rattle.std.proofs.Common.{◌≡◌, ◌++◌}
use Rattle.c_wholes.specs.TextLists.{texts_in}
use Rattle.c_wholes.proofs.texts.listed.Given as goal

abbrev pub invariant-loop-text : goal.invariant-loop-text
invariant-loop-text l = l.list ++ texts_in l.text-iterator ≡ texts_in l.fn.texts.keys
