use Rattle.std.proofs.Common.{arith}
use Rattle.c_lexer.proofs.Characters.{character_more}
use Rattle.c_lexer.proofs.quoted.characters.Goals as goal

pub loop-len-preserved : goal.loop-len-preserved
loop-len-preserved c = record {
  chain = character_more c.args.quote c.args.bytes.now c.loop-len.count c.loop-len.offset c.in-Character.value c.in-Character.len c.loop-len.invariant.chain c.in-Character.ensures.is;
  few = omega (arith, c.in-Character.ensures.within);
  within = omega (arith, c.in-Character.ensures.within);
}
