use Rattle.std.proofs.Common.{sym, ◌∙◌, subst}
use Rattle.switch_tables.specs.Cases.{AreWords}
use Rattle.switch_tables.specs.Order.{IsRising}
use Rattle.switch_tables.specs.Tables.{table_of}
use Rattle.switch_tables.proofs.lemmas.Filling.{words_front, words_back, rising_take, rising_drop, cut_moves}
use Rattle.switch_tables.proofs.cutting.cut_all.Goals as goal

pub filled-requires-clause-words : goal.filled-requires-clause-words
filled-requires-clause-words c =
    subst AreWords (sym c.split_at.ensures.front) (words_front c.first_cut.result c.loop-rest.rest.now c.loop-rest.invariant.words)

pub filled-requires-clause-rising : goal.filled-requires-clause-rising
filled-requires-clause-rising c =
    (c.args.signed, subst (IsRising c.args.signed) (sym c.split_at.ensures.front) (rising_take c.args.signed c.first_cut.result c.loop-rest.rest.now c.loop-rest.invariant.rising))

pub loop-rest-preserved : goal.loop-rest-preserved
loop-rest-preserved c = record {
  done = cut_moves (table_of c.args.default) c.loop-rest.tables.items c.push.new.self.items c.in_ok-filled.field-0 c.loop-rest.rest.now c.split_at.result.0.now c.split_at.result.1.now c.first_cut.result c.in_ok-push.ensures.items c.in_ok-filled.ensures c.split_at.ensures.front c.split_at.ensures.back c.first_cut.ensures.cut ∙ c.loop-rest.invariant.done;
  words = subst AreWords (sym c.split_at.ensures.back) (words_back c.first_cut.result c.loop-rest.rest.now c.loop-rest.invariant.words);
  rising = subst (IsRising c.args.signed) (sym c.split_at.ensures.back) (rising_drop c.args.signed c.first_cut.result c.loop-rest.rest.now c.loop-rest.invariant.rising);
}
