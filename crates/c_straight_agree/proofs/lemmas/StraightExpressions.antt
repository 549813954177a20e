-- The law of straight expressions.
use Rattle.c_runs.specs.Soundness.{EvalStaysSound}
use Rattle.c_straight_agree.specs.Checked.{StraightExpressionsAgree}
use Rattle.c_straight_agree.specs.Narrow.{CharsAreNarrow, ShortsAreNarrow}
use Rattle.c_straight_agree.proofs.lemmas.Checked.{checked_is_fair}
use Rattle.c_straight_agree.proofs.lemmas.Expressions.{straight_is_lowered}

pub straight_expressions_agree : CharsAreNarrow → ShortsAreNarrow → EvalStaysSound → StraightExpressionsAgree
straight_expressions_agree chars shorts evals s locals y e l body laid goes_on checked tame modest calls le =
    straight_is_lowered chars shorts evals s locals body y laid e goes_on tame (checked_is_fair s y e checked modest) calls l le
