use Rattle.c_meaning.specs.Typing.{typed, typed_name, typed_declared}
use Rattle.c_meaning.proofs.lemmas.Threads.{is_decided}
use Rattle.c_meaning.proofs.lemmas.TypingRows.{expr_rows, name_rows, declared_rows}
use Rattle.c_meaning.proofs.lemmas.TypingFaults.{expr_first, name_first, declared_first}
use Rattle.c_meaning.proofs.laws.typing_is_decided.Goals as goal

pub returns-clause-expressions : goal.returns-clause-expressions
returns-clause-expressions c = λ s e. is_decided (typed s e) _ _ (expr_rows s e) (expr_first s e)

pub returns-clause-names : goal.returns-clause-names
returns-clause-names c = λ s t. is_decided (typed_name s t) _ _ (name_rows s t) (name_first s t)

pub returns-clause-declared : goal.returns-clause-declared
returns-clause-declared c = λ s specs d. is_decided (typed_declared s specs d) _ _ (declared_rows s specs d) (declared_first s specs d)
