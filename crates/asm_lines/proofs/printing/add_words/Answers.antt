use Rattle.std.proofs.Common.{◌≤◌, ℕ, Option, List}
use Rattle.std.proofs.lemmas.Result.{on_ok_weaker}
use Rattle.asm_lines.specs.Statements.{item_of}
use Rattle.asm_lines.specs.Printed.{item_text}
use Rattle.asm_lines.proofs.Commas.{listed_seen, all_first}
use Rattle.asm_lines.proofs.printing.add_words.Goals as goal

pub returns-clause-text : goal.returns-clause-text
returns-clause-text c =
    on_ok_weaker c.add_more_words.result (λ e. listed_seen item_text item_of c.args.items.now c.in-Some.more.now c.in-Some.first.now c.args.out.now c.add_item.new.out c.add_more_words.new.out c.in-Some.ensures.cases.0 c.in_ok-add_item.ensures.text e) c.add_more_words.ensures.text

pub returns-clause-within : goal.returns-clause-within
returns-clause-within c =
    on_ok_weaker c.add_more_words.result (λ h. all_first (λ (i : Option (List ℕ) × ℕ). i.1 ≤ 4294967295) item_of c.args.items.now c.in-Some.more.now c.in-Some.first.now c.in-Some.ensures.cases.0 c.in_ok-add_item.ensures.within h) c.add_more_words.ensures.within
