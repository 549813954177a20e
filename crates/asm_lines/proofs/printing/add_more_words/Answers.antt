use Rattle.std.proofs.Common.{◌≤◌, List, ℕ, None, [], ◌∷◌, ◌++◌, ap, ◌∙◌, append_assoc, get_or}
use Rattle.std.specs.Borrow.{Bor}
use Rattle.asm_lines.specs.declared.statement.Item.{Item}
use Rattle.asm_lines.specs.Statements.{item_of}
use Rattle.asm_lines.specs.Printed.{item_text}
use Rattle.asm_lines.proofs.Commas.{more_step, all_more, all_done}
use Rattle.asm_lines.proofs.printing.add_more_words.Goals as goal

pub loop-item-preserved : goal.loop-item-preserved
loop-item-preserved c =
    let xs = c.args.items.now in
    let i = c.loop-item.item-index in
    let d : Item (Bor (List ℕ)) = record { name = None; value = 0 } in
    let x = item_text (item_of (get_or xs i d)) in
    let e = c.in_ok-add_item.ensures.text ∙ ap (λ (l : List ℕ). l ++ x) c.in_ok-push.ensures.ok ∙ append_assoc c.loop-item.out (44 ∷ []) x in
    record {
      text = more_step (λ (a : Item (Bor (List ℕ))). item_text (item_of a)) c.loop-item.out c.add_item.new.out _ xs i d c.loop-item-test.true c.loop-item.invariant.text e;
      within = all_more (λ (a : Item (Bor (List ℕ))). a.value ≤ 4294967295) xs i d c.loop-item-test.true c.loop-item.invariant.within c.in_ok-add_item.ensures.within;
    }

pub returns-clause-within : goal.returns-clause-within
returns-clause-within c = all_done (λ (a : Item (Bor (List ℕ))). a.value ≤ 4294967295) c.args.items.now c.loop-item.item-index c.loop-item-test.false c.loop-item.invariant.within
