use Rattle.std.proofs.Common.{◌≡◌, ◌<◌, ℕ, List, [], ◌∷◌, ◌++◌, ◌+◌, length, map, take, get_or, Option, None, ap, sym, subst, ◌∙◌, arith}
use Rattle.std.specs.Borrow.{Bor}
use Rattle.std.proofs.lemmas.List.{get_or-map, length-map, take_more}
use Rattle.asm_lines.specs.declared.statement.Item.{Item}
use Rattle.asm_lines.specs.Statements.{item_of}
use Rattle.asm_text.specs.declared.asm_fault.AsmFault.{AsmFault}
use Rattle.asm_text.specs.Added.{with_words, IsDataFault}
use Rattle.asm_text.specs.Made.{Made, word_datum}
use Rattle.asm_text.proofs.DataAdded.{fault_more, handed_on, words_more}
use Rattle.asm_text.proofs.assembly.Assembly.add_words.Goals as goal

at : (items : List (Item (Bor (List ℕ)))) (i : ℕ) (d : Item (Bor (List ℕ))) → i < length items → get_or (map item_of items) i (item_of d) ≡ item_of (get_or items i d)
at items i d h = get_or-map item_of items i d (item_of d) h

one_more : (m now new : Made) (line : ℕ) (items : List (Item (Bor (List ℕ)))) (i : ℕ) (d : Item (Bor (List ℕ))) → i < length items → now ≡ with_words m line (take i (map item_of items)) → new ≡ with_words now line (item_of (get_or items i d) ∷ []) → new ≡ with_words m line (take (i + 1) (map item_of items))
one_more m now new line items i d h e f =
    let ys = map item_of items in
    let l : i < length ys = omega (arith, h, length-map items item_of) in
    f ∙ ap (λ x. with_words x line (item_of (get_or items i d) ∷ [])) e ∙ words_more m line (take i ys) (item_of (get_or items i d) ∷ []) ∙ ap (λ x. with_words m line (take i ys ++ x ∷ [])) (sym (at items i d h)) ∙ ap (λ x. with_words m line x) (sym (take_more ys i (item_of d) l))

told_last : (m now : Made) (line : ℕ) (items : List (Item (Bor (List ℕ)))) (i : ℕ) (d : Item (Bor (List ℕ))) (e : AsmFault) → i < length items → now ≡ with_words m line (take i (map item_of items)) → IsDataFault line (with_words now line (item_of (get_or items i d) ∷ [])) e → IsDataFault line (with_words m line (map item_of items)) e
told_last m now line items i d e h f k =
    let ys = map item_of items in
    let l : i < length ys = omega (arith, h, length-map items item_of) in
    let P : Option (List ℕ) × ℕ → Type 0 = λ y. IsDataFault line (with_words now line (y ∷ [])) e in
    fault_more word_datum line m now ys i (item_of d) e l (ap (λ (x : Made). x.datums) f) (subst P (sym (at items i d h)) k)

pub loop-item-preserved : goal.loop-item-preserved
loop-item-preserved c =
    one_more c.args.self.now c.loop-item.self c.add_word.new.self c.args.line c.args.items.now c.loop-item.item-index (record { name = None; value = 0 }) c.loop-item-test.true c.loop-item.invariant c.in_ok-add_word.ensures.made

pub returns-in_err-add_word-clause-fault : goal.returns-in_err-add_word-clause-fault
returns-in_err-add_word-clause-fault c =
    let m = c.args.self.now in
    let e = c.in_err-add_word.field-0.0 in
    handed_on c.from_residual.result e (IsDataFault c.args.line (with_words m c.args.line (map item_of c.args.items.now))) c.from_residual.ensures.1 (told_last m c.loop-item.self c.args.line c.args.items.now c.loop-item.item-index (record { name = None; value = 0 }) e c.loop-item-test.true c.loop-item.invariant c.in_err-add_word.ensures.fault)
