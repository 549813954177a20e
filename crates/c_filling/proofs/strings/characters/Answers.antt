use Rattle.std.proofs.Common.{◌++◌, ap, ◌∙◌, List, ℕ}
use Rattle.c_filling.proofs.Characters.{resized}
use Rattle.c_filling.proofs.strings.characters.Goals as goal

pub returns-clause-is : goal.returns-clause-is
returns-clause-is c =
    resized c.args.count _ c.args.bytes.now c.extend_from_slice.new.self.items c.resize.new.self.items
    (c.in_ok-extend_from_slice.ensures.items ∙ ap (λ (xs : List ℕ). xs ++ c.args.bytes.now) c.new-all.ensures.items)
    c.extend_from_slice.new.self.ok.0
    c.in_ok-resize.ensures.items
