use Rattle.std.proofs.Common.{◌≡◌, Bool, [], ◌∷◌, ◌++◌, sym, ap, ◌∙◌, subst}
use Rattle.std.specs.Prelude.{Option, Some, None, IfSome, ◌&&◌, ◌||◌, if◌then◌else◌, option_to_list}
use Rattle.c_types.specs.Table.{Table, tags}
use Rattle.c_meaning.specs.Filling.{Whole, is_of_chars, parts}
use Rattle.c_meaning.specs.Types.{is_scalar}
use Rattle.c_values.specs.Valued.{qualified_in}
use Rattle.c_initialisers.specs.declared.waits.Waits.{Waits}
use Rattle.c_initialisers.specs.declared.waits.Waits.TheVariants as waits
use Rattle.c_initialisers.specs.Waiting.{AreEntriesIn, IsEntryIn, place_in, waiting_in}
use Rattle.c_initialisers.proofs.placing.begin.Goals as goal
use Rattle.c_initialisers.proofs.placing.begin.Goals.{then-is_begun_whole+in_ok-push, else-is_begun_whole+in_ok-push_behind}

entry_alone : (t : Table) (o : Option Waits) → IfSome o (IsEntryIn t) → AreEntriesIn t (option_to_list o)
entry_alone t None h = tt
entry_alone t (Some w) h = (h, tt)

pub returns : goal.returns
returns c =
    let t = c.args.types.now in
    let at = c.args.at in
    let of = qualified_in t at.of in
    let whole : Bool → Bool = λ text. is_scalar of || (is_of_chars of && text) in
    elim c.if-is_begun_whole.branch [
      | then-is_begun_whole+in_ok-push w ↦ (
          let items : c.if-is_begun_whole.waits.items ≡ waits.Whole at ∷ [] = ap (λ v. v.items) w.waits-is ∙ w.in_ok-push.ensures.items ∙ ap (λ l. l ++ waits.Whole at ∷ []) c.new-waits.ensures.items in
          record {
            waits = λ is e. ap (waiting_in t) items ∙ sym (ap (λ b. if b then Whole (place_in t at) ∷ [] else parts (tags t) of at.offset) (ap whole e ∙ sym c.is_begun_whole.ensures ∙ w.if-is_begun_whole.true));
            entries = subst (AreEntriesIn t) (sym items) (c.requires, tt);
          })
      | else-is_begun_whole+in_ok-push_behind w ↦ (
          let items : c.if-is_begun_whole.waits.items ≡ option_to_list w.parts.result = ap (λ v. v.items) w.waits-is ∙ w.in_ok-push_behind.ensures.ok ∙ ap (λ l. l ++ option_to_list w.parts.result) c.new-waits.ensures.items in
          record {
            waits = λ is e. ap (waiting_in t) items ∙ w.parts.ensures.are ∙ sym (ap (λ b. if b then Whole (place_in t at) ∷ [] else parts (tags t) of at.offset) (ap whole e ∙ sym c.is_begun_whole.ensures ∙ w.if-is_begun_whole.false));
            entries = subst (AreEntriesIn t) (sym items) (entry_alone t w.parts.result w.parts.ensures.within);
          })
    ]
