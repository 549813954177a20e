-- Acts of the open block one behind the other, up to what a call gives.
use Rattle.std.specs.Prelude.{◌≡◌, ℤ, true, List}
use Rattle.std.proofs.Common.{refl, sym, ap, ◌∙◌}
use Rattle.op_forest.specs.declared.suffix.Suffix.{Suffix}
use Rattle.dag_forest.specs.declared.entry.Entry.{Entry}
use Rattle.c_rows_agree.specs.Integers.{number}
use Rattle.c_rows_agree.specs.Typed.{Typed}
use Rattle.lowered_forms.specs.Calls.{all_passed, call_stored, called, called_in, nothing_given, whole_given, word_passed}
use Rattle.lowered_forms.specs.Lows.{Low, acted, with_entries}
use Rattle.lowered_forms.specs.Values.{Lowered, nothing, placed, slot_read, with_value}
use Rattle.lowering_steps.specs.declared.operand.Operand.{Operand}
use Rattle.lowering_steps.specs.Asking.{Acts, Places}
use Rattle.lowering_steps.specs.Operands.{typed_of}
use Rattle.lowering_acts.specs.Gives.{Gives}

act_then : (a b c : List Entry) (f g : Low → Low) → Acts a f b → Acts b g c → Acts a (λ l. g (f l)) c
act_then a b c f g x y = record { is = λ l e. ap g (x.is l e) ∙ y.is (with_entries b l) refl }

act_gives : (a b c : List Entry) (f : Low → Low) (g : Low → Lowered) (v : Operand) → Acts a f b → Gives b g v c → Gives a (λ l. g (f l)) v c
act_gives a b c f g v x y = record { is = λ l e. ap g (x.is l e) ∙ y.is (with_entries b l) refl }

places_gives : (a b : List Entry) (t : Typed) (v : Operand) → Places a t v b → Gives a (λ l. placed t l) v b
places_gives a b t v p = record { is = p.is }

nothing_gives : (a : List Entry) (v : Operand) → typed_of v ≡ number true 0 → Gives a (λ l. nothing l) v a
nothing_gives a v e = record { is = λ l q. ap (λ x. with_value x l) (sym e) ∙ ap (λ (x : List Entry). with_value (typed_of v) (with_entries x l)) q }

pub scalar_gives : (a b c d : List Entry) (ws : List Typed) (f : Typed) (x : Suffix) (z : ℤ) (v : Operand)
    → Acts a (λ l. all_passed ws l) b → Acts b (λ l. acted (call_stored z f) l) c → Places c (slot_read x z) v d → Gives a (λ l. called_in z x f (all_passed ws l)) v d
scalar_gives a b c d ws f x z v p q r =
    act_gives a b d (λ l. all_passed ws l) (λ l. called_in z x f l) v p (act_gives b c d (λ l. acted (call_stored z f) l) (λ l. placed (slot_read x z) l) v q (places_gives c d (slot_read x z) v r))

pub nothing_given_gives : (a b c : List Entry) (ws : List Typed) (f : Typed) (v : Operand)
    → Acts a (λ l. all_passed ws l) b → Acts b (λ l. called f l) c → typed_of v ≡ number true 0 → Gives a (λ l. nothing_given f ws l) v c
nothing_given_gives a b c ws f v p q e =
    act_gives a c c (λ l. called f (all_passed ws l)) (λ l. nothing l) v (act_then a b c (λ l. all_passed ws l) (λ l. called f l) p q) (nothing_gives c v e)

pub whole_gives : (a b c d e : List Entry) (place : Typed) (ws : List Typed) (f : Typed) (v : Operand)
    → Acts a (λ l. word_passed place.suffix place.tree l) b → Acts b (λ l. all_passed ws l) c → Acts c (λ l. called f l) d → Places d place v e → Gives a (λ l. whole_given place f ws l) v e
whole_gives a b c d e place ws f v o p q r =
    act_gives a b e (λ l. word_passed place.suffix place.tree l) (λ l. placed place (called f (all_passed ws l))) v o
    (act_gives b d e (λ l. called f (all_passed ws l)) (λ l. placed place l) v (act_then b c d (λ l. all_passed ws l) (λ l. called f l) p q) (places_gives d e place v r))
