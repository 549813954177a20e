-- Returns of a value and without one.
use Rattle.std.specs.Prelude.{◌≡◌, pos, Bool, true, false, Result, OnOk, List, [], ◌∷◌, ◌++◌}
use Rattle.std.proofs.Common.{ap, sym, ◌∙◌, subst}
use Rattle.std.proofs.lemmas.Result.{on_ok_weaker}
use Rattle.op_forest.specs.declared.op.Op.TheVariants as op
use Rattle.op_forest.specs.declared.suffix.Suffix.TheVariants.{I, V}
use Rattle.dag_forest.specs.declared.entry.Entry.{Entry}
use Rattle.dag_forest.specs.declared.entry.Entry.TheVariants.{Root}
use Rattle.dag_forest.specs.declared.kids.Kids.TheVariants.{Zero}
use Rattle.c_types.specs.CType.{CType}
use Rattle.c_types.specs.Layout.{Tag}
use Rattle.c_runs.specs.Places.{align_of, size_of}
use Rattle.c_rows_agree.specs.Integers.{number}
use Rattle.c_rows_agree.specs.Places.{loaded_pointer}
use Rattle.c_rows_agree.specs.Typed.{Typed, as_i, head}
use Rattle.lowered_forms.specs.Accesses.{copied}
use Rattle.lowered_forms.specs.Asked.{with_kids}
use Rattle.lowered_forms.specs.Lows.{acted_one, with_entries}
use Rattle.lowered_forms.specs.Places.{parameter}
use Rattle.lowered_statements.specs.Bodies.{returned}
use Rattle.lowered_statements.specs.Functions.{Function}
use Rattle.lowered_statements.specs.Returns.{given_by, hidden, nothing_given}
use Rattle.lowering_steps.specs.declared.operand.Operand.{Operand}
use Rattle.lowering_steps.specs.Asking.{Acts, Places}
use Rattle.lowering_steps.specs.Operands.{typed_of}
use Rattle.statement_steps.proofs.lemmas.Rooting.{acts_then, copies_at}

pub leaves : (es fs : List Entry) → fs ≡ es ++ Root (with_kids (head op.Ret V) Zero) ∷ [] → Acts es (λ l. returned l) fs
leaves es fs h = record {
  is = λ l e. ap (λ (x : List Entry). with_entries (x ++ Root (with_kids (head op.Ret V) Zero) ∷ []) l) e ∙ ap (λ (x : List Entry). with_entries x l) (sym h);
}

pub gives_zero : {T E : Type 0} (r : Result T E) (zero : Bool) (v : Typed) (es fs : List Entry) → zero ≡ true → v ≡ number true 0
    → OnOk r (Acts es (λ l. acted_one (head op.Ret I) (as_i v) l) fs) → OnOk r (Acts es (λ l. nothing_given zero l) fs)
gives_zero r zero v es fs e d h =
    on_ok_weaker r (λ k.
    subst (λ (b : Bool). Acts es (λ l. nothing_given b l) fs) (sym e) (subst (λ (x : Typed). Acts es (λ l. acted_one (head op.Ret I) (as_i x) l) fs) d k)) h

pub gives_nothing : {T E : Type 0} (r : Result T E) (zero : Bool) (es fs : List Entry) → zero ≡ false → OnOk r (Acts es (λ l. returned l) fs) → OnOk r (Acts es (λ l. nothing_given zero l) fs)
gives_nothing r zero es fs e h = on_ok_weaker r (λ k. subst (λ (b : Bool). Acts es (λ l. nothing_given b l) fs) (sym e) k) h

pub gives_whole : {T E : Type 0} (r : Result T E) (tags : List Tag) (of : CType) (value p : Typed) (place : Operand) (es fs gs hs : List Entry) → p ≡ parameter (pos 0) → Places es (loaded_pointer p) place fs
    → Acts fs (λ l. copied tags of (typed_of place) value l) gs → OnOk r (Acts gs (λ l. returned l) hs) → OnOk r (Acts es (λ l. returned (copied tags of hidden value l)) hs)
gives_whole r tags of value p place es fs gs hs e at copy h =
    on_ok_weaker r (λ k.
    acts_then (λ l. copied tags of hidden value l) (λ l. returned l) es gs hs
    (copies_at (size_of tags of) (align_of tags of) es fs gs hidden value place (subst (λ (x : Typed). Places es (loaded_pointer x) place fs) e at) copy) k) h

pub gives : {T E : Type 0} (r : Result T E) (b whole : Bool) (f : Function) (v : Typed) (es fs : List Entry) → b ≡ whole → OnOk r (Acts es (λ l. given_by b f v l) fs) → OnOk r (Acts es (λ l. given_by whole f v l) fs)
gives r b whole f v es fs e h = on_ok_weaker r (λ k. subst (λ (x : Bool). Acts es (λ l. given_by x f v l) fs) e k) h
