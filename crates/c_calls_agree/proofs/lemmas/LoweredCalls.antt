-- Calls of each kind.
use Rattle.std.specs.Prelude.{◌≡◌, ◌≤◌, ℕ, Bool, true, false, List, [], ◌∷◌}
use Rattle.std.proofs.Common.{true≢false, refl, sym, ◌∙◌}
use Rattle.objects.specs.declared.value.Value.{Value}
use Rattle.dag_seam.specs.SplitLaws.{TurnsMean}
use Rattle.c_types.specs.CType.{CType, Plain, Array, Kind, Simple, Void}
use Rattle.c_meaning.specs.CoreTrees.{NoCore, Cores}
use Rattle.c_meaning.specs.Types.{is_void, is_record, is_void_kind, is_record_kind, is_pointer}
use Rattle.c_runs.specs.Expressions.{call_by}
use Rattle.c_runs.specs.Locals.{LocalIsObject}
use Rattle.c_runs.specs.Run.{context}
use Rattle.c_runs.specs.Soundness.{EvalStaysSound, CopiesStaySound}
use Rattle.c_rows_agree.specs.Typed.{Typed, as_p}
use Rattle.c_pointers_agree.specs.Pointers.{call_head}
use Rattle.c_expr_agreement.specs.Scenes.{Scene}
use Rattle.lowered_forms.specs.Calls.{all_passed, called, call_stored, result_suffix}
use Rattle.lowered_forms.specs.Contexts.{Context}
use Rattle.lowered_forms.specs.Lows.{Low, acted, slot_offset, with_slot}
use Rattle.lowered_forms.specs.Places.{local_place}
use Rattle.lowered_forms.specs.Values.{placed, slot_read}
use Rattle.c_straight_agree.specs.Agreement.{without_value}
use Rattle.c_straight_agree.specs.Extends.{Extends}
use Rattle.c_straight_agree.specs.Layouts.{FrameLayout, context_in, IsLaidOut}
use Rattle.c_straight_agree.specs.Narrow.{CharsAreNarrow, ShortsAreNarrow}
use Rattle.c_straight_agree.specs.Standing.{IsBody}
use Rattle.c_straight_agree.proofs.lemmas.Extending.{extends_itself, extends_joins, placed_extends, acted_extends}
use Rattle.c_straight_agree.proofs.lemmas.Performing.{give_without}
use Rattle.c_calls_agree.specs.Laws.{ValuedCallsAreLowered, VoidCallsArePerformed}
use Rattle.c_calls_agree.specs.Programs.{IsProgram}
use Rattle.c_calls_agree.proofs.lemmas.Arguments.{GoesAll}
use Rattle.c_calls_agree.proofs.lemmas.Calls.{root_extends, slot_extends, made_as, arguments_without, void_goes, call_is_seen}
use Rattle.c_calls_agree.proofs.lemmas.ScalarCalls.{scalar_goes}
use Rattle.c_calls_agree.proofs.lemmas.WholeCalls.{structure_goes}
use Rattle.c_calls_agree.proofs.lemmas.Words.{words_extend}

further_so : (whole void : Bool) (x : Context) (of : CType) (n : ℕ) (ps : List Typed) (l : Low) → Extends l (made_as whole void x of n ps l).low
further_so whole void x of n [] l = extends_itself l
further_so true void x of n (g ∷ as') l =
    let to = local_place x n of in
    let m1 = all_passed (to ∷ as') l in
    let m2 = called g m1 in
    extends_joins l m2 (placed to m2).low (extends_joins l m1 m2 (words_extend (to ∷ as') l) (root_extends (call_head false) (as_p g) m1)) (placed_extends to m2)
further_so false true x of n (g ∷ as') l = extends_joins l (all_passed as' l) _ (words_extend as' l) (root_extends (call_head false) (as_p g) (all_passed as' l))
further_so false false x of n (g ∷ as') l =
    let l0 = with_slot l in
    let m1 = all_passed as' l0 in
    let p = acted (call_stored (slot_offset l) g) m1 in
    let a = slot_read (result_suffix (is_pointer of)) (slot_offset l) in
    extends_joins l l0 (placed a p).low (slot_extends l) (extends_joins l0 m1 (placed a p).low (words_extend as' l0) (extends_joins m1 p (placed a p).low (acted_extends (call_stored (slot_offset l) g) m1) (placed_extends a p)))

void_kind : (k : Kind) → is_void_kind k ≡ true → is_record_kind k ≡ false
void_kind (Simple Void) e = refl
void_kind k e = absurd (true≢false (sym e))

void_is_no_record : (of : CType) → is_void of ≡ true → is_record of ≡ false
void_is_no_record (Plain q k) e = void_kind k e
void_is_no_record (Array of n) e = refl

module _ (chars : CharsAreNarrow) (shorts : ShortsAreNarrow) (means : TurnsMean) (evals : EvalStaysSound) (copying : CopiesStaySound) (each : LocalIsObject) where
  module _ (s : Scene) (locals : ℕ) (body : IsBody s locals) (program : IsProgram s) (y : FrameLayout) (laid : IsLaidOut s y) (of : CType) (line : ℕ) where
    abbrev x : Context
    x = context_in s y

    valued_goes : (whole : Bool) → is_record of ≡ whole → (callee : Value) → GoesAll s locals body y of (λ n ps l. made_as whole false x of n ps l) (λ n xs k old. call_by (context s.unit s.lowered.order) of line callee n xs k old) callee
    valued_goes true is callee = structure_goes chars shorts means s locals body program each y laid of line is false callee
    valued_goes false is callee = scalar_goes chars shorts means s locals body program each y laid of line is callee

  pub valued_calls_are_lowered : ValuedCallsAreLowered
  valued_calls_are_lowered s locals y body program laid n of line NoCore valued tame copies parts l le = λ start turns f h map before values first k slots st sound wholes. tt
  valued_calls_are_lowered s locals y body program laid n of line (Cores f kids) valued tame copies parts l le =
      let whole = is_record of in
      call_is_seen chars shorts each s locals body program y laid of line evals copying n whole false refl valued (further_so whole false (context_in s y) of) (λ r. r) (λ r go. refl) (λ go ps k w. refl)
      (valued_goes s locals body program y laid of line whole refl) f kids parts copies l le

  pub void_calls_are_performed : VoidCallsArePerformed
  void_calls_are_performed s locals y body program laid n of line NoCore void tame copies parts l le = λ start turns f h map before values first k slots st sound wholes. tt
  void_calls_are_performed s locals y body program laid n of line (Cores f kids) void tame copies parts l le =
      let plain = void_is_no_record of void in
      call_is_seen chars shorts each s locals body program y laid of line evals copying n false true plain void (further_so false true (context_in s y) of) without_value (λ r go. give_without r go _ (λ v k w. refl)) (λ go ps k w. arguments_without (context s.unit s.lowered.order) go ps n [] k w)
      (void_goes chars shorts each s locals body program y laid of line means plain) f kids parts copies l le
