-- What is computed of operands, as C computes it.
use Rattle.std.specs.Prelude.{◌≡◌, ◌<◌, ℕ, ◌^◌, Bool, Ok, Result as Checked}
use Rattle.std.proofs.Common.{subst}
use Rattle.lcc_base.specs.declared.cause.Cause.{Cause}
use Rattle.objects.specs.declared.operators.Unary.{Unary}
use Rattle.objects.specs.declared.operators.Binary.{Binary}
use Rattle.objects.specs.declared.value.Value.{Value}
use Rattle.objects.specs.declared.width.Scalar.{Scalar}
use Rattle.objects.specs.Arithmetic.{unary_value, binary_value}
use Rattle.objects.specs.Conversions.{converted}
use Rattle.objects.specs.Pointers.{subtracted}
use Rattle.c_types.specs.CType.{CType}
use Rattle.c_meaning.specs.Types.{is_pointer}
use Rattle.c_runs.specs.Expressions as c
use Rattle.c_runs.specs.Worlds as world
use Rattle.c_rows_agree.specs.Integers.{converted_to, as_pointer, unary_of, binary_of}
use Rattle.c_rows_agree.specs.Typed.{Holds}
use Rattle.c_rows_agree.proofs.lemmas.Conversions.{conversion_holds}
use Rattle.c_rows_agree.proofs.lemmas.Operators.{binary_holds, unary_holds}
use Rattle.c_rows_agree.proofs.lemmas.Suffixes.{pointer_holds}
use Rattle.c_pointers_agree.specs.Pointers.{moved_among, difference}
use Rattle.c_pointers_agree.proofs.lemmas.Differences.{differences_agree}
use Rattle.c_pointers_agree.proofs.lemmas.Moves.{either_side_moves}
use Rattle.c_pointers_agree.proofs.lemmas.Short.{operand_sound}
use Rattle.piece_runs.specs.Reaches.{keeps_at}
use Rattle.c_expr_agreement.specs.Scenes.{Scene}
use Rattle.c_straight_agree.specs.Settled.{seen}
use Rattle.c_straight_agree.specs.Standing.{IsBody}
use Rattle.c_straight_agree.proofs.lemmas.Parts.{ComputesOne, ComputesTwo}
use Rattle.c_straight_agree.proofs.lemmas.SettledTemplates.{as_p_set, converted_set, unary_set, binary_set, among_set, difference_set}

module _ (s : Scene) (locals : ℕ) (body : IsBody s locals) where
  pub unary_computes : (o : Unary) → ComputesOne s locals body (λ a. unary_of o a) (λ os v. unary_value o v)
  unary_computes o m le a v u start turns f map old values w k st sound sv h set e =
      let keeps = keeps_at s.body m.pieces m.entries f in
      (unary_holds (seen s.body map values w) o a v u h e, unary_set keeps (seen s.body map values w) o a set)

  pub conversion_computes : (x : Scalar) → ComputesOne s locals body (λ a. converted_to x a) (λ os v. converted x v)
  conversion_computes x m le a v u start turns f map old values w k st sound sv h set e =
      let keeps = keeps_at s.body m.pieces m.entries f in
      (conversion_holds (seen s.body map values w) x a v u (operand_sound old.storage.made v sv).1 h e, converted_set keeps (seen s.body map values w) x a set)

  abbrev fine : Value → Checked Value Cause
  fine v = Ok v

  same_value : (v u : Value) → fine v ≡ fine u → v ≡ u
  same_value v u e = cc

  -- to a pointer type
  pub pointer_computes : ComputesOne s locals body as_pointer (λ os v. fine v)
  pointer_computes m le a v u start turns f map old values w k st sound sv h set e =
      let keeps = keeps_at s.body m.pieces m.entries f in
      (subst (λ (z : Value). Holds (seen s.body map values w) (as_pointer a) z) (same_value v u e) (pointer_holds (seen s.body map values w) a v h), as_p_set keeps (seen s.body map values w) a.suffix a.tree set)

  pub binary_computes : (o : Binary) (signed : Bool) → ComputesTwo s locals body (λ a b. binary_of o signed a b) (λ os v u. binary_value signed o v u)
  binary_computes o signed m le a b v u z start turns f map old values w k st sound sv su h set_a g set_b e =
      let keeps = keeps_at s.body m.pieces m.entries f in
      (binary_holds (seen s.body map values w) o signed a b v u z h g e, binary_set keeps (seen s.body map values w) o signed a b set_a set_b)

  pub move_computes : (size : ℕ) (back : Bool) (t r : CType) → size < 2 ^ 32 → ComputesTwo s locals body (λ a b. moved_among size back (is_pointer t) a b) (λ os v u. c.moved_among size back t r os v u)
  move_computes size back t r small m le a b v u z start turns f map old values w k st sound sv su h set_a g set_b e =
      let keeps = keeps_at s.body m.pieces m.entries f in
      let x = operand_sound old.storage.made v sv in
      let y = operand_sound old.storage.made u su in (
        either_side_moves (seen s.body map values w) (world.objects old) size back t r a b v u z (record { held = st.stands.matches.held; short = sound.short }) small x.0 y.0 x.1 y.1 h g e,
        among_set keeps (seen s.body map values w) size back (is_pointer t) a b set_a set_b,
      )

  pub difference_computes : (size : ℕ) → size < 2 ^ 31 → ComputesTwo s locals body (λ a b. difference size a b) (λ os v u. subtracted os size v u)
  difference_computes size small m le a b v u z start turns f map old values w k st sound sv su h set_a g set_b e =
      let keeps = keeps_at s.body m.pieces m.entries f in (
        differences_agree (seen s.body map values w) (world.objects old) size a b v u z (record { held = st.stands.matches.held; short = sound.short }) small (operand_sound old.storage.made v sv).0 (operand_sound old.storage.made u su).0 h g e,
        difference_set keeps (seen s.body map values w) size a b set_a set_b,
      )
