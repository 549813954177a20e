-- Two operands are compared, once both have their values.
use Rattle.std.specs.Prelude.{◌≡◌, ◌≤◌, ℕ, not, ◌&&◌, Bool, true, false, Ok, Err, List, length, Result as Checked, if◌then◌else◌}
use Rattle.std.proofs.Common.{refl, sym, ap, subst, ◌∙◌}
use Rattle.lcc_base.specs.declared.cause.Cause.{Cause}
use Rattle.objects.specs.declared.operators.Comparison.{Comparison}
use Rattle.objects.specs.declared.value.Value.{Value}
use Rattle.objects.specs.Arithmetic.{comparison_value}
use Rattle.objects.specs.Objects.{Object as Old}
use Rattle.forests.specs.Actions.{Moved}
use Rattle.forests.specs.Words.{Word}
use Rattle.forests.specs.Worlds.{World, Outcome}
use Rattle.dag_forest.specs.Meaning.{Keeps}
use Rattle.dag_forest.specs.Tally.{node_count}
use Rattle.dag_seam.specs.SplitLaws.{TurnsMean}
use Rattle.c_types.specs.CType.{CType}
use Rattle.c_meaning.specs.Types.{is_pointer}
use Rattle.c_runs.specs.Expressions.{pointers_compared}
use Rattle.c_runs.specs.Outcomes.{truth, mapped, gives}
use Rattle.c_runs.specs.Worlds as c
use Rattle.c_match.specs.Ranges.{Map}
use Rattle.c_match.specs.Values.{StaysInside}
use Rattle.c_rows_agree.specs.Integers.{comparison_where, compared, move_where}
use Rattle.c_rows_agree.specs.Integers as number
use Rattle.c_rows_agree.specs.Templates as template
use Rattle.c_rows_agree.specs.Typed.{Typed, Holds}
use Rattle.c_rows_agree.proofs.lemmas.Tests.{comparison_holds}
use Rattle.c_pointers_agree.specs.Held.{HoldsShort}
use Rattle.c_pointers_agree.proofs.lemmas.Comparisons.{comparisons_agree}
use Rattle.piece_runs.specs.Pieces.{Front}
use Rattle.piece_runs.specs.Reaches.{keeps_at}
use Rattle.c_expr_agreement.specs.Scenes.{Scene}
use Rattle.lowered_forms.specs.Later.{IsFront}
use Rattle.lowered_forms.specs.Lows.{Low, branched}
use Rattle.lowered_forms.specs.Tests.{compares_signed}
use Rattle.lowered_forms.proofs.lemmas.WithinTemplates.{HasIn, as_by_in}
use Rattle.c_straight_agree.specs.Narrow.{CharsAreNarrow, ShortsAreNarrow}
use Rattle.c_straight_agree.specs.Settled.{seen, IsSettled, IsNear}
use Rattle.c_straight_agree.specs.Standing.{IsBody, Standing, IsSoundIn}
use Rattle.c_straight_agree.proofs.lemmas.Near.{near_gives}
use Rattle.c_straight_agree.proofs.lemmas.SettledTemplates.{as_by_set}
use Rattle.c_tests_agree.specs.Tested.{AreMarkedOnce, Label, WentTo}
use Rattle.c_tests_agree.proofs.lemmas.Branching.{branch_comes}

-- ---- what C's comparison of two values of a type is

abbrev pub comparison_of : CType → Bool → Comparison → List Old → Value → Value → Checked Bool Cause
comparison_of t signed o os v u = if is_pointer t then pointers_compared o os v u else comparison_value signed o v u

pub truths_alike : (a b : Bool) → truth a ≡ truth b → b ≡ a
truths_alike true true e = refl
truths_alike true false e = absurd (let never : ⊥ = cc in never)
truths_alike false true e = absurd (let never : ⊥ = cc in never)
truths_alike false false e = refl

signed_so : (t : CType) (signed b : Bool) → is_pointer t ≡ b → compares_signed t signed ≡ (not b && signed)
signed_so t signed b e = ap (λ (z : Bool). not z && signed) e

module _ (k : template.Scene) (old : List Old) (t : CType) (signed : Bool) (o : Comparison) (a b : Typed) (p q : Value) (h : HoldsShort k old) (ip : StaysInside p) (iq : StaysInside q) (ha : Holds k a p) (hb : Holds k b q) (is when : Bool) (n : ℕ) where
  abbrev JumpsSo : Bool → Type 0
  JumpsSo as_signed = template.Acts k (compared o as_signed when n a b) (Moved (move_where when is n))

  pointers_jump : is_pointer t ≡ true → comparison_of t signed o old p q ≡ Ok is → JumpsSo false
  pointers_jump so e =
      let r = comparisons_agree k old t signed o a b p q (truth is) h ip iq ha hb so (ap (λ (x : Checked Bool Cause). mapped truth x) e) in
      subst (λ (z : Bool). template.Acts k (compared o false when n a b) (Moved (move_where when z n))) (truths_alike is r.0 r.1) (r.2 when n)

  numbers_jump : is_pointer t ≡ false → comparison_of t signed o old p q ≡ Ok is → JumpsSo signed
  numbers_jump so e = comparison_holds k o signed when is n a b p q ha hb (sym (ap (λ (x : Bool). if x then pointers_compared o old p q else comparison_value signed o p q) so) ∙ e)

  jump_by : (pointed : Bool) → is_pointer t ≡ pointed → comparison_of t signed o old p q ≡ Ok is → JumpsSo (compares_signed t signed)
  jump_by true so e = subst JumpsSo (sym (signed_so t signed true so)) (pointers_jump so e)
  jump_by false so e = subst JumpsSo (sym (signed_so t signed false so)) (numbers_jump so e)

  -- a jump is taken where they compare so, or where they don't
  pub comparison_jumps : comparison_of t signed o old p q ≡ Ok is → JumpsSo (compares_signed t signed)
  comparison_jumps e = jump_by (is_pointer t) refl e

-- ---- both are there

-- an operand with its value, which it has while the first nodes, so many, are kept
pub record IsThere (s : Scene) (keeps : Keeps) (n : ℕ) (map : Map) (values : ℕ → Word) (w : World) (a : Typed) (v : Value) : Type 0 where
  pub inside : HasIn n a
  pub settled : IsSettled keeps (seen s.body map values w) a.tree
  pub holds : Holds (seen s.body map values w) a v
  pub stays : StaysInside v

module _ (chars : CharsAreNarrow) (shorts : ShortsAreNarrow) (means : TurnsMean) (s : Scene) (once : AreMarkedOnce s.body) (locals : ℕ) (body : IsBody s locals) (start : ℕ → Outcome) (turns : ℕ) (m : Low) (le : locals ≤ length m.slots) (f : Front s.body.pieces m.pieces m.entries)
    (map : Map) (old : c.World) (values : ℕ → Word) (w : World) (k : ℕ) (st : Standing s start turns m f map old values w k) (sound : IsSoundIn s old) where
  abbrev keeps : Keeps
  keeps = keeps_at s.body m.pieces m.entries f

  abbrev IsHere : Typed → Value → Type 0
  IsHere a v = IsThere s keeps (node_count m.entries) map values w a v

  holds_near : (a : Typed) (v : Value) → IsHere a v → (others : ℕ → Word) (world : World) → IsNear keeps (node_count m.entries) values others w world → Holds (seen s.body map others world) a v
  holds_near a v x others world near = record {
    word = x.holds.word;
    gives = near_gives keeps s.body map map (node_count m.entries) values others w world near a.tree x.holds.word x.inside x.settled x.holds.gives;
    is = x.holds.is;
  }

  pub compared_went : (of : CType) (signed : Bool) (o : Comparison) (a b : Typed) (v u : Value) → IsHere a v → IsHere b u → (when : Bool) (n line : ℕ)
      → (h : Front s.body.pieces (branched (compared o (compares_signed of signed) when n a b) m).pieces (branched (compared o (compares_signed of signed) when n a b) m).entries)
      → IsFront (branched (compared o (compares_signed of signed) when n a b) m).slots h.before → (t : Label s n) → (checked : Checked Bool Cause) → comparison_of of signed o (c.objects old) v u ≡ checked
      → WentTo s start turns (length m.slots) when (branched (compared o (compares_signed of signed) when n a b) m) h n t map old w (gives (mapped truth checked) line k old)
  compared_went of signed o a b v u x y when n line h slots t (Err cause) e = tt
  compared_went of signed o a b v u x y when n line h slots t (Ok is) e =
      let as_signed = number.compares_signed (compares_signed of signed) (comparison_where when o) in
      let i = node_count m.entries in
      let z = seen s.body map values w in (
        is,
        (
          refl,
          branch_comes chars shorts means s once locals body start turns m le f map old values w k st (compared o (compares_signed of signed) when n a b) when is n (as_by_in i as_signed a x.inside) (as_by_in i as_signed b y.inside)
              (as_by_set keeps z as_signed a x.settled) (as_by_set keeps z as_signed b y.settled)
              (λ others world near matches frame.
              comparison_jumps (seen s.body map others world) (c.objects old) of signed o a b v u (record { held = matches.held; short = sound.short }) x.stays y.stays (holds_near a v x others world near) (holds_near b u y others world near) is when n e)
              h slots t,
        ),
      )
