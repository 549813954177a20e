-- The run goes on from place to place while a slot holds a number: over one comparison, and from labels.
use Rattle.std.specs.Prelude.{◌≡◌, ◌≤◌, ◌<◌, ℕ, ◌^◌, Bool, true, false, Ok, length, if◌then◌else◌}
use Rattle.std.proofs.Common.{refl, subst, arith}
use Rattle.objects.specs.declared.operators.Comparison.{Comparison}
use Rattle.objects.specs.declared.value.Value.TheVariants.{Number}
use Rattle.objects.specs.Arithmetic.{comparison_value}
use Rattle.op_forest.specs.declared.suffix.Suffix.TheVariants.{I}
use Rattle.forests.specs.Words.{Plain}
use Rattle.dag_forest.specs.Tally.{node_count}
use Rattle.dag_seam.specs.SplitLaws.{TurnsMean}
use Rattle.c_rows_agree.specs.Integers.{number, compared, compares_signed}
use Rattle.c_rows_agree.proofs.lemmas.Suffixes.{number_holds}
use Rattle.c_rows_agree.proofs.lemmas.Tests.{comparison_holds}
use Rattle.piece_runs.specs.Pieces.{Front}
use Rattle.piece_runs.specs.Reaches.{keeps_at}
use Rattle.lowered_forms.specs.Later.{IsFront}
use Rattle.lowered_forms.specs.Lows.{Low, jumped}
use Rattle.lowered_forms.specs.Values.{slot_read}
use Rattle.lowered_forms.proofs.lemmas.WithinTemplates.{slot_in, number_in, as_by_in}
use Rattle.lowered_statements.specs.Searches.{Choice, compared_with}
use Rattle.c_straight_agree.specs.Narrow.{CharsAreNarrow, ShortsAreNarrow}
use Rattle.c_straight_agree.specs.Settled.{seen}
use Rattle.c_straight_agree.proofs.lemmas.Near.{near_gives}
use Rattle.c_straight_agree.proofs.lemmas.SettledTemplates.{as_by_set, number_set}
use Rattle.c_slots_agree.specs.Slots.{IsSlotAt, SlotHolds}
use Rattle.c_tests_agree.specs.Tested.{AreMarkedOnce, Label, low_at, Passed, PassedBy}
use Rattle.c_tests_agree.proofs.lemmas.Branching.{branch_comes}
use Rattle.c_tests_agree.proofs.lemmas.Valuing.{slots_more}
use Rattle.c_choices_agree.proofs.lemmas.Slots.{SlotLaws}
use Rattle.c_stmt_agreement.specs.Comings.{Activation, HasFrame, Origin, Came}
use Rattle.c_stmt_agreement.specs.Laws.{IsFinal}
use Rattle.c_stmt_agreement.specs.LoweredStmt.{StandsAt}
use Rattle.c_stmt_agreement.proofs.lemmas.Expressions.{passed_came}
use Rattle.c_stmt_agreement.proofs.lemmas.Leading.{jumps_lead}
use Rattle.c_stmt_agreement.proofs.lemmas.Rebasing.{onward, stands_onward, came_on}
use Rattle.c_stmts_agree.proofs.lemmas.Places.{Moves, moves_behind, moves_come}
use Rattle.c_stmts_agree.proofs.lemmas.Rows.{unpaid}
use Rattle.c_searches_agree.specs.Jumps.{ComesHolding}

-- ---- slots

pub stays_below : (i : ℕ) (l m : Low) → IsFront l.slots m.slots → i < length l.slots → i < length m.slots
stays_below i l m more less = let a = slots_more l m more in omega (arith, a, less)

pub room_behind : (locals i slots : ℕ) → locals ≤ i → i < slots → locals ≤ slots
room_behind locals i slots le less = omega (arith, le, less)

-- ---- from one place to another

-- the run has come to a place, and the slot holds the number there
pub record HeldAt (p : Activation) (i n : ℕ) (o : Origin) (b : Low) (k : ℕ) : Type 0 where
  pub came : Came p o b o.old k
  pub holds : SlotHolds p.scene i (Plain (Number n)) came.passed.world

module _ (p : Activation) (i n : ℕ) where
  pub held_on : (o : Origin) (b d : Low) (k : ℕ) → HeldAt p i n o b k → ComesHolding p i n b d → Came p o d o.old k
  held_on o b d k h goes = came_on p o b o.old k h.came o.turns d o.old k (goes (onward p o b o.old k h.came) k (stands_onward p o b o.old k h.came) h.holds)

  pub moves_holding : (a b d : Low) → Moves p a b → ComesHolding p i n b d → ComesHolding p i n a d
  moves_holding a b d moves goes o k at holds = goes o k (moves o k at) holds

-- ---- labels

module _ (p : Activation) (once : AreMarkedOnce p.scene.body) (i n : ℕ) where
  -- a label stands once, whatever is known of its slots
  pub same_place : (l m : ℕ) → l ≡ m → (t : Label p.scene l) (u : Label p.scene m) → ComesHolding p i n (low_at p.scene l t) (low_at p.scene m u)
  same_place l m e t = subst (λ (q : ℕ). (u : Label p.scene q) → ComesHolding p i n (low_at p.scene l t) (low_at p.scene q u)) e (λ u o k at holds. at_once u o k at)
    where
      at_once : (u : Label p.scene l) (o : Origin) (k : ℕ) → StandsAt p o (low_at p.scene l t) k → Came p o (low_at p.scene l u) o.old k
      at_once u o k at = moves_come p (low_at p.scene l t) (low_at p.scene l u) (moves_behind p once l (low_at p.scene l t) (low_at p.scene l u) (t, refl) (u, refl)) o k at

module _ (chars : CharsAreNarrow) (shorts : ShortsAreNarrow) (means : TurnsMean) (p : Activation) (frame : HasFrame p) (once : AreMarkedOnce p.scene.body) where
  pub jump_goes : (i n l m : ℕ) → l ≡ m → (a : Low) → p.locals ≤ length a.slots → IsFinal p (jumped l a) → (t : Label p.scene m) → ComesHolding p i n a (low_at p.scene m t)
  jump_goes i n l m e a le final =
      subst (λ (q : ℕ). (t : Label p.scene q) → ComesHolding p i n a (low_at p.scene q t)) e
      (λ t o k at holds. unpaid p a (low_at p.scene l t) (jumps_lead chars shorts means p frame once l a le t final) o k at)

  -- ---- one comparison

  module _ (laws : SlotLaws) (x : Choice) (i n : ℕ) (at : IsSlotAt p.scene i x.slot) (le : p.locals ≤ i) (o : Comparison) (m label : ℕ) (small : m < 2 ^ 32) (a : Low) (less : i < length a.slots) (t : Label p.scene label) (final : IsFinal p (compared_with o x m label a)) where
    le_slots : p.locals ≤ length a.slots
    le_slots = room_behind p.locals i (length a.slots) le less

    held_passed : (g : Origin) (k : ℕ) → StandsAt p g a k → SlotHolds p.scene i (Plain (Number n)) g.world → (b : Low) (h : Front p.scene.body.pieces b.pieces b.entries) → Passed p.scene g.start g.turns (length a.slots) b h g.map g.old g.world g.old k → HeldAt p i n g b k
    held_passed g k here holds b h one = record {
      came = passed_came p frame g a k here le_slots b h g.old k here.sound one;
      holds = laws.stay p.scene p.locals frame.body i (length a.slots) x.slot at le less g.map g.old g.world one.world here.stands.stands.frame one.alike one.left (Plain (Number n)) holds;
    }

    compared_passed : (is : Bool) → comparison_value x.signed o (Number n) (Number m) ≡ Ok is → (g : Origin) (k : ℕ) → StandsAt p g a k → SlotHolds p.scene i (Plain (Number n)) g.world
        → PassedBy is p.scene g.start g.turns (length a.slots) (compared_with o x m label a) final.front label t g.map g.old g.world g.old k
    compared_passed is e g k here holds =
        let s = p.scene in
        let keeps = keeps_at s.body a.pieces a.entries here.front in
        let z = seen s.body g.map here.values g.world in
        let nodes = node_count a.entries in
        let reads = laws.reads s p.locals frame.body frame.laid.frame i x.slot at a here.front here.stands.slots less g.map here.values g.world (Plain (Number n)) holds I in
        let v = slot_read I x.slot in
        let w = number x.signed m in
        let signed = compares_signed x.signed o in
        branch_comes chars shorts means s once p.locals frame.body g.start g.turns a le_slots here.front g.map g.old here.values g.world k here.stands (compared o x.signed true label v w) true is label
        (as_by_in nodes signed v (slot_in nodes I x.slot)) (as_by_in nodes signed w (number_in nodes x.signed m)) (as_by_set keeps z signed v reads.1) (as_by_set keeps z signed w (number_set keeps z x.signed m))
        (λ others world near matches inside.
        comparison_holds (seen s.body g.map others world) o x.signed true is label v w (Number n) (Number m)
        (record { word = Plain (Number n); gives = near_gives keeps s.body g.map g.map nodes here.values others g.world world near v.tree (Plain (Number n)) (slot_in nodes I x.slot) reads.1 reads.0; is = refl })
        (number_holds (seen s.body g.map others world) x.signed m small) e)
        final.front final.slots t

    -- it jumps where the comparison holds, else the next block begins, and the slot holds the number still
    pub comparison_held : (is : Bool) → comparison_value x.signed o (Number n) (Number m) ≡ Ok is → (g : Origin) (k : ℕ) → StandsAt p g a k → SlotHolds p.scene i (Plain (Number n)) g.world → HeldAt p i n g (if is then low_at p.scene label t else compared_with o x m label a) k
    comparison_held true e g k here holds = held_passed g k here holds (low_at p.scene label t) t.front (compared_passed true e g k here holds)
    comparison_held false e g k here holds = held_passed g k here holds (compared_with o x m label a) final.front (compared_passed false e g k here holds)

    pub comparison_goes : (d : Low) (is : Bool) → comparison_value x.signed o (Number n) (Number m) ≡ Ok is → (is ≡ true → ComesHolding p i n (low_at p.scene label t) d) → (is ≡ false → ComesHolding p i n (compared_with o x m label a) d) → ComesHolding p i n a d
    comparison_goes d true e taken next g k here holds = held_on p i n g (low_at p.scene label t) d k (comparison_held true e g k here holds) (taken refl)
    comparison_goes d false e taken next g k here holds = held_on p i n g (compared_with o x m label a) d k (comparison_held false e g k here holds) (next refl)
