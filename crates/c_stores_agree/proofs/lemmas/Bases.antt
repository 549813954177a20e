-- Places in a local, as templates over its address.
use Rattle.std.specs.Prelude.{◌≡◌, ◌≤◌, ℕ, suc, nat_lt, ℤ, pos, negsuc, Bool, true, false, Some, Ok, List, length, slice_get}
use Rattle.std.proofs.Common.{refl, sym, subst, arith}
use Rattle.objects.specs.declared.purpose.Purpose.TheVariants.{Initialisation}
use Rattle.objects.specs.declared.value.Value.{Value}
use Rattle.objects.specs.Pointers.{place_after, moved}
use Rattle.dag_forest.specs.Meaning.{Keeps}
use Rattle.dag_forest.specs.Tally.{node_count}
use Rattle.c_types.specs.CType.{CType}
use Rattle.c_runs.specs.Places.{size_of}
use Rattle.c_runs.specs.Soundness.{IsSoundValue}
use Rattle.c_runs.specs.Worlds as c
use Rattle.c_match.specs.Held.{IsOpenTo}
use Rattle.c_match.specs.Values.{StaysInside}
use Rattle.c_pointers_agree.specs.Held.{HoldsShort}
use Rattle.c_pointers_agree.proofs.lemmas.Moves.{member_agrees}
use Rattle.c_pointers_agree.proofs.lemmas.Short.{operand_sound}
use Rattle.c_rows_agree.specs.Templates as template
use Rattle.c_rows_agree.specs.Places.{loaded_pointer}
use Rattle.c_rows_agree.specs.Typed.{Typed, Holds}
use Rattle.piece_runs.specs.Reaches.{keeps_at}
use Rattle.lowered_forms.specs.Lows.{Low}
use Rattle.lowered_forms.specs.Places.{address_at, further, is_passed_whole, local_place}
use Rattle.lowered_forms.proofs.lemmas.WithinTemplates.{HasIn, as_p_in, further_in}
use Rattle.c_straight_agree.specs.Layouts.{context_in, IsOpenAt}
use Rattle.c_straight_agree.specs.Settled.{seen, IsSettled}
use Rattle.c_straight_agree.proofs.lemmas.Coming.{operand_settled}
use Rattle.c_straight_agree.proofs.lemmas.Leaves.{value_at, address_has, local_is, whole_holds, whole_settled, whole_is}
use Rattle.c_straight_agree.proofs.lemmas.Members.{HasRoom, fewer_at, member_holds, address_room}
use Rattle.c_straight_agree.proofs.lemmas.Putting.{each_at}
use Rattle.c_straight_agree.proofs.lemmas.SettledTemplates.{further_set}
use Rattle.c_stmt_agreement.specs.Comings.{Activation, HasFrame, Origin}
use Rattle.c_stmt_agreement.specs.LoweredStmt.{StandsAt}
use Rattle.c_stores_agree.proofs.lemmas.Places.{open_place}

-- ---- a place that may be initialised

-- where the run stands, a template is the address of a place of C, which no temporary is, and which may be initialised
pub record IsPlace (p : Activation) (o : Origin) (k : ℕ) (l : Low) (at : StandsAt p o l k) (a : Typed) (q : Value) : Type 0 where
  pub within : HasIn (node_count l.entries) a
  pub holds : Holds (seen p.scene.body o.map at.values o.world) a q
  pub settled : IsSettled (keeps_at p.scene.body l.pieces l.entries at.front) (seen p.scene.body o.map at.values o.world) a.tree
  pub opens : IsOpenTo Initialisation o.map o.world.objects q

-- ---- the address of a local

-- one of this type: wherever the run stands a template is its address, which has so many bytes behind it
pub record IsBase (p : Activation) (n : ℕ) (of : CType) (base : Typed) : Type 0 where
  pub within : (m : ℕ) → HasIn m base
  pub room : (by : ℕ) → by ≤ size_of p.scene.unit.tags of → HasRoom p.scene by base.tree
  pub holds : (o : Origin) (k : ℕ) (l : Low) (at : StandsAt p o l k) (b : Value) → slice_get o.old.locals n ≡ Some b → Holds (seen p.scene.body o.map at.values o.world) base b
  pub settled : (o : Origin) (k : ℕ) (l : Low) (at : StandsAt p o l k) (b : Value) → slice_get o.old.locals n ≡ Some b → IsSettled (keeps_at p.scene.body l.pieces l.entries at.front) (seen p.scene.body o.map at.values o.world) base.tree

address_in : (m : ℕ) (z : ℤ) → HasIn m (address_at z)
address_in m (pos i) = tt
address_in m (negsuc i) = tt

module _ (p : Activation) (frame : HasFrame p) (n : ℕ) (of : CType) (typed : slice_get p.layout.types n ≡ Some of) where
  abbrev z : ℤ
  z = (frame.laid.places n of typed).0

  placed : slice_get p.layout.places n ≡ Some z
  placed = (frame.laid.places n of typed).1

  own_base : is_passed_whole (context_in p.scene p.layout) n of ≡ false → IsBase p n of (address_at z)
  own_base whole = record {
    within = λ m. address_in m z;
    room = λ by le. address_room p.scene z by (fewer_at p.scene z by (size_of p.scene.unit.tags of) le (frame.laid.places n of typed).2);
    holds = λ o k l at b there. (address_has p.scene p.locals frame.body p.layout frame.laid o.start o.turns l at.front o.map o.old at.values o.world k at.stands at.sound n of z b typed whole placed there).holds;
    settled = λ o k l at b there.
        operand_settled (keeps_at p.scene.body l.pieces l.entries at.front) p.scene (address_at z) o.map at.values o.world b
        (address_has p.scene p.locals frame.body p.layout frame.laid o.start o.turns l at.front o.map o.old at.values o.world k at.stands at.sound n of z b typed whole placed there);
  }

  passed_base : is_passed_whole (context_in p.scene p.layout) n of ≡ true → IsBase p n of (loaded_pointer (address_at z))
  passed_base whole = record {
    within = λ m. as_p_in m (address_at z).suffix (address_at z).tree (address_in m z);
    room = λ by le. tt;
    holds = λ o k l at b there. whole_holds p.scene p.locals frame.body p.layout frame.laid o.start o.turns l at.front o.map o.old at.values o.world k at.stands at.sound n of z b typed whole placed at.wholes there;
    settled = λ o k l at b there. whole_settled p.scene p.locals frame.body p.layout frame.laid o.start o.turns l at.front o.map o.old at.values o.world k at.stands at.sound n of z b typed whole placed at.wholes;
  }

  base_by : (whole : Bool) → is_passed_whole (context_in p.scene p.layout) n of ≡ whole → IsBase p n of (local_place (context_in p.scene p.layout) n of)
  base_by false e = subst (λ (a : Typed). IsBase p n of a) (sym (local_is p.scene p.layout n of z e placed)) (own_base e)
  base_by true e = subst (λ (a : Typed). IsBase p n of a) (sym (whole_is p.scene p.layout n of z e placed)) (passed_base e)

  pub local_is_base : IsBase p n of (local_place (context_in p.scene p.layout) n of)
  local_is_base = base_by (is_passed_whole (context_in p.scene p.layout) n of) refl

-- ---- places in a local

below_next : (n : ℕ) → nat_lt n (suc n) ≡ true
below_next n = grind arith

module _ (p : Activation) (frame : HasFrame p) (n : ℕ) (of : CType) (base : Typed) (is : IsBase p n of base) (o : Origin) (k : ℕ) (l : Low) (at : StandsAt p o l k) (b : Value) (there : slice_get o.old.locals n ≡ Some b) where
  abbrev here : template.Scene
  here = seen p.scene.body o.map at.values o.world

  abbrev pub here_short : HoldsShort here (c.objects o.old)
  here_short = record { held = at.stands.stands.matches.held; short = at.sound.short }

  pub local_stays : StaysInside b
  local_stays = (operand_sound o.old.storage.made b (each_at (IsSoundValue o.old.storage.made) o.old.locals n b at.sound.sound.locals there)).0

  pub local_opens : (by : ℤ) → IsOpenTo Initialisation o.map o.world.objects (place_after b by)
  local_opens by =
      let u = value_at o.map o.old.locals p.scene.frame.addresses n b at.stands.stands.frame.locals there in
      open_place o.map o.world.objects b u.0 by u.2 (each_at (IsOpenAt o.world.objects) p.scene.frame.addresses n u.0 at.opens u.1)

  module _ (by : ℕ) (moves : moved (c.objects o.old) b (pos by) ≡ Ok (place_after b (pos by))) where
    further_by : (t : Bool) → (t ≡ true → suc by ≤ size_of p.scene.unit.tags of) → Holds here (further t by base) (place_after b (pos by))
    further_by true fits =
        subst (λ (t : Bool). Holds here (further t by base) (place_after b (pos by))) (below_next by)
        (member_holds p.scene p.layout frame.laid o.map at.values o.world (c.objects o.old) here_short by base b (place_after b (pos by)) (is.holds o k l at b there) moves
        (member_agrees here (c.objects o.old) by base b (place_after b (pos by)) here_short local_stays (is.holds o k l at b there) moves) (suc by) (is.room (suc by) (fits refl)))
    further_by false fits = member_agrees here (c.objects o.old) by base b (place_after b (pos by)) here_short local_stays (is.holds o k l at b there) moves

    -- so many bytes behind its first one; with more than none there, if this is said
    pub part_is_place : (t : Bool) → (t ≡ true → suc by ≤ size_of p.scene.unit.tags of) → IsPlace p o k l at (further t by base) (place_after b (pos by))
    part_is_place t fits = record {
      within = further_in (node_count l.entries) t by base (is.within (node_count l.entries));
      holds = further_by t fits;
      settled = further_set (keeps_at p.scene.body l.pieces l.entries at.front) here t by base (is.settled o k l at b there);
      opens = local_opens (pos by);
    }
