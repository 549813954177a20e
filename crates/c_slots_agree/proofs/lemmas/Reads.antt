-- What slots of the frame hold, and are read for.
use Rattle.std.specs.Prelude.{◌≡◌, ◌≤◌, ◌<◌, ℕ, ◌+◌, ℤ, pos, ◌+ℤ◌, Some, None, List, length}
use Rattle.std.proofs.Common.{refl, sym, ap, subst, ◌∙◌, arith}
use Rattle.std.proofs.lemmas.Int.{ints}
use Rattle.objects.specs.declared.value.ObjectName.{ObjectName}
use Rattle.objects.specs.declared.value.Value.TheVariants.{Pointer}
use Rattle.op_forest.specs.declared.op.Op.{Op}
use Rattle.op_forest.specs.declared.op.Op.TheVariants as op
use Rattle.op_forest.specs.declared.suffix.Suffix.{Suffix}
use Rattle.op_forest.specs.declared.suffix.Suffix.TheVariants.{I, P}
use Rattle.op_forest.specs.declared.sym.Sym.TheVariants as sym_of
use Rattle.op_forest.specs.Frames.{IsFrame}
use Rattle.op_forest.specs.Nodes.{Head}
use Rattle.forests.specs.Actions.{gave}
use Rattle.forests.proofs.lemmas.Alike.{word_read_alike}
use Rattle.forests.specs.Objects.{Object}
use Rattle.forests.specs.Words.{Word, Plain, unknown}
use Rattle.forests.specs.Worlds.{World}
use Rattle.dag_forest.specs.Split.{slot_name}
use Rattle.c_match.specs.Ranges.{Map}
use Rattle.c_rows_agree.specs.Templates as template
use Rattle.c_rows_agree.specs.Templates.{One}
use Rattle.c_rows_agree.specs.Typed.{head, head_with}
use Rattle.c_rows_agree.proofs.lemmas.Once.{gives_once}
use Rattle.c_pointers_agree.specs.Pointers.{local}
use Rattle.c_pointers_agree.specs.Pointers as pointer
use Rattle.c_pointers_agree.proofs.lemmas.Slots.{slot_gives}
use Rattle.c_expr_agreement.specs.Scenes.{Scene}
use Rattle.lowered_forms.specs.Values.{slot_read}
use Rattle.piece_runs.specs.Reaches.{keeps_at}
use Rattle.c_straight_agree.specs.Lasting.{IsSlotLeaf, Lasts}
use Rattle.c_straight_agree.specs.Settled.{seen, IsApart, IsMild, IsSettled}
use Rattle.c_straight_agree.proofs.lemmas.Lasting.{slot_apart}
use Rattle.c_straight_agree.proofs.lemmas.Putting.{hidden_is_private}
use Rattle.c_slots_agree.specs.Laws.{SlotsStay, SlotsAreRead, SlotValuesLast}
use Rattle.c_slots_agree.specs.Slots.{IsSlotAt, SlotHolds}

module _ (s : Scene) (frame : IsFrame s.body.setting.environment.home.slots) (number : ℕ) (offset : ℤ) (at : IsSlotAt s number offset) where
  abbrev name : ObjectName
  name = slot_name s.body.setting.environment.home number

  named_so : pointer.slot_name s.body.setting.environment.home number at.slot ≡ name
  named_so = ap (λ (size : ℕ). record { place = s.body.setting.environment.home.place + number; made = s.body.setting.environment.home.made + number; size = size }) at.size

  begins_so : at.slot.offset +ℤ pos 0 ≡ offset
  begins_so = let e = at.is in omega (arith, ints, e)

  -- its address, whatever objects hold
  pub address_gives : (map : Map) (values : ℕ → Word) (objects : List Object) → template.Gives (record { map = map; environment = s.body.setting.environment; objects = objects; values = values }) (local offset).tree (Plain (Pointer name 0))
  address_gives map values objects =
      let k : template.Scene = record { map = map; environment = s.body.setting.environment; objects = objects; values = values } in
      let lt : 0 < at.slot.size = let e = at.size in omega (arith, e) in
      subst (λ (z : ℤ). template.Gives k (local z).tree (Plain (Pointer name 0))) begins_so
      (subst (λ (x : ObjectName). template.Gives k (local (at.slot.offset +ℤ pos 0)).tree (Plain (Pointer x 0))) named_so (slot_gives k number at.slot 0 frame at.there lt))

  -- what is read
  pub read_gives : (map : Map) (values : ℕ → Word) (w : World) (u : Word) → SlotHolds s number u w → (x : Suffix) → template.Gives (seen s.body map values w) (slot_read x offset).tree u
  read_gives map values w u holds P = (Plain (Pointer name 0), address_gives map values w.objects, ap gave holds)
  read_gives map values w u holds x = (Plain (Pointer name 0), address_gives map values w.objects, ap gave holds)

  module _ (locals slots : ℕ) (behind : locals ≤ number) (before : number < slots) where
    abbrev leaf : IsSlotLeaf s locals slots (head_with op.Addrl P sym_of.Nothing (Some offset))
    leaf = record { number = number; slot = at.slot; behind = behind; before = before; there = at.there; mild = tt; gives = λ objects. address_gives (λ n. None) (λ n. unknown) objects }

    read_lasts : (x : Suffix) → Lasts s locals slots (slot_read x offset).tree
    read_lasts P = (refl, leaf)
    read_lasts x = (refl, leaf)

pub slots_stay : SlotsStay
slots_stay s locals body number from offset at behind before map old w world frame alike left u holds =
    let home = s.body.setting.environment.home in
    let there = hidden_is_private s locals body map old number at.slot w frame behind at.there in
    sym (word_read_alike s.body.setting.environment.order w.objects world.objects (slot_name home number) 0 alike (sym (left (home.place + number) there.0 there.1 (λ taken. let a = taken.0 in omega (arith, a, before))))) ∙ holds

pub slots_are_read : SlotsAreRead
slots_are_read s locals body frame number offset at m f behind before map values w u holds x =
    (read_gives s frame number offset at map values w u holds x, settled x)
  where
    leaf_settled : (h : Head) → h.operator.op ≡ op.Indir → IsSettled (keeps_at s.body m.pieces m.entries f) (seen s.body map values w) (One h (local offset).tree)
    leaf_settled h reads = (
      tt,
      subst (λ (o : Op). IsMild o ((u : Word) → template.Gives (seen s.body map values w) (local offset).tree u → IsApart (keeps_at s.body m.pieces m.entries f) u)) (sym reads)
          (λ u given. subst (IsApart (keeps_at s.body m.pieces m.entries f)) (gives_once (seen s.body map values w) (local offset).tree (Plain (Pointer (slot_name s.body.setting.environment.home number) 0)) u (address_gives s frame number offset at map values w.objects) given)
          (slot_apart s locals body m f behind (length m.slots) (omega arith) number before)),
    )

    settled : (x : Suffix) → IsSettled (keeps_at s.body m.pieces m.entries f) (seen s.body map values w) (slot_read x offset).tree
    settled P = leaf_settled (head op.Indir P) refl
    settled x = leaf_settled (head op.Indir I) refl

pub slot_values_last : SlotValuesLast
slot_values_last s locals frame number slots offset at behind before map values w u v word is holds x = record {
  holds = record { word = u; gives = read_gives s frame number offset at map values w u holds x; is = is };
  word = word;
  lasts = read_lasts s frame number offset at locals slots behind before x;
}
