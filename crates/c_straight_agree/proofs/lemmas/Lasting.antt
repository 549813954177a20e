-- Operands that wait while blocks end.
use Rattle.std.specs.Prelude.{◌≡◌, ◌≤◌, ◌<◌, ℕ, ◌+◌, [], length, slice_get}
use Rattle.std.proofs.Common.{sym, ap, subst, ◌∙◌, arith}
use Rattle.objects.specs.declared.value.ObjectName.{ObjectName}
use Rattle.objects.specs.declared.value.Value.{Value}
use Rattle.objects.specs.declared.value.Value.TheVariants.{Pointer}
use Rattle.op_forest.specs.declared.op.Op.{Op}
use Rattle.op_forest.specs.declared.op.Op.TheVariants as op
use Rattle.op_forest.specs.Nodes.{Head}
use Rattle.forests.specs.Alike.{AreAlike}
use Rattle.forests.proofs.lemmas.Alike.{acts_alike}
use Rattle.forests.specs.Words.{Word, Plain, IsWord}
use Rattle.forests.specs.Worlds.{World}
use Rattle.dag_forest.specs.Meaning.{Keeps, Temporary}
use Rattle.dag_forest.specs.Split.{slot_name}
use Rattle.c_runs.specs.Worlds as c
use Rattle.c_match.specs.Ranges.{Map, Grown}
use Rattle.c_match.proofs.lemmas.Growing.{value_grows}
use Rattle.c_rows_agree.specs.Templates.{Template, Given, Leaf, One, Two, Gives}
use Rattle.c_rows_agree.specs.Typed.{Typed}
use Rattle.c_rows_agree.proofs.lemmas.Once.{gives_once}
use Rattle.piece_runs.specs.Pieces.{Front}
use Rattle.piece_runs.specs.Reaches.{keeps_at}
use Rattle.c_expr_agreement.specs.Scenes.{Scene, InFrame}
use Rattle.lowered_forms.specs.Blocks.{IsWithin}
use Rattle.lowered_forms.specs.Later.{IsFront}
use Rattle.lowered_forms.specs.Lows.{Low}
use Rattle.c_straight_agree.specs.Agreement.{Waits, HasValue, IsLeftBut}
use Rattle.c_straight_agree.specs.Lasting.{IsSlotLeaf, Lasts, LastingValue}
use Rattle.c_straight_agree.specs.Settled.{seen, IsApart, IsMild, IsSettled}
use Rattle.c_straight_agree.specs.Standing.{IsBody}
use Rattle.c_straight_agree.proofs.lemmas.Kept.{any_slot}
use Rattle.c_straight_agree.proofs.lemmas.Mild.{mild_still, read_gives}
use Rattle.c_straight_agree.proofs.lemmas.Putting.{hidden_is_private}

pub same_name : (a b : ObjectName) (i j : ℕ) → Plain (Pointer a i) ≡ Plain (Pointer b j) → a ≡ b
same_name a b i j e = cc

module _ (s : Scene) (locals : ℕ) where
  -- ---- operands that wait in one block

  value_lasts : (slots : ℕ) (t : Template) → Waits t → Lasts s locals slots t
  value_lasts slots (Given n) h = tt
  value_lasts slots (Leaf x) h = h
  value_lasts slots (One x a) h = absurd h
  value_lasts slots (Two x a b) h = absurd h

  pub lasting_value : (slots : ℕ) (a : Typed) (map : Map) (values : ℕ → Word) (w : World) (v : Value) → HasValue s a map values w v → LastingValue s locals slots a map values w v
  lasting_value slots a map values w v h = record { holds = h.holds; word = h.word; lasts = value_lasts slots a.tree h.waits }

  -- ---- more slots

  leaf_more : (slots more : ℕ) → slots ≤ more → (x : Head) → IsSlotLeaf s locals slots x → IsSlotLeaf s locals more x
  leaf_more slots more le x h = record { number = h.number; slot = h.slot; behind = h.behind; before = (let b = h.before in omega (arith, b, le)); there = h.there; mild = h.mild; gives = h.gives }

  lasts_more : (slots more : ℕ) → slots ≤ more → (t : Template) → Lasts s locals slots t → Lasts s locals more t
  lasts_more slots more le (Given n) h = tt
  lasts_more slots more le (Leaf x) h = h
  lasts_more slots more le (One x (Given n)) h = absurd h.1
  lasts_more slots more le (One x (Leaf y)) h = (h.0, leaf_more slots more le y h.1)
  lasts_more slots more le (One x (One y a)) h = absurd h.1
  lasts_more slots more le (One x (Two y a b)) h = absurd h.1
  lasts_more slots more le (Two x a b) h = absurd h

  pub lasting_more : (slots more : ℕ) → slots ≤ more → (a : Typed) (map : Map) (values : ℕ → Word) (w : World) (v : Value) → LastingValue s locals slots a map values w v → LastingValue s locals more a map values w v
  lasting_more slots more le a map values w v h = record { holds = h.holds; word = h.word; lasts = lasts_more slots more le a.tree h.lasts }

  module _ (body : IsBody s locals) where
    -- ---- in a block that is open behind the slots

    module _ (m : Low) (f : Front s.body.pieces m.pieces m.entries) (behind : IsFront m.slots f.before) (slots : ℕ) (le : slots ≤ length m.slots) where
      abbrev keeps : Keeps
      keeps = keeps_at s.body m.pieces m.entries f

      -- no temporary is in one of the slots
      pub slot_apart : (number : ℕ) → number < slots → IsApart keeps (Plain (Pointer (slot_name s.body.setting.environment.home number) 0))
      slot_apart number lt name offset points n t kept same =
          let home = s.body.setting.environment.home in
          let slot = (any_slot s locals body m.slots m.pieces m.entries f behind n t kept).1 in
          let object : t.object ≡ home.place + slot.number = ap (λ (i : Temporary). i.object) slot.is in
          let named : home.place + number ≡ name.place = ap (λ (i : ObjectName). i.place) (same_name (slot_name home number) name 0 offset points) in
          let b = slot.behind in
          omega (arith, lt, le, object, named, same, b)

      module _ (map : Map) (values : ℕ → Word) (w : World) where
        -- so what a slot is read for is settled
        pub read_settled : (x y : Head) → x.operator.op ≡ op.Indir → IsSlotLeaf s locals slots y → IsSettled keeps (seen s.body map values w) (One x (Leaf y))
        read_settled x y reads at = (
          at.mild,
          subst (λ (o : Op). IsMild o ((u : Word) → Gives (seen s.body map values w) (Leaf y) u → IsApart keeps u)) (sym reads)
              (λ u given. subst (IsApart keeps) (gives_once (seen s.body map values w) (Leaf y) (Plain (Pointer (slot_name s.body.setting.environment.home at.number) 0)) u (at.gives w.objects) given) (slot_apart at.number at.before)),
        )

        lasts_settled : (t : Template) (u : Word) → IsWord u → Gives (seen s.body map values w) t u → Lasts s locals slots t → IsSettled keeps (seen s.body map values w) t
        lasts_settled (Given n) u word gives h = subst IsWord (sym gives) word
        lasts_settled (Leaf x) u word gives h = h
        lasts_settled (One x (Given n)) u word gives h = absurd h.1
        lasts_settled (One x (Leaf y)) u word gives h = read_settled x y h.0 h.1
        lasts_settled (One x (One y a)) u word gives h = absurd h.1
        lasts_settled (One x (Two y a b)) u word gives h = absurd h.1
        lasts_settled (Two x a b) u word gives h = absurd h

        pub lasting_settled : (a : Typed) (v : Value) → LastingValue s locals slots a map values w v → IsSettled keeps (seen s.body map values w) a.tree
        lasting_settled a v h = lasts_settled a.tree h.holds.word h.word h.holds.gives h.lasts

    -- ---- behind what follows

    module _ (slots from : ℕ) (le : slots ≤ from) (map later : Map) (grown : Grown map later) (old : c.World) (values others : ℕ → Word) (w world : World) (frame : InFrame s.frame map old w) (alike : AreAlike w.objects world.objects)
        (left : IsLeftBut s from map (c.objects old) w.objects world.objects) (n : ℕ) (kept : (m : ℕ) → m < n → others m ≡ values m) where
      -- what a slot gives that was taken before
      read_stays : (x y : Head) (u : Word) → x.operator.op ≡ op.Indir → IsSlotLeaf s locals slots y → Gives (seen s.body map values w) (One x (Leaf y)) u → Gives (seen s.body later others world) (One x (Leaf y)) u
      read_stays x y u reads at gives =
          let home = s.body.setting.environment.home in
          let there = hidden_is_private s locals body map old at.number at.slot w frame at.behind at.there in
          let is = gives_once (seen s.body map values w) (Leaf y) gives.0 (Plain (Pointer (slot_name home at.number) 0)) gives.1 (at.gives w.objects) in (
            gives.0,
            sym (acts_alike s.body.setting.environment y [] w.objects world.objects alike (mild_still y.operator.op at.mild)) ∙ gives.1,
            read_gives s.body.setting.environment x gives.0 u w world reads alike
                (λ name offset points.
                let named : home.place + at.number ≡ name.place = ap (λ (i : ObjectName). i.place) (same_name (slot_name home at.number) name 0 offset (sym is ∙ points)) in
                sym (subst (λ (place : ℕ). slice_get world.objects place ≡ slice_get w.objects place) named (left (home.place + at.number) there.0 there.1 (λ taken. let a = taken.0 in let b = at.before in omega (arith, a, b, le)))))
                gives.2,
          )

      lasts_stay : (t : Template) (u : Word) → IsWithin n t → Lasts s locals slots t → Gives (seen s.body map values w) t u → Gives (seen s.body later others world) t u
      lasts_stay (Given m) u within h gives = kept m within ∙ gives
      lasts_stay (Leaf x) u within h gives = sym (acts_alike s.body.setting.environment x [] w.objects world.objects alike (mild_still x.operator.op h)) ∙ gives
      lasts_stay (One x (Given m)) u within h gives = absurd h.1
      lasts_stay (One x (Leaf y)) u within h gives = read_stays x y u h.0 h.1 gives
      lasts_stay (One x (One y a)) u within h gives = absurd h.1
      lasts_stay (One x (Two y a b)) u within h gives = absurd h.1
      lasts_stay (Two x a b) u within h gives = absurd h

      pub lasting_stays : (a : Typed) (v : Value) → IsWithin n a.tree → LastingValue s locals slots a map values w v → LastingValue s locals slots a later others world v
      lasting_stays a v within h = record {
        holds = record { word = h.holds.word; gives = lasts_stay a.tree h.holds.word within h.lasts h.holds.gives; is = value_grows map later v h.holds.word grown h.holds.is };
        word = h.word;
        lasts = h.lasts;
      }
