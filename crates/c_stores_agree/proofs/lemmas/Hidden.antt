-- The hidden word of a function that returns a structure is read.
use Rattle.std.specs.Prelude.{◌≡◌, ℕ, ◌+◌, pos, Some}
use Rattle.std.proofs.Common.{ap, subst, arith}
use Rattle.std.proofs.lemmas.Option.{slice_get_within}
use Rattle.objects.specs.declared.value.ObjectName.{ObjectName}
use Rattle.objects.specs.declared.value.Value.{Value}
use Rattle.objects.specs.declared.value.Value.TheVariants.{Pointer}
use Rattle.forests.specs.Actions.{gave}
use Rattle.forests.specs.Words.{Word, Plain}
use Rattle.forests.specs.Worlds.{World}
use Rattle.dag_forest.specs.Meaning.{Temporary}
use Rattle.c_match.specs.Ranges.{Map}
use Rattle.c_rows_agree.specs.Templates.{Gives}
use Rattle.c_rows_agree.specs.Typed.{Holds, as_p}
use Rattle.c_rows_agree.proofs.lemmas.Once.{gives_once}
use Rattle.c_rows_agree.proofs.lemmas.Suffixes.{p_gives}
use Rattle.piece_runs.specs.Pieces.{Front}
use Rattle.piece_runs.specs.Reaches.{keeps_at}
use Rattle.lowered_forms.specs.Later.{IsFront}
use Rattle.lowered_forms.specs.Lows.{Low}
use Rattle.lowered_forms.specs.Places.{parameter}
use Rattle.lowered_statements.specs.Returns.{hidden}
use Rattle.c_straight_agree.specs.Layouts.{IsWordPlace}
use Rattle.c_straight_agree.specs.Settled.{seen, IsApart, IsSettled}
use Rattle.c_straight_agree.proofs.lemmas.Kept.{any_slot}
use Rattle.c_straight_agree.proofs.lemmas.Lasting.{same_name}
use Rattle.c_stmt_agreement.specs.Comings.{Activation, HasFrame, HoldsPlace}

module _ (p : Activation) (frame : HasFrame p) (v : Value) (given : p.result ≡ Some v) where
  abbrev pub place : IsWordPlace p.scene (pos 0)
  place = frame.result v given

  abbrev pub address : Word
  address = Plain (Pointer place.name place.offset)

  module _ (map : Map) (values : ℕ → Word) (w : World) where
    address_given : Gives (seen p.scene.body map values w) (parameter (pos 0)).tree address
    address_given = ap gave place.is

    pointer_given : Gives (seen p.scene.body map values w) (as_p (parameter (pos 0))) address
    pointer_given = p_gives (seen p.scene.body map values w) (parameter (pos 0)).suffix (parameter (pos 0)).tree address address_given

    -- it is the address of the object to which the result is copied
    pub hidden_holds : HoldsPlace p v address map w → Holds (seen p.scene.body map values w) hidden v
    hidden_holds one = record { word = one.word; gives = (address, pointer_given, ap gave one.holds); is = one.is }

  module _ (l : Low) (f : Front p.scene.body.pieces l.pieces l.entries) (slots : IsFront l.slots f.before) where
    -- and in no temporary
    hidden_apart : IsApart (keeps_at p.scene.body l.pieces l.entries f) address
    hidden_apart name offset points m t kept same =
        let home = p.scene.body.setting.environment.home in
        let slot = (any_slot p.scene p.locals frame.body l.slots l.pieces l.entries f slots m t kept).1 in
        let lt = slice_get_within home.slots slot.number slot.slot slot.there in
        let object : t.object ≡ home.place + slot.number = ap (λ (i : Temporary). i.object) slot.is in
        let named : place.name.place ≡ name.place = ap (λ (i : ObjectName). i.place) (same_name place.name name place.offset offset points) in
        let b = place.behind in
        omega (arith, lt, object, named, same, b)

    pub hidden_settled : (map : Map) (values : ℕ → Word) (w : World) → IsSettled (keeps_at p.scene.body l.pieces l.entries f) (seen p.scene.body map values w) hidden.tree
    hidden_settled map values w = (
      tt,
      λ i gives. subst (IsApart (keeps_at p.scene.body l.pieces l.entries f)) (gives_once (seen p.scene.body map values w) (as_p (parameter (pos 0))) address i (pointer_given map values w) gives) hidden_apart,
    )
