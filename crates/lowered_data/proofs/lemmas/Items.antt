-- Items one behind the other.
use Rattle.std.specs.Prelude.{◌≡◌, ◌≤◌, ℕ, ◌+◌, List, [], ◌∷◌, ◌++◌, length}
use Rattle.lcc_base.specs.declared.order.Order.{Order}
use Rattle.objects.specs.Objects.{Storage}
use Rattle.c_meaning.specs.Units.{UnitTree}
use Rattle.std.proofs.Common.{refl, ap, sym, subst, ◌∙◌, arith, append_assoc, append-nil}
use Rattle.std.proofs.lemmas.List.{length-append}
use Rattle.objects.specs.declared.byte.Byte.{Byte}
use Rattle.objects.specs.declared.value.Value.{Value}
use Rattle.op_forest.specs.declared.lowered.Datum.{Datum}
use Rattle.op_forest.specs.declared.lowered.LoweredObject.{LoweredObject}
use Rattle.lowered_data.specs.Data.{Image, IsDatumOf, AreDataOf, IsStretch, Reach, HasHome, HaveHomes, image}
use Rattle.lowered_data.proofs.lemmas.Stands.{stand_append, stand_whole}

-- one item more
data_push : (m : Image) (ds : List Datum) (cs : List (Byte Value)) (d : Datum) (more : List (Byte Value)) → AreDataOf m ds cs → IsDatumOf m d more → AreDataOf m (ds ++ d ∷ []) (cs ++ more)
data_push m [] cs d more a h = (more, [], ap (λ bs. bs ++ more) a ∙ sym (append-nil more), h, refl)
data_push m (x ∷ xs) cs d more a h = (a.0, a.1 ++ more, ap (λ bs. bs ++ more) a.2 ∙ append_assoc a.0 a.1 more, a.3, data_push m xs a.1 d more a.4 h)

pub reach_more : (m : Image) (bytes : List (Byte Value)) (old new : List Datum) (from : ℕ) (d : Datum) (end : ℕ) → Reach m bytes old from → IsStretch m bytes from d end → new ≡ old ++ d ∷ [] → Reach m bytes new end
reach_more m bytes old new from d end r s e =
    let a = r.count in
    let b = s.count in
    subst (λ ds. Reach m bytes ds end) (sym e)
    (record {
      held = r.held ++ s.held;
      data_of = data_push m old r.held d s.held r.data_of s.datum;
      stand = stand_append bytes 0 from r.held s.held r.stand (omega (arith, a)) s.stand;
      count = length-append r.held s.held ∙ omega (arith, a, b);
      within = s.within;
    })

pub reach_all : (m : Image) (bytes : List (Byte Value)) (ds : List Datum) (end : ℕ) → Reach m bytes ds end → length bytes ≤ end → AreDataOf m ds bytes
reach_all m bytes ds end r h =
    let a = r.count in
    let b = r.within in
    subst (λ bs. AreDataOf m ds bs) (sym (stand_whole bytes 0 r.held r.stand (omega (arith, a, b, h)))) r.data_of

-- one home more
pub homes_push : (m : Image) (place n : ℕ) (os : List LoweredObject) (o : LoweredObject) → HaveHomes m place os → n ≡ place + length os → HasHome m n o → HaveHomes m place (os ++ o ∷ [])
homes_push m place n [] o h e g = let same : n ≡ place = omega (arith, e) in (subst (λ (k : ℕ). HasHome m k o) same g, tt)
homes_push m place n (x ∷ xs) o h e g = (h.0, homes_push m (place + 1) n xs o h.1 (omega (arith, e)) g)

-- ---- storages that stay

pub homes_more : (u : UnitTree) (order : Order) (s t : Storage) (old new : List LoweredObject) (o : LoweredObject) (place n : ℕ) → HaveHomes (image u order t.objects) 0 old → length old ≡ n → s ≡ t → place ≡ length old → HasHome (image u order s.objects) place o → new ≡ old ++ o ∷ [] → HaveHomes (image u order t.objects) 0 new × (length new ≡ n + 1)
homes_more u order s t old new o place n h l same e g more =
    let here : HasHome (image u order t.objects) place o = subst (λ (x : Storage). HasHome (image u order x.objects) place o) same g in (
      subst (λ os. HaveHomes (image u order t.objects) 0 os) (sym more) (homes_push (image u order t.objects) 0 place old o h (omega (arith, e)) here),
      (let a = ap length more ∙ length-append old (o ∷ []) in omega (arith, a, l)),
    )
