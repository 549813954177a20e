-- The hidden word stays as it is, and the object to which the result is copied may be written still.
use Rattle.std.specs.Prelude.{◌≡◌, ◌<◌, ℕ, pos, [], ◌∷◌, length}
use Rattle.std.proofs.Common.{sym, ap, ◌∙◌}
use Rattle.objects.specs.declared.purpose.Purpose.TheVariants.{Initialisation}
use Rattle.objects.specs.declared.value.Value.TheVariants.{Pointer}
use Rattle.forests.specs.Accesses.{word_read}
use Rattle.forests.specs.Alike.{AreAlike}
use Rattle.forests.proofs.lemmas.Alike.{word_read_alike}
use Rattle.forests.specs.Words.{Word, Plain}
use Rattle.forests.specs.Worlds.{World}
use Rattle.c_meaning.specs.Each.{EachIs}
use Rattle.c_runs.specs.Worlds as c
use Rattle.c_match.specs.Left.{IsPrivate}
use Rattle.c_match.specs.Ranges.{Map, Grown}
use Rattle.c_match.proofs.lemmas.Growing.{value_grows}
use Rattle.c_straight_agree.specs.Agreement.{IsLeftBut}
use Rattle.c_straight_agree.proofs.lemmas.Opens.{open_stays, opens_stay}
use Rattle.c_straight_agree.proofs.lemmas.Putting.{each_at}
use Rattle.c_straight_agree.proofs.lemmas.Wholes.{same_address, words_not_taken}
use Rattle.c_stmt_agreement.specs.Comings.{Activation, HasFrame, HoldsResult, AreOpen}

-- locals may be written still
pub opens_left : (p : Activation) (first world : World) → AreAlike first.objects world.objects → AreOpen p first → AreOpen p world
opens_left p first world alike opens = opens_stay p.scene.frame.addresses first.objects world.objects alike opens

-- where what holds nothing of C is left but for slots that the lowering takes
pub result_left : (p : Activation) → HasFrame p → (map later : Map) → Grown map later → (before : c.World) (first world : World) → EachIs (λ place. (place < length first.objects) × IsPrivate map (c.objects before) place) p.scene.frame.others → AreAlike first.objects world.objects
    → (from : ℕ) → IsLeftBut p.scene from map (c.objects before) first.objects world.objects → HoldsResult p map first → HoldsResult p later world
result_left p frame map later grown before first world others alike from left result v a given address =
    let q = frame.result v given in
    let one = result v a given address in
    let there = each_at (λ place. (place < length first.objects) × IsPrivate map (c.objects before) place) p.scene.frame.others q.among.0 q.name.place others q.among.1 in
    let same = left q.name.place there.0 there.1 (words_not_taken p.scene (pos 0) q from) in
    let here : a ≡ Plain (Pointer q.name q.offset) = same_address a (Plain (Pointer q.name q.offset)) (sym address ∙ q.is) in
    let order = p.scene.body.setting.environment.order in
    record {
      word = one.word;
      is = value_grows map later v one.word grown one.is;
      opens = open_stays Initialisation map later first.objects world.objects v one.word one.is grown alike one.opens;
      holds =
          ap (λ (w : Word). word_read order world.objects w) here
          ∙ sym (word_read_alike order first.objects world.objects q.name q.offset alike (sym same))
          ∙ ap (λ (w : Word). word_read order first.objects w) (sym here)
          ∙ one.holds;
    }
