-- Parameter words of structures that were passed stay as they are.
use Rattle.std.specs.Prelude.{◌≡◌, ◌<◌, ℕ, ℤ, Option, Some, length}
use Rattle.std.proofs.Common.{sym, ap, ◌∙◌, arith}
use Rattle.objects.specs.declared.value.Value.{Value}
use Rattle.objects.specs.declared.value.Value.TheVariants.{Pointer}
use Rattle.forests.specs.Accesses.{word_read}
use Rattle.forests.specs.Alike.{AreAlike}
use Rattle.forests.proofs.lemmas.Alike.{word_read_alike}
use Rattle.forests.specs.Words.{Word, Plain}
use Rattle.forests.specs.Worlds.{World, Outcome}
use Rattle.c_meaning.specs.Each.{EachIs}
use Rattle.c_runs.specs.Worlds as c
use Rattle.c_match.specs.Left.{IsPrivate}
use Rattle.c_match.specs.Ranges.{Map}
use Rattle.c_rows_agree.specs.Typed.{Typed}
use Rattle.piece_runs.specs.Pieces.{Front}
use Rattle.c_expr_agreement.specs.Scenes.{Scene}
use Rattle.lowered_forms.specs.Lows.{Low}
use Rattle.c_straight_agree.specs.Agreement.{IsTaken, IsLeftBut, Came}
use Rattle.c_straight_agree.specs.Layouts.{FrameLayout, IsWordPlace, IsLaidOut, HoldAddresses, HoldsWholes}
use Rattle.c_straight_agree.specs.Standing.{Standing}
use Rattle.c_straight_agree.proofs.lemmas.Opens.{opens_stay}
use Rattle.c_straight_agree.proofs.lemmas.Putting.{each_at}

pub same_address : (a b : Word) → Some a ≡ Some b → a ≡ b
same_address a b e = cc

-- the lowering takes none of them
pub words_not_taken : (s : Scene) (z : ℤ) (p : IsWordPlace s z) (from : ℕ) → IsTaken s from p.name.place → ⊥
words_not_taken s z p from taken = (let a = taken.1 in let b = p.behind in omega (arith, a, b))

-- where they hold nothing of C, and what holds nothing of C is left but for slots that the lowering takes
addresses_left : (s : Scene) (y : FrameLayout) → IsLaidOut s y → (map : Map) (before : c.World) (first world : World) → EachIs (λ place. (place < length first.objects) × IsPrivate map (c.objects before) place) s.frame.others → AreAlike first.objects world.objects
    → (from : ℕ) → IsLeftBut s from map (c.objects before) first.objects world.objects → HoldAddresses s y first → HoldAddresses s y world
addresses_left s y laid map before first world others alike from left wholes n of z b u typed whole at is address =
    let p = laid.wholes n of z typed whole at in
    let there = each_at (λ place. (place < length first.objects) × IsPrivate map (c.objects before) place) s.frame.others p.among.0 p.name.place others p.among.1 in
    let same = left p.name.place there.0 there.1 (words_not_taken s z p from) in
    let here : b ≡ Plain (Pointer p.name p.offset) = same_address b (Plain (Pointer p.name p.offset)) (sym is ∙ p.is) in
    let order = s.body.setting.environment.order in
    ap (λ (w : Word). word_read order world.objects w) here
    ∙ sym (word_read_alike order first.objects world.objects p.name p.offset alike (sym same))
    ∙ ap (λ (w : Word). word_read order first.objects w) (sym here)
    ∙ wholes n of z b u typed whole at is address

pub wholes_left : (s : Scene) (y : FrameLayout) → IsLaidOut s y → (map : Map) (before : c.World) (first world : World) → EachIs (λ place. (place < length first.objects) × IsPrivate map (c.objects before) place) s.frame.others → AreAlike first.objects world.objects
    → (from : ℕ) → IsLeftBut s from map (c.objects before) first.objects world.objects → HoldsWholes s y first → HoldsWholes s y world
wholes_left s y laid map before first world others alike from left wholes = record {
  words = addresses_left s y laid map before first world others alike from left wholes.words;
  opens = opens_stay s.frame.addresses first.objects world.objects alike wholes.opens;
}

pub wholes_stay : (s : Scene) (y : FrameLayout) → IsLaidOut s y → (start : ℕ → Outcome) (turns : ℕ) (l m : Low) (f : Front s.body.pieces l.pieces l.entries) (h : Front s.body.pieces m.pieces m.entries) (a : Typed) (map : Map) (before : c.World) (values : ℕ → Word) (first : World) (k : ℕ) → Standing s start turns l f map before values first k
    → (v : Option Value) (old : c.World) (j : ℕ) → (one : Came s start turns l m h a map before values first v old j) → HoldsWholes s y first → HoldsWholes s y one.world
wholes_stay s y laid start turns l m f h a map before values first k st v old j one wholes = wholes_left s y laid map before first one.world st.stands.frame.others one.alike (length l.slots) one.left wholes
