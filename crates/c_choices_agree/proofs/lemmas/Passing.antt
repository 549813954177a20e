-- What stays between two places of a run, over stores to slots; and a slot that is taken.
use Rattle.std.specs.Prelude.{◌≡◌, ◌≤◌, ℕ, ◌+◌, Option, Some, None, List, [], ◌∷◌, ◌++◌, length}
use Rattle.std.proofs.Common.{refl, sym, ap, ◌∙◌, arith, length-append}
use Rattle.objects.specs.declared.value.Value.{Value}
use Rattle.forests.specs.Words.{Word}
use Rattle.forests.specs.Worlds.{World, Outcome}
use Rattle.c_runs.specs.Outcomes.{Undefined, OutOfTurns, Exit, Result, Gives, GivesNone, Ends}
use Rattle.c_runs.specs.Worlds as c
use Rattle.c_match.specs.Ranges.{Map}
use Rattle.c_match.proofs.lemmas.Growing.{grown_refl, grown_trans}
use Rattle.c_rows_agree.specs.Typed.{Typed}
use Rattle.piece_runs.specs.Pieces.{Piece, OfBlock, Mark, Front}
use Rattle.c_expr_agreement.specs.LoweredExpr.{GrowsTo}
use Rattle.c_expr_agreement.specs.Scenes.{Scene}
use Rattle.lowered_forms.specs.Lows.{Low, marked, with_slot}
use Rattle.c_straight_agree.specs.Agreement.{Came, CameTo}
use Rattle.c_straight_agree.specs.Finals.{Final}
use Rattle.c_straight_agree.specs.Standing.{place_of, Standing}
use Rattle.c_straight_agree.proofs.lemmas.At.{behind_same}
use Rattle.c_slots_agree.specs.Laws.{SlotStored}
use Rattle.c_tests_agree.proofs.lemmas.Joining.{Between, between_came, between_joins}

-- ---- slots

-- a slot that is taken is nothing to the run
pub with_slot_stands : (s : Scene) (start : ℕ → Outcome) (turns : ℕ) (l : Low) (f : Front s.body.pieces l.pieces l.entries) (map : Map) (old : c.World) (values : ℕ → Word) (w : World) (k : ℕ)
    → Standing s start turns l f map old values w k → Final s.body.pieces (with_slot l) → Standing s start turns (with_slot l) f map old values w k
with_slot_stands s start turns l f map old values w k st g = record { stands = st.stands; block = st.block; none_waits = st.none_waits; slots = behind_same s.body (with_slot l).slots l.pieces l.entries l.entries g.front f g.slots; free = st.free; ready = st.ready }

pub one_slot : (l : Low) → length (with_slot l).slots ≡ length l.slots + 1
one_slot l = length-append l.slots _

-- ---- what stays

pub between_itself : (s : Scene) (from : ℕ) (map : Map) (old : c.World) (w : World) → Between s from map old w map old w
between_itself s from map old w = record { grown = grown_refl map; alike = refl; left = λ place lt private none. refl; private = λ place lt private. private }

-- behind a store to a slot
pub between_stored : (s : Scene) (start : ℕ → Outcome) (turns number : ℕ) (u : Word) (l m : Low) (h : Front s.body.pieces m.pieces m.entries) (map : Map) (old : c.World) (values : ℕ → Word) (first : World) (k : ℕ)
    → (one : SlotStored s start turns number u l m h map old values first k) → Between s number map old first map old one.world
between_stored s start turns number u l m h map old values first k one = record { grown = grown_refl map; alike = one.alike; left = one.left; private = λ place lt private. private }

-- ---- blocks that are finished

marked_longer : (ps qs : List Piece) (x y : Piece) → ((ps ++ x ∷ []) ++ y ∷ []) ≡ qs → length qs ≤ length ps → ⊥
marked_longer ps qs x y e le =
    let a = ap (λ (zs : List Piece). length zs) e in
    let b = length-append (ps ++ x ∷ []) (y ∷ []) in
    let d = length-append ps (x ∷ []) in
    omega (arith, a, b, d, le)

-- no block that was open before a label is open behind it
pub marked_is_new : (l m q : Low) (n : ℕ) → length l.pieces ≤ length m.pieces → q.pieces ≡ (marked n m).pieces → GrowsTo (place_of l) (place_of q) → ⊥
marked_is_new l m q n le e g = marked_longer m.pieces l.pieces (OfBlock m.slots m.entries) (Mark n) (sym e ∙ g.done) le

-- ---- one step behind others

module _ (s : Scene) (start : ℕ → Outcome) (turns : ℕ) (l p : Low) (h : Front s.body.pieces p.pieces p.entries) (b : Typed) (map : Map) (before : c.World) (values : ℕ → Word) (first : World) (mid : Map) (old : c.World) (others : ℕ → Word) (world : World)
    (one : Between s (length l.slots) map before first mid old world) where
  -- the last step, where the block that was open at the start isn't open
  pub came_behind : (m : Low) → length l.slots ≤ length m.slots → (GrowsTo (place_of l) (place_of p) → ⊥) → (v : Option Value) (new : c.World) (j : ℕ) → Came s start turns m p h b mid old others world v new j → Came s start turns l p h b map before values first v new j
  came_behind m le never v new j two =
      let both = between_joins s (length l.slots) (length m.slots) le map before first mid old world one two.later new two.world (between_came s start turns m p h b mid old others world v new j two) in
      record { later = two.later; grown = both.grown; others = two.others; world = two.world; stands = two.stands; alike = both.alike; left = both.left; private = both.private; kept = λ g n lt. absurd (never g); has = two.has }

  -- what a step comes to, and what follows it, whether it gives a value or not
  pub came_map : (m q : Low) (f : Front s.body.pieces q.pieces q.entries) (a : Typed) (r : Result) → CameTo s start turns m q f a mid old others world r
      → ((v : Value) (j : ℕ) (new : c.World) → r ≡ Gives v j new → Came s start turns m q f a mid old others world (Some v) new j → Came s start turns l p h b map before values first (Some v) new j)
      → ((line j : ℕ) (new : c.World) → r ≡ GivesNone line j new → Came s start turns m q f a mid old others world None new j → Came s start turns l p h b map before values first None new j) → CameTo s start turns l p h b map before values first r
  came_map m q f a (Gives v j new) two some none = some v j new refl two
  came_map m q f a (GivesNone line j new) two some none = none line j new refl two
  came_map m q f a (Ends (Undefined cause line) new) two some none = tt
  came_map m q f a (Ends OutOfTurns new) two some none = two
  came_map m q f a (Ends (Exit status) new) two some none = record { later = two.later; grown = grown_trans map mid two.later one.grown two.grown; world = two.world; leaves = two.leaves; matches = two.matches }
