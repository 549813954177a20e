-- Stacks of what waits: parts of a stack, and what they stand for.
use Rattle.std.proofs.Common.{◌≡◌, ℕ, zero, suc, ◌-◌, ◌<◌, Bool, true, false, List, [], ◌∷◌, ◌++◌, length, take, drop, refl, sym, ap, ◌∙◌, append_assoc, arith}
use native.Mathlib.Numerals.{unary_clauses}
use Rattle.std.specs.Prelude.{Option, Some, map, slice_get}
use Rattle.c_types.specs.Members.{MemberAt}
use Rattle.c_types.specs.Table.{Table, tags, type_at}
use Rattle.c_meaning.specs.Filling.{Waiting, Nowhere, Whole, is_nowhere}
use Rattle.c_initialisers.specs.declared.waits.Waits.{Waits}
use Rattle.c_initialisers.specs.declared.waits.Waits.TheVariants as waits
use Rattle.c_initialisers.specs.Members.{type_members}
use Rattle.c_initialisers.specs.Waiting.{AreEntriesIn, IsEntryIn, entries_in, waiting_in}

append_nil : {A : Type 0} (xs : List A) → xs ++ [] ≡ xs
append_nil [] = refl
append_nil (x ∷ xs) = ap (λ l. x ∷ l) (append_nil xs)

-- the top of a stack comes first
pub waiting_append : (t : Table) (a b : List Waits) → waiting_in t (a ++ b) ≡ waiting_in t b ++ waiting_in t a
waiting_append t [] b = sym (append_nil (waiting_in t b))
waiting_append t (w ∷ a) b = ap (λ l. l ++ entries_in t w) (waiting_append t a b) ∙ append_assoc (waiting_in t b) (waiting_in t a) (entries_in t w)

pub entries_append : (t : Table) (a b : List Waits) → AreEntriesIn t a → AreEntriesIn t b → AreEntriesIn t (a ++ b)
entries_append t [] b h k = k
entries_append t (w ∷ a) b h k = (h.0, entries_append t a b h.1 k)

pub entries_take : (t : Table) (k : ℕ) (ws : List Waits) → AreEntriesIn t ws → AreEntriesIn t (take k ws)
entries_take t zero ws h = tt
entries_take t (suc k) [] h = tt
entries_take t (suc k) (w ∷ ws) h = (h.0, entries_take t k ws h.1)

-- ---- an entry stands for something

abbrev pub IsSome : List Waiting → Type 0
IsSome [] = ⊥
IsSome (w ∷ ws) = Unit {0}

some_dropped : (ms : List MemberAt) (i : ℕ) → i < length ms → IsSome (map Whole (drop i ms))
some_dropped [] i l = absurd (omega arith)
some_dropped (m ∷ ms) zero l = tt
some_dropped (m ∷ ms) (suc i) l = some_dropped ms i (omega arith)

some_entry : (t : Table) (w : Waits) → IsEntryIn t w → IsSome (entries_in t w)
some_entry t waits.Nowhere h = tt
some_entry t (waits.Whole p) h = tt
some_entry t (waits.Elements of begin index count) h = tt
some_entry t (waits.Members of begin index) h = some_dropped (type_members (tags t) (type_at t of) begin) index h.1

some_append : (a b : List Waiting) → IsSome b → IsSome (a ++ b)
some_append [] b h = h
some_append (x ∷ a) b h = tt

pub some_waits : (t : Table) (w : Waits) (ws : List Waits) → AreEntriesIn t (w ∷ ws) → IsSome (waiting_in t (w ∷ ws))
some_waits t w ws h = some_append (waiting_in t ws) (entries_in t w) (some_entry t w h.0)

-- ---- the top of a stack

abbrev pub is_nowhere_there : Option Waits → Bool
is_nowhere_there (Some waits.Nowhere) = true
is_nowhere_there w = false

nowhere_under : (a b : List Waiting) → IsSome a → is_nowhere (a ++ b) ≡ is_nowhere a
nowhere_under [] b h = absurd h
nowhere_under (Nowhere ∷ a) b h = refl
nowhere_under (x ∷ a) b h = refl

no_member : (ms : List MemberAt) → is_nowhere (map Whole ms) ≡ false
no_member [] = refl
no_member (m ∷ ms) = refl

nowhere_one : (t : Table) (w : Waits) → is_nowhere (entries_in t w) ≡ is_nowhere_there (Some w)
nowhere_one t waits.Nowhere = refl
nowhere_one t (waits.Whole p) = refl
nowhere_one t (waits.Elements of begin index count) = refl
nowhere_one t (waits.Members of begin index) = no_member (drop index (type_members (tags t) (type_at t of) begin))

last_under : (w x : Waits) (ws : List Waits) → slice_get (x ∷ ws) (length (x ∷ ws) - 1) ≡ slice_get (w ∷ x ∷ ws) (length (w ∷ x ∷ ws) - 1)
last_under w x ws = simp unary_clauses refl

pub nowhere_last : (t : Table) (ws : List Waits) → AreEntriesIn t ws → is_nowhere (waiting_in t ws) ≡ is_nowhere_there (slice_get ws (length ws - 1))
nowhere_last t [] h = refl
nowhere_last t (w ∷ []) h = nowhere_one t w
nowhere_last t (w ∷ x ∷ ws) h = nowhere_under (waiting_in t (x ∷ ws)) (entries_in t w) (some_waits t x ws h.1) ∙ nowhere_last t (x ∷ ws) h.1 ∙ ap is_nowhere_there (last_under w x ws)
