-- What waits stays when a table is extended: a structure or union that has members isn't completed again.
use Rattle.std.proofs.Common.{◌≡◌, ℕ, ◌<◌, Bool, true, false, List, [], ◌∷◌, ◌++◌, length, drop, refl, sym, ap, ◌∙◌, subst, arith}
use Rattle.std.specs.Prelude.{map, is_some, ◌==◌, if◌then◌else◌}
use Rattle.c_types.specs.CType.{CType, Plain, Array, Simple, Pointer, Function, Structure, Union, Enumeration}
use Rattle.c_types.specs.Definitions.{AreComplete}
use Rattle.c_types.specs.Layout.{Tag, fields, known, structure_extent}
use Rattle.c_types.specs.Members.{MemberAt}
use Rattle.c_types.specs.Table.{Table, Extends, tags, type_at}
use Rattle.c_meaning.specs.Filling.{Whole, members_in, members_of}
use Rattle.c_values.specs.Stays.{longer}
use Rattle.c_initialisers.specs.declared.waits.Waits.{Waits}
use Rattle.c_initialisers.specs.declared.waits.Waits.TheVariants as waits
use Rattle.c_initialisers.specs.Members.{type_members}
use Rattle.c_initialisers.specs.Waiting.{AreEntriesIn, IsEntryIn, entries_in, waiting_in}
use Rattle.c_initialisers.proofs.Complete.{apart}

-- ---- members

-- what has members is complete
has_size : (tags : List Tag) (offset n : ℕ) → 0 < length (members_in tags offset n) → is_some (known tags n).size ≡ true
has_size [] offset n l = absurd (omega (arith, l))
has_size (tag ∷ older) offset n l = by (n == tag.number) (has_size older offset n) l
  where
    by : (b : Bool) → (0 < length (members_in older offset n) → is_some (known older n).size ≡ true) → 0 < length (if b then members_of older tag offset else members_in older offset n) → is_some (if b then structure_extent tag.is_union (fields (known older) tag.members) else known older n).size ≡ true
    by true h k = refl
    by false h k = h k

numbered_stay : (newer older : List Tag) → AreComplete (newer ++ older) → (offset n : ℕ) → 0 < length (members_in older offset n) → members_in (newer ++ older) offset n ≡ members_in older offset n
numbered_stay [] older h offset n l = refl
numbered_stay (tag ∷ newer) older h offset n l =
    let all = newer ++ older in
    let e : members_in all offset n ≡ members_in older offset n = numbered_stay newer older h.2 offset n l in
    let s : is_some (known all n).size ≡ true = has_size all offset n (subst (λ (ms : List MemberAt). 0 < length ms) (sym e) l) in
    ap (λ b. if b then members_of all tag offset else members_in all offset n) (apart tag all n h.0 s) ∙ e

members_stay : (newer older : List Tag) → AreComplete (newer ++ older) → (t : CType) (offset : ℕ) → 0 < length (type_members older t offset) → type_members (newer ++ older) t offset ≡ type_members older t offset
members_stay newer older h (Plain q (Simple b)) offset l = refl
members_stay newer older h (Plain q (Pointer to)) offset l = refl
members_stay newer older h (Plain q (Function r ps)) offset l = refl
members_stay newer older h (Plain q (Structure n)) offset l = numbered_stay newer older h offset n l
members_stay newer older h (Plain q (Union n)) offset l = numbered_stay newer older h offset n l
members_stay newer older h (Plain q (Enumeration n)) offset l = refl
members_stay newer older h (Array of count) offset l = refl

-- ---- entries

module _ (a b : Table) (h : Extends a b) (k : AreComplete (tags b)) where
  members_later : (of offset : ℕ) → of < length a.forms → 0 < length (type_members (tags a) (type_at a of) offset) → type_members (tags b) (type_at b of) offset ≡ type_members (tags a) (type_at a of) offset
  members_later of offset i l =
      ap (λ u. type_members (tags b) u offset) (h.types_stay of i)
      ∙ ap (λ (ts : List Tag). type_members ts (type_at a of) offset) h.tags_stay.1
      ∙ members_stay h.tags_stay.0 (tags a) (subst AreComplete h.tags_stay.1 k) (type_at a of) offset l

  entry_stays : (w : Waits) → IsEntryIn a w → entries_in b w ≡ entries_in a w
  entry_stays waits.Nowhere i = refl
  entry_stays (waits.Whole p) i = rw (h.types_stay p.of.of i) refl
  entry_stays (waits.Elements of begin index count) i = rw (h.types_stay of.of i) refl
  entry_stays (waits.Members of begin index) i = ap (λ (ms : List MemberAt). map Whole (drop index ms)) (members_later of begin i.0 (omega (arith, i.1)))

  -- what waits is seen the same over the later table
  pub waiting_stays : (ws : List Waits) → AreEntriesIn a ws → waiting_in b ws ≡ waiting_in a ws
  waiting_stays [] i = refl
  waiting_stays (w ∷ ws) i = rw (entry_stays w i.0, waiting_stays ws i.1) refl

  entry_later : (w : Waits) → IsEntryIn a w → IsEntryIn b w
  entry_later waits.Nowhere i = tt
  entry_later (waits.Whole p) i = let l = longer a b h in omega (arith, l, i)
  entry_later (waits.Elements of begin index count) i = let l = longer a b h in omega (arith, l, i)
  entry_later (waits.Members of begin index) i = (
    (let l = longer a b h in omega (arith, l, i.0)),
    subst (λ (ms : List MemberAt). index < length ms) (sym (members_later of begin i.0 (omega (arith, i.1)))) i.1,
  )

  pub entries_later : (ws : List Waits) → AreEntriesIn a ws → AreEntriesIn b ws
  entries_later [] i = tt
  entries_later (w ∷ ws) i = (entry_later w i.0, entries_later ws i.1)
