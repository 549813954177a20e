-- Rows that stand one behind another in a list.
use Rattle.std.proofs.Common.{◌≡◌, ◌≢◌, ℕ, zero, suc, ◌+◌, ◌*◌, ◌<◌, ◌≤◌, Option, None, List, [], ◌∷◌, ◌++◌, length, take, drop, get_or, refl, sym, ap, ◌∙◌, arith}
use Rattle.std.specs.Prelude.{slice_get, slice_set, slice_index_or}
use Rattle.std.proofs.Math.Nat.{lt_of_not-le}
use Rattle.std.proofs.lemmas.List.{get_or-map, get_or-take, get_or-drop, get_or_past, length-map, length-take, length-take-le, length-drop, take-take, take_at, take-append-le, drop-drop, drop_at, drop-append-le, drop-take}
use Rattle.std.proofs.lemmas.Option.{slice_get_past}
use Rattle.lburg_tables.specs.declared.cell.Cell.{Cell}
use Rattle.tree_labeller.specs.Rows.{Row, rows_of, with_row}
use Rattle.lburg_tables.specs.RowOf.{seen, row_of}
use Rattle.tree_labeller.specs.MCells.{MCells}
use Rattle.tree_labeller.specs.Labelled.{cell, cells_of, end_of}

pub rows_many : (w : ℕ) (ends : List ℕ) (cells : List Cell) → length (rows_of w ends cells) ≡ length ends
rows_many w [] cells = refl
rows_many w (e ∷ es) cells = ap suc (rows_many w es (drop w cells))

-- the rows behind the first have the cells behind its own
rest_many : (w n : ℕ) (cells : List Cell) → length cells ≡ suc n * w → length (drop w cells) ≡ n * w
rest_many w n cells many = let a = length-drop w cells in omega arith

-- what is seen of a board
pub room_is : (b : MCells) (w : ℕ) (ends : List ℕ) (cells : List Cell) → b ≡ record { nonterminals = w; rows = rows_of w ends cells } → length b.rows ≡ length ends
room_is b w ends cells e = ap (λ (z : MCells). length z.rows) e ∙ rows_many w ends cells

-- the cell of a column
pub cell_there : (w : ℕ) (ends : List ℕ) (cells : List Cell) (at n : ℕ) (d : Cell) → at < length ends → n < w → length cells ≡ length ends * w → cell (rows_of w ends cells) at n ≡ seen (get_or cells (at * w + n) d)
cell_there w [] cells at n d h hn many = absurd (omega arith)
cell_there w (e ∷ es) cells zero n d h hn many =
    let wide : w ≤ length cells = omega arith in
    let len = length-take-le w cells wide in
    let place : n ≡ 0 * w + n = omega arith in
    get_or-map seen (take w cells) n d None (omega arith) ∙ ap seen (get_or-take w cells n d hn ∙ ap (λ k. get_or cells k d) place)
cell_there w (e ∷ es) cells (suc at) n d h hn many =
    let place : w + (at * w + n) ≡ suc at * w + n = omega arith in
    cell_there w es (drop w cells) at n d (omega arith) hn (rest_many w (length es) cells many)
    ∙ ap seen (get_or-drop w cells (at * w + n) d ∙ ap (λ k. get_or cells k d) place)

-- no cell behind the last row
pub cell_past : (w : ℕ) (ends : List ℕ) (cells : List Cell) (at n : ℕ) → length ends ≤ at → cell (rows_of w ends cells) at n ≡ None
cell_past w ends cells at n h =
    let many = rows_many w ends cells in
    ap (λ (o : Option Row). slice_index_or (cells_of o) n None) (slice_get_past (rows_of w ends cells) at (omega arith))

-- nor behind the last column
pub cell_beside : (w : ℕ) (ends : List ℕ) (cells : List Cell) (at n : ℕ) → w ≤ n → cell (rows_of w ends cells) at n ≡ None
cell_beside w [] cells at n h = refl
cell_beside w (e ∷ es) cells zero n h =
    let a = length-map (take w cells) seen in
    let b = length-take w cells in
    get_or_past (row_of (take w cells)) n None (omega arith)
cell_beside w (e ∷ es) cells (suc at) n h = cell_beside w es (drop w cells) at n h

-- a cell that is seen is in a row
pub cell_inside : (w : ℕ) (ends : List ℕ) (cells : List Cell) (at n : ℕ) → cell (rows_of w ends cells) at n ≢ None → (at < length ends) × (n < w)
cell_inside w ends cells at n some = (lt_of_not-le (λ h. some (cell_past w ends cells at n h)), lt_of_not-le (λ h. some (cell_beside w ends cells at n h)))

pub end_there : (w : ℕ) (ends : List ℕ) (cells : List Cell) (at d : ℕ) → at < length ends → end_of (slice_get (rows_of w ends cells) at) ≡ get_or ends at d
end_there w [] cells at d h = absurd (omega arith)
end_there w (e ∷ es) cells zero d h = refl
end_there w (e ∷ es) cells (suc at) d h = end_there w es (drop w cells) at d (omega arith)

abbrev front : Row → List Row → List Row
front r rs = r ∷ rs

first_row : (w : ℕ) (cells row : List Cell) (start : ℕ) → start ≡ 0 * w → with_row start w cells row ≡ row ++ drop w cells
first_row w cells row start e = let f : start ≡ 0 = omega arith in ap (λ k. with_row k w cells row) f

take_first : (w : ℕ) (cells row : List Cell) (start rest : ℕ) → start ≡ w + rest → start ≤ length cells → take w (with_row start w cells row) ≡ take w cells
take_first w cells row start rest e h =
    let len = length-take-le start cells h in
    take-append-le w (take start cells) (row ++ drop w (drop start cells)) (omega arith) ∙ take-take w start cells (omega arith)

drop_first : (w : ℕ) (cells row : List Cell) (start rest : ℕ) → start ≡ w + rest → start ≤ length cells → drop w (with_row start w cells row) ≡ with_row rest w (drop w cells) row
drop_first w cells row start rest e h =
    let len = length-take-le start cells h in
    let back = drop-drop rest w cells in
    drop-append-le w (take start cells) (row ++ drop w (drop start cells)) (omega arith)
    ∙ ap (λ k. drop w (take k cells) ++ (row ++ drop w (drop k cells))) e
    ∙ ap (λ (l : List Cell). l ++ (row ++ drop w (drop (w + rest) cells))) (drop-take w rest cells)
    ∙ ap (λ (l : List Cell). take rest (drop w cells) ++ (row ++ drop w l)) (sym back)

-- a row more in the list is a row stored
pub row_stored : (w : ℕ) (ends : List ℕ) (cells row : List Cell) (at end start : ℕ) → start ≡ at * w → at < length ends → length row ≡ w → length cells ≡ length ends * w → rows_of w (slice_set ends at end) (with_row start w cells row) ≡ slice_set (rows_of w ends cells) at (record { end = end; cells = row_of row })
row_stored w [] cells row at end start place h wide many = absurd (omega arith)
row_stored w (e ∷ es) cells row zero end start place h wide many =
    let is = first_row w cells row start place in
    let own = ap (take w) is ∙ take_at row (drop w cells) w wide in
    let rest = ap (drop w) is ∙ drop_at row (drop w cells) w wide in
    let one = ap (λ (l : List Cell). front (record { end = end; cells = row_of l }) (rows_of w es (drop w (with_row start w cells row)))) own in
    one ∙ ap (λ (l : List Cell). front (record { end = end; cells = row_of row }) (rows_of w es l)) rest
row_stored w (e ∷ es) cells row (suc at) end start place h wide many =
    let next : start ≡ w + at * w = omega arith in
    let inside : start ≤ length cells = within at (length es) w start (length cells) next (omega arith) many in
    let own = take_first w cells row start (at * w) next inside in
    let rest = drop_first w cells row start (at * w) next inside in
    let one = ap (λ (l : List Cell). front (record { end = e; cells = row_of l }) (rows_of w (slice_set es at end) (drop w (with_row start w cells row)))) own in
    let two = ap (λ (l : List Cell). front (record { end = e; cells = row_of (take w cells) }) (rows_of w (slice_set es at end) l)) rest in
    one ∙ two ∙ ap (λ (l : List Row). front (record { end = e; cells = row_of (take w cells) }) l) (row_stored w es (drop w cells) row at end (at * w) refl (omega arith) wide (rest_many w (length es) cells many))
  where
    within : (at n w start many : ℕ) → start ≡ w + at * w → at < n → many ≡ suc n * w → start ≤ many
    within at n w start many e h m = let k : at * w ≤ n * w = grind arith in omega arith

-- a row ends within the list
pub row_within : (w n at : ℕ) → at < n → at * w + w ≤ n * w
row_within w n at h = grind arith
