-- What rows of statements add, beside their parts.
use Rattle.std.specs.Prelude.{refl, ◌≤◌, ℕ, suc, ◌+◌, ◌*◌, Bool, true, false, Option, Some, None, List, length}
use Rattle.std.proofs.Common.{arith, ap}
use Rattle.std.proofs.lemmas.List.{length-map}
use Rattle.op_forest.specs.declared.op.Op.TheVariants as op
use Rattle.op_forest.specs.declared.suffix.Suffix.TheVariants.{I, V}
use Rattle.c_meaning.specs.declared.core_stmt.CoreCase.{CoreCase}
use Rattle.c_meaning.specs.CoreTrees.{parts, type_of}
use Rattle.c_meaning.specs.Scalars.{is_signed}
use Rattle.c_meaning.specs.Types.{is_record}
use Rattle.c_meaning.specs.Values.{CoreTree}
use Rattle.switch_tables.specs.declared.table.Table.{Table}
use Rattle.switch_tables.specs.Searches.{search_over, in_order}
use Rattle.switch_tables.specs.Tables.{tables_of}
use Rattle.switch_tables.proofs.lemmas.Searching.{tables_are_searched}
use Rattle.switch_tables.proofs.lemmas.TableParts.{are_few}
use Rattle.c_runs.specs.Places.{size_of, align_of}
use Rattle.c_rows_agree.specs.Typed.{Typed, head, constant_i, as_i}
use Rattle.lowering_limits.specs.Nodes.{some_nodes}
use Rattle.lowered_forms.specs.Accesses.{copied}
use Rattle.lowered_forms.specs.Expressions.{low_e, low_test}
use Rattle.lowered_forms.specs.Lows.{Low, jumped, marked, with_label, slot_offset, with_slot}
use Rattle.lowered_forms.specs.Values.{stored_in}
use Rattle.lowered_statements.specs.Bodies.{Body, with_low, returned}
use Rattle.lowered_statements.specs.Functions.{Function, Exits, placed_case, placed_cases, label_or}
use Rattle.lowered_statements.specs.Returns.{hidden, given_by, nothing_given, return_row}
use Rattle.lowered_statements.specs.Rows.{maybe_dropped, maybe_tested, one_way, two_ways, choice_by, repeated, while_row, do_row, last_and_test, for_labelled, for_row, switch_on, switch_row}
use Rattle.lowered_statements.specs.Searches.{Choice, searched}
use Rattle.expression_weights.specs.Rises.{Risen, Rises}
use Rattle.expression_weights.proofs.lemmas.Expressions.{price_is, value_comes}
use Rattle.expression_weights.proofs.lemmas.Operands.{jumped_rises, stored_rises}
use Rattle.expression_weights.proofs.lemmas.Operations.{PricedAt, i_priced}
use Rattle.expression_weights.proofs.lemmas.Rows.{copied_rises}
use Rattle.statement_weights.proofs.lemmas.Filling.{value_adds, test_adds}
use Rattle.statement_weights.proofs.lemmas.Searching.{searched_adds}
use Rattle.statement_weights.proofs.lemmas.Stores.{joined, at_most}

few_tables : (f : Function) (signed : Bool) (default : ℕ) (cases : List CoreCase) → length (in_order (search_over (tables_of signed default (placed_cases f cases)))) ≤ length cases
few_tables f signed default cases =
    let e = ap (λ (ts : List Table). length ts) (tables_are_searched (tables_of signed default (placed_cases f cases))) in
    let g = are_few signed (placed_cases f cases) default in
    let h = length-map cases (placed_case f) in
    omega (arith, e, g, h)

hidden_priced : PricedAt 10 hidden
hidden_priced = (refl, omega arith, 1, (refl, omega arith), omega arith)

module _ (R : Risen) (k : Rises R) where
  -- ---- what may be left away

  maybe_dropped_adds : (f : Function) (e : Option CoreTree) (l : Low) → R (69 * some_nodes e) l (maybe_dropped f e l)
  maybe_dropped_adds f None l = k.same l
  maybe_dropped_adds f (Some e) l = value_adds R k f.context e l

  maybe_tested_adds : (f : Function) (e : Option CoreTree) (n : ℕ) (l : Low) → R (69 * some_nodes e + 2) l (maybe_tested f e n l)
  maybe_tested_adds f None n l = jumped_rises R k n l
  maybe_tested_adds f (Some e) n l = at_most R k (69 * parts e + 2) (test_adds R k f.context e n true l) (omega arith)

  last_adds : (f : Function) (test last : Option CoreTree) (here top : ℕ) (l : Low)
      → R (69 * (some_nodes last + some_nodes test) + 3) l (last_and_test f test last here top l)
  last_adds f test last here top l =
      let l1 = maybe_dropped f last l in
      at_most R k (69 * (some_nodes last + some_nodes test) + 3)
      (joined R k (maybe_dropped_adds f last l) (joined R k (k.marks here l1) (maybe_tested_adds f test top (marked here l1)))) (omega arith)

  -- ---- returns

  returned_adds : (l : Low) → R 1 l (returned l)
  returned_adds l = k.alone (head op.Ret V) l

  pub nothing_adds : (gives : Bool) (l : Low) → R 2 l (nothing_given gives l)
  nothing_adds true l = k.acts_one 1 (head op.Ret I) (constant_i 0) l (refl, omega arith)
  nothing_adds false l = at_most R k 2 (returned_adds l) (omega arith)

  given_adds : (whole : Bool) (f : Function) (v : Typed) (l : Low) → PricedAt 10 v → R 27 l (given_by whole f v l)
  given_adds true f v l h =
      let tags = f.context.unit.tags in
      joined R k (copied_rises R k (size_of tags f.result) (align_of tags f.result) hidden v l hidden_priced h) (returned_adds (copied tags f.result hidden v l))
  given_adds false f v l h = at_most R k 27 (k.acts_one 12 (head op.Ret I) (as_i v) l (i_priced v h)) (omega arith)

  pub return_adds : (f : Function) (e : Option CoreTree) (l : Low) → R (69 * some_nodes e + 2) l (return_row f e l)
  return_adds f None l = nothing_adds f.gives_zero l
  return_adds f (Some e) l =
      let r = low_e f.context e l in
      let c = value_comes R k f.context e l in
      let d = price_is e in
      at_most R k (69 * parts e + 2) (joined R k c.rises (given_adds (is_record f.result) f r.value r.low c.value)) (omega (arith, d))

  -- ---- choices

  abbrev pub PartAdds : ℕ → (Body → Body) → Type 0
  PartAdds m go = (b : Body) → R m b.low (go b).low

  one_way_adds : (m : ℕ) (f : Function) (e : CoreTree) (then : Body → Body) → PartAdds m then → (end : ℕ) (b : Body)
      → R (69 * parts e + (m + 1)) b.low (one_way f e then end b).low
  one_way_adds m f e then h end b =
      let b1 = with_low (low_test f.context e end false b.low) b in
      joined R k (test_adds R k f.context e end false b.low) (joined R k (h b1) (k.marks end (then b1).low))

  two_ways_adds : (m p : ℕ) (f : Function) (e : CoreTree) (then otherwise : Body → Body) → PartAdds m then → PartAdds p otherwise → (i end : ℕ) (b : Body)
      → R (69 * parts e + (m + (2 + (1 + (p + 1))))) b.low (two_ways f e then otherwise i end b).low
  two_ways_adds m p f e then otherwise g h i end b =
      let b1 = with_low (low_test f.context e i false b.low) b in
      let b2 = then b1 in
      let b3 = with_low (jumped end b2.low) b2 in
      let b4 = with_low (marked i b3.low) b3 in
      joined R k (test_adds R k f.context e i false b.low)
      (joined R k (g b1)
      (joined R k (jumped_rises R k end b2.low) (joined R k (k.marks i b3.low) (joined R k (h b4) (k.marks end (otherwise b4).low)))))

  pub choice_adds : (m p : ℕ) (nothing : Bool) (f : Function) (e : CoreTree) (then otherwise : Body → Body) → PartAdds m then → PartAdds p otherwise → (b : Body)
      → R (4 + (69 * parts e + (m + p))) b.low (choice_by nothing f e then otherwise b).low
  choice_adds m p true f e then otherwise g h b =
      at_most R k (4 + (69 * parts e + (m + p)))
      (joined R k (k.label b.low) (one_way_adds m f e then g b.low.labels (with_low (with_label b.low) b))) (omega arith)
  choice_adds m p false f e then otherwise g h b =
      let b1 = with_low (with_label b.low) b in
      at_most R k (4 + (69 * parts e + (m + p)))
      (joined R k (k.label b.low)
      (joined R k (k.label b1.low) (two_ways_adds m p f e then otherwise g h b.low.labels (suc b.low.labels) (with_low (with_label b1.low) b1))))
      (omega arith)

  -- ---- loops

  abbrev pub CodeAdds : ℕ → (Exits → Body → Body) → Type 0
  CodeAdds m body = (y : Exits) (b : Body) → R m b.low (body y b).low

  repeated_adds : (m p : ℕ) (body : Exits → Body → Body) → CodeAdds m body → (between : ℕ → Low → Low) → ((i : ℕ) (l : Low) → R p l (between i l))
      → (top next end : ℕ) (b : Body) → R (1 + (m + (1 + (p + 1)))) b.low (repeated body between top next end b).low
  repeated_adds m p body h between g top next end b =
      let z : Exits = record { breaks = end; continues = next } in
      let b1 = with_low (marked top b.low) b in
      let b2 = body z b1 in
      let b3 = with_low (marked next b2.low) b2 in
      let b4 = with_low (between top b3.low) b3 in
      joined R k (k.marks top b.low) (joined R k (h z b1) (joined R k (k.marks next b2.low) (joined R k (g top b3.low) (k.marks end b4.low))))

  labels_add : (b : Body) → R 0 b.low (with_label (with_label (with_label b.low)))
  labels_add b = joined R k (k.label b.low) (joined R k (k.label (with_label b.low)) (k.label (with_label (with_label b.low))))

  pub while_adds : (m : ℕ) (f : Function) (e : CoreTree) (body : Exits → Body → Body) → CodeAdds m body → (b : Body)
      → R (5 + (69 * parts e + m)) b.low (while_row f e body b).low
  while_adds m f e body h b =
      let i = b.low.labels in
      let b1 = with_low (with_label (with_label (with_label b.low))) b in
      let b2 = with_low (jumped (suc i) b1.low) b1 in
      at_most R k (5 + (69 * parts e + m))
      (joined R k (labels_add b)
      (joined R k (jumped_rises R k (suc i) b1.low)
      (repeated_adds m (69 * parts e) body h (λ top l. low_test f.context e top true l) (λ top l. test_adds R k f.context e top true l) i (suc i) (suc (suc i)) b2)))
      (omega arith)

  pub do_adds : (m : ℕ) (f : Function) (e : CoreTree) (body : Exits → Body → Body) → CodeAdds m body → (b : Body)
      → R (5 + (69 * parts e + m)) b.low (do_row f e body b).low
  do_adds m f e body h b =
      let i = b.low.labels in
      let b1 = with_low (with_label (with_label (with_label b.low))) b in
      at_most R k (5 + (69 * parts e + m))
      (joined R k (labels_add b)
      (repeated_adds m (69 * parts e) body h (λ top l. low_test f.context e top true l) (λ top l. test_adds R k f.context e top true l) i (suc i) (suc (suc i)) b1))
      (omega arith)

  for_labelled_adds : (m : ℕ) (f : Function) (test last : Option CoreTree) (body : Exits → Body → Body) → CodeAdds m body → (b : Body)
      → R (8 + (69 * (some_nodes last + some_nodes test) + m)) b.low (for_labelled f test last body b).low
  for_labelled_adds m f test last body h b =
      let i = b.low.labels in
      let here = suc (suc (suc i)) in
      let b1 = with_low (with_label (with_label (with_label b.low))) b in
      let b2 = with_low (with_label b1.low) b1 in
      let b3 = with_low (jumped here b2.low) b2 in
      let p = 69 * (some_nodes last + some_nodes test) + 3 in
      at_most R k (8 + (69 * (some_nodes last + some_nodes test) + m))
      (joined R k (labels_add b)
      (joined R k (k.label b1.low)
      (joined R k (jumped_rises R k here b2.low)
      (repeated_adds m p body h (λ top l. last_and_test f test last here top l) (λ top l. last_adds f test last here top l) i (suc i) (suc (suc i)) b3))))
      (omega arith)

  pub for_adds : (m : ℕ) (f : Function) (first test last : Option CoreTree) (body : Exits → Body → Body) → CodeAdds m body → (b : Body)
      → R (8 + (69 * (some_nodes first + (some_nodes last + some_nodes test)) + m)) b.low (for_row f first test last body b).low
  for_adds m f first test last body h b =
      at_most R k (8 + (69 * (some_nodes first + (some_nodes last + some_nodes test)) + m))
      (joined R k (maybe_dropped_adds f first b.low) (for_labelled_adds m f test last body h (with_low (maybe_dropped f first b.low) b))) (omega arith)

  -- ---- switches

  switch_on_adds : (m : ℕ) (f : Function) (signed : Bool) (v : Typed) (cases : List CoreCase) (default : Option ℕ) (body : Exits → Body → Body) → CodeAdds m body
      → (y : Exits) (b : Body) → PricedAt 10 v → R (18 + (102 * length cases + m)) b.low (switch_on f signed v cases default body y b).low
  switch_on_adds m f signed v cases default body h y b g =
      let z = slot_offset b.low in
      let end = b.low.labels in
      let b1 = with_low (with_slot b.low) b in
      let b2 = with_low (stored_in z v b1.low) b1 in
      let b3 = with_low (with_label b2.low) b2 in
      let x : Choice = record { slot = z; signed = signed; default = label_or f end default } in
      let s = search_over (tables_of signed (label_or f end default) (placed_cases f cases)) in
      let b4 = searched f x s b3 in
      let w : Exits = record { breaks = end; continues = y.continues } in
      let e = few_tables f signed (label_or f end default) cases in
      at_most R k (18 + (102 * length cases + m))
      (joined R k (k.slot b.low)
      (joined R k (stored_rises R k z v b1.low g)
      (joined R k (k.label b2.low) (joined R k (searched_adds R k f x s b3) (joined R k (h w b4) (k.marks end (body w b4).low))))))
      (omega (arith, e))

  pub switch_adds : (m : ℕ) (f : Function) (e : CoreTree) (cases : List CoreCase) (default : Option ℕ) (body : Exits → Body → Body) → CodeAdds m body
      → (y : Exits) (b : Body) → R (69 * parts e + (102 * length cases + m)) b.low (switch_row f e cases default body y b).low
  switch_adds m f e cases default body h y b =
      let r = low_e f.context e b.low in
      let c = value_comes R k f.context e b.low in
      let d = price_is e in
      at_most R k (69 * parts e + (102 * length cases + m))
      (joined R k c.rises (switch_on_adds m f (is_signed (type_of e)) r.value cases default body h y (with_low r.low b) c.value)) (omega (arith, d))
