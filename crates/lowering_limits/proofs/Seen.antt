-- Counts over types by their places are counts over types.
use Rattle.std.proofs.Common.{◌≡◌, ◌<◌, ◌≤◌, ◌⊎◌, inl, inr, ℕ, zero, suc, ◌+◌, ◌-◌, List, [], ◌∷◌, ◌++◌, length, map, take, drop, min, refl, sym, ap, ◌∙◌, arith, length-append}
use Rattle.std.specs.Prelude.{IfOk, Option, Some, None, Result as Checked, Ok, Err}
use Rattle.std.proofs.lemmas.List.{drop_all, get_or_past, length-drop, take_all}
use Rattle.std.proofs.lemmas.Bool.{cases_lt}
use Rattle.std.proofs.Math.Nat.{min-eq_left, min-eq_right}
use Rattle.c_types.specs.declared.type_form.TypeForm.{TypeForm}
use Rattle.c_types.specs.CType.{CType, basic, Void}
use Rattle.c_types.specs.Table.{Table, counted, formed, tags, type_in, types, types_after, types_of}
use Rattle.c_meaning.specs.declared.core_unit.CoreFunction.{CoreFunction}
use Rattle.c_meaning.specs.declared.core_unit.CoreObject.{CoreObject}
use Rattle.c_meaning.specs.Copies.{all_expressions, expressions, maybe}
use Rattle.c_meaning.specs.CoreTrees.{Core, CoreOf, CoresOf, NoCore, Cores, all_parts, all_seen, parts, seen}
use Rattle.c_meaning.specs.StmtTrees.{FilledOf, StmtOf, Nothing, Expression, Initialise, Block, If, While, Do, For, Switch, Label, Goto, Break, Continue, Return, StmtsOf, NoStmt, Stmts, maybe_seen, place_seen, stmt_of, stmt_seen, stmts_seen}
use Rattle.c_meaning.specs.Units.{CoreUnit, ObjectTree, all_count, count, function_seen, object_seen, unit_seen}
use Rattle.c_meaning.specs.Values.{CoreTree}
use Rattle.c_runs.specs.Counts.{data_count, frame_count, local_room, node_count, rounded_size, sum}
use Rattle.lowering_limits.specs.Nodes.{filled_nodes, nodes_of, some_nodes, stmt_nodes, stmts_nodes}
use Rattle.lowering_limits.specs.Sizes.{bytes_at, local_bytes, object_bytes, text_bytes}

-- ---- parts

mutual
  parts_seen : (f : ℕ → CType) (c : CoreOf ℕ) → parts (seen f c) ≡ parts c
  parts_seen f (Core what of line kids) = let h = all_parts_seen f kids in omega (arith, h)

  all_parts_seen : (f : ℕ → CType) (cs : CoresOf ℕ) → all_parts (all_seen f cs) ≡ all_parts cs
  all_parts_seen f NoCore = refl
  all_parts_seen f (Cores c cs) = let h = parts_seen f c in let k = all_parts_seen f cs in omega (arith, h, k)

-- the parts of expressions together
abbrev within : List CoreTree → ℕ
within es = sum (map (λ (c : CoreTree). parts c) es)

within_both : (xs ys : List CoreTree) → within (xs ++ ys) ≡ within xs + within ys
within_both [] ys = omega arith
within_both (x ∷ xs) ys = let h = within_both xs ys in omega (arith, h)

four_within : (xs ys zs ws : List CoreTree) → within (xs ++ ys ++ zs ++ ws) ≡ within xs + (within ys + (within zs + within ws))
four_within xs ys zs ws = let p = within_both (xs ++ ys ++ zs) ws in let q = within_both (xs ++ ys) zs in let r = within_both xs ys in omega (arith, p, q, r)

within_maybe : (f : ℕ → CType) (e : Option (CoreOf ℕ)) → within (maybe (maybe_seen f e)) ≡ some_nodes e
within_maybe f None = refl
within_maybe f (Some c) = let h = parts_seen f c in omega (arith, h)

within_places : (f : ℕ → CType) (ps : List (FilledOf ℕ)) → within (map (λ (p : FilledOf CType). p.value) (map (place_seen f) ps)) ≡ filled_nodes ps
within_places f [] = refl
within_places f (p ∷ ps) = let h = parts_seen f p.value in let k = within_places f ps in omega (arith, h, k)

-- ---- statements

mutual
  pub nodes_seen : (f : ℕ → CType) (s : StmtOf ℕ) → count (stmt_seen f s) + within (expressions (stmt_seen f s)) ≡ stmt_nodes s
  nodes_seen f Nothing = refl
  nodes_seen f (Expression e) = let h = parts_seen f e in omega (arith, h)
  nodes_seen f (Initialise local whole places) = let h = within_places f places in omega (arith, h)
  nodes_seen f (Block first locals ss) = let h = all_nodes_seen f ss in omega (arith, h)
  nodes_seen f (If e s t) =
      let h = parts_seen f e in let k = nodes_seen f s in let l = nodes_seen f t in
      let b = within_both (expressions (stmt_seen f s)) (expressions (stmt_seen f t)) in omega (arith, h, k, l, b)
  nodes_seen f (While e s) = let h = parts_seen f e in let k = nodes_seen f s in omega (arith, h, k)
  nodes_seen f (Do s e) = let h = parts_seen f e in let k = nodes_seen f s in let b = within_both (expressions (stmt_seen f s)) (seen f e ∷ []) in omega (arith, h, k, b)
  nodes_seen f (For a b c s) =
      let k = nodes_seen f s in let x = within_maybe f a in let y = within_maybe f b in let z = within_maybe f c in
      let rest = expressions (stmt_seen f s) in
      let p : within (expressions (stmt_seen f (For a b c s))) ≡ within (maybe (maybe_seen f a)) + (within (maybe (maybe_seen f b)) + (within (maybe (maybe_seen f c)) + within rest)) =
      four_within (maybe (maybe_seen f a)) (maybe (maybe_seen f b)) (maybe (maybe_seen f c)) rest in
      omega (arith, k, x, y, z, p)
  nodes_seen f (Switch e cases default s) = let h = parts_seen f e in let k = nodes_seen f s in omega (arith, h, k)
  nodes_seen f (Label n s) = let k = nodes_seen f s in omega (arith, k)
  nodes_seen f (Goto n) = refl
  nodes_seen f Break = refl
  nodes_seen f Continue = refl
  nodes_seen f (Return e) = let h = within_maybe f e in omega (arith, h)

  all_nodes_seen : (f : ℕ → CType) (ss : StmtsOf ℕ) → all_count (stmts_seen f ss) + within (all_expressions (stmts_seen f ss)) ≡ stmts_nodes ss
  all_nodes_seen f NoStmt = refl
  all_nodes_seen f (Stmts s ss) =
      let h = nodes_seen f s in let k = all_nodes_seen f ss in let b = within_both (expressions (stmt_seen f s)) (all_expressions (stmts_seen f ss)) in omega (arith, h, k, b)

pub function_nodes_are : (t : Table) (x : CoreFunction) → node_count (function_seen (types t) x) ≡ x.parameters + nodes_of x.body
unfolding nodes_of
function_nodes_are t x = let h = nodes_seen (type_in (types t)) (stmt_of x.body) in omega (arith, h)

-- ---- bytes

module _ {A B : Type 0} (f : A → B) where
  drop_map : (n : ℕ) (xs : List A) → drop n (map f xs) ≡ map f (drop n xs)
  drop_map zero xs = refl
  drop_map (suc n) [] = refl
  drop_map (suc n) (x ∷ xs) = drop_map n xs

drop_most : {A : Type 0} (n : ℕ) (xs : List A) → drop (min n (length xs)) xs ≡ drop n xs
drop_most {A} n xs = by (cases_lt n (length xs)) where
  by : (n < length xs) ⊎ (length xs ≤ n) → drop (min n (length xs)) xs ≡ drop n xs
  by (inl h) = ap (λ k. drop k xs) (min-eq_left (omega (arith, h)))
  by (inr past) = drop_all (min n (length xs)) xs (omega (arith, min-eq_right past)) ∙ sym (drop_all n xs past)

sum_map : {A B : Type 0} (g : B → ℕ) (f : A → B) (xs : List A) → sum (map g (map f xs)) ≡ sum (map (λ (x : A). g (f x)) xs)
sum_map g f [] = refl
sum_map g f (x ∷ xs) = ap (λ n. g (f x) + n) (sum_map g f xs)

pub frame_is : (t : Table) (x : CoreFunction) → local_bytes t (drop (min x.parameters (length x.locals)) x.locals) ≡ frame_count (tags t) (function_seen (types t) x)
frame_is t x =
    ap (local_bytes t) (drop_most x.parameters x.locals)
    ∙ sym (sum_map (local_room (tags t)) (type_in (types t)) (drop x.parameters x.locals))
    ∙ ap (λ (ys : List CType). sum (map (local_room (tags t)) ys)) (sym (drop_map (type_in (types t)) x.parameters x.locals))

pub objects_are : (t : Table) (os : List CoreObject) → object_bytes t os ≡ sum (map (λ (o : ObjectTree). rounded_size (tags t) o.of) (map (object_seen (types t)) os))
objects_are t os = sym (sum_map (λ (o : ObjectTree). rounded_size (tags t) o.of) (object_seen (types t)) os)

-- there are as many types as forms
types_are_formed : (ts : List CType) (n : ℕ) (fs : List TypeForm) → length (types_after ts n fs) ≡ length ts + length fs
types_are_formed ts n [] = omega arith
types_are_formed ts n (f ∷ fs) =
    omega (arith, types_are_formed (ts ++ formed ts n f ∷ []) (n + counted f) fs, length-append ts (formed ts n f ∷ []))

-- a type that the table doesn't have has no size
pub unknown_is_empty : (t : Table) (id : ℕ) → length t.forms ≤ id → bytes_at t id ≡ 0
unknown_is_empty t id past = ap (rounded_size (tags t)) (get_or_past (types_of t.forms) id (basic Void) (omega (arith, types_are_formed [] 0 t.forms, past)))

pub if_ok_as : {A E : Type 0} {P Q : A → Type 0} (r : Checked A E) → ((x : A) → P x → Q x) → IfOk r P → IfOk r Q
if_ok_as (Ok x) f h = f x h
if_ok_as (Err e) f h = h

pub data_is : (u : CoreUnit) (t : Table) (os : List CoreObject) (ts : List (List ℕ)) (objects n : ℕ) → t ≡ u.types → os ≡ u.objects → ts ≡ u.texts → objects ≡ object_bytes t os → n ≡ objects + text_bytes ts → n ≡ data_count (unit_seen u)
data_is u t os ts objects n a b c h k =
    k
    ∙ ap (λ m. m + text_bytes ts) (h ∙ ap (λ x. object_bytes x os) a ∙ ap (object_bytes u.types) b ∙ objects_are u.types u.objects)
    ∙ ap (λ (x : List (List ℕ)). sum (map (λ (o : ObjectTree). rounded_size (tags u.types) o.of) (map (object_seen (types u.types)) u.objects)) + text_bytes x) c

-- the locals from a place on, as a part of a slice
pub locals_from : (t : Table) (xs ls : List ℕ) (p k : ℕ) → xs ≡ ls → k ≡ min p (length xs) → local_bytes t (take (length xs - k) (drop k xs)) ≡ local_bytes t (drop (min p (length ls)) ls)
locals_from t xs ls p k e h =
    ap (local_bytes t) (take_all (length xs - k) (drop k xs) (omega (arith, length-drop k xs)))
    ∙ ap (λ m. local_bytes t (drop m xs)) h
    ∙ ap (λ ys. local_bytes t (drop (min p (length ys)) ys)) e
