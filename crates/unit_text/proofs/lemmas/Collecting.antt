-- The lines of functions, one function more.
use Rattle.std.proofs.Common.{◌≡◌, ℕ, ◌+◌, ◌<◌, ◌≤◌, List, [], ◌∷◌, ◌++◌, length, get_or, take, refl, sym, ap, ◌∙◌, subst, append_assoc, append-nil}
use Rattle.std.specs.List.{AllZip}
use Rattle.std.proofs.lemmas.List.{take_more, take_all, get_or_default}
use Rattle.asm_lines.specs.Statements.{Text}
use Rattle.asm_text.specs.Lines.{MLine}
use Rattle.op_forest.specs.declared.lowered.LoweredFunction.{LoweredFunction}
use Rattle.op_forest.specs.Lowered.{LoweredUnit, IsFunctionOf, IsLowered}
use Rattle.unit_text.specs.UnitLines.{plain, numbered, function_items, Coded, items_of, unit_lines}
use Rattle.unit_text.specs.UnitOf.{AreLinesOf}
use Rattle.unit_text.proofs.lemmas.Numbering.{added}

items_push : (fs : List Coded) (f : Coded) → items_of (fs ++ f ∷ []) ≡ items_of fs ++ function_items f
items_push [] f = append-nil (function_items f)
items_push (g ∷ fs) f = ap (λ x. function_items g ++ x) (items_push fs f) ∙ sym (append_assoc (function_items g) (items_of fs) (function_items f))

zip_push : {A B : Type 0} (R : A → B → Type 0) (xs : List A) (ys : List B) (x : A) (y : B) → AllZip R xs ys → R x y → AllZip R (xs ++ x ∷ []) (ys ++ y ∷ [])
zip_push R [] [] x y h r = (r, tt)
zip_push R [] (b ∷ ys) x y h r = absurd h
zip_push R (a ∷ xs) [] x y h r = absurd h
zip_push R (a ∷ xs) (b ∷ ys) x y h r = (h.0, zip_push R xs ys x y h.1 r)

-- the lines of the first n functions
pub record IsBegun (IsMade : LoweredFunction → Coded → Type 0) (u : LoweredUnit) (n : ℕ) (lines : List MLine) : Type 0 where
  pub functions : List Coded
  pub each : AllZip IsMade (take n u.functions) functions
  pub lines_are : lines ≡ unit_lines functions

pub none_yet : (IsMade : LoweredFunction → Coded → Type 0) (u : LoweredUnit) (lines : List MLine) → lines ≡ [] ++ numbered (0 + 1) (plain Text ∷ []) → IsBegun IsMade u 0 lines
none_yet IsMade u lines e = record { functions = []; each = tt; lines_are = e }

pub one_more : (IsMade : LoweredFunction → Coded → Type 0) (u : LoweredUnit) (n : ℕ) (lines new : List MLine) (d : LoweredFunction) (c : Coded) → n < length u.functions → IsBegun IsMade u n lines → IsMade (get_or u.functions n d) c → new ≡ lines ++ numbered (length lines + 1) (function_items c) → IsBegun IsMade u (n + 1) new
one_more IsMade u n lines new d c lt b is e = record {
  functions = b.functions ++ c ∷ [];
  each = subst (λ fs. AllZip IsMade fs (b.functions ++ c ∷ [])) (sym (take_more u.functions n d lt)) (zip_push IsMade (take n u.functions) b.functions (get_or u.functions n d) c b.each is);
  lines_are = e ∙ ap (λ l. l ++ numbered (length l + 1) (function_items c)) b.lines_are ∙ added [] (unit_lines b.functions) (plain Text ∷ items_of b.functions) (function_items c) refl ∙ ap (λ items. numbered 1 (plain Text ∷ items)) (sym (items_push b.functions c));
}

pub all_done : (IsMade : LoweredFunction → Coded → Type 0) (u : LoweredUnit) (n : ℕ) (lines : List MLine) → length u.functions ≤ n → IsBegun IsMade u n lines → AreLinesOf IsMade u lines
all_done IsMade u n lines long b = record {
  functions = b.functions;
  each = subst (λ fs. AllZip IsMade fs b.functions) (take_all n u.functions long) b.each;
  lines_are = b.lines_are;
}

-- a function's name is there
pub name_is : (u : LoweredUnit) (n : ℕ) (f : LoweredFunction) (name : List ℕ) → IsLowered u → n < length u.functions → f ≡ get_or u.functions n f → name ≡ get_or u.names f.name name → name ≡ get_or u.names f.name []
name_is u n f name w lt here there =
    let is : IsFunctionOf u f = subst (IsFunctionOf u) (sym here) (w.functions n f lt) in there ∙ get_or_default u.names f.name name [] is.name
