-- The steps of loops that keep labels and items.
use Rattle.std.proofs.Common.{◌≡◌, ◌<◌, ◌+◌, ℕ, Option, None, List, [], ◌∷◌, ◌++◌, length, map, take, get_or, refl, sym, subst, ap, ◌∙◌, append_assoc, arith}
use Rattle.std.proofs.lemmas.List.{map_push, map_more, append-nil}
use Rattle.std.proofs.lemmas.List.Elements.{All-nil, All-cons, All-append, All-push}
use Rattle.std.specs.Prelude.{All}
use Rattle.std.specs.Borrow.{Bor}
use Rattle.asm_lines.specs.declared.statement.Item.{Item}
use Rattle.asm_lines.specs.Statements.{item_by, item_of}
use Rattle.asm_text.specs.Grown.{HasGrown, AddsLabels}
use Rattle.asm_text.specs.LineTable.{numbers_of_items}
use Rattle.asm_text.specs.Names.{name_at, name_in}
use Rattle.asm_text.specs.ProgramTable.{AreBelow}
use Rattle.asm_text.proofs.GrownNames.{below_grown, names_grown}
use Rattle.asm_text.proofs.OtherNames.{names_same, items_same}

-- ---- labels

pub labels_none : (names : List (List ℕ)) (old : List ℕ) → AddsLabels names old old []
labels_none names old = record { more = []; adds = sym (append-nil old); below = All-nil (λ n. n < length names); same = refl }

labels_more : (names new : List (List ℕ)) (old mid out : List ℕ) (labels : List (List ℕ)) (name : List ℕ) (n : ℕ) → AddsLabels names old mid labels → HasGrown names new → (n < length new) × (name_at new n ≡ name) → out ≡ mid ++ n ∷ [] → AddsLabels new old out (labels ++ name ∷ [])
labels_more names new old mid out labels name n a g h e = record {
  more = a.more ++ n ∷ [];
  adds = e ∙ ap (λ (ns : List ℕ). ns ++ n ∷ []) a.adds ∙ append_assoc old a.more (n ∷ []);
  below = All-push (λ n. n < length new) a.more n (below_grown names new a.more g a.below) h.0;
  same = map_push (name_at new) a.more n ∙ ap (λ (l : List (List ℕ)). l ++ name_at new n ∷ []) (names_same (name_at new) (name_at names) a.more (names_grown names new a.more g a.below) ∙ a.same) ∙ ap (λ (m : List ℕ). labels ++ m ∷ []) h.1;
}

-- the same by the label's place
pub labels_step : (names new : List (List ℕ)) (old mid out : List ℕ) (labels : List (Bor (List ℕ))) (i : ℕ) (d : Bor (List ℕ)) (n : ℕ) → i < length labels → AddsLabels names old mid (map (λ n. n.now) (take i labels)) → HasGrown names new → (n < length new) × (name_at new n ≡ (get_or labels i d).now) → out ≡ mid ++ n ∷ [] → AddsLabels new old out (map (λ n. n.now) (take (i + 1) labels))
labels_step names new old mid out labels i d n l a g h e =
    subst (λ (ls : List (List ℕ)). AddsLabels new old out ls) (sym (map_more (λ (b : Bor (List ℕ)). b.now) labels i d l)) (labels_more names new old mid out (map (λ n. n.now) (take i labels)) (get_or labels i d).now n a g h e)

-- ---- items

numbers_push : (is : List (Item ℕ)) (i : Item ℕ) → numbers_of_items (is ++ i ∷ []) ≡ numbers_of_items is ++ name_in i.name
numbers_push [] i = append-nil (name_in i.name)
numbers_push (j ∷ is) i = ap (λ (ns : List ℕ). name_in j.name ++ ns) (numbers_push is i) ∙ sym (append_assoc (name_in j.name) (numbers_of_items is) (name_in i.name))

pub items_below : (old new : List (List ℕ)) (is out : List (Item ℕ)) (i : Item ℕ) → HasGrown old new → AreBelow (length old) (numbers_of_items is) → AreBelow (length new) (name_in i.name) → out ≡ is ++ i ∷ [] → AreBelow (length new) (numbers_of_items out)
items_below old new is out i g h b e =
    subst (λ (ns : List ℕ). AreBelow (length new) ns) (sym (ap numbers_of_items e ∙ numbers_push is i)) (All-append (λ n. n < length new) (numbers_of_items is) (name_in i.name) (below_grown old new (numbers_of_items is) g h) b)

pub items_step : (old new : List (List ℕ)) (is out : List (Item ℕ)) (i : Item ℕ) (items : List (Item (Bor (List ℕ)))) (k : ℕ) (d : Item (Bor (List ℕ))) → k < length items → HasGrown old new → AreBelow (length old) (numbers_of_items is) → map (item_by (name_at old)) is ≡ map item_of (take k items) → item_by (name_at new) i ≡ item_of (get_or items k d) → out ≡ is ++ i ∷ [] → map (item_by (name_at new)) out ≡ map item_of (take (k + 1) items)
items_step old new is out i items k d l g b h f e =
    ap (λ (l : List (Item ℕ)). map (item_by (name_at new)) l) e ∙ map_push (item_by (name_at new)) is i ∙ ap (λ (l : List (Option (List ℕ) × ℕ)). l ++ item_by (name_at new) i ∷ []) (items_same (name_at new) (name_at old) is (names_grown old new (numbers_of_items is) g b) ∙ h) ∙ ap (λ (j : Option (List ℕ) × ℕ). map item_of (take k items) ++ j ∷ []) f ∙ sym (map_more item_of items k d l)
