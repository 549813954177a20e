-- The meanings behind one step of a loop over what names hide.
use Rattle.std.proofs.Common.{◌≡◌, ℕ, zero, suc, ◌+◌, ◌<◌, List, [], ◌∷◌, ◌++◌, length, take, drop, get_or, Some, refl, sym, ap, subst, ◌∙◌, arith}
use Rattle.std.specs.Prelude.{slice_get}
use Rattle.std.proofs.lemmas.List.{take_more}
use Rattle.std.proofs.lemmas.Option.{get_or_from_slice_get}
use Rattle.indexmap.specs.Layout.{set_value_at}
use Rattle.c_symbols.specs.declared.hidden.Hidden.{Hidden}
use Rattle.c_symbols.specs.Meanings.{IsAt, MeanTheSame, Meant, meaning}
use Rattle.c_symbols.specs.Hiding.{HavePlaces, Hide, bound, restored}
use Rattle.c_symbols.proofs.Hiding.{hide_more, hide_push}

pub place_at : (a : Meant) (hs : List Hidden) (k : ℕ) (d : Hidden) → HavePlaces a hs → k < length hs → (get_or hs k d).place < length a
place_at a [] k d h l = absurd (omega arith)
place_at a (x ∷ hs) zero d h l = h.0
place_at a (x ∷ hs) (suc k) d h l = place_at a hs k d h.1 (omega arith)

restored_suc : (a : Meant) (hs : List Hidden) (k : ℕ) (d : Hidden) → k < length hs → restored a (drop k hs) ≡ restored (set_value_at a (get_or hs k d).place (get_or hs k d).before) (drop (suc k) hs)
restored_suc a [] k d l = absurd (omega arith)
restored_suc a (x ∷ hs) zero d l = refl
restored_suc a (x ∷ hs) (suc k) d l = restored_suc a hs k d (omega arith)

pub restored_step : (a : Meant) (hs : List Hidden) (k : ℕ) (d : Hidden) → k < length hs → restored a (drop k hs) ≡ restored (set_value_at a (get_or hs k d).place (get_or hs k d).before) (drop (k + 1) hs)
restored_step a hs k d l =
    let one : suc k ≡ k + 1 = omega arith in
    restored_suc a hs k d l ∙ ap (λ (m : ℕ). restored (set_value_at a (get_or hs k d).place (get_or hs k d).before) (drop m hs)) one

bound_suc : (a : Meant) (ns : List (List ℕ × ℕ)) (hs : List Hidden) (k : ℕ) (n : List ℕ × ℕ) (d : Hidden) → length hs ≡ length ns → slice_get ns k ≡ Some n
    → set_value_at (bound a (drop (suc k) ns) (drop (suc k) hs)) (get_or hs k d).place (Some n.1) ≡ bound a (drop k ns) (drop k hs)
bound_suc a [] hs k n d l e = cc
bound_suc a (m ∷ ns) [] k n d l e = absurd (omega arith)
bound_suc a (m ∷ ns) (x ∷ hs) zero n d l e = ap (λ (y : List ℕ × ℕ). set_value_at (bound a ns hs) x.place (Some y.1)) (sym (get_or_from_slice_get (m ∷ ns) 0 n n e))
bound_suc a (m ∷ ns) (x ∷ hs) (suc k) n d l e = bound_suc a ns hs k n d (omega arith) e

-- the loop goes down, so that the place comes behind those that are bound
pub bound_step : (a : Meant) (ns : List (List ℕ × ℕ)) (hs : List Hidden) (p k : ℕ) (n : List ℕ × ℕ) (d : Hidden) → p ≡ k + 1 → length hs ≡ length ns → slice_get ns k ≡ Some n
    → set_value_at (bound a (drop p ns) (drop p hs)) (get_or hs k d).place (Some n.1) ≡ bound a (drop k ns) (drop k hs)
bound_step a ns hs p k n d i l e =
    let one : p ≡ suc k = omega (arith, i) in
    ap (λ (q : ℕ). set_value_at (bound a (drop q ns) (drop q hs)) (get_or hs k d).place (Some n.1)) one ∙ bound_suc a ns hs k n d l e

pub hide_step : (first a b : Meant) (ns : List (List ℕ × ℕ)) (hs : List Hidden) (k : ℕ) (name : List ℕ) (id : ℕ) (x : Hidden)
    → MeanTheSame first a → MeanTheSame a b → Hide a (meaning first) (take k ns) hs → k < length ns → slice_get ns k ≡ Some (name, id) → IsAt b name x.place → x.before ≡ meaning a name
    → Hide b (meaning first) (take (k + 1) ns) (hs ++ x ∷ [])
hide_step first a b ns hs k name id x before same h l e at is =
    subst (λ (ms : List (List ℕ × ℕ)). Hide b (meaning first) ms (hs ++ x ∷ []))
    (sym (take_more ns k (name, id) l ∙ ap (λ (n : List ℕ × ℕ). take k ns ++ n ∷ []) (get_or_from_slice_get ns k (name, id) (name, id) e)))
    (hide_push b (meaning first) (take k ns) hs name id x (hide_more a b (meaning first) (meaning first) same.places (λ y. refl) (take k ns) hs h) at (is ∙ before.meanings name))
