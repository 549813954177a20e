-- Keys behind references, and the names that they are.
use Rattle.std.proofs.Common.{◌≡◌, ℕ, ◌+◌, Bool, true, false, cond, ◌||◌, List, [], ◌∷◌, ◌++◌, map, Some, refl, sym, ap, ◌∙◌}
use Rattle.std.specs.Prelude.{slice_get, position, not, option_map}
use Rattle.std.specs.List.{list_any, prefix_len}
use Rattle.std.specs.Borrow.{Bor}
use Rattle.std.specs.Str.{bytes_eq}
use Rattle.std.proofs.lemmas.List.{length-map, map-append}
use Rattle.std.proofs.lemmas.Option.{slice_get-map}
use Rattle.std.proofs.lemmas.Slice.Eq.{bytes_eq-Decides}
use Rattle.lcc_text.specs.Names.{with_name, place_of}

abbrev pub Key : Type 0
Key = Bor (List ℕ)

abbrev pub now : List Key → List (List ℕ)
now ks = map (λ k. k.now) ks

prefix_now : (t : List ℕ → Bool) (ks : List Key) → prefix_len (λ k. not (t k.now)) ks ≡ prefix_len (λ n. not (t n)) (now ks)
prefix_now t [] = refl
prefix_now t (k ∷ ks) = ap (λ (n : ℕ). cond (not (t k.now)) (1 + n) 0) (prefix_now t ks)

pub place_now : (name : List ℕ) (ks : List Key) → position (λ k. bytes_eq name k.now) ks ≡ place_of (now ks) name
place_now name ks = rw (prefix_now (bytes_eq name) ks, ← length-map ks (λ k. k.now)) refl

any_now : (t : List ℕ → Bool) (ks : List Key) → list_any (λ k. t k.now) ks ≡ list_any t (now ks)
any_now t [] = refl
any_now t (k ∷ ks) = ap (λ (b : Bool). t k.now || b) (any_now t ks)

chosen : (name : Key) (ks : List Key) (b : Bool) → now (cond b ks (ks ++ name ∷ [])) ≡ cond b (now ks) (now ks ++ name.now ∷ [])
chosen name ks true = refl
chosen name ks false = simp map-append

pub with_now : (name : Key) (ks : List Key) → now (cond (list_any (λ k. bytes_eq name.now k.now) ks) ks (ks ++ name ∷ [])) ≡ with_name (now ks) name.now
with_now name ks = chosen name ks _ ∙ ap (λ (b : Bool). cond b (now ks) (now ks ++ name.now ∷ [])) (any_now (bytes_eq name.now) ks)

pub stored_now : (name : Key) (ks : List Key) (i : ℕ) (k : Key) → slice_get ks i ≡ Some k → bytes_eq name.now k.now ≡ true → slice_get (now ks) i ≡ Some name.now
stored_now name ks i k e f =
    let g : name.now ≡ k.now = (bytes_eq-Decides name.now k.now).0 f in
    slice_get-map (λ (x : Key). x.now) ks i ∙ ap (option_map (λ (x : Key). x.now)) e ∙ ap (λ (n : List ℕ). Some n) (sym g)
