-- Readers of lists in braces, where a comma may stand behind the last item, are exact.
use Rattle.std.proofs.Common.{◌≡◌, ◌≤◌, ◌+◌, ◌↔◌, ℕ, Bool, true, false, List, [], ◌∷◌, length, refl, sym, subst, arith}
use Rattle.c_ast.specs.Lexemes.{Lexeme, Sign}
use Rattle.c_ast.specs.Marks.{Mark, Tok, IsSign, is_sign}
use Rattle.c_ast.specs.ExprMarks.{end_then}
use Rattle.c_readings.specs.Reading.{State, Read, gives, answer, ask, beyond, tail, bind, all_of, one_sign}
use Rattle.c_readings.specs.Readers.{goes_on_without}
use Rattle.c_readings.specs.Exact.{RunsOn, Finds, Stops, IsPiece, Exact, nothing_more}
use Rattle.c_readings.proofs.Steps.{Yields, bind_yields, if_yields, exact_yields, exact_by, nothing_ends, Takes, sign_taken, sign_yields, taken_used, iff_same, iff_then, iff_path, token_iff, bind_finds, asked_yes, asked_no, sign_finds, sign_next, beyond_runs, first_is_at}
use Rattle.c_readings.proofs.Lists.{Every, Fit, IsListed, listed, listed_yields, listed_finds, last_stops, without_comma, without_yes, without_no_comma, without_sign}
use Rattle.c_readings.proofs.Operators.{Closer, closer}

-- ---- the end of a list

-- behind a list comes its end, so it doesn't go on
end_stops : (comma : Bool) (r : List Mark) (s : State) → RunsOn (end_then comma r) s → goes_on_without 5 s ≡ false
end_stops true r s h = without_sign 5 s (sign_next 45 (Tok (Sign 5) ∷ r) s h) (sign_next 5 r (beyond s) (beyond_runs (Sign 45) (Tok (Sign 5) ∷ r) s h))
end_stops false r s h = without_no_comma 5 s (first_is_at (is_sign 45) (Sign 5) r s h)

end_closes : (comma : Bool) (r : List Mark) → Closer (end_then comma r)
end_closes true r = closer (Sign 45) (Tok (Sign 5) ∷ r) refl
end_closes false r = closer (Sign 5) r refl

abbrev end_by : {X : Type 0} → X → State → Read (X × Bool)
end_by x s = ask (IsSign 45) s (one_sign 5 (beyond s) (λ t. gives (x, true) t)) (one_sign 5 s (λ t. gives (x, false) t))

-- the end of a list, with a comma or without one
record IsEnd (comma : Bool) (s t : State) : Type 0 where
  used : length t.rest + 1 ≤ length s.rest
  runs : (r : List Mark) → RunsOn (end_then comma r) s ↔ RunsOn r t

comma_end : (s : State) → Takes s.rest (Sign 45) (tail s.rest) → Takes (tail s.rest) (Sign 5) (tail (tail s.rest)) → IsEnd true s (beyond (beyond s))
comma_end s h k = record {
  used = let u = taken_used s.rest (tail s.rest) (Sign 45) h in let v = taken_used (tail s.rest) (tail (tail s.rest)) (Sign 5) k in omega arith;
  runs = λ r. token_iff (Sign 45) (Tok (Sign 5) ∷ r) s (tail s.rest) h (token_iff (Sign 5) r (beyond s) (tail (tail s.rest)) k iff_same);
}

lone_end : (s : State) → Takes s.rest (Sign 5) (tail s.rest) → IsEnd false s (beyond s)
lone_end s h = record { used = let u = taken_used s.rest (tail s.rest) (Sign 5) h in omega arith; runs = λ r. token_iff (Sign 5) r s (tail s.rest) h iff_same }

end_yields : {X : Type 0} (x : X) (s : State) (Q : X × Bool → State → Type 0) → ((comma : Bool) (t : State) → IsEnd comma s t → Q (x, comma) t) → Yields (end_by x s) Q
end_yields x s Q h =
    if_yields (answer (IsSign 45) s) _ _ Q
    (λ a. sign_yields 5 (beyond s) (gives (x, true)) Q (λ k. h true (beyond (beyond s)) (comma_end s (sign_taken 45 s.rest a) k)))
    (λ a. sign_yields 5 s (gives (x, false)) Q (λ k. h false (beyond s) (lone_end s k)))

end_found : {X : Type 0} (x : X) (comma : Bool) (r : List Mark) (s : State) → RunsOn (end_then comma r) s → Finds (end_by x s) (x, comma) r
end_found x true r s h =
    asked_yes (IsSign 45) s _ _ (x, true) r (sign_next 45 (Tok (Sign 5) ∷ r) s h)
    (sign_finds 5 r r (beyond s) (gives (x, true)) (x, true) (beyond_runs (Sign 45) (Tok (Sign 5) ∷ r) s h) (λ i. (refl, i)))
end_found x false r s h =
    asked_no (IsSign 45) s _ _ (x, false) r (first_is_at (is_sign 45) (Sign 5) r s h) (sign_finds 5 r r s (gives (x, false)) (x, false) h (λ i. (refl, i)))

-- ---- lists behind `{`

-- at least one item, one more for each comma, and the end
abbrev pub in_braces : {A X : Type 0} → (State → Read A) → (List A → X) → State → Read (X × Bool)
in_braces item of s = bind (item s) (λ x t. bind (all_of (λ b u. goes_on_without 5 u) (λ b u. item (beyond u)) (λ b y. b) true t) (λ xs u. end_by (of (x ∷ xs)) u))

-- f spells the first item, and g those behind a comma, which don't begin with `}`
module _ {A : Type 0} (f g : A → List Mark → List Mark) (Fits : A → Type 0) (goes_on : A → Lexeme → Bool) (high : A → ℕ) (limit : ℕ) (item : State → Read A) (first : Exact f Fits goes_on high limit 1 item) (other : Exact g Fits goes_on high limit 1 item) (stops : (x : A) (r : List Mark) → Closer r → Stops goes_on x r) (no_brace : (x : A) (m : List Mark) (s : State) → Fits x → RunsOn (g x m) s → answer (IsSign 5) s ≡ false) where
  -- what stands there, and behind it t
  record AreInBraces (s : State) (x : A) (xs : List A) (comma : Bool) (t : State) : Type 0 where
    kept : Every (Fit Fits high limit) (x ∷ xs)
    used : length t.rest + 1 ≤ length s.rest
    runs : (r : List Mark) → RunsOn (f x (listed g xs (end_then comma r))) s ↔ RunsOn r t

  in_braces_by : (s : State) (x : A) (t : State) (xs : List A) (u : State) (comma : Bool) (v : State) → IsPiece f Fits goes_on high limit 1 s x t → IsListed g Fits goes_on high limit (λ b w. goes_on_without 5 w) t xs u → IsEnd comma u v → AreInBraces s x xs comma v
  in_braces_by s x t xs u comma v h k i = record {
    kept = ((h.fits, h.low), k.kept);
    used = let a = h.used in let b = k.used in let c = i.used in omega arith;
    runs = λ r. iff_then (h.runs (listed g xs (end_then comma r))) (iff_then (k.runs (end_then comma r)) (i.runs r));
  }

  in_braces_yields : {X : Type 0} (of : List A → X) (s : State) (Q : X × Bool → State → Type 0) → ((x : A) (xs : List A) (comma : Bool) (t : State) → AreInBraces s x xs comma t → Q (of (x ∷ xs), comma) t) → Yields (in_braces item of s) Q
  in_braces_yields of s Q q =
      bind_yields (item s) _ _ Q (exact_yields f Fits goes_on high limit 1 item first s) (λ x t h.
      bind_yields (all_of (λ b u. goes_on_without 5 u) (λ b u. item (beyond u)) (λ b y. b) true t) _ _ Q (listed_yields g Fits goes_on high limit 1 item (λ b u. goes_on_without 5 u) other (λ b u i. without_comma 5 u i) t) (λ xs u k.
      end_yields (of (x ∷ xs)) u Q (λ comma v i. q x xs comma v (in_braces_by s x t xs u comma v h k i))))

  comma_stops : (x : A) → goes_on x (Sign 45) ≡ false
  comma_stops x = stops x (Tok (Sign 45) ∷ []) (closer (Sign 45) [] refl) (Sign 45) refl

  others_close : (xs : List A) (comma : Bool) (r : List Mark) → Closer (listed g xs (end_then comma r))
  others_close [] comma r = end_closes comma r
  others_close (x ∷ xs) comma r = closer (Sign 45) (g x (listed g xs (end_then comma r))) refl

  goes_to_item : (s : State) (x : A) (m : List Mark) → Fits x → RunsOn (Tok (Sign 45) ∷ g x m) s → goes_on_without 5 s ≡ true
  goes_to_item s x m f h = without_yes 5 s (sign_next 45 (g x m) s h) (no_brace x m (beyond s) f (beyond_runs (Sign 45) (g x m) s h))

  in_braces_found : {X : Type 0} (of : List A → X) (s : State) (x : A) (xs : List A) (comma : Bool) (r : List Mark) → Every (Fit Fits high limit) (x ∷ xs) → RunsOn (f x (listed g xs (end_then comma r))) s → Finds (in_braces item of s) (of (x ∷ xs), comma) r
  in_braces_found of s x xs comma r k h =
      let end : List Mark = end_then comma r in
      bind_finds (item s) x (listed g xs end) r _ (of (x ∷ xs), comma) (first.found s x (listed g xs end) k.0.0 k.0.1 (stops x (listed g xs end) (others_close xs comma r)) h) (λ t i.
      bind_finds (all_of (λ b u. goes_on_without 5 u) (λ b u. item (beyond u)) (λ b y. b) true t) xs end r _ (of (x ∷ xs), comma) (listed_finds g Fits goes_on high limit 1 item (λ b u. goes_on_without 5 u) end other (λ b u i. without_comma 5 u i) comma_stops (λ b u y m f i. goes_to_item u y m f i) (λ b u i. end_stops comma r u i) t xs (k.1, last_stops goes_on end xs (λ y. stops y end (end_closes comma r))) i) (λ u j.
      end_found (of (x ∷ xs)) comma r u j))

  -- the trees of such lists: what spells one, and that those that fit are the lists whose items fit
  module _ {X : Type 0} (of : List A → X) (spelled : X → Bool → List Mark → List Mark) (FitsAll : X → Type 0) (high_of : X → ℕ) (same : (x : A) (xs : List A) (comma : Bool) (r : List Mark) → spelled (of (x ∷ xs)) comma r ≡ f x (listed g xs (end_then comma r))) (fit : (x : A) (xs : List A) → Every (Fit Fits high limit) (x ∷ xs) → FitsAll (of (x ∷ xs)) × (high_of (of (x ∷ xs)) ≤ limit)) (listed_as : (y : X) → FitsAll y → high_of y ≤ limit → (x : A) × (xs : List A) × (of (x ∷ xs) ≡ y) × Every (Fit Fits high limit) (x ∷ xs)) where
    abbrev spelled_in : X × Bool → List Mark → List Mark
    spelled_in p r = spelled p.0 p.1 r

    abbrev FitsIn : X × Bool → Type 0
    FitsIn p = FitsAll p.0

    abbrev high_in : X × Bool → ℕ
    high_in p = high_of p.0

    tree_by : (s : State) (x : A) (xs : List A) (comma : Bool) (t : State) → AreInBraces s x xs comma t → IsPiece spelled_in FitsIn nothing_more high_in limit 1 s (of (x ∷ xs), comma) t
    tree_by s x xs comma t h =
        let k = fit x xs h.kept in
        record {
          fits = k.0;
          low = k.1;
          ends = nothing_ends {A = X × Bool} (of (x ∷ xs), comma) t.rest;
          used = h.used;
          runs = λ r. iff_then (iff_path (spelled (of (x ∷ xs)) comma r) (f x (listed g xs (end_then comma r))) s (same x xs comma r)) (h.runs r);
        }

    tree_found : (s : State) (y : X) (comma : Bool) (r : List Mark) → FitsAll y → high_of y ≤ limit → RunsOn (spelled y comma r) s → Finds (in_braces item of s) (y, comma) r
    tree_found s y comma r k l h =
        let i = listed_as y k l in
        subst (λ z. Finds (in_braces item of s) (z, comma) r) i.2
        (in_braces_found of s i.0 i.1 comma r i.3 (subst (λ m. RunsOn m s) (same i.0 i.1 comma r) (subst (λ z. RunsOn (spelled z comma r) s) (sym i.2) h)))

    pub in_braces_exact : Exact spelled_in FitsIn nothing_more high_in limit 1 (in_braces item of)
    in_braces_exact = exact_by spelled_in FitsIn nothing_more high_in limit 1 (in_braces item of) (λ s. in_braces_yields of s _ (λ x xs comma t h. tree_by s x xs comma t h)) (λ s p r k l c h. tree_found s p.0 p.1 r k l h)
