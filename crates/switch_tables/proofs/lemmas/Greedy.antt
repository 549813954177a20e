-- The cut is the one in which a case joins the group before it exactly where at least half of it is then cases.
use Rattle.std.proofs.Common.{◌≡◌, Bool, true, false, List, [], ◌∷◌, ◌++◌, refl, sym, ap, ◌∙◌, subst, append_assoc, append-nil}
use Rattle.std.specs.Prelude.{if◌then◌else◌}
use Rattle.c_meaning.specs.declared.core_stmt.CoreCase.{CoreCase}
use Rattle.switch_tables.specs.Cuts.{joins, cut_behind, cut, joined}
use Rattle.switch_tables.specs.Laws.{AreJoining, EndsBefore, IsGreedy}

joining_more : (front xs : List CoreCase) (c : CoreCase) → AreJoining front xs → joins (front ++ xs) c ≡ true → AreJoining front (xs ++ c ∷ [])
joining_more front [] c h e = (subst (λ g. joins g c ≡ true) (append-nil front) e, tt)
joining_more front (x ∷ xs) c h e = (h.0, joining_more (front ++ x ∷ []) xs c h.1 (subst (λ g. joins g c ≡ true) (sym (append_assoc front (x ∷ []) xs)) e))

-- a cut behind a group begins with that group's first case
ends_before : (g : List CoreCase) (c : CoreCase) (xs cases : List CoreCase) → joins g c ≡ false → EndsBefore g (cut_behind (c ∷ xs) cases)
ends_before g c xs [] h = h
ends_before g c xs (d ∷ ds) h = by (joins (c ∷ xs) d) (ends_before g c (xs ++ d ∷ []) ds h)
  where
    by : (q : Bool) → EndsBefore g (cut_behind (c ∷ (xs ++ d ∷ [])) ds) → EndsBefore g (if q then cut_behind (c ∷ (xs ++ d ∷ [])) ds else (c ∷ xs) ∷ cut_behind (d ∷ []) ds)
    by true on = on
    by false on = h

greedy_behind : (f : CoreCase) (group cases : List CoreCase) → AreJoining (f ∷ []) group → IsGreedy (cut_behind (f ∷ group) cases)
greedy_behind f group [] h = (h, (tt, tt))
greedy_behind f group (c ∷ cs) h = by (joins (f ∷ group) c) refl (λ k. greedy_behind f (group ++ c ∷ []) cs k) (greedy_behind c [] cs tt)
  where
    by : (q : Bool) → joins (f ∷ group) c ≡ q → (AreJoining (f ∷ []) (group ++ c ∷ []) → IsGreedy (cut_behind (f ∷ (group ++ c ∷ [])) cs)) → IsGreedy (cut_behind (c ∷ []) cs)
        → IsGreedy (if q then cut_behind (f ∷ (group ++ c ∷ [])) cs else (f ∷ group) ∷ cut_behind (c ∷ []) cs)
    by true e on alone = on (joining_more (f ∷ []) group c h e)
    by false e on alone = (h, (ends_before (f ∷ group) c [] cs e, alone))

pub cut_is_greedy : (cases : List CoreCase) → IsGreedy (cut cases)
cut_is_greedy [] = tt
cut_is_greedy (c ∷ cs) = greedy_behind c [] cs tt

at_next : (front : List CoreCase) (c : CoreCase) (cs : List CoreCase) (q : Bool) → joins front c ≡ q → cut_behind front (c ∷ cs) ≡ (if q then cut_behind (front ++ c ∷ []) cs else front ∷ cut (c ∷ cs))
at_next front c cs q e = ap (λ b. if b then cut_behind (front ++ c ∷ []) cs else front ∷ cut (c ∷ cs)) e

only_behind : (front rest : List CoreCase) (gs : List (List CoreCase)) → AreJoining front rest → EndsBefore (front ++ rest) gs → cut_behind front (rest ++ joined gs) ≡ (front ++ rest) ∷ cut (joined gs)
only_behind front [] [] h e = ap (λ g. g ∷ []) (sym (append-nil front))
only_behind front [] ([] ∷ gs) h e = absurd e
only_behind front [] ((c ∷ cs) ∷ gs) h e =
    at_next front c (cs ++ joined gs) false (subst (λ g. joins g c ≡ false) (append-nil front) e)
    ∙ ap (λ g. g ∷ cut (c ∷ (cs ++ joined gs))) (sym (append-nil front))
only_behind front (c ∷ cs) gs h e =
    at_next front c (cs ++ joined gs) true h.0
    ∙ (only_behind (front ++ c ∷ []) cs gs h.1 (subst (λ g. EndsBefore g gs) (sym (append_assoc front (c ∷ []) cs)) e)
    ∙ ap (λ g. g ∷ cut (joined gs)) (append_assoc front (c ∷ []) cs))

pub only_cut : (groups : List (List CoreCase)) → IsGreedy groups → groups ≡ cut (joined groups)
only_cut [] h = refl
only_cut ([] ∷ gs) h = absurd h.0
only_cut ((c ∷ cs) ∷ gs) h = ap (λ hs. (c ∷ cs) ∷ hs) (only_cut gs h.1.1) ∙ sym (only_behind (c ∷ []) cs gs h.0 h.1.0)
