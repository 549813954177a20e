-- Sets of registers that grow by one.
use Rattle.std.proofs.Common.{◌≡◌, ℕ, ◌+◌, ◌<◌, List, [], ◌∷◌, ◌++◌, Bool, true, length, take, get_or, refl, sym, ap, ◌∙◌}
use Rattle.std.specs.Prelude.{slice_set}
use Rattle.std.proofs.lemmas.List.{take_more}
use Rattle.vcode.specs.RegisterSets.{with_all}

pub with_more : (members : List Bool) (rs : List ℕ) (r : ℕ) → with_all members (rs ++ r ∷ []) ≡ slice_set (with_all members rs) r true
with_more members [] r = refl
with_more members (q ∷ rs) r = with_more (slice_set members q true) rs r

pub with_next : (members all : List Bool) (rs : List ℕ) (k : ℕ) → k < length rs → all ≡ with_all members (take k rs) → slice_set all (get_or rs k 0) true ≡ with_all members (take (k + 1) rs)
with_next members all rs k h e =
    ap (λ m. slice_set m (get_or rs k 0) true) e ∙ sym (with_more members (take k rs) (get_or rs k 0)) ∙ ap (λ l. with_all members l) (sym (take_more rs k 0 h))
