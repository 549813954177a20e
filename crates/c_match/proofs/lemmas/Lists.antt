-- Parts of bytes that stand for bytes of C, and what a store makes of them.
use Rattle.std.specs.Prelude.{◌≡◌, ◌≤◌, ℕ, zero, suc, ◌+◌, List, [], ◌∷◌, length, take, drop}
use Rattle.std.proofs.Common.{refl, subst, sym, drop-drop, arith}
use Rattle.objects.specs.declared.byte.Byte.{Byte}
use Rattle.objects.specs.declared.value.Value.{Value}
use Rattle.objects.specs.Objects.{overwritten}
use Rattle.forests.specs.Words.{Word}
use Rattle.c_match.specs.Ranges.{Map}
use Rattle.c_match.specs.Bytes.{AreBytesOf}

pub bytes_taken : (map : Map) (n : ℕ) (bs : List (Byte Value)) (cs : List (Byte Word)) → AreBytesOf map bs cs → AreBytesOf map (take n bs) (take n cs)
bytes_taken map zero bs cs h = tt
bytes_taken map (suc n) [] cs h = tt
bytes_taken map (suc n) (b ∷ bs) [] h = absurd h
bytes_taken map (suc n) (b ∷ bs) (c ∷ cs) h = (h.0, bytes_taken map n bs cs h.1)

bytes_dropped : (map : Map) (n : ℕ) (bs : List (Byte Value)) (cs : List (Byte Word)) → AreBytesOf map bs cs → AreBytesOf map (drop n bs) (drop n cs)
bytes_dropped map zero bs cs h = h
bytes_dropped map (suc n) [] cs h = tt
bytes_dropped map (suc n) (b ∷ bs) [] h = absurd h
bytes_dropped map (suc n) (b ∷ bs) (c ∷ cs) h = bytes_dropped map n bs cs h.1

-- so many bytes from a place of those that stand in a range
pub bytes_from : (map : Map) (start offset size : ℕ) (bs : List (Byte Value)) (cs : List (Byte Word)) → AreBytesOf map bs (drop start cs) → AreBytesOf map (take size (drop offset bs)) (take size (drop (start + offset) cs))
bytes_from map start offset size bs cs h =
    subst (λ (ds : List (Byte Word)). AreBytesOf map (take size (drop offset bs)) (take size ds)) (drop-drop offset start cs)
    (bytes_taken map size (drop offset bs) (drop offset (drop start cs)) (bytes_dropped map offset bs (drop start cs) h))

-- ---- stores

nothing_over : (map : Map) (k : ℕ) (new : List (Byte Value)) (cs : List (Byte Word)) → AreBytesOf map (overwritten k new []) cs
nothing_over map zero [] cs = tt
nothing_over map zero (b ∷ bs) cs = tt
nothing_over map (suc k) new cs = tt

front_over : (map : Map) (new bs : List (Byte Value)) (other cs : List (Byte Word)) → AreBytesOf map bs cs → AreBytesOf map new other → length new ≡ length other → AreBytesOf map (overwritten zero new bs) (overwritten zero other cs)
front_over map [] bs [] cs h g e = h
front_over map [] bs (c ∷ other) cs h g e = absurd (let never : ⊥ = omega arith in never)
front_over map (b ∷ new) bs [] cs h g e = absurd g
front_over map (b ∷ new) [] (c ∷ other) cs h g e = tt
front_over map (b ∷ new) (x ∷ bs) (c ∷ other) [] h g e = absurd h
front_over map (b ∷ new) (x ∷ bs) (c ∷ other) (y ∷ cs) h g e = (g.0, front_over map new bs other cs h.1 g.1 (omega arith))

same_over : (map : Map) (k : ℕ) (new bs : List (Byte Value)) (other cs : List (Byte Word)) → AreBytesOf map bs cs → AreBytesOf map new other → length new ≡ length other → AreBytesOf map (overwritten k new bs) (overwritten k other cs)
same_over map zero new bs other cs h g e = front_over map new bs other cs h g e
same_over map (suc k) new [] other cs h g e = tt
same_over map (suc k) new (b ∷ bs) other [] h g e = absurd h
same_over map (suc k) new (b ∷ bs) other (c ∷ cs) h g e = (h.0, same_over map k new bs other cs h.1 g e)

-- bytes written in a range at the place of those of C
pub bytes_over : (map : Map) (start k m : ℕ) (new bs : List (Byte Value)) (other cs : List (Byte Word)) → AreBytesOf map bs (drop start cs) → AreBytesOf map new other → length new ≡ length other → m ≡ start + k → AreBytesOf map (overwritten k new bs) (drop start (overwritten m other cs))
bytes_over map zero k m new bs other cs h g l e = let same : k ≡ m = omega arith in subst (λ (j : ℕ). AreBytesOf map (overwritten k new bs) (overwritten j other cs)) same (same_over map k new bs other cs h g l)
bytes_over map (suc start) k m new [] other [] h g l e = nothing_over map k new (drop (suc start) (overwritten m other []))
bytes_over map (suc start) k m new (b ∷ bs) other [] h g l e = absurd h
bytes_over map (suc start) k zero new bs other (c ∷ cs) h g l e = absurd (let never : ⊥ = omega arith in never)
bytes_over map (suc start) k (suc m) new bs other (c ∷ cs) h g l e = bytes_over map start k m new bs other cs h g l (omega arith)

-- bytes written behind a range
behind_over : (map : Map) (m : ℕ) (bs : List (Byte Value)) (new cs : List (Byte Word)) → AreBytesOf map bs cs → length bs ≤ m → AreBytesOf map bs (overwritten m new cs)
behind_over map m [] new cs h le = tt
behind_over map m (b ∷ bs) new [] h le = absurd h
behind_over map zero (b ∷ bs) new (c ∷ cs) h le = absurd (let never : ⊥ = omega arith in never)
behind_over map (suc m) (b ∷ bs) new (c ∷ cs) h le = (h.0, behind_over map m bs new cs h.1 (omega arith))

pub bytes_before : (map : Map) (start m : ℕ) (bs : List (Byte Value)) (new cs : List (Byte Word)) → AreBytesOf map bs (drop start cs) → start + length bs ≤ m → AreBytesOf map bs (drop start (overwritten m new cs))
bytes_before map start m [] new cs h le = tt
bytes_before map zero m (b ∷ bs) new cs h le = behind_over map m (b ∷ bs) new cs h (omega arith)
bytes_before map (suc start) m (b ∷ bs) new [] h le = absurd h
bytes_before map (suc start) zero (b ∷ bs) new (c ∷ cs) h le = absurd (let never : ⊥ = omega arith in never)
bytes_before map (suc start) (suc m) (b ∷ bs) new (c ∷ cs) h le = bytes_before map start m (b ∷ bs) new cs h (omega arith)

-- bytes written before a range
skipped : (start : ℕ) (new cs : List (Byte Word)) → length new ≤ start → drop start (overwritten zero new cs) ≡ drop start cs
skipped start [] cs le = refl
skipped zero (b ∷ new) cs le = absurd (let never : ⊥ = omega arith in never)
skipped (suc start) (b ∷ new) [] le = refl
skipped (suc start) (b ∷ new) (c ∷ cs) le = skipped start new cs (omega arith)

unmoved : (start m : ℕ) (new cs : List (Byte Word)) → m + length new ≤ start → drop start (overwritten m new cs) ≡ drop start cs
unmoved start zero new cs le = skipped start new cs (omega arith)
unmoved start (suc m) new [] le = refl
unmoved zero (suc m) new (c ∷ cs) le = absurd (let never : ⊥ = omega arith in never)
unmoved (suc start) (suc m) new (c ∷ cs) le = unmoved start m new cs (omega arith)

pub bytes_behind : (map : Map) (start m : ℕ) (bs : List (Byte Value)) (new cs : List (Byte Word)) → AreBytesOf map bs (drop start cs) → m + length new ≤ start → AreBytesOf map bs (drop start (overwritten m new cs))
bytes_behind map start m bs new cs h le = subst (λ (ds : List (Byte Word)). AreBytesOf map bs ds) (sym (unmoved start m new cs le)) h
