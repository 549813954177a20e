-- Terminals that are found by the number of their names' bytes.
use Rattle.std.proofs.Common.{◌≡◌, ◌≤◌, ◌<◌, ◌+◌, ◌*◌, ◌-◌, ◌^◌, ◌%◌, ℕ, zero, suc, Option, Some, None, List, [], ◌∷◌, ◌++◌, length, drop, refl, sym, ap, subst, ◌∙◌, arith, bit_and}
use Rattle.std.specs.Prelude.{slice_get, slice_set, option_map}
use Rattle.std.proofs.Math.Nat.{pow-le-pow_right, mod-eq_of_lt}
use Rattle.std.proofs.Math.ListN.{replicate}
use Rattle.std.proofs.lemmas.List.{length-append}
use Rattle.std.proofs.lemmas.Option.{same_Some, none-some, slice_get-map}
use Rattle.lcc_text.specs.declared.class.Class.TheVariants.{Letter, Name}
use Rattle.lcc_text.specs.Names.{place_of}
use Rattle.lcc_text.specs.Classes.{in_class, AllIn, StartsIn}
use Rattle.lburg_model.specs.declared.terminal.Terminal.{Terminal}
use Rattle.lburg_model.specs.Description.{MDescription, IsDescription, terminal_names}
use Rattle.lburg_trees.specs.declared.known.Known.{Known}
use Rattle.lburg_trees.specs.UnknownOp.{IsNamed}
use Rattle.lburg_trees.specs.Words.{IsWord}
use Rattle.lburg_trees.specs.Known.{IsOf, AreKnown, ReadsName}
use Rattle.lburg_trees.proofs.Heads.{name_at, name_known}
use Rattle.lburg_trees.proofs.Fine.{names_there}
use Rattle.lburg_trees.proofs.Words.{name_front}

-- the bits of fewer than eight bytes
pub mask_of : (n : ℕ) → n < 8 → 1 * 2 ^ (8 * n) % 18446744073709551616 - 1 ≡ 2 ^ (8 * n) - 1
mask_of n h =
    let bits : 8 * n ≤ 56 = omega arith in
    let le : 2 ^ (8 * n) ≤ 2 ^ 56 = pow-le-pow_right (omega arith) bits in
    let e : 2 ^ (8 * n) % 18446744073709551616 ≡ 2 ^ (8 * n) = mod-eq_of_lt (omega arith) in
    let f : 1 * 2 ^ (8 * n) ≡ 2 ^ (8 * n) = omega arith in
    ap (λ (z : ℕ). z % 18446744073709551616 - 1) f ∙ ap (λ (z : ℕ). z - 1) e

-- an operator's name is spelled as one
pub name_spelled : (d : MDescription) (i : ℕ) (t : Terminal) → IsDescription d → slice_get d.terminals i ≡ Some t → AllIn (in_class Name) t.name
name_spelled d i t is e =
    let f : slice_get (terminal_names d) i ≡ Some t.name = slice_get-map (λ (t : Terminal). t.name) d.terminals i ∙ ap (λ (o : Option Terminal). option_map (λ (t : Terminal). t.name) o) e in
    (is.names_spelled i t.name f).1

started : (name : List ℕ) → StartsIn (in_class Letter) name → 1 ≤ length name
started [] h = absurd h
started (b ∷ name) h = omega arith

-- a name isn't empty
pub name_longer : (d : MDescription) (bytes rest : List ℕ) (op arity : ℕ) → IsDescription d → ReadsName d bytes rest op arity → length rest < length bytes
name_longer d bytes rest op arity is h =
    let (i, e, f) = names_there d op h.terminal h.terminal.name h.named in
    let some = started h.terminal.name (is.names_spelled i h.terminal.name f).0 in
    let l = length-append h.terminal.name rest in
    let long : length bytes ≡ length (h.terminal.name ++ rest) = ap length h.parts in
    omega arith

-- the name of a terminal that is found stands at the front
pub known_front : (d : MDescription) (bytes : List ℕ) (word : ℕ) (k : Known) → IsDescription d → IsWord bytes word → IsOf d.terminals k → bit_and word k.mask ≡ k.word → ReadsName d bytes (drop k.length bytes) k.op k.arity
known_front d bytes word k is w h e =
    let t = h.terminal in
    let short = h.short in
    let long = h.length_is in
    let parts = name_front bytes t.name word k.mask w (name_spelled d h.place t is h.there) (omega arith) (h.mask_is ∙ ap (λ (z : ℕ). 2 ^ (8 * z) - 1) long) (e ∙ h.word_is) in
    record {
      terminal = t;
      named = subst (λ (z : ℕ). IsNamed d z t t.name) (sym h.op_is) (name_at d t.name h.place t h.there refl);
      arity_is = h.arity_is;
      parts = parts ∙ ap (λ (z : ℕ). t.name ++ drop z bytes) (sym long);
    }

-- the name that a table of names has at a place stands at the front
pub named_front : (d : MDescription) (names : List (List ℕ)) (bytes rest name : List ℕ) (i arity : ℕ) (t : Terminal) → names ≡ terminal_names d → place_of names name ≡ Some i → slice_get d.terminals i ≡ Some t → t.arity ≡ Some arity → bytes ≡ name ++ rest → ReadsName d bytes rest (i + 1) arity
named_front d names bytes rest name i arity t law e there a parts =
    let (u, named) = name_known d names name i law e in
    let here = name_at d t.name i t there refl in
    let same : t ≡ u = same_Some t u (sym here.0 ∙ named.0) in
    let f : name ≡ t.name = sym named.1 ∙ sym (ap (λ (z : Terminal). z.name) same) in
    record {
      terminal = t;
      named = here;
      arity_is = a;
      parts = parts ∙ ap (λ (z : List ℕ). z ++ rest) f;
    }

-- ---- a table that gets one more

pub set_known : (terminals : List Terminal) (table : List (Option Known)) (i : ℕ) (k : Known) → AreKnown terminals table → IsOf terminals k → AreKnown terminals (slice_set table i (Some k))
set_known terminals [] i k a h j x e = absurd (none-some _ e)
set_known terminals (o ∷ table) zero k a h zero x e = subst (λ (z : Known). IsOf terminals z) (same_Some k x (same_Some (Some k) (Some x) e)) h
set_known terminals (o ∷ table) zero k a h (suc j) x e = a (suc j) x e
set_known terminals (o ∷ table) (suc i) k a h zero x e = a 0 x e
set_known terminals (o ∷ table) (suc i) k a h (suc j) x e = set_known terminals table i k (λ m y f. a (suc m) y f) h j x e

-- so many bytes are there
pub known_within : (d : MDescription) (bytes : List ℕ) (word : ℕ) (k : Known) → IsWord bytes word → IsOf d.terminals k → k.length ≤ length bytes
known_within d bytes word k w h =
    let short = h.short in
    let many = w.many in
    let e : length bytes ≡ length (w.front ++ w.rest) = ap length w.parts in
    let l = length-append w.front w.rest in
    omega arith

-- a table without terminals
pub none_known : (terminals : List Terminal) (n : ℕ) → AreKnown terminals (replicate n None)
none_known terminals zero i k e = absurd (none-some _ e)
none_known terminals (suc n) zero k e = absurd (none-some k (same_Some None (Some k) e))
none_known terminals (suc n) (suc i) k e = none_known terminals n i k e
