-- What blocks cost at most as they grow.
use Rattle.std.proofs.Common.{◌≡◌, ⊎_elim, ℕ, zero, suc, ◌+◌, ◌*◌, ◌<◌, ◌≤◌, Bool, true, false, true≢false, List, [], ◌∷◌, ◌++◌, inl, inr, refl, sym, ap, ◌∙◌, subst, arith}
use Rattle.std.specs.Prelude.{◌⊎◌, ◌&&◌, ◌||◌, not, Some, slice_get, length}
use Rattle.std.proofs.lemmas.Bool.{cases_eq}
use Rattle.dag_forest.specs.declared.act.Act.{Act}
use Rattle.dag_forest.specs.declared.act.Act.TheVariants.{Made, Acts}
use Rattle.dag_forest.specs.declared.entry.Entry.{Entry}
use Rattle.dag_forest.specs.declared.entry.Entry.TheVariants.{Value, Root}
use Rattle.dag_forest.specs.declared.key.Key.{Key}
use Rattle.dag_forest.specs.declared.kids.Kids.{Kids}
use Rattle.dag_forest.specs.declared.kids.Kids.TheVariants.{Zero, One, Two}
use Rattle.dag_forest.specs.declared.parts.Parts.{Parts}
use Rattle.dag_forest.specs.Choice.{hits, in_kids, ends_stretch, is_computed}
use Rattle.dag_forest.specs.Emission.{AreOnce}
use Rattle.dag_forest.specs.Entries.{is_call}
use Rattle.dag_forest.specs.Schedules.{at, in_turn, kids_of, is_in, kids_list}
use Rattle.dag_forest.specs.Tally.{keys_of, key_behind, node_count}
use Rattle.dag_forest.proofs.lemmas.Maps.{at_new, at_old}
use Rattle.dag_forest.proofs.lemmas.Once.{turns_are_once}
use Rattle.dag_seam.specs.Laws.{GoesOn}
use Rattle.dag_seam.specs.Rooms.{AreActs}
use Rattle.dag_seam.specs.Turns.{waiting, made_behind}
use Rattle.dag_seam.proofs.lemmas.Acts.{IsAny, HasParts, are_append, get_left, get_last}
use Rattle.dag_seam.proofs.lemmas.Keys.{keys_value, keys_root, count_keys}
use Rattle.dag_seam.proofs.lemmas.MadeNodes.{still_behind, next_unmade}
use Rattle.dag_seam.proofs.lemmas.Turns.{node_goes_on, root_goes_on, call_goes_on}
use Rattle.dag_sizes.proofs.lemmas.Uses.{hit, miss}
use Rattle.expression_weights.specs.Prices.{price, priced, MayBeLight, AreLight, acts_in, Costs}
use Rattle.expression_weights.proofs.lemmas.Priced.{with_use, IsCheap, any_cheap}
use Rattle.expression_weights.proofs.lemmas.Spending.{SameFor, AllNumbers, EndsFree, spent_price, spent_light, dropped_price, dropped_light, price_with, light_with}

-- ---- acts, one by one

-- not this number
abbrev pub Isnt : ℕ → ℕ → Type 0
Isnt n m = m ≡ n → ⊥

abbrev pub MakeNot : ℕ → List Act → Type 0
MakeNot n xs = AllNumbers (Isnt n) xs

pub each : (P : ℕ → Parts → Type 0) (xs : List Act) → ((n : ℕ) (x : Parts) → P n x) → AreActs P IsAny xs
each P [] f = tt
each P (Made n x ∷ xs) f = (f n x, each P xs f)
each P (Acts x ∷ xs) f = (tt, each P xs f)

pub mapped : (P Q : ℕ → Parts → Type 0) (xs : List Act) → ((n : ℕ) (x : Parts) → P n x → Q n x) → AreActs P IsAny xs → AreActs Q IsAny xs
mapped P Q [] f h = tt
mapped P Q (Made n x ∷ xs) f h = (f n x h.0, mapped P Q xs f h.1)
mapped P Q (Acts x ∷ xs) f h = (tt, mapped P Q xs f h.1)

not_made : (n : ℕ) (xs : List Act) (made : ℕ → Bool) → made_behind xs made n ≡ false → MakeNot n xs
not_made n [] made h = tt
not_made n (Made m x ∷ xs) made h = (
  (λ e. true≢false (sym (still_behind xs (at made m true) n (ap (at made m true) (sym e) ∙ at_new made m true)) ∙ h)),
  not_made n xs (at made m true) h,
)
not_made n (Acts x ∷ xs) made h = (tt, not_made n xs made h)

-- the next node isn't made
pub next_not : (es : List Entry) → MakeNot (node_count es) (acts_in es)
next_not es = not_made (node_count es) (acts_in es) (λ m. false) (next_unmade es)

-- ---- a block that stays

pub costs_more : (es : List Entry) (due : ℕ → ℕ) (b c : ℕ) → b ≤ c → Costs es due b → Costs es due c
costs_more es due b c l h = record { light = h.light; free = h.free; may = h.may; below = (let f = h.below in omega (arith, f, l)); none = h.none; known = h.known }

pub dropped : (es : List Entry) (due due1 : ℕ → ℕ) (b : ℕ) → ((m : ℕ) → due1 m ≤ due m) → Costs es due b → Costs es due1 b
dropped es due due1 b less h = record {
  light = h.light;
  free = h.free;
  may = dropped_light h.light due due1 (acts_in es) less h.may;
  below = (let f = h.below in let g = dropped_price h.light due due1 (acts_in es) less in omega (arith, f, g));
  none = λ m l. let z = h.none m l in let q = less m in omega (arith, z, q);
  known = h.known;
}

pub spent : (k : ℕ) (es : List Entry) (due : ℕ → ℕ) (b n : ℕ) → n < node_count es → AreActs (λ m x. m ≡ n → IsCheap k x) IsAny (acts_in es) → Costs es due b → Costs es (with_use n due) (b + k)
spent k es due b n within cheap h = record {
  light = at h.light n false;
  free = h.free;
  may = spent_light n h.light due (acts_in es) h.may;
  below = (let f = h.below in let g = spent_price k n h.light due (acts_in es) (λ m. false) (turns_are_once es) h.may cheap in omega (arith, f, g));
  none = λ m l. let z = h.none m l in let q = miss m n (λ e. omega (arith, within, l, e)) in omega (arith, z, q);
  known = h.known;
}

pub any_spent : (es : List Entry) (due : ℕ → ℕ) (b n : ℕ) → n < node_count es → Costs es due b → Costs es (with_use n due) (b + 10)
any_spent es due b n within h = spent 10 es due b n within (each (λ m x. m ≡ n → IsCheap 10 x) (acts_in es) (λ m x e. any_cheap x)) h

-- ---- one act more

count_one : (es : List Entry) (x : Parts) → node_count (es ++ Value x ∷ []) ≡ suc (node_count es)
count_one [] x = refl
count_one (Value y ∷ es) x = ap suc (count_one es x)
count_one (Root y ∷ es) x = count_one es x

pub count_root : (es : List Entry) (x : Parts) → node_count (es ++ Root x ∷ []) ≡ node_count es
count_root [] x = refl
count_root (Value y ∷ es) x = ap suc (count_root es x)
count_root (Root y ∷ es) x = count_root es x

pub count_value : (es : List Entry) (x : Parts) → node_count (es ++ Value x ∷ []) ≡ node_count es + 1
count_value es x = let e = count_one es x in omega (arith, e)

pub known_value : (es : List Entry) (x : Parts) → AreActs (HasParts (keys_of es)) IsAny (acts_in es) → AreActs (HasParts (keys_of (es ++ Value x ∷ []))) IsAny (acts_in es ++ Made (node_count es) x ∷ [])
known_value es x h =
    let k = key_behind es x in
    let n : slice_get (keys_of es ++ k ∷ []) (node_count es) ≡ Some k = ap (λ m. slice_get (keys_of es ++ k ∷ []) m) (sym (count_keys es)) ∙ get_last (keys_of es) k in
    subst (λ ks. AreActs (HasParts ks) IsAny (acts_in es ++ Made (node_count es) x ∷ [])) (sym (keys_value es x))
    (are_append (HasParts (keys_of es ++ k ∷ [])) IsAny (acts_in es) (Made (node_count es) x ∷ [])
    (mapped (HasParts (keys_of es)) (HasParts (keys_of es ++ k ∷ [])) (acts_in es) (λ m y p. (p.0, get_left (keys_of es) (k ∷ []) m p.0 p.1, p.2)) h)
    ((k, n, refl), tt))

-- a node that is no call, whose first use is to come
pub with_node : (es : List Entry) (x : Parts) (due0 due : ℕ → ℕ) (b : ℕ) → is_call x.operator.op ≡ false → ((m : ℕ) → in_kids x.kids m + due m ≡ due0 m) → Costs es due0 b
    → Costs (es ++ Value x ∷ []) (with_use (node_count es) due) (b + 1)
with_node es x due0 due b plain is h =
    let n = node_count es in
    let on = node_goes_on es h.free x plain in
    let a = Made n x in
    let light1 = at h.light n true in
    let due1 = with_use n due in
    let zero_due : due n ≡ 0 = (let z = h.none n (omega arith) in let e = is n in omega (arith, z, e)) in
    let same : SameFor (Isnt n) a h.light light1 due0 due1 = (λ m ne. (at_old h.light n true m ne, (let q = miss m n ne in let e = is m in omega (arith, q, e)))) in
    let own : AreLight light1 due1 (a ∷ []) = ((λ q. record { plain = plain; few = (let g = hit n n refl in omega (arith, g, zero_due)); early = refl; open_ = λ u. refl }), tt) in
    let ends : EndsFree (Isnt n) a light1 due1 = (λ e. absurd (true≢false (sym e ∙ plain))) in
    let new = next_not es in
    let p = price_with (Isnt n) a h.light light1 due0 due1 (acts_in es) same new in
    let one : price (light1 n) x (0 + due1 n) ≡ 1 = ap (λ q. price q x (0 + due1 n)) (at_new h.light n true) in
    record {
      light = light1;
      free = on.1;
      may = subst (λ xs. AreLight light1 due1 xs) (sym on.0) (light_with (Isnt n) a h.light light1 due0 due1 (acts_in es) same new ends h.may own);
      below = subst (λ xs. priced light1 due1 xs ≤ b + 1) (sym on.0) (let f = h.below in omega (arith, p, one, f));
      none = λ m l. let c = count_one es x in let q = miss m n (λ e. omega (arith, e, c, l)) in let z = h.none m (omega (arith, c, l)) in let e = is m in omega (arith, z, q, e);
      known = subst (λ xs. AreActs (HasParts (keys_of (es ++ Value x ∷ []))) IsAny xs) (sym on.0) (known_value es x h.known);
    }

abbrev pub Any : ℕ → Type 0
Any m = Unit {0}

pub any_numbers : (xs : List Act) → AllNumbers Any xs
any_numbers xs = each (λ m x. Any m) xs (λ m x. tt)

-- a root, which uses all that is to come
pub with_root : (es : List Entry) (x : Parts) (due0 : ℕ → ℕ) (b : ℕ) → ((m : ℕ) → in_kids x.kids m ≡ due0 m) → Costs es due0 b → Costs (es ++ Root x ∷ []) (λ m. 0) (b + 1)
with_root es x due0 b is h =
    let on = root_goes_on es h.free x in
    let a = Acts x in
    let due1 : ℕ → ℕ = (λ m. 0) in
    let same : SameFor Any a h.light h.light due0 due1 = (λ m o. (refl, (let e = is m in omega (arith, e)))) in
    let new = any_numbers (acts_in es) in
    let p = price_with Any a h.light h.light due0 due1 (acts_in es) same new in
    record {
      light = h.light;
      free = on.1;
      may = subst (λ xs. AreLight h.light due1 xs) (sym on.0) (light_with Any a h.light h.light due0 due1 (acts_in es) same new (λ e m o q. refl) h.may tt);
      below = subst (λ xs. priced h.light due1 xs ≤ b + 1) (sym on.0) (let f = h.below in omega (arith, p, f));
      none = λ m l. refl;
      known = subst (λ xs. AreActs (HasParts (keys_of (es ++ Root x ∷ []))) IsAny xs) (sym on.0)
          (subst (λ ks. AreActs (HasParts ks) IsAny (acts_in es ++ Acts x ∷ [])) (sym (keys_root es x)) (are_append (HasParts (keys_of es)) IsAny (acts_in es) (Acts x ∷ []) h.known (tt, tt)));
    }
