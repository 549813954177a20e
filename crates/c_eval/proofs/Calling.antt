-- Calls that are made, and those that wait.
use Rattle.std.specs.Prelude.{◌≡◌, ℕ, zero, suc, Option, Some, None, List, [], ◌∷◌, ◌++◌, length, replicate, map, reverse, refl}
use Rattle.std.proofs.Common.{sym, ap, ◌∙◌}
use Rattle.std.proofs.lemmas.List.{reverse-append}
use Rattle.lcc_base.specs.Traces.{Event, Wrote, Opened, Closed, output_of}
use Rattle.objects.specs.declared.value.Value.{Value}
use Rattle.c_types.specs.CType.{CType}
use Rattle.c_types.specs.Layout.{Tag}
use Rattle.c_runs.specs.Calls.{Argument, Call, returned, handed}
use Rattle.c_runs.specs.Locals.{made_call}
use Rattle.c_runs.specs.Outcomes.{Out, Next, Break, Continue, Return, Goto, Over}
use Rattle.c_runs.specs.Worlds.{World, left_behind}
use Rattle.c_eval.specs.Stacks.{waiting_call}

-- ---- events

pub opened_silently : (t : List Event) (n : ℕ) → output_of (t ++ Opened n ∷ []) ≡ output_of t
opened_silently [] n = refl
opened_silently (Wrote b ∷ t) n = ap (λ bs. b ∷ bs) (opened_silently t n)
opened_silently (Opened m ∷ t) n = opened_silently t n
opened_silently (Closed ∷ t) n = opened_silently t n

-- ---- what waits

-- a call is left alike where as many objects lived before it, and the caller's locals are the same
left_alike : (a b w : World) → length a.storage.objects ≡ length b.storage.objects → a.locals ≡ b.locals → left_behind Closed a w ≡ left_behind Closed b w
left_alike a b w h e = rw (h, e) refl

handed_alike : (tags : List Tag) (of : CType) (place : Option Value) (v : Value) (line k : ℕ) (a b w : World) → length a.storage.objects ≡ length b.storage.objects → a.locals ≡ b.locals → handed tags of place v line k a w ≡ handed tags of place v line k b w
handed_alike tags of None v line k a b w h e = rw (h, e) refl
handed_alike tags of (Some copy) v line k a b w h e = rw (h, e) refl

returned_alike : (tags : List Tag) (a b : Call) (o : Out) → a.of ≡ b.of → a.line ≡ b.line → a.result ≡ b.result → length a.world.storage.objects ≡ length b.world.storage.objects → a.world.locals ≡ b.world.locals → returned tags a o ≡ returned tags b o
returned_alike tags a b (Next k w) eo el er eh ew = rw (el, eh, ew) refl
returned_alike tags a b (Return None line k w) eo el er eh ew = rw (el, eh, ew) refl
returned_alike tags a b (Return (Some v) line k w) eo el er eh ew = rw (eo, er) (handed_alike tags b.of b.result v line k a.world b.world w eh ew)
returned_alike tags a b (Break k w) eo el er eh ew = rw el refl
returned_alike tags a b (Continue k w) eo el er eh ew = rw el refl
returned_alike tags a b (Goto l k w) eo el er eh ew = rw el refl
returned_alike tags a b (Over h w) eo el er eh ew = refl

count_replicated : {A : Type 0} → (n : ℕ) (a : A) → length (replicate n a) ≡ n
count_replicated zero a = refl
count_replicated (suc n) a = ap suc (count_replicated n a)

-- the call that was made is the one that waits
pub waits_for : (tags : List Tag) (of : CType) (line n number objects : ℕ) (xs : List Argument) (locals : List Value) (w : World) (o : Out) → length w.storage.objects ≡ objects → w.locals ≡ locals → returned tags (waiting_call of line n objects locals) o ≡ returned tags (made_call of line n xs w number) o
waits_for tags of line n number objects xs locals w o h e =
    returned_alike tags (waiting_call of line n objects locals) (made_call of line n xs w number) o refl refl (rw e refl) (count_replicated objects _ ∙ sym h) (sym e)

-- ---- lists

behind_alike : {A B : Type 0} → (f : A → B) (xs ys : List A) → map f (xs ++ ys) ≡ map f xs ++ map f ys
behind_alike f [] ys = refl
behind_alike f (x ∷ xs) ys = ap (λ zs. f x ∷ zs) (behind_alike f xs ys)

pub reversed_alike : {A B : Type 0} → (f : A → B) (xs : List A) → map f (reverse xs) ≡ reverse (map f xs)
reversed_alike f [] = refl
reversed_alike f (x ∷ xs) =
    ap (map f) (reverse-append (x ∷ []) xs)
    ∙ behind_alike f (reverse xs) (x ∷ [])
    ∙ ap (λ zs. zs ++ f x ∷ []) (reversed_alike f xs)
    ∙ sym (reverse-append (f x ∷ []) (map f xs))
