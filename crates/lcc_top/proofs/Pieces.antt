-- A sink that took a first part of one piece of several.
use Rattle.std.proofs.Common.{◌≡◌, ℕ, List, ◌++◌, ap, sym, ◌∙◌, append_assoc}
use Rattle.std.specs.declared.option.Option.{Option}
use Rattle.std.specs.Prelude.{codes, decimal, Result, Ok, Err, OnOk, OnErr}
use Rattle.std.specs.Io.KnownBytes.{Appends}
use Rattle.std.proofs.KnownBytes.{Appends-trans}
use Rattle.lcc_base.specs.Taken.{TookPrefix}
use Rattle.outcomes.specs.Outcome.{hex_word, place_line}

-- of the first piece
pub first_of : (old new : Option (List ℕ)) (a b : List ℕ) → TookPrefix old new a → TookPrefix old new (a ++ b)
first_of old new a b (front, rest, e, took) =
    (front, rest ++ b, ap (λ (l : List ℕ). l ++ b) e ∙ append_assoc front rest b, took)

-- of a piece behind others
pub next_of : (old mid new : Option (List ℕ)) (a b c : List ℕ) → Appends old mid a → TookPrefix mid new b → TookPrefix old new (a ++ b ++ c)
next_of old mid new a b c had (front, rest, e, took) =
    (a ++ front, rest ++ c, ap (λ (l : List ℕ). (a ++ l) ++ c) e ∙ simp append_assoc, Appends-trans old mid new a front had took)

-- of the last piece, where its write failed
pub last_of : {T E : Type 0} (result : Result T E) (old mid new : Option (List ℕ)) (a b : List ℕ) → Appends old mid a → OnErr result (TookPrefix mid new b) → OnErr result (TookPrefix old new (a ++ b))
last_of (Ok x) old mid new a b had part = tt
last_of (Err e) old mid new a b had (front, rest, is, took) =
    (a ++ front, rest, ap (λ (l : List ℕ). a ++ l) is ∙ sym (append_assoc a front rest), Appends-trans old mid new a front had took)

-- of both pieces, where the last is written
pub both_of : {T E : Type 0} (result : Result T E) (old mid new : Option (List ℕ)) (a b : List ℕ) → Appends old mid a → OnOk result (Appends mid new b) → OnOk result (Appends old new (a ++ b))
both_of (Ok x) old mid new a b had took = Appends-trans old mid new a b had took
both_of (Err e) old mid new a b had took = tt

all_behind : (text what at place last : List ℕ) → text ++ (((what ++ at) ++ place) ++ last) ≡ (((text ++ what) ++ at) ++ place) ++ last
all_behind text what at place last =
    sym (append_assoc text ((what ++ at) ++ place) last)
    ∙ ap (λ (l : List ℕ). l ++ last) (sym (append_assoc text (what ++ at) place) ∙ ap (λ (l : List ℕ). l ++ place) (sym (append_assoc text what at)))

-- a place's line behind another text
pub place_behind : (text what : List ℕ) (pc step : ℕ) → text ++ place_line what pc step ≡ place_line (text ++ what) pc step
place_behind text what pc step = all_behind text what (codes " at 0x") (hex_word pc) (codes ", step " ++ decimal step ++ codes "\n")
