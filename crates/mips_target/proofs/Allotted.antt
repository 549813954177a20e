-- What the slot allocator makes of the instructions that rules add: each with loads and stores of slots around it, and
-- the temporaries for its registers.
use Rattle.std.proofs.Common.{◌≡◌, ℕ, suc, ◌+◌, ◌*◌, ◌-◌, ◌≤◌, ◌<◌, List, [], ◌∷◌, ◌++◌, true, length, length-append, refl, ap, ◌∙◌, arith}
use Rattle.std.specs.Prelude.{IsTrue, Bool, ◌||◌}
use Rattle.std.specs.Int.RustNames.{unsigned_abs}
use Rattle.std.proofs.lemmas.Bool.{le-leb, or_left}
use Rattle.vcode.specs.declared.operand.Operand.{Operand}
use Rattle.vcode.specs.VirtualCode.{MCode, AreBelow, NamesBelow, is_virtual}
use Rattle.slot_allocator.specs.Slots.{slot_of, spilled, allotted, AreTemporaries, AreKept, NamesKept}
use Rattle.slot_allocator.specs.SlotCounts.{slots_for, slots_needed}
use Rattle.frame_code.specs.declared.instr.Instr.{Instr}
use Rattle.frame_code.specs.declared.instr.Instr.TheVariants as instr
use Rattle.frame_code.specs.declared.instr.Source.TheVariants as source
use Rattle.mips_rules.specs.Mips.{mips}
use Rattle.mips_target.specs.declared.layout.Layout.{Layout}
use Rattle.mips_target.specs.FunctionCode.{most_handed, argument_words}
use Rattle.vcode.specs.NamesAmong.{NamesAmong}
use Rattle.mips_target.specs.Sizes.{Fits}
use Rattle.mips_target.specs.Generated.{temporaries}
use Rattle.mips_target.proofs.Arguments.{handed_first}
use Rattle.frame_rules.proofs.lemmas.Added.{IsAdded, AddsNumber, AddsRegisters, AddsWithNumber, AddsNegate, AddsArgument, AddsCall, AddsReturn, AreAdded, hands_over, handed_over}

-- an instruction whose registers are virtual, with its loads and stores
abbrev pub put : Instr → List Instr
put (instr.LoadNumber to n) = instr.LoadNumber 8 n ∷ instr.StoreSlot 8 (slot_of to) ∷ []
put (instr.Binary op to from (source.Register r)) = instr.LoadSlot 9 (slot_of from) ∷ instr.LoadSlot 10 (slot_of r) ∷ instr.Binary op 8 9 (source.Register 10) ∷ instr.StoreSlot 8 (slot_of to) ∷ []
put (instr.Binary op to from (source.Number n)) = instr.LoadSlot 9 (slot_of from) ∷ instr.Binary op 8 9 (source.Number n) ∷ instr.StoreSlot 8 (slot_of to) ∷ []
put (instr.Negate to from) = instr.LoadSlot 9 (slot_of from) ∷ instr.Negate 8 9 ∷ instr.StoreSlot 8 (slot_of to) ∷ []
put (instr.Argument from) = instr.LoadSlot 8 (slot_of from) ∷ instr.Argument 8 ∷ []
put (instr.Call to name) = instr.Call 8 name ∷ instr.StoreSlot 8 (slot_of to) ∷ []
put (instr.Return from) = instr.LoadSlot 8 (slot_of from) ∷ instr.Return 8 ∷ []
put i = i ∷ []

abbrev pub put_all : List Instr → List Instr
put_all [] = []
put_all (i ∷ is) = put i ++ put_all is

-- a slot of its own for each register of virtual code, and the layout of the frame for that
abbrev pub allotted_code : MCode Instr → List Instr
allotted_code c = allotted mips temporaries c.code

abbrev pub layout_of : MCode Instr → Layout
layout_of c = record { arguments = argument_words (allotted_code c); slots = slots_needed mips c.code }

virtual : (r : ℕ) → 64 ≤ r → is_virtual r ≡ true
virtual r h = le-leb 64 r h

spilled_is : {named : ℕ → Type 0} {i : Instr} → IsAdded named i → spilled mips temporaries i ≡ put i
spilled_is (AddsNumber to n a w) = let v = virtual to a in rw v refl
spilled_is (AddsRegisters op to from r a b c) = let v = virtual to a in let w = virtual from b in let x = virtual r c in rw (v, w, x) refl
spilled_is (AddsWithNumber op to from n a b) = let v = virtual to a in let w = virtual from b in rw (v, w) refl
spilled_is (AddsNegate to from a b) = let v = virtual to a in let w = virtual from b in rw (v, w) refl
spilled_is (AddsArgument from a) = let v = virtual from a in rw v refl
spilled_is (AddsCall to name a b) = let v = virtual to a in rw v refl
spilled_is (AddsReturn from a) = let v = virtual from a in rw v refl

pub allotted_is : (named : ℕ → Type 0) (code : List Instr) → AreAdded named code → allotted mips temporaries code ≡ put_all code
allotted_is named [] h = refl
allotted_is named (i ∷ is) h = ap (λ l. l ++ allotted mips temporaries is) (spilled_is h.0) ∙ ap (λ l. put i ++ l) (allotted_is named is h.1)

-- ---- registers

pub are_temporaries : AreTemporaries mips temporaries
are_temporaries = (refl, (refl, (refl, tt)))

kept : (r : ℕ) (b : Bool) → 64 ≤ r → IsTrue (is_virtual r || b)
kept r b h = or_left (is_virtual r) b (virtual r h)

kept_one : {named : ℕ → Type 0} {i : Instr} → IsAdded named i → AreKept mips temporaries (mips.operands i)
kept_one (AddsNumber to n a w) = (kept to _ a, tt)
kept_one (AddsRegisters op to from r a b c) = (kept to _ a, (kept from _ b, (kept r _ c, tt)))
kept_one (AddsWithNumber op to from n a b) = (kept to _ a, (kept from _ b, tt))
kept_one (AddsNegate to from a b) = (kept to _ a, (kept from _ b, tt))
kept_one (AddsArgument from a) = (kept from _ a, tt)
kept_one (AddsCall to name a b) = (kept to _ a, tt)
kept_one (AddsReturn from a) = (kept from _ a, tt)

pub names_kept : (named : ℕ → Type 0) (code : List Instr) → AreAdded named code → NamesKept mips temporaries code
names_kept named [] h = tt
names_kept named (i ∷ is) h = (kept_one h.0, names_kept named is h.1)

among_more : {named : ℕ → Type 0} {i : Instr} (is : List Instr) → IsAdded named i → NamesAmong mips temporaries is → NamesAmong mips temporaries (put i ++ is)
among_more is (AddsNumber to n a w) k = ((refl, tt), ((refl, tt), k))
among_more is (AddsRegisters op to from r a b c) k = ((refl, tt), ((refl, tt), ((refl, (refl, (refl, tt))), ((refl, tt), k))))
among_more is (AddsWithNumber op to from n a b) k = ((refl, tt), ((refl, (refl, tt)), ((refl, tt), k)))
among_more is (AddsNegate to from a b) k = ((refl, tt), ((refl, (refl, tt)), ((refl, tt), k)))
among_more is (AddsArgument from a) k = ((refl, tt), ((refl, tt), k))
among_more is (AddsCall to name a b) k = ((refl, tt), ((refl, tt), k))
among_more is (AddsReturn from a) k = ((refl, tt), ((refl, tt), k))

pub names_among : (named : ℕ → Type 0) (code : List Instr) → AreAdded named code → NamesAmong mips temporaries (put_all code)
names_among named [] h = tt
names_among named (i ∷ is) h = among_more (put_all is) h.0 (names_among named is h.1)

-- ---- slots

slots_one : (limit all : ℕ) (os : List Operand) → limit ≤ 64 + all → AreBelow limit os → slots_for os ≤ all
slots_one limit all [] le h = omega arith
slots_one limit all (o ∷ os) le h =
    let a = h.0 in
    let b : slots_for os ≤ all = slots_one limit all os le h.1 in
    omega (arith, le, a, b)

-- where no register from the limit on is named
pub slots_few : (limit all : ℕ) (code : List Instr) → limit ≤ 64 + all → NamesBelow mips limit code → slots_needed mips code ≤ all
slots_few limit all [] le h = omega arith
slots_few limit all (i ∷ is) le h =
    let a : slots_for (mips.operands i) ≤ all = slots_one limit all (mips.operands i) le h.0 in
    let b : slots_needed mips is ≤ all = slots_few limit all is le h.1 in
    omega (arith, a, b)

-- ---- lengths and argument words

long_one : {named : ℕ → Type 0} {i : Instr} → IsAdded named i → length (put i) ≤ 4
long_one (AddsNumber to n a w) = omega arith
long_one (AddsRegisters op to from r a b c) = omega arith
long_one (AddsWithNumber op to from n a b) = omega arith
long_one (AddsNegate to from a b) = omega arith
long_one (AddsArgument from a) = omega arith
long_one (AddsCall to name a b) = omega arith
long_one (AddsReturn from a) = omega arith

pub put_long : (named : ℕ → Type 0) (code : List Instr) → AreAdded named code → length (put_all code) ≤ 4 * length code
put_long named [] h = omega arith
put_long named (i ∷ is) h =
    let a : length (put i) ≤ 4 = long_one h.0 in
    let b : length (put_all is) ≤ 4 * length is = put_long named is h.1 in
    let c : length (put i ++ put_all is) ≡ length (put i) + length (put_all is) = length-append (put i) (put_all is) in
    omega (arith, a, b, c)

-- no more argument words are handed than this
abbrev HandsFew : List Instr → ℕ → Type 0
HandsFew is n = (k : ℕ) → most_handed k is ≤ k + n

hands_more : {named : ℕ → Type 0} {i : Instr} (is : List Instr) (n : ℕ) → IsAdded named i → HandsFew is n → HandsFew (put i ++ is) (hands_over i + n)
hands_more is n (AddsNumber to x a w) h k = let b = h k in omega (arith, b)
hands_more is n (AddsRegisters op to from r a b c) h k = let d = h k in omega (arith, d)
hands_more is n (AddsWithNumber op to from x a b) h k = let d = h k in omega (arith, d)
hands_more is n (AddsNegate to from a b) h k = let d = h k in omega (arith, d)
hands_more is n (AddsArgument from a) h k = let d = h (suc k) in omega (arith, d)
hands_more is n (AddsCall to name a b) h k = let d = h 0 in omega (arith, d)
hands_more is n (AddsReturn from a) h k = let d = h k in omega (arith, d)

pub hands_few : (named : ℕ → Type 0) (code : List Instr) → AreAdded named code → HandsFew (put_all code) (handed_over code)
hands_few named [] h = λ k. omega arith
hands_few named (i ∷ is) h = hands_more (put_all is) (handed_over is) h.0 (hands_few named is h.1)

-- ---- what fits a frame

-- a slot is in the frame where the slots needed are
in_slots : (slots r : ℕ) → 64 ≤ r → r - 63 ≤ slots → unsigned_abs (slot_of r) < slots
in_slots slots r b h = omega (arith, b, h)

module _ (names : List (List ℕ)) (l : Layout) where
  abbrev NamedIn : ℕ → Type 0
  NamedIn name = name < length names

  abbrev FitFrom : List Instr → Type 0
  FitFrom is = (k : ℕ) → most_handed k is ≤ l.arguments → Fits names l k is

  fits_more : {i : Instr} (is : List Instr) → IsAdded NamedIn i → slots_for (mips.operands i) ≤ l.slots → FitFrom is → FitFrom (put i ++ is)
  fits_more is (AddsNumber to n a w) s f k m =
      let u : to - 63 ≤ l.slots = omega (arith, s) in
      ((omega arith, w), ((omega arith, in_slots l.slots to a u), f k (omega (arith, m))))
  fits_more is (AddsRegisters op to from r a b c) s f k m =
      let u : to - 63 ≤ l.slots = omega (arith, s) in
      let v : from - 63 ≤ l.slots = omega (arith, s) in
      let w : r - 63 ≤ l.slots = omega (arith, s) in
      ((omega arith, in_slots l.slots from b v), ((omega arith, in_slots l.slots r c w), ((omega arith, omega arith, omega arith), ((omega arith, in_slots l.slots to a u), f k (omega (arith, m))))))
  fits_more is (AddsWithNumber op to from n a b) s f k m =
      let u : to - 63 ≤ l.slots = omega (arith, s) in
      let v : from - 63 ≤ l.slots = omega (arith, s) in
      ((omega arith, in_slots l.slots from b v), ((omega arith, omega arith, tt), ((omega arith, in_slots l.slots to a u), f k (omega (arith, m)))))
  fits_more is (AddsNegate to from a b) s f k m =
      let u : to - 63 ≤ l.slots = omega (arith, s) in
      let v : from - 63 ≤ l.slots = omega (arith, s) in
      ((omega arith, in_slots l.slots from b v), ((omega arith, omega arith), ((omega arith, in_slots l.slots to a u), f k (omega (arith, m)))))
  fits_more is (AddsArgument from a) s f k m =
      let v : from - 63 ≤ l.slots = omega (arith, s) in
      let h : suc k ≤ most_handed (suc k) is = handed_first (suc k) is in
      ((omega arith, in_slots l.slots from a v), ((omega arith, omega (arith, h, m)), f (suc k) (omega (arith, m))))
  fits_more is (AddsCall to name a b) s f k m =
      let u : to - 63 ≤ l.slots = omega (arith, s) in
      ((omega arith, b), ((omega arith, in_slots l.slots to a u), f 0 (omega (arith, m))))
  fits_more is (AddsReturn from a) s f k m =
      let v : from - 63 ≤ l.slots = omega (arith, s) in
      ((omega arith, in_slots l.slots from a v), (omega arith, f k (omega (arith, m))))

  pub fits : (code : List Instr) → AreAdded NamedIn code → slots_needed mips code ≤ l.slots → FitFrom (put_all code)
  fits [] h s = λ k m. tt
  fits (i ∷ is) h s =
      let a : slots_for (mips.operands i) ≤ l.slots = omega (arith, s) in
      let b : slots_needed mips is ≤ l.slots = omega (arith, s) in
      fits_more (put_all is) h.0 a (fits is h.1 b)
