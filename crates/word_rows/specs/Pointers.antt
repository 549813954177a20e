-- Addresses and moves of pointers: a machine adds and subtracts modulo 2^32.
-- Source: ISO/IEC 9899:1990, 6.3.6; Fraser and Hanson, A Retargetable C Compiler, chapters 5 and 13.
use Rattle.std.specs.Prelude.{◌≡◌, ◌<◌, ℕ, ℤ, ◌+◌, ◌%◌, ◌^◌, false, List, Some}
use Rattle.objects.specs.declared.operators.Binary.TheVariants.{Add, Subtract}
use Rattle.objects.specs.declared.value.Value.{Value}
use Rattle.objects.specs.Arithmetic.{binary_word}
use Rattle.op_forest.specs.Frames.{IsFrame}
use Rattle.op_forest.specs.declared.sym.Sym.TheVariants as sym
use Rattle.forests.specs.Words.{Word, Plain, number_of}
use Rattle.forests.specs.Objects.{Object}
use Rattle.forests.specs.Addresses.{Environment, Home, moved_from, named, local, parameter}
use Rattle.forests.specs.Numbers.{moved_on, moved_back, difference}
use Rattle.memory_map.specs.Maps.{Map, IsWord}
use Rattle.memory_map.specs.Frames.{ReachDown, IsHomed}

-- a number of a machine and a signed one
abbrev pub moved_number : ℕ → ℤ → ℕ
moved_number h z = (h + number_of z) % 2 ^ 32

abbrev pub NamesMove : Type 0
NamesMove =
    (map : Map) (objects : List Object) (v : Value) (by : ℤ) (u : Word) (h : ℕ)
    → h < 2 ^ 32 → IsWord map (Plain v) h → moved_from objects (Some v) by ≡ Some u
    → IsWord map u (moved_number h by)

-- the address of a name, or of a label of the function itself
abbrev pub NamesAreAt : Type 0
NamesAreAt =
    (map : Map) (e : Environment) (objects : List Object) (name : ℕ) (offset : ℤ) (u : Word)
    (v : Value) (h : ℕ)
    → e.global name ≡ Some v → h < 2 ^ 32 → IsWord map (Plain v) h
    → named e objects (sym.Global name offset) ≡ Some u
    → IsWord map u (moved_number h offset)

abbrev pub LabelsAreAt : Type 0
LabelsAreAt =
    (map : Map) (e : Environment) (objects : List Object) (l : ℕ) (u : Word)
    → named e objects (sym.Label l) ≡ Some u → IsWord map u (map.label e.home.function l)

-- the address of a place in a slot of the body's own, by its offset from the frame's top
abbrev pub LocalsAreAt : Type 0
LocalsAreAt =
    (map : Map) (home : Home) (top words_at : ℕ) (offset : ℤ) (u : Word)
    → IsHomed map home top words_at → IsFrame home.slots → ReachDown top home.slots
    → local home (Some offset) ≡ Some u
    → IsWord map u (moved_number top offset)

-- and in a parameter word, by its offset from the first
abbrev pub ParametersAreAt : Type 0
ParametersAreAt =
    (map : Map) (home : Home) (top words_at : ℕ) (offset : ℤ) (u : Word)
    → IsHomed map home top words_at → parameter home (Some offset) ≡ Some u
    → IsWord map u (moved_number words_at offset)

-- a pointer moved by a number of bytes, on and back
abbrev pub PointersMoveOn : Type 0
PointersMoveOn =
    (map : Map) (objects : List Object) (v w u : Word) (x y : ℕ)
    → x < 2 ^ 32 → y < 2 ^ 32 → IsWord map v x → IsWord map w y → moved_on objects v w ≡ Some u
    → IsWord map u (binary_word false Add x y)

abbrev pub PointersMoveBack : Type 0
PointersMoveBack =
    (map : Map) (objects : List Object) (v w u : Word) (x y : ℕ)
    → x < 2 ^ 32 → y < 2 ^ 32 → IsWord map v x → IsWord map w y → moved_back objects v w ≡ Some u
    → IsWord map u (binary_word false Subtract x y)

-- the difference of two numbers, or of two pointers
abbrev pub DifferencesAre : Type 0
DifferencesAre =
    (map : Map) (objects : List Object) (v w u : Word) (x y : ℕ)
    → x < 2 ^ 32 → y < 2 ^ 32 → IsWord map v x → IsWord map w y → difference objects v w ≡ Some u
    → IsWord map u (binary_word false Subtract x y)
