-- That allocated code has the runs of virtual code: a forward simulation. As each code has one run from a state, it
-- says what every run of the allocated code comes to.
use Rattle.std.specs.Prelude.{◌≡◌, ℕ, ◌≤◌, ◌&&◌, not, Bool, List, IsTrue}
use Rattle.forests.specs.Bodies.{Setting}
use Rattle.vcode.specs.Machines.{Machine}
use Rattle.vcode.specs.Execution.{State, executed}
use Rattle.vcode.specs.VirtualCode.{is_virtual, among}

-- a machine register that is none of these, and which the slot instructions keep
abbrev pub is_kept : {I : Type 0} → Machine I → List ℕ → ℕ → Bool
is_kept m ts r = (not (is_virtual r) && not (m.scratch r)) && not (among r ts)

-- The states are at one point, and alike in the machine registers that are kept. Virtual registers, those that hold
-- values of the code, what slot instructions lose, and spill slots may differ.
pub record AreAlike {I : Type 0} (m : Machine I) (ts : List ℕ) (v c : State) : Type 0 where
  pub points : v.point ≡ c.point
  pub registers : (r : ℕ) → IsTrue (is_kept m ts r) → v.registers r ≡ c.registers r

-- In every setting, from alike states, and for every n: some number of steps of the allocated code, n or more, come to
-- the outcome of n steps of the code.
pub record Follows {I : Type 0} (m : Machine I) (ts : List ℕ) (code allocated : List I) : Type 0 where
  pub runs : (s : Setting) (n : ℕ) (v c : State) → AreAlike m ts v c → (k : ℕ) × (n ≤ k) × (executed m s allocated k allocated c ≡ executed m s code n code v)
