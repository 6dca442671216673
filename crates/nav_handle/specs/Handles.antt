-- What a handle owns: nothing where it is empty, else a value on the heap and the right to free its block.
use Rattle.std.specs.Prelude.{ℕ, zero, suc, Option, Some, None}
use base.Fml.{Fml, feq, ftrue}
use denote.RattleType.{RattleType}
use denote.RawPtr.{Ptr}
use Rattle.std_alloc.specs.Box.Ownership.{box_owns}
use Rattle.std.specs.declared.alloc.Global.{Global}
use Rattle.std.specs.contracts.impls.GlobalAllocator.TheImpl.{ghosts}

abbrev pub owns_for : (R : RattleType) → ℕ → Global → Ptr → Option R.Denot → Fml
owns_for R zero heap at None = ftrue
owns_for R (suc more) heap at (Some value) = box_owns (ghosts.dealloc_token heap) R at value
owns_for R zero heap at (Some value) = feq ℕ 0 1
owns_for R (suc more) heap at None = feq ℕ 0 1
