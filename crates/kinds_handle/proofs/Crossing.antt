-- What a handle owns may cross threads where its value may.
use Rattle.std.proofs.Common.{ℕ, zero, suc, Option, Some, None}
use mir.Raw.{raw as bare}
use base.Shift.{Keyless}
use denote.RattleType.{RattleType}
use denote.Memory.{lone}
use denote.RawPtr.{Ptr}
use denote.Param.Send.{IsSend}
use Rattle.std.specs.declared.alloc.Global.{Global}
use Rattle.std.proofs.Crossing.{frees}
use Rattle.std_alloc.proofs.SendSync.{lies}
use Rattle.nav_handle.specs.Handles.{owns_for}

pub held_keyless : (R : RattleType) → IsSend R → (n : ℕ) (a : Global) (p : Ptr) (x : Option R.Denot) → Keyless (owns_for R n a p x)
held_keyless R sent zero a p None = tt
held_keyless R sent zero a p (Some y) = tt
held_keyless R sent (suc more) a p None = tt
held_keyless R sent (suc more) a p (Some y) = (lies R sent p y, frees.frees a (bare (lone R.mir)) p)
