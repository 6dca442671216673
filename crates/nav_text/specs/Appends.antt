-- What a call appends to the bytes that are written so far.
use Rattle.std.specs.Prelude.{◌≡◌, ℕ, ◌+◌, ◌≤◌, List, ◌++◌, length, take, Result, IsOk, OnOk, OnErr, vec_len, vec_capacity}
use Rattle.std.specs.declared.alloc.Global.{Global}
use Rattle.std.specs.declared.vec.Vec.{Vec}

-- all of the text is appended, or, where memory is refused, the bytes from before still stand in front; where there is room for all of it, it
-- is appended; and no room is lost
pub record Appends {T E : Type 0} (old new : Vec ℕ Global) (result : Result T E) (text : List ℕ) : Type 0 where
  pub ok : OnOk result (new.items ≡ old.items ++ text)
  pub err : OnErr result (take (vec_len old) new.items ≡ old.items)
  pub room : vec_len old + length text ≤ vec_capacity old → IsOk result
  pub capacity : vec_capacity old ≤ vec_capacity new
