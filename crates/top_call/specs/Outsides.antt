-- The outside of a run at one moment: the source that it reads from and the sink that it writes to.
use Rattle.std.specs.Prelude.{ℕ, List, Option}

pub record Outside : Type 0 where
  -- the bytes that the source has left, where it tells them, and how many of its reads have failed
  pub left : Option (List ℕ)
  pub read_faults : ℕ
  -- the bytes that the sink holds, where it tells them, and how many of its writes have failed
  pub held : Option (List ℕ)
  pub write_faults : ℕ

-- the outside, as a source and a sink tell it
abbrev pub outside_of : (left : Option (List ℕ)) (read_faults : ℕ) (held : Option (List ℕ)) (write_faults : ℕ) → Outside
outside_of left read_faults held write_faults = record { left = left; read_faults = read_faults; held = held; write_faults = write_faults }
