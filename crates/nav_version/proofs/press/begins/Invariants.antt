use Rattle.std.proofs.Common.{◌≡◌, ◌≤◌, length, take}
use Rattle.nav_version.proofs.press.begins.Given as goal

-- the entries so far stand at the front
abbrev pub invariant-loop-i : goal.invariant-loop-i
invariant-loop-i l = (l.i ≤ length l.entries) × (take l.i l.entries ≡ take l.i l.first)
