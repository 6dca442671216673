use Rattle.std.proofs.Common.{◌≡◌, replicate}
use Rattle.nav_version.specs.Pairs.{first_eye}
use Rattle.nav_version.proofs.press.Press.eyes.Given as goal

-- the press is as it was, and each eye so far knows what it has published
abbrev pub invariant-loop : goal.invariant-loop
invariant-loop l = (l.self ≡ l.fn.self) × (l.eyes.items ≡ replicate l.counter (first_eye l.fn.self))
