-- The links of the host's array, one by one.
use Rattle.std.proofs.Common.{pos}
use Rattle.nav_handle.specs.declared.wire.NavdLink.{NavdLink}

abbrev pub no_link : NavdLink
no_link = record {
  from = record { tile = 0; index = 0 };
  edge = 0;
  to = record { tile = 0; index = 0 };
  left = record { x = pos 0; z = pos 0 };
  right = record { x = pos 0; z = pos 0 };
}
