-- What the ground and the entries of each version keep.
use Rattle.std.specs.Prelude.{List, All}
use Rattle.nav_ground.specs.declared.history.Entry.{Entry}
use Rattle.nav_ground.specs.declared.history.Ground.{Ground}
use Rattle.nav_ground.specs.Grounds.{IsGround}
use Rattle.nav_ground.specs.History.{IsRequest}

-- a ground keeps the rules of grounds, and each entry asks for what may be asked for: its shape is within the limits
pub record KeepRules (ground : Ground) (entries : List Entry) : Type 0 where
  pub level : IsGround ground
  pub requests : All (λ (entry : Entry). IsRequest entry.request) entries
