-- What a `&` to it holds says the same to every thread.
use denote.Param.Send.{IsSend, IsSync, part_keyless, owning_send, view_sync}
use Rattle.nav_ground.specs.contracts.field.PastField as past
use Rattle.nav_ground.specs.contracts.field.PastField.TheInside as inside

kept : IsSend inside.the_row
kept = owning_send inside.the_type tt (λ d. tt) (λ k d w. tt)

pub sync : IsSync past.the_row
sync = view_sync inside.the_row _ _ _ _ (record { shared = λ d b o κ q. part_keyless inside.the_row kept q d b o })
