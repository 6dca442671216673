-- It owns nothing, which says the same to every thread.
use denote.Param.Send.{IsSend, owning_send, view_send}
use Rattle.nav_ground.specs.contracts.field.PastField as past
use Rattle.nav_ground.specs.contracts.field.PastField.TheInside as inside

pub send : IsSend past.the_row
send = view_send inside.the_row _ _ _ _ (owning_send inside.the_type tt (λ d. tt) (λ k d w. tt))
