-- What a handle holds says the same to every thread, and so does the right to free its block.
use denote.Param.Send.{IsSend, AllSend, owning_send, struct_send, sendable}
use denote.Struct.Struct.{exits_of}
use denote.Struct.Owning.{shape, fields, to}
use Rattle.std_alloc.proofs.SendSync.{quiet}
use Rattle.kinds_handle.proofs.Crossing.{held_keyless}
use Rattle.agent_kinds.specs.contracts.kinds.Kinds as held
use Rattle.agent_kinds.proofs.kinds.Kinds.TheSendSync as crossing
use Rattle.kinds_handle.specs.contracts.handle.NavdKinds.{the_row, the_type}

parts_send : AllSend (fields the_type)
parts_send = search sendable depth 20

pub send : IsSend the_row
send = owning_send the_type parts_send (λ d. held_keyless held.the_row crossing.the_send d.full d.alloc d.at d.kinds)
    (λ k. quiet (to the_type) (exits_of k (fields the_type)) ((struct_send (shape the_type) parts_send).leaving k))
