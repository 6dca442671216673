use Rattle.nav_handle.proofs.hops.find_hop.Goals as goal

-- the handle was left alone
pub returns-then-not-may_hop-clause-same : goal.returns-then-not-may_hop-clause-same
returns-then-not-may_hop-clause-same g c = g.met.H.HasMesh.untouched _
