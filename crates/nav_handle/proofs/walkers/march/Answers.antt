use Rattle.nav_handle.proofs.walkers.march.Goals as goal

-- the handle was left alone
pub returns-then-not-may_march-clause-same : goal.returns-then-not-may_march-clause-same
returns-then-not-may_march-clause-same g c = g.met.H.HasMesh.untouched _
