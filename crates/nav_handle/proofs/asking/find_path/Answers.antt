use Rattle.nav_handle.proofs.asking.find_path.Goals as goal

-- the handle was left alone
pub returns-then-not-is_way-clause-same : goal.returns-then-not-is_way-clause-same
returns-then-not-is_way-clause-same g c = g.met.H.HasMesh.untouched _
