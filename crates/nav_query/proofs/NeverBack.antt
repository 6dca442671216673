-- A corridor of least cost never leads straight back: no link of it enters the polygon that the link before it left.
use Rattle.std.proofs.Common.{◌≡◌, ℕ, zero, suc, ◌<◌, List, [], ◌∷◌, length, subst, ◌∙◌, arith}
use Rattle.nav_ground.specs.Limits.{IsSetting}
use Rattle.mesh_types.specs.declared.answers.Corridor.{Corridor}
use Rattle.mesh_types.specs.declared.links.Link.{Link}
use Rattle.mesh_types.specs.declared.links.PolyRef.{PolyRef}
use Rattle.mesh_types.specs.declared.mesh.Mesh.{Mesh}
use Rattle.mesh_types.specs.Corridors.{WalksTo, IsCheapest}
use Rattle.mesh_types.specs.Soundness.{IsSound}
use Rattle.mesh_types.proofs.WalkChains.{link_at}
use Rattle.nav_query.proofs.FewLinks.{IsLeast, cost_of-cons, least_rest, some_weight}

least_never_back : (mesh : Mesh) (from to : PolyRef) (links : List Link) → IsSound mesh → IsSetting mesh.setting → WalksTo mesh from links to
    → IsLeast mesh from links to → (m : ℕ) → suc m < length links → (link_at links (suc m)).to ≡ (link_at links m).from → ⊥
unfolding IsLeast
least_never_back mesh from to [] sound setting walk least m there back = omega (arith, there)
least_never_back mesh from to (link ∷ []) sound setting walk least m there back = omega (arith, there)
least_never_back mesh from to (link ∷ other ∷ links) sound setting walk least zero there back =
    let rest : WalksTo mesh from links to = subst (λ (at : PolyRef). WalksTo mesh at links to) (back ∙ walk.1) walk.2.2 in
    omega (
      arith,
      least links rest,
      some_weight mesh link sound setting walk.0,
      cost_of-cons mesh link (other ∷ links),
      cost_of-cons mesh other links,
    )
least_never_back mesh from to (link ∷ other ∷ links) sound setting walk least (suc m) there back =
    least_never_back mesh link.to to (other ∷ links) sound setting walk.2 (least_rest mesh from to link (other ∷ links) walk least) m (omega (arith, there)) back

pub never_back : (mesh : Mesh) (from to : PolyRef) (corridor : Corridor) → IsSound mesh → IsSetting mesh.setting → IsCheapest mesh from to corridor
    → (m : ℕ) → suc m < length corridor.links → (link_at corridor.links (suc m)).to ≡ (link_at corridor.links m).from → ⊥
unfolding IsLeast
never_back mesh from to corridor sound setting cheapest m there back =
    least_never_back mesh from to corridor.links sound setting cheapest.walks
    (λ other walk. omega (arith, cheapest.least other walk, cheapest.cost)) m there back
