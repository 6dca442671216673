-- Where a walker on a line ends.
use Rattle.std.proofs.Common.{◌≡◌, ℕ, ◌-◌, ◌<◌, ◌≤◌, Bool, List, [], ◌∷◌, length, refl, sym, subst}
use Rattle.std.specs.Prelude.{MatchBool}
use Rattle.nav_base.specs.declared.point.Point.{Point}
use Rattle.mesh_types.specs.declared.answers.Corner.{Corner}
use Rattle.mesh_types.specs.declared.links.PolyRef.{PolyRef}
use Rattle.mesh_types.specs.declared.mesh.Mesh.{Mesh}
use Rattle.surface_move.specs.Moves.{leg_of}
use Rattle.agent_walks.specs.Marches.{EndsFrom, Stand, TakesPart}
use Rattle.path_follow.specs.Following.{next_on, upto_on}
use Rattle.path_follow.proofs.Standings.{is-beyond, is-reached}

module _ (mesh : Mesh) (polys : List PolyRef) (goal : Point) (stand : Stand) (count : ℕ) (same : count ≡ length polys - 1) where
  -- with a part toward what it makes for, which it does not reach
  pub ends-part : (left : List Corner) (to : ℕ) (end : Point) → stand.budget < leg_of stand.point (next_on goal left)
      → TakesPart mesh polys stand.point stand.place stand.budget (next_on goal left) (upto_on count stand.place left) to end
      → EndsFrom mesh polys goal stand left to end
  ends-part [] to end beyond takes =
      subst (λ (b : Bool). MatchBool b ((to ≡ length polys - 1) × (end ≡ goal))
      (TakesPart mesh polys stand.point stand.place stand.budget goal (length polys - 1) to end)) (sym (is-beyond (leg_of stand.point goal) stand.budget beyond))
      (subst (λ (n : ℕ). TakesPart mesh polys stand.point stand.place stand.budget goal n to end) same takes)
  ends-part (turn ∷ more) to end beyond takes = takes

  -- at the goal, which it reaches past all turns
  pub ends-goal : (left : List Corner) → left ≡ [] → leg_of stand.point goal ≤ stand.budget → EndsFrom mesh polys goal stand left count goal
  ends-goal left none reached =
      subst (λ (l : List Corner). EndsFrom mesh polys goal stand l count goal) (sym none)
      (subst (λ (b : Bool). MatchBool b ((count ≡ length polys - 1) × (goal ≡ goal))
      (TakesPart mesh polys stand.point stand.place stand.budget goal (length polys - 1) count goal)) (sym (is-reached (leg_of stand.point goal) stand.budget reached))
      (same, refl))
