-- What is right for a question is determined: its kind, its floors, its first polygon and its cost, and all of the answer to a ray.
use Rattle.std.proofs.Common.{◌≡◌, ℕ, refl, sym, subst, ◌∙◌, inl, inr, arith}
use Rattle.nav_base.specs.declared.point.Point.{Point}
use Rattle.nav_base.specs.declared.point.Question.{Question}
use Rattle.nav_base.specs.declared.point.Question.TheVariants as questions
use Rattle.mesh_types.specs.declared.answers.Answer.{Answer}
use Rattle.mesh_types.specs.declared.answers.Answer.TheVariants.{Floors, Path, NoStart, NoGoal, NoPath, Reached, Wall}
use Rattle.mesh_types.specs.declared.answers.PathFound.{PathFound}
use Rattle.mesh_types.specs.declared.answers.RayAnswer.{RayAnswer}
use Rattle.mesh_types.specs.declared.answers.RayAnswer.TheVariants as rays
use Rattle.mesh_types.specs.declared.links.PolyRef.{PolyRef}
use Rattle.mesh_types.specs.declared.mesh.Mesh.{Mesh}
use Rattle.mesh_types.specs.declared.answers.Corridor.{Corridor}
use Rattle.mesh_types.specs.Corridors.{IsCheapest, WalksTo}
use Rattle.mesh_types.specs.Located.{IsLocated, IsNoLater, height_gap}
use Rattle.mesh_types.specs.Rays.{IsRayWalk}
use Rattle.mesh_types.specs.Right.{AreAlike, HasNoPath, IsPath, IsRay, IsRight, IsRightFloors, IsRightPath, IsRightRay}
use Rattle.mesh_types.proofs.RayLaws.{one_ray_walk}

-- of two polygons each is no later than the other
no_later_both : (m n : ℕ) (a b : PolyRef) → IsNoLater m a n b → IsNoLater n b m a → a ≡ b
no_later_both m n a b (inl less) (inl more) = absurd (omega (arith, less, more))
no_later_both m n a b (inl less) (inr same) = absurd (omega (arith, less, same.0))
no_later_both m n a b (inr same) (inl more) = absurd (omega (arith, same.0, more))
no_later_both m n a b (inr (same, inl less)) (inr (same', inl more)) = absurd (omega (arith, less, more))
no_later_both m n a b (inr (same, inl less)) (inr (same', inr more)) = absurd (omega (arith, less, more.0))
no_later_both m n a b (inr (same, inr less)) (inr (same', inl more)) = absurd (omega (arith, less.0, more))
no_later_both m n a b (inr (same, inr less)) (inr (same', inr more)) =
    let index : a.index ≡ b.index = omega (arith, less.1, more.1) in λ i. record { tile = less.0 i; index = index i }

-- one polygon at most locates a place
pub one_located : (mesh : Mesh) (p : Point) (y : ℕ) (a b : PolyRef) → IsLocated mesh p y a → IsLocated mesh p y b → a ≡ b
one_located mesh p y a b is is' =
    no_later_both (height_gap is.holding.polygon y) (height_gap is'.holding.polygon y) a b (is.first b is'.holding) (is'.first a is.holding)

-- two corridors between the same polygons cost the same
one_cost : (mesh : Mesh) (from to : PolyRef) (a b : Corridor) → IsCheapest mesh from to a → IsCheapest mesh from to b → a.cost ≡ b.cost
one_cost mesh from to a b is is' = omega (arith, is.least b.links is'.walks, is'.cost, is'.least a.links is.walks, is.cost)

both_paths : (mesh : Mesh) (from : Point) (from_y : ℕ) (to : Point) (to_y : ℕ) (a b : PathFound) → IsPath mesh from from_y to to_y a
    → IsPath mesh from from_y to to_y b → (a.first ≡ b.first) × (a.cost ≡ b.cost)
both_paths mesh from from_y to to_y a b is is' =
    let first = one_located mesh from from_y a.first b.first is.start is'.start in
    let last = one_located mesh to to_y is.last is'.last is.goal is'.goal in (
      first,
      one_cost mesh b.first is'.last (record { cost = a.cost; links = a.links }) (record { cost = b.cost; links = b.links })
          (subst (λ (at : PolyRef). IsCheapest mesh at is'.last (record { cost = a.cost; links = a.links })) first
          (subst (λ (at : PolyRef). IsCheapest mesh a.first at (record { cost = a.cost; links = a.links })) last is.cheapest)) is'.cheapest,
    )

-- where no walk joins the two places, there is no path
no_walk_there : (mesh : Mesh) (from : Point) (from_y : ℕ) (to : Point) (to_y : ℕ) (found : PathFound) → HasNoPath mesh from from_y to to_y
    → IsPath mesh from from_y to to_y found → ⊥
no_walk_there mesh from from_y to to_y found none is =
    let first = one_located mesh from from_y found.first none.first is.start none.start in
    let last = one_located mesh to to_y is.last none.last is.goal none.goal in
    none.no_walk found.links (subst (λ (at : PolyRef). WalksTo mesh at found.links none.last) first
    (subst (λ (at : PolyRef). WalksTo mesh found.first found.links at) last is.cheapest.walks))

-- right answers to one question for a path are alike
alike_paths : (mesh : Mesh) (from : Point) (from_y : ℕ) (to : Point) (to_y : ℕ) (a b : Answer) → IsRightPath mesh from from_y to to_y a
    → IsRightPath mesh from from_y to to_y b → AreAlike a b
alike_paths mesh from from_y to to_y NoStart NoStart r s = tt
alike_paths mesh from from_y to to_y NoStart NoGoal r s = absurd (r s.first s.start.holding)
alike_paths mesh from from_y to to_y NoStart NoPath r s = absurd (r s.first s.start.holding)
alike_paths mesh from from_y to to_y NoStart (Path g) r s = absurd (r g.first s.start.holding)
alike_paths mesh from from_y to to_y NoStart (Floors floors) r s = absurd s
alike_paths mesh from from_y to to_y NoStart (Reached at) r s = absurd s
alike_paths mesh from from_y to to_y NoStart (Wall u v m n) r s = absurd s
alike_paths mesh from from_y to to_y NoGoal NoStart r s = absurd (s r.first r.start.holding)
alike_paths mesh from from_y to to_y NoGoal NoGoal r s = tt
alike_paths mesh from from_y to to_y NoGoal NoPath r s = absurd (r.no_goal s.last s.goal.holding)
alike_paths mesh from from_y to to_y NoGoal (Path g) r s = absurd (r.no_goal s.last s.goal.holding)
alike_paths mesh from from_y to to_y NoGoal (Floors floors) r s = absurd s
alike_paths mesh from from_y to to_y NoGoal (Reached at) r s = absurd s
alike_paths mesh from from_y to to_y NoGoal (Wall u v m n) r s = absurd s
alike_paths mesh from from_y to to_y NoPath NoStart r s = absurd (s r.first r.start.holding)
alike_paths mesh from from_y to to_y NoPath NoGoal r s = absurd (s.no_goal r.last r.goal.holding)
alike_paths mesh from from_y to to_y NoPath NoPath r s = tt
alike_paths mesh from from_y to to_y NoPath (Path g) r s = absurd (no_walk_there mesh from from_y to to_y g r s)
alike_paths mesh from from_y to to_y NoPath (Floors floors) r s = absurd s
alike_paths mesh from from_y to to_y NoPath (Reached at) r s = absurd s
alike_paths mesh from from_y to to_y NoPath (Wall u v m n) r s = absurd s
alike_paths mesh from from_y to to_y (Path f) NoStart r s = absurd (s f.first r.start.holding)
alike_paths mesh from from_y to to_y (Path f) NoGoal r s = absurd (s.no_goal r.last r.goal.holding)
alike_paths mesh from from_y to to_y (Path f) NoPath r s = absurd (no_walk_there mesh from from_y to to_y f s r)
alike_paths mesh from from_y to to_y (Path f) (Path g) r s = both_paths mesh from from_y to to_y f g r s
alike_paths mesh from from_y to to_y (Path f) (Floors floors) r s = absurd s
alike_paths mesh from from_y to to_y (Path f) (Reached at) r s = absurd s
alike_paths mesh from from_y to to_y (Path f) (Wall u v m n) r s = absurd s
alike_paths mesh from from_y to to_y (Floors floors) b r s = absurd r
alike_paths mesh from from_y to to_y (Reached at) b r s = absurd r
alike_paths mesh from from_y to to_y (Wall u v m n) b r s = absurd r

-- right answers to one question for the floors of a column are equal
pub alike_floors : (mesh : Mesh) (x z : ℕ) (a b : Answer) → IsRightFloors mesh x z a → IsRightFloors mesh x z b → AreAlike a b
alike_floors mesh x z (Floors floors) (Floors floors') r s = r ∙ sym s
alike_floors mesh x z (Floors floors) NoStart r s = absurd s
alike_floors mesh x z (Floors floors) NoGoal r s = absurd s
alike_floors mesh x z (Floors floors) NoPath r s = absurd s
alike_floors mesh x z (Floors floors) (Path g) r s = absurd s
alike_floors mesh x z (Floors floors) (Reached at) r s = absurd s
alike_floors mesh x z (Floors floors) (Wall u v m n) r s = absurd s
alike_floors mesh x z NoStart b r s = absurd r
alike_floors mesh x z NoGoal b r s = absurd r
alike_floors mesh x z NoPath b r s = absurd r
alike_floors mesh x z (Path f) b r s = absurd r
alike_floors mesh x z (Reached at) b r s = absurd r
alike_floors mesh x z (Wall u v m n) b r s = absurd r

-- ---- rays

-- right answers to one question for a ray are equal
one_ray : (mesh : Mesh) (from : Point) (from_y : ℕ) (to : Point) (a b : RayAnswer) → IsRay mesh from from_y to a → IsRay mesh from from_y to b → a ≡ b
one_ray mesh from from_y to a b is is' =
    one_ray_walk mesh is'.first from to a b
    (subst (λ (at : PolyRef). IsRayWalk mesh at from to a) (one_located mesh from from_y is.first is'.first is.start is'.start) is.walk) is'.walk

-- the same answers, as answers to questions
abbrev as_answer : RayAnswer → Answer
as_answer (rays.Reached at) = Reached at
as_answer (rays.Wall a b num den) = Wall a b num den

same_rays : (a b : RayAnswer) → a ≡ b → AreAlike (as_answer a) (as_answer b)
same_rays a b same = subst (λ (c : RayAnswer). AreAlike (as_answer a) (as_answer c)) same (itself a)
  where
    itself : (c : RayAnswer) → AreAlike (as_answer c) (as_answer c)
    itself (rays.Reached at) = refl
    itself (rays.Wall u v m n) = (refl, refl, refl, refl)

alike_rays : (mesh : Mesh) (from : Point) (from_y : ℕ) (to : Point) (a b : Answer) → IsRightRay mesh from from_y to a → IsRightRay mesh from from_y to b
    → AreAlike a b
alike_rays mesh from from_y to NoStart NoStart r s = tt
alike_rays mesh from from_y to NoStart (Reached at) r s = absurd (r s.first s.start.holding)
alike_rays mesh from from_y to NoStart (Wall u v m n) r s = absurd (r s.first s.start.holding)
alike_rays mesh from from_y to NoStart NoGoal r s = absurd s
alike_rays mesh from from_y to NoStart NoPath r s = absurd s
alike_rays mesh from from_y to NoStart (Path g) r s = absurd s
alike_rays mesh from from_y to NoStart (Floors floors) r s = absurd s
alike_rays mesh from from_y to (Reached at) NoStart r s = absurd (s r.first r.start.holding)
alike_rays mesh from from_y to (Reached at) (Reached at') r s = same_rays _ _ (one_ray mesh from from_y to (rays.Reached at) (rays.Reached at') r s)
alike_rays mesh from from_y to (Reached at) (Wall u v m n) r s = same_rays _ _ (one_ray mesh from from_y to (rays.Reached at) (rays.Wall u v m n) r s)
alike_rays mesh from from_y to (Reached at) NoGoal r s = absurd s
alike_rays mesh from from_y to (Reached at) NoPath r s = absurd s
alike_rays mesh from from_y to (Reached at) (Path g) r s = absurd s
alike_rays mesh from from_y to (Reached at) (Floors floors) r s = absurd s
alike_rays mesh from from_y to (Wall u v m n) NoStart r s = absurd (s r.first r.start.holding)
alike_rays mesh from from_y to (Wall u v m n) (Reached at) r s = same_rays _ _ (one_ray mesh from from_y to (rays.Wall u v m n) (rays.Reached at) r s)
alike_rays mesh from from_y to (Wall u v m n) (Wall u' v' m' n') r s =
    same_rays _ _ (one_ray mesh from from_y to (rays.Wall u v m n) (rays.Wall u' v' m' n') r s)
alike_rays mesh from from_y to (Wall u v m n) NoGoal r s = absurd s
alike_rays mesh from from_y to (Wall u v m n) NoPath r s = absurd s
alike_rays mesh from from_y to (Wall u v m n) (Path g) r s = absurd s
alike_rays mesh from from_y to (Wall u v m n) (Floors floors) r s = absurd s
alike_rays mesh from from_y to NoGoal b r s = absurd r
alike_rays mesh from from_y to NoPath b r s = absurd r
alike_rays mesh from from_y to (Path f) b r s = absurd r
alike_rays mesh from from_y to (Floors floors) b r s = absurd r

-- right answers to one question are alike
pub alike : (mesh : Mesh) (question : Question) (a b : Answer) → IsRight mesh question a → IsRight mesh question b → AreAlike a b
alike mesh (questions.Floor x z) a b r s = alike_floors mesh x z a b r s
alike mesh (questions.Path from from_y to to_y) a b r s = alike_paths mesh from from_y to to_y a b r s
alike mesh (questions.Ray from from_y to) a b r s = alike_rays mesh from from_y to a b r s
