-- The goals that polygons hold: how they are gathered, and what a search for those at which walks may end says of all of them.
use Rattle.std.proofs.Common.{◌≡◌, ℕ, ◌+◌, ◌<◌, ◌≤◌, true, false, List, [], ◌∷◌, ◌++◌, length, take, sym, subst, ap, ◌∙◌, inl, inr, arith}
use Rattle.std.specs.Prelude.{All, Contains, slice_index_or}
use Rattle.std.specs.List.{filter}
use Rattle.std.proofs.lemmas.Bool.{cases_eq}
use Rattle.std.proofs.lemmas.List.{map-append}
use Rattle.std.proofs.lemmas.List.Elements.{All-contains, All-map, All-nil, All-push, All-weaker, Contains-append_left, Contains-get_or, Contains-push}
use Rattle.mesh_types.specs.declared.links.Link.{Link}
use Rattle.mesh_types.specs.declared.links.PolyRef.{PolyRef}
use Rattle.mesh_types.specs.declared.mesh.Mesh.{Mesh}
use Rattle.mesh_types.specs.Located.{IsLocated}
use Rattle.mesh_types.specs.Right.{IsNowhere}
use Rattle.mesh_types.proofs.RightLaws.{one_located}
use Rattle.graph_search.specs.declared.exploring.Limits.{Limits}
use Rattle.graph_search.proofs.Members.{contains_none}
use Rattle.corridor_search.specs.MeshGraphs.{IsThere}
use Rattle.path_queries.specs.declared.filters.Filter.{Filter}
use Rattle.path_queries.specs.declared.nearest.Goal.{Goal}
use Rattle.path_queries.specs.declared.nearest.HeldGoal.{HeldGoal}
use Rattle.path_queries.specs.declared.reach.Reach.{Reach}
use Rattle.path_queries.specs.declared.reach.Reach.TheVariants.{Found, Limit, Apart}
use Rattle.path_queries.specs.Filters.{AllowedTo}
use Rattle.path_queries.specs.FilteredGraphs.{leads_on}
use Rattle.path_queries.specs.HeldGoals.{AreHeldGoals, IsHeldOrNowhere, is_open_goal, polygons_held, polygons_open}
use Rattle.path_queries.specs.NearestGoals.{IsGoalIn, goal_at}
use Rattle.path_queries.specs.Reaches.{IsReach}
use Rattle.path_queries.proofs.AllowedWalks.{end-on}
use Rattle.path_queries.proofs.FilteredLinks.{start-on}
use Rattle.path_queries.proofs.FilteredMaps.{contains-image, contains-passing, image-kept}
use Rattle.path_queries.proofs.KeptEntries.{taken-kept, taken-left}
use Rattle.path_queries.proofs.MappedLists.{contains-mapped}
use Rattle.path_queries.proofs.WayParts.{located-there}

-- of the first goals
pub record AreHeldBefore (mesh : Mesh) (goals : List Goal) (count : ℕ) (held : List HeldGoal) : Type 0 where
  pub each : All (λ (goal : HeldGoal). IsGoalIn mesh goals goal.which goal.at) held
  pub all : (which : ℕ) → which < count → IsHeldOrNowhere mesh goals held which

module _ (mesh : Mesh) (goals : List Goal) where
  pub held-none : AreHeldBefore mesh goals 0 []
  held-none = record { each = All-nil (λ (goal : HeldGoal). IsGoalIn mesh goals goal.which goal.at); all = λ which below. absurd (omega (arith, below)) }

  -- a goal more that is held
  pub held-more : (count : ℕ) (held : List HeldGoal) (at : PolyRef) → count < length goals
      → IsLocated mesh (goal_at goals count).point (goal_at goals count).y at → AreHeldBefore mesh goals count held
      → AreHeldBefore mesh goals (count + 1) (held ++ record { which = count; at = at } ∷ [])
  held-more count held at there located before = record {
    each = All-push (λ (goal : HeldGoal). IsGoalIn mesh goals goal.which goal.at) held one before.each (record { there = there; located = located });
    all = all';
  }
    where
      one : HeldGoal
      one = record { which = count; at = at }

      all' : (which : ℕ) → which < count + 1 → IsHeldOrNowhere mesh goals (held ++ record { which = count; at = at } ∷ []) which
      all' which below =
          elim (cases_eq which count) [
            | inl last ↦
                inr (
                  at,
                  subst (λ (n : ℕ). Contains (held ++ record { which = count; at = at } ∷ []) (record { which = n; at = at })) (sym last)
                      (Contains-push held (record { which = count; at = at })),
                )
            | inr earlier ↦
                elim (before.all which (omega (arith, below, earlier))) [
                  | inl nowhere ↦ inl nowhere
                  | inr has ↦
                      inr (has.0, Contains-append_left held (record { which = count; at = at } ∷ []) (record { which = which; at = has.0 }) has.1)
                ]
          ]

  -- a goal more that is not
  pub held-less : (count : ℕ) (held : List HeldGoal) → IsNowhere mesh (goal_at goals count).point (goal_at goals count).y
      → AreHeldBefore mesh goals count held → AreHeldBefore mesh goals (count + 1) held
  held-less count held none before = record { each = before.each; all = all' }
    where
      all' : (which : ℕ) → which < count + 1 → IsHeldOrNowhere mesh goals held which
      all' which below =
          elim (cases_eq which count) [
            | inl last ↦ inl (subst (λ (n : ℕ). IsNowhere mesh (goal_at goals n).point (goal_at goals n).y) (sym last) none)
            | inr earlier ↦ before.all which (omega (arith, below, earlier))
          ]

  pub held-all : (count : ℕ) (held : List HeldGoal) → AreHeldBefore mesh goals count held → length goals ≤ count → AreHeldGoals mesh goals held
  held-all count held before all = record { each = before.each; all = λ which there. before.all which (omega (arith, there, all)) }

  module _ (held : List HeldGoal) (are : AreHeldGoals mesh goals held) where
    -- a goal that a polygon locates is one of them
    pub is-held : (which : ℕ) (at : PolyRef) → IsGoalIn mesh goals which at → Contains held (record { which = which; at = at })
    is-held which at is =
        elim (are.all which is.there) [
          | inl nowhere ↦ absurd (nowhere at is.located.holding)
          | inr has ↦
              let goal = goal_at goals which in
              let other = All-contains (λ (g : HeldGoal). IsGoalIn mesh goals g.which g.at) held (record { which = which; at = has.0 }) are.each has.1 in
              let same : has.0 ≡ at = one_located mesh goal.point goal.y has.0 at other.located is.located in
              subst (λ (p : PolyRef). Contains held (record { which = which; at = p })) same has.1
        ]

    -- and its polygon is one of theirs
    pub polygon-held : (which : ℕ) (at : PolyRef) → IsGoalIn mesh goals which at → Contains (polygons_held held) at
    polygon-held which at is = contains-mapped (λ (g : HeldGoal). g.at) held (record { which = which; at = at }) (is-held which at is)

    -- a polygon of theirs is one of the mesh
    pub held-there : All (IsThere mesh) (polygons_held held)
    held-there =
        All-map (IsThere mesh) (λ (g : HeldGoal). g.at) held
        (All-weaker (λ (g : HeldGoal). IsGoalIn mesh goals g.which g.at) (λ (g : HeldGoal). IsThere mesh g.at)
        (λ g is. located-there mesh (goal_at goals g.which).point (goal_at goals g.which).y g.at is.located) held are.each)

    -- where there is none, no polygon holds a goal
    pub none-held : held ≡ [] → (which : ℕ) → which < length goals → IsNowhere mesh (goal_at goals which).point (goal_at goals which).y
    none-held none which there =
        elim (are.all which there) [
          | inl nowhere ↦ nowhere
          | inr has ↦ absurd (contains_none (record { which = which; at = has.0 }) (subst (λ (gs : List HeldGoal). Contains gs (record { which = which; at = has.0 })) none has.1))
        ]

-- ---- those at which walks may end

module _ (mesh : Mesh) (by : Filter) (from : PolyRef) (held : List HeldGoal) where
  abbrev ends : List PolyRef
  ends = polygons_open mesh by.areas from held

  -- a polygon at which an allowed walk ends
  pub end-open : (at : PolyRef) (links : List Link) → Contains (polygons_held held) at → AllowedTo mesh by.areas from links at → Contains ends at
  end-open at links is allowed =
      contains-passing HeldGoal PolyRef (λ (g : HeldGoal). g.at) (leads_on mesh by.areas from) held at is
      (end-on mesh by.areas from from links at allowed.walks allowed.enters (start-on mesh by.areas from))

  pub open-held : (at : PolyRef) → Contains ends at → Contains (polygons_held held) at
  open-held at is = contains-image HeldGoal PolyRef (λ (g : HeldGoal). g.at) (leads_on mesh by.areas from) held at is

  pub open-on : (at : PolyRef) → Contains ends at → leads_on mesh by.areas from at ≡ true
  open-on at is = image-kept HeldGoal PolyRef (λ (g : HeldGoal). g.at) (leads_on mesh by.areas from) held at is

  pub open-there : All (IsThere mesh) (polygons_held held) → All (IsThere mesh) ends
  open-there there k d below = All-contains (IsThere mesh) (polygons_held held) _ there (open-held _ (Contains-get_or ends k d below))

  -- what is said of those is said of all
  pub reach-held : (limits : Limits) (reach : Reach) → IsReach mesh by from ends limits reach → IsReach mesh by from (polygons_held held) limits reach
  reach-held limits (Found at corridor) is = record {
    is_goal = open-held at is.is_goal;
    cheapest = is.cheapest;
    none_less = λ other links held' allowed. is.none_less other links (end-open other links held' allowed) allowed;
    within_cost = is.within_cost;
    within_count = is.within_count;
    low = is.low;
    few = is.few;
  }
  reach-held limits (Limit seen) is = record {
    beyond = λ goal links held' allowed. is.beyond goal links (end-open goal links held' allowed) allowed;
    deep = is.deep;
    limited = is.limited;
    past = is.past;
  }
  reach-held limits Apart is = λ goal links held' allowed. is goal links (end-open goal links held' allowed) allowed

  pub none-open : (limits : Limits) → ends ≡ [] → IsReach mesh by from (polygons_held held) limits Apart
  none-open limits none goal links held' allowed =
      contains_none goal (subst (λ (ps : List PolyRef). Contains ps goal) none (end-open goal links held' allowed))

-- ---- the loop that takes them

-- stands for what is read where nothing stands
abbrev pub no_held : HeldGoal
no_held = record { which = 0; at = record { tile = 0; index = 0 } }

module _ (mesh : Mesh) (areas : ℕ) (first : PolyRef) (held : List HeldGoal) (i : ℕ) (below : i < length held) where
  abbrev goal : HeldGoal
  goal = slice_index_or held i no_held

  pub goal-there : All (IsThere mesh) (polygons_held held) → IsThere mesh goal.at
  goal-there there =
      All-contains (IsThere mesh) (polygons_held held) goal.at there (contains-mapped (λ (g : HeldGoal). g.at) held goal (Contains-get_or held i no_held below))

  pub taken-open : (before after : List PolyRef) → before ≡ polygons_open mesh areas first (take i held) → leads_on mesh areas first goal.at ≡ true
      → after ≡ before ++ goal.at ∷ [] → after ≡ polygons_open mesh areas first (take (i + 1) held)
  taken-open before after is on more =
      more
      ∙ (λ j. is j ++ goal.at ∷ [])
      ∙ sym (map-append (λ (g : HeldGoal). g.at) (filter (is_open_goal mesh areas first) (take i held)) (goal ∷ []))
      ∙ ap polygons_held (sym (taken-kept HeldGoal (is_open_goal mesh areas first) held i no_held below on))

  pub taken-closed : (before : List PolyRef) → before ≡ polygons_open mesh areas first (take i held) → leads_on mesh areas first goal.at ≡ false
      → before ≡ polygons_open mesh areas first (take (i + 1) held)
  taken-closed before is off = is ∙ ap polygons_held (sym (taken-left HeldGoal (is_open_goal mesh areas first) held i no_held below off))
