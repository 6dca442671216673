-- What lies behind and ahead of each portal of a chain.
use Rattle.std.proofs.Common.{◌≡◌, ℕ, ◌+◌, ◌-◌, ◌≤◌, ◌<◌, List, [], ◌∷◌, length, true, false, sym, subst, inl, inr, arith, lit<}
use Rattle.std.specs.Prelude.{All, nat_lt, ◌==◌, if◌then◌else◌}
use Rattle.std.proofs.lemmas.Bool.{cases_lt, lt-ltb, le-ltb, ne_eqb}
use Rattle.std.proofs.lemmas.List.{get_or_default}
use Rattle.std.proofs.Math.ListN.{get_or-eq_default}
use Rattle.nav_base.specs.declared.point.Point.{Point}
use Rattle.mesh_types.specs.declared.links.Portal.{Portal}
use Rattle.mesh_types.specs.Chains.{IsChain, IsBehind, IsAhead, portal_at, points_before, points_after}
use Rattle.mesh_types.proofs.Words.{some_portal}
use Rattle.funnel_path.specs.Looks.{portal_or_goal}

-- both ends of a portal lie behind another, or ahead of it
pub record AreBehind (portal other : Portal) : Type 0 where
  pub left : IsBehind portal other.left
  pub right : IsBehind portal other.right

pub record AreAhead (portal other : Portal) : Type 0 where
  pub left : IsAhead portal other.left
  pub right : IsAhead portal other.right

both : (P : Point → Type 0) (p q : Point) → All P (p ∷ q ∷ []) → P p × P q
both P p q all = (all 0 p (lit< tt), all 1 p (lit< tt))

-- the ends of the portal before
pub chain_behind : (start : Point) (portals : List Portal) (goal : Point) (m : ℕ) → IsChain start portals goal → m + 1 < length portals → AreBehind (portal_at portals (m + 1)) (portal_at portals m)
chain_behind start portals goal m chain there =
    let ends = both (IsBehind (portal_at portals (m + 1))) (portal_at portals m).left (portal_at portals m).right (subst (λ (points : List Point). All (IsBehind (portal_at portals (m + 1))) points) before (chain.behind (m + 1) there)) in
    record { left = ends.0; right = ends.1 }
  where
    later : ((m + 1) == 0) ≡ false
    later = ne_eqb (m + 1) 0 (λ e. omega arith)

    less : m + 1 - 1 ≡ m
    less = omega arith

    before : points_before start portals (m + 1) ≡ (portal_at portals m).left ∷ (portal_at portals m).right ∷ []
    before = λ i. if (later i) then start ∷ [] else (portal_at portals (less i)).left ∷ (portal_at portals (less i)).right ∷ []

-- the start
pub chain_start : (start : Point) (portals : List Portal) (goal : Point) → IsChain start portals goal → 0 < length portals → IsBehind (portal_at portals 0) start
chain_start start portals goal chain there = chain.behind 0 there 0 start (lit< tt)

-- the ends of the portal after
pub chain_ahead : (start : Point) (portals : List Portal) (goal : Point) (m : ℕ) → IsChain start portals goal → m + 1 < length portals → AreAhead (portal_at portals m) (portal_at portals (m + 1))
chain_ahead start portals goal m chain there =
    let ends = both (IsAhead (portal_at portals m)) (portal_at portals (m + 1)).left (portal_at portals (m + 1)).right (subst (λ (points : List Point). All (IsAhead (portal_at portals m)) points) after (chain.ahead m (omega arith))) in
    record { left = ends.0; right = ends.1 }
  where
    inner : nat_lt (m + 1) (length portals) ≡ true
    inner = lt-ltb (m + 1) (length portals) there

    after : points_after portals goal m ≡ (portal_at portals (m + 1)).left ∷ (portal_at portals (m + 1)).right ∷ []
    after = λ i. if (inner i) then (portal_at portals (m + 1)).left ∷ (portal_at portals (m + 1)).right ∷ [] else goal ∷ []

-- the goal
pub chain_goal : (start : Point) (portals : List Portal) (goal : Point) (m : ℕ) → IsChain start portals goal → m + 1 ≡ length portals → IsAhead (portal_at portals m) goal
chain_goal start portals goal m chain last =
    subst (λ (points : List Point). All (IsAhead (portal_at portals m)) points) after (chain.ahead m (omega arith)) 0 goal (lit< tt)
  where
    outer : nat_lt (m + 1) (length portals) ≡ false
    outer = le-ltb (m + 1) (length portals) (omega arith)

    after : points_after portals goal m ≡ goal ∷ []
    after = λ i. if (outer i) then (portal_at portals (m + 1)).left ∷ (portal_at portals (m + 1)).right ∷ [] else goal ∷ []

-- ---- the goal as a portal of no width

abbrev pub goal_portal : Point → Portal
goal_portal goal = record { left = goal; right = goal }

pub portal_or_goal-there : (portals : List Portal) (goal : Point) (m : ℕ) → m < length portals → portal_or_goal portals goal m ≡ portal_at portals m
portal_or_goal-there portals goal m there = get_or_default portals m (goal_portal goal) some_portal there

pub portal_or_goal-end : (portals : List Portal) (goal : Point) (m : ℕ) → length portals ≤ m → portal_or_goal portals goal m ≡ goal_portal goal
portal_or_goal-end portals goal m past = get_or-eq_default portals (goal_portal goal) past

-- the ends of what comes after a portal, be it a portal or the goal
pub chain_after : (start : Point) (portals : List Portal) (goal : Point) (m : ℕ) → IsChain start portals goal → m < length portals → AreAhead (portal_at portals m) (portal_or_goal portals goal (m + 1))
chain_after start portals goal m chain there =
    elim (cases_lt (m + 1) (length portals)) [
      | inl more ↦ subst (AreAhead (portal_at portals m)) (sym (portal_or_goal-there portals goal (m + 1) more)) (chain_ahead start portals goal m chain more)
      | inr past ↦ subst (AreAhead (portal_at portals m)) (sym (portal_or_goal-end portals goal (m + 1) past)) (record { left = last past; right = last past })
    ]
  where
    last : length portals ≤ m + 1 → IsAhead (portal_at portals m) goal
    last past = chain_goal start portals goal m chain (omega arith)
