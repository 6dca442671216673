-- Repairs: a kept path that is made whole. Of the links as which it leads on a beginning is kept; from there a bridge leads to the goal, or to
-- where the last kept links lead on as they are; and loops are left out.
use Rattle.std.specs.Prelude.{◌≡◌, ℕ, ◌+◌, ◌<◌, ◌≤◌, ◌⊎◌, IsTrue, List, [], ◌++◌, length, take, Contains}
use Rattle.mesh_types.specs.declared.answers.Corner.{Corner}
use Rattle.mesh_types.specs.declared.links.Link.{Link}
use Rattle.mesh_types.specs.declared.links.PolyRef.{PolyRef}
use Rattle.mesh_types.specs.declared.mesh.Mesh.{Mesh}
use Rattle.mesh_types.specs.Corridors.{cost_of}
use Rattle.mesh_types.specs.Located.{HoldsAt, IsLocated}
use Rattle.mesh_types.specs.Right.{IsNowhere, portals_of}
use Rattle.mesh_types.specs.Taut.{IsTaut}
use Rattle.path_queries.specs.Filters.{AllowedTo, IsCheapestAllowed, priced}
use Rattle.path_queries.specs.Reaches.{IsDeep}
use Rattle.kept_paths.specs.declared.checks.KeptPath.{KeptPath}
use Rattle.kept_paths.specs.declared.repairs.Repair.{Repair}
use Rattle.kept_paths.specs.declared.repairs.RepairAnswer.{RepairAnswer}
use Rattle.kept_paths.specs.declared.repairs.RepairAnswer.TheVariants.{Repaired, Limit, NoStart, NoGoal, NoPath}
use Rattle.kept_paths.specs.KeptPaths.{Begins, CanCheck, IsBeginning, LeadOn}

-- the path may be asked about, and its links and those of a bridge, of which there are fewer than a mesh may have polygons, can be numbered
pub record CanRepair (repair : Repair) : Type 0 where
  pub path : CanCheck repair.path
  pub few : length repair.path.links + 8000000 < 4294967295

-- ---- what is kept

-- the links as which a kept path leads on from where it begins
pub record IsLead (mesh : Mesh) (path : KeptPath) (first : PolyRef) (lead : List Link) : Type 0 where
  pub begins : IsBeginning mesh path first
  pub last : PolyRef
  pub leads : LeadOn mesh path.filter.areas first path.links lead last

-- of a kept path the first links as which it leads on are kept, no more than the repair says, up to a polygon; `cut` is how many lead on
pub record IsKeptPart (mesh : Mesh) (repair : Repair) (first : PolyRef) (cut : ℕ) (part : List Link) (at : PolyRef) : Type 0 where
  pub lead : List Link
  pub leads_on : IsLead mesh repair.path first lead
  pub count : cut ≡ length lead
  pub is : part ≡ take repair.keep lead
  pub leads : AllowedTo mesh repair.path.filter.areas first part at

-- all of a kept path is kept, up to a polygon that holds the goal
pub record IsAllKept (mesh : Mesh) (path : KeptPath) (part : List Link) (at : PolyRef) : Type 0 where
  pub all : length part ≡ length path.links
  pub goal : HoldsAt mesh path.goal path.goal_y at

-- ---- what the bridge leads to

-- the last kept links, behind the one that leads on no more: as they are they lead from a polygon on to one that holds the goal
pub record IsRest (mesh : Mesh) (path : KeptPath) (cut : ℕ) (rest : List Link) (to last : PolyRef) : Type 0 where
  pub before : List Link
  pub ends : path.links ≡ before ++ rest
  pub behind : cut < length before
  pub some : 0 < length rest
  pub leads : AllowedTo mesh path.filter.areas to rest last
  pub goal : HoldsAt mesh path.goal path.goal_y last

-- a bridge leads to a polygon, and from there a rest to one that holds the goal: the longest of the kept links, where it may join them and
-- there is one; else none, and the polygon is the one that locates the goal
pub record IsTarget (mesh : Mesh) (repair : Repair) (cut : ℕ) (rest : List Link) (to last : PolyRef) : Type 0 where
  pub is_rest : 0 < length rest → IsTrue repair.join × IsRest mesh repair.path cut rest to last
  pub longest : IsTrue repair.join → (other : List Link) (to' last' : PolyRef) → IsRest mesh repair.path cut other to' last' → length other ≤ length rest
  pub no_rest : rest ≡ [] → (to ≡ last) × IsLocated mesh repair.path.goal repair.path.goal_y last

-- what is searched for: a walk from the end of what is kept, where that is not all, to the target
pub record IsSought (mesh : Mesh) (repair : Repair) (at to : PolyRef) : Type 0 where
  pub first : PolyRef
  pub cut : ℕ
  pub part : List Link
  pub keeps : IsKeptPart mesh repair first cut part at
  pub not_all : IsAllKept mesh repair.path part at → ⊥
  pub rest : List Link
  pub last : PolyRef
  pub target : IsTarget mesh repair cut rest to last

-- ---- the repaired path

-- where all is kept nothing comes behind it; else a bridge leads to the target
abbrev pub IsOnward : Mesh → Repair → ℕ → List Link → PolyRef → List Link → PolyRef → PolyRef → Type 0
IsOnward mesh repair cut part at rest to last =
    (IsAllKept mesh repair.path part at × (rest ≡ []) × (to ≡ at) × (last ≡ at))
    ⊎ ((IsAllKept mesh repair.path part at → ⊥) × IsTarget mesh repair cut rest to last)

-- what is kept, a cheapest bridge, and the rest, up to a polygon
pub record AreParts (mesh : Mesh) (repair : Repair) (first : PolyRef) (part bridge rest : List Link) (last : PolyRef) : Type 0 where
  pub cut : ℕ
  pub at : PolyRef
  pub keeps : IsKeptPart mesh repair first cut part at
  pub to : PolyRef
  pub onward : IsOnward mesh repair cut part at rest to last
  pub cheapest : IsCheapestAllowed mesh repair.path.filter at to
      (record { cost = cost_of (priced mesh repair.path.filter) bridge; links = bridge })

-- no polygon that links of a walk leave is left by links behind it, or is the last
pub record AreApart (links behind : List Link) (last : PolyRef) : Type 0 where
  pub leave : (a b : Link) → Contains links a → Contains behind b → a.from ≡ b.from → ⊥
  pub end : (a : Link) → Contains links a → a.from ≡ last → ⊥

-- three walks that follow each other, and what is left of them without loops: a beginning of the first, a piece of the second, an end of the
-- third, so that no polygon stands in two of them
pub record AreUnlooped (part bridge rest : List Link) (last : PolyRef) (kept middle joined : List Link) : Type 0 where
  pub beginning : (left : List Link) × (part ≡ kept ++ left)
  pub piece : (before behind : List Link) × (bridge ≡ before ++ (middle ++ behind))
  pub ending : (left : List Link) × (rest ≡ left ++ joined)
  pub kept_apart : AreApart kept (middle ++ joined) last
  pub middle_apart : AreApart middle joined last

-- a kept path is made whole: what is kept, a bridge and the rest, without loops, are an allowed walk to a polygon that holds the goal; the
-- bridge is a cheapest one between its ends
pub record IsRepaired (mesh : Mesh) (repair : Repair) (first : PolyRef) (cost : ℕ) (links : List Link) (turns : List Corner)
    (kept bridge : ℕ) : Type 0 where
  pub part : List Link
  pub middle : List Link
  pub rest : List Link
  pub last : PolyRef
  pub parts : AreParts mesh repair first part middle rest last
  pub kept_links : List Link
  pub bridge_links : List Link
  pub joined_links : List Link
  pub unlooped : AreUnlooped part middle rest last kept_links bridge_links joined_links
  pub is : links ≡ kept_links ++ (bridge_links ++ joined_links)
  pub kept_is : kept ≡ length kept_links
  pub bridge_is : bridge ≡ length bridge_links
  pub u : PolyRef
  pub v : PolyRef
  pub cheapest : IsCheapestAllowed mesh repair.path.filter u v
      (record { cost = cost_of (priced mesh repair.path.filter) bridge_links; links = bridge_links })
  pub allowed : AllowedTo mesh repair.path.filter.areas first links last
  pub goal : HoldsAt mesh repair.path.goal repair.path.goal_y last
  pub costs : cost ≡ cost_of (priced mesh repair.path.filter) links
  pub taut : IsTaut repair.path.from (portals_of links) repair.path.goal turns

-- each allowed walk that is searched for costs at least what was seen, and the search met as many polygons as it may
pub record IsRepairLimited (mesh : Mesh) (repair : Repair) (seen : ℕ) : Type 0 where
  pub at : PolyRef
  pub to : PolyRef
  pub sought : IsSought mesh repair at to
  pub beyond : (links : List Link) → AllowedTo mesh repair.path.filter.areas at links to → seen ≤ cost_of (priced mesh repair.path.filter) links
  pub deep : IsDeep mesh repair.path.filter.areas at 18446744073709551615 repair.most_polygons seen
  pub limited : repair.most_polygons ≤ 8000000

-- the path may begin somewhere, and no polygon holds its goal
pub record HasLostGoal (mesh : Mesh) (path : KeptPath) : Type 0 where
  pub first : PolyRef
  pub begins : IsBeginning mesh path first
  pub nowhere : IsNowhere mesh path.goal path.goal_y

-- no allowed walk leads to where one is searched for
pub record HasNoBridge (mesh : Mesh) (repair : Repair) : Type 0 where
  pub at : PolyRef
  pub to : PolyRef
  pub sought : IsSought mesh repair at to
  pub no_walk : (links : List Link) → AllowedTo mesh repair.path.filter.areas at links to → ⊥

-- an answer to the question for a kept path made whole is right in a mesh
abbrev pub IsRightRepair : Repair → Mesh → RepairAnswer → Type 0
IsRightRepair repair mesh (Repaired first cost links turns kept bridge) = IsRepaired mesh repair first cost links turns kept bridge
IsRightRepair repair mesh (Limit seen) = IsRepairLimited mesh repair seen
IsRightRepair repair mesh NoStart = (at : PolyRef) → Begins mesh repair.path at → ⊥
IsRightRepair repair mesh NoGoal = HasLostGoal mesh repair.path
IsRightRepair repair mesh NoPath = HasNoBridge mesh repair
