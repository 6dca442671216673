-- Moved: what an agent is after its move, and two of them.
use Rattle.std.proofs.Common.{◌≡◌, ℕ, ◌+◌, ◌*◌, ◌≤◌, Bool, true, false, ℤ, pos, ◌+ℤ◌, ◌-ℤ◌, ◌*ℤ◌, List, [], ◌∷◌, refl, sym, subst, ap, ◌∙◌, inl, inr, arith}
use Rattle.std.specs.Prelude.{min, max, nat_le, ◌||◌, ◌⊎◌, if◌then◌else◌}
use Rattle.std.proofs.lemmas.Int.{ints}
use Rattle.nav_base.specs.declared.point.Point.{Point}
use Rattle.nav_base.specs.Point.{from_to}
use Rattle.nav_base.specs.Deviation.{square_of}
use Rattle.mesh_types.specs.declared.links.Link.{Link}
use Rattle.mesh_types.specs.declared.links.PolyRef.{PolyRef}
use Rattle.mesh_types.specs.declared.mesh.Mesh.{Mesh}
use Rattle.fine_walk.specs.FineRays.{GoesFine, low_at, high_at, low_over, high_over}
use Rattle.fine_walk.specs.Laws.{AreEndsHeld, DoWaysStay}
use Rattle.crowd_moves.specs.declared.agents.CrowdAgent.{CrowdAgent}
use Rattle.crowd_moves.specs.declared.agents.CrowdMove.{CrowdMove}
use Rattle.crowd_moves.specs.Beyond.{place_along, KeepsBeyond}
use Rattle.crowd_moves.specs.Pairs.{are_storeys_apart, do_pass_apart, is_apart, square_between, touching_square}
use Rattle.crowd_moves.proofs.PairLaws.{comes_no_nearer, stays_apart}
use Rattle.crowd_filter.specs.CrowdAgents.{added, IsCrowdAgent, MayWalk}
use Rattle.crowd_filter.specs.CrowdSteps.{moved, KeepTheWay, AllWalkRight, ComeNoNearer, StayApart}
use Rattle.crowd_filter.proofs.SpaceLaws.{high_there, low_there, stays_put}

-- ---- one agent

abbrev walked : Mesh → CrowdAgent → CrowdMove → CrowdAgent
walked mesh a m = record a { at = added a.at m.by; polygon = m.to; low = low_at mesh m.to; high = high_at mesh m.to }

moved_stands : (mesh : Mesh) (a : CrowdAgent) (m : CrowdMove) → a.stranded ≡ true → moved mesh a m ≡ a
moved_stands mesh a m is = ap (λ (s : Bool). if s then a else walked mesh a m) is

pub moved_walks : (mesh : Mesh) (a : CrowdAgent) (m : CrowdMove) → a.stranded ≡ false → moved mesh a m ≡ walked mesh a m
moved_walks mesh a m is = ap (λ (s : Bool). if s then a else walked mesh a m) is

either_way : {P : Type 0} (a : CrowdAgent) → (a.stranded ≡ true → P) → (a.stranded ≡ false → P) → P
either_way {P} a stands walks = cases a.stranded refl
  where
    cases : (s : Bool) → a.stranded ≡ s → P
    cases true is = stands is
    cases false is = walks is

-- the polygon in which a way ends has floors within those that it passes over
low_last : (mesh : Mesh) (areas : ℕ) (from to : Point) (at : PolyRef) (visited : List PolyRef) (links : List Link) (last : PolyRef)
    → GoesFine mesh areas from to at visited links last → low_over mesh at links ≤ low_at mesh last
low_last mesh areas from to at visited [] last goes = subst (λ (r : PolyRef). low_at mesh at ≤ low_at mesh r) goes.0 (omega arith)
low_last mesh areas from to at visited (link ∷ links) last goes =
    lower (low_at mesh at) (low_over mesh link.to links) (low_at mesh last) (low_last mesh areas from to link.to (link.to ∷ visited) links last goes.1)
  where
    lower : (x y z : ℕ) → y ≤ z → min x y ≤ z
    lower x y z h = omega (arith, h)

high_last : (mesh : Mesh) (areas : ℕ) (from to : Point) (at : PolyRef) (visited : List PolyRef) (links : List Link) (last : PolyRef)
    → GoesFine mesh areas from to at visited links last → high_at mesh last ≤ high_over mesh at links
high_last mesh areas from to at visited [] last goes = subst (λ (r : PolyRef). high_at mesh r ≤ high_at mesh at) goes.0 (omega arith)
high_last mesh areas from to at visited (link ∷ links) last goes =
    higher (high_at mesh at) (high_over mesh link.to links) (high_at mesh last) (high_last mesh areas from to link.to (link.to ∷ visited) links last goes.1)
  where
    higher : (x y z : ℕ) → z ≤ y → z ≤ max x y
    higher x y z h = omega (arith, h)

-- what is asked of an agent after its move
record IsAfter (a : CrowdAgent) (m : CrowdMove) (x : CrowdAgent) : Type 0 where
  pub at : x.at ≡ added a.at m.by
  pub low : m.low ≤ x.low
  pub high : x.high ≤ m.high
  pub radius : x.radius ≡ a.radius

after_move : (mesh : Mesh) (a : CrowdAgent) (m : CrowdMove) → MayWalk mesh a m → IsAfter a m (moved mesh a m)
after_move mesh a m may = either_way a
    (λ stranded. subst (IsAfter a m) (sym (moved_stands mesh a m stranded)) (subst (λ (x : CrowdMove). IsAfter a x a) (sym (may.stands stranded)) (record {
      at = sym (stays_put a.at);
      low = omega arith;
      high = omega arith;
      radius = refl;
    })))
    (λ walks.
    let told = may.walks walks in
    let low = low_last mesh a.areas a.at (added a.at m.by) a.polygon (a.polygon ∷ []) told.links m.to told.way.goes in
    let high = high_last mesh a.areas a.at (added a.at m.by) a.polygon (a.polygon ∷ []) told.links m.to told.way.goes in
    subst (IsAfter a m) (sym (moved_walks mesh a m walks)) (record {
      at = refl;
      low = omega (arith, told.low, low);
      high = omega (arith, told.high, high);
      radius = refl;
    }))

-- ---- two agents

le_true : (m n : ℕ) → m ≤ n → nat_le m n ≡ true
le_true m n h = grind arith

le_from : (m n : ℕ) → nat_le m n ≡ true → m ≤ n
le_from m n is = grind arith

first_true : (x y : Bool) → x ≡ true → (x || y) ≡ true
first_true x y is = ap (λ (b : Bool). b || y) is

second_true : (x y : Bool) → y ≡ true → (x || y) ≡ true
second_true true y is = refl
second_true false y is = is

one_true : (x y : Bool) → (x || y) ≡ true → (x ≡ true) ⊎ (y ≡ true)
one_true true y is = inl refl
one_true false y is = inr is

storeys_after : (height : ℕ) (a b x y : CrowdAgent) (m n : CrowdMove) → IsAfter a m x → IsAfter b n y → do_pass_apart height m n ≡ true
    → are_storeys_apart height x.low x.high y.low y.high ≡ true
storeys_after height a b x y m n first second passes = elim (one_true (nat_le (m.high + height) n.low) (nat_le (n.high + height) m.low) passes) [
  | inl above ↦
      first_true (nat_le (x.high + height) y.low) (nat_le (y.high + height) x.low)
      (le_true (x.high + height) y.low (omega (arith, le_from (m.high + height) n.low above, first.high, second.low)))
  | inr below ↦
      second_true (nat_le (x.high + height) y.low) (nat_le (y.high + height) x.low)
      (le_true (y.high + height) x.low (omega (arith, le_from (n.high + height) m.low below, second.high, first.low)))
]

-- where the step ends
ends_there : (p q u v : Point) → place_along (from_to p q) (from_to u v) 1 1 ≡ from_to (added p u) (added q v)
ends_there p q u v = λ i. record { x = part p.x q.x u.x v.x i; z = part p.z q.z u.z v.z i }
  where
    part : (p q u v : ℤ) → pos 1 *ℤ (q -ℤ p) +ℤ pos 1 *ℤ (v -ℤ u) ≡ (q +ℤ v) -ℤ (p +ℤ u)
    part p q u v = omega (arith, ints)

apart_after : (height : ℕ) (a b x y : CrowdAgent) (m n : CrowdMove) → IsAfter a m x → IsAfter b n y → KeepTheWay (touching_square a b) height a b m n
    → is_apart height x y ≡ true
apart_after height a b x y m n first second keeps = elim keeps [
  | inl passes ↦
      first_true (are_storeys_apart height x.low x.high y.low y.high) (nat_le (touching_square x y) (square_between x y))
      (storeys_after height a b x y m n first second passes)
  | inr beyond ↦
      second_true (are_storeys_apart height x.low x.high y.low y.high) (nat_le (touching_square x y) (square_between x y))
      (le_true (touching_square x y) (square_between x y) (subst (λ (t : ℕ). t ≤ square_between x y) (sym touching) (subst (λ (s : ℕ). touching_square a b ≤ s) (sym square) (end beyond))))
]
  where
    touching : touching_square x y ≡ touching_square a b
    touching = λ i. (first.radius i + second.radius i) * (first.radius i + second.radius i)

    square : square_between x y ≡ square_of (place_along (from_to a.at b.at) (from_to m.by n.by) 1 1)
    square = (λ i. square_of (from_to (first.at i) (second.at i))) ∙ ap square_of (sym (ends_there a.at b.at m.by n.by))

    end : KeepsBeyond (touching_square a b) (from_to a.at b.at) (from_to m.by n.by)
        → touching_square a b ≤ square_of (place_along (from_to a.at b.at) (from_to m.by n.by) 1 1)
    end keeps' = omega (arith, keeps' 1 1 (omega arith) (omega arith))

-- ---- the laws

pub step_apart : StayApart
step_apart mesh order first vectors before after settles step i j a b m n pair apart =
    let right = step.granted.right in
    let height = mesh.setting.agent.height in
    let clear = right.clear i m pair.first_move j a b n pair.others pair.first pair.second pair.second_move in
    let throughout = stays_apart height a b m n clear apart in
    let may = right.may i m pair.first_move a pair.first in
    let may' = right.may j n pair.second_move b pair.second in
    record {
      throughout = throughout;
      after = apart_after height a b (moved mesh a m) (moved mesh b n) m n (after_move mesh a m may.way) (after_move mesh b n may'.way) throughout;
    }

pub step_no_nearer : ComeNoNearer
step_no_nearer mesh order first vectors before after settles step i j a b m n pair overlap =
    comes_no_nearer mesh.setting.agent.height a b m n (step.granted.right.clear i m pair.first_move j a b n pair.others pair.first pair.second pair.second_move) overlap

pub walks_right : DoWaysStay → AreEndsHeld → AllWalkRight
walks_right stay ends mesh order first vectors before after settles sound step i a m is_a is_m =
    let may = step.granted.right.may i m is_m a is_a in
    let agent = step.places.agents i a is_a in
    record {
      on_mesh = λ walks.
          let told = may.way.walks walks in
          let held = agent.held walks in
          record {
            links = told.links;
            stays = stay mesh a.areas a.polygon a.at (added a.at m.by) told.links m.to sound (record { polygon = held.polygon; there = held.there; holds = held.holds }) told.way;
          };
      stands = may.way.stands;
      slow = may.mover.slow;
      after = either_way a
          (λ stranded. subst (IsCrowdAgent mesh) (sym (moved_stands mesh a m stranded)) agent)
          (λ walks.
          let told = may.way.walks walks in
          let held = ends mesh a.areas a.polygon a.at (added a.at m.by) told.links m.to told.way in
          subst (IsCrowdAgent mesh) (sym (moved_walks mesh a m walks)) (record {
            sizes = record { at = may.way.fits; radius = agent.sizes.radius; speed = agent.sizes.speed };
            held = λ _. record {
              polygon = held.polygon;
              there = held.there;
              holds = held.holds;
              low = low_there mesh m.to held.polygon held.there;
              high = high_there mesh m.to held.polygon held.there;
            };
          }));
    }
