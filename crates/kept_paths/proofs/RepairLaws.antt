-- What is kept, a bridge and a rest, joined without loops, are a repaired path.
use Rattle.std.proofs.Common.{◌≡◌, ℕ, ◌+◌, ◌-◌, ◌≤◌, ◌<◌, List, [], ◌∷◌, ◌++◌, length, take, drop, refl, sym, subst, ap, ◌∙◌, ◌⊎◌, inl, inr, arith}
use Rattle.std.specs.Prelude.{Contains, IsTrue}
use Rattle.std.proofs.lemmas.List.{append_assoc, length-append, length-drop, length-take, take-append-drop}
use Rattle.std.proofs.lemmas.List.Elements.{Contains-push_cases}
use Rattle.mesh_types.specs.declared.answers.Corner.{Corner}
use Rattle.mesh_types.specs.declared.answers.Corridor.{Corridor}
use Rattle.mesh_types.specs.declared.links.Link.{Link}
use Rattle.mesh_types.specs.declared.links.PolyRef.{PolyRef}
use Rattle.mesh_types.specs.declared.mesh.Mesh.{Mesh}
use Rattle.mesh_types.specs.Corridors.{WalksTo, cost_of}
use Rattle.mesh_types.specs.Located.{HoldsAt, IsLocated}
use Rattle.mesh_types.specs.Right.{portals_of}
use Rattle.mesh_types.specs.Soundness.{IsSound}
use Rattle.mesh_types.specs.Taut.{IsTaut}
use Rattle.corridor_search.specs.MeshGraphs.{IsThere}
use Rattle.graph_search.specs.declared.exploring.Limits.{Limits}
use Rattle.path_queries.specs.Filters.{AllowedTo, IsCheapestAllowed, priced}
use Rattle.path_queries.specs.Reaches.{ArePlanLimits, IsBeyondSeen, IsNearest}
use Rattle.kept_paths.specs.declared.repairs.Repair.{Repair}
use Rattle.kept_paths.specs.Repairs.{AreParts, AreUnlooped, CanRepair, HasNoBridge, IsAllKept, IsKeptPart, IsLead, IsRepaired, IsRepairLimited, IsRest, IsSought, IsTarget}
use Rattle.kept_paths.specs.Splices.{IsLongestRest, IsMeeting}
use Rattle.kept_paths.proofs.LeadLaws.{lead-allowed, lead-few}
use Rattle.kept_paths.proofs.SpliceLaws.{drop-both, splice-walk}
use Rattle.kept_paths.proofs.WalkParts.{begin-there, contains-drop, end-there, piece-cheapest, split, split-at, stays, stays-cheapest}

some-or-none : {X : Type 0} (xs : List X) → (0 < length xs) ⊎ (xs ≡ [])
some-or-none [] = inr refl
some-or-none (x ∷ xs) = inl (omega (arith))

-- ---- the target

module _ (mesh : Mesh) (repair : Repair) where
  abbrev areas : ℕ
  areas = repair.path.filter.areas

  pub target-leads : (cut : ℕ) (rest : List Link) (to last : PolyRef) → IsTarget mesh repair cut rest to last
      → AllowedTo mesh repair.path.filter.areas to rest last × HoldsAt mesh repair.path.goal repair.path.goal_y last
  target-leads cut rest to last is =
      elim (some-or-none rest) [
        | inl some ↦ let joined = (is.is_rest some).1 in (joined.leads, joined.goal)
        | inr none ↦
            let located = is.no_rest none in (
              subst (λ (ls : List Link). AllowedTo mesh repair.path.filter.areas to ls last) (sym none) (stays mesh repair.path.filter.areas to last located.0),
              located.1.holding,
            )
      ]

  pub target-there : (cut : ℕ) (rest : List Link) (to last : PolyRef) → IsSound mesh → IsTarget mesh repair cut rest to last → IsThere mesh to
  target-there cut rest to last sound is =
      elim (some-or-none rest) [
        | inl some ↦ begin-there mesh repair.path.filter.areas to rest last sound some (target-leads cut rest to last is).0
        | inr none ↦
            let located = is.no_rest none in
            subst (IsThere mesh) (sym located.0) (record { polygon = located.1.holding.polygon; is = located.1.holding.there })
      ]

  pub target-few : (cut : ℕ) (rest : List Link) (to last : PolyRef) → IsTarget mesh repair cut rest to last → cut ≤ length repair.path.links
      → length rest + cut ≤ length repair.path.links
  target-few cut rest to last is most =
      elim (some-or-none rest) [
        | inl some ↦
            let joined = (is.is_rest some).1 in
            omega (arith, ap (λ (ls : List Link). length ls) joined.ends, length-append joined.before rest, joined.behind)
        | inr none ↦ omega (arith, ap (λ (ls : List Link). length ls) none, most)
      ]

  -- a longest rest is a target, where the way may join it
  pub joined-target : (cut start : ℕ) (to last : PolyRef) → IsTrue repair.join → IsLongestRest mesh repair.path cut start to last
      → IsTarget mesh repair cut (drop start repair.path.links) to last
  joined-target cut start to last join is = record {
    is_rest = λ some. (join, is.is);
    longest = λ may other to' last' rest. is.longest other to' last' rest;
    no_rest = λ none. absurd (omega (arith, ap (λ (ls : List Link). length ls) none, is.is.some));
  }

  -- and so is the polygon that locates the goal, where there is none
  pub located-target : (cut start : ℕ) (to : PolyRef) → drop start repair.path.links ≡ []
      → (IsTrue repair.join → (rest : List Link) (to' last : PolyRef) → IsRest mesh repair.path cut rest to' last → ⊥)
      → IsLocated mesh repair.path.goal repair.path.goal_y to → IsTarget mesh repair cut (drop start repair.path.links) to to
  located-target cut start to none never located = record {
    is_rest = λ some. absurd (omega (arith, ap (λ (ls : List Link). length ls) none, some));
    longest = λ may other to' last' rest. absurd (never may other to' last' rest);
    no_rest = λ is. (refl, located);
  }

  -- ---- what is kept

  pub lead-most : (first : PolyRef) (lead : List Link) → IsLead mesh repair.path first lead → length lead ≤ length repair.path.links
  lead-most first lead is = lead-few mesh repair.path.filter.areas first repair.path.links lead is.last is.leads

  pub kept-part : (first : PolyRef) (cut : ℕ) (lead part : List Link) (at : PolyRef) → IsLead mesh repair.path first lead → cut ≡ length lead
      → part ≡ take repair.keep lead → ((m : Mesh) (to : PolyRef) → WalksTo m first part to → at ≡ to) → IsKeptPart mesh repair first cut part at
  kept-part first cut lead part at is count taken end =
      let whole = lead-allowed mesh repair.path.filter.areas first repair.path.links lead is.last is.leads in
      let cut = split-at mesh repair.path.filter.areas repair.keep first lead is.last whole in
      let front = subst (λ (ls : List Link). AllowedTo mesh repair.path.filter.areas first ls cut.at) (sym taken) cut.front in
      record {
        lead = lead;
        leads_on = is;
        count = count;
        is = taken;
        leads = subst (AllowedTo mesh repair.path.filter.areas first part) (sym (end mesh cut.at front.walks)) front;
      }

  pub kept-there : (first : PolyRef) (cut : ℕ) (part : List Link) (at : PolyRef) → IsKeptPart mesh repair first cut part at → IsThere mesh at
  kept-there first cut part at is =
      let held = is.leads_on.begins.begins.holding in
      end-there mesh repair.path.filter.areas first part at is.leads (record { polygon = held.polygon; is = held.there })

  -- ---- the parts

  -- all is kept
  pub whole-parts : (first : PolyRef) (cut : ℕ) (part : List Link) (at : PolyRef) → IsKeptPart mesh repair first cut part at
      → IsAllKept mesh repair.path part at → AreParts mesh repair first part [] [] at
  whole-parts first cut part at keeps all = record {
    cut = cut;
    at = at;
    keeps = keeps;
    to = at;
    onward = inl (all, refl, refl, refl);
    cheapest = stays-cheapest mesh repair.path.filter at at refl;
  }

  -- a bridge is found
  pub bridge-parts : (first : PolyRef) (cut : ℕ) (part rest : List Link) (at to last found : PolyRef) (limits : Limits) (corridor : Corridor)
      → IsKeptPart mesh repair first cut part at → (IsAllKept mesh repair.path part at → ⊥) → IsTarget mesh repair cut rest to last
      → IsNearest mesh repair.path.filter at (to ∷ []) limits found corridor → AreParts mesh repair first part corridor.links rest last
  bridge-parts first cut part rest at to last found limits corridor keeps not_all target is =
      let same : found ≡ to = elim (Contains-push_cases [] to found is.is_goal) [
        | inl none ↦ absurd (omega (arith, none.1))
        | inr is ↦ sym is
      ] in
      let cheapest = subst (λ (p : PolyRef). IsCheapestAllowed mesh repair.path.filter at p corridor) same is.cheapest in
      record {
        cut = cut;
        at = at;
        keeps = keeps;
        to = to;
        onward = inr (not_all, target);
        cheapest = record {
          allowed = cheapest.allowed;
          cost = refl;
          least = λ links walk. omega (arith, cheapest.least links walk, cheapest.cost);
        };
      }

  pub sought : (first : PolyRef) (cut : ℕ) (part rest : List Link) (at to last : PolyRef) → IsKeptPart mesh repair first cut part at
      → (IsAllKept mesh repair.path part at → ⊥) → IsTarget mesh repair cut rest to last → IsSought mesh repair at to
  sought first cut part rest at to last keeps not_all target =
      record { first = first; cut = cut; part = part; keeps = keeps; not_all = not_all; rest = rest; last = last; target = target }

  pub limited-repair : (at to : PolyRef) (seen : ℕ) → IsSought mesh repair at to
      → IsBeyondSeen mesh repair.path.filter at (to ∷ []) (record { key = 18446744073709551615; count = repair.most_polygons }) seen
      → IsRepairLimited mesh repair seen
  limited-repair at to seen sought is = record {
    at = at;
    to = to;
    sought = sought;
    beyond = λ links walk. is.beyond to links (0, omega (arith), refl) walk;
    deep = is.deep;
    limited = by_limit is.limited;
  }
    where
      by_limit : ArePlanLimits 18446744073709551615 repair.most_polygons → repair.most_polygons ≤ 8000000
      by_limit (inl cost) = absurd (omega (arith, cost))
      by_limit (inr polygons) = polygons

  pub no-bridge : (at to : PolyRef) → IsSought mesh repair at to
      → ((goal : PolyRef) (links : List Link) → Contains (to ∷ []) goal → AllowedTo mesh repair.path.filter.areas at links goal → ⊥)
      → HasNoBridge mesh repair
  no-bridge at to sought apart =
      record { at = at; to = to; sought = sought; no_walk = λ links walk. apart to links (0, omega (arith), refl) walk }

-- ---- the repaired path

module _ (mesh : Mesh) (repair : Repair) (first : PolyRef) (part bridge rest : List Link) (last : PolyRef)
    (parts : AreParts mesh repair first part bridge rest last) (onward links : List Link) (taken dropped kept left : ℕ)
    (meets : IsMeeting bridge rest last taken dropped) (goes : onward ≡ take taken bridge ++ drop dropped rest)
    (meets' : IsMeeting part onward last kept left) (is : links ≡ take kept part ++ drop left onward) where
  abbrev middle : List Link
  middle = drop left (take taken bridge)

  abbrev joined : List Link
  joined = drop (left - length (take taken bridge)) (drop dropped rest)

  behind : drop left onward ≡ drop left (take taken bridge) ++ drop (left - length (take taken bridge)) (drop dropped rest)
  behind = ap (drop left) goes ∙ drop-both left (take taken bridge) (drop dropped rest)

  pub links-are : links ≡ take kept part ++ (drop left (take taken bridge) ++ drop (left - length (take taken bridge)) (drop dropped rest))
  links-are = is ∙ ap (λ (ls : List Link). take kept part ++ ls) behind

  -- the rest leads to a polygon that holds the goal
  rest-leads : AllowedTo mesh repair.path.filter.areas parts.to rest last × HoldsAt mesh repair.path.goal repair.path.goal_y last
  rest-leads =
      elim parts.onward [
        | inl all ↦ (
          subst (λ (ls : List Link). AllowedTo mesh repair.path.filter.areas parts.to ls last) (sym all.1)
              (stays mesh repair.path.filter.areas parts.to last (all.2 ∙ sym all.3)),
          subst (HoldsAt mesh repair.path.goal repair.path.goal_y) (sym all.3) all.0.goal,
        )
        | inr target ↦ target-leads mesh repair parts.cut rest parts.to last target.1
      ]

  pub goal-held : HoldsAt mesh repair.path.goal repair.path.goal_y last
  goal-held = rest-leads.1

  pub allowed-all : AllowedTo mesh repair.path.filter.areas first links last
  allowed-all =
      let after = subst (λ (ls : List Link). AllowedTo mesh repair.path.filter.areas parts.at ls last) (sym goes)
      (splice-walk mesh repair.path.filter.areas parts.at bridge parts.to rest last taken dropped parts.cheapest.allowed rest-leads.0 meets) in
      subst (λ (ls : List Link). AllowedTo mesh repair.path.filter.areas first ls last) (sym is)
      (splice-walk mesh repair.path.filter.areas first part parts.at onward last kept left parts.keeps.leads after meets')

  few-rest : length part + length rest ≤ length repair.path.links
  few-rest =
      let most = lead-most mesh repair first parts.keeps.lead parts.keeps.leads_on in
      let own = ap (λ (ls : List Link). length ls) parts.keeps.is ∙ length-take repair.keep parts.keeps.lead in
      elim parts.onward [
        | inl all ↦ omega (arith, most, own, ap (λ (ls : List Link). length ls) all.1)
        | inr target ↦ omega (arith, most, own, parts.keeps.count, target-few mesh repair parts.cut rest parts.to last target.1 (omega (arith, most, parts.keeps.count)))
      ]

  pub few-all : length bridge < 8000000 → CanRepair repair → length links < 4294967295
  few-all few can =
      omega (
        arith,
        few,
        can.few,
        few-rest,
        ap (λ (ls : List Link). length ls) is,
        length-append (take kept part) (drop left onward),
        length-take kept part,
        length-drop left onward,
        ap (λ (ls : List Link). length ls) goes,
        length-append (take taken bridge) (drop dropped rest),
        length-take taken bridge,
        length-drop dropped rest,
      )

  unlooped : AreUnlooped part bridge rest last (take kept part) (drop left (take taken bridge)) (drop (left - length (take taken bridge)) (drop dropped rest))
  unlooped = record {
    beginning = (drop kept part, sym (take-append-drop kept part));
    piece = (
      take left (take taken bridge),
      drop taken bridge,
      sym (take-append-drop taken bridge) ∙ ap (λ (ls : List Link). ls ++ drop taken bridge) (sym (take-append-drop left (take taken bridge)))
          ∙ append_assoc (take left (take taken bridge)) (drop left (take taken bridge)) (drop taken bridge),
    );
    ending = (
      take dropped rest ++ take (left - length (take taken bridge)) (drop dropped rest),
      sym (take-append-drop dropped rest)
          ∙ ap (λ (ls : List Link). take dropped rest ++ ls) (sym (take-append-drop (left - length (take taken bridge)) (drop dropped rest)))
          ∙ sym (append_assoc (take dropped rest) (take (left - length (take taken bridge)) (drop dropped rest))
          (drop (left - length (take taken bridge)) (drop dropped rest))),
    );
    kept_apart = record {
      leave = λ a b held held'. meets'.apart.leave a b held (contains-drop left onward b (subst (λ (ls : List Link). Contains ls b) (sym behind) held'));
      end = meets'.apart.end;
    };
    middle_apart = record {
      leave = λ a b held held'. meets.apart.leave a b (contains-drop left (take taken bridge) a held)
          (contains-drop dropped rest b (contains-drop (left - length (take taken bridge)) (drop dropped rest) b held'));
      end = λ a held. meets.apart.end a (contains-drop left (take taken bridge) a held);
    };
  }

  pub repaired : (cost : ℕ) (turns : List Corner) → cost ≡ cost_of (priced mesh repair.path.filter) links
      → IsTaut repair.path.from (portals_of links) repair.path.goal turns
      → IsRepaired mesh repair first cost links turns kept (taken - left)
  repaired cost turns costs taut =
      let whole = subst (λ (ls : List Link). AllowedTo mesh repair.path.filter.areas first ls last) links-are allowed-all in
      let first-cut = split mesh repair.path.filter.areas first (take kept part)
      (drop left (take taken bridge) ++ drop (left - length (take taken bridge)) (drop dropped rest)) last whole in
      let second-cut = split mesh repair.path.filter.areas first-cut.at (drop left (take taken bridge))
      (drop (left - length (take taken bridge)) (drop dropped rest)) last first-cut.back in
      record {
        part = part;
        middle = bridge;
        rest = rest;
        last = last;
        parts = parts;
        kept_links = take kept part;
        bridge_links = drop left (take taken bridge);
        joined_links = drop (left - length (take taken bridge)) (drop dropped rest);
        unlooped = unlooped;
        is = links-are;
        kept_is = omega (arith, length-take kept part, meets'.within);
        bridge_is = omega (arith, length-drop left (take taken bridge), length-take taken bridge, meets.within);
        u = first-cut.at;
        v = second-cut.at;
        cheapest = piece-cheapest mesh repair.path.filter parts.at parts.to bridge unlooped.piece.0 (drop left (take taken bridge)) unlooped.piece.1
            first-cut.at second-cut.at unlooped.piece.2 parts.cheapest second-cut.front;
        allowed = allowed-all;
        goal = goal-held;
        costs = costs;
        taut = taut;
      }
