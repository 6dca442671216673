-- Grounds that come for kinds: they are made one after another, and shown one after another, the last one first.
use Rattle.std.proofs.Common.{◌≡◌, ℕ, ◌+◌, ◌<◌, ◌≤◌, false, List, [], ◌∷◌, ◌++◌, length, get_or, map, Result, Ok, Err, set, ap, ◌∙◌, refl, sym, subst, arith, inl, inr}
use Rattle.std.specs.Prelude.{All, Contains, IfOk, slice_get}
use Rattle.std.specs.List.{range_with_len}
use Rattle.std.specs.Arc.{arc_value}
use Rattle.std.proofs.lemmas.Bool.{cases_lt}
use Rattle.std.proofs.lemmas.List.{get_or_append_left, get_or_default, get_or_push, length_push}
use Rattle.std.proofs.lemmas.List.Elements.{All-filter}
use Rattle.std.proofs.lemmas.List.FromFn.{get_or-range_with_len, length-range_with_len}
use Rattle.nav_ground.specs.declared.cell.Window.{Window}
use Rattle.nav_ground.specs.declared.field.Field.{Field}
use Rattle.nav_ground.specs.declared.history.Ground.{Ground}
use Rattle.nav_ground.specs.declared.setting.Setting.{Setting}
use Rattle.nav_ground.specs.Grounds.{IsGround}
use Rattle.nav_ground.specs.Tiling.{tile_count}
use Rattle.corridor_search.specs.Changes.{DifferIn}
use Rattle.build_queue.specs.BookState.{BookState}
use Rattle.build_queue.specs.GroundSteps.{IsAtRest, IsGroundBut, IsGroundStep, after_ground}
use Rattle.live_ground.specs.Changes.{is_in_reach, reached_tiles}
use Rattle.live_ground.proofs.Reached.{unnamed_unreached}
use Rattle.nav_book.specs.declared.next_ground.NextGround.{NextGround}
use Rattle.nav_book.specs.GroundChanges.{IsNextGround}
use Rattle.nav_book.specs.LevelResults.{published_mesh}
use Rattle.nav_book.specs.Openings.{ground_of}
use Rattle.agent_kinds.specs.KindGrounds.{AreNextGrounds, IsChangedTo, IsNextOver, over_field}
use Rattle.agent_kinds.specs.Kinds.{AreKinds}
use Rattle.agent_kinds.proofs.AtOne.{CommonState}
use Rattle.agent_kinds.proofs.Downwards.{HaveTurnedFrom, last_is, one_more_from}
use Rattle.agent_kinds.proofs.Turns.{HaveAllTurned, IsStepBy, mapped, still_kinds}

-- the ground of a changed field has other layers in the tiles in reach at most
pub ground_but : (state : BookState) (window : Window) (field : Field) (reached : List ℕ) (ground : Ground) → reached ≡ reached_tiles state.ground.setting window
    → ground ≡ ground_of state.ground.setting field → IsGround ground
    → ((tile : ℕ) → tile < tile_count state.ground.setting → is_in_reach state.ground.setting window tile ≡ false
    → slice_get ground.layers tile ≡ slice_get state.ground.layers tile)
    → IsGroundBut reached state.ground ground
ground_but state window field reached ground are is rules unreached =
    let setting : Setting = state.ground.setting in
    let count : ℕ = tile_count setting in
    record {
      ground = record { rules = rules; setting = ap (λ (g : Ground). g.setting) is };
      there = subst (All (λ (tile : ℕ). tile < tile_count state.ground.setting)) (sym are)
          (All-filter (is_in_reach setting window) (λ (tile : ℕ). tile < tile_count state.ground.setting) (range_with_len 0 count)
          (λ i d within.
          let below : i < count = omega (arith, within, length-range_with_len 0 count) in
          omega (arith, below, get_or-range_with_len 0 count i d below)));
      others = λ tile there unnamed.
          unreached tile there
          (unnamed_unreached setting window tile there (λ held. unnamed (subst (λ (list : List ℕ). Contains list tile) (sym are) held)));
    }

-- the tiles in reach of the rectangle, and the ground of the changed field
pub record IsGroundOver (state : BookState) (window : Window) (field : Field) (reached : List ℕ) (ground : Ground) : Type 0 where
  pub reach : reached ≡ reached_tiles state.ground.setting window
  pub own : ground ≡ ground_of state.ground.setting field
  pub but : IsGroundBut reached state.ground ground

-- once they are made from the ground that stands
pub ground_over : (state : BookState) (window : Window) (field : Field) (reached : List ℕ) (old made ground : Ground) → old ≡ state.ground
    → reached ≡ reached_tiles old.setting window → made ≡ ground_of old.setting field → IsGround made
    → ((tile : ℕ) → tile < tile_count old.setting → is_in_reach old.setting window tile ≡ false → slice_get made.layers tile ≡ slice_get old.layers tile)
    → ground ≡ made → IsGroundOver state window field reached ground
ground_over state window field reached old made ground here are is rules unreached same =
    let named : reached ≡ reached_tiles state.ground.setting window = are ∙ ap (λ (g : Ground). reached_tiles g.setting window) here in
    let fresh : ground ≡ ground_of state.ground.setting field = same ∙ is ∙ ap (λ (g : Ground). ground_of g.setting field) here in
    record {
      reach = named;
      own = fresh;
      but = ground_but state window field reached ground named fresh (subst IsGround (sym same) rules) (λ tile there beyond.
          ap (λ (g : Ground). slice_get g.layers tile) same
          ∙ unreached tile (subst (λ (g : Ground). tile < tile_count g.setting) (sym here) there)
          (ap (λ (g : Ground). is_in_reach g.setting window tile) here ∙ beyond)
          ∙ ap (λ (g : Ground). slice_get g.layers tile) here);
    }

-- what comes for a level
pub next_over : (state : BookState) (window : Window) (field : Field) (reached : List ℕ) (ground : Ground) (next : NextGround)
    → reached ≡ reached_tiles state.ground.setting window → ground ≡ ground_of state.ground.setting field → IsNextGround state ground next
    → DifferIn reached (published_mesh state) next.mesh → IsNextOver window field state next
next_over state window field reached ground next are is comes differ = record {
  own = comes.own ∙ is;
  is = subst (λ (g : Ground). IsNextGround state g next) is comes;
  differ = subst (λ (list : List ℕ). DifferIn list (published_mesh state) next.mesh) are differ;
}

-- the same, where memory may be refused
pub next_if : {E : Type 0} (state : BookState) (window : Window) (field : Field) (reached : List ℕ) (ground : Ground) (made : Result NextGround E)
    → IsGroundOver state window field reached ground → IfOk made (IsNextGround state ground)
    → IfOk made (λ (next : NextGround). DifferIn reached (published_mesh state) next.mesh) → IfOk made (IsNextOver window field state)
next_if state window field reached ground (Ok next) over comes differ = next_over state window field reached ground next over.reach over.own comes differ
next_if state window field reached ground (Err refused) over comes differ = tt

module _ (window : Window) (field : Field) (states : List BookState) where
  -- the grounds that are at hand are those of the first levels
  pub record AreFirstGrounds (nexts : List NextGround) : Type 0 where
    pub few : length nexts ≤ length states
    pub next : (kind : ℕ) (d : BookState) (e : NextGround) → kind < length nexts → IsNextOver window field (get_or states kind d) (get_or nexts kind e)

  pub none_first : (nexts : List NextGround) → nexts ≡ [] → AreFirstGrounds nexts
  none_first nexts is =
      let none : length nexts ≡ 0 = ap length is in
      record { few = omega (arith, none); next = λ kind d e there. absurd (omega (arith, there, none)) }

  -- one more is made
  pub more_first : (nexts after : List NextGround) (next : NextGround) → AreFirstGrounds nexts → length nexts < length states
      → ((d : BookState) → IsNextOver window field (get_or states (length nexts) d) next) → after ≡ nexts ++ next ∷ [] → AreFirstGrounds after
  more_first nexts after next first there comes is =
      let many : length after ≡ length nexts + 1 = ap length is ∙ length_push nexts next in
      record {
        few = omega (arith, many, there);
        next = λ kind d e within. elim (cases_lt kind (length nexts)) [
          | inl before ↦
              subst (IsNextOver window field (get_or states kind d))
              (sym (ap (λ (list : List NextGround). get_or list kind e) is ∙ get_or_append_left nexts (next ∷ []) e kind before)) (first.next kind d e before)
          | inr other ↦
              let last : kind ≡ length nexts = omega (arith, within, many, other) in
              subst (IsNextOver window field (get_or states kind d))
              (sym (ap (λ (list : List NextGround). get_or list kind e) is ∙ get_or_push nexts next e kind (sym last)))
              (subst (λ (n : ℕ). IsNextOver window field (get_or states n d) next) (sym last) (comes d))
        ];
      }

  -- of the level whose turn it is
  pub one_first : (nexts after : List NextGround) (next : NextGround) (i : ℕ) (d state : BookState) → AreFirstGrounds nexts → length nexts ≡ i
      → i < length states → state ≡ get_or states i d → IsNextOver window field state next → after ≡ nexts ++ next ∷ [] → AreFirstGrounds after
  one_first nexts after next i d state first many there is comes made =
      more_first nexts after next first (omega (arith, many, there)) (λ e.
      subst (λ (n : ℕ). IsNextOver window field (get_or states n e) next) (sym many)
      (subst (λ (s : BookState). IsNextOver window field s next) (is ∙ get_or_default states i d e there) comes)) made

  pub all_first : (nexts : List NextGround) → AreFirstGrounds nexts → length nexts ≡ length states → AreNextGrounds window field states nexts
  all_first nexts first each = record { each = each; next = λ kind d e there. first.next kind d e (omega (arith, there, each)) }

  pub from_all : (nexts : List NextGround) → AreNextGrounds window field states nexts → AreFirstGrounds nexts
  from_all nexts all = record { few = omega (arith, all.each); next = λ kind d e there. all.next kind d e (omega (arith, there, all.each)) }

  -- the last of them, and those before it
  pub record IsLastGround (rest : List NextGround) (next : NextGround) : Type 0 where
    pub left : AreFirstGrounds rest
    pub there : length rest < length states
    pub its : (d : BookState) → IsNextOver window field (get_or states (length rest) d) next

  pub last_ground : (nexts rest : List NextGround) (next : NextGround) → AreFirstGrounds nexts → nexts ≡ rest ++ next ∷ [] → IsLastGround rest next
  last_ground nexts rest next first is =
      let many : length nexts ≡ length rest + 1 = ap length is ∙ length_push rest next in
      record {
        left = record {
          few = omega (arith, many, first.few);
          next = λ kind d e within.
              subst (IsNextOver window field (get_or states kind d))
              (ap (λ (list : List NextGround). get_or list kind e) is ∙ get_or_append_left rest (next ∷ []) e kind within)
              (first.next kind d e (omega (arith, within, many)));
        };
        there = omega (arith, many, first.few);
        its = λ d.
            subst (IsNextOver window field (get_or states (length rest) d))
            (ap (λ (list : List NextGround). get_or list (length rest) next) is ∙ get_or_push rest next next (length rest) refl)
            (first.next (length rest) d next (omega (arith, many)));
      }

  -- a level that shows what comes for it is changed
  pub changed_to : (state old new : BookState) (next : NextGround) → IsNextOver window field state next → old ≡ state → IsGroundStep old new (arc_value next.ground)
      → IsChangedTo window field state new
  changed_to state old new next comes same did =
      let is : new ≡ over_field field state = did.state ∙ (λ i. after_ground (same i) (comes.own i)) in
      record {
        state = is;
        rules = did.rules;
        differ = subst (DifferIn (reached_tiles state.ground.setting window) (published_mesh state)) (comes.is.mesh ∙ ap published_mesh (sym is)) comes.differ;
      }

  -- one ground more is shown
  pub ground_next : (now : List BookState) (nexts rest : List NextGround) (next : NextGround) (kind : ℕ) (e new : BookState) → AreFirstGrounds nexts
      → HaveTurnedFrom (IsChangedTo window field) (length nexts) states now → nexts ≡ rest ++ next ∷ [] → kind ≡ length rest
      → IsGroundStep (get_or now kind e) new (arc_value next.ground)
      → HaveTurnedFrom (IsChangedTo window field) (length rest) states (set now kind new)
  ground_next now nexts rest next kind e new first have is here step =
      let many : length nexts ≡ length rest + 1 = ap length is ∙ length_push rest next in
      let last = last_ground nexts rest next first is in
      let more : HaveTurnedFrom (IsChangedTo window field) (kind + 1) states now =
      subst (λ (n : ℕ). HaveTurnedFrom (IsChangedTo window field) n states now) (many ∙ ap (λ (n : ℕ). n + 1) (sym here)) have in
      let stands : get_or now kind e ≡ get_or states kind e = last_is (IsChangedTo window field) kind states now more e in
      let comes : IsNextOver window field (get_or states kind e) next = subst (λ (n : ℕ). IsNextOver window field (get_or states n e) next) (sym here) (last.its e) in
      let turn : IsChangedTo window field (get_or now kind e) new =
      subst (λ (s : BookState). IsChangedTo window field s new) (sym stands) (changed_to (get_or states kind e) (get_or now kind e) new next comes stands step) in
      subst (λ (n : ℕ). HaveTurnedFrom (IsChangedTo window field) n states (set now kind new)) here
      (one_more_from (IsChangedTo window field) kind states now more e new (omega (arith, here, last.there, have.as_many)) turn)

  -- the level for which a ground comes next is as it was
  pub record IsReadyToShow (now : List BookState) (next : NextGround) (kind : ℕ) (e : BookState) : Type 0 where
    pub still : IsAtRest (get_or now kind e)
    pub fits : IsNextGround (get_or now kind e) (arc_value next.ground) next

  pub ready : (now : List BookState) (nexts rest : List NextGround) (next : NextGround) (kind : ℕ) (e : BookState) → All IsAtRest states → AreFirstGrounds nexts
      → HaveTurnedFrom (IsChangedTo window field) (length nexts) states now → nexts ≡ rest ++ next ∷ [] → kind ≡ length rest → IsReadyToShow now next kind e
  ready now nexts rest next kind e resting first have is here =
      let many : length nexts ≡ length rest + 1 = ap length is ∙ length_push rest next in
      let last = last_ground nexts rest next first is in
      let stands : get_or now kind e ≡ get_or states kind e = have.rest kind e (omega (arith, here, many)) in
      let its : IsNextOver window field (get_or states kind e) next =
      subst (λ (n : ℕ). IsNextOver window field (get_or states n e) next) (sym here) (last.its e) in
      record {
        still = subst IsAtRest (sym stands) (resting kind e (omega (arith, here, last.there)));
        fits = subst (λ (s : BookState). IsNextGround s (arc_value next.ground) next) (sym stands)
            (subst (λ (g : Ground). IsNextGround (get_or states kind e) g next) (sym its.own) its.is);
      }

  -- once all are shown
  abbrev steps_by : (now : List BookState) → HaveAllTurned (IsChangedTo window field) states now → HaveAllTurned (IsStepBy (over_field field)) states now
  steps_by now have = record {
    as_many = have.as_many;
    each = λ k d there. record { state = (have.each k d there).state; rules = (have.each k d there).rules };
  }

  pub changed_map : (now : List BookState) → HaveAllTurned (IsChangedTo window field) states now → now ≡ map (over_field field) states
  changed_map now have = mapped (over_field field) states now (steps_by now have)

  pub changed_kinds : (now : List BookState) → AreKinds states → HaveAllTurned (IsChangedTo window field) states now → AreKinds now
  changed_kinds now kinds have =
      still_kinds (over_field field) states now (steps_by now have) (λ (common : CommonState). record common { field = field }) kinds (λ state. refl)
