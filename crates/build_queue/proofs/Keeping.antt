-- What the fields of a queue tell of the state that it is seen as.
use Rattle.std.proofs.Common.{◌≡◌, ◌≢◌, ℕ, ◌+◌, ◌<◌, Bool, true, false, not, ◌&&◌, List, [], length, get_or, replicate, Option, None, Some, Result, Ok, Err, true≢false, ap, sym, ◌∙◌, refl, subst, ⊎_elim, arith}
use Rattle.std.specs.Prelude.{◌≤◌, vec_capacity, All, IsErr, if◌then◌else◌, slice_set, option_map}
use Rattle.std.specs.Option.{option_map_or}
use Rattle.std.proofs.lemmas.Bool.{cases_eq, eq-eqb, ne_eqb}
use Rattle.std.proofs.lemmas.List.{get_or-replicate, get_or-set_same, get_or-set_other, length-replicate}
use Rattle.std.proofs.lemmas.List.Elements.{All-filter}
use Rattle.std.specs.Arc.{arc_value}
use Rattle.nav_ground.specs.declared.history.Request.{Request}
use Rattle.nav_ground.specs.declared.setting.Setting.{Setting}
use Rattle.nav_ground.specs.declared.shape.Shape.{Shape}
use Rattle.nav_ground.specs.History.{history_limit}
use Rattle.nav_ground.specs.Grounds.{IsGround}
use Rattle.nav_ground.specs.Limits.{IsShape}
use Rattle.nav_ground.specs.Tiling.{tile_count}
use Rattle.nav_ground.specs.Touching.{is_touching, touching_shapes}
use Rattle.build_queue.specs.declared.queue.BuildQueue.TheInside.{Inside}
use Rattle.build_queue.specs.declared.live.Job.{Job}
use Rattle.build_queue.specs.declared.live.Published.TheVariants.{New, Same}
use Rattle.build_queue.specs.Awaiting.{awaits}
use Rattle.build_queue.specs.BookState.{BookState, IsBook, is_awaited, is_claimable, least_awaited, least_claimable, wanted_at}
use Rattle.build_queue.specs.Flags.{flag_of, least_below}
use Rattle.build_queue.specs.LiveTable.{shapes_in}
use Rattle.build_queue.specs.Representation.{state_of, IsKept}
use Rattle.build_queue.specs.SameShapes.{are_same}
use Rattle.build_queue.specs.StepContracts.{IsClaimStep}
use Rattle.build_queue.specs.Steps.{IsJob, after_claim, after_request, is_taken, next_job, next_reply, publication, publication_by, request_answer, requested}
use Rattle.build_queue.proofs.Words.{job_of}
use Rattle.build_queue.specs.Waiting.{Waiting, is_ready, least_ready}
use Rattle.build_queue.proofs.FlagLaws.{flag_written, flag_other}
use Rattle.build_queue.proofs.Histories.{alive_limits}
use Rattle.build_queue.proofs.Leasts.{least_below-same, least_passes}

-- the facts that a caller can name
pub is_book : (inside : Inside) → IsKept inside → IsBook (state_of inside)
is_book inside kept = record { level = kept.ground; replied = kept.history; aimed = kept.aims; shown = kept.shows; lists = kept.lists; claims = kept.claims }

-- a flag says whether its tile is awaited
pub awaited_flag : (inside : Inside) (tile : ℕ) → IsKept inside → tile < tile_count (arc_value inside.ground).setting
    → flag_of inside.waiting.awaited tile ≡ is_awaited (state_of inside) tile
awaited_flag inside tile kept there =
    kept.awaited tile there ∙ ap (λ (shapes : List Shape). awaits (arc_value inside.ground).setting shapes tile (get_or inside.stored.items tile [])) kept.shapes

-- so the least flags are the least tiles
pub least_awaited_is : (inside : Inside) → IsKept inside
    → least_below (length inside.waiting.awaited) (flag_of inside.waiting.awaited) ≡ least_awaited (state_of inside)
least_awaited_is inside kept =
    ap (λ count. least_below count (flag_of inside.waiting.awaited)) kept.flags
    ∙ least_below-same (tile_count (arc_value inside.ground).setting) (flag_of inside.waiting.awaited) (is_awaited (state_of inside))
    (λ tile there. awaited_flag inside tile kept there)

pub least_ready_is : (inside : Inside) → IsKept inside → least_ready inside.waiting ≡ least_claimable (state_of inside)
least_ready_is inside kept =
    ap (λ count. least_below count (is_ready inside.waiting)) kept.flags
    ∙ least_below-same (tile_count (arc_value inside.ground).setting) (is_ready inside.waiting) (is_claimable (state_of inside))
    (λ tile there. ap (λ b. b && not (flag_of inside.waiting.claimed tile)) (awaited_flag inside tile kept there))

-- a tile that was looked at again, or not marked
pub looked_at : (setting : Setting) (live aimed : List Shape) (tile : ℕ) (stored : List Shape) (marked was now : Bool)
    → now ≡ (if marked then awaits setting live tile stored else was)
    → (marked ≡ false → touching_shapes setting tile live ≡ touching_shapes setting tile aimed)
    → was ≡ awaits setting aimed tile stored → now ≡ awaits setting live tile stored
looked_at setting live aimed tile stored true was now now_is clean was_is = now_is
looked_at setting live aimed tile stored false was now now_is clean was_is =
    now_is ∙ was_is ∙ ap (λ (list : List Shape). not (are_same stored list)) (sym (clean refl))

-- the shapes at hand at the target are within their limits
pub aimed_limits : (inside : Inside) → IsKept inside → All IsShape inside.aimed.items
aimed_limits inside kept = subst (All IsShape) (sym kept.shapes) (alive_limits inside.entries.items inside.target kept.history.requests)

-- what a publish is answered where no tile is awaited
pub same_answer : (state : BookState) → least_awaited state ≡ None → state.target ≡ state.published → Same state.published ≡ publication state
same_answer state none same =
    sym (ap (λ (least : Option ℕ). publication_by least state.target state.published) none
    ∙ ap (λ (b : Bool). if b then Same state.published else New state.target) (eq-eqb state.target state.published same))

pub new_answer : (state : BookState) → least_awaited state ≡ None → state.target ≢ state.published → New state.target ≡ publication state
new_answer state none apart =
    sym (ap (λ (least : Option ℕ). publication_by least state.target state.published) none
    ∙ ap (λ (b : Bool). if b then Same state.published else New state.target) (ne_eqb state.target state.published apart))

-- a claim where no tile can be claimed, and where one can
pub none_claimed : (state : BookState) → least_claimable state ≡ None → state ≡ after_claim state
none_claimed state none =
    sym (ap (λ (least : Option ℕ). record state { claimed = option_map_or (λ (tile : ℕ). slice_set state.claimed tile true) least state.claimed }) none)

pub one_claimed : (state : BookState) (tile : ℕ) → least_claimable state ≡ Some tile
    → record state { claimed = slice_set state.claimed tile true } ≡ after_claim state
one_claimed state tile found =
    sym (ap (λ (least : Option ℕ). record state { claimed = option_map_or (λ (tile : ℕ). slice_set state.claimed tile true) least state.claimed }) found)

pub no_job : (state : BookState) → least_claimable state ≡ None → None ≡ next_job state
no_job state none = sym (ap (option_map (job_of state)) none)

pub one_job : (inside : Inside) (tile : ℕ) (shapes : List Shape) → IsKept inside → least_claimable (state_of inside) ≡ Some tile
    → shapes ≡ touching_shapes (arc_value inside.ground).setting tile inside.aimed.items
    → Some (record { tile = tile; shapes = shapes }) ≡ next_job (state_of inside)
one_job inside tile shapes kept found is =
    ap (λ (list : List Shape). Some (record { tile = tile; shapes = list })) (is ∙ ap (touching_shapes (arc_value inside.ground).setting tile) kept.shapes)
    ∙ sym (ap (option_map (job_of (state_of inside))) found)

-- a claim for which memory is refused changes nothing
pub refused_claim : {E : Type 0} (state : BookState) (r : Result (Option Job) E) → IsErr r → IsBook state → IsClaimStep state state r
refused_claim state (Ok job) refused rules = absurd (true≢false (sym refused))
refused_claim state (Err error) refused rules = record { job = tt; fit = tt; claimed = tt; refused = refl; rules = rules }

-- a job that was claimed fits its ground
pub job_fits : (inside : Inside) (tile : ℕ) (shapes : List Shape) → IsKept inside → least_claimable (state_of inside) ≡ Some tile
    → shapes ≡ touching_shapes (arc_value inside.ground).setting tile inside.aimed.items
    → IsJob (arc_value inside.ground).setting (record { tile = tile; shapes = shapes })
job_fits inside tile shapes kept found is = record {
  there = (least_passes (tile_count (arc_value inside.ground).setting) tile (is_claimable (state_of inside)) found).0;
  limits = subst (All IsShape) (sym is) (All-filter (is_touching (arc_value inside.ground).setting tile) IsShape inside.aimed.items (aimed_limits inside kept));
}

-- where only claims have changed, all is kept
pub kept_claims : (inside : Inside) (waiting : Waiting) → IsKept inside → waiting.awaited ≡ inside.waiting.awaited
    → length waiting.claimed ≡ length inside.waiting.claimed → IsKept (record inside { waiting = waiting })
kept_claims inside waiting kept same each = record {
  ground = kept.ground;
  history = kept.history;
  room = kept.room;
  table = kept.table;
  few = kept.few;
  live_room = kept.live_room;
  aims = kept.aims;
  shows = kept.shows;
  shapes = kept.shapes;
  aimed_room = kept.aimed_room;
  lists = kept.lists;
  marks = kept.marks;
  flags = ap length same ∙ kept.flags;
  claims = each ∙ kept.claims;
  clean = kept.clean;
  awaited = λ tile there. ap (λ (flags : List Bool). flag_of flags tile) same ∙ kept.awaited tile there;
}

-- over another ground of the same setting all is kept
pub kept_ground : (inside other : Inside) → IsKept inside → IsGround (arc_value other.ground)
    → (arc_value other.ground).setting ≡ (arc_value inside.ground).setting → IsKept (record inside { ground = other.ground })
kept_ground inside other kept rules same = record {
  ground = rules;
  history = rw same kept.history;
  room = kept.room;
  table = kept.table;
  few = rw same kept.few;
  live_room = rw same kept.live_room;
  aims = kept.aims;
  shows = kept.shows;
  shapes = kept.shapes;
  aimed_room = rw same kept.aimed_room;
  lists = rw same kept.lists;
  marks = rw same kept.marks;
  flags = rw same kept.flags;
  claims = rw same kept.claims;
  clean = rw same kept.clean;
  awaited = rw same kept.awaited;
}

-- a list is taken where its tile's flag is set and it has the shapes that touch the tile
pub is_taken_is : (inside : Inside) (tile : ℕ) (shapes : List Shape) (flag same : Bool) → IsKept inside → tile < tile_count (arc_value inside.ground).setting
    → flag_of inside.waiting.awaited tile ≡ flag → are_same shapes (touching_shapes (arc_value inside.ground).setting tile inside.aimed.items) ≡ same
    → is_taken (state_of inside) tile shapes ≡ (flag && same)
is_taken_is inside tile shapes flag same kept there flag_is same_is =
    ap (λ b. b && are_same shapes (wanted_at (state_of inside) tile)) (sym (awaited_flag inside tile kept there) ∙ flag_is)
    ∙ ap (λ b. flag && b)
    (sym (ap (λ (list : List Shape). are_same shapes (touching_shapes (arc_value inside.ground).setting tile list)) kept.shapes) ∙ same_is)

-- and then its tile is awaited no more
pub awaited_after : (inside : Inside) (tile : ℕ) (shapes : List Shape) → IsKept inside → tile < tile_count (arc_value inside.ground).setting
    → are_same shapes (touching_shapes (arc_value inside.ground).setting tile inside.aimed.items) ≡ true
    → (k : ℕ) → k < tile_count (arc_value inside.ground).setting
    → flag_of (slice_set inside.waiting.awaited tile false) k
    ≡ awaits (arc_value inside.ground).setting inside.aimed.items k (get_or (slice_set inside.stored.items tile shapes) k [])
awaited_after inside tile shapes kept there same k within = ⊎_elim
    (λ here.
    ap (flag_of (slice_set inside.waiting.awaited tile false)) here
    ∙ flag_written inside.waiting.awaited tile false (omega (arith, there, kept.flags))
    ∙ sym (ap not same)
    ∙ sym (ap (λ (list : List Shape). awaits (arc_value inside.ground).setting inside.aimed.items tile list) (get_or-set_same inside.stored.items tile shapes [] (omega (arith, there, kept.lists))))
    ∙ sym (ap (λ n. awaits (arc_value inside.ground).setting inside.aimed.items n (get_or (slice_set inside.stored.items tile shapes) n [])) here))
    (λ apart.
    flag_other inside.waiting.awaited tile k false apart ∙ kept.awaited k within
    ∙ sym (ap (λ (list : List Shape). awaits (arc_value inside.ground).setting inside.aimed.items k list) (get_or-set_other inside.stored.items tile k shapes [] apart)))
    (cases_eq k tile)

-- a request where the history is not full
pub room_step : (state : BookState) (lane : ℕ) (request : Request) → length state.history ≢ history_limit
    → (after_request state lane request ≡ requested state lane request) × (Ok (length state.history + 1, next_reply state request) ≡ request_answer state request)
room_step state lane request room =
    let is = ne_eqb (length state.history) history_limit room in (
      sym (ap (λ (b : Bool). if b then state else after_request state lane request) is),
      sym (ap (λ (b : Bool). if b then Err (record { len = length state.history }) else Ok (length state.history + 1, next_reply state request)) is),
    )

-- what is kept at the opening: no entries, nothing alive, and each tile stored without shapes, none marked, awaited or claimed
pub first_kept : (inside : Inside) → IsGround (arc_value inside.ground)
    → (inside.entries.items ≡ []) × (history_limit ≤ vec_capacity inside.entries)
    → (inside.live.items ≡ []) × ((arc_value inside.ground).setting.limit ≤ vec_capacity inside.live)
    → (inside.aimed.items ≡ []) × ((arc_value inside.ground).setting.limit ≤ vec_capacity inside.aimed)
    → inside.target ≡ 0 → inside.published ≡ 0
    → inside.stored.items ≡ replicate (tile_count (arc_value inside.ground).setting) []
    → inside.dirty ≡ replicate (tile_count (arc_value inside.ground).setting) false
    → inside.waiting ≡ record {
      awaited = replicate (tile_count (arc_value inside.ground).setting) false;
      claimed = replicate (tile_count (arc_value inside.ground).setting) false;
    } → IsKept inside
first_kept inside ground entries live aimed target published stored dirty waiting =
    let setting : Setting = (arc_value inside.ground).setting in
    let count : ℕ = tile_count setting in
    let flags : inside.waiting.awaited ≡ replicate count false = ap (λ (w : Waiting). w.awaited) waiting in
    let claims : inside.waiting.claimed ≡ replicate count false = ap (λ (w : Waiting). w.claimed) waiting in
    record {
      ground = ground;
      history = rw entries.0 (record { few = omega arith; requests = λ k d there. absurd (omega (arith, there)); replies = λ k entry found. absurd cc });
      room = entries.1;
      table = rw (entries.0, live.0) (record { numbers = refl; shapes = λ k d there. absurd (omega (arith, there)) });
      few = rw live.0 (omega arith);
      live_room = live.1;
      aims = omega (arith, target);
      shows = omega (arith, published);
      shapes = rw (aimed.0, entries.0, target) refl;
      aimed_room = aimed.1;
      lists = ap length stored ∙ length-replicate count [];
      marks = ap length dirty ∙ length-replicate count false;
      flags = ap length flags ∙ length-replicate count false;
      claims = ap length claims ∙ length-replicate count false;
      clean = λ tile there unmarked. ap (touching_shapes setting tile) (ap shapes_in live.0 ∙ sym aimed.0);
      awaited = λ tile there.
          ap (λ (list : List Bool). flag_of list tile) flags ∙ get_or-replicate count tile false false there
          ∙ sym (ap (λ (shapes : List Shape). awaits setting shapes tile (get_or inside.stored.items tile [])) aimed.0
          ∙ ap (λ (lists : List (List Shape)). awaits setting [] tile (get_or lists tile [])) stored
          ∙ ap (awaits setting [] tile) (get_or-replicate count tile [] [] there));
    }
