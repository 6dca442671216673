-- When the ground of kinds changes: all are at rest then, and each is changed; else each is as it was.
use Rattle.std.proofs.Common.{◌≡◌, ℕ, ◌≤◌, Bool, true, false, List, [], ◌∷◌, length, get_or, map, Option, Some, None, refl, ap, ◌∙◌, sym, arith}
use Rattle.std.specs.Prelude.{All, ◌==◌, if◌then◌else◌}
use Rattle.std.specs.List.{AllZip}
use Rattle.std.proofs.lemmas.Bool.{eqb-true}
use Rattle.std.proofs.lemmas.List.Elements.{All-tail}
use Rattle.nav_ground.specs.declared.cell.Window.{Window}
use Rattle.nav_ground.specs.declared.field.Field.{Field}
use Rattle.build_queue.specs.BookState.{BookState, least_awaited}
use Rattle.build_queue.specs.GroundSteps.{IsAtRest}
use Rattle.agent_kinds.specs.declared.publish.KindsPublished.{KindsPublished}
use Rattle.agent_kinds.specs.declared.publish.KindsPublished.TheVariants.{New, Same}
use Rattle.agent_kinds.specs.Firsts.{first_awaited}
use Rattle.agent_kinds.specs.KindGrounds.{AreSameBeyond, IsChangedTo, after_change, changed_unless, over_field}
use Rattle.agent_kinds.specs.Kinds.{AreKinds}
use Rattle.agent_kinds.specs.KindSteps.{publication_by}
use Rattle.agent_kinds.proofs.Places.{found_in_none}

-- the target is published, and no tile is awaited
record IsShownLength (found : Option (ℕ × ℕ)) (state : BookState) : Type 0 where
  pub none : found ≡ None
  pub same : (state.target == state.published) ≡ true

shown_length : (found : Option (ℕ × ℕ)) (state : BookState) (k : ℕ) → publication_by found state ≡ Same k → IsShownLength found state
shown_length (Some awaited) state k is = absurd cc
shown_length None state k is = by_test (state.target == state.published) refl is
  where
    by_test : (b : Bool) → (state.target == state.published) ≡ b → (if b then Same state.published else New state.target) ≡ Same k → IsShownLength None state
    by_test true is' here = record { none = refl; same = is' }
    by_test false is' other = absurd cc

-- a kind after a change, once no tile is awaited
abbrev changed_one : Field → BookState → BookState
changed_one field state = if state.target == state.published then over_field field state else state

each_changed : (field : Field) (states : List BookState) → All (λ (state : BookState). (state.target == state.published) ≡ true) states
    → map (changed_one field) states ≡ map (over_field field) states
each_changed field [] same = refl
each_changed field (state ∷ more) same =
    let first : changed_one field state ≡ over_field field state = ap (λ (b : Bool). if b then over_field field state else state) (same 0 state (omega arith)) in
    let rest : map (changed_one field) more ≡ map (over_field field) more =
    each_changed field more (All-tail (λ (s : BookState). (s.target == s.published) ≡ true) state more same) in
    λ i. first i ∷ rest i

none_changed : (field : Field) (states : List BookState) → All (λ (state : BookState). (state.target == state.published) ≡ false) states
    → map (changed_one field) states ≡ states
none_changed field [] apart = refl
none_changed field (state ∷ more) apart =
    let first : changed_one field state ≡ state = ap (λ (b : Bool). if b then over_field field state else state) (apart 0 state (omega arith)) in
    let rest : map (changed_one field) more ≡ more =
    none_changed field more (All-tail (λ (s : BookState). (s.target == s.published) ≡ false) state more apart) in
    λ i. first i ∷ rest i

-- where a publish is answered that the target is published, all are at rest, and the ground of each changes
pub record AreResting (field : Field) (states : List BookState) : Type 0 where
  pub rest : All IsAtRest states
  pub all : after_change field states ≡ map (over_field field) states

pub same_to_all : (field : Field) (states : List BookState) (answer : KindsPublished) (k : ℕ) → AreKinds states
    → All (λ (state : BookState). answer ≡ publication_by (first_awaited states) state) states → answer ≡ Same k → AreResting field states
same_to_all field states answer k kinds told is =
    let each : All (IsShownLength (first_awaited states)) states =
    λ i d there. shown_length (first_awaited states) (get_or states i d) k (sym (told i d there) ∙ is) in
    by_first states kinds.some each
  where
    by_first : (list : List BookState) → 1 ≤ length list → All (IsShownLength (first_awaited states)) list → AreResting field states
    by_first [] some each = absurd (omega (arith, some))
    by_first (first ∷ more) some each =
        let nothing : first_awaited states ≡ None = (each 0 first (omega arith)).none in
        let none = found_in_none least_awaited 0 states nothing in
        let same : All (λ (state : BookState). (state.target == state.published) ≡ true) states =
        λ i d there. (shown_length (first_awaited states) (get_or states i d) k (sym (told i d there) ∙ is)).same in
        record {
          rest = λ i d there. record {
            built = none i d there;
            shown = eqb-true (get_or states i d).target (get_or states i d).published (same i d there);
          };
          all = ap (λ (found : Option (ℕ × ℕ)). changed_unless found field states) nothing ∙ each_changed field states same;
        }

-- where it is answered otherwise, nothing changes
not_same : (state : BookState) (answer : KindsPublished) → answer ≡ publication_by None state → ((k : ℕ) → answer ≡ Same k → ⊥)
    → (state.target == state.published) ≡ false
not_same state answer told never = by_test (state.target == state.published) refl
  where
    by_test : (b : Bool) → (state.target == state.published) ≡ b → (state.target == state.published) ≡ false
    by_test true is = absurd (never state.published (told ∙ ap (λ (c : Bool). if c then Same state.published else New state.target) is))
    by_test false is = is

pub unchanged_ground : (field : Field) (states : List BookState) (answer : KindsPublished)
    → All (λ (state : BookState). answer ≡ publication_by (first_awaited states) state) states → ((k : ℕ) → answer ≡ Same k → ⊥)
    → after_change field states ≡ states
unchanged_ground field states answer told never = by_found (first_awaited states) refl
  where
    by_found : (found : Option (ℕ × ℕ)) → first_awaited states ≡ found → changed_unless (first_awaited states) field states ≡ states
    by_found (Some awaited) is = ap (λ (o : Option (ℕ × ℕ)). changed_unless o field states) is
    by_found None is =
        ap (λ (o : Option (ℕ × ℕ)). changed_unless o field states) is
        ∙ none_changed field states (λ i d there.
        not_same (get_or states i d) answer (told i d there ∙ ap (λ (o : Option (ℕ × ℕ)). publication_by o (get_or states i d)) is) never)

-- kinds that are all changed
pub changed_all : (window : Window) (field : Field) (before after : List BookState) → AllZip (IsChangedTo window field) before after
    → after ≡ map (over_field field) before
changed_all window field [] [] zip = refl
changed_all window field [] (b ∷ bs) zip = absurd zip
changed_all window field (a ∷ as') [] zip = absurd zip
changed_all window field (a ∷ as') (b ∷ bs) zip = λ i. zip.0.state i ∷ changed_all window field as' bs zip.1 i

-- they differ in the tiles in reach at most
pub differ_all : (window : Window) (field : Field) (before after : List BookState) → AllZip (IsChangedTo window field) before after
    → AllZip (AreSameBeyond window) before after
differ_all window field [] [] zip = tt
differ_all window field [] (b ∷ bs) zip = absurd zip
differ_all window field (a ∷ as') [] zip = absurd zip
differ_all window field (a ∷ as') (b ∷ bs) zip = (zip.0.differ, differ_all window field as' bs zip.1)

-- and so do kinds that stay
pub same_beyond : (window : Window) (states : List BookState) → AllZip (AreSameBeyond window) states states
same_beyond window [] = tt
same_beyond window (state ∷ more) = (record { one = refl; others = λ t beyond. refl; between = λ link one other held. held }, same_beyond window more)
