-- What a publish of kinds is answered, and when it changes nothing. Kinds that are settled.
use Rattle.std.proofs.Common.{◌≡◌, ℕ, Bool, true, false, List, [], ◌∷◌, length, get_or, map, Option, Some, None, Result, Ok, Err, refl, ap, ◌∙◌, sym, subst, arith}
use Rattle.std.specs.Prelude.{All, OnErr, ◌==◌, if◌then◌else◌}
use Rattle.std.specs.List.{AllZip}
use Rattle.std.proofs.lemmas.Bool.{eqb-true}
use Rattle.std.proofs.lemmas.List.{get_or-map, length-map}
use Rattle.std.proofs.lemmas.List.Elements.{All-map, All-same, All-tail}
use Rattle.nav_ground.specs.declared.history.Entry.{Entry}
use Rattle.build_queue.specs.BookState.{BookState, IsUnclaimed, least_awaited}
use Rattle.build_queue.specs.Steps.{after_aim, after_publish, after_put_back_all}
use Rattle.build_queue.proofs.BookLaws.{shown_after_publish, unclaimed_by_all}
use Rattle.nav_book.specs.Settling.{after_settle, all_built, settling}
use Rattle.nav_book.proofs.JobLaws.{settled_shows}
use Rattle.nav_book.proofs.Settled.{settled_history}
use Rattle.agent_kinds.specs.declared.publish.KindsPublished.{KindsPublished}
use Rattle.agent_kinds.specs.declared.publish.KindsPublished.TheVariants.{New, Same}
use Rattle.agent_kinds.specs.Firsts.{first_awaited}
use Rattle.agent_kinds.specs.Kinds.{AreKinds}
use Rattle.agent_kinds.specs.KindSteps.{after_publish_all, publication_by, published_unless}
use Rattle.agent_kinds.proofs.Places.{found_in_none}

-- something new is published where no tile is awaited, and it is the target
pub record IsNewLength (found : Option (ℕ × ℕ)) (state : BookState) : Type 0 where
  pub none : found ≡ None
  pub target : publication_by found state ≡ New state.target

pub new_length : (found : Option (ℕ × ℕ)) (state : BookState) (k : ℕ) → publication_by found state ≡ New k → IsNewLength found state
new_length (Some awaited) state k is = absurd cc
new_length None state k is = by_test (state.target == state.published) refl is
  where
    by_test : (b : Bool) → (state.target == state.published) ≡ b → (if b then Same state.published else New state.target) ≡ New k → IsNewLength None state
    by_test true is other = absurd cc
    by_test false is here = record { none = refl; target = ap (λ (c : Bool). if c then Same state.published else New state.target) is }

-- it is the target of each kind, and no tile is awaited in any
pub record IsNewToAll (states : List BookState) : Type 0 where
  pub none : All (λ (state : BookState). least_awaited state ≡ None) states
  pub all : after_publish_all states ≡ map after_publish states
  pub target : All (λ (state : BookState). publication_by (first_awaited states) state ≡ New state.target) states

pub new_to_all : (states : List BookState) (answer : KindsPublished) (k : ℕ) → AreKinds states
    → All (λ (state : BookState). answer ≡ publication_by (first_awaited states) state) states → answer ≡ New k → IsNewToAll states
new_to_all states answer k kinds told new =
    let each : All (IsNewLength (first_awaited states)) states =
    λ i d there. new_length (first_awaited states) (get_or states i d) k (sym (told i d there) ∙ new) in
    by_first states kinds each
  where
    by_first : (list : List BookState) → AreKinds list → All (IsNewLength (first_awaited states)) list → IsNewToAll states
    by_first [] are each = absurd (omega (arith, are.some))
    by_first (first ∷ more) are each =
        let nothing : first_awaited states ≡ None = (each 0 first (omega arith)).none in
        record {
          none = found_in_none least_awaited 0 states nothing;
          all = ap (λ (found : Option (ℕ × ℕ)). published_unless found states) nothing;
          target = λ i d there. (new_length (first_awaited states) (get_or states i d) k (sym (told i d there) ∙ new)).target;
        }

-- a publish of what is published changes nothing
same_publish : (state : BookState) → least_awaited state ≡ None → (state.target == state.published) ≡ true → after_publish state ≡ state
same_publish state none same = λ i. record state { published = (shown_after_publish state none ∙ eqb-true state.target state.published same) i }

not_new : (state : BookState) (answer : KindsPublished) → answer ≡ publication_by None state → ((k : ℕ) → answer ≡ New k → ⊥)
    → (state.target == state.published) ≡ true
not_new state answer told never = by_test (state.target == state.published) refl
  where
    by_test : (b : Bool) → (state.target == state.published) ≡ b → (state.target == state.published) ≡ true
    by_test true is = is
    by_test false is = absurd (never state.target (told ∙ ap (λ (c : Bool). if c then Same state.published else New state.target) is))

same_all : (states : List BookState) (answer : KindsPublished) → All (λ (state : BookState). least_awaited state ≡ None) states
    → All (λ (state : BookState). answer ≡ publication_by None state) states → ((k : ℕ) → answer ≡ New k → ⊥) → map after_publish states ≡ states
same_all [] answer none told never = refl
same_all (state ∷ more) answer none told never =
    let first : after_publish state ≡ state = same_publish state (none 0 state (omega arith)) (not_new state answer (told 0 state (omega arith)) never) in
    let rest : map after_publish more ≡ more =
    same_all more answer (All-tail (λ (s : BookState). least_awaited s ≡ None) state more none)
    (All-tail (λ (s : BookState). answer ≡ publication_by None s) state more told) never in
    λ i. first i ∷ rest i

-- nothing changes where nothing new is published
pub unchanged_publish : (states : List BookState) (answer : KindsPublished)
    → All (λ (state : BookState). answer ≡ publication_by (first_awaited states) state) states → ((k : ℕ) → answer ≡ New k → ⊥)
    → after_publish_all states ≡ states
unchanged_publish states answer told never = by_found (first_awaited states) refl
  where
    by_found : (found : Option (ℕ × ℕ)) → first_awaited states ≡ found → published_unless (first_awaited states) states ≡ states
    by_found (Some awaited) is = ap (λ (o : Option (ℕ × ℕ)). published_unless o states) is
    by_found None is =
        ap (λ (o : Option (ℕ × ℕ)). published_unless o states) is
        ∙ same_all states answer (found_in_none least_awaited 0 states is)
        (λ i d there. told i d there ∙ ap (λ (o : Option (ℕ × ℕ)). publication_by o (get_or states i d)) is) never

-- one step of each after another
pub map_twice : (f g : BookState → BookState) (states : List BookState) → map g (map f states) ≡ map (λ (state : BookState). g (f state)) states
map_twice f g [] = refl
map_twice f g (state ∷ more) = ap (λ (rest : List BookState). g (f state) ∷ rest) (map_twice f g more)

pub map_same : {X : Type 0} (told : BookState → X) (f : BookState → BookState) → ((state : BookState) → told (f state) ≡ told state) → (states : List BookState)
    → map told (map f states) ≡ map told states
map_same told f same [] = refl
map_same told f same (state ∷ more) = λ i. same state i ∷ map_same told f same more i

pub map_zipped : {X : Type 0} (told : BookState → X) (R : BookState → BookState → Type 0) → ((a b : BookState) → R a b → told b ≡ told a)
    → (before after : List BookState) → AllZip R before after → map told after ≡ map told before
map_zipped told R same [] [] zip = refl
map_zipped told R same [] (b ∷ bs) zip = absurd zip
map_zipped told R same (a ∷ as') [] zip = absurd zip
map_zipped told R same (a ∷ as') (b ∷ bs) zip = λ i. same a b zip.0 i ∷ map_zipped told R same as' bs zip.1 i

-- levels before they are settled: with no job, and the whole history as target
pub settling_all : (old back aimed : List BookState) → back ≡ map after_put_back_all old → aimed ≡ map after_aim back → aimed ≡ map settling old
settling_all old back aimed first second = second ∙ ap (map after_aim) first ∙ map_twice after_put_back_all after_aim old

pub all_free : (old aimed : List BookState) → aimed ≡ map settling old → All IsUnclaimed aimed
all_free old aimed is = All-same IsUnclaimed aimed (map settling old) is (All-map IsUnclaimed settling old (λ k d there.
    record { at = (unclaimed_by_all (get_or old k d)).at }))

-- and once they are
pub settled_all : (old aimed built new : List BookState) → aimed ≡ map settling old → built ≡ map all_built aimed → new ≡ map after_publish built
    → new ≡ map after_settle old
settled_all old aimed built new first second third =
    third ∙ ap (map after_publish) (second ∙ ap (map all_built) first ∙ map_twice settling all_built old)
    ∙ map_twice (λ state. all_built (settling state)) after_publish old

pub all_settled : (old aimed built new : List BookState) → aimed ≡ map settling old → built ≡ map all_built aimed
    → All (λ (state : BookState). least_awaited state ≡ None) built → new ≡ map after_settle old
    → All (λ (state : BookState). state.published ≡ length state.history) new
all_settled old aimed built new first second none is =
    let ready : BookState → BookState = λ state. all_built (settling state) in
    let is_built : built ≡ map ready old = second ∙ ap (map all_built) first ∙ map_twice settling all_built old in
    let none_there : All (λ (state : BookState). least_awaited state ≡ None) (map ready old) =
    All-same (λ (state : BookState). least_awaited state ≡ None) (map ready old) built (sym is_built) none in
    All-same (λ (state : BookState). state.published ≡ length state.history) new (map after_settle old) is
    (All-map (λ (state : BookState). state.published ≡ length state.history) after_settle old (λ k d there.
    let many : length (map ready old) ≡ length old = length-map old ready in
    let nothing : least_awaited (ready (get_or old k d)) ≡ None =
    subst (λ (s : BookState). least_awaited s ≡ None) (get_or-map ready old k d d there) (none_there k d (omega (arith, many, there))) in
    settled_shows (get_or old k d) nothing ∙ sym (ap (λ (h : List Entry). length h) (settled_history (get_or old k d)))))

-- the length that is told of levels without jobs is that of these levels
pub length_told : (k : ℕ) (old back : List BookState) → back ≡ map after_put_back_all old → All (λ (state : BookState). k ≡ length state.history) back
    → All (λ (state : BookState). k ≡ length state.history) old
length_told k old back is told = λ i d there.
    let many : length back ≡ length old = ap (λ (list : List BookState). length list) is ∙ length-map old after_put_back_all in
    told i d (omega (arith, many, there)) ∙ ap (λ (list : List BookState). length (get_or list i d).history) is
    ∙ ap (λ (state : BookState). length state.history) (get_or-map after_put_back_all old i d d there)

-- what holds in any case, on a refusal
pub on_refusal : {T E P : Type 0} (r : Result T E) → P → OnErr r P
on_refusal (Ok value) p = tt
on_refusal (Err refused) p = p
