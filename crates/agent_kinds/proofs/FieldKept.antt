-- The levels of kinds written anew: they are kinds over the field that is kept.
use Rattle.std.proofs.Common.{◌≡◌, ◌+◌, ◌<◌, List, length, Result, Ok, Err, ap, ◌∙◌, refl, sym, subst}
use Rattle.std.specs.Prelude.{◌↔◌, All, OnErr, OnOk, ⊤}
use Rattle.std.specs.Vec.{with_items}
use Rattle.std.proofs.lemmas.List.{with_items_is}
use Rattle.nav_ground.specs.declared.cell.Window.{Window}
use Rattle.nav_ground.specs.declared.field.Field.{Field}
use Rattle.nav_ground.specs.declared.field.Span.{Span}
use Rattle.build_queue.specs.BookState.{BookState}
use Rattle.live_ground.specs.declared.kept_field.ChangeRefusal.{ChangeRefusal}
use Rattle.live_ground.specs.Changes.{spans_outside}
use Rattle.agent_kinds.specs.declared.kinds.Kinds.TheInside.{Inside}
use Rattle.agent_kinds.specs.KindGrounds.{AreOver, AreTooMany}
use Rattle.agent_kinds.specs.Kinds.{AreKinds}
use Rattle.agent_kinds.specs.Representation.{IsKept}
use Rattle.agent_kinds.proofs.OverField.{of_each, of_field}

-- levels that are kinds over a field stand in the place of the old ones
pub kept_anew : (inside : Inside) (field : Field) (old new : List BookState) → old ≡ inside.levels.items → length new ≡ length old → AreKinds new
    → AreOver field new → AreKinds (with_items inside.levels new).items × AreOver field (with_items inside.levels new).items
kept_anew inside field old new value long kinds over =
    let is : (with_items inside.levels new).items ≡ new = with_items_is inside.levels new (long ∙ ap (λ (list : List BookState). length list) value ∙ sym inside.levels.ok.0) in
    (subst AreKinds (sym is) kinds, subst (AreOver field) (sym is) over)

-- a step that keeps them over their field
pub kept_by : (inside : Inside) (old new : List BookState) (step : List BookState → List BookState) → old ≡ inside.levels.items
    → length new ≡ length old → AreKinds new → new ≡ step old → ((states : List BookState) → AreOver inside.field states → AreOver inside.field (step states))
    → IsKept inside → IsKept (record inside { levels = with_items inside.levels new })
kept_by inside old new step value long kinds state keeps kept =
    let over : AreOver inside.field new = subst (AreOver inside.field) (sym state) (keeps old (subst (AreOver inside.field) (sym value) kept.over)) in
    let anew = kept_anew inside inside.field old new value long kinds over in
    record { kinds = anew.0; over = anew.1 }

-- what is so where an outcome is Ok, and where it is Err, gives what follows from either
pub either_way : {X E : Type 0} (r : Result X E) (A B C : Type 0) → OnOk r A → OnErr r B → (A → C) → (B → C) → C
either_way (Ok x) A B C a b f g = f a
either_way (Err e) A B C a b f g = g b

-- too many spans for the field are too many for that of each kind, and the other way round
abbrev IsOverMany : Window → List Span → Field → Type 0
IsOverMany window spans field = 2000000 < length (spans_outside window field.spans) + length spans

pub many_each : (window : Window) (spans : List Span) (field : Field) (states : List BookState) → AreOver field states → IsOverMany window spans field
    → All (AreTooMany window spans) states
many_each window spans field states over = of_each (IsOverMany window spans) field states over

pub many_field : (window : Window) (spans : List Span) (field : Field) (states : List BookState) → AreKinds states → AreOver field states
    → All (AreTooMany window spans) states → IsOverMany window spans field
many_field window spans field states kinds over = of_field (IsOverMany window spans) field states kinds.some over

-- outcomes that differ
abbrev IsFine : {X E : Type 0} → Result X E → Type 0
IsFine (Ok x) = ⊤
IsFine (Err e) = ⊥

pub ok_not_err : {X E : Type 0} (x : X) (e : E) → Ok x ≡ Err e → ⊥
ok_not_err x e same = subst IsFine same tt

abbrev refusal_or : {X E : Type 0} → E → Result X E → E
refusal_or d (Ok x) = d
refusal_or d (Err e) = e

same_refusal : {X E : Type 0} (one other : Result X E) (a b : E) → one ≡ Err a → other ≡ Err b → one ≡ other → a ≡ b
same_refusal one other a b one_is other_is same = ap (refusal_or a) (sym one_is ∙ same ∙ other_is)

abbrev IsOfMemory : ChangeRefusal → Type 0
IsOfMemory ChangeRefusal.TooManySpans = ⊥
IsOfMemory ChangeRefusal.OutOfMemory = ⊤

pub memory_not_many : {X : Type 0} (told : Result X ChangeRefusal) → told ≡ Err ChangeRefusal.OutOfMemory → told ≡ Err ChangeRefusal.TooManySpans → ⊥
memory_not_many told memory many = subst IsOfMemory (same_refusal told told ChangeRefusal.OutOfMemory ChangeRefusal.TooManySpans memory many refl) tt

-- a refusal is handed on as it is
pub many_told : {X Y : Type 0} (window : Window) (spans : List Span) (field : Field) (states : List BookState) (e : ChangeRefusal)
    (here : Result X ChangeRefusal) (told : Result Y ChangeRefusal) → AreKinds states → AreOver field states → here ≡ Err e → told ≡ Err e
    → (here ≡ Err ChangeRefusal.TooManySpans) ↔ IsOverMany window spans field
    → (told ≡ Err ChangeRefusal.TooManySpans) ↔ All (AreTooMany window spans) states
many_told window spans field states e here told kinds over here_is told_is many = (
  λ is. many_each window spans field states over (many.0 (here_is ∙ ap Err (same_refusal told told e ChangeRefusal.TooManySpans told_is is refl))),
  λ all. told_is ∙ ap Err (same_refusal here here e ChangeRefusal.TooManySpans here_is (many.1 (many_field window spans field states kinds over all)) refl),
)

-- where the changed field was made, there were not too many spans
pub few_told : {X Y : Type 0} (window : Window) (spans : List Span) (field : Field) (states : List BookState) (x : X)
    (here : Result X ChangeRefusal) (told : Result Y ChangeRefusal) → AreKinds states → AreOver field states → here ≡ Ok x
    → (told ≡ Err ChangeRefusal.TooManySpans → ⊥)
    → (here ≡ Err ChangeRefusal.TooManySpans) ↔ IsOverMany window spans field
    → (told ≡ Err ChangeRefusal.TooManySpans) ↔ All (AreTooMany window spans) states
few_told window spans field states x here told kinds over here_is never many = (
  λ is. absurd (never is),
  λ all. absurd (ok_not_err x ChangeRefusal.TooManySpans (sym here_is ∙ many.1 (many_field window spans field states kinds over all))),
)
